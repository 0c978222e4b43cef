use Rattle.tor_bencode.proofs.Names.{◌≡◌, ℕ, List, [], ◌∷◌, ◌++◌, ap, ap₂, ◌∙◌, append_assoc, arith, ints, to_z, of_z}
use Rattle.tor_bencode.proofs.Names.{signed_decimal}
use mir.Syntax.{w64}
use Rattle.tor_bencode.proofs.Numerals.{signed_base_ten-decimal}
use Rattle.tor_bencode.proofs.write.write_integer.Goals as goal

regroup : (a text : List ℕ) → ((a ++ 105 ∷ []) ++ text) ++ 101 ∷ [] ≡ a ++ (105 ∷ (text ++ 101 ∷ []))
regroup a text = simp append_assoc

pub returns : goal.returns
returns c =
    let fits = c.ranges.n in
    let same : to_z w64 (of_z w64 c.args.n) ≡ c.args.n = omega (arith, ints) in
    rw (signed_base_ten-decimal c.args.n c.ranges.n)
    (c.in_ok-push-2.ensures.items ∙ ap (λ bytes. bytes ++ 101 ∷ []) (c.in_ok-extend_from_slice.ensures.items
    ∙ ap₂ ◌++◌ c.in_ok-push.ensures.items (c.as_bytes.ensures.value ∙ c.format.ensures.text ∙ ap signed_decimal same))
    ∙ regroup _ _)
