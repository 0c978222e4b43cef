-- Keys that rise, one key at a time.
use Rattle.tor_bencode.proofs.Names.{◌≡◌, ◌+◌, ◌<◌, ◌↔◌, ℕ, zero, suc, List, [], ◌∷◌, length, get_or, drop, Vec, Global}
use Rattle.tor_bencode.proofs.Names.{Less, sym, ap, subst, ◌∙◌, arith, drop_more, drop_all, nat_cmp, slice_cmp, keys_of}
use Rattle.tor_bencode.proofs.Names.{AreRising, pairs_view, Item}

abbrev pub Pair : Type 0
Pair = Vec ℕ Global × Item

abbrev pub KeysRise : List Pair → Type 0
KeysRise pairs = AreRising (keys_of (pairs_view pairs))

-- from a key on they rise where it comes before the next one, and they rise from that one on
pub KeysRise-from : (pairs : List Pair) (j i : ℕ) (d e : Pair) (first second : List ℕ) → i ≡ j + 1 → i < length pairs
    → first ≡ (get_or pairs j d).0.items → second ≡ (get_or pairs i e).0.items
    → KeysRise (drop j pairs) ↔ ((slice_cmp nat_cmp first second ≡ Less) × KeysRise (drop i pairs))
KeysRise-from pairs j i d e first second is within first_is second_is =
    let next : drop i pairs ≡ get_or pairs i e ∷ drop (i + 1) pairs = drop_more pairs i e within in
    let here : drop j pairs ≡ get_or pairs j d ∷ get_or pairs i e ∷ drop (i + 1) pairs =
    drop_more pairs j d (omega arith) ∙ ap (λ n. get_or pairs j d ∷ drop n pairs) (sym is)
    ∙ ap (λ rest. get_or pairs j d ∷ rest) next in (
      λ h. let rising = subst KeysRise here h in
          (rw (first_is, second_is) rising.0, subst KeysRise (sym next) rising.1),
      λ h. let order = rw (first_is, second_is) at h.0 in subst KeysRise (sym here) (order, subst KeysRise next h.1),
    )

-- the last key alone rises
pub KeysRise-last : (pairs : List Pair) (j : ℕ) → length pairs < j + 2 → KeysRise (drop j pairs)
KeysRise-last [] j h = subst KeysRise (sym (drop_all j [] (omega arith))) tt
KeysRise-last (p ∷ []) zero h = tt
KeysRise-last (p ∷ []) (suc j) h = KeysRise-last [] j (omega arith)
KeysRise-last (p ∷ q ∷ pairs) zero h = absurd (omega arith)
KeysRise-last (p ∷ q ∷ pairs) (suc j) h = KeysRise-last (q ∷ pairs) j (omega arith)
