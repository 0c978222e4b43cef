use Rattle.std.proofs.Common.{◌≡◌, ◌+◌, ◌*◌, ◌/◌, ◌%◌, ◌++◌, ℕ, List, drop, length, take, arith, ap, sym, ◌∙◌, refl}
use Rattle.sha2.specs.Sha256.{digest_bytes, hash_after, initial_hash_256, padding, sha256}
use Rattle.tor_hashes.proofs.Ends.{final_of_end}
use Rattle.tor_hashes.proofs.message_end.ended_hash.Goals as goal

pub returns : goal.returns
unfolding sha256 hash_after
returns c =
    let m = c.args.message.now in
    let whole : ℕ = length m / 64 in
    let end = c.put_end.new.place in
    let blocks : ℕ = c.end_length.result / 64 in
    let counted : length m % 64 + length (padding (length m)) ≡ blocks * 64 =
    omega (arith, c.end_length.ensures.length, c.end_length.ensures.whole) in
    let begins : take (blocks * 64) end ≡ drop (whole * 64) m ++ padding (length m) =
    ap (λ (n : ℕ). take n end) (sym counted) ∙ c.put_end.ensures.begins
    ∙ ap (λ (rest : List ℕ). rest ++ padding (length m)) c.split_at.ensures.back in
    let none : 0 * c.args.lane ≡ 0 = omega arith in
    let same : drop (0 * c.args.lane) end ≡ end = ap (λ (n : ℕ). drop n end) none in
    let before : List ℕ = hash_after initial_hash_256 m whole in
    c.digest.ensures
    ∙ ap (λ (h : List ℕ). digest_bytes h 8)
    (c.next_blocks-ended.ensures before c.args.lane c.requires.lane c.requires.lane c.requires.hash
    ∙ ap (λ (bytes : List ℕ). hash_after before bytes blocks) same
    ∙ final_of_end initial_hash_256 m end whole blocks refl begins counted)
