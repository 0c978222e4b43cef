-- Whatever the hashes are: a file has a root just where it is not empty, and each file has a layer.
use Rattle.std.proofs.Common.{◌≡◌, ◌<◌, ◌≤◌, ◌↔◌, ℕ, suc, true, List, [], ◌∷◌, length, take, drop, refl, ap}
use Rattle.std.proofs.Common.{arith}
use Rattle.std.proofs.Common.{◌*◌, ◌⊎◌, inl, inr, is_some, sym, zero-mul, ◌∙◌}
use Rattle.std.proofs.lemmas.Bool.{cases_lt, le-leb, lt-leb}
use Rattle.std.proofs.lemmas.Grind.{div_ceil_times}
use Rattle.std.proofs.lemmas.List.{length-drop, length-take-le}
use Rattle.std.proofs.lemmas.List.Sums.{sum_by-cons}
use Rattle.std.specs.Int.{div_ceil}
use Rattle.std.specs.List.{AllZip, slice_get}
use Rattle.tor_tree.specs.FileList.{lengths_of}
use Rattle.tor_tree.specs.TidyTree.{HasItsRoot}
use Rattle.tor_parts.specs.Joining.{layers_over, pieces_of_lengths, root_over, roots_over}
use Rattle.tor_merkle.proofs.ProvedLaws.{ceil_is}

module _ (p : ℕ) (pos : 0 < p) where
  short_root : (m : ℕ) (own : List (List ℕ)) → length own ≡ div_ceil m p
      → (is_some (slice_get own 0) ≡ true) ↔ (0 < m)
  short_root m [] counted =
      let bounds = div_ceil_times m p pos in
      let none : div_ceil m p * p ≡ 0 = ap (λ n. n * p) (sym counted) ∙ zero-mul p in
      ((λ no. cc), (λ some. absurd (omega (arith, bounds.0, none, some))))
  short_root m (x ∷ own) counted = ((λ there. some_bytes (cases_lt 0 m)), (λ some. refl))
    where
      some_bytes : (0 < m) ⊎ (m ≤ 0) → 0 < m
      some_bytes (inl some) = some
      some_bytes (inr none) =
          let zero_bytes : m ≡ 0 = omega (arith, none) in
          let none_there = ceil_is 0 p 0 (omega arith) (omega (arith, pos)) in
          absurd (omega (arith, counted, ap (λ n. div_ceil n p) zero_bytes, none_there))

  one_root : (m : ℕ) (own : List (List ℕ)) → length own ≡ div_ceil m p
      → (is_some (root_over p m own) ≡ true) ↔ (0 < m)
  one_root m own counted = elim (cases_lt p m) [
    | inl long ↦ rw (lt-leb m p long) ((λ there. omega (arith, long)), (λ some. refl))
    | inr short ↦ rw (le-leb m p short) (short_root m own counted)
  ]

  pub roots_there : (files : List (List (List ℕ) × ℕ)) (hashes : List (List ℕ))
      → length hashes ≡ pieces_of_lengths p (lengths_of files)
      → AllZip HasItsRoot files (roots_over p (lengths_of files) hashes)
  unfolding roots_over
  roots_there [] hashes counted = tt
  roots_there (file ∷ files) hashes counted =
      let n = div_ceil file.1 p in
      let all = sum_by-cons (λ m. div_ceil m p) file.1 (lengths_of files) in (
        one_root file.1 (take n hashes) (length-take-le n hashes (omega (arith, counted, all))),
        roots_there files (drop n hashes) (omega (arith, counted, all, length-drop n hashes)),
      )

pub layers_there : (p : ℕ) (lengths : List ℕ) (hashes : List (List ℕ))
    → length (layers_over p lengths hashes) ≡ length lengths
unfolding layers_over
layers_there p [] hashes = refl
layers_there p (m ∷ lengths) hashes = ap suc (layers_there p lengths (drop (div_ceil m p) hashes))
