-- The names of a folder that were added to the entries, and those that are left.
use Rattle.std.proofs.Common.{◌≡◌, ℕ, ◌≤◌, Vec, Global, List, [], ◌∷◌, ◌++◌, length, map}
use Rattle.std.proofs.Common.{take, drop, refl, sym, ap, ◌∙◌, arith, append-nil, append_assoc}
use Rattle.std.specs.Prelude.{reverse, vec_items}
use Rattle.std.proofs.lemmas.List.{drop-append-le, length_push, map_push, reverse-append, take-append-le, take_all}
use Rattle.std.proofs.lemmas.List.Sorted.{Contains-permutation, IsPermutation-reverse, IsPermutation-sym}
use Rattle.tor_source.specs.declared.folder.walk.WaitingName.{WaitingName}
use Rattle.tor_source.specs.steps.Order.{HasAdded, name_of}

-- of all names the last ones were added, the last one first
pub record IsMoved (all left : List (Vec ℕ Global)) (before after : List WaitingName) : Type 0 where
  pub within : length before ≤ length after
  pub stay : take (length before) after ≡ before
  pub moved : map vec_items all ≡ map vec_items left ++ reverse (map name_of (drop (length before) after))

pub moved_none : (all : List (Vec ℕ Global)) (before : List WaitingName) → IsMoved all all before before
moved_none all before = record {
  within = omega arith;
  stay = take_all (length before) before (omega arith);
  moved = rw (drop_all before) (sym (append-nil (map vec_items all)));
}
  where
    drop_all : (xs : List WaitingName) → drop (length xs) xs ≡ []
    drop_all [] = refl
    drop_all (x ∷ xs) = drop_all xs

pub moved_more : (all left : List (Vec ℕ Global)) (before after : List WaitingName) (next : WaitingName)
    → IsMoved all (left ++ next.name ∷ []) before after → IsMoved all left before (after ++ next ∷ [])
moved_more all left before after next h =
    let within : length before ≤ length after = h.within in
    let gone : List (List ℕ) = map name_of (drop (length before) after) in
    record {
      within = omega (arith, length_push after next);
      stay = take-append-le (length before) after (next ∷ []) within ∙ h.stay;
      moved = rw (
        drop-append-le (length before) after (next ∷ []) within,
        map_push name_of
            (drop (length before) after) next,
        reverse-append gone (name_of next ∷ []),
      )
          (h.moved ∙ ap (λ names. names ++ reverse gone) (map_push vec_items left next.name) ∙ append_assoc
          (map vec_items left) (name_of next ∷ []) (reverse gone));
    }

pub moved_all : (all : List (Vec ℕ Global)) (before after : List WaitingName) → IsMoved all [] before after
    → HasAdded (map vec_items all) before after
moved_all all before after h =
    let gone : List (List ℕ) = map name_of (drop (length before) after) in
    let turned = IsPermutation-reverse gone in
    record {
      stay = h.stay;
      named = record {
        keeps = λ name there. Contains-permutation (reverse gone) gone name
            (IsPermutation-sym gone (reverse gone) turned) (rw h.moved at there);
        adds_none = λ name there. rw h.moved (Contains-permutation gone (reverse gone) name turned there);
      };
    }

pub none_left : (names : List (Vec ℕ Global)) → length names ≡ 0 → names ≡ []
none_left [] none = refl
none_left (name ∷ names) none = absurd (omega arith)
