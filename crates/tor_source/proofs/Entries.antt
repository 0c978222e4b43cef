-- The entries that wait, and the path that was entered last: what a step of the walk keeps of them.
use Rattle.std.proofs.Common.{◌≡◌, ℕ, ◌+◌, ◌<◌, ◌≤◌, List, [], ◌∷◌, ◌++◌, length, get_or, map, take, refl, ap, ◌∙◌, inl}
use Rattle.std.proofs.Common.{inr, arith}
use Rattle.std.specs.List.{All, AllByRecursion}
use Rattle.std.proofs.lemmas.Bool.{cases_lt}
use Rattle.std.proofs.lemmas.List.{map_push, get_or_append_left, get_or_push, length_push, length-take-le}
use Rattle.std.proofs.lemmas.List.{take-append-le, take-take, take_all}
use Rattle.std.proofs.lemmas.List.Elements.{All-nil, All-push, recursion_from_All}
use Rattle.tor_source.proofs.Waiting.{waiting_first, waiting_found, waiting_rest}
use Rattle.tor_source.specs.steps.Order.{AreNested, IsAhead, IsEntered, IsWaiting, path_in}
use Rattle.tor_source.specs.declared.folder.walk.WaitingName.{WaitingName}

-- entries, and the path that was entered last
same_path : (last : List (List ℕ)) (name : List ℕ) (deep : ℕ) (entry : WaitingName) → deep ≤ length last
    → entry.depth ≤ deep → path_in (take deep last ++ name ∷ []) entry ≡ path_in last entry
same_path last name deep entry within shallow =
    let long : length (take deep last) ≡ deep = length-take-le deep last within in
    let cut : take entry.depth (take deep last ++ name ∷ []) ≡ take entry.depth (take deep last) =
    take-append-le entry.depth (take deep last) (name ∷ []) (omega arith) in
    ap (λ names. names ++ entry.name.items ∷ []) (cut ∙ take-take entry.depth deep last shallow)

same_paths : (last : List (List ℕ)) (name : List ℕ) (deep : ℕ) (entries : List WaitingName) → deep ≤ length last
    → AllByRecursion (λ entry. entry.depth ≤ deep) entries
    → map (path_in (take deep last ++ name ∷ [])) entries ≡ map (path_in last) entries
same_paths last name deep [] within h = refl
same_paths last name deep (entry ∷ entries) within h =
    rw (same_path last name deep entry within h.0, same_paths last name deep entries within h.1) refl

same_above : (last : List (List ℕ)) (deep : ℕ) (entries : List WaitingName)
    → AllByRecursion (λ entry. entry.depth ≤ deep) entries
    → map (path_in (take deep last)) entries ≡ map (path_in last) entries
same_above last deep [] h = refl
same_above last deep (entry ∷ entries) h =
    rw (take-take entry.depth deep last h.0, same_above last deep entries h.1) refl

All-last : {X : Type 0} (P : X → Type 0) (xs : List X) (y : X) → All P (xs ++ y ∷ []) → P y
All-last P xs y all =
    rw (get_or_push xs y y (length xs) refl) at (all (length xs) y (omega (arith, length_push xs y)))

module _ (entries : List WaitingName) (next : WaitingName) where
  nested_rest : AreNested (entries ++ next ∷ []) → AreNested entries
  nested_rest h i j d lt within =
      let all : j < length (entries ++ next ∷ []) = omega (arith, length_push entries next) in
      rw (get_or_append_left entries (next ∷ []) d i (omega arith), get_or_append_left entries (next ∷ []) d j within)
      at (h i j d lt all)

  nested_next : AreNested (entries ++ next ∷ []) → All (λ entry. entry.depth ≤ next.depth) entries
  nested_next h k d within =
      let all : length entries < length (entries ++ next ∷ []) = omega (arith, length_push entries next) in
      rw (get_or_append_left entries (next ∷ []) d k within, get_or_push entries next d (length entries) refl) at
      (h k (length entries) d within all)

  nested_push : AreNested entries → All (λ entry. entry.depth ≤ next.depth) entries → AreNested (entries ++ next ∷ [])
  nested_push h below i j d lt within = elim (cases_lt j (length entries)) [
    | inl inside ↦ rw (
      get_or_append_left entries (next ∷ []) d i (omega arith),
      get_or_append_left entries (next ∷ [])
          d j inside,
    ) (h i j d lt inside)
    | inr past_end ↦ (
        let last : length entries ≡ j = omega (arith, length_push entries next) in
        rw (get_or_append_left entries (next ∷ []) d i (omega arith), get_or_push entries next d j last)
        (below i d (omega arith)))
  ]

-- nothing is found yet, and the top folder is entered
pub entered_first : IsEntered [] [] []
entered_first = record {
  paths = waiting_first;
  nested = λ i j d lt within. absurd (omega arith);
  within = All-nil (λ entry. entry.depth < 0);
}

-- the next entry is entered
pub entered_next : (found : List (List (List ℕ))) (last : List (List ℕ)) (entries : List WaitingName) (next : WaitingName)
    → IsAhead found last (entries ++ next ∷ []) → IsEntered found (path_in last next) entries
entered_next found last entries next h =
    let shallow = nested_next entries next h.nested in
    let every : next.depth ≤ length last = All-last (λ entry. entry.depth ≤ length last) entries next h.within in
    let same = same_paths last next.name.items next.depth entries every
    (recursion_from_All (λ entry. entry.depth ≤ next.depth) entries shallow) in
    let long : length (path_in last next) ≡ next.depth + 1 =
    length_push (take next.depth last) next.name.items ∙ ap (λ n. n + 1) (length-take-le next.depth last every) in
    record {
      paths = rw (same, ← map_push (path_in last) entries next) h.paths;
      nested = nested_rest entries next h.nested;
      within = λ k d lt. let low : (get_or entries k d).depth ≤ next.depth = shallow k d lt in omega arith;
    }

-- it has no name that could be entered
pub ahead_unnamed : (found : List (List (List ℕ))) (last : List (List ℕ)) (entries : List WaitingName)
    → (next : WaitingName) → IsAhead found last (entries ++ next ∷ [])
    → IsAhead found (take next.depth last) entries
ahead_unnamed found last entries next h =
    let shallow = nested_next entries next h.nested in
    let every : next.depth ≤ length last = All-last (λ entry. entry.depth ≤ length last) entries next h.within in
    let long : length (take next.depth last) ≡ next.depth = length-take-le next.depth last every in
    let same = same_above last next.depth entries
    (recursion_from_All (λ entry. entry.depth ≤ next.depth) entries shallow) in
    record {
      paths = rw same (waiting_rest found (map (path_in last) entries) (path_in last next)
          (rw (map_push (path_in last) entries next) at h.paths));
      nested = nested_rest entries next h.nested;
      within = λ k d lt. let low : (get_or entries k d).depth ≤ next.depth = shallow k d lt in omega arith;
    }

-- it was a file
pub ahead_file : (found : List (List (List ℕ))) (path : List (List ℕ)) (entries : List WaitingName)
    → IsEntered found path entries → IsAhead (found ++ path ∷ []) path entries
ahead_file found path entries h = record {
  paths = waiting_found found (map (path_in path) entries) path h.paths;
  nested = h.nested;
  within = λ k d lt. let low : (get_or entries k d).depth < length path = h.within k d lt in omega arith;
}

-- it was a folder
pub ahead_folder : (found : List (List (List ℕ))) (path : List (List ℕ)) (entries : List WaitingName)
    → IsEntered found path entries → IsAhead found path entries
ahead_folder found path entries h = record {
  paths = waiting_rest found (map (path_in path) entries) path h.paths;
  nested = h.nested;
  within = λ k d lt. let low : (get_or entries k d).depth < length path = h.within k d lt in omega arith;
}

-- and one more of its names waits
pub path_inside : (path : List (List ℕ)) (entries : List WaitingName) (next : WaitingName) → next.depth ≡ length path
    → map (path_in path) (entries ++ next ∷ []) ≡ map (path_in path) entries ++ (path ++ next.name.items ∷ []) ∷ []
path_inside path entries next deep =
    map_push (path_in path) entries next ∙ ap
    (λ names. map (path_in path) entries ++ (names ++ next.name.items ∷ []) ∷ [])
    (take_all next.depth path (omega arith))

pub ahead_name : (found : List (List (List ℕ))) (path : List (List ℕ)) (entries : List WaitingName) (next : WaitingName)
    → next.depth ≡ length path → IsAhead found path entries
    → IsWaiting found (map (path_in path) entries ++ (path ++ next.name.items ∷ []) ∷ [])
    → IsAhead found path (entries ++ next ∷ [])
ahead_name found path entries next deep h waits = record {
  paths = rw (path_inside path entries next deep) waits;
  nested = nested_push entries next h.nested (rw deep h.within);
  within = All-push (λ entry. entry.depth ≤ length path) entries next h.within (omega arith);
}
