-- The paths that wait while files are found: what a step of the walk keeps of them.
use Rattle.std.proofs.Common.{◌≡◌, ℕ, ◌<◌, List, [], ◌∷◌, ◌++◌, length, get_or, Less, refl, inl, inr, arith}
use Rattle.std.specs.List.{All}
use Rattle.std.proofs.lemmas.Bool.{cases_lt}
use Rattle.std.proofs.lemmas.List.{append_assoc, append-nil, get_or_append_left, get_or_push, length_push}
use Rattle.std.proofs.lemmas.List.Elements.{All-nil, All-push, All-weaker}
use Rattle.tor_tree.specs.Path.{name_cmp, path_cmp}
use Rattle.tor_source.proofs.PathOrder.{before_longer, past_next}
use Rattle.tor_source.specs.steps.Order.{AreBefore, IsPast, IsWaiting}

-- the paths that wait, without the next one, and what is known of that
module _ (found waiting : List (List (List ℕ))) (next : List (List ℕ)) where
  pub waiting_rest : IsWaiting found (waiting ++ next ∷ []) → IsWaiting found waiting
  waiting_rest h = record {
    apart = λ i j d lt within.
        let all : j < length (waiting ++ next ∷ []) = omega (arith, length_push waiting next) in
        let at_i : get_or (waiting ++ next ∷ []) i d ≡ get_or waiting i d =
        get_or_append_left waiting (next ∷ []) d i (omega arith) in
        let at_j : get_or (waiting ++ next ∷ []) j d ≡ get_or waiting j d =
        get_or_append_left waiting (next ∷ []) d j within in
        rw (at_i, at_j) at (h.apart i j d lt all);
    before = λ k d within.
        let all : k < length (waiting ++ next ∷ []) = omega (arith, length_push waiting next) in
        rw (get_or_append_left waiting (next ∷ []) d k within) at (h.before k d all);
  }

  pub next_before : IsWaiting found (waiting ++ next ∷ []) → AreBefore next found
  next_before h =
      let all : length waiting < length (waiting ++ next ∷ []) = omega (arith, length_push waiting next) in
      rw (get_or_push waiting next next (length waiting) refl) at (h.before (length waiting) next all)

  next_past : IsWaiting found (waiting ++ next ∷ []) → All (λ later. IsPast next later) waiting
  next_past h k d within =
      let all : length waiting < length (waiting ++ next ∷ []) = omega (arith, length_push waiting next) in
      let at_k : get_or (waiting ++ next ∷ []) k d ≡ get_or waiting k d =
      get_or_append_left waiting (next ∷ []) d k within in
      let at_end : get_or (waiting ++ next ∷ []) (length waiting) d ≡ next =
      get_or_push waiting next d (length waiting) refl in
      rw (at_k, at_end) at (h.apart k (length waiting) d within all)

  waiting_push : IsWaiting found waiting → All (λ later. IsPast next later) waiting → AreBefore next found
      → IsWaiting found (waiting ++ next ∷ [])
  waiting_push h past before = record {
    apart = λ i j d lt within. elim (cases_lt j (length waiting)) [
      | inl inside ↦ rw (
        get_or_append_left waiting (next ∷ []) d i (omega arith),
        get_or_append_left waiting
            (next ∷ []) d j inside,
      ) (h.apart i j d lt inside)
      | inr past_end ↦ (
          let last : length waiting ≡ j = omega (arith, length_push waiting next) in
          let at_i : get_or (waiting ++ next ∷ []) i d ≡ get_or waiting i d =
          get_or_append_left waiting (next ∷ []) d i (omega arith) in
          let at_j : get_or (waiting ++ next ∷ []) j d ≡ next = get_or_push waiting next d j last in
          rw (at_i, at_j) (past i d (omega arith)))
    ];
    before = All-push (λ path. AreBefore path found) waiting next h.before before;
  }

-- a file is found
pub waiting_found : (found waiting : List (List (List ℕ))) (path : List (List ℕ))
    → IsWaiting found (waiting ++ path ∷ []) → IsWaiting (found ++ path ∷ []) waiting
waiting_found found waiting path h =
    let rest = waiting_rest found waiting path h in
    let past = next_past found waiting path h in
    record {
      apart = rest.apart;
      before = λ k d within. All-push (λ earlier. path_cmp earlier (get_or waiting k d) ≡ Less) found path
          (rest.before k d within) (rw append-nil at (past k d within []));
    }

-- a folder is entered: each of its names may be the next
pub waiting_inside : (found waiting : List (List (List ℕ))) (folder : List (List ℕ)) (name : List ℕ)
    → IsWaiting found (waiting ++ folder ∷ []) → IsWaiting found (waiting ++ (folder ++ name ∷ []) ∷ [])
waiting_inside found waiting folder name h =
    let deeper : (later : List (List ℕ)) → IsPast folder later → IsPast (folder ++ name ∷ []) later =
    λ later past more. rw append_assoc (past (name ∷ more)) in
    waiting_push found waiting (folder ++ name ∷ []) (waiting_rest found waiting folder h)
    (All-weaker (λ later. IsPast folder later) (λ later. IsPast (folder ++ name ∷ []) later) deeper waiting
    (next_past found waiting folder h))
    (before_longer folder name found (next_before found waiting folder h))

-- a name waits, and one before it may be the next
pub waiting_name : (found waiting : List (List (List ℕ))) (folder : List (List ℕ)) (name later : List ℕ)
    → name_cmp name later ≡ Less → IsWaiting found (waiting ++ (folder ++ later ∷ []) ∷ [])
    → IsWaiting found (waiting ++ (folder ++ name ∷ []) ∷ [])
    → IsWaiting found ((waiting ++ (folder ++ later ∷ []) ∷ []) ++ (folder ++ name ∷ []) ∷ [])
waiting_name found waiting folder name later less after here =
    waiting_push found (waiting ++ (folder ++ later ∷ []) ∷ []) (folder ++ name ∷ []) after
    (All-push (λ path. IsPast (folder ++ name ∷ []) path) waiting (folder ++ later ∷ [])
    (next_past found waiting (folder ++ name ∷ []) here) (past_next folder name later less))
    (next_before found waiting (folder ++ name ∷ []) here)

pub waiting_first : IsWaiting [] ([] ++ [] ∷ [])
waiting_first = record {
  apart = λ i j d lt within. absurd (omega arith);
  before = λ k d within. All-nil (λ earlier. path_cmp earlier (get_or ([] ++ [] ∷ []) k d) ≡ Less);
}
