-- Of several trackers, one after another, the last one counts.
use Rattle.tor_edit.proofs.Names.{◌≡◌, ◌∙◌, ℕ, true, List, Option, refl, sym, ap, subst, codes, bytes_eq}
use Rattle.tor_edit.proofs.Names.{bytes_eq-Decides, cases_Bool, inl, inr, Data, integer, string, list, dictionary}
use Rattle.tor_edit.proofs.Names.{value_of, pairs_by_their_values, is_dictionary, IsLawful, tracker_edited}
use Rattle.tor_edit.proofs.Names.{MAX_NESTING, announced, without, Pairs}
use Rattle.tor_edit.proofs.Lawful.{edited_is_lawful}
use Rattle.tor_edit.proofs.Values.{kept, no_list, still_a_dictionary, tracker_is}

module _ (root : Data) (first last : Option (List ℕ)) (shape : is_dictionary root ≡ true) where
  abbrev twice : Data
  twice = tracker_edited (tracker_edited root first) last

  abbrev once : Data
  once = tracker_edited root last

  of_tracker : value_of (codes "announce") twice ≡ value_of (codes "announce") once
  of_tracker =
      tracker_is (tracker_edited root first) last (still_a_dictionary root first ∙ shape)
      ∙ sym (tracker_is root last shape)

  of_list : value_of (codes "announce-list") twice ≡ value_of (codes "announce-list") once
  of_list = no_list (tracker_edited root first) last ∙ sym (no_list root last)

  same_value : (key : List ℕ) → value_of key twice ≡ value_of key once
  same_value key = elim (cases_Bool (bytes_eq (codes "announce") key)) [
    | inl same ↦
        subst (λ (name : List ℕ). value_of name twice ≡ value_of name once)
        ((bytes_eq-Decides (codes "announce") key).0 same) of_tracker
    | inr one ↦ elim (cases_Bool (bytes_eq (codes "announce-list") key)) [
      | inl same ↦
          subst (λ (name : List ℕ). value_of name twice ≡ value_of name once)
          ((bytes_eq-Decides (codes "announce-list") key).0 same) of_list
      | inr other ↦
          kept (tracker_edited root first) last key one other ∙ kept root first key one other
          ∙ sym (kept root last key one other)
    ]
  ]

-- pairs whose `announce` and `announce-list` were changed
abbrev changed : Option (List ℕ) → Pairs → Pairs
changed tracker pairs = without (codes "announce-list") (announced tracker pairs)

pub last_tracker_counts : (root : Data) (first last : Option (List ℕ)) → IsLawful root
    → tracker_edited (tracker_edited root first) last ≡ tracker_edited root last
last_tracker_counts (integer n) first last lawful = refl
last_tracker_counts (string bytes) first last lawful = refl
last_tracker_counts (list items) first last lawful = refl
last_tracker_counts (dictionary pairs) first last lawful =
    let before = edited_is_lawful MAX_NESTING (dictionary pairs) first lawful in
    let twice = edited_is_lawful MAX_NESTING (tracker_edited (dictionary pairs) first) last before in
    let once = edited_is_lawful MAX_NESTING (dictionary pairs) last lawful in
    ap dictionary
    (pairs_by_their_values (changed last (changed first pairs)) (changed last pairs) twice.keys.0 once.keys.0
    (same_value (dictionary pairs) first last refl))
