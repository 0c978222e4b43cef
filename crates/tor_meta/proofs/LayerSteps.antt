-- One more layer of a torrent's piece layers.
use Rattle.std.proofs.Common.{◌≡◌, ℕ, zero, suc, ◌+◌, ◌-◌, ◌<◌, ◌≤◌, true, false, Vec, Global, List, [], ◌∷◌}
use Rattle.std.proofs.Common.{length, get_or, drop, Option, None, Some, Ordering, Less, Equal, Greater, refl, sym}
use Rattle.std.proofs.Common.{ap, ◌∙◌, arith}
use Rattle.std.specs.Prelude.{nat_le}
use Rattle.std.specs.BTreeMap.{insert_entry}
use Rattle.std.specs.List.{AllZip}
use Rattle.std.specs.Ordering.{match_ordering, nat_cmp}
use Rattle.std.specs.Cmp.Lexicographic.{slice_cmp}
use Rattle.std.proofs.lemmas.Bool.{le-leb, lt-leb}
use Rattle.std.proofs.lemmas.List.{drop_more, get_or-map, length-map}
use Rattle.std.proofs.lemmas.Map.Lookups.{exact_bytes}
use Rattle.tor_bencode.specs.Data.{string, pair}
use Rattle.tor_sums.specs.Sums.{lists_of}
use Rattle.tor_meta.specs.steps.Layers.{pairs_of_map}
use Rattle.tor_tree.specs.Letters.{no_letters}
use Rattle.tor_spec.specs.Dictionary.{put}
use Rattle.tor_spec.specs.Facts.{Facts, listed, layers_in, roots_in}
use Rattle.tor_spec.specs.PieceLayers.{joined, piece_layers}

-- what a map becomes by one more entry is what its pairs become
pub insert_put : (entries : List (List ℕ × Vec ℕ Global)) (key : List ℕ) (value : Vec ℕ Global)
    → pairs_of_map (insert_entry (slice_cmp nat_cmp) entries key value)
    ≡ put key (string value.items) (pairs_of_map entries)
insert_put [] key value = refl
insert_put (entry ∷ entries) key value =
    by_order (slice_cmp nat_cmp key entry.0) refl (insert_put entries key value)
  where
    by_order : (r : Ordering) → slice_cmp nat_cmp key entry.0 ≡ r
        → pairs_of_map (insert_entry (slice_cmp nat_cmp) entries key value)
        ≡ put key (string value.items) (pairs_of_map entries)
        → pairs_of_map
        (match_ordering r ((key, value) ∷ entry ∷ entries) ((entry.0, value) ∷ entries)
        (entry ∷ insert_entry (slice_cmp nat_cmp) entries key value))
        ≡ match_ordering r (pair key (string value.items) (pair entry.0 (string entry.1.items) (pairs_of_map entries)))
        (pair key (string value.items) (pairs_of_map entries))
        (pair entry.0 (string entry.1.items) (put key (string value.items) (pairs_of_map entries)))
    by_order Less e later = refl
    by_order Equal e later =
        ap (λ k. pair k (string value.items) (pairs_of_map entries)) (sym (exact_bytes key entry.0 e))
    by_order Greater e later = ap (pair entry.0 (string entry.1.items)) later

-- the facts at an index, as the lists have them
pub record IsAt (files : List (List (List ℕ) × ℕ)) (roots : List (Option (List ℕ)))
    (layers : List (Vec (List ℕ) Global)) (k : ℕ) (facts : List Facts) (fact : Facts) : Type 0 where
  pub first : drop k facts ≡ fact ∷ drop (k + 1) facts
  pub size : (d : List (List ℕ) × ℕ) → (get_or files k d).1 ≡ fact.size
  pub root : (d : Option (List ℕ)) → get_or roots k d ≡ fact.root
  pub layer : (d : Vec (List ℕ) Global) → (get_or layers k d).items ≡ fact.layer

pub facts_at : (files : List (List (List ℕ) × ℕ)) (roots : List (Option (List ℕ))) (layers : List (Vec (List ℕ) Global))
    (k : ℕ) (facts : List Facts)
    → k < length files → listed facts ≡ files → roots_in facts ≡ roots → layers_in facts ≡ lists_of layers
    → (fact : Facts) × IsAt files roots layers k facts fact
facts_at files roots layers k facts within is_listed is_roots is_layers =
    let none : Facts = record { path = []; size = 0; root = None; layer = []; attr = no_letters } in
    let same : length facts ≡ length files = rw length-map at (ap length is_listed) in
    let inside : k < length facts = omega arith in
    let count : length layers ≡ length facts = sym (simp length-map at (ap length is_layers)) in
    let fact = get_or facts k none in (
      fact,
      record {
        first = drop_more facts k none inside;
        size =
            λ d. ap (λ (f : List (List ℕ) × ℕ). f.1) (ap (λ fs. get_or fs k d) (sym is_listed)
            ∙ get_or-map (λ (f : Facts). (f.path, f.size)) facts k none d inside);
        root = λ d. ap (λ rs. get_or rs k d) (sym is_roots) ∙ get_or-map (λ (f : Facts). f.root) facts k none d inside;
        layer = λ d. sym (get_or-map (λ (v : Vec (List ℕ) Global). v.items) layers k d [] (omega arith))
            ∙ ap (λ ls. get_or ls k []) (sym is_layers) ∙ get_or-map (λ (f : Facts). f.layer) facts k none [] inside;
      },
    )

pub zip_at : {A B : Type 0} (R : A → B → Type 0) (xs : List A) (ys : List B) (k : ℕ) (d : A) (e : B) → AllZip R xs ys
    → k < length xs → R (get_or xs k d) (get_or ys k e)
zip_at R [] ys k d e h lt = absurd (omega arith)
zip_at R (x ∷ xs) [] k d e h lt = absurd h
zip_at R (x ∷ xs) (y ∷ ys) zero d e h lt = h.0
zip_at R (x ∷ xs) (y ∷ ys) (suc k) d e h lt = zip_at R xs ys k d e h.1 (omega arith)

module _ (p : ℕ) (files : List (List (List ℕ) × ℕ)) (roots : List (Option (List ℕ)))
    (layers : List (Vec (List ℕ) Global)) (left : ℕ) (some : 0 < left) (within : left ≤ length files) (d : List (List ℕ)
    × ℕ) where
  back : left - 1 + 1 ≡ left
  back = omega arith

  put_here : (e : Option (List ℕ)) (g : Vec (List ℕ) Global) (root : List ℕ) (value : Vec ℕ Global)
      (old new : List (List ℕ × Vec ℕ Global))
      → p < (get_or files (left - 1) d).1 → get_or roots (left - 1) e ≡ Some root
      → value.items ≡ joined (get_or layers (left - 1) g).items
      → new ≡ insert_entry (slice_cmp nat_cmp) old root value → (facts : List Facts) (fact : Facts)
      → IsAt files roots layers (left - 1) facts fact
      → pairs_of_map old ≡ piece_layers p (drop left facts) → pairs_of_map new ≡ piece_layers p (drop (left - 1) facts)
  put_here e g root value old new long is_root is_value is_new facts fact here before =
      let test : nat_le fact.size p ≡ false = lt-leb fact.size p (rw (here.size d) at long) in
      let rooted : fact.root ≡ Some root = sym (here.root e) ∙ is_root in
      let value_is : value.items ≡ joined fact.layer = is_value ∙ ap joined (here.layer g) in
      ap pairs_of_map is_new ∙ insert_put old root value
      ∙ rw (here.first, back, test, rooted, value_is) (ap (put root (string (joined fact.layer))) before)

  left_out_here : (entries : List (List ℕ × Vec ℕ Global)) → (get_or files (left - 1) d).1 ≤ p
      → (facts : List Facts) (fact : Facts) → IsAt files roots layers (left - 1) facts fact
      → pairs_of_map entries ≡ piece_layers p (drop left facts)
      → pairs_of_map entries ≡ piece_layers p (drop (left - 1) facts)
  left_out_here entries short facts fact here before =
      let test : nat_le fact.size p ≡ true = le-leb fact.size p (rw (here.size d) at short) in
      rw (here.first, back, test) before

  -- one more layer goes into the map
  pub layer_put : (e : Option (List ℕ)) (g : Vec (List ℕ) Global) (root : List ℕ) (value : Vec ℕ Global)
      (old new : List (List ℕ × Vec ℕ Global))
      → p < (get_or files (left - 1) d).1 → get_or roots (left - 1) e ≡ Some root
      → value.items ≡ joined (get_or layers (left - 1) g).items
      → new ≡ insert_entry (slice_cmp nat_cmp) old root value
      → (facts : List Facts) → listed facts ≡ files → roots_in facts ≡ roots → layers_in facts ≡ lists_of layers
      → pairs_of_map old ≡ piece_layers p (drop left facts) → pairs_of_map new ≡ piece_layers p (drop (left - 1) facts)
  layer_put e g root value old new long is_root is_value is_new facts is_listed is_roots is_layers =
      let at_index = facts_at files roots layers (left - 1) facts (omega arith) is_listed is_roots is_layers in
      put_here e g root value old new long is_root is_value is_new facts at_index.0 at_index.1

  -- a file of one piece has no layer there
  pub layer_left_out : (entries : List (List ℕ × Vec ℕ Global)) → (get_or files (left - 1) d).1 ≤ p
      → (facts : List Facts) → listed facts ≡ files → roots_in facts ≡ roots → layers_in facts ≡ lists_of layers
      → pairs_of_map entries ≡ piece_layers p (drop left facts)
      → pairs_of_map entries ≡ piece_layers p (drop (left - 1) facts)
  layer_left_out entries short facts is_listed is_roots is_layers =
      let at_index = facts_at files roots layers (left - 1) facts (omega arith) is_listed is_roots is_layers in
      left_out_here entries short facts at_index.0 at_index.1
