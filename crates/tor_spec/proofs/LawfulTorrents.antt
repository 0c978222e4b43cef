-- The dictionaries of a torrent are lawful trees.
use Rattle.tor_spec.proofs.Names.{ℕ, ◌+◌, ◌<◌, ◌^◌, List, [], ◌∷◌, map, Option, None, Some, Bool, true, false, arith}
use Rattle.tor_spec.proofs.Names.{rules, refl, pos, codes, nat_le, not, ◌&&◌, option_map, unwrap_or, if◌then◌else◌}
use Rattle.tor_spec.proofs.Names.{AllByRecursion, sum_by-cons, All-from_recursion, Data, integer, string, list}
use Rattle.tor_spec.proofs.Names.{dictionary, Items, item, keys_of, IsLawful, IsLawfulWithin, ItemsAreLawfulWithin}
use Rattle.tor_spec.proofs.Names.{PairsAreLawfulWithin, AreRising, items_of, present, put, when, Facts, listed}
use Rattle.tor_spec.proofs.Names.{roots_in, entry_dictionary, files_list, strings, info_dictionary, total_size}
use Rattle.tor_spec.proofs.Names.{AreMakeable, root_dictionary, joined, piece_layers, Settings, layout_of, has_v1}
use Rattle.tor_spec.proofs.Names.{has_v2, piece_length_bounds, file_tree_is_lawful, file_tree, v1_entries, Entry}
use Rattle.tor_spec.proofs.Names.{◌≡◌, ap, attr_of, attrs_in, each_lettered, length, on_entries, single_letters, suc}
use Rattle.tor_spec.proofs.EntryLengths.{AreSmall, small_entries}
use Rattle.tor_spec.proofs.Fields.{IfThere, dictionary_lawful, present_lawful, put_lawful, put_rising, when_there}
use Rattle.tor_spec.proofs.Fields.{wider}

string_lawful : (n : ℕ) (bytes : List ℕ) → IsLawfulWithin n (string bytes)
string_lawful n bytes = record { keys = tt; integers = tt; nesting = omega arith }

number_lawful : (n k : ℕ) → k < 2 ^ 63 → IsLawfulWithin n (integer (pos k))
number_lawful n k small = record { keys = tt; integers = search rules; nesting = omega arith }

item_lawful : (n : ℕ) (d : Data) (items : Items) → IsLawfulWithin n d → ItemsAreLawfulWithin n items
    → ItemsAreLawfulWithin n (item d items)
item_lawful n d items h k = record {
  keys = (h.keys, k.keys);
  integers = (h.integers, k.integers);
  nesting = omega (arith, h.nesting, k.nesting);
}

-- a list of lawful items
abbrev AreLawful : ℕ → List Data → Type 0
AreLawful n ds = AllByRecursion (IsLawfulWithin n) ds

items_lawful : (n : ℕ) (ds : List Data) → AreLawful n ds → ItemsAreLawfulWithin n (items_of ds)
items_lawful n [] h = record { keys = tt; integers = tt; nesting = omega arith }
items_lawful n (d ∷ ds) h = item_lawful n d (items_of ds) h.0 (items_lawful n ds h.1)

list_lawful : (n : ℕ) (ds : List Data) → AreLawful n ds → IsLawfulWithin (n + 1) (list (items_of ds))
list_lawful n ds h =
    let k = items_lawful n ds h in
    record { keys = k.keys; integers = k.integers; nesting = omega (arith, k.nesting) }

strings_lawful : (texts : List (List ℕ)) → IsLawfulWithin 1 (strings texts)
strings_lawful texts = list_lawful 0 (map string texts) (each texts)
  where
    each : (ts : List (List ℕ)) → AreLawful 0 (map string ts)
    each [] = tt
    each (t ∷ ts) = (string_lawful 0 t, each ts)

-- a byte string, where there is one
text_there : (n : ℕ) (text : Option (List ℕ)) → IfThere n (option_map string text)
text_there n None = tt
text_there n (Some bytes) = string_lawful n bytes

text_if : (n : ℕ) (b : Bool) (text : Option (List ℕ)) → IfThere n (if b then option_map string text else None)
text_if n true text = text_there n text
text_if n false text = tt

entry_lawful : (entry : Entry) → entry.length < 2 ^ 63 → IsLawfulWithin 2 (entry_dictionary entry)
entry_lawful entry small =
    let fields : List (List ℕ × Option Data) =
    (codes "attr", option_map string (attr_of entry)) ∷ (codes "length", Some (integer (pos entry.length)))
    ∷ (codes "path", Some (strings entry.path)) ∷ [] in
    present_lawful 1 fields (refl, (refl, tt)) (
      text_there 1 (attr_of entry),
      (number_lawful 1 entry.length small, (strings_lawful entry.path, tt)),
    )

files_list_lawful : (entries : List Entry) → AllByRecursion (λ entry. entry.length < 2 ^ 63) entries
    → IsLawfulWithin 3 (files_list entries)
files_list_lawful entries small = list_lawful 2 (map entry_dictionary entries) (each entries small)
  where
    each : (es : List Entry) → AllByRecursion (λ entry. entry.length < 2 ^ 63) es
        → AreLawful 2 (map entry_dictionary es)
    each [] h = tt
    each (e ∷ es) h = (entry_lawful e h.0, each es h.1)

layers_lawful : (piece_length : ℕ) (facts : List Facts)
    → IsLawfulWithin 1 (dictionary (piece_layers piece_length facts))
layers_lawful piece_length facts = dictionary_lawful 0 (piece_layers piece_length facts) (rising facts) (values facts)
  where
    rising : (fs : List Facts) → AreRising (keys_of (piece_layers piece_length fs))
    rising [] = tt
    rising (f ∷ fs) = by_size (nat_le f.size piece_length) (rising fs)
      where
        by_size : (b : Bool) → AreRising (keys_of (piece_layers piece_length fs))
            → AreRising (keys_of (if b then piece_layers piece_length fs else put (unwrap_or f.root [])
            (string (joined f.layer)) (piece_layers piece_length fs)))
        by_size true h = h
        by_size false h = put_rising _ _ (piece_layers piece_length fs) h

    values : (fs : List Facts) → PairsAreLawfulWithin 0 (piece_layers piece_length fs)
    values [] = record { keys = tt; integers = tt; nesting = omega arith }
    values (f ∷ fs) = by_size (nat_le f.size piece_length) (values fs)
      where
        by_size : (b : Bool) → PairsAreLawfulWithin 0 (piece_layers piece_length fs)
            → PairsAreLawfulWithin 0 (if b then piece_layers piece_length fs else put (unwrap_or f.root [])
            (string (joined f.layer)) (piece_layers piece_length fs))
        by_size true h = h
        by_size false h = put_lawful 0 _ _ (piece_layers piece_length fs) (string_lawful 0 _) h

small_files : (facts : List Facts) → total_size facts < 2 ^ 63 → AreSmall (listed facts)
small_files [] small = tt
small_files (f ∷ fs) small =
    let both : f.size + total_size fs < 2 ^ 63 = rw (sum_by-cons (λ (file : Facts). file.size) f fs) at small in
    (omega (arith, both), small_files fs (omega (arith, both)))

-- letters for each file
pub one_attr_each : (facts : List Facts) → length (attrs_in facts) ≡ length (listed facts)
one_attr_each [] = refl
one_attr_each (f ∷ fs) = ap suc (one_attr_each fs)

info_lawful : (settings : Settings) (facts : List Facts) (pieces : List ℕ) → AreMakeable settings facts
    → IsLawfulWithin 67 (info_dictionary settings facts pieces)
info_lawful settings facts pieces made =
    let bounds = (piece_length_bounds settings.piece_length).0 made.piece_length in
    let small = small_files facts made.small in
    let v1 = has_v1 settings.kind in
    let v2 = has_v2 settings.kind in
    let tree = file_tree (listed facts) (attrs_in facts) (roots_in facts) in
    let bare = v1_entries (layout_of settings) settings.piece_length (listed facts) in
    let entries = on_entries (attrs_in facts) bare in
    let short : AllByRecursion (λ (entry : Entry). entry.length < 2 ^ 63) entries =
    each_lettered (λ entry. entry.length < 2 ^ 63) (λ attr entry file less. less) (attrs_in facts) bare
    (small_entries (layout_of settings) settings.piece_length (listed facts) (omega (arith, bounds))
    (omega (arith, bounds)) small) in
    let letters = if v1 && settings.single then option_map string (single_letters facts) else None in
    let fields : List (List ℕ × Option Data) =
    (codes "attr", letters) ∷ (codes "file tree", when v2 tree)
    ∷ (codes "files", when (v1 && not settings.single) (files_list entries))
    ∷ (codes "length", when (v1 && settings.single) (integer (pos (total_size facts))))
    ∷ (codes "meta version", when v2 (integer (pos 2)))
    ∷ (codes "name", Some (string settings.name)) ∷ (codes "piece length", Some (integer (pos settings.piece_length)))
    ∷ (codes "pieces", when v1 (string pieces)) ∷ (codes "private", when settings.is_private (integer (pos 1))) ∷ [] in
    present_lawful 66 fields (refl, (refl, (refl, (refl, (refl, (refl, (refl, (refl, tt)))))))) (
      text_if 66 (v1 && settings.single) (single_letters facts),
      (
        when_there 66 v2 tree (λ e. file_tree_is_lawful 64 (listed facts) (attrs_in facts) (roots_in facts)
            (one_attr_each facts) made.in_order made.named (made.rooted e) (All-from_recursion _ (listed facts) small)
            made.short),
        (
          when_there 66 (v1 && not settings.single) (files_list entries) (λ e. wider 3 66 (files_list entries)
              (omega arith) (files_list_lawful entries short)),
          (
            when_there 66 (v1 && settings.single) (integer (pos (total_size facts)))
                (λ e. number_lawful 66 (total_size facts) made.small),
            (
              when_there 66 v2 (integer (pos 2)) (λ e. number_lawful 66 2 (omega arith)),
              (
                string_lawful 66 settings.name,
                (
                  number_lawful 66 settings.piece_length (omega (arith, bounds)),
                  (
                    when_there 66 v1 (string pieces) (λ e. string_lawful 66 pieces),
                    (
                      when_there 66 settings.is_private (integer (pos 1)) (λ e. number_lawful 66 1 (omega arith)),
                      tt,
                    ),
                  ),
                ),
              ),
            ),
          ),
        ),
      ),
    )

pub torrents_are_lawful : (settings : Settings) (facts : List Facts) (pieces : List ℕ) → AreMakeable settings facts
    → IsLawful (root_dictionary settings facts pieces)
torrents_are_lawful settings facts pieces made =
    let v2 = has_v2 settings.kind in
    let info = info_dictionary settings facts pieces in
    let layers = dictionary (piece_layers settings.piece_length facts) in
    let fields : List (List ℕ × Option Data) =
    (codes "announce", option_map string settings.announce) ∷ (codes "info", Some info)
    ∷ (codes "piece layers", when v2 layers) ∷ [] in
    wider 68 100 (dictionary (present fields)) (omega arith) (present_lawful 67 fields (refl, (refl, tt)) (
      text_there 67 settings.announce,
      (
        info_lawful settings facts pieces made,
        (
          when_there 67 v2 layers (λ e. wider 1 67 layers (omega arith) (layers_lawful settings.piece_length facts)),
          tt,
        ),
      ),
    ))
