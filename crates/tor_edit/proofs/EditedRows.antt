-- Worked roots with another tracker.
use Rattle.tor_edit.proofs.Names.{◌≡◌, ℕ, List, [], None, Some, refl, codes, Data, Pairs, dictionary, list, no_pairs}
use Rattle.tor_edit.proofs.Names.{pair, string, no_items, item, spelling, tracker_edited, base_ten}

-- a key whose value is its own text
abbrev with : List ℕ → Pairs → Pairs
with key pairs = pair key (string key) pairs

-- a list of one list of one tracker (BEP 12)
abbrev trackers : Data
trackers = list (item (list (item (string (codes "old")) no_items)) no_items)

-- all three keys, one between the two trackers' and one on each side
abbrev full : Data
full =
    dictionary (with (codes "a") (pair (codes "announce") (string (codes "old")) (with (codes "announce ")
    (pair (codes "announce-list") trackers (with (codes "info") no_pairs)))))

-- the three other keys alone
abbrev bare : Data
bare = dictionary (with (codes "a") (with (codes "announce ") (with (codes "info") no_pairs)))

full_row : spelling full
    ≡ codes "d1:a1:a8:announce3:old9:announce 9:announce 13:announce-listll3:oldee4:info4:infoe"
unfolding base_ten
full_row = refl

replaced_row : spelling (tracker_edited full (Some (codes "http://b")))
    ≡ codes "d1:a1:a8:announce8:http://b9:announce 9:announce 4:info4:infoe"
unfolding base_ten
replaced_row = refl

none_row : spelling (tracker_edited full None) ≡ codes "d1:a1:a9:announce 9:announce 4:info4:infoe"
unfolding base_ten
none_row = refl

added_row : spelling (tracker_edited bare (Some (codes "http://b")))
    ≡ codes "d1:a1:a8:announce8:http://b9:announce 9:announce 4:info4:infoe"
unfolding base_ten
added_row = refl

-- without a tracker there is nothing to take out
kept_row : tracker_edited bare None ≡ bare
kept_row = refl

-- after all other keys
last_row : spelling (tracker_edited (dictionary (with (codes "a") no_pairs)) (Some []))
    ≡ codes "d1:a1:a8:announce0:e"
unfolding base_ten
last_row = refl
