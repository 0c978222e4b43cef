-- The members of the object that tells of a torrent, before those of its files and after them.
use Rattle.std.specs.Prelude.{ℕ, List, [], ◌∷◌, ◌++◌, codes, decimal}
use Rattle.json.specs.Print.{quoted}
use Rattle.serde_json.specs.Data.{Data, boolean}
use Rattle.serde_json.specs.Written.{compact_text}
use Rattle.tor_bencode.specs.Data.{Data as Tree}
use Rattle.tor_bencode.specs.RefView.{view}
use Rattle.tor_bencode.specs.declared.item_ref.ItemRef.{ItemRef}
use Rattle.tor_spec.specs.declared.hashes.Hashes.{Hashes}
use Rattle.tor_spec.specs.valid.View.{View}
use Rattle.tor_report.specs.Records.{hash_data, total_length}
use Rattle.tor_report.specs.Servers.{announce_data, announce_list_data, text_data, texts_data, url_list_data}
use Rattle.tor_report.specs.Words.{word_of}

abbrev pub announce_member : Tree → List ℕ
announce_member root = codes "{\"announce\":" ++ compact_text (announce_data root)

abbrev pub announce_list_member : Tree → List ℕ
announce_list_member root = codes ",\"announce_list\":" ++ compact_text (announce_list_data root)

-- from there up to the value of `files`
abbrev pub hash_members : Hashes → List ℕ
hash_members hashes =
    codes ",\"btih\":" ++ (compact_text (hash_data [] hashes.v1)
    ++ (codes ",\"btmh\":" ++ (compact_text (hash_data (codes "1220") hashes.v2)
    ++ codes ",\"files\":")))

-- up to the value of `files`
abbrev pub before_files : Tree → Hashes → List ℕ
before_files root hashes = announce_member root ++ (announce_list_member root ++ hash_members hashes)

-- from there up to the value of `url_list`
abbrev pub plain_members : View → List ℕ
plain_members view =
    codes ",\"kind\":" ++ (quoted (word_of view.kind)
    ++ (codes ",\"name\":" ++ (quoted view.name
    ++ (codes ",\"piece_length\":" ++ (decimal view.piece_length
    ++ (codes ",\"pieces\":" ++ (decimal view.piece_count
    ++ (codes ",\"private\":" ++ (compact_text (boolean view.is_private)
    ++ (codes ",\"total\":" ++ (decimal (total_length view.files)
    ++ codes ",\"url_list\":")))))))))))

-- from the value of `files` on
abbrev pub after_files : Tree → View → List ℕ
after_files root view = plain_members view ++ (compact_text (url_list_data root) ++ codes "}")

-- an item of an array after another
abbrev pub item_after : {X : Type 0} → (X → Data) → X → List ℕ
item_after tell x = 44 ∷ compact_text (tell x)

-- an item of a list as a string
abbrev pub told_text : ItemRef → Data
told_text item = text_data (view item)

-- one as an array of strings
abbrev pub told_tier : ItemRef → Data
told_tier item = texts_data (view item)
