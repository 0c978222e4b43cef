-- The servers that a torrent names beside `info`, as JSON: trackers (BEP 3, BEP 12) and web seeds (BEP 19).
use Rattle.std.specs.Prelude.{Bool, ◌&&◌, ◌||◌, [], ◌∷◌, map, codes, Option, None, Some, if◌then◌else◌}
use Rattle.std.specs.List.{list_all}
use Rattle.serde_json.specs.Data.{Data, null, string, array}
use Rattle.serde_json.specs.View.{items_of}
use Rattle.tor_bencode.specs.Data.{Data as Tree}
use Rattle.tor_bencode.specs.Find.{value_of}
use Rattle.tor_spec.specs.valid.Parts.{is_list, is_string, items_of_list, text_of}
use Rattle.tor_report.specs.Escape.{printable}

-- a byte string as a string: text as it is, and bytes that are no text as they stand in a line of ASCII (profile)
abbrev pub text_data : Tree → Data
text_data value = string (printable (text_of value))

-- a list of byte strings as an array of strings
abbrev pub texts_data : Tree → Data
texts_data value = array (items_of (map text_data (items_of_list value)))

-- a list of lists of byte strings as an array of arrays
abbrev pub tiers_data : Tree → Data
tiers_data value = array (items_of (map texts_data (items_of_list value)))

-- a byte string, or a list of them, as an array of strings
abbrev pub urls_data : Tree → Data
urls_data value = if is_string value then array (items_of (text_data value ∷ [])) else texts_data value

-- a list of byte strings
abbrev pub are_texts : Tree → Bool
are_texts value = is_list value && list_all is_string (items_of_list value)

-- a list of lists of byte strings
abbrev pub are_tiers : Tree → Bool
are_tiers value = is_list value && list_all are_texts (items_of_list value)

-- a byte string, or a list of them
abbrev pub are_urls : Tree → Bool
are_urls value = is_string value || are_texts value

-- a value as it is told if it has its shape; null if it has another, or is not there
abbrev pub data_if : (Tree → Bool) → (Tree → Data) → Option Tree → Data
data_if test tell None = null
data_if test tell (Some value) = if test value then tell value else null

-- the URL of the tracker, if `announce` is a byte string (BEP 3, "metainfo files"; profile)
abbrev pub announce_data : Tree → Data
announce_data root = data_if is_string text_data (value_of (codes "announce") root)

-- the URLs of trackers by their tiers, if `announce-list` is a list of lists of byte strings (BEP 12; profile)
abbrev pub announce_list_data : Tree → Data
announce_list_data root = data_if are_tiers tiers_data (value_of (codes "announce-list") root)

-- the URLs of web seeds, if `url-list` is a byte string or a list of them (BEP 19; profile)
abbrev pub url_list_data : Tree → Data
url_list_data root = data_if are_urls urls_data (value_of (codes "url-list") root)
