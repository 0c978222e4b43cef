-- The segments of a text.
use Rattle.std.specs.Prelude.{ℕ, List, decimal, flat_map, option_map}
use Rattle.hex.specs.Hex.{encode_lower}
use Rattle.json.specs.Print.{quoted}
use Rattle.serde_json.specs.Data.{boolean}
use Rattle.serde_json.specs.Written.{compact_text}
use Rattle.tor_report.specs.Records.{hash_data, path_data}
use Rattle.tor_report.specs.Shown.{path_text}
use Rattle.tor_report.specs.Spelled.{spelled}
use Rattle.tor_report.specs.declared.segment.Segment.{Segment}
use Rattle.tor_report.specs.declared.segment.Segment.TheVariants.{Text, Number, Digits, Spelled, Path, JsonString}
use Rattle.tor_report.specs.declared.segment.Segment.TheVariants.{JsonPath, JsonHash, JsonBool}

-- the text of a segment
abbrev pub segment_text : Segment → List ℕ
segment_text (Text text) = text.now
segment_text (Number number) = decimal number
segment_text (Digits bytes) = encode_lower bytes.now
segment_text (Spelled spelling text) = spelled spelling text.now
segment_text (Path spelling path) = spelled spelling (path_text path.now)
segment_text (JsonString text) = quoted text.now
segment_text (JsonPath path) = compact_text (path_data path.now)
segment_text (JsonBool truth) = compact_text (boolean truth)
segment_text (JsonHash before hash) = compact_text (hash_data before.now (option_map (λ bytes. bytes.now) hash))

-- the text of segments, one after another
abbrev pub segments_text : List Segment → List ℕ
segments_text segments = flat_map segment_text segments
