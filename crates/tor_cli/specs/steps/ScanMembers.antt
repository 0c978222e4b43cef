-- The members of the object that a scan prints. Only private clauses cite this.
use Rattle.std.specs.Prelude.{ℕ, List, ◌++◌, codes, decimal, length, map}
use Rattle.std.specs.List.{range_with_len}
use Rattle.serde_json.specs.Data.{array}
use Rattle.serde_json.specs.View.{items_of}
use Rattle.serde_json.specs.Written.{compact_text}
use Rattle.tor_source.specs.declared.refused.Refused.{Refused}
use Rattle.tor_cli.specs.text.Records.{refused_data, scanned_data}
use Rattle.tor_cli.specs.declared.scan.inventory.Inventory.{Inventory}

-- up to the files
abbrev pub files_member : ℕ → Inventory → List ℕ
files_member bytes found =
    codes "{\"bytes\":" ++ (decimal bytes ++ (codes ",\"files\":"
    ++ compact_text (array (items_of (map (scanned_data found) (range_with_len 0 (length found.paths.items)))))))

-- from there up to what is refused
abbrev pub refused_member : ℕ → List Refused → List ℕ
refused_member piece_length refused =
    codes ",\"piece_length\":" ++ (decimal piece_length ++ (codes ",\"refused\":"
    ++ compact_text (array (items_of (map refused_data refused)))))
