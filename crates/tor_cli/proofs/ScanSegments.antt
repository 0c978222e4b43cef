-- The segments of what a scan prints.
use Rattle.std.proofs.Common.{◌≡◌, ◌∙◌, refl, sym, ap, ℕ, ◌<◌, Bool, List, [], ◌∷◌, ◌++◌, append_assoc, codes}
use Rattle.std.proofs.Common.{arith, false, get_or, length, map}
use Rattle.std.proofs.lemmas.List.FromFn.{get_or-range_with_len, length-range_with_len}
use Rattle.std.specs.List.{range_with_len}
use Rattle.std.specs.Prelude.{decimal}
use Rattle.std.specs.Str.{IsUtf8}
use Rattle.json.specs.Print.{escape_byte, quoted}
use Rattle.serde_json.specs.Data.{array}
use Rattle.serde_json.specs.View.{items_of}
use Rattle.serde_json.specs.Written.{comma_if, compact_text}
use Rattle.tor_meta.specs.PieceLength.{auto_piece_length}
use Rattle.tor_report.specs.Escape.{escaped_bytes, printable}
use Rattle.tor_report.specs.Records.{path_data, sized_data}
use Rattle.tor_report.specs.Spelled.{spelled}
use Rattle.tor_report.specs.declared.spelling.Spelling.TheVariants.{InAscii, InLine}
use Rattle.tor_source.specs.declared.refused.Refused.{Refused}
use Rattle.tor_cli.specs.make.FileSizes.{total_of}
use Rattle.tor_cli.specs.scan.Inventory.{refusal_code, refusal_word}
use Rattle.tor_cli.specs.scan.ScanText.{refused_line, total_lines}
use Rattle.tor_cli.specs.steps.Items.{items_front}
use Rattle.tor_cli.specs.steps.ScanMembers.{files_member, refused_member}
use Rattle.tor_cli.specs.text.Records.{refused_data, scan_line, scanned_data}
use Rattle.tor_cli.specs.declared.scan.inventory.Inventory.{Inventory}
use Rattle.tor_cli.proofs.Escapes.{is_no_text, is_text}
use Rattle.tor_cli.proofs.ItemsTexts.{items_array}

-- ---- numbers from 0 on

module _ (count n : ℕ) (within : n < count) where
  pub in_range : n < length (range_with_len 0 count)
  in_range = rw (length-range_with_len 0 count) within

  pub is_number : n ≡ get_or (range_with_len 0 count) n n
  is_number = let same = get_or-range_with_len 0 count n n within in omega (arith, same)

-- ---- the lines

pub total_segments : (found : Inventory) (files bytes piece_length : ℕ) → files ≡ length found.paths.items
    → bytes ≡ total_of found.lengths.items → piece_length ≡ auto_piece_length bytes
    → codes "files " ++ (decimal files ++ (codes "\nbytes " ++ (decimal bytes ++ (codes "\npiece length "
    ++ (decimal piece_length ++ codes "\n"))))) ≡ total_lines found
total_segments found files bytes piece_length a b d = rw (d, a, b) refl

pub refusal_segments : (one : Refused) (code word path : List ℕ) → code ≡ refusal_code one.refusal
    → word ≡ refusal_word one.refusal → path ≡ escaped_bytes one.path.items
    → codes "refused " ++ (code ++ (codes " " ++ (word ++ (codes " " ++ (path ++ codes "\n"))))) ≡ refused_line one
refusal_segments one code word path a b c = rw (a, b, c) refl

pub text_in_line : (bytes : List ℕ) → IsUtf8 bytes → spelled InLine bytes ≡ escaped_bytes bytes
text_in_line bytes is = rw (is_text bytes is) refl

pub bytes_in_line : (bytes : List ℕ) → (IsUtf8 bytes → ⊥) → spelled InAscii bytes ≡ escaped_bytes bytes
bytes_in_line bytes none = rw (is_no_text bytes none) refl

-- ---- the record

two : (k v m n rest : List ℕ) → m ++ rest ≡ n → (k ++ (v ++ m)) ++ rest ≡ k ++ (v ++ n)
two k v m n rest same =
    append_assoc k (v ++ m) rest
    ∙ ap (λ (xs : List ℕ). k ++ xs) (append_assoc v m rest ∙ ap (λ (xs : List ℕ). v ++ xs) same)

pub files_text : (bytes : ℕ) (found : Inventory)
    → (codes "{\"bytes\":" ++ (decimal bytes ++ codes ",\"files\":["))
    ++ (items_front false (map (scanned_data found) (range_with_len 0 (length found.paths.items))) ++ 93 ∷ [])
    ≡ files_member bytes found
files_text bytes found =
    two (codes "{\"bytes\":") (decimal bytes) (codes ",\"files\":[") _ _
    (ap (λ (xs : List ℕ). codes ",\"files\":" ++ xs)
    (items_array (map (scanned_data found) (range_with_len 0 (length found.paths.items)))))

pub refusals_text : (piece_length : ℕ) (refused : List Refused)
    → (codes ",\"piece_length\":" ++ (decimal piece_length ++ codes ",\"refused\":["))
    ++ (items_front false (map refused_data refused) ++ 93 ∷ []) ≡ refused_member piece_length refused
refusals_text piece_length refused =
    two (codes ",\"piece_length\":") (decimal piece_length) (codes ",\"refused\":[") _ _
    (ap (λ (xs : List ℕ). codes ",\"refused\":" ++ xs) (items_array (map refused_data refused)))

pub sized_segments : (before : List ℕ) (later : Bool) (length : ℕ) (path : List (List ℕ)) → before ≡ comma_if later
    → before ++ (codes "{\"length\":" ++ (decimal length ++ (codes ",\"path\":" ++ (compact_text (path_data path)
    ++ codes "}")))) ≡ comma_if later ++ compact_text (sized_data length path)
unfolding escape_byte
sized_segments before later length path same = rw same refl

pub refused_text : (later : Bool) (one : Refused) (before code word : List ℕ) → before ≡ comma_if later
    → code ≡ refusal_code one.refusal → word ≡ refusal_word one.refusal
    → (before ++ codes "{\"path\":") ++ (quoted (printable one.path.items) ++ (codes ",\"refusal\":" ++ (quoted code
    ++ (codes ",\"what\":" ++ (quoted word ++ codes "}"))))) ≡ comma_if later ++ compact_text (refused_data one)
unfolding escape_byte
refused_text later one before code word a b c =
    rw (a, b, c) (append_assoc (comma_if later) (codes "{\"path\":") (quoted (printable one.path.items)
    ++ (codes ",\"refusal\":" ++ (quoted (refusal_code one.refusal)
    ++ (codes ",\"what\":" ++ (quoted (refusal_word one.refusal) ++ codes "}"))))))

-- the object on its line: the members up to the files, those up to what is refused, and the bracket
pub scan_record : (found : Inventory) (bytes piece_length : ℕ) (refused : List Refused)
    → bytes ≡ total_of found.lengths.items → piece_length ≡ auto_piece_length bytes → refused ≡ found.refused.items
    → files_member bytes found ++ (refused_member piece_length refused ++ codes "}\n") ≡ scan_line found
unfolding escape_byte
scan_record found bytes piece_length refused a b c =
    let total = total_of found.lengths.items in
    let size = auto_piece_length total in
    let files =
    compact_text (array (items_of (map (scanned_data found) (range_with_len 0 (length found.paths.items))))) in
    let others = compact_text (array (items_of (map refused_data found.refused.items))) in
    let right =
    two (codes "{\"bytes\":") (decimal total) _ _ (codes "\n")
    (two (codes ",\"files\":") files _ _ (codes "\n")
    (two (codes ",\"piece_length\":") (decimal size) _ _ (codes "\n")
    (two (codes ",\"refused\":") others (codes "}") (codes "}\n") (codes "\n") refl))) in
    let left =
    two (codes "{\"bytes\":") (decimal total) (codes ",\"files\":" ++ files) _
    (refused_member size found.refused.items ++ codes "}\n")
    (append_assoc (codes ",\"files\":") files (refused_member size found.refused.items ++ codes "}\n")
    ∙ ap (λ (xs : List ℕ). codes ",\"files\":" ++ (files ++ xs))
    (two (codes ",\"piece_length\":") (decimal size) (codes ",\"refused\":" ++ others) _ (codes "}\n")
    (append_assoc (codes ",\"refused\":") others (codes "}\n")))) in
    rw (b, a, c) (left ∙ sym right)
