-- The segments of what a recheck prints.
use Rattle.std.proofs.Common.{◌≡◌, ◌∙◌, refl, ap, ℕ, Bool, List, [], ◌++◌, append_assoc, codes, Option, Some}
use Rattle.std.specs.Prelude.{decimal}
use Rattle.hex.specs.Hex.{encode_lower}
use Rattle.json.specs.Print.{escape_byte, quoted}
use Rattle.serde_json.specs.Data.{array, object}
use Rattle.serde_json.specs.View.{items_of}
use Rattle.serde_json.specs.Written.{compact_text}
use Rattle.std.specs.Prelude.{map}
use Rattle.tor_spec.specs.declared.hashes.Hashes.{Hashes}
use Rattle.tor_view.specs.Bitfield.{bitfield}
use Rattle.tor_view.specs.declared.files.FileFound.{FileFound}
use Rattle.tor_report.specs.Escape.{escaped}
use Rattle.tor_report.specs.Records.{hash_data, path_data}
use Rattle.tor_report.specs.Shown.{path_text}
use Rattle.tor_report.specs.Words.{word_of}
use Rattle.tor_spec.specs.valid.View.{View}
use Rattle.tor_tree.specs.declared.tree_file.TreeFile.{TreeFile}
use Rattle.tor_cli.specs.make.CheckAfter.{counts_of}
use Rattle.tor_cli.specs.recheck.FoundFiles.{found_line, length_text, state_word}
use Rattle.tor_cli.specs.recheck.Recheck.{counts_text, recheck_text}
use Rattle.tor_cli.specs.steps.FoundMembers.{after_files, before_files, found_members}
use Rattle.tor_cli.specs.text.Records.{files_data, found_data, length_data, range_data, recheck_members}
use Rattle.tor_cli.specs.declared.recheck.bytes_found.BytesFound.{BytesFound}
use Rattle.tor_cli.specs.declared.recheck.counts.PieceCounts.{PieceCounts}
use Rattle.tor_cli.specs.declared.recheck.listing.FileListing.{FileListing}

-- ---- the lines

pub line_segments : (found : FileFound) (file : TreeFile) (word there : List ℕ) → word ≡ state_word found.state
    → there ≡ length_text found.there
    → word ++ (codes " " ++ (decimal found.good ++ (codes " " ++ (decimal found.pieces ++ (codes " " ++ (there
    ++ (codes " " ++ (decimal found.told ++ (codes " " ++ (escaped (path_text file.path) ++ codes "\n"))))))))))
    ≡ found_line found file
line_segments found file word there a b = rw (a, b) refl

pub counts_segments : (bits : List Bool) (counts : PieceCounts) → counts ≡ counts_of bits
    → codes "pieces " ++ (decimal counts.good ++ (codes " of " ++ (decimal counts.pieces ++ codes "\n")))
    ≡ counts_text bits
counts_segments bits counts same = rw same refl

pub bits_segments : (bits : List Bool) (packed : List ℕ) (counts : PieceCounts) → counts ≡ counts_of bits
    → packed ≡ bitfield bits
    → codes "pieces " ++ (decimal counts.good ++ (codes " of " ++ (decimal counts.pieces
    ++ (codes "\nbits " ++ (encode_lower packed ++ codes "\n"))))) ≡ recheck_text bits
bits_segments bits packed counts same packs = rw (same, packs) refl

-- ---- the record

pub hash_segments : (packed : List ℕ) (hashes : Hashes) (v1 v2 : Option (List ℕ)) → v1 ≡ hashes.v1 → v2 ≡ hashes.v2
    → codes "{\"bits\":" ++ (compact_text (hash_data [] (Some packed)) ++ (codes ",\"btih\":"
    ++ (compact_text (hash_data [] v1) ++ (codes ",\"btmh\":" ++ (compact_text (hash_data (codes "1220") v2)
    ++ codes ",\"files\":"))))) ≡ before_files packed hashes
hash_segments packed hashes v1 v2 a b = rw (a, b) refl

pub plain_segments : (view : View) (bits : List Bool) (counts : PieceCounts) (kind name : List ℕ) (piece_length : ℕ)
    → counts ≡ counts_of bits → kind ≡ word_of view.kind → name ≡ view.name → piece_length ≡ view.piece_length
    → codes ",\"good\":" ++ (decimal counts.good ++ (codes ",\"kind\":" ++ (quoted kind ++ (codes ",\"name\":"
    ++ (quoted name ++ (codes ",\"piece_length\":" ++ (decimal piece_length ++ (codes ",\"pieces\":"
    ++ (decimal counts.pieces ++ codes "}"))))))))) ≡ after_files view bits
plain_segments view bits counts kind name piece_length a b c d = rw (a, b, c, d) refl

pub file_segments : (found : FileFound) (file : TreeFile) (word there : List ℕ) → word ≡ state_word found.state
    → there ≡ compact_text (length_data found.there)
    → codes ",\"good\":" ++ (decimal found.good ++ (codes ",\"path\":" ++ (compact_text (path_data file.path)
    ++ (codes ",\"pieces\":" ++ (decimal found.pieces ++ (codes ",\"state\":" ++ (quoted word
    ++ (codes ",\"there\":" ++ (there ++ (codes ",\"told\":" ++ (decimal found.told ++ codes "}")))))))))))
    ≡ found_members found file
file_segments found file word there a b = rw (a, b) refl

-- the object of a file: the ranges, and the members after them
pub found_text : (told : BytesFound) (file : TreeFile)
    → codes "{\"bad\":" ++ (compact_text (array (items_of (map range_data told.bad.items)))
    ++ found_members told.found file) ≡ compact_text (found_data told file)
unfolding escape_byte
found_text told file = refl

two : (k v m n rest : List ℕ) → m ++ rest ≡ n → (k ++ (v ++ m)) ++ rest ≡ k ++ (v ++ n)
two k v m n rest same =
    append_assoc k (v ++ m) rest
    ∙ ap (λ (xs : List ℕ). k ++ xs) (append_assoc v m rest ∙ ap (λ (xs : List ℕ). v ++ xs) same)

before_and : (packed : List ℕ) (hashes : Hashes) (rest : List ℕ) → before_files packed hashes ++ rest
    ≡ codes "{\"bits\":" ++ (compact_text (hash_data [] (Some packed))
    ++ (codes ",\"btih\":" ++ (compact_text (hash_data [] hashes.v1)
    ++ (codes ",\"btmh\":" ++ (compact_text (hash_data (codes "1220") hashes.v2)
    ++ (codes ",\"files\":" ++ rest))))))
before_and packed hashes rest =
    two (codes "{\"bits\":") (compact_text (hash_data [] (Some packed))) _ _ rest
    (two (codes ",\"btih\":") (compact_text (hash_data [] hashes.v1)) _ _ rest
    (two (codes ",\"btmh\":") (compact_text (hash_data (codes "1220") hashes.v2)) (codes ",\"files\":") _ rest refl))

-- the object: the members before the files, the files, the members after them
pub object_text : (listing : FileListing) (view : View) (hashes : Hashes) (bits : List Bool) (told : List BytesFound)
    (packed : List ℕ) → packed ≡ bitfield bits
    → before_files packed hashes ++ (compact_text (files_data listing told view.files) ++ after_files view bits)
    ≡ compact_text (object (recheck_members listing view hashes bits told))
unfolding escape_byte
object_text listing view hashes bits told packed packs =
    rw packs (before_and (bitfield bits) hashes
    (compact_text (files_data listing told view.files) ++ after_files view bits))
