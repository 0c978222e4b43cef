-- The bytes of the files of a torrent, all together.
use Rattle.std.proofs.Common.{◌≡◌, ◌∙◌, refl, sym, ap, ℕ, ◌≤◌, Bool, true, false, List, [], ◌∷◌, map, arith}
use Rattle.std.proofs.lemmas.Bool.{cond-false, cond-true}
use Rattle.std.proofs.lemmas.List.Filters.{sum_by-filter_both}
use Rattle.std.proofs.lemmas.List.Sums.{sum-map, sum_by-cons}
use Rattle.std.specs.Prelude.{not, sum}
use Rattle.tor_plan.specs.Entries.{entries_length}
use Rattle.tor_view.specs.Pieces.{IsCut}
use Rattle.tor_spec.specs.valid.View.{FileView, View}
use Rattle.tor_tree.specs.Kinds.{has_v1}
use Rattle.tor_tree.specs.declared.lists.TheConstants.{MAX_TOTAL}
use Rattle.tor_v1.specs.Content.{file_entries}
use Rattle.tor_v1.specs.Entries.{file_entry}
use Rattle.tor_v1.specs.declared.entry.Entry.{Entry}
use Rattle.tor_report.specs.Records.{total_length}

abbrev length_of_entry : Entry → ℕ
length_of_entry entry = entry.length

abbrev length_of_file : FileView → ℕ
length_of_file told = told.file.length

abbrev entry_of_file : FileView → Entry
entry_of_file told = file_entry (told.file.path, told.file.length)

twice : (b : Bool) → b ≡ not (not b)
twice true = refl
twice false = refl

without_padding : (entries : List Entry) → sum (map length_of_entry (file_entries entries)) ≤ entries_length entries
without_padding entries =
    let parts = sum_by-filter_both (λ (entry : Entry). not entry.pad) (λ entry. entry.pad) (λ entry. twice entry.pad)
    length_of_entry entries in
    let same = sum-map length_of_entry (file_entries entries) in
    omega (arith, parts, same)

as_entries : (files : List FileView) → entries_length (map entry_of_file files) ≡ total_length files
as_entries [] = refl
as_entries (told ∷ files) =
    let first = sum_by-cons length_of_entry (entry_of_file told) (map entry_of_file files) in
    let same = sum_by-cons length_of_file told files in
    omega (arith, first, same, as_entries files)

by_side : (view : View) (t : Bool) → has_v1 view.kind ≡ t → IsCut view → total_length view.files ≤ MAX_TOTAL
by_side view true is cut =
    let cut_entries = ap entries_length (cond-true (has_v1 view.kind) view.entries (map entry_of_file view.files) is) in
    let same = sym (sum-map length_of_file view.files) ∙ ap sum (sym (cut.same is)) in
    omega (arith, cut.entries.total, cut_entries, same, without_padding view.entries)
by_side view false is cut =
    let cut_entries =
    ap entries_length (cond-false (has_v1 view.kind) view.entries (map entry_of_file view.files) is) in
    omega (arith, cut.entries.total, cut_entries, as_entries view.files)

pub total_fits : (view : View) → IsCut view → total_length view.files ≤ MAX_TOTAL
total_fits view cut = by_side view (has_v1 view.kind) refl cut
