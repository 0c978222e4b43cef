-- the entries are those of the files; if they have no padding, their lengths tell all
use Rattle.tor_plan.proofs.Names.{◌≡◌, ◌≤◌, ◌∙◌, false, ap, subst, sum, sym, All, IfOk, List, ℕ, MAX_LENGTH, MAX_TOTAL}
use Rattle.tor_plan.proofs.Names.{Entry, Kind, IsEntryList, Hybrid, layout_of_kind, lengths_of, plan_of_entries}
use Rattle.tor_plan.proofs.Names.{v1_entries}
use Rattle.tor_plan.proofs.Contents.{File}
use Rattle.tor_plan.proofs.FileSizes.{files_are_list, joined_unpadded, lengths_are_few, lengths_are_small, not_hybrid}
use Rattle.tor_plan.proofs.FilesAsEntries.{lengths_of_files}
use Rattle.tor_plan.proofs.Sizes.{v1_piece}
use Rattle.tor_plan.proofs.plans.Plan.new.Goals as goal

pub of_lengths-requires : goal.of_lengths-requires
of_lengths-requires c =
    let files = c.args.list.now.files in
    let lawful = c.files-files.ensures.lawful in
    let is = sym (c.in_ok-lengths-in-V1.ensures ∙ ap lengths_of c.files-files.ensures.value) in
    record {
      joined = not_hybrid c.args.kind c.in-V1.is;
      pieces = c.requires.pieces;
      span = c.requires.span;
      total = subst (λ (xs : List ℕ). sum xs ≤ MAX_TOTAL) is (lengths_are_few files lawful);
      files = subst (All (λ m. m ≤ MAX_LENGTH)) is (lengths_are_small files lawful);
    }

pub returns-in_ok-lengths-in-V1 : goal.returns-in_ok-lengths-in-V1
returns-in_ok-lengths-in-V1 c =
    let kind = c.args.kind in
    let p = c.args.piece_length in
    let files = c.args.list.now.files in
    let layout = layout_of_kind kind false in
    c.of_lengths.ensures (v1_entries layout p files) (joined_unpadded kind p files (not_hybrid kind c.in-V1.is))
    (lengths_of_files layout p files ∙ sym (c.in_ok-lengths-in-V1.ensures ∙ ap lengths_of c.files-files.ensures.value))

pub entries_without_letters-requires : goal.entries_without_letters-requires
entries_without_letters-requires c = v1_piece c.args.kind c.args.piece_length c.requires.pieces

pub of_entries-requires-clause-entries : goal.of_entries-requires-clause-entries
of_entries-requires-clause-entries c =
    let kind = c.args.kind in
    let p = c.args.piece_length in
    let files = c.args.list.now.files in
    subst (IsEntryList kind p) (sym (c.deref.ensures.value ∙ c.in_ok-entries-in-Hybrid.ensures
    ∙ ap (λ (fs : List File). v1_entries (layout_of_kind Hybrid false) p fs) c.files-files.ensures.value
    ∙ ap (λ (k : Kind). v1_entries (layout_of_kind k false) p files) (sym c.in-Hybrid.is)))
    (files_are_list kind false p files c.files-files.ensures.lawful c.requires.pieces)

pub returns-in_ok-entries-in-Hybrid : goal.returns-in_ok-entries-in-Hybrid
returns-in_ok-entries-in-Hybrid c =
    let kind = c.args.kind in
    let p = c.args.piece_length in
    let files = c.args.list.now.files in
    subst (λ (es : List Entry). IfOk c.of_entries.result (λ plan. plan ≡ plan_of_entries kind p c.args.span es))
    (c.deref.ensures.value ∙ c.in_ok-entries-in-Hybrid.ensures
    ∙ ap (λ (fs : List File). v1_entries (layout_of_kind Hybrid false) p fs) c.files-files.ensures.value
    ∙ ap (λ (k : Kind). v1_entries (layout_of_kind k false) p files) (sym c.in-Hybrid.is)) c.of_entries.ensures
