-- the entries can be planned; those without padding by their lengths
use Rattle.std.proofs.Common.{◌≡◌, ◌≤◌, ◌∙◌, ℕ, List, ap, refl, subst, sum, sym}
use Rattle.std.specs.Prelude.{All, IfOk}
use Rattle.tor_merkle.specs.declared.TheConstants.{MAX_LENGTH}
use Rattle.tor_plan.specs.Entries.{lengths_of_entries}
use Rattle.tor_plan.specs.PlanFacts.{plan_of_entries}
use Rattle.tor_tree.specs.FileList.{lengths_of}
use Rattle.tor_tree.specs.declared.lists.TheConstants.{MAX_TOTAL}
use Rattle.tor_v1.specs.declared.entry.Entry.{Entry}
use Rattle.tor_meta.specs.Head.{settings_of}
use Rattle.tor_meta.specs.Order.{has_tail}
use Rattle.tor_meta.proofs.SourceSums.{can_plan, entries_for, same_entries}
use Rattle.tor_meta.proofs.StreamSums.{plan_pieces}
use Rattle.tor_meta.proofs.Unpadded.{few_bytes, one_version, unpadded}
use Rattle.tor_meta.proofs.listed_files.cut_files.Goals as goal

pub of_lengths-requires : goal.of_lengths-requires
of_lengths-requires c =
    let head = c.args.head.now in
    let files = c.args.list.now.files in
    let p = head.piece_length in
    let judged = c.requires.judged in
    let tail = has_tail (settings_of head) in
    let pieces = plan_pieces head.kind p ((c.piece_length_bounds.ensures p).0 judged.piece_length) in
    let is_list = can_plan head files (entries_for head files) judged refl
    (c.files_are_cut_as_entries.ensures.listed head.kind tail p files judged.is_list pieces) in
    let all : lengths_of_entries (entries_for head files) ≡ lengths_of files =
    ap lengths_of_entries (sym (same_entries head files judged.one))
    ∙ c.files_are_cut_as_entries.ensures.lengths head.kind tail p files in
    let is = sym (c.in_ok-lengths-in-V1.ensures ∙ ap lengths_of c.files.ensures.value) in
    record {
      joined = one_version head.kind c.in-V1.is;
      pieces = pieces;
      span = c.requires.span;
      total = subst (λ (xs : List ℕ). sum xs ≤ MAX_TOTAL) is (few_bytes head files c.in-V1.is is_list);
      files = subst (All (λ m. m ≤ MAX_LENGTH)) (all ∙ is) is_list.files;
    }

pub returns-in_ok-lengths-in-V1 : goal.returns-in_ok-lengths-in-V1
returns-in_ok-lengths-in-V1 c =
    let head = c.args.head.now in
    let files = c.args.list.now.files in
    c.of_lengths.ensures (entries_for head files) (unpadded head files c.in-V1.is)
    (ap lengths_of_entries (sym (same_entries head files c.requires.judged.one))
    ∙ c.files_are_cut_as_entries.ensures.lengths head.kind (has_tail (settings_of head)) head.piece_length files
    ∙ sym (c.in_ok-lengths-in-V1.ensures ∙ ap lengths_of c.files.ensures.value))

pub of_entries-requires-clause-entries : goal.of_entries-requires-clause-entries
of_entries-requires-clause-entries c =
    let head = c.args.head.now in
    let files = c.args.list.now.files in
    let p = head.piece_length in
    let judged = c.requires.judged in
    let pieces = plan_pieces head.kind p ((c.piece_length_bounds.ensures p).0 judged.piece_length) in
    can_plan head files c.deref.result.now judged (c.deref.ensures.value ∙ c.in_ok-entries-in-Hybrid.ensures.made)
    (c.files_are_cut_as_entries.ensures.listed head.kind (has_tail (settings_of head)) p files judged.is_list pieces)

pub returns-in_ok-entries-in-Hybrid : goal.returns-in_ok-entries-in-Hybrid
returns-in_ok-entries-in-Hybrid c =
    let head = c.args.head.now in
    subst (λ (es : List Entry). IfOk c.of_entries.result
    (λ plan. plan ≡ plan_of_entries head.kind head.piece_length c.args.span es))
    (c.deref.ensures.value ∙ c.in_ok-entries-in-Hybrid.ensures.made) c.of_entries.ensures
