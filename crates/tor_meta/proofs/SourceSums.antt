-- What a source's files sum up to, as a plan of them has it and as a head asks for it.
use Rattle.std.proofs.Common.{◌≡◌, ℕ, Bool, true, false, not, cond, ◌&&◌, List, [], ◌∷◌, length}
use Rattle.std.proofs.Common.{map, nat_lt, option_map, Option, None, Some, refl, ap, subst, sym, ◌∙◌, arith}
use Rattle.std.specs.List.{flat_map}
use Rattle.std.proofs.lemmas.Bool.{and_right}
use Rattle.tor_sums.specs.Sums.{AreSumsOf, AreSumsOfPlan, plan_content}
use Rattle.tor_sums.specs.declared.sums.Sums.{Sums as Hashed}
use Rattle.tor_merkle.specs.Layer.{root_of as merkle_root}
use Rattle.tor_meta.specs.Head.{settings_of}
use Rattle.tor_meta.specs.Order.{has_tail}
use Rattle.tor_meta.specs.steps.Sums.{IsJudged, IsPlanOf, SumUp}
use Rattle.tor_meta.specs.declared.head.Head.{Head}
use Rattle.tor_plan.specs.Content.{cut_content, layout_of_kind as plan_layout, unit_content}
use Rattle.tor_plan.specs.Entries.{entry_units, lengths_of_entries}
use Rattle.tor_plan.specs.EntryList.{IsEntryList}
use Rattle.tor_plan.specs.PlanFacts.{PlanFacts, plan_of_entries}
use Rattle.tor_merkle.specs.Layer.{root_of}
use Rattle.tor_spec.specs.Settings.{is_aligned, layout_of}
use Rattle.tor_tree.specs.Kinds.{has_v1, has_v2}
use Rattle.tor_tree.specs.FileList.{lengths_of}
use Rattle.tor_tree.specs.Kinds.{has_v1 as kind_has_v1, has_v2 as kind_has_v2}
use Rattle.tor_tree.specs.declared.kinds.Kind.{Kind}
use Rattle.tor_tree.specs.declared.kinds.Kind.TheVariants.{V1, V2, Hybrid}
use Rattle.tor_v1.specs.Content.{AreContentsOf, joined_content, v1_pieces}
use Rattle.tor_v1.specs.Entries.{aligned_entries, file_entry, v1_entries}
use Rattle.tor_v1.specs.declared.entry.Entry.{Entry}
use Rattle.tor_v1.specs.declared.layout.Layout.TheVariants.{Joined, Aligned, AlignedTail}

pub mapped_none : {X Y : Type 0} (f : X → Y) (a : Option X) → option_map f a ≡ None → a ≡ None
mapped_none f None h = refl
mapped_none f (Some x) h = cc

same_roots : (contents : List (List ℕ)) → map merkle_root contents ≡ map root_of contents
same_roots [] = refl
same_roots ([] ∷ contents) = ap (λ roots. None ∷ roots) (same_roots contents)
same_roots ((byte ∷ bytes) ∷ contents) = ap (λ roots. root_of (byte ∷ bytes) ∷ roots) (same_roots contents)

same_v2 : (kind : Kind) → has_v2 kind ≡ true → kind_has_v2 kind ≡ true
same_v2 V1 h = cc
same_v2 V2 h = refl
same_v2 Hybrid h = refl

same_v1 : (kind : Kind) → has_v1 kind ≡ true → kind_has_v1 kind ≡ true
same_v1 V1 h = refl
same_v1 V2 h = cc
same_v1 Hybrid h = refl

-- one file has no padding
one_entry : (p : ℕ) (files : List (List (List ℕ) × ℕ)) → length files ≡ 1 →
    aligned_entries false p files ≡ map file_entry files
unfolding aligned_entries
one_entry p [] h = cc
one_entry p (file ∷ other ∷ files) h = absurd (omega (arith, h))
one_entry p (file ∷ []) h = rw (and_right (nat_lt 0 _) false refl) refl

pub same_entries : (head : Head) (files : List (List (List ℕ) × ℕ)) → (head.single ≡ true → length files ≡ 1) →
    v1_entries (plan_layout head.kind (has_tail (settings_of head))) head.piece_length files
    ≡ v1_entries (layout_of (settings_of head)) head.piece_length files
same_entries head files one = by_kind head.kind head.single head.tail one
  where
    by_kind : (kind : Kind) (single tail : Bool) → (single ≡ true → length files ≡ 1) →
        v1_entries (plan_layout kind (not single && tail)) head.piece_length files
        ≡ v1_entries (cond (is_aligned kind single) (cond tail AlignedTail Aligned) Joined) head.piece_length files
    by_kind V1 single tail one = refl
    by_kind V2 single tail one = refl
    by_kind Hybrid false false one = refl
    by_kind Hybrid false true one = refl
    by_kind Hybrid true tail one = one_entry head.piece_length files (one refl)

-- of the entries that the torrent has
sums_of_entries : (head : Head) (files : List (List (List ℕ) × ℕ)) (contents : List (List ℕ)) (hashed : Hashed)
    → AreSumsOf head.kind head.piece_length contents
    (joined_content (v1_entries (layout_of (settings_of head)) head.piece_length files) contents) hashed
    → SumUp head files contents hashed
unfolding v1_pieces
sums_of_entries head files contents hashed sums = record {
  roots = λ e. let there = same_v2 head.kind e in (rw there at sums.roots) ∙ same_roots contents;
  layers = λ e. let there = same_v2 head.kind e in rw there at sums.layers;
  pieces = λ e. let there = same_v1 head.kind e in rw there at sums.pieces;
}

pub sums_of_files : (head : Head) (files : List (List (List ℕ) × ℕ)) (contents : List (List ℕ)) (hashed : Hashed)
    → IsJudged head files
    → AreSumsOf head.kind head.piece_length contents
    (cut_content head.kind (has_tail (settings_of head)) head.piece_length files contents) hashed
    → SumUp head files contents hashed
sums_of_files head files contents hashed judged sums =
    sums_of_entries head files contents hashed
    (subst (λ (entries : List Entry). AreSumsOf head.kind head.piece_length contents (joined_content entries contents)
    hashed) (same_entries head files judged.one) sums)

-- ---- a plan of those entries

abbrev pub entries_for : Head → List (List (List ℕ) × ℕ) → List Entry
entries_for head files = v1_entries (layout_of (settings_of head)) head.piece_length files

abbrev pub entries_by_plan : Head → List (List (List ℕ) × ℕ) → List Entry
entries_by_plan head files =
    v1_entries (plan_layout head.kind (has_tail (settings_of head))) head.piece_length files

pub can_plan : (head : Head) (files : List (List (List ℕ) × ℕ)) (entries : List Entry) → IsJudged head files
    → entries ≡ entries_for head files → IsEntryList head.kind head.piece_length (entries_by_plan head files)
    → IsEntryList head.kind head.piece_length entries
can_plan head files entries judged are listed =
    subst (IsEntryList head.kind head.piece_length) (same_entries head files judged.one ∙ sym are) listed

pub plan_is : (head : Head) (span : ℕ) (files : List (List (List ℕ) × ℕ)) (entries : List Entry) (plan : PlanFacts)
    → IsJudged head files → entries ≡ entries_for head files
    → lengths_of_entries (entries_by_plan head files) ≡ lengths_of files
    → ((contents : List (List ℕ)) → AreContentsOf entries contents
    → flat_map (unit_content contents) (entry_units head.kind head.piece_length span entries)
    ≡ joined_content entries contents)
    → plan ≡ plan_of_entries head.kind head.piece_length span entries → IsPlanOf head files plan
plan_is head span files entries plan judged are lengths law made = record {
  kind = ap (λ plan. plan.kind) made;
  piece_length = ap (λ plan. plan.piece_length) made;
  lengths = ap (λ plan. plan.lengths) made
      ∙ ap lengths_of_entries (are ∙ sym (same_entries head files judged.one)) ∙ lengths;
  content = λ contents fit. ap (λ plan. plan_content plan contents) made
      ∙ law contents (fit ∙ ap (λ plan. plan.lengths) made) ∙ ap (λ es. joined_content es contents) are;
}

-- its sums are those that the head asks for
pub from_plan : (head : Head) (files : List (List (List ℕ) × ℕ)) (hashed : Hashed) (plan : PlanFacts)
    (contents : List (List ℕ)) → IsPlanOf head files plan → map length contents ≡ plan.lengths
    → AreSumsOfPlan plan contents hashed → (map length contents ≡ lengths_of files) × SumUp head files contents hashed
from_plan head files hashed plan contents is fit sums =
    let by_head : AreSumsOf head.kind head.piece_length contents (plan_content plan contents) hashed =
    rw (is.kind, is.piece_length) at sums in (
      fit ∙ is.lengths,
      sums_of_entries head files contents hashed
          (subst (λ (joined : List ℕ). AreSumsOf head.kind head.piece_length contents joined hashed)
          (is.content contents fit) by_head),
    )
