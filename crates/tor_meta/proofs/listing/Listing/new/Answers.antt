-- a torrent is made of what is not refused
use Rattle.std.proofs.Common.{◌≡◌, ◌&&◌, ◌∙◌, ℕ, true, List, None, ap, nat_le, option_map, subst, sym}
use Rattle.std.proofs.lemmas.Bool.{and_parts, leb-true}
use Rattle.std.specs.Int.{is_power_of_two}
use Rattle.tor_meta.specs.Head.{settings_of}
use Rattle.tor_meta.specs.Judged.{IsJudged}
use Rattle.tor_meta.specs.Order.{is_span}
use Rattle.tor_meta.specs.Refusal.{paths_refusal}
use Rattle.tor_meta.specs.declared.listing_error.ListingError.TheVariants.{Contents}
use Rattle.tor_meta.proofs.Judged.{both_none}
use Rattle.tor_meta.proofs.JudgedFiles.{judged_files}
use Rattle.tor_meta.proofs.SourceSums.{mapped_none}
use Rattle.tor_plan.specs.PlanFacts.{IsSpan}
use Rattle.tor_tree.specs.FileList.{LetteredFiles, paths_of}
use Rattle.tor_meta.proofs.listing.Listing.new.Goals as goal

spanned : (span : ℕ) → is_span span ≡ true → IsSpan span
spanned span is =
    let parts = and_parts (is_power_of_two span) (nat_le 1 span && nat_le span 1024) is in
    let bounds = and_parts (nat_le 1 span) (nat_le span 1024) parts.1 in
    (parts.0, leb-true 1 span bounds.0, leb-true span 1024 bounds.1)

pub invariant_of-result : goal.invariant_of-result
invariant_of-result c =
    let head = c.args.head in
    let files = c.in-Ok.list.files in
    let refusal = λ (fs : List (List (List ℕ) × ℕ)). paths_refusal (settings_of head) (paths_of fs) in
    let accepted : refusal files ≡ None =
    ap refusal c.in-Ok.ensures.same
    ∙ mapped_none Contents (refusal c.deref.result.now)
    (both_none (option_map Contents (refusal c.deref.result.now)) _ c.in-Ok.ensures.accepted).0 in
    record {
      judged = subst (λ (fs : List (List (List ℕ) × ℕ)). IsJudged head fs)
          (sym (ap (λ (list : LetteredFiles). list.files) c.with_attrs.ensures))
          (judged_files head files c.in-Ok.ensures.lawful accepted);
      spanned = spanned c.args.span (sym c.if-not-is_span.ensures);
    }
