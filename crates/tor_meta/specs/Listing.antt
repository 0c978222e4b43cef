-- What a torrent is to be made with, its files and how they are cut: what a plan tells, judged.
use Rattle.std.specs.Prelude.{◌≡◌, ℕ, not, List as ListOf, Option, None, Some, option_map, if◌then◌else◌}
use Rattle.std.specs.Option.{option_or}
use Rattle.tor_merkle.specs.Layer.{is_piece_length}
use Rattle.tor_meta.specs.Head.{settings_of}
use Rattle.tor_meta.specs.Judged.{IsJudged}
use Rattle.tor_meta.specs.MakeStreams.{are_rising}
use Rattle.tor_meta.specs.Order.{is_span}
use Rattle.tor_meta.specs.PlanText.{IsPlanText, PlanText, plan_bytes}
use Rattle.tor_meta.specs.Refusal.{paths_refusal}
use Rattle.tor_meta.specs.declared.head.Head.{Head}
use Rattle.tor_meta.specs.declared.listing_error.ListingError.{ListingError}
use Rattle.tor_meta.specs.declared.listing_error.ListingError.TheVariants.{Contents, NotSorted, Span}
use Rattle.tor_meta.specs.declared.listing_error.PlanError.{PlanError}
use Rattle.tor_meta.specs.declared.listing_error.PlanError.TheVariants as plan
use Rattle.tor_meta.specs.declared.refusals.ContentsError.TheVariants.{List, PieceLength}
use Rattle.tor_plan.specs.PlanFacts.{IsSpan}
use Rattle.tor_tree.specs.FileList.{LetteredFiles, lengths_fault, lengths_of, paths_of}

-- a head, the files of its torrent in their order with their letters, and how many pieces a unit has (profile)
pub record ListingFacts : Type 0 where
  pub head : Head
  pub span : ℕ
  pub list : LetteredFiles

-- a torrent is made of them (profile)
pub record IsListing (facts : ListingFacts) : Type 0 where
  pub judged : IsJudged facts.head facts.list.files
  pub spanned : IsSpan facts.span

-- what its plan tells
abbrev pub text_of_listing : ListingFacts → PlanText
text_of_listing facts = record { settings = settings_of facts.head; list = facts.list; span = facts.span }

-- why no torrent is made of what a plan tells. It is the refusal of `make`, of the piece length, the span, the paths or
-- the lengths, in this order; and last, that the paths are not in the torrent's order (profile)
abbrev pub listing_refusal : PlanText → Option ListingError
listing_refusal text =
    if not (is_piece_length text.settings.piece_length) then Some (Contents PieceLength) else (
    if not (is_span text.span) then Some Span else (
    option_or (option_map Contents (paths_refusal text.settings (paths_of text.list.files))) (
    option_or (option_map (λ fault. Contents (List fault)) (lengths_fault (lengths_of text.list.files))) (
    if are_rising (paths_of text.list.files) then None else Some NotSorted))))

-- why bytes are no plan that is accepted. They are those of no plan, or those of one of which no torrent is made
-- (profile)
abbrev pub IsPlanRefusal : ListOf ℕ → PlanError → Type 0
IsPlanRefusal bytes plan.NotAPlan = (text : PlanText) → IsPlanText text → bytes ≡ plan_bytes text → ⊥
IsPlanRefusal bytes (plan.Refused refusal) =
    (text : PlanText) × IsPlanText text × (bytes ≡ plan_bytes text) × (listing_refusal text ≡ Some refusal)
IsPlanRefusal bytes plan.Memory = Unit {0}

-- the refusal of a plan that tells this, or want of memory (profile)
abbrev pub IsRefusalOf : PlanText → PlanError → Type 0
IsRefusalOf text plan.NotAPlan = ⊥
IsRefusalOf text (plan.Refused refusal) = listing_refusal text ≡ Some refusal
IsRefusalOf text plan.Memory = Unit {0}
