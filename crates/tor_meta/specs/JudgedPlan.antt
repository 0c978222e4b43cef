-- A plan that was read, and of which a torrent is made: what it tells, and its digest.
use Rattle.std.specs.Prelude.{◌≡◌, ℕ, List, None}
use Rattle.tor_merkle.specs.Layer.{pieces_root}
use Rattle.tor_meta.specs.Listing.{ListingFacts, listing_refusal, text_of_listing}
use Rattle.tor_meta.specs.PlanText.{IsPlanText, plan_bytes}

-- a listing, and a digest (profile)
pub record JudgedPlanFacts : Type 0 where
  pub listing : ListingFacts
  pub digest : List ℕ

-- the bytes that a plan was read of
abbrev pub bytes_of_plan : JudgedPlanFacts → List ℕ
bytes_of_plan plan = plan_bytes (text_of_listing plan.listing)

-- a plan tells the listing, of which a torrent is made, and the digest is the root of a file that has the plan's bytes
-- (BEP 52, "pieces root")
pub record IsJudgedPlan (plan : JudgedPlanFacts) : Type 0 where
  pub told : IsPlanText (text_of_listing plan.listing)
  pub accepted : listing_refusal (text_of_listing plan.listing) ≡ None
  pub digested : plan.digest ≡ pieces_root (bytes_of_plan plan)
