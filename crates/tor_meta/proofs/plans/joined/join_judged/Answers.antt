-- the rows are those of the lots, and the plan is the listing's
use Rattle.std.proofs.Common.{◌≡◌, ◌∙◌, ℕ, List, ap, length, map, subst, sym}
use Rattle.tor_engine.specs.declared.lot.PieceRow.{PieceRow}
use Rattle.tor_merkle.specs.Layer.{pieces_root}
use Rattle.tor_bencode.specs.Spelling.{spelling}
use Rattle.tor_meta.specs.Contents.{files_of}
use Rattle.tor_meta.specs.Head.{settings_of}
use Rattle.tor_meta.specs.JudgedPlan.{bytes_of_plan}
use Rattle.tor_meta.specs.Listing.{ListingFacts, text_of_listing}
use Rattle.tor_meta.specs.Lots.{AreJoinedFacts, AreNotAll, plan_of_text}
use Rattle.tor_spec.specs.Facts.{Facts}
use Rattle.tor_spec.specs.Metainfo.{metainfo, root_dictionary}
use Rattle.tor_tree.specs.FileList.{lengths_of}
use Rattle.tor_meta.specs.steps.Join.{texts_of}
use Rattle.tor_meta.proofs.JoinedLots.{all_there, rows_made, torrent_joined}
use Rattle.tor_parts.specs.JoinedRows.{AreRowsOf, HasAllPieces, hashes_of, sums_of}
use Rattle.tor_parts.proofs.ProvedLaws.{rows_have_all_pieces}
use Rattle.tor_plan.specs.PlanFacts.{PlanFacts}
use Rattle.tor_engine.proofs.ProvedLaws.{stopped, stopped_by}
use Rattle.tor_meta.proofs.plans.joined.join_judged.Goals as goal

-- the listing that was lent is the plan's
pub torrent_of_rows-requires-clause-planned : goal.torrent_of_rows-requires-clause-planned
torrent_of_rows-requires-clause-planned c =
    c.in_ok-units.ensures.same ∙ ap (λ (l : ListingFacts). plan_of_text (text_of_listing l)) (sym c.listing.ensures.value)

pub torrent_of_rows-requires-clause-counted : goal.torrent_of_rows-requires-clause-counted
torrent_of_rows-requires-clause-counted c =
    let units = c.in_ok-units.units in
    let of_lots = c.in-Ok.ensures.rows.2 in
    subst (λ (rs : List PieceRow). HasAllPieces units rs) (sym c.deref.ensures.value)
    (rows_have_all_pieces units c.units-planned.ensures.planned c.in-Ok.rows.items of_lots.some of_lots.pieces)

-- where the lots are not all there
pub returns-in-Err-clause-refused : goal.returns-in-Err-clause-refused
returns-in-Err-clause-refused c =
    let texts = texts_of c.args.lots.now in
    let root = pieces_root (bytes_of_plan c.args.plan.now) in
    subst (λ (p : PlanFacts). AreNotAll p root texts c.in-Err.error) c.in_ok-units.ensures.same
    (subst (λ (d : List ℕ). AreNotAll c.in_ok-units.units d texts c.in-Err.error) c.digest-digest.ensures
    c.in-Err.ensures.refused)

pub returns-clause-joined : goal.returns-clause-joined
returns-clause-joined c =
    let listing = c.args.plan.now.listing in
    let rows = c.in-Ok.rows.items in
    let bytes = c.in_ok-bytes.bytes.items in
    let given = c.deref.result.now in
    let told = c.in-Ok.ensures.rows in (
      length rows,
      told.0,
      all_there listing rows given told.0 bytes c.deref.ensures.value c.in_ok-units.units
          (pieces_root (bytes_of_plan c.args.plan.now)) c.digest-digest.result (texts_of c.args.lots.now)
          c.in_ok-units.ensures.same c.digest-digest.ensures told.1,
      torrent_joined listing rows given told.0 bytes c.deref.ensures.value told.2.each
          (subst (λ (l : ListingFacts). (facts : List Facts) → AreJoinedFacts (text_of_listing l) (hashes_of given) facts
          → bytes ≡ spelling (root_dictionary (settings_of l.head) facts (sums_of given))) c.listing.ensures.value
          c.in_ok-bytes.ensures.any),
    )

pub returns-clause-made : goal.returns-clause-made
returns-clause-made c = λ contents fit are.
    let rows = c.in-Ok.rows.items in
    let bytes = c.in_ok-bytes.bytes.items in
    let told = c.in-Ok.ensures.rows in
    subst (λ (l : ListingFacts). map length contents ≡ lengths_of l.list.files
    → AreRowsOf c.in_ok-units.units contents c.deref.result.now
    → bytes ≡ metainfo (text_of_listing l).settings (files_of l.list contents)) c.listing.ensures.value
    (c.in_ok-bytes.ensures.made contents) fit
    (rows_made c.args.plan.now.listing rows c.deref.result.now told.0 bytes c.deref.ensures.value
    c.in_ok-units.units (pieces_root (bytes_of_plan c.args.plan.now)) c.digest-digest.result (texts_of c.args.lots.now)
    c.in_ok-units.ensures.same c.digest-digest.ensures told.1 told.2 contents are)

-- where there is no memory for the units
pub returns-in_err-units : goal.returns-in_err-units
returns-in_err-units c =
    let r = c.from_residual.result in
    let is = c.from_residual.ensures.1 in record {
      joined = stopped _ _ r is;
      refused = stopped_by _ _ r is tt;
      made = λ contents fit are. stopped _ _ r is;
      info = stopped _ _ r is;
    }

-- where there is no memory for the bytes
pub returns-in_err-bytes : goal.returns-in_err-bytes
returns-in_err-bytes c =
    let r = c.from_residual-in_err-bytes.result in
    let is = c.from_residual-in_err-bytes.ensures.1 in record {
      joined = stopped _ _ r is;
      refused = stopped_by _ _ r is tt;
      made = λ contents fit are. stopped _ _ r is;
      info = stopped _ _ r is;
    }
