-- What a torrent without fault has, and why bytes are no torrent.
use Rattle.std.proofs.Common.{◌≡◌, ◌≤◌, refl, inl, inr, true, false, true≢false, Bool, ℕ, List}
use Rattle.std.proofs.Common.{◌∷◌, cond, Option, None, Some, codes, unwrap_or}
use Rattle.std.specs.Io.KnownBytes.{Appends}
use Rattle.std.specs.Prelude.{IsSome, OnOk, Result, Ok, Err, drop, find, length}
use Rattle.tor_bencode.specs.Data.{Data, dictionary, no_pairs}
use Rattle.tor_bencode.specs.Find.{value_of}
use Rattle.tor_check.specs.Valid.{IsRefusedFor}
use Rattle.tor_check.specs.declared.refusal.Refusal.{Refusal}
use Rattle.tor_check.specs.declared.refusal.Refusal.TheVariants as refusals
use Rattle.tor_spec.specs.Hashes.{AreInfoHashes, HasHash, HasInfo}
use Rattle.tor_spec.specs.declared.hashes.Hashes.{Hashes}
use Rattle.tor_spec.specs.valid.Conditions.{IsTorrentOf, InfoShape, RootShape, conditions, holds, refusal_of}
use Rattle.tor_spec.specs.valid.Heads.{lacks_dictionary}
use Rattle.tor_spec.specs.valid.Parts.{info_of}
use Rattle.tor_tree.specs.declared.kinds.Kind.{Kind}
use Rattle.tor_tree.specs.declared.kinds.Kind.TheVariants.{V1, V2, Hybrid}
use Rattle.tor_report.specs.Reports.{IsCutShort}
use Rattle.tor_report.specs.declared.fault.ReportFault.{ReportFault}
use Rattle.tor_report.specs.declared.fault.ReportFault.TheVariants as reports
use Rattle.tor_cli.specs.Foreign.{AreLinesOf, DoesTell, IsNoTorrent, IsNotTold, StopsTelling}
use Rattle.tor_cli.specs.steps.Writing.{writing}
use Rattle.tor_cli.specs.Status.{of_input_fault, of_refusal, of_report_fault}
use Rattle.tor_cli.specs.Streams.{IsUntouched, Streams}
use Rattle.tor_cli.specs.declared.fault.Fault.{Fault}
use Rattle.tor_cli.specs.declared.fault.Fault.TheVariants as faults
use Rattle.tor_source.specs.declared.input.InputFault.{InputFault}
use Rattle.tor_source.specs.declared.input.InputFault.TheVariants as inputs
use Rattle.tor_source.specs.declared.input.TheConstants.{MAX_INPUT_LENGTH}

-- a refusal is answered as it is, and want of memory is none
pub no_torrent : (bytes : List ℕ) (refusal : Refusal) → IsRefusedFor bytes refusal
    → IsNoTorrent bytes (of_refusal refusal)
no_torrent bytes (refusals.Bencode fault offset) why = (why, λ same. cc)
no_torrent bytes refusals.RootShape why = (why, λ same. cc)
no_torrent bytes refusals.InfoShape why = (why, λ same. cc)
no_torrent bytes refusals.MetaVersion why = (why, λ same. cc)
no_torrent bytes refusals.PieceLength why = (why, λ same. cc)
no_torrent bytes refusals.Name why = (why, λ same. cc)
no_torrent bytes refusals.LengthAndFiles why = (why, λ same. cc)
no_torrent bytes refusals.FileShape why = (why, λ same. cc)
no_torrent bytes refusals.FileLength why = (why, λ same. cc)
no_torrent bytes refusals.Duplicate why = (why, λ same. cc)
no_torrent bytes refusals.FileAndFolder why = (why, λ same. cc)
no_torrent bytes refusals.NoFiles why = (why, λ same. cc)
no_torrent bytes refusals.TooLarge why = (why, λ same. cc)
no_torrent bytes refusals.Symlink why = (why, λ same. cc)
no_torrent bytes refusals.PiecesLength why = (why, λ same. cc)
no_torrent bytes refusals.MixedNode why = (why, λ same. cc)
no_torrent bytes refusals.RootHash why = (why, λ same. cc)
no_torrent bytes refusals.LayersAbsent why = (why, λ same. cc)
no_torrent bytes refusals.LayerAbsent why = (why, λ same. cc)
no_torrent bytes refusals.LayerLength why = (why, λ same. cc)
no_torrent bytes refusals.LayerRoot why = (why, λ same. cc)
no_torrent bytes refusals.FilesDiffer why = (why, λ same. cc)
no_torrent bytes refusals.Alignment why = (why, λ same. cc)
no_torrent bytes refusals.AttrDiffer why = (why, λ same. cc)
no_torrent bytes refusals.Memory why = tt

-- what did not go out whole is a text of the torrent
pub cut_short : (lines : Data → Hashes → List ℕ) (bytes text : List ℕ) (writer writer' : Option (List ℕ))
    (fault : ReportFault) → AreLinesOf lines bytes text → IsCutShort text writer writer' fault
    → IsNotTold lines bytes writer writer' (of_report_fault fault)
cut_short lines bytes text writer writer' reports.Memory are same = (tt, same)
cut_short lines bytes text writer writer' (reports.Write fault) are front = (text, are, front)

-- what went out whole is of bytes that were read whole
pub told_whole : {E : Type 0} (lines : Data → Hashes → List ℕ) (bytes : List ℕ)
    (reader writer writer' : Option (List ℕ)) → length bytes ≤ MAX_INPUT_LENGTH
    → (result : Result (Unit {0}) E)
    → OnOk result ((text : List ℕ) × AreLinesOf lines bytes text × Appends writer writer' text)
    → OnOk result (DoesTell lines (writing reader writer writer'))
told_whole lines bytes reader writer writer' within (Ok done) (text, are, appends) =
    (refl, (bytes, within, (text, are, appends)))
told_whole lines bytes reader writer writer' within (Err fault) told = tt

module _ (lines : Data → Hashes → List ℕ) (s : Streams) (untouched : IsUntouched s) where
  -- a fault of reading, before anything was written
  pub stops_reading : (fault : InputFault) → StopsTelling lines s (of_input_fault fault)
  stops_reading (inputs.Read fault) = untouched
  stops_reading inputs.TooLong = untouched
  stops_reading inputs.Memory = untouched

  -- a fault of judging, of bytes that were read whole
  pub stops_judging : (bytes : List ℕ) → length bytes ≤ MAX_INPUT_LENGTH → (fault : Fault) → IsNoTorrent bytes fault
      → StopsTelling lines s fault
  stops_judging bytes within (faults.Usage line) why = absurd why
  stops_judging bytes within (faults.Name fault) why = absurd why
  stops_judging bytes within (faults.Scan fault) why = absurd why
  stops_judging bytes within (faults.Make error) why = absurd why
  stops_judging bytes within (faults.Refused refusal) why = ((bytes, within, why), untouched)
  stops_judging bytes within (faults.Piece error) why = absurd why
  stops_judging bytes within (faults.Recheck error) why = absurd why
  stops_judging bytes within (faults.Plan error) why = absurd why
  stops_judging bytes within (faults.Join error part) why = absurd why
  stops_judging bytes within (faults.NotAsMade good pieces) why = absurd why
  stops_judging bytes within faults.OutAmongFiles why = absurd why
  stops_judging bytes within (faults.Argument fault) why = absurd why
  stops_judging bytes within (faults.Read fault) why = absurd why
  stops_judging bytes within faults.TooLong why = absurd why
  stops_judging bytes within (faults.Write written) why = absurd why
  stops_judging bytes within faults.Resources why = untouched
