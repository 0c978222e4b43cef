-- One file after the other.
use Rattle.std.proofs.Common.{◌++◌, ◌∷◌, ◌∙◌, [], List, ap, arith, get_or, map, refl, subst, sym}
use Rattle.std.proofs.lemmas.List.{map_push, take_all, take_more}
use Rattle.tor_view.specs.FileBytes.{PiecedFile}
use Rattle.tor_view.specs.declared.files.FileFound.{FileFound}
use Rattle.tor_cli.specs.declared.recheck.bytes_found.BytesFound.{BytesFound}
use Rattle.tor_cli.specs.recheck.FoundFiles.{nothing_told}
use Rattle.tor_cli.specs.recheck.BadBytes.{HaveBadRanges}
use Rattle.tor_cli.proofs.BadBytes.{found_count, none_told, one_more_told}
use Rattle.tor_cli.proofs.recheck.bytes_found.bytes_found.Goals as goal

pub files-init : goal.files-init
files-init c = rw c.in_ok-told.ensures.items (refl, none_told c.in_ok-pieces.pieces.items c.args.bits.now)

pub files-preserved : goal.files-preserved
files-preserved c =
    let told = c.files.told.items in
    let files = c.args.files.now in
    let pushed = c.in_ok-push.ensures.items in
    let count = found_count told files c.files.index (omega (arith, c.files-test.true)) c.files.invariant.0 in (
      ap (map (λ (one : BytesFound). one.found)) pushed ∙ map_push (λ (one : BytesFound). one.found) told _
          ∙ ap (λ (found : List FileFound). found ++ get_or files c.files.index nothing_told ∷ []) c.files.invariant.0
          ∙ sym (take_more files c.files.index nothing_told c.files-test.true),
      subst (HaveBadRanges c.in_ok-pieces.pieces.items c.args.bits.now) (sym pushed)
          (one_more_told c.in_ok-pieces.pieces.items c.args.bits.now told _ c.files.invariant.1
          (rw (count, sym c.deref.ensures.value) c.in_ok-bad.ensures)),
    )

pub returns : goal.returns
returns c =
    record {
      files = c.files.invariant.0 ∙ take_all c.files.index c.args.files.now c.files-test.false;
      bad = subst (λ (pieces : List PiecedFile). HaveBadRanges pieces c.args.bits.now c.files.told.items)
          c.in_ok-pieces.ensures.files c.files.invariant.1;
    }
