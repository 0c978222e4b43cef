-- their entries have no padding, and these lengths
use Rattle.tor_recheck.proofs.Names.{◌≡◌, ◌≢◌, ◌≤◌, ◌∙◌, ℕ, List, All, IfOk, arith, map, sum, subst, sym, ap, ap₂}
use Rattle.tor_recheck.proofs.Names.{MAX_LENGTH, MAX_TOTAL, IsPlanPieceLength, Kind, Hybrid, PlanFacts, entries_to_cut}
use Rattle.tor_recheck.proofs.Names.{plan_of_entries}
use Rattle.tor_recheck.proofs.FilesToCut.{no_hybrid, total_to_cut, unpadded_to_cut}
use Rattle.tor_view.proofs.MerklePieces.{length_of}
use Rattle.tor_view.proofs.PieceSides.{same_lengths}
use Rattle.tor_recheck.proofs.rechecking.cut_files.Goals as goal

pub of_lengths-requires : goal.of_lengths-requires
of_lengths-requires c =
    let view = c.args.torrent.now in
    let cut = c.requires.cut in
    let is = sym (c.in_ok-lengths.ensures ∙ ap (map length_of) c.files.ensures.value) in
    record {
      joined = subst (λ (kind : Kind). kind ≢ Hybrid) (sym c.kind.ensures) (no_hybrid view.kind c.requires.no_v1);
      pieces = subst (λ (kind : Kind). IsPlanPieceLength kind c.piece_length.result) (sym c.kind.ensures)
          (subst (IsPlanPieceLength view.kind) (sym c.piece_length.ensures) cut.pieces);
      span = c.requires.span;
      total = subst (λ (xs : List ℕ). sum xs ≤ MAX_TOTAL) is
          (omega (arith, total_to_cut view c.requires.no_v1, cut.entries.total));
      files = subst (All (λ m. m ≤ MAX_LENGTH)) (same_lengths view cut ∙ is) cut.entries.files;
    }

pub returns : goal.returns
returns c =
    let view = c.args.torrent.now in
    let cut = c.requires.cut in
    let is = sym (c.in_ok-lengths.ensures ∙ ap (map length_of) c.files.ensures.value) in
    subst (λ (all : PlanFacts). IfOk c.of_lengths.result (λ plan. plan ≡ all))
    (ap₂ (λ kind n. plan_of_entries kind n c.args.span (entries_to_cut view)) c.kind.ensures c.piece_length.ensures)
    (c.of_lengths.ensures (entries_to_cut view) (unpadded_to_cut view c.requires.no_v1) (same_lengths view cut ∙ is))
