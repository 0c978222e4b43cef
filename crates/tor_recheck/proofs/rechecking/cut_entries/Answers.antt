-- what was told is what the torrent has
use Rattle.tor_recheck.proofs.Names.{◌≡◌, ◌∙◌, ℕ, IfOk, subst, sym, ap, ap₂, IsEntryList, plan_of_entries}
use Rattle.tor_recheck.proofs.Names.{IsPlanPieceLength, PlanFacts, Kind}
use Rattle.tor_recheck.proofs.rechecking.cut_entries.Goals as goal

pub of_entries-requires : goal.of_entries-requires
of_entries-requires c =
    let cut = c.requires.cut in
    record {
      pieces = subst (λ (kind : Kind). IsPlanPieceLength kind c.piece_length.result) (sym c.kind.ensures)
          (subst (IsPlanPieceLength c.args.torrent.now.kind) (sym c.piece_length.ensures) cut.pieces);
      span = c.requires.span;
      entries = subst (λ (kind : Kind). IsEntryList kind c.piece_length.result c.args.entries.now) (sym c.kind.ensures)
          (subst (λ (n : ℕ). IsEntryList c.args.torrent.now.kind n c.args.entries.now) (sym c.piece_length.ensures)
          (subst (IsEntryList c.args.torrent.now.kind c.args.torrent.now.piece_length) (sym c.requires.entries)
          cut.entries));
    }

pub returns : goal.returns
returns c =
    let view = c.args.torrent.now in
    subst (λ (all : PlanFacts). IfOk c.of_entries.result (λ plan. plan ≡ all))
    (ap₂ (λ kind n. plan_of_entries kind n c.args.span c.args.entries.now) c.kind.ensures c.piece_length.ensures
    ∙ ap (plan_of_entries view.kind view.piece_length c.args.span) c.requires.entries) c.of_entries.ensures
