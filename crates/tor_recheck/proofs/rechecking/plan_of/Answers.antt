-- what is cut are the torrent's entries, or its files if it has no v1 side
use Rattle.tor_recheck.proofs.Names.{◌∙◌, sym, ap, cond-true, has_v1}
use Rattle.tor_view.proofs.ValidAreCut.{cut_of}
use Rattle.tor_recheck.proofs.rechecking.plan_of.Goals as goal

pub cut_entries-requires : goal.cut_entries-requires
cut_entries-requires c = record {
  cut = cut_of c.args.torrent.now c.files.ensures.valid;
  span = c.requires;
  entries = c.entries.ensures
      ∙ sym (cond-true _ _ _ (sym (c.has_v1.ensures ∙ ap has_v1 c.kind.ensures) ∙ c.if-has_v1.true));
}

pub cut_files-requires : goal.cut_files-requires
cut_files-requires c = record {
  cut = cut_of c.args.torrent.now c.files.ensures.valid;
  no_v1 = sym (c.has_v1.ensures ∙ ap has_v1 c.kind.ensures) ∙ c.if-has_v1.false;
  span = c.requires;
}

pub returns-then-has_v1-clause-cut : goal.returns-then-has_v1-clause-cut
returns-then-has_v1-clause-cut c = cut_of c.args.torrent.now c.files.ensures.valid

pub returns-else-has_v1-clause-cut : goal.returns-else-has_v1-clause-cut
returns-else-has_v1-clause-cut c = cut_of c.args.torrent.now c.files.ensures.valid
