use Rattle.tor_meta.proofs.Listed.{small_files}
use Rattle.tor_meta.proofs.fields.entries.entries.Goals as goal

pub returns-in-Ok-clause-small : goal.returns-in-Ok-clause-small
returns-in-Ok-clause-small c =
    rw c.in-Ok.ensures.made
    (c.entries_fit.ensures.lettered c.args.list.now.attrs _ c.args.head.now.piece_length c.args.list.now.files
    c.requires.piece_length (small_files c.args.list.now.files c.requires.is_list))
