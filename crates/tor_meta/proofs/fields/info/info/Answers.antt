-- The fields of the files, and those after them, are all.
use Rattle.std.proofs.Common.{[], ap, ◌∙◌}
use Rattle.tor_bencode.specs.Data.{dictionary}
use Rattle.tor_bencode.specs.View.{pairs_view}
use Rattle.tor_meta.specs.Head.{settings_of}
use Rattle.tor_meta.specs.steps.Fields.{file_fields}
use Rattle.tor_meta.proofs.fields.info.info.Goals as goal

pub returns : goal.returns
returns c = λ facts told.
    let files = c.in_ok-push_of_files.ensures facts told [] (ap pairs_view c.new-pairs.ensures.items) in
    c.dictionary.ensures ∙ ap dictionary
    (c.in_ok-push_of_head.ensures (file_fields (settings_of c.args.head.now) facts) files)
