-- One file more.
use Rattle.tor_cli.proofs.FileSizes.{one_file_more}
use Rattle.tor_cli.proofs.make.piece_length.told_size.Goals as goal

pub files-preserved : goal.files-preserved
files-preserved g c facts steady =
    one_file_more facts c.files.file c.files.size c.told_bytes.result c.saturating_add-size.result
    c.saturating_add-size.ensures (c.files.invariant facts steady) (c.told_bytes.ensures facts steady)
