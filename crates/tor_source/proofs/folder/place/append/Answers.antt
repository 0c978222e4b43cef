use Rattle.std.proofs.Common.{◌+◌, length}
use Rattle.std.specs.IoError.{os_error_kind}
use Rattle.tor_source.proofs.Placed.{has_no_room}
use Rattle.tor_source.proofs.folder.place.append.Goals as goal

pub returns-in-Err-clause-refused : goal.returns-in-Err-clause-refused
unfolding os_error_kind
returns-in-Err-clause-refused over c = (
  c.from_raw_os_error.ensures.kind,
  has_no_room (length c.args.text.now.bytes + length c.args.more.now) over.row.ROOM c.in-Err.ensures.variant.1,
)
