-- How a file stands that was looked for while no link is followed. Only private clauses cite this.
use Rattle.std.specs.Prelude.{if◌then◌else◌}
use Rattle.std.specs.IoError.{error_kind}
use Rattle.std.specs.declared.io.ErrorKind.{ErrorKind}
use Rattle.std.specs.declared.io.ErrorKind.TheVariants.{InvalidFilename}
use Rattle.tor_source.specs.Faults.{is_absence}
use Rattle.tor_source.specs.declared.refused.OtherKind.TheVariants as other
use Rattle.tor_source.specs.declared.refused.Refusal.{Refusal}
use Rattle.tor_source.specs.declared.refused.Refusal.TheVariants as refusal
use Rattle.tor_source.specs.declared.folder.unlinked.Met.{Met}
use Rattle.tor_source.specs.declared.folder.unlinked.Met.TheVariants.{Link, Nothing, Untold}

-- a fault that says that nothing is there, or another
abbrev pub met_of_kind : ErrorKind → Met
met_of_kind kind = if is_absence kind then Nothing else Untold kind

-- a link stands there, or on the way; or nothing does, or what is no regular file; or the system does not tell
abbrev pub met_of_refusal : Refusal → Met
met_of_refusal refusal.NotUtf8 = Untold InvalidFilename
met_of_refusal (refusal.NotRegular other.Link) = Link
met_of_refusal (refusal.NotRegular _) = Nothing
met_of_refusal refusal.TooDeep = Untold InvalidFilename
met_of_refusal refusal.Missing = Nothing
met_of_refusal (refusal.System fault) = met_of_kind (error_kind fault)
