-- any other fault is want of memory, or the system's
use Rattle.std.proofs.Common.{◌≡◌, ◌⊎◌, inl, inr, refl, subst, sym}
use Rattle.std.specs.declared.io.ErrorKind.{ErrorKind}
use Rattle.std.specs.declared.io.ErrorKind.TheVariants.{OutOfMemory}
use Rattle.tor_source.specs.Faults.{fault_of_kind}
use Rattle.tor_source.specs.declared.faults.ScanFault.TheVariants.{Memory, System}
use Rattle.tor_source.proofs.folder.same_file.is_at.Goals as goal

memory_or_system : (kind : ErrorKind) → (fault_of_kind kind ≡ Memory) ⊎ (fault_of_kind kind ≡ System)
memory_or_system OutOfMemory = inl refl
memory_or_system _ = inr refl

pub returns-in-Err-3 : goal.returns-in-Err-3
returns-in-Err-3 g c =
    subst (λ fault. (fault ≡ Memory) ⊎ (fault ≡ System)) (sym c.from.ensures) (memory_or_system _)
