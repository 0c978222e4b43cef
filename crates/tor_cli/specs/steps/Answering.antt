-- Why a proof has no answer. Only private clauses cite this.
use Rattle.std.specs.Prelude.{ℕ, List}
use Rattle.tor_cli.specs.proof.Proving.{IsNoProof}
use Rattle.tor_cli.specs.declared.proof.claim.ArgumentFault.TheVariants.{Proof}
use Rattle.tor_cli.specs.declared.fault.Fault.{Fault}
use Rattle.tor_cli.specs.declared.fault.Fault.TheVariants.{Argument, Resources}

-- why the bytes have no answer
abbrev pub IsNotAnswered : List ℕ → Fault → Type 0
IsNotAnswered bytes (Argument Proof) = IsNoProof bytes
IsNotAnswered bytes Resources = Unit {0}
IsNotAnswered bytes other = ⊥
