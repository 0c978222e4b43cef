-- What the program ends with. Only private clauses cite this.
use Rattle.std.specs.Prelude.{ℕ, Result, Ok, Err}
use Rattle.tor_cli.specs.Status.{status_of}
use Rattle.tor_cli.specs.declared.answer.Answer.{Answer}
use Rattle.tor_cli.specs.declared.answer.Answer.TheVariants.{Yes, No}
use Rattle.tor_cli.specs.declared.fault.Fault.{Fault}

-- 1 where something was asked, and the answer is no
abbrev pub status_of_answer : Answer → ℕ
status_of_answer Yes = 0
status_of_answer No = 1

-- what asks nothing is answered by yes
abbrev pub done_of : {A : Type 0} → Result A Fault → Result Answer Fault
done_of (Ok done) = Ok Yes
done_of (Err fault) = Err fault

-- the status after an answer, or after a fault
abbrev pub status_after : Result Answer Fault → ℕ
status_after (Ok answer) = status_of_answer answer
status_after (Err fault) = status_of fault
