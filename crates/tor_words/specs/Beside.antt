-- Beside which other arguments an argument stands alone, and beside which it never does.
use Rattle.std.specs.Prelude.{ℕ, List, map}
use Rattle.std.specs.Borrow.{Bor}
use Rattle.clap.specs.declared.builder.arg.Arg.{Arg}

-- texts that are lent
abbrev pub texts_of : Bor (List (Bor (List ℕ))) → List (List ℕ)
texts_of names = map (λ name. name.now) names.now

-- the names of those that it wants
abbrev pub wanted_by : Arg → List (List ℕ)
wanted_by arg = map (λ want. want.1.now) arg.needs.items

-- the names of those that it is wanted without
abbrev pub wanted_without : Arg → List (List ℕ)
wanted_without arg = map (λ other. other.now) arg.r_unless.items

-- the names of those that it shuts out
abbrev pub shut_out_by : Arg → List (List ℕ)
shut_out_by arg = map (λ other. other.now) arg.conflicts.items
