-- A command below another one.
use Rattle.std.proofs.Common.{◌≡◌, ◌&&◌, Bool, true, false, not, refl, subst}
use Rattle.std.proofs.lemmas.Bool.{and_parts}
use Rattle.std.specs.Prelude.{Result, Ok, IfOk}

off : (b : Bool) → not b ≡ true → b ≡ false
off true e = cc
off false e = refl

-- a plain command has no global argument: its third fact
pub third : (a b c d : Bool) → (a && (b && (not c && d))) ≡ true → c ≡ false
third a b c d e = off c (and_parts (not c) d (and_parts b (not c && d) (and_parts a (b && (not c && d)) e).1).1).0

-- what is so of an answer is so of what was answered
pub there : {A E : Type 0} (P : A → Type 0) (result : Result A E) (a : A) → result ≡ Ok a → IfOk result P → P a
there P result a is so = subst (λ r. IfOk r P) is so
