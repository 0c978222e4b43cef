-- The laws of `src/laws.rt` that no tactic finds.
use Rattle.std.proofs.Common.{◌≡◌, ◌++◌, ◌∷◌, ◌==◌, [], ℕ, suc, Bool, true, false, cond, List, Option, None, Some}
use Rattle.std.proofs.Common.{nat_eq, refl, arith, eq-eqb, eqb-true, ap}
use Rattle.std.proofs.lemmas.Bool.{and_parts}
use Rattle.std.proofs.lemmas.List.Folds.{find-append}
use Rattle.std.specs.List.{Contains, find}
use Rattle.std.specs.Option.{option_eq, option_map}
use Rattle.tor_source.specs.Sources.{first_fault, is_at}

same_offset : (offset : Option ℕ) → option_eq nat_eq offset offset ≡ true
same_offset None = refl
same_offset (Some byte) = eq-eqb byte byte refl

-- a fault is at its own offset
at_itself : (file : ℕ) (offset : Option ℕ) (number : ℕ) → is_at file offset (file, offset, number) ≡ true
at_itself file offset number = rw (eq-eqb file file refl, same_offset offset) refl

unfound : {X Y : Type 0} (f : X → Y) (x : Option X) → option_map f x ≡ None → x ≡ None
unfound f None e = refl
unfound f (Some x) e = cc

pub first_fault_counts : (before after : List (ℕ × Option ℕ × ℕ)) (file : ℕ) (offset : Option ℕ) (number : ℕ)
    → first_fault before file offset ≡ None
    → first_fault (before ++ (file, offset, number) ∷ after) file offset ≡ Some number
first_fault_counts before after file offset number none =
    let passed : find (is_at file offset) before ≡ None =
    unfound (λ fault. fault.2) (find (is_at file offset) before) none in
    rw (find-append (is_at file offset) before ((file, offset, number) ∷ after), passed, at_itself file offset number)
    refl

same_from : (offset other : Option ℕ) → option_eq nat_eq offset other ≡ true → offset ≡ other
same_from None None e = refl
same_from None (Some y) e = cc
same_from (Some x) None e = cc
same_from (Some x) (Some y) e = ap Some (eqb-true x y e)

some_is : (x y : ℕ) → Some x ≡ Some y → x ≡ y
some_is x y e = cc

-- a fault at an offset, with its number
is_of : (file : ℕ) (offset : Option ℕ) (number : ℕ) (fault : ℕ × Option ℕ × ℕ)
    → is_at file offset fault ≡ true → fault.2 ≡ number → fault ≡ (file, offset, number)
is_of file offset number (at_file, at_offset, code) here e =
    let parts = and_parts (at_file == file) (option_eq nat_eq at_offset offset) here in
    rw (eqb-true at_file file parts.0, same_from at_offset offset parts.1, e) refl

found_at : (file : ℕ) (offset : Option ℕ) (number : ℕ) (fault : ℕ × Option ℕ × ℕ) (faults : List (ℕ × Option ℕ × ℕ))
    → (first_fault faults file offset ≡ Some number → Contains faults (file, offset, number))
    → (test : Bool) → is_at file offset fault ≡ test
    → option_map (λ found. found.2) (cond test (Some fault) (find (is_at file offset) faults)) ≡ Some number
    → Contains (fault ∷ faults) (file, offset, number)
found_at file offset number fault faults later true here e =
    (0, omega arith, is_of file offset number fault here (some_is fault.2 number e))
found_at file offset number fault faults later false other e =
    let (k, within, at) = later e in (suc k, omega arith, at)

pub faults_are_listed : (faults : List (ℕ × Option ℕ × ℕ)) (file : ℕ) (offset : Option ℕ) (number : ℕ)
    → first_fault faults file offset ≡ Some number → Contains faults (file, offset, number)
faults_are_listed [] file offset number e = cc
faults_are_listed (fault ∷ faults) file offset number e =
    found_at file offset number fault faults (faults_are_listed faults file offset number)
    (is_at file offset fault) refl e
