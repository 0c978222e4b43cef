-- each name is the next of the path
use Rattle.std.proofs.Common.{◌≡◌, ◌∙◌, ◌++◌, ◌∷◌, [], ℕ, false, inl, inr, List, Option, Some, None, ap, subst, sym}
use Rattle.std.proofs.Common.{arith}
use Rattle.std.proofs.lemmas.Grind.{common_steps}
use Rattle.std.specs.Borrow.{Bor}
use Rattle.std.specs.Prelude.{IsSomeAnd, MatchOption}
use Rattle.tor_meta.specs.steps.PlanParts.{IsLeft}
use Rattle.tor_meta.proofs.PlanPaths.{IsLast, one_left, plain}
use Rattle.tor_tree.specs.Name.{has_byte, name_fault, slash}
use Rattle.tor_tree.specs.Path.{IsFilePath}
use Rattle.tor_meta.proofs.plans.plan_reading.path_of.Goals as goal

-- one that is there
the_one : (found : Option (List ℕ)) (name wanted : List ℕ) → found ≡ Some name → IsSomeAnd found (λ one. one ≡ wanted)
    → name ≡ wanted
the_one None name wanted is has = absurd has
the_one (Some one) name wanted is has = let same : one ≡ name = cc in sym same ∙ has

not_none : (found : Option (List ℕ)) (wanted : List ℕ) → found ≡ None → IsSomeAnd found (λ one. one ≡ wanted) → ⊥
not_none None wanted is has = has
not_none (Some one) wanted is has = cc

-- the next name, if one is found with a `/` after it
abbrev Found : List ℕ → Option (Bor (List ℕ) × Bor (List ℕ)) → Type 0
Found rest found =
    (has_byte slash rest ≡ false → found ≡ None)
    × ((name later : List ℕ) → has_byte slash name ≡ false → rest ≡ name ++ slash ∷ later
    → IsSomeAnd found (λ both. (both.0.now ≡ name) × (both.1.now ≡ later)))

record IsOne (path names : List (List ℕ)) (name later : List ℕ) : Type 0 where
  faultless : name_fault name ≡ None
  left : IsLeft path (names ++ name ∷ []) later

the_next : (path names : List (List ℕ)) (rest : List ℕ) (both : Bor (List ℕ) × Bor (List ℕ)) → IsFilePath path
    → IsLeft path names rest → Found rest (Some both) → IsOne path names both.0.now both.1.now
the_next path names rest both is left found = elim (one_left path names rest is left) [
  | inl last ↦ let no = found.0 (ap (has_byte slash) last.spelled ∙ plain last.name last.faultless) in cc
  | inr next ↦
      let same = found.1 next.name next.later (plain next.name next.faultless) next.spelled in
      record {
        faultless = ap name_fault same.0 ∙ next.faultless;
        left = subst (λ (name : List ℕ). IsLeft path (names ++ name ∷ []) both.1.now) (sym same.0)
            (subst (λ (later : List ℕ). IsLeft path (names ++ next.name ∷ []) later) (sym same.1) next.left);
      }
]

the_last : (path names : List (List ℕ)) (rest : List ℕ) → IsFilePath path → IsLeft path names rest
    → Found rest None → IsLast path names rest
the_last path names rest is left found = elim (one_left path names rest is left) [
  | inl last ↦ last
  | inr next ↦ absurd (found.1 next.name next.later (plain next.name next.faultless) next.spelled)
]

pub returns-in-None-clause-all : goal.returns-in-None-clause-all
returns-in-None-clause-all c = λ path is same.
    let f = c.in-Some.ensures in
    let one = the_next path c.names.names.items c.names.rest.now (c.in-Some.name, c.in-Some.later) is
    (c.names.invariant path is same) (f.none, f.some) in
    not_none c.in_ok-name.field-0 c.in-Some.name.now c.in-None.is (c.in_ok-name.ensures.all one.faultless)

pub names-preserved : goal.names-preserved
names-preserved c = λ path is same.
    let f = c.in-Some.ensures in
    let one = the_next path c.names.names.items c.names.rest.now (c.in-Some.name, c.in-Some.later) is
    (c.names.invariant path is same) (f.none, f.some) in
    let name = the_one c.in_ok-name.field-0 c.in-Some-2.name c.in-Some.name.now c.in-Some-2.is
    (c.in_ok-name.ensures.all one.faultless) in
    let pushed = c.in_ok-push-in-Some-2.ensures.items ∙ ap (λ (n : List ℕ). c.names.names.items ++ n ∷ []) name in
    subst (λ (names : List (List ℕ)). IsLeft path names c.in-Some.later.now) (sym pushed) one.left

pub returns-in-None-2-clause-all : goal.returns-in-None-2-clause-all
returns-in-None-2-clause-all c = λ path is same.
    let last = the_last path c.names.names.items c.names.rest.now is (c.names.invariant path is same)
    (c.in_default.ensures.none, c.in_default.ensures.some) in
    not_none c.in_ok-name-2.field-0 c.names.rest.now c.in-None-2.is
    (c.in_ok-name-2.ensures.all (ap name_fault last.spelled ∙ last.faultless))

made : (found : Option (List (List ℕ))) (names path : List (List ℕ))
    → MatchOption found (names ≡ []) (λ path. (path ≡ names) × IsFilePath path) → names ≡ path → IsFilePath path
    → IsSomeAnd found (λ read. read ≡ path)
made None names path is same has = has.some (sym same ∙ is)
made (Some one) names path is same has = is.0 ∙ same

pub returns-clause-all : goal.returns-clause-all
returns-clause-all c = λ path is same.
    let last = the_last path c.names.names.items c.names.rest.now is (c.names.invariant path is same)
    (c.in_default.ensures.none, c.in_default.ensures.some) in
    let name = the_one c.in_ok-name-2.field-0 c.in-Some-3.name c.names.rest.now c.in-Some-3.is
    (c.in_ok-name-2.ensures.all (ap name_fault last.spelled ∙ last.faultless)) in
    made c.new.result c.push-in-Some-3.new.self.items path c.new.ensures
    (c.in_ok-push-in-Some-3.ensures.items
    ∙ ap (λ (n : List ℕ). c.names.names.items ++ n ∷ []) (name ∙ last.spelled) ∙ last.all)
    is

pub names-init : goal.names-init
names-init c = grind (arith, common_steps)
