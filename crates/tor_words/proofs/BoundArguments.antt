-- An argument that wants other ones, stands beside none of some, or is wanted unless one is there, is not free.
use Rattle.std.proofs.Common.{◌≡◌, ◌∙◌, ap, ap₂, refl, arith, Bool, true, false, not, ◌&&◌, ◌==◌, ℕ, ◌+◌, List, []}
use Rattle.std.proofs.Common.{◌∷◌, ◌++◌, if◌then◌else◌, length, map, Bor}
use Rattle.std.proofs.lemmas.Bool.{ne_eqb}
use Rattle.std.proofs.lemmas.List.{length-map, length_push}
use Rattle.clap.specs.Adds.{AddsConflicts, AddsRequiredUnless, AddsRequirements}
use Rattle.clap.specs.Walk.{Rule, is_free_arg, rule_of}
use Rattle.clap.specs.declared.builder.arg.Arg.{Arg}
use Rattle.clap.specs.declared.builder.arg.ArgPredicate.{ArgPredicate}
use Rattle.clap.specs.declared.builder.arg.ArgPredicate.TheVariants.{IsPresent}
use Rattle.tor_words.specs.Beside.{shut_out_by, wanted_by, wanted_without}
use Rattle.tor_words.specs.CommandLine.{bound}
use Rattle.tor_words.specs.Rules.{HasNoOthers}

-- what is mapped to nothing is nothing
none_mapped : {X Y : Type 0} (f : X → Y) (xs : List X) → map f xs ≡ [] → xs ≡ []
none_mapped f [] none = refl
none_mapped f (x ∷ xs) none = cc

-- a word that has no others is as free as before, one that has some is not
as_free : (a b c d others wants : Bool) → b ≡ true → c ≡ true
    → (a && (others && (wants && d))) ≡ (if (wants && others) then (a && (b && (c && d))) else false)
as_free a true true d true true former latter = refl
as_free true true true d true false former latter = refl
as_free false true true d true false former latter = refl
as_free true true true d false true former latter = refl
as_free false true true d false true former latter = refl
as_free true true true d false false former latter = refl
as_free false true true d false false former latter = refl
as_free a false c d others wants former latter = cc
as_free a true false d others wants former latter = cc

chosen : (free : Bool) (rule : Rule)
    → record rule { is_free = if free then rule.is_free else false } ≡ (if free then rule else bound rule)
chosen true rule = refl
chosen false rule = refl

texts_wanted : (names : List (Bor (List ℕ)))
    → map (λ (want : ArgPredicate × Bor (List ℕ)). want.1.now)
    (map (λ (name : Bor (List ℕ)). (IsPresent, name)) names) ≡ map (λ name. name.now) names
texts_wanted [] = refl
texts_wanted (name ∷ names) = ap (λ (texts : List (List ℕ)). name.now ∷ texts) (texts_wanted names)

module _ (rule : Rule) (free middle new : Arg) (beside without : List (Bor (List ℕ))) (others : List (List ℕ))
    (is : HasNoOthers rule others free)
    (needs : AddsRequirements free middle (map (λ (name : Bor (List ℕ)). (IsPresent, name)) beside))
    (conflicts : AddsConflicts middle new without) where
  no_needs : free.needs.items ≡ []
  no_needs = none_mapped (λ (want : ArgPredicate × Bor (List ℕ)). want.1.now) free.needs.items is.beside

  no_conflicts : free.conflicts.items ≡ []
  no_conflicts = none_mapped (λ (other : Bor (List ℕ)). other.now) free.conflicts.items is.without

  same : new ≡ record free { needs = middle.needs; conflicts = new.conflicts }
  same = conflicts.0 ∙ ap (λ (arg : Arg). record arg { conflicts = new.conflicts }) needs.0

  all_needs : middle.needs.items ≡ map (λ (name : Bor (List ℕ)). (IsPresent, name)) beside
  all_needs = needs.1 ∙ ap (λ (wants : List (ArgPredicate × Bor (List ℕ))). wants
      ++ map (λ (name : Bor (List ℕ)). (IsPresent, name)) beside) no_needs

  all_conflicts : new.conflicts.items ≡ without
  all_conflicts = conflicts.1 ∙ ap (λ (others : List (Bor (List ℕ))). others ++ without)
      (ap (λ (arg : Arg). arg.conflicts.items) needs.0 ∙ no_conflicts)

  pub bound_rule : rule_of new ≡ (if (length beside == 0) && (length without == 0) then rule else bound rule)
  bound_rule =
      let wants : (length middle.needs.items == 0) ≡ (length beside == 0)
      = ap (λ (wants : List (ArgPredicate × Bor (List ℕ))). length wants == 0) all_needs
      ∙ ap (λ (n : ℕ). n == 0) (length-map beside (λ (name : Bor (List ℕ)). (IsPresent, name))) in
      let others : (length new.conflicts.items == 0) ≡ (length without == 0)
      = ap (λ (others : List (Bor (List ℕ))). length others == 0) all_conflicts in
      let is_free = as_free (not free.exclusive) (length free.conflicts.items == 0) (length free.needs.items == 0) _
      (length new.conflicts.items == 0) (length middle.needs.items == 0)
      (ap (λ (others : List (Bor (List ℕ))). length others == 0) no_conflicts)
      (ap (λ (wants : List (ArgPredicate × Bor (List ℕ))). length wants == 0) no_needs) in
      ap rule_of same
      ∙ ap (λ (free' : Bool). record (rule_of free) { is_free = free' }) is_free
      ∙ chosen ((length middle.needs.items == 0) && (length new.conflicts.items == 0)) (rule_of free)
      ∙ ap₂ (λ (free' : Bool) (rule : Rule). if free' then rule else bound rule)
      (ap₂ (λ (a b : Bool). a && b) wants others) is.same

  pub bound_beside : wanted_by new ≡ map (λ name. name.now) beside
  bound_beside = ap wanted_by same ∙ ap (map (λ (want : ArgPredicate × Bor (List ℕ)). want.1.now)) all_needs
      ∙ texts_wanted beside

  pub bound_without : shut_out_by new ≡ map (λ name. name.now) without
  bound_without = ap (map (λ (other : Bor (List ℕ)). other.now)) all_conflicts

  pub bound_unless : wanted_without new ≡ others
  bound_unless = ap wanted_without same ∙ is.unless

  pub bound_local : new.global ≡ false
  bound_local = ap (λ (arg : Arg). arg.global) same ∙ is.local

none_left : {X : Type 0} (xs : List X) (x : X) → (length (xs ++ x ∷ []) == 0) ≡ false
none_left xs x = ap (λ (n : ℕ). n == 0) (length_push xs x) ∙ ne_eqb (length xs + 1) 0 (λ same. omega (arith, same))

-- what follows a test that fails, and what stands before one
off_behind : (a b : Bool) → b ≡ false → (a && b) ≡ false
off_behind true b off = off
off_behind false b off = refl

off_before : (a b : Bool) → a ≡ false → (a && b) ≡ false
off_before a b off = ap (λ (e : Bool). e && b) off

unless : (rule : Rule) (old new : Arg) (other : Bor (List ℕ)) → rule_of old ≡ rule
    → AddsRequiredUnless old new (other ∷ []) → rule_of new ≡ bound rule
unless rule old new other same adds =
    let wanted =
    ap (λ (ys : List (Bor (List ℕ))). length ys == 0) adds.1 ∙ none_left old.r_unless.items other in
    let is_bound : is_free_arg (record old { r_unless = new.r_unless }) ≡ false
    = off_behind (not old.exclusive) _ (off_behind (length old.conflicts.items == 0) _
    (off_behind (length old.needs.items == 0) _ (off_behind (length old.r_ifs.items == 0) _
    (off_behind (length old.r_ifs_all.items == 0) _ (off_before (length new.r_unless.items == 0) _ wanted))))) in
    ap rule_of adds.0 ∙ ap₂ (λ (rule : Rule) (free : Bool). record rule { is_free = free }) same is_bound

-- where there was none there is one
only_more : (others : List (Bor (List ℕ))) (other : Bor (List ℕ))
    → map (λ (other : Bor (List ℕ)). other.now) others ≡ []
    → map (λ (other : Bor (List ℕ)). other.now) (others ++ other ∷ []) ≡ other.now ∷ []
only_more [] other none = refl
only_more (one ∷ others) other none = cc

-- what is wanted unless another is there stands where it likes, all the same
pub wanted_unless : (rule : Rule) (old new : Arg) (other : Bor (List ℕ)) → HasNoOthers rule [] old
    → AddsRequiredUnless old new (other ∷ []) → HasNoOthers (bound rule) (other.now ∷ []) new
wanted_unless rule old new other is adds = record {
  same = unless rule old new other is.same adds;
  local = ap (λ (arg : Arg). arg.global) adds.0 ∙ is.local;
  beside = ap wanted_by adds.0 ∙ is.beside;
  without = ap shut_out_by adds.0 ∙ is.without;
  unless = ap (map (λ (other : Bor (List ℕ)). other.now)) adds.1
      ∙ only_more old.r_unless.items other is.unless;
}
