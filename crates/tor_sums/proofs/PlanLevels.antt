-- The level of the units of a plan, which all its trees have.
use Rattle.std.proofs.Common.{◌≡◌, ◌⊎◌, ℕ, ◌+◌, ◌*◌, ◌^◌, ◌<◌, ◌≤◌, true, false, List, [], ◌∷◌, None, Some, arith, ap}
use Rattle.std.proofs.Common.{subst, get_or}
use Rattle.std.proofs.Common.{◌∙◌, sym, inl, inr, refl, mul-pos}
use Rattle.std.proofs.lemmas.Bool.{cases_Bool, le-ltb, lt-ltb}
use Rattle.std.specs.Int.{div_ceil}
use Rattle.std.specs.List.{All, AllByRecursion}
use Rattle.std.specs.Option.{ForSome}
use Rattle.tor_merkle.specs.Layer.{piece_level}
use Rattle.tor_plan.specs.declared.forests.Run.{Run}
use Rattle.tor_plan.specs.Forest.{forest_trees, trees_from, unit_level}
use Rattle.tor_plan.specs.PlanFacts.{IsPlan, PlanFacts}
use Rattle.tor_plan.specs.WithinEntries.{IsUnitWithin}
use Rattle.tor_plan.proofs.ProvedLaws.{entry_units_are_within_files}
use Rattle.tor_tree.specs.Kinds.{has_v2}
use Rattle.tor_tree.specs.declared.kinds.Kind.{Kind}
use Rattle.tor_tree.specs.declared.kinds.Kind.TheVariants.{V1, V2, Hybrid}
use Rattle.tor_sums.specs.steps.Hashes.{IsCut, level_of}
use Rattle.tor_sums.specs.steps.Run.{IsUnitToSum}
use Rattle.tor_sums.proofs.FileHashes.{allowed_with_trees, some_piece}
use Rattle.tor_sums.proofs.FileNodes.{count_cases}
use Rattle.tor_sums.proofs.Levels.{unit_at_level}
use Rattle.tor_sums.proofs.Whole.{units_of_plan}

-- a file has several units, or none has
module _ (size : ℕ) (some : 0 < size) where
  level_from : (first : ℕ) (lengths : List ℕ)
      → ((level_of (trees_from size first lengths) ≡ None) × AllByRecursion (λ m. m ≤ size) lengths)
      ⊎ (level_of (trees_from size first lengths) ≡ Some (unit_level size))
  unfolding trees_from
  level_from first [] = inl (refl, tt)
  level_from first (m ∷ lengths) = elim (count_cases size m some) [
    | inl long ↦ rw (lt-ltb 1 (div_ceil m size) long.1) (inr refl)
    | inr short ↦
        rw (le-ltb 1 (div_ceil m size) (omega (arith, short.1)))
        (elim (level_from (first + div_ceil m size) lengths) [
          | inl none ↦ inl (none.0, (short.0, none.1))
          | inr level ↦ inr level
        ])
  ]

abbrev pub StandsAt : ℕ → ℕ → ℕ → Type 0
StandsAt p size k = (piece_level p ≤ k) × (k ≤ 36) × (size ≡ 16384 * 2 ^ k)

trees_of_kind : (kind : Kind) (size : ℕ) (lengths : List ℕ) → has_v2 kind ≡ true
    → forest_trees kind size lengths ≡ trees_from size 0 lengths
trees_of_kind V1 size lengths trees = cc
trees_of_kind V2 size lengths trees = refl
trees_of_kind Hybrid size lengths trees = refl

module _ (plan : PlanFacts) (is : IsPlan plan) where
  abbrev size_of_unit : ℕ
  size_of_unit = is.span * plan.piece_length

  module _ (trees : has_v2 plan.kind ≡ true) where
    pub trees_of_plan : plan.trees ≡ trees_from size_of_unit 0 plan.lengths
    trees_of_plan =
        ap (λ (facts : PlanFacts). facts.trees) is.made ∙ trees_of_kind plan.kind size_of_unit _ trees
        ∙ ap (trees_from size_of_unit 0) (sym (ap (λ (facts : PlanFacts). facts.lengths) is.made))

    several : ((level_of plan.trees ≡ None) × AllByRecursion (λ m. m ≤ size_of_unit) plan.lengths)
        ⊎ (level_of plan.trees ≡ Some (unit_level size_of_unit))
    several =
        let some = mul-pos (omega (arith, is.is_span.1)) (some_piece plan.kind plan.piece_length is.pieces) in
        subst (λ (runs : List Run). ((level_of runs ≡ None) × AllByRecursion (λ m. m ≤ size_of_unit) plan.lengths)
        ⊎ (level_of runs ≡ Some (unit_level size_of_unit))) (sym trees_of_plan)
        (level_from size_of_unit some 0 plan.lengths)

    stands : ForSome (level_of plan.trees) (StandsAt plan.piece_length size_of_unit)
    stands k at = elim several [
      | inl none ↦ let no : None ≡ Some k = sym none.0 ∙ at in absurd cc
      | inr level ↦
          let same : Some (unit_level size_of_unit) ≡ Some k = sym level ∙ at in
          let is_level : unit_level size_of_unit ≡ k = cc in
          subst (λ (n : ℕ). StandsAt plan.piece_length size_of_unit n) is_level
          (unit_at_level plan.piece_length is.span (allowed_with_trees plan.kind plan.piece_length is.pieces trees)
          is.is_span)
    ]

    pub plan_is_cut : IsCut plan.piece_length size_of_unit (level_of plan.trees) plan.lengths
    plan_is_cut = record {
      allowed = allowed_with_trees plan.kind plan.piece_length is.pieces trees;
      span = is.span;
      some = omega (arith, is.is_span.1);
      pieces = refl;
      stands = λ k at. let there = stands k at in (there.1, there.2);
      alone = λ none. elim several [
        | inl one ↦ one.1
        | inr level ↦ let no : None ≡ Some (unit_level size_of_unit) = sym none ∙ level in absurd cc
      ];
    }

  -- whatever the kind
  pub plan_level : ForSome (level_of plan.trees)
      (λ k. (has_v2 plan.kind ≡ true) × StandsAt plan.piece_length size_of_unit k)
  plan_level k at = elim (cases_Bool (has_v2 plan.kind)) [
    | inl trees ↦ (trees, stands trees k at)
    | inr none ↦
        let no : None ≡ Some k =
        sym (ap level_of (ap (λ (facts : PlanFacts). facts.trees) is.made ∙ no_trees plan.kind size_of_unit _ none))
        ∙ at in
        absurd cc
  ]
    where
      no_trees : (kind : Kind) (size : ℕ) (lengths : List ℕ) → has_v2 kind ≡ false → forest_trees kind size lengths ≡ []
      no_trees V1 size lengths none = refl
      no_trees V2 size lengths none = cc
      no_trees Hybrid size lengths none = cc

-- each unit has room at its level
pub units_to_sum : (plan : PlanFacts) → IsPlan plan → All (IsUnitToSum plan) plan.units
units_to_sum plan is k d there =
    let unit = get_or plan.units k d in
    let inside : All (IsUnitWithin plan.lengths (is.span * plan.piece_length)) plan.units =
    subst (λ (p : PlanFacts). All (IsUnitWithin p.lengths (is.span * plan.piece_length)) p.units) (sym is.made)
    (entry_units_are_within_files plan.kind plan.piece_length is.span is.entries (omega (arith, is.is_span.1))
    (some_piece plan.kind plan.piece_length is.pieces) is.is_list.laid_out) in
    record {
      within = units_of_plan plan is k d there;
      room = λ level at.
          let stands = plan_level plan is level at in
          (stands.0, (stands.1.0, stands.1.1, omega (arith, stands.1.2, (inside k d there).within)));
    }
