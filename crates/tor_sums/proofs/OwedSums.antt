-- What a worker owes, and one unit more.
use Rattle.std.proofs.Common.{◌≡◌, ◌+◌, ◌*◌, ◌<◌, ◌≤◌, ℕ, Bool, true, false, cond, List, [], ◌++◌, length, inl, inr}
use Rattle.std.proofs.Common.{refl, ap, ap₂, sym, subst, ◌∙◌, append_assoc, append-nil, add-zero, arith, length-append}
use Rattle.std.proofs.Common.{◌∷◌, ◌/◌, ◌%◌, ◌==◌, Result, Ok, Err, OnOk, vec_len, vec_capacity}
use Rattle.std.proofs.lemmas.Bool.{cases_eq, eq-eqb, false≢true, ne_eqb}
use Rattle.std.specs.Int.{div_ceil}
use Rattle.tor_plan.specs.PlanFacts.{IsPlan, PlanFacts}
use Rattle.tor_tree.specs.Kinds.{has_v1}
use Rattle.tor_v1.specs.Feeding.{HasRoom}
use Rattle.tor_v1.proofs.ProvedLaws.{piece_sums-nil, sums_of_joined}
use Rattle.tor_sums.specs.declared.owing.OwingSums.{OwingSums}
use Rattle.tor_sums.specs.declared.worker.WorkerSums.{WorkerSums}
use Rattle.tor_sums.specs.steps.Owing.{AreWhole, Owes, OwesWith, sums_of}
use Rattle.tor_sums.specs.steps.Room.{count_in}
use Rattle.tor_sums.specs.steps.Worker.{CanFinish, IsFresh}
use Rattle.tor_sums.proofs.FileHashes.{some_piece}

-- where nothing waits there is room for its sums
pub can_finish : (sums : WorkerSums) → count_in sums.room ≡ 0 → CanFinish sums
can_finish sums none = λ pieces is.
    subst (HasRoom pieces) (sym none)
    (subst (λ (n : ℕ). vec_len pieces.sums + 20 * div_ceil n pieces.piece_length ≤ vec_capacity pieces.sums)
    (sym (add-zero pieces.begun)) pieces.room)

pub nothing_in : (n : ℕ) (xs : List ℕ) → n ≡ length xs → true ≡ (n == 0) → xs ≡ []
nothing_in n [] long is = refl
nothing_in n (x ∷ xs) long is =
    absurd (false≢true (sym (is ∙ ne_eqb n 0 (λ none. omega (arith, none, long)))))

pub something_in : (n : ℕ) (xs : List ℕ) → n ≡ length xs → false ≡ (n == 0) → 0 < length xs
something_in n xs long is = elim (cases_eq n 0) [
  | inl none ↦ absurd (false≢true (is ∙ eq-eqb n 0 none))
  | inr some ↦ omega (arith, some, long)
]

pub on_ok_more : {T E P Q : Type 0} (result : Result T E) → (P → Q) → OnOk result P → OnOk result Q
on_ok_more (Ok one) more is = more is
on_ok_more (Err error) more is = tt

pub whole_count : (p n : ℕ) (xs : List ℕ) → 0 < p → n % p ≡ 0 → length xs ≡ n
    → (count : ℕ) × (length xs ≡ count * p)
whole_count p n xs pos none long = (n / p, omega (arith, pos, none, long))

both_if : (b : Bool) (xs ys zs : List ℕ) → xs ≡ ys ++ zs → cond b xs [] ≡ cond b ys [] ++ cond b zs []
both_if true xs ys zs is = is
both_if false xs ys zs is = refl

none_if : (b : Bool) (xs : List ℕ) → xs ≡ [] → cond b xs [] ≡ []
none_if true xs is = is
none_if false xs is = refl

module _ (plan : PlanFacts) (is : IsPlan plan) where
  pub pos : 0 < plan.piece_length
  pos = some_piece plan.kind plan.piece_length is.pieces

  no_sums : sums_of plan [] ≡ []
  no_sums = none_if (has_v1 plan.kind) _ (piece_sums-nil plan.piece_length pos)

  pub owes_none : (worker : OwingSums) → worker.ended.items ≡ [] → IsFresh plan [] worker.sums
      → count_in worker.sums.room ≡ 0 → Owes plan [] worker
  owes_none worker none fresh room = record {
    before = [];
    fresh = fresh;
    is_owed = ap₂ (λ xs ys. xs ++ ys) none no_sums;
    whole = (0, let e : 0 ≡ 0 * plan.piece_length = omega arith in e);
    either = inl none;
    can = can_finish worker.sums room;
  }

  module _ (owed joined : List ℕ) (old : OwingSums) (with : OwesWith plan owed joined old) where
    all_sums : sums_of plan (with.before ++ joined) ≡ sums_of plan with.before ++ sums_of plan joined
    all_sums = both_if (has_v1 plan.kind) _ _ _
        (sums_of_joined plan.piece_length with.whole.0 with.before joined pos with.whole.1)

    all_owed : (ended : List ℕ) → ended ≡ old.ended.items
        → ended ++ sums_of plan (with.before ++ joined) ≡ owed ++ sums_of plan joined
    all_owed ended same =
        ap₂ (λ xs ys. xs ++ ys) same all_sums
        ∙ sym (append_assoc old.ended.items (sums_of plan with.before) (sums_of plan joined))
        ∙ ap (λ xs. xs ++ sums_of plan joined) with.is_owed

    -- the unit ends at a piece's end
    pub goes_on : (new : OwingSums) → AreWhole plan joined → old.ended.items ≡ [] → new.ended.items ≡ old.ended.items
        → IsFresh plan (with.before ++ joined) new.sums → CanFinish new.sums
        → Owes plan (owed ++ sums_of plan joined) new
    goes_on new whole none same fresh can =
        let long = length-append with.before joined in
        let first = with.whole.1 in
        let second = whole.1 in
        record {
          before = with.before ++ joined;
          fresh = fresh;
          is_owed = all_owed new.ended.items same;
          whole = (
            with.whole.0 + whole.0,
            long ∙ ap₂ (λ n m. n + m) first second
                ∙ sym (mul-add with.whole.0 whole.0 plan.piece_length),
          );
          either = inl (same ∙ none);
          can = can;
        }
      where
        mul-add : (n m p : ℕ) → (n + m) * p ≡ n * p + m * p
        mul-add n m p = omega arith

    -- the unit ends the pieces
    pub ends : (new : OwingSums) (own : List ℕ) → own ≡ sums_of plan (with.before ++ joined)
        → new.ended.items ≡ old.ended.items ++ own → IsFresh plan [] new.sums → count_in new.sums.room ≡ 0
        → Owes plan (owed ++ sums_of plan joined) new
    ends new own is_own more fresh room = record {
      before = [];
      fresh = fresh;
      is_owed = ap (λ xs. new.ended.items ++ xs) no_sums ∙ append-nil new.ended.items
          ∙ more ∙ ap (λ xs. old.ended.items ++ xs) is_own ∙ all_owed old.ended.items refl;
      whole = (0, let e : 0 ≡ 0 * plan.piece_length = omega arith in e);
      either = inr refl;
      can = can_finish new.sums room;
    }

  pub owed_ended : (owed : List ℕ) (worker : OwingSums) (owes : Owes plan owed worker) → 0 < length worker.ended.items
      → worker.ended.items ≡ owed
  owed_ended owed worker owes some = elim owes.either [
    | inl none ↦ absurd (omega (arith, some, ap length none))
    | inr none ↦
        sym (append-nil worker.ended.items)
        ∙ ap (λ xs. worker.ended.items ++ xs) (sym (ap (sums_of plan) none ∙ no_sums)) ∙ owes.is_owed
  ]

-- all that is owed, where no pieces were ended
pub owed_last : (plan : PlanFacts) (owed : List ℕ) (worker : OwingSums) (owes : Owes plan owed worker) (last : List ℕ)
    → worker.ended.items ≡ [] → last ≡ sums_of plan owes.before → last ≡ owed
owed_last plan owed worker owes last none is =
    is ∙ ap (λ xs. xs ++ sums_of plan owes.before) (sym none) ∙ owes.is_owed
