-- The first fault of two sides is the one of the lesser number.
use Rattle.tor_check.proofs.Names.{◌≡◌, ◌⊎◌, ◌∙◌, ◌||◌, Result, Ok, Err, ⊎_elim, true≢false, Bool, true, false, Option}
use Rattle.tor_check.proofs.Names.{None, Some, cond, refl, ap, sym, inl, inr, nat_eq, option_map, nat_le, IfErr, OnOk}
use Rattle.tor_check.proofs.Names.{refusal_for, IsFirst, earlier, earlier_refusal, earliest, number_of, Refusal}
use Rattle.tor_check.proofs.Names.{Condition}
use Rattle.tor_check.specs.declared.refusal.Refusal.TheVariants as refusals
use Rattle.tor_spec.specs.valid.Conditions as conditions

-- no condition is want of memory
pub is_no_memory : (condition : Condition) → nat_eq (number_of (refusal_for condition)) 24 ≡ false
is_no_memory conditions.RootShape = refl
is_no_memory conditions.InfoShape = refl
is_no_memory conditions.MetaVersion = refl
is_no_memory conditions.PieceLength = refl
is_no_memory conditions.Name = refl
is_no_memory conditions.LengthAndFiles = refl
is_no_memory conditions.FileShape = refl
is_no_memory conditions.FileLength = refl
is_no_memory conditions.Duplicate = refl
is_no_memory conditions.FileAndFolder = refl
is_no_memory conditions.NoFiles = refl
is_no_memory conditions.TooLarge = refl
is_no_memory conditions.Symlink = refl
is_no_memory conditions.PiecesLength = refl
is_no_memory conditions.MixedNode = refl
is_no_memory conditions.RootHash = refl
is_no_memory conditions.LayersAbsent = refl
is_no_memory conditions.LayerAbsent = refl
is_no_memory conditions.LayerLength = refl
is_no_memory conditions.LayerRoot = refl
is_no_memory conditions.FilesDiffer = refl
is_no_memory conditions.Alignment = refl
is_no_memory conditions.AttrDiffer = refl

second_memory : (b : Bool) → cond b refusals.Memory refusals.Memory ≡ refusals.Memory
second_memory true = refl
second_memory false = refl

earlier_of_conditions : (one other : Condition)
    → earlier_refusal (refusal_for one) (refusal_for other) ≡ refusal_for (earlier one other)
earlier_of_conditions one other =
    rw (is_no_memory one, is_no_memory other)
    (by_order (nat_le (number_of (refusal_for one)) (number_of (refusal_for other))))
  where
    by_order : (b : Bool) → cond b (refusal_for one) (refusal_for other) ≡ refusal_for (cond b one other)
    by_order true = refl
    by_order false = refl

of_two : (a b : Option Condition) (one other : Refusal) → option_map refusal_for a ≡ Some one
    → option_map refusal_for b ≡ Some other → option_map refusal_for (earliest a b) ≡ Some (earlier_refusal one other)
of_two None b one other e f = absurd cc
of_two (Some c) None one other e f = absurd cc
of_two (Some c) (Some d) one other e f =
    let first : refusal_for c ≡ one = cc in
    let second : refusal_for d ≡ other = cc in
    rw (sym first, sym second) (ap Some (sym (earlier_of_conditions c d)))

pub merged : (a b : Option Condition) (one other : Refusal) → IsFirst a one → IsFirst b other
    → IsFirst (earliest a b) (earlier_refusal one other)
merged a b one other (inl memory) right = inl (rw memory refl)
merged a b one other (inr e) (inl memory) = inl (rw memory (second_memory (nat_eq (number_of one) 24)))
merged a b one other (inr e) (inr f) = inr (of_two a b one other e f)

-- memory is told where one of the two is want of it
pub memory_of_two : (a b : Option Condition) (one other : Refusal) → IsFirst a one → IsFirst b other
    → earlier_refusal one other ≡ refusals.Memory → (one ≡ refusals.Memory) ⊎ (other ≡ refusals.Memory)
memory_of_two a b one other (inl memory) right is = inl memory
memory_of_two a b one other (inr e) (inl memory) is = inr memory
memory_of_two None b one other (inr e) (inr f) is = absurd cc
memory_of_two (Some c) None one other (inr e) (inr f) is = absurd cc
memory_of_two (Some c) (Some d) one other (inr e) (inr f) is =
    let first : refusal_for c ≡ one = cc in
    let second : refusal_for d ≡ other = cc in
    let told : refusal_for (earlier c d) ≡ refusals.Memory =
    rw (sym first, sym second, earlier_of_conditions c d) at is in
    absurd (true≢false (sym (ap (λ refusal. nat_eq (number_of refusal) 24) told) ∙ is_no_memory (earlier c d)))

pub memory_of_either : {T : Type 0} (a b : Option Condition) (one told : Refusal) (tree : Result T Refusal)
    → IsFirst a one → IfErr tree (IsFirst b) → OnOk tree (told ≡ one)
    → IfErr tree (λ other. told ≡ earlier_refusal one other) → told ≡ refusals.Memory
    → (one ≡ refusals.Memory) ⊎ (tree ≡ Err refusals.Memory)
memory_of_either a b one told (Ok files) first second alone earlier is = inl (sym alone ∙ is)
memory_of_either a b one told (Err other) first second alone earlier is =
    ⊎_elim (λ memory. inl memory) (λ memory. inr (ap Err memory))
    (memory_of_two a b one other first second (sym earlier ∙ is))

-- it is taken by one of the sides
pub by_list : (a b : Bool) → a ≡ true → (a || b) ≡ true
by_list a b e = rw e refl

pub by_tree : (a b : Bool) → b ≡ true → (a || b) ≡ true
by_tree true b e = refl
by_tree false b e = e

pub first_alone : (a b : Option Condition) (one : Refusal) → b ≡ None → IsFirst a one → IsFirst (earliest a b) one
first_alone a (Some d) one none h = absurd cc
first_alone None None one none h = h
first_alone (Some c) None one none h = h
