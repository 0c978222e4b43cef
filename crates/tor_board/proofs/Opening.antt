-- The shape of a new board, and the rule at its start.
use Rattle.atomic_table.{proofs.Lists.some_there, specs.Table.opening}
use Rattle.std.proofs.lemmas.List.{at_drop_more}
use Rattle.{std.proofs.lemmas.List.{length-map, length-replicate}, tor_board.proofs.Names.{AreApart, Fits, IsKnown, IsRun, IsShape}}
use Rattle.tor_board.proofs.Names.{IsTreeOf, Keeps, KeepsTree, List, Run, Shape, Tree, View, [], ap, arith, below}
use Rattle.tor_board.proofs.Names.{dec_le, dite, drop, first, get_elem?, get_or, get_or-set_other, get_or-set_same}
use Rattle.tor_board.proofs.Names.{length, length-set, map, middle, min, nobody, pow_mono, ready, refl, replicate}
use Rattle.tor_board.proofs.Names.{run_of, set, some, some-injective, some-ne-none, subst, suc, sym, total, units_in}
use Rattle.tor_board.proofs.Names.{word_of, zero, ℕ, ◌*◌, ◌+◌, ◌-◌, ◌/◌, ◌<◌, ◌^◌, ◌∙◌, ◌∷◌, ◌≡◌, ◌≢◌, ◌≤◌}
use Rattle.tor_board.{proofs.Trees.{ready_chain, ready_node}, specs.steps.Row.trees_from}
use Rattle.{tor_merkle.proofs.ProvedLaws.height_covers, tor_merkle.specs.Subtree.height}
use Rattle.tor_board.proofs.{Apart.{ends_before, few_units}, Sums.here}

-- a run's tree of that height
abbrev pub laid : ℕ → ℕ → Run → ℕ → Tree
laid number offset run high = record {
  number = number;
  offset = offset;
  first = run.first;
  count = run.count;
  level = run.level;
  height = high;
}

-- what is known of a tree of runs
at : (units number offset end : ℕ) (runs : List Run)
    → ((k : ℕ) (run : Run) → get_elem? runs k ≡ some run → IsRun units run) → offset + units_in runs ≤ end → end ≤ units
    → (k : ℕ) (t : Tree) → get_elem? (trees_from number offset runs) k ≡ some t
    → Fits units (2 + end) (2 * end) t × (t.number ≡ number + k) × (get_elem? runs k ≡ some (run_of t))
unfolding trees_from
at units number offset end [] are fit few k t e = absurd (some-ne-none t (sym e))
at units number offset end (run ∷ runs) are fit few zero t e =
    let is = are 0 run refl in
    let fits : Fits units (2 + end) (2 * end) (laid number offset run (height run.count)) = record {
      several = is.several;
      tall = height_covers run.count;
      least = refl;
      low = is.low;
      below = is.below;
      among = omega arith;
      long = omega arith;
      wide = omega arith;
    } in rw (sym (some-injective _ t e)) (fits, omega arith, refl)
at units number offset end (run ∷ runs) are fit few (suc k) t e =
    let r = at units (number + 1) (offset + run.count) end runs (λ j r f. are (suc j) r f) (omega arith) few k t e in
    (r.0, omega (arith, r.1), r.2)

behind : (number offset : ℕ) (runs : List Run) (k : ℕ) (t : Tree) → get_elem? (trees_from number offset runs) k ≡ some t
    → offset ≤ t.offset
unfolding trees_from
behind number offset [] k t e = absurd (some-ne-none t (sym e))
behind number offset (run ∷ runs) zero t e = rw (sym (some-injective _ t e)) (omega arith)
behind number offset (run ∷ runs) (suc k) t e = omega (arith, behind (number + 1) (offset + run.count) runs k t e)

in_row : (number offset : ℕ) (runs : List Run) (j k : ℕ) (t u : Tree)
    → get_elem? (trees_from number offset runs) j ≡ some t → get_elem? (trees_from number offset runs) k ≡ some u → j < k
    → t.offset + t.count ≤ u.offset
unfolding trees_from
in_row number offset [] j k t u e f less = absurd (some-ne-none t (sym e))
in_row number offset (run ∷ runs) j zero t u e f less = omega arith
in_row number offset (run ∷ runs) zero (suc k) t u e f less =
    let later = behind (number + 1) (offset + run.count) runs k u f in rw (sym (some-injective _ t e)) later
in_row number offset (run ∷ runs) (suc j) (suc k) t u e f less
    = in_row (number + 1) (offset + run.count) runs j k t u e f (omega arith)

pub runs_back : (number offset : ℕ) (runs : List Run) → map run_of (trees_from number offset runs) ≡ runs
unfolding trees_from
runs_back number offset [] = refl
runs_back number offset (run ∷ runs) = ap (λ (l : List Run). run ∷ l) (runs_back (number + 1) (offset + run.count) runs)

pub shaped : (units : ℕ) (runs : List Run) → AreApart units runs → units ≤ 2 ^ 62 → (shape : Shape)
    → shape.units ≡ units → shape.trees.items ≡ trees_from 0 0 runs
    → IsShape (2 + units_in runs) (2 * units_in runs) shape
shaped units runs are small shape units_is trees_is =
    let list : (k : ℕ) (t : Tree) → get_elem? shape.trees.items k ≡ some t → get_elem? (trees_from 0 0 runs) k ≡ some t
    = λ k t e. ap (λ (l : List Tree). get_elem? l k) (sym trees_is) ∙ e in
    let there = λ (k : ℕ) (t : Tree) (e : get_elem? shape.trees.items k ≡ some t).
    at units 0 0 (units_in runs) runs are.each (omega arith) (few_units units runs are) k t (list k t e) in record {
      small = omega arith;
      two = omega arith;
      numbered = λ k t e. omega (arith, (there k t e).1);
      fits = λ t is. rw units_is (there t.number t is).0;
      apart = λ t u is is' ne le. ends_before (run_of t) (run_of u)
          (let f = (there u.number u is').0 in omega (arith, f.several)) (λ n h h'. ne
          (are.once t.number u.number (run_of t) (run_of u) (there t.number t is).2 (there u.number u is').2 n h h')) le;
      laid = λ t u is is' less. in_row 0 0 runs t.number u.number t u (list t.number t is) (list u.number u is') less;
    }

-- ---- the rule at the start

abbrev zeros : ℕ → List ℕ
zeros n = replicate n 0

zero_at : (n k : ℕ) → get_or (zeros n) k 0 ≡ 0
zero_at zero k = refl
zero_at (suc n) zero = refl
zero_at (suc n) (suc k) = zero_at n k

zero_sum : (n : ℕ) → total (λ (x : ℕ). x) (zeros n) ≡ 0
zero_sum zero = refl
zero_sum (suc n) = omega (arith, zero_sum n)

below_none : (f : ℕ → ℕ) (n : ℕ) → ((m : ℕ) → f m ≡ 0) → below f n ≡ 0
below_none f zero none = refl
below_none f (suc n) none = omega (arith, below_none f n none, none n)

module _ (shape : Shape) (places : ℕ) (is_shape : IsShape (2 + places) (2 * places) shape) (words : List ℕ)
    (words_are : words ≡ set (zeros (2 + places)) 1 nobody)
    (slots : List (List ℕ)) (long : length slots ≡ 2 * places) where
  word_zero : (k : ℕ) → k ≢ 1 → get_or words k 0 ≡ 0
  word_zero k ne = rw (words_are, get_or-set_other (zeros (2 + places)) 1 k nobody 0 ne) (zero_at (2 + places) k)

  word_one : get_or words 1 0 ≡ nobody
  word_one = rw words_are (get_or-set_same (zeros (2 + places)) 1 nobody 0
      (omega (arith, length-replicate {A = ℕ} (2 + places) 0)))

  words_long : length words ≡ 2 + places
  words_long = rw (words_are, length-set (zeros (2 + places)) 1 nobody) (length-replicate {A = ℕ} (2 + places) 0)

  abbrev views : List View
  views = first shape.units ∷ []

  the_first : (id : ℕ) (v : View) → get_elem? views id ≡ some v → first shape.units ≡ v
  the_first zero v e = some-injective (first shape.units) v e
  the_first (suc id) v e = absurd (some-ne-none v (sym e))

  ready_zero : (t : Tree) (k i : ℕ) → ready t words views k i ≡ 0
  ready_zero t zero i = refl
  ready_zero t (suc k) i = dite (dec_le t.count (middle k i))
      (λ le. ready_chain t words views k i le ∙ ready_zero t k (2 * i))
      (λ gt. ready_node t words views k i (omega arith)
      ∙ ap (λ (x : ℕ). x / 2) (word_zero (word_of t (middle k i)) (λ e. omega arith)))

  start_tree : (t : Tree) → IsTreeOf shape t → KeepsTree t words (map some slots) views
  start_tree t is = let f = is_shape.fits t is in let some_unit : 0 < t.count = omega (arith, f.several) in record {
    arrived = λ _. 0;
    some_unit = some_unit;
    tall = f.tall;
    long = omega (arith, f.long, words_long);
    wide = omega (arith, f.wide, length-map slots some, long);
    once = λ i h. omega arith;
    word = λ m pos h. word_zero (word_of t m) (λ e. omega arith);
    flow = λ s k j side. sym (ready_zero t k j);
    outs = λ m side two pos h. omega arith;
    out_top = omega arith;
    home = λ s k j side none_out. grind (arith, some_there slots s);
    climb = λ id v c k j e climbs to. cc (ap (λ (x : View). x.climb) (the_first id v e));
    left = λ id v c o y k j e climbs sp to. cc (ap (λ (x : View). x.climb) (the_first id v e));
    tops = refl;
    told = λ id v e. rw (sym (the_first id v e)) tt;
  }

  pub opens : Keeps shape (opening words slots (first shape.units))
  opens = record {
    small = is_shape.small;
    long = omega (arith, words_long);
    unused = λ i big free. word_zero i (λ e. omega arith);
    claims = rw (word_zero 0 (λ e. omega arith), word_one) (record {
      once = λ f. let e : min 0 shape.units ≡ 0 = omega arith in rw e refl;
      rooms = refl;
      gone = λ i v e none. absurd (omega (arith, ap (λ (x : View). x.room) (the_first i v e)));
      counted = refl;
      bounded = omega arith;
      spared = λ u h. refl;
      attained = λ h. omega arith;
      most = omega arith;
      why = λ i v e yes. cc (ap (λ (x : View). x.done) (the_first i v e));
    });
    trees = start_tree;
    known = λ id v e some_room. subst (IsKnown shape) (the_first id v e) (refl, tt);
    arrivals = grind (arith, zero_sum (2 + places), word_one);
    joins = λ t is. sym (below_none (λ m. get_or words (word_of t (m + 1)) 0 / 2) (t.count - 1)
        (λ m. ap (λ (x : ℕ). x / 2) (word_zero (word_of t (m + 1)) (λ e. omega arith))));
  }

-- ---- the loop over the runs

abbrev pub no_run : Run
no_run = record { first = 0; count = 0; level = 0 }

-- the next run
pub next_run : (runs : List Run) (i : ℕ) → i < length runs
    → (drop i runs ≡ get_or runs i no_run ∷ drop (i + 1) runs) × (get_elem? runs i ≡ some (get_or runs i no_run))
next_run runs i inside = (
  at_drop_more (λ (l : List Run). l) runs i no_run inside,
  here runs i no_run inside,
)

pub tree_there : (number offset : ℕ) (run : Run) (runs : List Run) → trees_from number offset (run ∷ runs)
    ≡ laid number offset run (height run.count) ∷ trees_from (number + 1) (offset + run.count) runs
unfolding trees_from
tree_there number offset run runs = refl

pub no_tree : (number offset : ℕ) → trees_from number offset [] ≡ []
unfolding trees_from
no_tree number offset = refl

pub low_count : (run : Run) → run.level + height run.count ≤ 36 → run.count ≤ 2 ^ 36
low_count run low = grind (arith, height_covers run.count, pow_mono)
