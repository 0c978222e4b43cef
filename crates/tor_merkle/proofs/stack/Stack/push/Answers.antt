-- a carry, and the digit at which the carries end
use Rattle.tor_merkle.proofs.Names.{◌≡◌, ℕ, ◌+◌, ◌*◌, ◌/◌, ◌^◌, List, [], ◌∷◌, ◌++◌, arith, ap, ap₂, ◌∙◌, sym, add-one}
use Rattle.tor_merkle.proofs.Names.{mul_assoc, length, pow-succ', get_or_default, get_or_push, node, node_of, zero_leaf}
use Rattle.tor_merkle.proofs.Names.{zero_subtree}
use Rattle.tor_merkle.proofs.Tops.{carry, pushed, digit_below}
use Rattle.tor_merkle.proofs.stack.Stack.push.Goals as goal

first : (base : ℕ) (hashes : List (List ℕ)) (hash : List ℕ) (count : ℕ) → length hashes ≡ count
    → hash ≡ node base (hashes ++ hash ∷ []) 0 count
unfolding node
first base hashes hash count e = sym (get_or_push hashes hash (zero_subtree base) count e)

pub carries-init : goal.carries-init
carries-init c =
    let s = c.self.inside in
    record {
      room = omega (arith, c.self.invariant.counted, rw (← c.self.view_is) at c.requires);
      low = omega arith;
      digits = omega arith;
      root =
          rw c.with-pushed.ensures
          (first s.level s.pushed.items c.args.hash s.count (sym c.self.invariant.counted));
    }

pub carries-preserved : goal.carries-preserved
carries-preserved c =
    let s = c.self.inside in
    let odd = c.carries-test.true in
    let half : c.carries.rest + 1 ≡ (c.carries.rest / 2 + 1) * 2 = omega arith in
    let digits : c.self.inside.count + 1 ≡ (c.carries.rest / 2 + 1) * 2 ^ (c.carries.digit + 1) =
    c.carries.invariant.digits ∙ ap (λ n. n * 2 ^ c.carries.digit) half
    ∙ mul_assoc (c.carries.rest / 2 + 1) 2 (2 ^ c.carries.digit)
    ∙ ap (λ n. (c.carries.rest / 2 + 1) * n) (sym (pow-succ' 2 c.carries.digit))
    ∙ ap (λ n. (c.carries.rest / 2 + 1) * 2 ^ n) (sym (add-one c.carries.digit)) in
    record {
      room = c.carries.invariant.room;
      low =
          let most =
          digit_below s.level s.count (c.carries.rest / 2) (c.carries.digit + 1) c.carries.invariant.room digits in
          omega (arith, most);
      digits = digits;
      root =
          c.pair-top.ensures
          ∙ ap (λ x. node_of x c.carries.top)
          (get_or_default s.tops c.carries.digit [] zero_leaf (omega arith))
          ∙ carry s.level s.count s.tops s.pushed.items c.self.invariant c.args.hash
          c.carries.digit c.carries.rest c.carries.top c.carries.invariant.digits odd
          (c.carries.invariant.root ∙ ap (λ xs. node s.level xs c.carries.digit c.carries.rest) c.with-pushed.ensures)
          ∙ ap₂ (λ xs k. node s.level xs k (c.carries.rest / 2)) (sym c.with-pushed.ensures)
          (sym (add-one c.carries.digit));
    }

pub invariant_of-self : goal.invariant_of-self
invariant_of-self c =
    let s = c.self.inside in
    rw c.with-pushed.ensures
    (pushed s.level s.count s.tops s.pushed.items c.self.invariant c.args.hash
    c.carries.digit c.carries.rest c.carries.top
    c.carries.invariant.digits (omega arith) (omega arith) c.carries.invariant.room
    (c.carries.invariant.root ∙ ap (λ xs. node s.level xs c.carries.digit c.carries.rest) c.with-pushed.ensures))
