-- What a text has lines for, after some of it.
use Rattle.std.proofs.Common.{◌≡◌, ℕ, ◌<◌, List, [], ◌∷◌, ◌++◌, length, sym, ap, ◌∙◌, arith, append_assoc}
use Rattle.std.proofs.Common.{length-append}
use Rattle.std.specs.Prelude.{flat_map}
use Rattle.std.specs.List.{All}
use Rattle.std.proofs.lemmas.List.{append-nil, flat_map_more}
use Rattle.std.proofs.lemmas.List.Elements.{All-head, All-tail}

-- these lines are those of what comes after the first few
pub record AreLeft {X : Type 0} (IsOne : X → Type 0) (line : X → List ℕ) (all first : List X) (lines : List ℕ)
    : Type 0 where
  pub rest : List X
  pub each : All IsOne rest
  pub joined : all ≡ first ++ rest
  pub spelled : lines ≡ flat_map line rest

-- one more is left
pub record HasNext {X : Type 0} (IsOne : X → Type 0) (line : X → List ℕ) (all first : List X) (lines : List ℕ)
    : Type 0 where
  pub next : X
  pub after : List X
  pub is : IsOne next
  pub each : All IsOne after
  pub joined : all ≡ first ++ next ∷ after
  pub spelled : lines ≡ line next ++ flat_map line after

module _ {X : Type 0} (IsOne : X → Type 0) (line : X → List ℕ) (some : (x : X) → 0 < length (line x)) where
  -- no line, nothing left
  pub none_left : (all first : List X) (lines : List ℕ) → AreLeft IsOne line all first lines → length lines ≡ 0
      → first ≡ all
  none_left all first lines left none = ended left.rest left.joined left.spelled
    where
      ended : (rest : List X) → all ≡ first ++ rest → lines ≡ flat_map line rest → first ≡ all
      ended [] joined spelled = sym (joined ∙ append-nil first)
      ended (x ∷ rest) joined spelled =
          let both = length-append (line x) (flat_map line rest) in
          absurd (omega (arith, some x, sym none ∙ ap length spelled ∙ both))

  -- a line, one more
  pub one_left : (all first : List X) (lines : List ℕ) → AreLeft IsOne line all first lines → 0 < length lines
      → HasNext IsOne line all first lines
  one_left all first lines left there = more left.rest left.each left.joined left.spelled
    where
      more : (rest : List X) → All IsOne rest → all ≡ first ++ rest → lines ≡ flat_map line rest
          → HasNext IsOne line all first lines
      more [] each joined spelled = absurd (omega (arith, ap length spelled))
      more (x ∷ rest) each joined spelled =
          record {
            next = x;
            after = rest;
            is = All-head IsOne x rest each;
            each = All-tail IsOne x rest each;
            joined = joined;
            spelled = spelled;
          }

  -- which leaves the others
  pub step : (all first : List X) (lines : List ℕ) (h : HasNext IsOne line all first lines) (x : X) (rest : List ℕ)
      → x ≡ h.next → rest ≡ flat_map line h.after → AreLeft IsOne line all (first ++ x ∷ []) rest
  step all first lines h x rest same spelled =
      record {
        rest = h.after;
        each = h.each;
        joined =
            h.joined ∙ ap (λ (y : X). first ++ y ∷ h.after) (sym same)
            ∙ sym (append_assoc first (x ∷ []) h.after);
        spelled = spelled;
      }

  -- one more line was read
  pub one_more : (text lines rest : List ℕ) (first : List X) (x : X) → text ≡ flat_map line first ++ lines
      → lines ≡ line x ++ rest → text ≡ flat_map line (first ++ x ∷ []) ++ rest
  one_more text lines rest first x so_far next =
      so_far
      ∙ ap (λ (xs : List ℕ). flat_map line first ++ xs) next
      ∙ sym (append_assoc (flat_map line first) (line x) rest)
      ∙ ap (λ (xs : List ℕ). xs ++ rest) (flat_map_more line [] first x)
