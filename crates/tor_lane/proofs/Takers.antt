-- A lane begins as the rule says; to make a taker, and to learn what one did, keeps it.
use Rattle.std.proofs.Common.{◌≡◌, ℕ, zero, suc, ◌+◌, true, false, true≢false, List, [], ◌∷◌, ◌++◌, set}
use Rattle.std.proofs.Common.{sym, refl, ap, ◌∙◌, subst, ⊎_elim, arith, IsPermutation}
use Rattle.std.proofs.lemmas.List.Sums.{sum_by_push}
use Rattle.std.proofs.lemmas.List.Sorted.{IsPermutation-refl, IsPermutation-trans}
use mathlib.Core.Option.{some, some-injective, some-ne-none}
use lib.ListN.{get_elem?}
use Rattle.atomic_table.proofs.Lists.{at_longer, at_set, at_snoc}
use Rattle.crossbeam_channel.specs.Fifo.{Forks, Merges}
use Rattle.tor_lane.specs.declared.chunk.Chunk.{Chunk}
use Rattle.tor_lane.specs.declared.view.View.{View}
use Rattle.tor_lane.specs.Messages.{chunks_in}
use Rattle.tor_lane.specs.Rule.{Feeds, Keeps, TakesByRight}
use Rattle.tor_lane.specs.Views.{both, first, fresh, making, spent}
use Rattle.tor_lane.proofs.Lists.{empty_more, merged, same_part}
use Rattle.tor_lane.proofs.Puts.{Each, each_set, fed_set, only_one}
use Rattle.tor_lane.proofs.Sums.{sum_set}

only_first : (F : ℕ → View → Type 0) → F 0 first → Each F (first ∷ [])
only_first F holds zero v e = subst (F 0) (some-injective first v e) holds
only_first F holds (suc j) v e = absurd (some-ne-none v (sym e))

pub begins : Keeps [] (first ∷ [])
begins = record {
  feeder = 0;
  fed = (first, refl, refl);
  put = [];
  ended = 0;
  made = 0;
  out = [];
  order = refl;
  chunks = IsPermutation-refl [];
  marks = refl;
  takers = refl;
  few = omega arith;
  one_each = omega arith;
  feeds = only_first (Feeds 0 [] 0 0) (λ _. (refl, refl, refl, refl));
  rights = only_first (λ _. TakesByRight) ((λ _. refl), omega arith);
}

-- an end that does not feed is not the feeder
never : (feeder : ℕ) (put : List Chunk) (ended made at : ℕ) (v : View) → v.feeds ≡ false
    → Feeds feeder put ended made at v
never feeder put ended made at v not p = absurd (true≢false (sym p ∙ not))

-- one end more
each_more : (F : ℕ → View → Type 0) (views : List View) (w : View) → Each F views → ((j : ℕ) → F j w)
    → Each F (views ++ w ∷ [])
each_more F views w each new j u e = ⊎_elim (λ x. each j u x) (λ (same : w ≡ u). subst (F j) same (new j))
    (at_snoc views w u j e)

pub makes : (at : ℕ) (v : View) → v.feeds ≡ true → Forks Keeps at v (making v) (fresh v)
makes at v feeds items views h here =
    let mine = h.feeds at v here feeds in
    let l : View = making v in
    let old : List View = set views at l in record {
      feeder = h.feeder;
      fed = (let fed = fed_set views h.feeder at v l here (λ p. p) h.fed in
          (fed.0, at_longer old (fresh v ∷ []) h.feeder fed.0 fed.1, fed.2));
      put = h.put;
      ended = h.ended;
      made = h.made + 1;
      out = h.out;
      order = h.order;
      chunks = subst (λ y. IsPermutation (chunks_in h.out) y)
          (sym (empty_more (λ (u : View). u.taken) old (fresh v) refl
          ∙ same_part (λ (u : View). u.taken) views at v l here refl)) h.chunks;
      marks = (let s = sum_set (λ (u : View). u.marks) views at v l here in
          let t = sum_by_push (λ (u : View). u.marks) old (fresh v) in let m = h.marks in omega arith);
      takers = (let s = sum_set (λ (u : View). u.takers) views at v l here in
          let t = sum_by_push (λ (u : View). u.takers) old (fresh v) in let m = h.takers in omega arith);
      few = (let n = h.few in omega arith);
      one_each = (let n = h.one_each in omega arith);
      feeds = each_more (Feeds h.feeder h.put h.ended (h.made + 1)) old (fresh v)
          (each_set (Feeds h.feeder h.put h.ended (h.made + 1)) views at l
          (λ _. (mine.0, mine.1, mine.2, ap (λ n. n + 1) mine.3))
          (only_one h.put h.ended (h.made + 1) items views h at v here feeds))
          (λ j. never h.feeder h.put h.ended (h.made + 1) j (fresh v) refl);
      rights = each_more (λ _. TakesByRight) old (fresh v)
          (each_set (λ _. TakesByRight) views at l (h.rights at v here) (λ j u _ e. h.rights j u e))
          (λ j. (λ idle. absurd (omega (arith, idle)), omega arith));
    }

pub learns : (at : ℕ) (v : View) (other : ℕ) (u : View) → u.feeds ≡ false
    → Merges Keeps at v other u (both v u) spent
learns at v other u takes items views h here two there =
    let b : View = both v u in
    let was : get_elem? views other ≡ some u = ⊎_elim (λ x. absurd (two x.0)) (λ x. x.1)
    (at_set views at other b u there) in
    let theirs = h.rights other u was in
    let now : List View = set views at b in record {
      feeder = h.feeder;
      fed = fed_set now h.feeder other u spent there (λ p. absurd (true≢false (sym p ∙ takes)))
          (fed_set views h.feeder at v b here (λ p. p) h.fed);
      put = h.put;
      ended = h.ended;
      made = h.made;
      out = h.out;
      order = h.order;
      chunks = IsPermutation-trans _ _ _ h.chunks
          (merged (λ (y : View). y.taken) views at other v u b spent two here was refl refl);
      marks = (let s = sum_set (λ (y : View). y.marks) views at v b here in
          let t = sum_set (λ (y : View). y.marks) now other u spent there in let m = h.marks in omega arith);
      takers = (let s = sum_set (λ (y : View). y.takers) views at v b here in
          let t = sum_set (λ (y : View). y.takers) now other u spent there in let m = h.takers in omega arith);
      few = h.few;
      one_each = h.one_each;
      feeds = each_set (Feeds h.feeder h.put h.ended h.made) now other spent
          (never h.feeder h.put h.ended h.made other spent refl)
          (λ j y _ e. each_set (Feeds h.feeder h.put h.ended h.made) views at b (h.feeds at v here)
          (λ j y _ e. h.feeds j y e) j y e);
      rights = each_set (λ _. TakesByRight) now other spent ((λ _. refl), omega arith)
          (λ j y _ e. each_set (λ _. TakesByRight) views at b
          (let mine = h.rights at v here in (
            λ idle. ap (λ z. z ++ u.taken) (mine.0 (omega (arith, idle))) ∙ theirs.0 (omega (arith, idle)),
            omega (arith, mine.1, theirs.1),
          ))
          (λ j y _ e. h.rights j y e) j y e);
    }
