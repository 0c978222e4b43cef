-- What is cut while bytes come.
use Rattle.std.proofs.Common.{◌≡◌, ℕ, suc, ◌*◌, ◌<◌, ◌≤◌, Bool, true, false, cond, List, [], ◌∷◌, ◌++◌, length}
use Rattle.std.proofs.Common.{map, take, None, arith, refl, ap, ◌∙◌, sym, subst, append_assoc, append-nil, ap₂}
use Rattle.std.proofs.Common.{length-append, length-take, mul-pos, vec_len}
use Rattle.std.proofs.lemmas.List.{map-append}
use Rattle.std.specs.List.{flat_map, range_with_len}
use Rattle.tor_lane.specs.Lane.{FeedsLaneOf, IsOpen}
use Rattle.tor_lane.specs.declared.feeder.Feeder.{Feeder}
use Rattle.tor_tree.specs.Kinds.{has_v2}
use Rattle.tor_tree.specs.declared.kinds.Kind.{Kind}
use Rattle.tor_v1.proofs.ProvedLaws.{pieces_nil}
use Rattle.tor_streams.specs.declared.chunking.Chunking.{Chunking}
use Rattle.tor_streams.specs.declared.cutter.Cutter.{Cutter}
use Rattle.tor_streams.specs.declared.pairs.Pairs.{Pairs}
use Rattle.tor_streams.specs.steps.Cuts.{CutsMore, HasCut, IsChunking, IsCutOff, bare_cuts, closed_cuts}
use Rattle.tor_streams.specs.steps.Cuts.{cut_of, cuts_held, given_to, open_text, runs_of, units_held, units_of}
use Rattle.tor_sums.proofs.FileHashes.{some_piece}
use Rattle.tor_streams.proofs.CutLists.{range_more, runs_more}

-- a chunk has some byte
pub some_size : (chunking : Chunking) → IsChunking chunking → 0 < chunking.size
some_size chunking is =
    subst (λ (n : ℕ). 0 < n) (sym is.size)
    (mul-pos (omega (arith, is.cut.is_span.1)) (some_piece chunking.kind chunking.piece_length is.cut.pieces))

-- two steps that keep a lane keep it together
lanes_trans : (f g k : Feeder) → FeedsLaneOf f g → FeedsLaneOf g k → FeedsLaneOf f k
lanes_trans f g k first second = (second.0 ∙ first.0, second.1 ∙ first.1)

pub lanes_join : (f g h k : Feeder) → FeedsLaneOf f g → h ≡ g → FeedsLaneOf h k → FeedsLaneOf f k
lanes_join f g h k first same second =
    lanes_trans f g k first (subst (λ (x : Feeder). FeedsLaneOf x k) same second)

-- ---- by kinds with trees and without

with_more : (b : Bool) (joined current bytes : List ℕ)
    → cond b current (joined ++ current) ++ bytes ≡ cond b (current ++ bytes) (joined ++ (current ++ bytes))
with_more true joined current bytes = refl
with_more false joined current bytes = append_assoc joined current bytes

-- bytes of the present content
pub open_more : (kind : Kind) (contents : List (List ℕ)) (current bytes : List ℕ)
    → open_text kind contents current ++ bytes ≡ open_text kind contents (current ++ bytes)
open_more kind contents current bytes =
    with_more (has_v2 kind) (flat_map (λ content. content) contents) current bytes

pub none_of : (size : ℕ) → 0 ≡ 0 * size
none_of size = omega arith

module _ (chunking : Chunking) (some : 0 < chunking.size) where
  abbrev Has : List (List ℕ) → List ℕ → Cutter → Type 0
  Has contents current cutter = HasCut chunking contents current cutter

  abbrev Off : List (List ℕ) → List ℕ → Cutter → Type 0
  Off contents current cutter = IsCutOff chunking contents current cutter

  nothing_waits : (n : ℕ) (cut waiting text : List ℕ) → n ≡ 0 → cut ++ take n waiting ≡ text → cut ≡ text
  nothing_waits n cut waiting text none is =
      sym (ap (λ k. cut ++ take k waiting) none ∙ append-nil cut) ∙ is

  pub none_waits : (contents : List (List ℕ)) (current : List ℕ) (cutter : Cutter) → Has contents current cutter
      → cutter.filled ≡ 0 → Off contents current cutter
  none_waits contents current cutter has none = record {
    filled = none;
    buffer = has.buffer;
    cuts = has.cuts ∙ ap (λ text. closed_cuts chunking contents ++ bare_cuts (runs_of chunking.size text))
        (nothing_waits cutter.filled has.cut cutter.buffer.items _ none has.text);
    units = has.units;
    opened = has.opened;
    begun = has.begun;
  }

  -- what waits is cut
  module _ (contents : List (List ℕ)) (current : List ℕ) (old new : Cutter) (has : Has contents current old)
      (more : CutsMore old new) (still : IsOpen new.pairs.feeder) (waits : 0 < old.filled) where
    abbrev run : List ℕ
    run = take old.filled old.buffer.items

    long : length run ≡ old.filled
    long = length-take old.filled old.buffer.items ∙ omega (arith, has.filled, has.buffer, old.buffer.ok.0)

    cuts_now : map cut_of (given_to new.pairs) ++ cuts_held new.held new.zeros
        ≡ closed_cuts chunking contents ++ bare_cuts (runs_of chunking.size (has.cut ++ run))
    cuts_now =
        let before = closed_cuts chunking contents in
        more.cuts ∙ ap (λ xs. xs ++ (run, 0) ∷ []) has.cuts
        ∙ append_assoc before (bare_cuts (runs_of chunking.size has.cut)) ((run, 0) ∷ [])
        ∙ ap (λ xs. before ++ xs) (sym (map-append (λ r. (r, 0)) (runs_of chunking.size has.cut) (run ∷ []))
        ∙ ap bare_cuts (sym (runs_more chunking.size has.whole.0 has.cut run some has.whole.1
        (omega (arith, waits, long)) (omega (arith, has.filled, long)))))

    units_now : units_of (given_to new.pairs) ++ units_held new.held ≡ range_with_len 0 new.next
    units_now =
        more.units ∙ ap (λ xs. xs ++ old.next ∷ []) has.units ∙ sym (range_more old.next)
        ∙ ap (range_with_len 0) (sym more.next)

    pub cut_off : Off contents current new
    cut_off = record {
      filled = more.filled;
      buffer = more.buffer ∙ has.buffer;
      cuts = cuts_now ∙ ap (λ text. closed_cuts chunking contents ++ bare_cuts (runs_of chunking.size text)) has.text;
      units = units_now;
      opened = still;
      begun = more.begun;
    }

    -- a whole unit
    pub cut_whole : old.filled ≡ chunking.size → Has contents current new
    cut_whole whole = record {
      buffer = more.buffer ∙ has.buffer;
      filled = omega (arith, more.filled);
      cut = has.cut ++ run;
      whole = (suc has.whole.0, length-append has.cut run ∙ omega (arith, has.whole.1, long, whole));
      text = ap (λ k. (has.cut ++ run) ++ take k new.buffer.items) more.filled ∙ append-nil (has.cut ++ run)
          ∙ has.text;
      cuts = cuts_now;
      units = units_now;
      opened = still;
      begun = more.begun;
    }

  -- bytes came
  pub bytes_came : (contents : List (List ℕ)) (current bytes : List ℕ) (old new : Cutter) → Has contents current old
      → new.pairs ≡ old.pairs → new.held ≡ old.held → new.zeros ≡ old.zeros → new.next ≡ old.next
      → vec_len new.buffer ≡ vec_len old.buffer → new.filled ≤ vec_len new.buffer
      → take new.filled new.buffer.items ≡ take old.filled old.buffer.items ++ bytes
      → Has contents (current ++ bytes) new
  bytes_came contents current bytes old new has pairs held zeros next long within came = record {
    buffer = long ∙ has.buffer;
    filled = omega (arith, within, long, has.buffer);
    cut = has.cut;
    whole = has.whole;
    text = ap (λ xs. has.cut ++ xs) came
        ∙ sym (append_assoc has.cut (take old.filled old.buffer.items) bytes)
        ∙ ap (λ xs. xs ++ bytes) has.text ∙ open_more chunking.kind contents current bytes;
    cuts = ap (λ f. map cut_of (given_to f) ++ cuts_held new.held new.zeros) pairs
        ∙ ap (λ h. map cut_of (given_to old.pairs) ++ cuts_held h new.zeros) held
        ∙ ap (λ n. map cut_of (given_to old.pairs) ++ cuts_held old.held n) zeros ∙ has.cuts;
    units = ap (λ f. units_of (given_to f) ++ units_held new.held) pairs
        ∙ ap (λ h. units_of (given_to old.pairs) ++ units_held h) held ∙ has.units
        ∙ ap (range_with_len 0) (sym next);
    opened = subst (λ (p : Pairs). IsOpen p.feeder) (sym pairs) has.opened;
    begun = λ none. ap given_to pairs ∙ has.begun (sym held ∙ none);
  }

  -- ---- where nothing was read

  same_either : {X : Type 0} (b : Bool) (x : X) → cond b x x ≡ x
  same_either true x = refl
  same_either false x = refl

  pub none_read : (cutter : Cutter) → vec_len cutter.buffer ≡ chunking.size → cutter.filled ≡ 0 → cutter.held ≡ None
      → cutter.next ≡ 0 → given_to cutter.pairs ≡ [] → IsOpen cutter.pairs.feeder → Has [] [] cutter
  none_read cutter is_long filled held next put still = record {
    buffer = is_long;
    filled = omega (arith, filled);
    cut = [];
    whole = (0, none_of chunking.size);
    text = ap (λ n. take n cutter.buffer.items) filled ∙ sym (same_either (has_v2 chunking.kind) []);
    cuts = ap (λ cs. map cut_of cs ++ cuts_held cutter.held cutter.zeros) put
        ∙ ap (λ h. cuts_held h cutter.zeros) held
        ∙ sym (ap₂ (λ xs runs. xs ++ bare_cuts runs) (same_either (has_v2 chunking.kind) [])
        (pieces_nil chunking.size some));
    units = ap (λ cs. units_of cs ++ units_held cutter.held) put ∙ ap units_held held
        ∙ ap (range_with_len 0) (sym next);
    opened = still;
    begun = λ none. put;
  }
