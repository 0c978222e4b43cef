-- the contents of all readers
use Rattle.std.proofs.Common.{◌≡◌, ◌++◌, ◌∷◌, ◌≤◌, ℕ, List, [], length, map, arith, refl, ap, ap₂, sym, subst}
use Rattle.std.proofs.Common.{◌∙◌, ◌^◌, append_assoc, append-nil, rules}
use Rattle.std.specs.List.{AllZip}
use Rattle.std.specs.Vec.Iter.{into_iter_items}
use Rattle.std.proofs.lemmas.List.{map-append, nil_from_length, length-map}
use Rattle.std.proofs.lemmas.Slice.Zip.{AllZip-long}
use Rattle.tor_streams.specs.Streams.{GivesWhole}
use Rattle.tor_streams.proofs.Cutting.{lanes_join}
use Rattle.tor_streams.proofs.StreamWorkers.{all_joined}
use Rattle.tor_streams.proofs.Readers.{contents_more, read_up_to}
use Rattle.tor_streams.proofs.read_streams.read_each.Goals as goal

pub readers-init : goal.readers-init
readers-init g c = record {
  items = search rules;
  left = search rules;
  contents = [];
  given = tt;
  small = tt;
  counted = sym c.in_ok-lengths.ensures.items;
  cut = c.requires.ready;
  lane = (refl, refl);
}

pub read_whole-requires-clause-ready : goal.read_whole-requires-clause-ready
read_whole-requires-clause-ready g c = (c.readers.invariant.contents, c.readers.invariant.cut)

pub readers-preserved : goal.readers-preserved
readers-preserved g c =
    let before = c.readers.invariant in
    let read = c.in-Ok.ensures.read in
    let steps = c.in-Some.ensures.steps in
    let content = read.0 in record {
      items = append_assoc c.readers.yielded (c.in-Some.reader ∷ []) _
          ∙ ap (λ xs. c.readers.yielded ++ xs) (sym steps.0) ∙ before.items;
      left = let was = before.left in let gone = steps.1 in let short = ap length steps.0 in omega arith;
      contents = before.contents ++ content ∷ [];
      given = contents_more g.R.Read.remaining c.readers.yielded c.in-Some.reader before.contents content before.given
          (g.R.Read.remaining c.read_whole.new.reader, read.1.given, read.1.end);
      small = all_joined (λ (one : List ℕ). length one ≤ 2 ^ 50) before.contents (content ∷ []) before.small
          (omega (arith, read.2, read.3), tt);
      counted = map-append length before.contents (content ∷ [])
          ∙ ap₂ (λ xs n. xs ++ n ∷ []) before.counted read.2 ∙ sym c.in_ok-push-in-Ok.ensures.items;
      cut = read.4 before.contents before.cut;
      lane = lanes_join c.args.cutter.now.pairs.feeder c.readers.cutter.pairs.feeder c.readers.cutter.pairs.feeder
          c.read_whole.new.self.pairs.feeder before.lane refl c.read_whole.ensures.lane.0;
    }

pub returns-in-Err-clause-fault : goal.returns-in-Err-clause-fault
returns-in-Err-clause-fault g c =
    let before = c.readers.invariant in
    let came = c.in-Err.ensures.stopped in
    let whole = ap (λ xs. c.readers.yielded ++ xs) (sym c.in-Some.ensures.steps.0) ∙ before.items in
    let counted = c.len-file.ensures ∙ c.readers.lengths.ok.0 ∙ ap length (sym before.counted)
    ∙ length-map before.contents length
    ∙ AllZip-long GivesWhole (map g.R.Read.remaining c.readers.yielded) before.contents before.given
    ∙ length-map c.readers.yielded g.R.Read.remaining in
    c.error_of.ensures (map g.R.Read.remaining c.args.readers.items) came.0
    (read_up_to g.R.Read.remaining c.readers.yielded c.in-Some.reader (into_iter_items c.next.new.self)
    c.args.readers.items whole c.len-file.result counted before.contents before.given before.small came.0
    (g.R.Read.remaining c.read_whole.new.reader, came.1)) came.2

pub put_rest-requires-clause-has : goal.put_rest-requires-clause-has
put_rest-requires-clause-has g c = (c.readers.invariant.contents, c.readers.invariant.cut.has)

pub returns-clause-put : goal.returns-clause-put
returns-clause-put g c =
    let before = c.readers.invariant in
    let empty : into_iter_items c.readers.reader-iterator ≡ [] =
    nil_from_length _ (sym before.left ∙ c.in-None.ensures.steps.0) in
    let all : c.readers.yielded ≡ c.args.readers.items =
    sym (append-nil c.readers.yielded) ∙ ap (λ xs. c.readers.yielded ++ xs) (sym empty) ∙ before.items in (
      before.contents,
      subst (λ rs. AllZip GivesWhole (map g.R.Read.remaining rs) before.contents) all before.given,
      record {
        small = before.small;
        counted = before.counted;
        cut = c.in_ok-put_rest.ensures.put before.contents before.cut.has;
      },
    )
