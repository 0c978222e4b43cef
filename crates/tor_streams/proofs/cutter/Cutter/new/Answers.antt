-- nothing was read
use Rattle.std.proofs.Common.{◌++◌, ◌≡◌, ◌∙◌, [], append-nil, ap₂, subst, sym, refl}
use Rattle.tor_lane.specs.Lane.{IsOpen, put_by}
use Rattle.tor_streams.specs.steps.Cuts.{chunk_waiting, given_to}
use Rattle.tor_streams.proofs.Cutting.{none_read, some_size}
use Rattle.tor_streams.proofs.cutter.Cutter.new.Goals as goal

pub returns-clause-ready : goal.returns-clause-ready
returns-clause-ready c =
    let some = some_size c.args.chunking c.requires.cut in
    let pairs = c.new-pairs.ensures in
    let nothing : given_to c.new-pairs.result ≡ [] =
    ap₂ (λ f h. put_by f ++ chunk_waiting h) pairs.feeder pairs.none ∙ append-nil _ ∙ c.requires.open.1 in record {
      has = none_read c.args.chunking some _ c.in_ok-buffer.ensures.length refl refl refl nothing
          (subst IsOpen (sym pairs.feeder) c.requires.open.0);
      room = some;
    }
