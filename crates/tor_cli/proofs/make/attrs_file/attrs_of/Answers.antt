-- One more path is found, and its letters are put there.
use Rattle.std.proofs.Common.{[], arith}
use Rattle.tor_cli.proofs.LetteredPaths.{absent, all_put, listed, none_put, one_more}
use Rattle.tor_cli.proofs.make.attrs_file.attrs_of.Goals as goal

pub returns-in_default : goal.returns-in_default
returns-in_default c among =
    absent c.args.paths.now c.index-named-left.result.0 c.in_default.field-0 c.requires c.in_default.ensures.position
    (listed c.args.paths.now c.args.named.now c.named.left c.index-named-left.result c.named-test.true
    c.named.invariant.within c.index-named-left.is among)

pub named-init : goal.named-init
named-init c =
    record {
      within = omega arith;
      put = none_put c.args.paths.now c.args.named.now c.in_ok-attrs.attrs.items c.in_ok-attrs.ensures;
    }

pub named-preserved : goal.named-preserved
named-preserved c =
    record {
      within = omega arith;
      put =
          one_more c.args.paths.now c.args.named.now c.named.left c.in-Ok.place c.index-named-left.result
          c.named.attrs.items c.requires c.named-test.true c.named.invariant.within c.in-Ok.ensures.bound
          (c.in-Ok.ensures.ok []) c.index-named-left.is c.named.invariant.put;
    }

pub returns : goal.returns
returns c =
    let put =
    all_put c.args.paths.now c.args.named.now c.named.left c.named.attrs.items c.named-test.false
    c.named.invariant.put in
    (put.each, put.among)
