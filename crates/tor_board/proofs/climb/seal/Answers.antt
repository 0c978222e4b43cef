use Rattle.tor_board.proofs.{Going.seals, Meets.top_of, Names.{arith, climb_at}}
use Rattle.tor_board.proofs.climb.seal.Goals as goal

pub load-requires : goal.load-requires
load-requires c = let cl = c.requires.climbs in let spot = c.args._spot.now in
    let top = top_of (c.requires.shape.fits c.args._tree.now c.requires.tree) cl c.requires.top in (
      c.requires.table,
      omega (arith, c.requires.shape.two),
      seals c.requires.shape _ _ _ (climb_at c.args._tree.now spot.level spot.index spot.hash cl.spare) cl.is cl.carried
          c.requires.tree top cl.left c.requires.room,
    )

pub returns : goal.returns
returns c = record { table = c.load.ensures.0; told = (c.load.ensures.2.0 _ c.requires.climbs.is).0 }
