-- Each command is what its table says.
use Rattle.std.proofs.Common.{refl}
use Rattle.tor_words.specs.CommandLine.{Parsers}
use Rattle.tor_words.proofs.commands.torrent_commands.Goals as goal

pub returns : goal.returns
returns c =
    let (kinds, hows, are, ways, of_make) = c.make_table.ensures.rules in
    let (plans, planned, of_plan) = c.plan_table.ensures.rules in
    let parsers : Parsers = record {
      kinds = kinds;
      plans = plans;
      hows = hows;
      of_make = are;
      of_plan = planned;
      of_ways = ways;
    } in (
      parsers,
      rw (
        of_make,
        of_plan,
        c.join_table.ensures.rules,
        c.scan_table.ensures.rules,
        c.check_table.ensures.rules,
        c.magnet_table.ensures.rules,
        c.edit_table.ensures.rules,
      ) refl,
    )
