-- the items of the files so far
use Rattle.std.proofs.Common.{◌≡◌, map, take}
use Rattle.std.specs.List.{flat_map, zip}
use Rattle.tor_bencode.specs.View.{view}
use Rattle.tor_meta.specs.PlanText.{file_items}
use Rattle.tor_meta.proofs.plans.plan_text.file_list.Given as goal

abbrev pub invariant-files : goal.invariant-files
invariant-files l = map view l.items.items ≡ flat_map file_items (take l.index (zip l.files l.attrs))
