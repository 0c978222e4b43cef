-- the files so far
use Rattle.std.proofs.Common.{◌≡◌, map, take}
use Rattle.std.specs.List.{flat_map}
use Rattle.tor_bencode.specs.RefView.{view}
use Rattle.tor_meta.specs.PlanText.{IsPlanText, PlanText, file_items}
use Rattle.tor_meta.specs.steps.PlanParts.{AreLists}
use Rattle.tor_tree.specs.FileList.{files_with_attrs}
use Rattle.tor_meta.proofs.plans.plan_reading.read_files.Given as goal

abbrev pub invariant-files : goal.invariant-files
invariant-files l = record {
  lists : AreLists l.files.items l.attrs.items;
  told : (text : PlanText) → IsPlanText text → map view l.items ≡ flat_map file_items (files_with_attrs text.list)
      → (l.files.items ≡ take l.index text.list.files) × (l.attrs.items ≡ take l.index text.list.attrs);
}
