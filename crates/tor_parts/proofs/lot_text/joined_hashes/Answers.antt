-- one more hash, and all of them
use Rattle.std.proofs.Common.{◌∙◌, ap, subst}
use Rattle.std.proofs.lemmas.List.{take_all}
use Rattle.std.specs.List.{AllByRecursion}
use Rattle.tor_parts.specs.LotText.{Is32, joined}
use Rattle.tor_parts.proofs.FlatMaps.{joined_more}
use Rattle.tor_parts.proofs.LotHashes.{all_more}
use Rattle.tor_parts.proofs.lot_text.joined_hashes.Goals as goal

pub hashes-preserved : goal.hashes-preserved
hashes-preserved c =
    let hashes = c.args.hashes.now in
    let index = c.hashes.hash-index in
    let there = c.hashes-test.true in record {
      joined =
          c.in_ok-extend_from_slice.ensures.items
          ∙ joined_more (λ hash. hash) hashes index _ c.hashes.bytes.items there c.hashes.invariant.joined;
      each = all_more hashes index _ there c.hashes.invariant.each (c.told-hashes index there);
    }

pub returns : goal.returns
returns c =
    let all = take_all c.hashes.hash-index c.args.hashes.now c.hashes-test.false in record {
      joined = c.hashes.invariant.joined ∙ ap joined all;
      each = subst (λ some. AllByRecursion Is32 some) all c.hashes.invariant.each;
    }
