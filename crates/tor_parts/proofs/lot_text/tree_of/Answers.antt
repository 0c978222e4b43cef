-- the tree is lawful
use Rattle.std.proofs.Common.{◌∙◌, ap, arith, subst, sym}
use Rattle.tor_bencode.specs.Data.{Data}
use Rattle.tor_bencode.specs.Lawful.{IsLawful}
use Rattle.tor_bencode.specs.View.{view}
use Rattle.tor_parts.specs.LotText.{facts_of}
use Rattle.tor_parts.proofs.LotLawful.{lot_is_lawful}
use Rattle.tor_parts.proofs.LotPairs.{view-Dict}
use Rattle.tor_parts.proofs.lot_text.tree_of.Goals as goal

pub unreachable-requires : goal.unreachable-requires
unreachable-requires c =
    let lawful = lot_is_lawful (facts_of c.args.lot.now) (omega arith) (omega arith) in
    let is = view-Dict c.push_pairs.new.pairs ∙ c.in_ok-push_pairs.ensures.pairs in
    let no = c.in-Err.ensures.lawful.1 (subst (λ (d : Data). IsLawful d) (sym is) lawful) in
    cc

pub returns : goal.returns
returns c = record {
  tree =
      ap view c.in-Ok.ensures.kept ∙ view-Dict c.push_pairs.new.pairs
      ∙ c.in_ok-push_pairs.ensures.pairs;
  hashes = c.in_ok-push_pairs.ensures.hashes;
}
