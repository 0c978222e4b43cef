use Rattle.tor_bencode.proofs.Names.{rules, always_returns_same, slice_cmp, nat_cmp}
use Rattle.tor_bencode.proofs.Searched.{searched, searched_name}
use Rattle.tor_bencode.proofs.item_ref.index_of_key.Goals as goal

pub returns-clause-found : goal.returns-clause-found
returns-clause-found c =
    let facts = c.binary_search_by.ensures in
    let by_key = facts.position (λ p. slice_cmp nat_cmp p.0.now c.args.key.now)
    (always_returns_same _ _ _ (λ a r f called. (search rules, search rules))) in
    (searched c.args.pairs.now c.requires c.args.key.now _ facts.bound by_key).0

pub returns-clause-absent : goal.returns-clause-absent
returns-clause-absent c =
    let facts = c.binary_search_by.ensures in
    let by_key = facts.position (λ p. slice_cmp nat_cmp p.0.now c.args.key.now)
    (always_returns_same _ _ _ (λ a r f called. (search rules, search rules))) in
    (searched c.args.pairs.now c.requires c.args.key.now _ facts.bound by_key).1

pub returns-clause-named : goal.returns-clause-named
returns-clause-named c =
    let facts = c.binary_search_by.ensures in
    let by_key = facts.position (λ p. slice_cmp nat_cmp p.0.now c.args.key.now)
    (always_returns_same _ _ _ (λ a r f called. (search rules, search rules))) in
    searched_name c.args.pairs.now c.args.key.now _ facts.bound by_key
