-- files without more pieces are passed, and then one piece
use Rattle.tor_recheck.proofs.Names.{◌<◌, ◌+◌, ◌∙◌, [], ap, div_ceil, drop, drop-drop, flat_map, get_or, hashes_of_file}
use Rattle.tor_recheck.proofs.Names.{subst, sym, TreeFile}
use Rattle.tor_recheck.proofs.ToldLeft.{hashes_from, left_after, next_left, none_left}
use Rattle.tor_recheck.proofs.merkle_hashes.ToldHashes.next.Goals as goal

pub left-preserved : goal.left-preserved
left-preserved c =
    let p = c.self.inside.piece_length in
    let count = c.div_ceil-count.ensures ∙ ap (λ (file : TreeFile). div_ceil file.length p) c.file.ensures in
    record {
      same = c.left.invariant.same;
      left = left_after p c.left.files.now c.in-Some.later.now c.in-Some.file.now c.in-Some.ensures.cases.0
          c.div_ceil-count.result count c.left.passed c.if-passed-count.false
          ∙ c.left.invariant.left;
    }

pub invariant_of-self : goal.invariant_of-self
invariant_of-self c = subst (λ n. 0 < n) (sym c.left.invariant.same) c.self.invariant

pub returns-then-passed-count-clause-hash : goal.returns-then-passed-count-clause-hash
returns-then-passed-count-clause-hash c =
    let p = c.self.inside.piece_length in
    let count = c.div_ceil-count.ensures ∙ ap (λ (file : TreeFile). div_ceil file.length p) c.file.ensures in
    c.told_at.ensures
    ∙ next_left p c.left.files.now c.in-Some.later.now c.in-Some.file.now c.in-Some.ensures.cases.0
    c.div_ceil-count.result count c.left.passed c.if-passed-count.true
    ∙ ap (λ told. get_or told 0 []) (c.left.invariant.left ∙ c.self.view_is)

pub returns-then-passed-count-clause-later : goal.returns-then-passed-count-clause-later
returns-then-passed-count-clause-later c =
    let p = c.self.inside.piece_length in
    ap (λ n. hashes_from n (c.left.passed + 1) c.left.files.now) c.left.invariant.same
    ∙ sym (drop-drop 1 c.left.passed (flat_map (hashes_of_file p) c.left.files.now))
    ∙ ap (drop 1) (c.left.invariant.left ∙ c.self.view_is)

pub invariant_of-self-2 : goal.invariant_of-self-2
invariant_of-self-2 c = subst (λ n. 0 < n) (sym c.left.invariant.same) c.self.invariant

pub returns-clause-hash : goal.returns-clause-hash
returns-clause-hash c =
    let none = none_left c.self.inside.piece_length c.left.passed c.left.files.now c.in_default.ensures.cases in
    ap (λ told. get_or told 0 []) (sym none ∙ c.left.invariant.left ∙ c.self.view_is)

pub returns-clause-later : goal.returns-clause-later
returns-clause-later c =
    let none = none_left c.self.inside.piece_length c.left.passed c.left.files.now c.in_default.ensures.cases in
    none_left c.left.self-inside.piece_length c.left.passed c.left.files.now c.in_default.ensures.cases
    ∙ ap (drop 1) (sym none ∙ c.left.invariant.left ∙ c.self.view_is)
