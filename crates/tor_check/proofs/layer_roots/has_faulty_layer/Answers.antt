-- a root is marked where its layer has it
use Rattle.std.proofs.lemmas.Bool.{not-false}
use Rattle.tor_check.proofs.Names.{◌∙◌, ap, arith, refl, sym, true, List, ℕ, [], Option, hashes_in, root_of_file, seen}
use Rattle.tor_check.proofs.Names.{unwrap_or, IsJudged}
use Rattle.tor_check.proofs.Kept.{kept_one_more, mark_is_set}
use Rattle.tor_check.proofs.layer_roots.has_faulty_layer.Goals as goal

pub returns-then-index-judged-clause-judged : goal.returns-then-index-judged-clause-judged
returns-then-index-judged-clause-judged c =
    let layers = seen c.args.layers.now in
    let root = root_of_file c.args.file.now in
    let hashes = ap (λ (text : Option (List ℕ)). hashes_in (unwrap_or text [])) c.in-Some.ensures.text in
    kept_one_more (IsJudged c.args.layers.now.piece_length layers) layers c.args.judged.now c.in-Some.index root true
    c.in-Some.ensures.index (λ _. rw (← hashes) (not-false _ (sym c.if-is_other.ensures))) c.requires.judged

pub returns-then-is_marked-clause-value : goal.returns-then-is_marked-clause-value
returns-then-is_marked-clause-value c =
    let marked = mark_is_set _ (sym c.is_marked.ensures ∙ c.if-is_marked.true) in
    let kept =
    c.requires.judged c.in-Some.index (root_of_file c.args.file.now) true c.in-Some.ensures.index marked refl in
    grind (arith, kept)
