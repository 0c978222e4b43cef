-- the sums are those of what was fed, and of the tail after it
use Rattle.std.proofs.Common.{◌∙◌, ℕ, [], ◌∷◌, subst, sym}
use Rattle.tor_meta.specs.steps.Sums.{SumsOfOne}
use Rattle.tor_meta.specs.Head.{settings_of}
use Rattle.tor_meta.proofs.Judged.{piece_allowed}
use Rattle.tor_meta.proofs.fed.making.make_fed.Goals as goal

pub tail_length-requires-clause-piece : goal.tail_length-requires-clause-piece
tail_length-requires-clause-piece c =
    let head = c.args.head.now in piece_allowed (settings_of head) ((head.name ∷ []) ∷ []) c.requires.accepted

pub make_summed-requires-clause-summed : goal.make_summed-requires-clause-summed
make_summed-requires-clause-summed c =
    let head = c.args.head.now in
    let fed = c.requires.fed in (
      fed.0,
      sym (c.count-count.ensures.value ∙ fed.1.counted),
      subst (λ (n : ℕ). SumsOfOne head.kind head.piece_length fed.0 n c.in_ok-sums.sums) c.tail_length.ensures
          (c.in_ok-sums.ensures head.kind head.piece_length fed.0 fed.1),
    )

pub returns-clause-made : goal.returns-clause-made
returns-clause-made c = λ bytes fed.
    let head = c.args.head.now in
    c.make_summed.ensures.made bytes (sym (c.count-count.ensures.value ∙ fed.counted))
    (subst (λ (n : ℕ). SumsOfOne head.kind head.piece_length bytes n c.in_ok-sums.sums) c.tail_length.ensures
    (c.in_ok-sums.ensures head.kind head.piece_length bytes fed))
