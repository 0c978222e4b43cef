-- the zeros stand behind what was held
use Rattle.std.proofs.Common.{◌++◌, ◌∙◌, drop, ap, sym, replicate, take, arith}
use Rattle.std.proofs.Math.Seq.{drop-append_seam}
use Rattle.std.proofs.lemmas.List.{take-append-le, take_all}
use Rattle.tor_v1.specs.Piece.{zeros}
use Rattle.tor_sums.proofs.room.zeros_behind.Goals as goal

pub returns-clause-zeros : goal.returns-clause-zeros
unfolding zeros
returns-clause-zeros c =
    let front = c.split_at_mut-spare.result.0.now in
    let filled = c.fill.new.self in
    let rest = c.split_at_mut-buffer.result.1.now in
    let long = c.split_at_mut-buffer.ensures.front_len in
    ap (λ n. take c.args.count (drop n (front ++ (filled ++ rest)))) (sym c.split_at_mut-spare.ensures.front_len)
    ∙ ap (take c.args.count) (drop-append_seam front (filled ++ rest))
    ∙ take-append-le c.args.count filled rest (omega (arith, long, c.fill.ensures.len))
    ∙ take_all c.args.count filled (omega (arith, long, c.fill.ensures.len))
    ∙ c.fill.ensures.after (λ y is. is) ∙ ap (λ n. replicate n 0) long
