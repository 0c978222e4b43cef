-- the bytes stand behind what was held
use Rattle.std.proofs.Common.{◌++◌, ◌∙◌, drop, ap, sym, take, arith, length}
use Rattle.std.proofs.Math.Seq.{drop-append_seam}
use Rattle.std.proofs.lemmas.List.{take-append-le, take_all}
use Rattle.tor_sums.proofs.room.copy_behind.Goals as goal

pub returns-clause-copied : goal.returns-clause-copied
returns-clause-copied c =
    let front = c.split_at_mut-room.result.0.now in
    let copied = c.copy_from_slice.new.self in
    let rest = c.split_at_mut-buffer.result.1.now in
    let n = length c.args.first.now in
    let same = c.copy_from_slice.ensures.after in
    ap (λ k. take n (drop k (front ++ (copied ++ rest)))) (sym c.split_at_mut-room.ensures.front_len)
    ∙ ap (take n) (drop-append_seam front (copied ++ rest))
    ∙ ap (λ xs. take n (xs ++ rest)) same
    ∙ take-append-le n c.args.first.now rest (omega arith)
    ∙ take_all n c.args.first.now (omega arith)
