-- nothing is owed to a chunk that does not wait
use Rattle.std.proofs.Common.{List, [], append-nil, refl, subst, sym, ℕ}
use Rattle.tor_streams.specs.steps.OwedChunks.{Owes}
use Rattle.tor_streams.proofs.owed_chunks.ChunkSums.of.Goals as goal

pub returns-then-not-waits : goal.returns-then-not-waits
returns-then-not-waits c = λ owed owes. (
  [],
  record { room = refl; facts = c.in_ok-sums.ensures },
  subst (λ (all : List ℕ). Owes c.args.chunking.piece_length all c.args.owing.now) (sym (append-nil owed)) owes,
)
