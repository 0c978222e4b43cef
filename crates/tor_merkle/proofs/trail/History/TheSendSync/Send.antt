-- A history owns nothing, so it may go to another thread.
use Rattle.tor_merkle.proofs.Names.{RattleType, IsSend, owning_send, sendable}
use Rattle.tor_merkle.specs.contracts.trail.History.{the_row, the_type}

pub send : (T : RattleType) → IsSend T → IsSend (the_row T)
send T t = owning_send (the_type T) (search sendable, tt) (λ d. tt) (λ k x w. tt)
