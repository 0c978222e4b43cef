use Rattle.tor_board.proofs.Names.{false, true, ◌≡◌, Desk, finished}

finished_already : (d : Desk) → d.done ≡ true → d.looked ≡ false → d ≡ finished d
finished_already d e f = λ i. record d { done = e i; looked = f i }
