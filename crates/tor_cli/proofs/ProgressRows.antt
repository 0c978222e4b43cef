-- Lines of progress, written out by hand: what the built program shows depends on how fast it reads.
use Rattle.std.proofs.Common.{◌≡◌, ℕ, List, [], ◌∷◌, ◌++◌, ◌*◌, ◌-◌, refl}
use Rattle.std.specs.Prelude.{◌^◌, codes}
use Rattle.std.specs.Fmt.{digits}
use Rattle.tor_cli.specs.progress.ProgressLine.{progress_line}

-- a line from its beginning on, with what stands between that and its end
abbrev line : List ℕ → List ℕ
line shown = codes "\r" ++ (shown ++ codes "\u{1b}[K")

-- amounts in the largest unit of which there is one, and all that 64 bits can hold
amounts :
    progress_line 0 0 0 ∷
    progress_line 512 1023 1000 ∷
    progress_line 1023 1024 1000 ∷
    progress_line 1048575 1048576 1000 ∷
    progress_line 1153433 1153434 1000 ∷
    progress_line 107374182 1073741823 2000 ∷
    progress_line (2 ^ 30) (2 ^ 40 - 1) 8000 ∷
    progress_line 5000000000 4999999999 700 ∷
    progress_line (3 * 2 ^ 40) (2 ^ 50) 1000 ∷
    progress_line (2 ^ 64 - 1) (2 ^ 64 - 1) 0 ∷ []
    ≡ line (codes "0 B of 0 B, 0 B/s, 0 s left") ∷
    line (codes "512 B of 1023 B, 512 B/s, 0 s left") ∷
    line (codes "1023 B of 1.0 KiB, 1023 B/s, 0 s left") ∷
    line (codes "1023.9 KiB of 1.0 MiB, 1023.9 KiB/s, 0 s left") ∷
    line (codes "1.0 MiB of 1.1 MiB, 1.0 MiB/s, 0 s left") ∷
    line (codes "102.3 MiB of 1023.9 MiB, 51.1 MiB/s, 18 s left") ∷
    line (codes "1.0 GiB of 1023.9 GiB, 128.0 MiB/s, 2 h 16 min left") ∷
    line (codes "4.6 GiB of 4.6 GiB, 6.6 GiB/s, 0 s left") ∷
    line (codes "3.0 TiB of 1024.0 TiB, 3.0 TiB/s, 5 min 40 s left") ∷
    line (codes "16777215.9 TiB of 16777215.9 TiB, 16777215.9 TiB/s, 0 s left") ∷ []
unfolding digits
amounts = refl

-- times in their two largest units
times :
    progress_line 0 59 250 ∷
    progress_line 0 60 250 ∷
    progress_line 1 62 1000 ∷
    progress_line 0 3599 1 ∷
    progress_line 0 3600 1 ∷
    progress_line 0 86399 1 ∷
    progress_line 0 360000 1 ∷ []
    ≡ line (codes "0 B of 59 B, 0 B/s, 59 s left") ∷
    line (codes "0 B of 60 B, 0 B/s, 1 min 0 s left") ∷
    line (codes "1 B of 62 B, 1 B/s, 1 min 1 s left") ∷
    line (codes "0 B of 3.5 KiB, 0 B/s, 59 min 59 s left") ∷
    line (codes "0 B of 3.5 KiB, 0 B/s, 1 h 0 min left") ∷
    line (codes "0 B of 84.3 KiB, 0 B/s, 23 h 59 min left") ∷
    line (codes "0 B of 351.5 KiB, 0 B/s, 100 h 0 min left") ∷ []
unfolding digits
times = refl
