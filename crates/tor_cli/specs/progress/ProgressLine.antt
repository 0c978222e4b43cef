-- The line of progress.
use Rattle.std.specs.Prelude.{ℕ, ◌-◌, ◌*◌, ◌/◌, ◌%◌, ◌^◌, List, ◌++◌, if◌then◌else◌, decimal, codes, nat_lt, min, max}

-- bytes in a scale, with one digit after the point, rounded down
abbrev pub in_scale : ℕ → ℕ → List ℕ → List ℕ
in_scale bytes scale name =
    decimal (bytes / scale) ++ (codes "." ++ (decimal (bytes % scale * 10 / scale) ++ (codes " " ++ name)))

-- so many bytes, in the largest scale of which there is one, or as they are
abbrev pub amount : ℕ → List ℕ
amount bytes =
    if nat_lt bytes (2 ^ 10) then decimal bytes ++ codes " B"
    else (if nat_lt bytes (2 ^ 20) then in_scale bytes (2 ^ 10) (codes "KiB")
    else (if nat_lt bytes (2 ^ 30) then in_scale bytes (2 ^ 20) (codes "MiB")
    else (if nat_lt bytes (2 ^ 40) then in_scale bytes (2 ^ 30) (codes "GiB")
    else in_scale bytes (2 ^ 40) (codes "TiB"))))

-- so many seconds: in hours and minutes, in minutes and seconds, or in seconds
abbrev pub duration : ℕ → List ℕ
duration seconds =
    if nat_lt seconds 60 then decimal seconds ++ codes " s"
    else (if nat_lt seconds 3600
    then decimal (seconds / 60) ++ (codes " min " ++ (decimal (seconds % 60) ++ codes " s"))
    else decimal (seconds / 3600) ++ (codes " h " ++ (decimal (seconds / 60 % 60) ++ codes " min")))

-- how many bytes a second were read, as far as a number of 64 bits holds it; before the first millisecond ended, as if
-- it had
abbrev pub speed : ℕ → ℕ → ℕ
speed read milliseconds = min (read * 1000) (2 ^ 64 - 1) / max milliseconds 1

-- the seconds that the rest takes at this speed, at a byte a second at least
abbrev pub time_left : ℕ → ℕ → ℕ → ℕ
time_left read total speed = (total - read) / max speed 1

-- the line of `read` of `total` bytes read in so many milliseconds. It stands from the line's beginning on, and what
-- stood there after it is erased (ECMA-48, "EL"; profile)
abbrev pub progress_line : ℕ → ℕ → ℕ → List ℕ
progress_line read total milliseconds =
    codes "\r" ++ (amount read
    ++ (codes " of " ++ (amount total
    ++ (codes ", " ++ (amount (speed read milliseconds)
    ++ (codes "/s, " ++ (duration (time_left read total (speed read milliseconds))
    ++ codes " left\u{1b}[K")))))))
