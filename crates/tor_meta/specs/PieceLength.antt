-- The piece length that suits so many bytes.
use Rattle.std.specs.Prelude.{ℕ, ◌*◌, ◌^◌, Bool, List, map, nat_lt, unwrap_or}
use Rattle.std.specs.List.{find, range_with_len}

-- pieces of so many bytes suit contents of so many. The steps are those that libtorrent takes, and go on from there
-- (profile)
abbrev pub is_long_enough : ℕ → ℕ → Bool
is_long_enough size length = nat_lt (size * 2 ^ 14) (160 * (length * length))

-- the least power of two p from 2^14 on with size * 2^14 < 160 * p^2, or 2^29 if none below it is (BEP 52, "piece
-- length"; profile)
abbrev pub auto_piece_length : ℕ → ℕ
auto_piece_length size =
    unwrap_or (find (is_long_enough size) (map (λ exponent. 2 ^ exponent) (range_with_len 14 15))) (2 ^ 29)
