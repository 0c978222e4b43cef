-- How lengths are spelled.
use Rattle.tor_edit.proofs.Names.{◌≡◌, ◌<◌, ◌^◌, ℕ, zero, suc, sym, arith, decimal, decimal_digit, decimal-digits_of}
use Rattle.tor_edit.proofs.Names.{base_ten}

-- what is printed for a number of 64 bits
pub base_ten_decimal : (n : ℕ) → n < 2 ^ 64 → base_ten n ≡ decimal n
unfolding base_ten
base_ten_decimal zero small = sym (decimal_digit 0 (omega arith))
base_ten_decimal (suc n) small = sym (decimal-digits_of (suc n) (omega arith) small)
