-- What one more bit is to the bits kept.
use Rattle.tor_view.proofs.Names.{◌≡◌, ℕ, ◌+◌, List, [], ◌∷◌, ◌++◌, Bool, ap, sym, ◌∙◌, arith, fill_by_all}
use Rattle.tor_view.proofs.Names.{map-range_with_len_more, get_or-map-range_with_len, length-map-range_with_len}
use Rattle.tor_view.proofs.Names.{false, packed_bit, packed_bits, Grows}

pub bits_more : (old new : List ℕ) (count : ℕ) (bit : Bool) → Grows old new count bit
    → packed_bits new (count + 1) ≡ packed_bits old count ++ bit ∷ []
bits_more old new count bit grown =
    let before : packed_bits old count ≡ packed_bits new count =
    fill_by_all (packed_bit new) (packed_bits old count) count false
    (length-map-range_with_len (packed_bit old) 0 count)
    (λ k lt. get_or-map-range_with_len (packed_bit old) 0 count k k false lt (omega arith)
    ∙ sym (grown.others k (λ e. omega arith))) in
    map-range_with_len_more (packed_bit new) 0 count count (omega arith)
    ∙ ap (λ (bits : List Bool). bits ++ packed_bit new count ∷ []) (sym before)
    ∙ ap (λ (b : Bool). packed_bits old count ++ b ∷ []) grown.here
