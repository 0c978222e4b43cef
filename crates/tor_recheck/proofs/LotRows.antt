-- Which pieces lots have, and which bytes of a file are bad, in rows worked out by hand.
use Rattle.tor_recheck.proofs.Names.{◌≡◌, Bool, true, false, List, [], ◌∷◌, refl, PiecedFile, bitfield}
use Rattle.tor_recheck.proofs.Names.{is_bad_byte, piece_of_byte}
use Rattle.tor_recheck.specs.Lots.{first_of_lot, in_lot, lot_byte}

-- eighteen pieces have three bytes, of which the first of two lots has two
one_byte_more : lot_byte 3 2 1 ≡ 2
one_byte_more = refl

second_of_eighteen : first_of_lot 18 2 1 ≡ 16
second_of_eighteen = refl

end_of_eighteen : first_of_lot 18 2 2 ≡ 18
end_of_eighteen = refl

-- two bytes for three lots
second_of_nine : first_of_lot 9 3 1 ≡ 8
second_of_nine = refl

third_of_nine : first_of_lot 9 3 2 ≡ 9
third_of_nine = refl

nine : List Bool
nine = true ∷ true ∷ true ∷ true ∷ false ∷ true ∷ true ∷ true ∷ true ∷ []

ninth_alone : in_lot 2 1 nine ≡ true ∷ []
unfolding nine
ninth_alone = refl

none_left : in_lot 3 2 nine ≡ []
unfolding nine
none_left = refl

field_of_first : bitfield (in_lot 2 0 nine) ≡ 247 ∷ []
unfolding nine
field_of_first = refl

-- `de` behind `abc`, in pieces of two bytes: its first byte is in the second piece, its second in the third
behind : PiecedFile
behind = record { piece_length = 2; span = record { length = 2; first = 1; after = 3; lead = 1 } }

piece_of_first : piece_of_byte behind 0 ≡ 1
unfolding behind
piece_of_first = refl

piece_of_second : piece_of_byte behind 1 ≡ 2
unfolding behind
piece_of_second = refl

first_is_bad : is_bad_byte behind (true ∷ false ∷ true ∷ []) 0 ≡ true
unfolding behind
first_is_bad = refl

second_is_good : is_bad_byte behind (true ∷ false ∷ true ∷ []) 1 ≡ false
unfolding behind
second_is_good = refl

none_past_the_end : is_bad_byte behind (true ∷ false ∷ true ∷ []) 2 ≡ false
unfolding behind
none_past_the_end = refl
