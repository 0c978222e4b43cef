-- Eight messages side by side: each word is a vector, which has a word of message j at index j. Only private clauses
-- cite this.
use Rattle.std.specs.Prelude.{◌≡◌, ℕ, ◌+◌, ◌*◌, ◌<◌, List, [], ◌∷◌, drop, length, map, slice_index, slice_index_or}
use Rattle.std.specs.Prelude.{take}
use Rattle.sha2.specs.Sha256.{word_at}

-- word k of message j
abbrev pub word_of : ℕ → List (List ℕ) → ℕ → ℕ
word_of j words k = slice_index (slice_index_or words k []) j

-- the five words of message j, as the hash value and the working variables of SHA-1 are
abbrev pub five_of : ℕ → List (List ℕ) → List ℕ
five_of j words =
    word_of j words 0 ∷ word_of j words 1 ∷ word_of j words 2 ∷ word_of j words 3 ∷ word_of j words 4 ∷ []

-- the eight words of message j, as the hash value and the working variables of SHA-256 are
abbrev pub eight_of : ℕ → List (List ℕ) → List ℕ
eight_of j words =
    word_of j words 0 ∷ word_of j words 1 ∷ word_of j words 2 ∷ word_of j words 3
    ∷ word_of j words 4 ∷ word_of j words 5 ∷ word_of j words 6 ∷ word_of j words 7 ∷ []

-- the words of message j, however many
abbrev pub window : ℕ → List (List ℕ) → List ℕ
window j words = map (λ x. slice_index x j) words

-- the block at byte `at` of message j, where each message has `size` bytes
abbrev pub block_of : List ℕ → ℕ → ℕ → ℕ → List ℕ
block_of bytes size at j = take 64 (drop (size * j + at) bytes)

-- these are the sixteen big-endian words of a block (FIPS 180-4, 5.2.1)
abbrev pub AreWordsOf : List ℕ → List ℕ → Type 0
AreWordsOf block words = (length words ≡ 16) × ((k : ℕ) → k < 16 → slice_index words k ≡ word_at block (4 * k))
