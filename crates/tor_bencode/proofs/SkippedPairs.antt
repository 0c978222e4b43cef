-- The pairs of the root, one after another, as their values are skipped.
use Rattle.tor_bencode.proofs.Names.{◌≡◌, ◌≢◌, ℕ, ◌+◌, ◌-◌, ◌≤◌, List, [], ◌∷◌, ◌++◌, length, get_or, take, drop, true}
use Rattle.tor_bencode.proofs.Names.{false, Some, None, Ok, Err, refl, sym, ap, ap₂, ◌∙◌, arith, bytes_eq, append-nil}
use Rattle.tor_bencode.proofs.Names.{length-append, Data, integer, string, list, dictionary, Pairs, no_pairs, pair}
use Rattle.tor_bencode.proofs.Names.{IsLawfulWithin, PairsAreLawfulWithin, span_in, span_of, Stops, string_at, spelling}
use Rattle.tor_bencode.proofs.Names.{string_spelling, pairs_spelling, BadLength, Stop}
use Rattle.tor_bencode.proofs.Lawfulness.{lawful-dictionary, lawful-pair}
use Rattle.tor_bencode.proofs.Spelled.{pair_spelled}
use Rattle.tor_bencode.proofs.Strings.{string_at-spelling}
use Rattle.tor_bencode.proofs.Skips.{read_is, not_both, no_stop, read, tail-is, head-is, string_head}
use Rattle.tor_bencode.specs.declared.stop.Stop.TheVariants as stops

-- a dictionary that is open holds its pairs
pub open_pairs : (d : Data) (bytes : List ℕ) → IsLawfulWithin 100 d → bytes ≡ spelling d → get_or bytes 0 0 ≡ 100
    → (pairs : Pairs) × PairsAreLawfulWithin 99 pairs
    × (take (length bytes - 1) (drop 1 bytes) ≡ pairs_spelling pairs ++ 101 ∷ [])
    × ((key : List ℕ) → span_of key d ≡ span_in 1 key pairs)
open_pairs (integer n) bytes lawful is head = absurd (omega (arith, head-is bytes 105 _ is, head))
open_pairs (string s) bytes lawful is head =
    absurd (omega (arith, string_head s bytes [] (is ∙ sym (append-nil (string_spelling s))), head))
open_pairs (list items) bytes lawful is head = absurd (omega (arith, head-is bytes 108 _ is, head))
open_pairs (dictionary pairs) bytes lawful is head =
    (pairs, ((lawful-dictionary 100 pairs).0 lawful).2, tail-is bytes 100 _ is, λ key. refl)

-- the pair that was read first
pub record IsNextPair (left : Pairs) (rest key after : List ℕ) : Type 0 where
  pub value : Data
  pub others : Pairs
  pub pairs : left ≡ pair key value others
  pub spelled : rest ≡ string_spelling key ++ after
  pub follows : after ≡ spelling value ++ (pairs_spelling others ++ 101 ∷ [])
  pub lawful : IsLawfulWithin 99 value
  pub lawful_others : PairsAreLawfulWithin 99 others

no_string_here : string_at (101 ∷ []) ≡ Err (BadLength, 101 ∷ [])
unfolding string_at
no_string_here = refl

pub next_pair : (left : Pairs) (rest key after : List ℕ) → PairsAreLawfulWithin 99 left
    → rest ≡ pairs_spelling left ++ 101 ∷ [] → string_at rest ≡ Ok (key, after) → IsNextPair left rest key after
next_pair no_pairs rest key after lawful is read =
    absurd (not_both (key, after) (BadLength, 101 ∷ []) (string_at rest) read (ap string_at is ∙ no_string_here))
next_pair (pair k d others) rest key after lawful is read =
    let middle = spelling d ++ (pairs_spelling others ++ 101 ∷ []) in
    let same : rest ≡ string_spelling k ++ (spelling d ++ (pairs_spelling others ++ 101 ∷ [])) =
    is ∙ pair_spelled (string_spelling k) (spelling d) (pairs_spelling others) (101 ∷ []) in
    let found =
    read_is (k, middle) (key, after) (string_at rest) (ap string_at same ∙ string_at-spelling k middle) read in
    let parts = (lawful-pair 99 k d others).0 lawful in
    record {
      value = d;
      others = others;
      pairs = ap (λ p. pair p.0 d others) found;
      spelled = same ∙ ap (λ p. string_spelling p.0 ++ p.1) found;
      follows = ap (λ p. p.1) (sym found);
      lawful = parts.0;
      lawful_others = parts.1;
    }

-- nothing is left where no key stands
pub none_left : (left : Pairs) (rest key : List ℕ) (at : ℕ) (stop : Stop) → rest ≡ pairs_spelling left ++ 101 ∷ []
    → stop ≢ stops.Memory → Stops stop (string_at rest) → None ≡ span_in at key left
none_left no_pairs rest key at stop is other h = refl
none_left (pair k d others) rest key at stop is other h =
    let middle = spelling d ++ (pairs_spelling others ++ 101 ∷ []) in
    let same : rest ≡ string_spelling k ++ (spelling d ++ (pairs_spelling others ++ 101 ∷ [])) =
    is ∙ pair_spelled (string_spelling k) (spelling d) (pairs_spelling others) (101 ∷ []) in
    absurd (no_stop stop (string_at rest) (k, middle) other h (ap string_at same ∙ string_at-spelling k middle))

module _ (left : Pairs) (bytes rest name after next key : List ℕ) (h : IsNextPair left rest name after)
    (within : length rest ≤ length bytes) (then : next ≡ pairs_spelling h.others ++ 101 ∷ []) where
  start_is : length bytes - length rest + length (string_spelling name) ≡ length bytes - length after
  start_is = omega (arith, ap length h.spelled, length-append (string_spelling name) after)

  end_is : length bytes - length rest + length (string_spelling name) + length (spelling h.value)
      ≡ length bytes - length next
  end_is =
      omega (
        arith,
        ap length h.spelled,
        length-append (string_spelling name) after,
        ap length h.follows,
        length-append (spelling h.value) (pairs_spelling h.others ++ 101 ∷ []),
        ap length then,
      )

  pub span_found : bytes_eq name key ≡ true
      → Some (length bytes - length after, length bytes - length next) ≡ span_in (length bytes - length rest) key left
  span_found e =
      ap₂ (λ start end. Some (start, end)) (sym start_is) (sym end_is)
      ∙ sym (ap (span_in (length bytes - length rest) key) h.pairs ∙ rw e refl)

  pub span_later : bytes_eq name key ≡ false
      → span_in (length bytes - length rest) key left ≡ span_in (length bytes - length next) key h.others
  span_later e =
      ap (span_in (length bytes - length rest) key) h.pairs ∙ rw e (ap (λ end. span_in end key h.others) end_is)
