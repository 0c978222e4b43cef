-- The files of aligned entries begin where they are to, and no padding comes after the last that is filled.
use Rattle.tor_spec.proofs.Names.{◌≡◌, ℕ, zero, suc, ◌+◌, ◌-◌, ◌%◌, ◌≤◌, ◌==◌, Bool, true, false, not, cond, ◌&&◌, ◌||◌}
use Rattle.tor_spec.proofs.Names.{List, [], ◌∷◌, ◌++◌, map, filter, sum_by, arith, refl, ap, ◌∙◌, sym, inl, inr}
use Rattle.tor_spec.proofs.Names.{zero-add, reverse_aux, mod_self, zero-mod, and_parts, cond-true, eq-eqb, false≢true}
use Rattle.tor_spec.proofs.Names.{lt-ltb, ltb-false, or_cases, or_from, or_left, or_right, filter-append, sum_by-append}
use Rattle.tor_spec.proofs.Names.{sum_by_push, next_multiple_of, nat_lt, ListedFile, joined_size, aligned_after}
use Rattle.tor_spec.proofs.Names.{has_wrong_tail, is_filled, is_misaligned_after, last_size, size_before}
use Rattle.tor_spec.proofs.Names.{aligned_entries, has_bytes, no_padding, pad_entry, padding_length, tail_size, find}
use Rattle.tor_spec.proofs.Names.{option_map, unwrap_or, Some}
use Rattle.tor_spec.proofs.BareSides.{bare_of, plain}

abbrev Files : Type 0
Files = List (List (List ℕ) × ℕ)

abbrev padding : ℕ → ListedFile
padding n = bare_of (pad_entry n)

-- ---- where files begin

next_zero : (p : ℕ) → next_multiple_of 0 p ≡ 0
next_zero p =
    let whole : p - 0 ≡ p = omega arith in
    ap (λ r. 0 + (p - r) % p) (zero-mod p) ∙ ap (λ r. 0 + r % p) whole ∙ ap (λ r. 0 + r) (mod_self p)

rounded : (p n : ℕ) → cond (nat_lt 0 n) (next_multiple_of n p) 0 ≡ next_multiple_of n p
rounded p zero = sym (next_zero p)
rounded p (suc n) = cond-true (nat_lt 0 (suc n)) (next_multiple_of (suc n) p) 0 (lt-ltb 0 (suc n) (omega arith))

last_rounded : (p : ℕ) (b : Bool) (file : ListedFile)
    → sum_by (λ (one : ListedFile). next_multiple_of one.size p) (cond b (file ∷ []) [])
    ≡ cond b (next_multiple_of file.size p) 0
last_rounded p true file = zero-add (next_multiple_of file.size p)
last_rounded p false file = refl

aligned_push : (p : ℕ) (earlier : List ListedFile) (file : ListedFile)
    → aligned_after p (earlier ++ file ∷ [])
    ≡ aligned_after p earlier + cond (is_filled file) (next_multiple_of file.size p) 0
aligned_push p earlier file =
    let size = λ (one : ListedFile). next_multiple_of one.size p in
    ap (sum_by size) (filter-append is_filled earlier (file ∷ []))
    ∙ sum_by-append size (filter is_filled earlier) (filter is_filled (file ∷ []))
    ∙ ap (λ n. aligned_after p earlier + n) (last_rounded p (is_filled file) file)

joined_push : (earlier : List ListedFile) (file : ListedFile)
    → joined_size (earlier ++ file ∷ []) ≡ joined_size earlier + file.size
joined_push earlier file = sum_by_push (λ (one : ListedFile). one.size) earlier file

-- where some file has bytes, what comes before is as long as it is to be
abbrev Meets : ℕ → List ListedFile → Files → Type 0
Meets p earlier files = has_bytes files ≡ true → joined_size earlier ≡ aligned_after p earlier

begins : (filled : Bool) (j a : ℕ) → (filled ≡ true → j ≡ a) → (filled && not (j == a)) ≡ false
begins true j a same = ap not (eq-eqb j a (same refl))
begins false j a same = refl

after_padding : (n next r j jf jp a af ap : ℕ) → n ≤ next → r ≡ next → j ≡ a → jf ≡ j + n → jp ≡ jf + (next - n)
    → af ≡ a + r → ap ≡ af + 0 → jp ≡ ap
after_padding n next r j jf jp a af ap le is same f pd fa pa = omega arith

after_file : (n next r j jf a af : ℕ) → n ≤ next → next - n ≤ 0 → r ≡ next → j ≡ a → jf ≡ j + n → af ≡ a + r → jf ≡ af
after_file n next r j jf a af le whole is same f fa = omega arith

meets_padded : (p : ℕ) (file : List (List ℕ) × ℕ) (files : Files) (earlier : List ListedFile)
    → Meets p earlier (file ∷ files)
    → Meets p ((earlier ++ plain file ∷ []) ++ padding (padding_length p file.1) ∷ []) files
meets_padded p file files earlier meets more =
    let front = earlier ++ plain file ∷ [] in
    let pad = padding (padding_length p file.1) in
    after_padding file.1 (next_multiple_of file.1 p) _ (joined_size earlier) (joined_size front) _
    (aligned_after p earlier) (aligned_after p front) _ (omega arith) (rounded p file.1)
    (meets (or_right (nat_lt 0 file.1) (has_bytes files) more))
    (joined_push earlier (plain file)) (joined_push front pad) (aligned_push p earlier (plain file))
    (aligned_push p front pad)

meets_file : (tail : Bool) (p : ℕ) (file : List (List ℕ) × ℕ) (files : Files) (earlier : List ListedFile)
    → (nat_lt 0 (padding_length p file.1) && (tail || has_bytes files)) ≡ false → Meets p earlier (file ∷ files)
    → Meets p (earlier ++ plain file ∷ []) files
meets_file tail p file files earlier none meets more =
    let whole = ltb-false 0 (padding_length p file.1)
    (left_out (nat_lt 0 (padding_length p file.1)) (tail || has_bytes files) none
    (or_right tail (has_bytes files) more)) in
    after_file file.1 (next_multiple_of file.1 p) _ (joined_size earlier) _ (aligned_after p earlier) _ (omega arith)
    whole (rounded p file.1) (meets (or_right (nat_lt 0 file.1) (has_bytes files) more))
    (joined_push earlier (plain file)) (aligned_push p earlier (plain file))
  where
    left_out : (x y : Bool) → (x && y) ≡ false → y ≡ true → x ≡ false
    left_out true y e there = sym there ∙ e
    left_out false y e there = refl

goes_on : (tail : Bool) (p : ℕ) (file : List (List ℕ) × ℕ) (files : Files) (earlier : List ListedFile) (b : Bool)
    → (nat_lt 0 (padding_length p file.1) && (tail || has_bytes files)) ≡ b → Meets p earlier (file ∷ files)
    → ((front : List ListedFile) → Meets p front files
    → is_misaligned_after p front (map bare_of (aligned_entries tail p files)) ≡ false)
    → is_misaligned_after p (earlier ++ plain file ∷ [])
    (map bare_of (cond b (pad_entry (padding_length p file.1) ∷ []) [] ++ aligned_entries tail p files)) ≡ false
goes_on tail p file files earlier true is meets rest =
    rest ((earlier ++ plain file ∷ []) ++ padding (padding_length p file.1) ∷ [])
    (meets_padded p file files earlier meets)
goes_on tail p file files earlier false is meets rest =
    rest (earlier ++ plain file ∷ []) (meets_file tail p file files earlier is meets)

pub all_aligned : (tail : Bool) (p : ℕ) (files : Files) (earlier : List ListedFile) → Meets p earlier files
    → is_misaligned_after p earlier (map bare_of (aligned_entries tail p files)) ≡ false
unfolding aligned_entries
all_aligned tail p [] earlier meets = refl
all_aligned tail p (file ∷ files) earlier meets =
    or_from _ _
    (begins (nat_lt 0 file.1) (joined_size earlier) (aligned_after p earlier)
    (λ e. meets (or_left (nat_lt 0 file.1) (has_bytes files) e)))
    (goes_on tail p file files earlier _ refl meets (all_aligned tail p files))

-- ---- what comes after the last that is filled

pub size_of_last : (n rest : ℕ) → rest ≡ 0 → cond (nat_lt 0 n) 0 (rest + n) ≡ 0
size_of_last zero rest e = omega (arith, e)
size_of_last (suc n) rest e = cond-true (nat_lt 0 (suc n)) 0 (rest + suc n) (lt-ltb 0 (suc n) (omega arith))

-- what comes before the first that is filled of a side turned round: nothing, where some file of it is filled, or where
-- nothing comes before it of what follows there
abbrev NoTail : List ListedFile → Bool → List ListedFile → ListedFile → Type 0
NoTail side some after first =
    (some ≡ true → size_before (reverse_aux side (first ∷ after)) ≡ 0)
    × (size_before after ≡ 0 → size_before (reverse_aux side (first ∷ after)) ≡ 0)

abbrev HasNoTail : ℕ → Files → List ListedFile → Type 0
HasNoTail p files after =
    (has_bytes files ≡ true → size_before (reverse_aux (map bare_of (aligned_entries false p files)) after) ≡ 0)
    × (size_before after ≡ 0 → size_before (reverse_aux (map bare_of (aligned_entries false p files)) after) ≡ 0)

turned : (p : ℕ) (file : List (List ℕ) × ℕ) (files : Files) (after : List ListedFile) (b : Bool)
    → (nat_lt 0 (padding_length p file.1) && has_bytes files) ≡ b
    → ((later : List ListedFile) → HasNoTail p files later)
    → NoTail (map bare_of (cond b (pad_entry (padding_length p file.1) ∷ []) [] ++ aligned_entries false p files))
    (nat_lt 0 file.1 || has_bytes files) after (plain file)
turned p file files after true is rest =
    let more = (and_parts (nat_lt 0 (padding_length p file.1)) (has_bytes files) is).1 in
    let none = (rest (padding (padding_length p file.1) ∷ plain file ∷ after)).0 more in
    (λ e. none, λ e. none)
turned p file files after false is rest =
    let next = rest (plain file ∷ after) in (
      λ e. elim (or_cases (nat_lt 0 file.1) (has_bytes files) e) [
        | inl filled ↦ next.1 (cond-true (nat_lt 0 file.1) 0 (size_before after + file.1) filled)
        | inr more ↦ next.0 more
      ],
      λ e. next.1 (size_of_last file.1 (size_before after) e),
    )

no_tail : (p : ℕ) (files : Files) (after : List ListedFile) → HasNoTail p files after
unfolding aligned_entries
no_tail p [] after = (λ e. absurd (false≢true e), λ e. e)
no_tail p (file ∷ files) after = turned p file files after _ refl (no_tail p files)

-- ---- what comes there with a tail

-- of a side turned round: how many bytes the first filled file has
abbrev first_size : List ListedFile → ℕ
first_size files = unwrap_or (option_map (λ file. file.size) (find is_filled files)) 0

-- what comes before it is what it lacks
abbrev HasTail : ℕ → List ListedFile → Type 0
HasTail p side = size_before side ≡ padding_length p (first_size side)

abbrev size_or : Bool → ListedFile → List ListedFile → ℕ
size_or b file after = unwrap_or (option_map (λ one. one.size) (cond b (Some file) (find is_filled after))) 0

tail_of_file : (p : ℕ) (file : ListedFile) (after : List ListedFile) (b : Bool) → HasTail p after
    → (b ≡ true → padding_length p file.size ≡ 0) → (b ≡ false → file.size ≡ 0)
    → cond b 0 (size_before after + file.size) ≡ padding_length p (size_or b file after)
tail_of_file p file after true has whole none = sym (whole refl)
tail_of_file p file after false has whole none = omega (arith, none refl) ∙ has

tail_of_padding : (p : ℕ) (file : ListedFile) (after : List ListedFile) (b : Bool) → b ≡ true
    → cond b 0 (size_before after + file.size) + padding_length p file.size
    ≡ padding_length p (size_or b file after)
tail_of_padding p file after true is = zero-add (padding_length p file.size)
tail_of_padding p file after false is = absurd (false≢true is)

tail_goes_on : (p : ℕ) (file : List (List ℕ) × ℕ) (files : Files) (after : List ListedFile) (b : Bool)
    → (nat_lt 0 (padding_length p file.1) && true) ≡ b → HasTail p after
    → ((later : List ListedFile) → HasTail p later
    → HasTail p (reverse_aux (map bare_of (aligned_entries true p files)) later))
    → HasTail p (reverse_aux
    (map bare_of (cond b (pad_entry (padding_length p file.1) ∷ []) [] ++ aligned_entries true p files))
    (plain file ∷ after))
tail_goes_on p file files after true is has rest =
    let lacks = (and_parts (nat_lt 0 (padding_length p file.1)) true is).0 in
    rest (padding (padding_length p file.1) ∷ plain file ∷ after)
    (tail_of_padding p (plain file) after (nat_lt 0 file.1) (filled file.1 lacks))
  where
    filled : (m : ℕ) → nat_lt 0 (padding_length p m) ≡ true → nat_lt 0 m ≡ true
    filled zero lacks = sym (ap (nat_lt 0) (no_padding p)) ∙ lacks
    filled (suc m) lacks = lt-ltb 0 (suc m) (omega arith)
tail_goes_on p file files after false is has rest =
    rest (plain file ∷ after) (tail_of_file p (plain file) after (nat_lt 0 file.1) has
    (λ e. zero_from (padding_length p file.1) is) (λ e. zero_from file.1 (ap (λ b. b && true) e)))
  where
    zero_from : (n : ℕ) → (nat_lt 0 n && true) ≡ false → n ≡ 0
    zero_from zero e = refl
    zero_from (suc n) e = absurd (false≢true (sym e ∙ ap (λ b. b && true) (lt-ltb 0 (suc n) (omega arith))))

with_tail : (p : ℕ) (files : Files) (after : List ListedFile) → HasTail p after
    → HasTail p (reverse_aux (map bare_of (aligned_entries true p files)) after)
unfolding aligned_entries
with_tail p [] after has = has
with_tail p (file ∷ files) after has = tail_goes_on p file files after _ refl has (with_tail p files)

pub right_tail : (tail : Bool) (p : ℕ) (files : Files)
    → has_wrong_tail p (map bare_of (aligned_entries tail p files)) ≡ false
right_tail false p files =
    ap (λ n. not (n == 0 || n == padding_length p (last_size (map bare_of (aligned_entries false p files)))))
    ((no_tail p files []).1 refl)
right_tail true p files =
    let side = map bare_of (aligned_entries true p files) in
    let n = padding_length p (last_size side) in
    ap not (or_right (tail_size side == 0) (tail_size side == n)
    (eq-eqb (tail_size side) n (with_tail p files [] (sym (no_padding p)))))
