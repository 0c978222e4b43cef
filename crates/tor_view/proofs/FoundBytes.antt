-- The bytes that contents have of a unit, some of which may be missing.
use Rattle.tor_view.proofs.Names.{◌≡◌, ℕ, zero, suc, ◌+◌, ◌-◌, ◌<◌, ◌≤◌, Bool, true, false, ◌&&◌, leb, min, List, []}
use Rattle.tor_view.proofs.Names.{◌∷◌, ◌++◌, map, length, take, drop, replicate, get_or, Option, None, Some, is_some}
use Rattle.tor_view.proofs.Names.{arith, refl, ap, ap₂, ◌∙◌, sym, inl, inr, append-nil, length-drop, and_from}
use Rattle.tor_view.proofs.Names.{and_parts, and_right, cases_lt, le-leb, leb-true, lt-leb, drop_all, take_min}
use Rattle.tor_view.proofs.Names.{list_all-append, flat_map, list_all, part_content, unit_content, Part, PlanUnit}
use Rattle.tor_view.proofs.Names.{is_part_there, is_there, bytes_in, file_bytes, is_whole, zeros}

abbrev pub Found : Type 0
Found = List (Option ℕ)

-- ---- bytes that are there

abbrev pub there : List ℕ → Found
there bytes = map Some bytes

pub whole_there : (bytes : List ℕ) → is_whole (there bytes) ≡ true
whole_there [] = refl
whole_there (byte ∷ bytes) = whole_there bytes

pub bytes_there : (bytes : List ℕ) → bytes_in (there bytes) ≡ bytes
bytes_there [] = refl
bytes_there (byte ∷ bytes) = ap (λ rest. byte ∷ rest) (bytes_there bytes)

pub there_append : (xs ys : List ℕ) → there xs ++ there ys ≡ there (xs ++ ys)
there_append [] ys = refl
there_append (x ∷ xs) ys = ap (λ rest. Some x ∷ rest) (there_append xs ys)

-- ---- the first bytes of a file, byte by byte

abbrev first_bytes : ℕ → List ℕ → Found
first_bytes zero content = []
first_bytes (suc n) [] = None ∷ first_bytes n []
first_bytes (suc n) (x ∷ content) = Some x ∷ first_bytes n content

missing : (n : ℕ) → replicate n None ≡ first_bytes n []
missing zero = refl
missing (suc n) = ap (λ rest. None ∷ rest) (missing n)

are_first : (n : ℕ) (content : List ℕ) → file_bytes n content ≡ first_bytes n content
are_first zero content = ap (λ k. replicate k None) (let e : 0 - length content ≡ 0 = omega arith in e)
are_first (suc n) [] = ap (λ k. replicate k None) (let e : suc n - 0 ≡ suc n = omega arith in e) ∙ missing (suc n)
are_first (suc n) (x ∷ content) =
    ap (λ k. Some x ∷ (there (take n content) ++ replicate k None))
    (let e : suc n - suc (length content) ≡ n - length content = omega arith in e)
    ∙ ap (λ rest. Some x ∷ rest) (are_first n content)

length-first : (n : ℕ) (content : List ℕ) → length (first_bytes n content) ≡ n
length-first zero content = refl
length-first (suc n) [] = ap suc (length-first n [])
length-first (suc n) (x ∷ content) = ap suc (length-first n content)

take-first : (n m : ℕ) (content : List ℕ) → n ≤ m → take n (first_bytes m content) ≡ first_bytes n content
take-first zero m content le = refl
take-first (suc n) zero content le = absurd (omega (arith, le))
take-first (suc n) (suc m) [] le = ap (λ rest. None ∷ rest) (take-first n m [] (omega (arith, le)))
take-first (suc n) (suc m) (x ∷ content) le = ap (λ rest. Some x ∷ rest) (take-first n m content (omega (arith, le)))

drop-first : (s m : ℕ) (content : List ℕ) → drop s (first_bytes m content) ≡ first_bytes (m - s) (drop s content)
drop-first zero m content = ap (λ n. first_bytes n content) (let e : m ≡ m - 0 = omega arith in e)
drop-first (suc s) zero content =
    ap (λ n. first_bytes n (drop (suc s) content)) (let e : 0 ≡ 0 - suc s = omega arith in e)
drop-first (suc s) (suc m) [] =
    drop-first s m []
    ∙ ap₂ first_bytes (let e : m - s ≡ suc m - suc s = omega arith in e) (drop_all s [] (omega arith))
drop-first (suc s) (suc m) (x ∷ content) =
    drop-first s m content
    ∙ ap (λ n. first_bytes n (drop s content)) (let e : m - s ≡ suc m - suc s = omega arith in e)

-- ---- the bytes of a file

pub length-file : (n : ℕ) (content : List ℕ) → length (file_bytes n content) ≡ n
length-file n content = ap length (are_first n content) ∙ length-first n content

pub no_bytes : (content : List ℕ) → file_bytes 0 content ≡ []
no_bytes content = are_first 0 content

pub drop-file : (s m : ℕ) (content : List ℕ) → drop s (file_bytes m content) ≡ file_bytes (m - s) (drop s content)
drop-file s m content =
    ap (drop s) (are_first m content) ∙ drop-first s m content ∙ sym (are_first (m - s) (drop s content))

-- n bytes of it from offset s on
pub part-file : (s n m : ℕ) (content : List ℕ) → n ≤ m - s
    → take n (drop s (file_bytes m content)) ≡ file_bytes n (drop s content)
part-file s n m content le =
    ap (λ xs. take n (drop s xs)) (are_first m content) ∙ ap (take n) (drop-first s m content)
    ∙ take-first n (m - s) (drop s content) le ∙ sym (are_first n (drop s content))

-- as many from offset s on as there are, at most p
pub run-file : (s p m : ℕ) (content : List ℕ)
    → take p (drop s (file_bytes m content)) ≡ file_bytes (min (m - s) p) (drop s content)
run-file s p m content =
    let run = drop s (file_bytes m content) in
    sym (take_min p run)
    ∙ ap (λ n. take n run) (let e : min p (length run) ≡ min (m - s) p =
    omega (arith, length-drop s (file_bytes m content), length-file m content) in e)
    ∙ part-file s (min (m - s) p) m content (omega arith)

pub whole_file : (n : ℕ) (content : List ℕ) → is_whole (file_bytes n content) ≡ leb n (length content)
whole_file n content =
    let parts = list_all-append is_some (there (take n content)) (replicate (n - length content) None) in
    elim (cases_lt (length content) n) [
      | inl short ↦
          let more : n - length content ≡ suc (n - length content - 1) = omega (arith, short) in
          parts ∙ and_right _ _ (ap (λ k. is_whole (replicate k None)) more) ∙ sym (lt-leb n (length content) short)
      | inr enough ↦
          let none : n - length content ≡ 0 = omega (arith, enough) in
          parts ∙ and_from _ _ (whole_there (take n content)) (ap (λ k. is_whole (replicate k None)) none)
          ∙ sym (le-leb n (length content) enough)
    ]

pub file_is_there : (n : ℕ) (content : List ℕ) → n ≤ length content → file_bytes n content ≡ there (take n content)
file_is_there n content le =
    ap (λ k. there (take n content) ++ replicate k None) (let e : n - length content ≡ 0 = omega (arith, le) in e)
    ∙ append-nil (there (take n content))

-- ---- the bytes of a unit

abbrev pub part_bytes : List (List ℕ) → Part → Found
part_bytes contents part =
    file_bytes part.length (drop part.start (get_or contents part.file [])) ++ there (zeros part.zeros)

abbrev pub unit_bytes : List (List ℕ) → PlanUnit → Found
unit_bytes contents unit = there (zeros unit.zeros) ++ flat_map (part_bytes contents) unit.parts

-- each part has bytes
abbrev pub HaveBytes : List Part → Type 0
HaveBytes [] = Unit {0}
HaveBytes (part ∷ parts) = (0 < part.length) × HaveBytes parts

pub and_true : (b : Bool) → (b && true) ≡ b
and_true true = refl
and_true false = refl

-- n bytes from offset s on are there where the last one is
pub last_byte : (s n : ℕ) (content : List ℕ) → 0 < n
    → leb n (length (drop s content)) ≡ leb (s + n) (length content)
last_byte s n content some =
    let long = length-drop s content in
    elim (cases_lt (length content) (s + n)) [
      | inl short ↦ lt-leb n (length (drop s content)) (omega (arith, short, some, long))
          ∙ sym (lt-leb (s + n) (length content) short)
      | inr enough ↦ le-leb n (length (drop s content)) (omega (arith, enough, long))
          ∙ sym (le-leb (s + n) (length content) enough)
    ]

module _ (contents : List (List ℕ)) where
  whole_part : (part : Part) → 0 < part.length → is_whole (part_bytes contents part) ≡ is_part_there contents part
  whole_part part some =
      let content = get_or contents part.file [] in
      let rest = drop part.start content in
      list_all-append is_some (file_bytes part.length rest) (there (zeros part.zeros))
      ∙ ap₂ (λ a b. a && b) (whole_file part.length rest) (whole_there (zeros part.zeros))
      ∙ and_true (leb part.length (length rest))
      ∙ last_byte part.start part.length content some

  whole_parts : (parts : List Part) → HaveBytes parts
      → is_whole (flat_map (part_bytes contents) parts) ≡ list_all (is_part_there contents) parts
  whole_parts [] some = refl
  whole_parts (part ∷ parts) some =
      list_all-append is_some (part_bytes contents part) (flat_map (part_bytes contents) parts)
      ∙ ap₂ (λ a b. a && b) (whole_part part some.0) (whole_parts parts some.1)

  pub whole_unit : (unit : PlanUnit) → HaveBytes unit.parts
      → is_whole (unit_bytes contents unit) ≡ is_there contents unit
  whole_unit unit some =
      list_all-append is_some (there (zeros unit.zeros)) (flat_map (part_bytes contents) unit.parts)
      ∙ ap (λ b. b && is_whole (flat_map (part_bytes contents) unit.parts)) (whole_there (zeros unit.zeros))
      ∙ whole_parts unit.parts some

  parts_are_there : (parts : List Part) → list_all (is_part_there contents) parts ≡ true
      → flat_map (part_bytes contents) parts ≡ there (flat_map (part_content contents) parts)
  parts_are_there [] all = refl
  parts_are_there (part ∷ parts) all =
      let both = and_parts (is_part_there contents part) (list_all (is_part_there contents) parts) all in
      let content = get_or contents part.file [] in
      let rest = drop part.start content in
      let last = leb-true (part.start + part.length) (length content) both.0 in
      ap₂ (λ xs ys. (xs ++ there (zeros part.zeros)) ++ ys)
      (file_is_there part.length rest (omega (arith, last, length-drop part.start content)))
      (parts_are_there parts both.1)
      ∙ ap (λ xs. xs ++ there (flat_map (part_content contents) parts))
      (there_append (take part.length rest) (zeros part.zeros))
      ∙ there_append (part_content contents part) (flat_map (part_content contents) parts)

  pub unit_is_there : (unit : PlanUnit) → is_there contents unit ≡ true
      → unit_bytes contents unit ≡ there (unit_content contents unit)
  unit_is_there unit all =
      ap (λ xs. there (zeros unit.zeros) ++ xs) (parts_are_there unit.parts all)
      ∙ there_append (zeros unit.zeros) (flat_map (part_content contents) unit.parts)
