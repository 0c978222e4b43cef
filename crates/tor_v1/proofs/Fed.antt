-- Sums that are fed: what they were fed ends in the bytes of the present piece.
use Rattle.std.proofs.Common.{◌≡◌, ℕ, ◌+◌, ◌*◌, ◌/◌, ◌%◌, ◌<◌, ◌≤◌, List, [], ◌++◌, length, take, drop, arith, ap, ◌∙◌}
use Rattle.std.proofs.Common.{sym, subst, append_assoc, take-append-drop, length-append, length-take, length-drop}
use Rattle.std.proofs.Common.{append-nil, zero-add, vec_len, vec_capacity}
use Rattle.std.proofs.lemmas.List.{drop_at, take_at}
use Rattle.std.proofs.lemmas.Nat.{div-mul-add, mod-mul-add}
use Rattle.std.specs.Int.{div_ceil}
use Rattle.sha1.specs.Sha1.{Holds, sha1}
use Rattle.tor_v1.specs.Feeding.{HasFed, in_pieces}
use Rattle.tor_v1.specs.Piece.{piece_sums}
use Rattle.tor_v1.specs.steps.Room.{HasRoom}
use Rattle.tor_v1.specs.declared.sums.PieceSums.{PieceSums}
use Rattle.tor_merkle.proofs.ProvedLaws.{ceil_joined, ceil_mono}
use Rattle.tor_v1.proofs.Cut.{piece_sums-nil, piece_sums-append}

-- k whole pieces were fed, and then the rest
pub HasFed-append : (sums : PieceSums) (p k : ℕ) (whole rest : List ℕ) → sums.piece_length ≡ p → length whole ≡ k * p
    → length rest < p → sums.begun ≡ length rest
    → sums.sums.items ≡ piece_sums p whole → Holds sums.hasher rest → HasFed sums p (whole ++ rest)
HasFed-append sums p k whole rest cut long short begun items holds =
    let n : length (whole ++ rest) ≡ k * p + length rest = length-append whole rest ∙ ap (λ n. n + length rest) long in
    let front : length whole ≡ in_pieces p (length (whole ++ rest)) =
    long ∙ sym (ap (λ n. in_pieces p n) n ∙ ap (λ q. q * p) (div-mul-add k p (length rest) short)) in
    record {
      cut_every = cut;
      begun = begun ∙ sym (ap (λ n. n % p) n ∙ mod-mul-add k p (length rest) short);
      whole = items ∙ ap (piece_sums p) (sym (take_at whole rest _ front));
      rest = subst (Holds sums.hasher) (sym (drop_at whole rest _ front)) holds;
    }

-- nothing was fed
pub HasFed-nil : (sums : PieceSums) (p : ℕ) → sums.piece_length ≡ p → 0 < p → sums.begun ≡ 0 → sums.sums.items ≡ []
    → Holds sums.hasher [] → HasFed sums p []
HasFed-nil sums p cut pos begun items holds = HasFed-append sums p 0 [] [] cut
    (let e : 0 ≡ 0 * p = omega arith in e) pos begun (items ∙ sym (piece_sums-nil p pos)) holds

no_more : (all now k q r : ℕ) → now ≡ k + q → all ≡ k + r → all ≤ now → r ≤ q
no_more all now k q r before after le = omega arith

fits : (n capacity q r : ℕ) → r ≤ q → n + 20 * q ≤ capacity → n + 20 * r ≤ capacity
fits n capacity q r le within = omega arith

module _ (sums : PieceSums) (p : ℕ) (bytes : List ℕ) (fed : HasFed sums p bytes) where
  pub pos : 0 < p
  pos = omega (arith, fed.cut_every, sums.allowed.0)

  split : length bytes / p * p + length bytes % p ≡ length bytes
  split = let positive = pos in omega arith

  abbrev whole : List ℕ
  whole = take (in_pieces p (length bytes)) bytes

  abbrev rest : List ℕ
  rest = drop (in_pieces p (length bytes)) bytes

  length-whole : length whole ≡ length bytes / p * p
  length-whole = let parts = split in length-take (in_pieces p (length bytes)) bytes ∙ omega arith

  length-rest : length rest ≡ length bytes % p
  length-rest = let parts = split in length-drop (in_pieces p (length bytes)) bytes ∙ omega arith

  joined : (part : List ℕ) → whole ++ (rest ++ part) ≡ bytes ++ part
  joined part =
      sym (append_assoc whole rest part) ∙ ap (λ xs. xs ++ part) (take-append-drop (in_pieces p (length bytes)) bytes)

  -- a part that does not end its piece
  pub adds_open : (sums' : PieceSums) (part : List ℕ) → sums'.piece_length ≡ sums.piece_length
      → sums.begun + length part < sums.piece_length → sums'.begun ≡ sums.begun + length part
      → sums'.sums.items ≡ sums.sums.items → ((m : List ℕ) → Holds sums.hasher m → Holds sums'.hasher (m ++ part))
      → HasFed sums' p (bytes ++ part)
  adds_open sums' part cut short begun items holds =
      let long : length (rest ++ part) ≡ sums.begun + length part =
      length-append rest part ∙ ap (λ n. n + length part) (length-rest ∙ sym fed.begun) in
      subst (HasFed sums' p) (joined part)
      (HasFed-append sums' p (length bytes / p) whole (rest ++ part) (cut ∙ fed.cut_every) length-whole
      (omega (arith, long, fed.cut_every)) (begun ∙ sym long)
      (items ∙ fed.whole) (holds rest fed.rest))

  -- the sums with a last piece, whole or not
  sums-last : (part : List ℕ) → 0 < sums.begun + length part → sums.begun + length part ≤ sums.piece_length
      → sums.sums.items ++ sha1 (rest ++ part) ≡ piece_sums p (whole ++ (rest ++ part))
  sums-last part some short =
      let long : length (rest ++ part) ≡ sums.begun + length part =
      length-append rest part ∙ ap (λ n. n + length part) (length-rest ∙ sym fed.begun) in
      ap (λ xs. xs ++ sha1 (rest ++ part)) fed.whole
      ∙ sym (piece_sums-append p (length bytes / p) whole (rest ++ part) length-whole (omega (arith, long))
      (omega (arith, long, fed.cut_every)))

  -- a part that ends its piece
  pub adds_full : (sums' : PieceSums) (part : List ℕ) → sums'.piece_length ≡ sums.piece_length
      → sums.begun + length part ≡ sums.piece_length → sums'.begun ≡ 0
      → ((m : List ℕ) → Holds sums.hasher m → sums'.sums.items ≡ sums.sums.items ++ sha1 (m ++ part))
      → Holds sums'.hasher [] → HasFed sums' p (bytes ++ part)
  adds_full sums' part cut full begun items holds =
      let positive = pos in
      let long : length (rest ++ part) ≡ p =
      length-append rest part ∙ ap (λ n. n + length part) (length-rest ∙ sym fed.begun) ∙ full ∙ fed.cut_every in
      let all : length (whole ++ (rest ++ part)) ≡ (length bytes / p + 1) * p =
      length-append whole (rest ++ part) ∙ omega (arith, length-whole, long) in
      subst (HasFed sums' p) (append-nil (whole ++ (rest ++ part)) ∙ joined part)
      (HasFed-append sums' p (length bytes / p + 1) (whole ++ (rest ++ part)) []
      (cut ∙ fed.cut_every) all positive begun
      (items rest fed.rest ∙ sums-last part (omega (arith, full, fed.cut_every)) (omega (arith, full))) holds)

  -- at the end: the last piece is short
  pub sums-short : (items : List ℕ) → 0 < sums.begun
      → ((m : List ℕ) → Holds sums.hasher m → items ≡ sums.sums.items ++ sha1 m) → items ≡ piece_sums p bytes
  sums-short items some last =
      last rest fed.rest
      ∙ ap (λ m. sums.sums.items ++ sha1 m) (sym (append-nil rest))
      ∙ sums-last [] (omega (arith, some)) (omega (arith, sums.within))
      ∙ ap (piece_sums p) (joined [] ∙ append-nil bytes)

  -- bytes that begin no piece need no more room
  pub room_within : (more : ℕ) → div_ceil (length bytes + more) p ≤ div_ceil (length bytes) p → HasRoom sums more
  room_within more le =
      let positive = pos in
      let before : div_ceil (length bytes) p ≡ length bytes / p + div_ceil sums.begun p =
      ap (λ n. div_ceil n p) (sym split ∙ ap (λ r. length bytes / p * p + r) (sym fed.begun))
      ∙ ceil_joined (length bytes / p) sums.begun p positive in
      let after : div_ceil (length bytes + more) p ≡ length bytes / p + div_ceil (sums.begun + more) p =
      ap (λ n. div_ceil n p) (let e : length bytes + more ≡ length bytes / p * p + (sums.begun + more) =
      omega (arith, split, fed.begun) in e) ∙ ceil_joined (length bytes / p) (sums.begun + more) p positive in
      let fewer = no_more _ _ (length bytes / p) _ _ before after le in
      let P : ℕ → Type 0 = λ n. div_ceil (sums.begun + more) n ≤ div_ceil sums.begun n in
      fits _ _ _ _ (subst P (sym fed.cut_every) fewer) sums.room

still_fits : (n n' capacity capacity' q q' r : ℕ) → q ≡ 1 + r → q' ≡ r → n' ≡ n + 20 → capacity ≤ capacity'
    → n + 20 * q ≤ capacity → n' + 20 * q' ≤ capacity'
still_fits n n' capacity capacity' q q' r one same len longer within = omega arith

-- less needs no more room
pub room_less : (sums : PieceSums) (more less : ℕ) → less ≤ more → HasRoom sums more → HasRoom sums less
room_less sums more less le room =
    let fewer = ceil_mono (sums.begun + less) (sums.begun + more) sums.piece_length (omega (arith, sums.allowed.0))
    (omega arith) in
    fits _ _ _ _ fewer room

-- after a part that ends its piece there is room for what comes later
pub room_next : (sums : PieceSums) (part later len capacity : ℕ) → sums.begun + part ≡ sums.piece_length
    → len ≡ vec_len sums.sums + 20 → vec_capacity sums.sums ≤ capacity
    → HasRoom sums (part + later) → len + 20 * div_ceil (0 + later) sums.piece_length ≤ capacity
room_next sums part later len capacity full longer more room =
    let positive : 0 < sums.piece_length = omega (arith, sums.allowed.0) in
    let one : div_ceil (sums.begun + (part + later)) sums.piece_length ≡ 1 + div_ceil later sums.piece_length =
    ap (λ n. div_ceil n sums.piece_length) (let e : sums.begun + (part + later) ≡ 1 * sums.piece_length + later =
    omega (arith, full) in e) ∙ ceil_joined 1 later sums.piece_length positive in
    still_fits _ _ _ _ _ _ _ one (ap (λ n. div_ceil n sums.piece_length) (zero-add later)) longer more room
