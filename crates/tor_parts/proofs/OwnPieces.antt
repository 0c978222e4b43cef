-- Rows that have as many hashes each as their own lots have, have as many as all pieces want.
use Rattle.std.proofs.Common.{◌≡◌, ◌<◌, ◌≤◌, ◌+◌, ◌*◌, ℕ, zero, suc, Bool, true, false, cond, List, [], ◌∷◌, ◌++◌, Option, None}
use Rattle.std.proofs.Common.{Some, drop, get_or, length, map, replicate, sum_by, ap, ap₂, arith, inl, inr, refl}
use Rattle.std.proofs.Common.{subst, sym, ◌∙◌}
use Rattle.std.proofs.lemmas.Bool.{cases_lt, le-leb}
use Rattle.std.proofs.lemmas.List.{get_or-map, length-append, length-drop, length-map, length-replicate, length-take-le}
use Rattle.std.proofs.lemmas.List.Elements.{recursion_from_All}
use Rattle.std.proofs.lemmas.List.Sums.{sum_by-append, sum_by-cons}
use Rattle.std.specs.Int.{div_ceil}
use Rattle.std.specs.List.{All, AllByRecursion, flat_map, range_with_len}
use Rattle.tor_engine.proofs.ProvedLaws.{rows_are_of_files, sums_are_of_files}
use Rattle.tor_engine.specs.Rows.{hashes_of_file, or_alone, row_in}
use Rattle.tor_engine.specs.declared.lot.PieceRow.{PieceRow}
use Rattle.tor_merkle.specs.Layer.{IsPieceLength, piece_layer, piece_roots}
use Rattle.tor_merkle.proofs.ProvedLaws.{ceil_from_below, ceil_is, count_of_piece_roots, layer_of_long_content}
use Rattle.tor_parts.specs.Dealing.{bytes_of, dealt}
use Rattle.tor_parts.specs.JoinedRows.{HasAllPieces, hashes_of, sums_of}
use Rattle.tor_parts.specs.Joining.{pieces_of_lengths}
use Rattle.tor_parts.specs.LotCounts.{HasOwnPieces, pieces_of_parts, pieces_of_units}
use Rattle.tor_parts.proofs.DealtUnits.{all_dealt}
use Rattle.tor_parts.proofs.FileTrees.{counted}
use Rattle.tor_parts.proofs.PlanUnits.{allowed_in, some_piece, units_in_files}
use Rattle.tor_parts.proofs.RowLists.{by_number}
use Rattle.tor_plan.specs.Content.{part_content, unit_content}
use Rattle.tor_plan.specs.PlanFacts.{IsPlan, PlanFacts}
use Rattle.tor_plan.specs.WithinEntries.{IsInFile, unit_length}
use Rattle.tor_plan.specs.declared.units.Part.{Part}
use Rattle.tor_plan.specs.declared.units.PlanUnit.{PlanUnit}
use Rattle.tor_sums.specs.UnitNodes.{Node, bytes_of_part, level_in, level_of, node_of_part, node_over, nodes_of_unit}
use Rattle.tor_tree.specs.Kinds.{has_v1, has_v2}
use Rattle.tor_v1.specs.Piece.{piece_sums, zeros}
use Rattle.tor_v1.proofs.ProvedLaws.{length-piece_sums, length_of_zeros}

-- ---- counts of runs, one after another

counts : {X Y : Type 0} (f : ℕ → List Y) (g : ℕ → List X) (h : X → ℕ) (s a n : ℕ)
    → ((k : ℕ) → a ≤ k → k < a + n → length (f k) ≡ sum_by h (g k) * s)
    → length (flat_map f (range_with_len a n)) ≡ sum_by h (flat_map g (range_with_len a n)) * s
counts f g h s a zero each = let e : 0 ≡ 0 * s = omega arith in e
counts f g h s a (suc n) each =
    let later = counts f g h s (a + 1) n (λ k from to. each k (omega (arith, from)) (omega (arith, to))) in
    let first = each a (omega arith) (omega arith) in
    length-append (f a) (flat_map f (range_with_len (a + 1) n))
    ∙ ap₂ (λ x y. x + y) first later
    ∙ sym (mul-add_right (sum_by h (g a)) (sum_by h (flat_map g (range_with_len (a + 1) n))) s)
    ∙ ap (λ x. x * s) (sym (sum_by-append h (g a) (flat_map g (range_with_len (a + 1) n))))
  where
    mul-add_right : (x y z : ℕ) → (x + y) * z ≡ x * z + y * z
    mul-add_right x y z = omega arith

-- ---- some contents of these lengths

abbrev blank : List ℕ → List (List ℕ)
blank lengths = map (λ n. replicate n 0) lengths

blank_fits : (lengths : List ℕ) → map length (blank lengths) ≡ lengths
blank_fits [] = refl
blank_fits (n ∷ lengths) = ap₂ (λ x xs. x ∷ xs) (length-replicate n 0) (blank_fits lengths)

-- ---- the bytes of parts and of units

module _ (contents : List (List ℕ)) where
  inside : (part : Part) → IsInFile (map length contents) part → length (bytes_of_part contents part) ≡ part.length
  inside part is =
      let content = get_or contents part.file [] in
      let there : part.file < length contents = omega (arith, is.named, length-map contents (length {A = ℕ})) in
      let long : get_or (map length contents) part.file 0 ≡ length content =
      get_or-map (length {A = ℕ}) contents part.file [] 0 there in
      length-take-le part.length (drop part.start content)
      (omega (arith, is.within, long, length-drop part.start content))

  part_long : (part : Part) → IsInFile (map length contents) part
      → length (part_content contents part) ≡ part.length + part.zeros
  part_long part is =
      omega (
        arith,
        length-append (bytes_of_part contents part) (zeros part.zeros),
        inside part is,
        length_of_zeros part.zeros,
      )

  parts_long : (parts : List Part) → AllByRecursion (IsInFile (map length contents)) parts
      → length (flat_map (part_content contents) parts) ≡ sum_by (λ part. part.length + part.zeros) parts
  parts_long [] are = refl
  parts_long (part ∷ parts) are =
      omega (
        arith,
        length-append (part_content contents part) (flat_map (part_content contents) parts),
        part_long part are.0,
        parts_long parts are.1,
        sum_by-cons (λ (part : Part). part.length + part.zeros) part parts,
      )

  unit_long : (unit : PlanUnit) → All (IsInFile (map length contents)) unit.parts
      → length (unit_content contents unit) ≡ unit_length unit
  unit_long unit are =
      omega (
        arith,
        length-append (zeros unit.zeros) (flat_map (part_content contents) unit.parts),
        length_of_zeros unit.zeros,
        parts_long unit.parts (recursion_from_All (IsInFile (map length contents)) unit.parts are),
      )

  abbrev AreInFiles : List PlanUnit → Type 0
  AreInFiles units = AllByRecursion (λ unit. All (IsInFile (map length contents)) unit.parts) units

  units_long : (units : List PlanUnit) → AreInFiles units
      → length (flat_map (unit_content contents) units) ≡ bytes_of units
  units_long [] are = refl
  units_long (unit ∷ units) are =
      omega (
        arith,
        length-append (unit_content contents unit) (flat_map (unit_content contents) units),
        unit_long unit are.0,
        units_long units are.1,
        sum_by-cons unit_length unit units,
      )

  sums_long : (p : ℕ) (units : List PlanUnit) → AreInFiles units
      → length (flat_map (λ unit. piece_sums p (unit_content contents unit)) units) ≡ pieces_of_units p units * 20
  sums_long p [] are = refl
  sums_long p (unit ∷ units) are =
      let more = flat_map (λ unit. piece_sums p (unit_content contents unit)) units in
      let one : length (piece_sums p (unit_content contents unit)) ≡ 20 * div_ceil (unit_length unit) p =
      length-piece_sums p (unit_content contents unit) ∙ ap (λ n. 20 * div_ceil n p) (unit_long unit are.0) in
      omega (
        arith,
        length-append (piece_sums p (unit_content contents unit)) more,
        one,
        sums_long p units are.1,
        sum_by-cons (λ (unit : PlanUnit). div_ceil (unit_length unit) p) unit units,
      )

  -- ---- the hashes of the pieces of files

  module _ (p : ℕ) (allowed : IsPieceLength p) (pos : 0 < p) where
    of_some : (hash : List ℕ) (layer : List (List ℕ)) → 0 < length layer → length (or_alone hash layer) ≡ length layer
    of_some hash [] some = absurd (omega (arith, some))
    of_some hash (first ∷ layer) some = refl

    of_roots : (hash bytes : List ℕ) → 0 < length bytes
        → length (or_alone hash (piece_roots bytes p)) ≡ div_ceil (length bytes) p
    of_roots hash bytes some =
        let count = count_of_piece_roots bytes p in
        of_some hash (piece_roots bytes p) (omega (arith, count, ceil_from_below (length bytes) p 0 pos (omega (arith, some))))
        ∙ count

    of_layer : (hash bytes : List ℕ) → 0 < length bytes
        → length (or_alone hash (piece_layer bytes p)) ≡ div_ceil (length bytes) p
    unfolding piece_layer
    of_layer hash bytes some = elim (cases_lt p (length bytes)) [
      | inl long ↦
          ap (λ layer. length (or_alone hash layer)) (layer_of_long_content bytes p long) ∙ of_roots hash bytes some
      | inr short ↦
          ap (λ b. length (or_alone hash (cond b [] (piece_roots bytes p)))) (le-leb (length bytes) p short)
          ∙ sym (ceil_is (length bytes) p 1 (omega (arith, short)) (omega (arith, some)))
    ]

    of_node : (level : Option ℕ) (bytes : List ℕ) → 0 < length bytes
        → length (row_in (node_over p level bytes)) ≡ div_ceil (length bytes) p
    of_node None bytes some = of_layer _ bytes some
    of_node (Some level) bytes some = of_roots _ bytes some

    of_parts : (level : Option ℕ) (parts : List Part) → AllByRecursion (IsInFile (map length contents)) parts
        → length (flat_map row_in (map (node_of_part p level contents) parts))
        ≡ sum_by (λ part. div_ceil part.length p) parts
    of_parts level [] are = refl
    of_parts level (part ∷ parts) are =
        let bytes = bytes_of_part contents part in
        let long = inside part are.0 in
        let own = level_in level (length (get_or contents part.file [])) part.length in
        let one : length (row_in (node_of_part p level contents part)) ≡ div_ceil part.length p =
        of_node own bytes (omega (arith, long, are.0.some)) ∙ ap (λ n. div_ceil n p) long in
        omega (
          arith,
          length-append (row_in (node_of_part p level contents part))
              (flat_map row_in (map (node_of_part p level contents) parts)),
          one,
          of_parts level parts are.1,
          sum_by-cons (λ (part : Part). div_ceil part.length p) part parts,
        )

    flat_both : (xs ys : List Node) → length (flat_map row_in (xs ++ ys))
        ≡ length (flat_map row_in xs) + length (flat_map row_in ys)
    flat_both [] ys = omega arith
    flat_both (x ∷ xs) ys =
        omega (
          arith,
          length-append (row_in x) (flat_map row_in (xs ++ ys)),
          length-append (row_in x) (flat_map row_in xs),
          flat_both xs ys,
        )

    of_units : (level : Option ℕ) (units : List PlanUnit) → AreInFiles units
        → length (flat_map row_in (flat_map (nodes_of_unit p level contents) units)) ≡ pieces_of_parts p units
    of_units level [] are = refl
    of_units level (unit ∷ units) are =
        omega (
          arith,
          flat_both (nodes_of_unit p level contents unit) (flat_map (nodes_of_unit p level contents) units),
          of_parts level unit.parts (recursion_from_All (IsInFile (map length contents)) unit.parts are.0),
          of_units level units are.1,
          sum_by-cons (λ (unit : PlanUnit). sum_by (λ part. div_ceil part.length p) unit.parts) unit units,
        )

of_files : (p : ℕ) → IsPieceLength p → (contents : List (List ℕ))
    → length (flat_map (hashes_of_file p) contents) ≡ pieces_of_lengths p (map length contents)
of_files p allowed [] = refl
of_files p allowed (content ∷ contents) =
    omega (
      arith,
      length-append (hashes_of_file p content) (flat_map (hashes_of_file p) contents),
      counted p allowed content,
      of_files p allowed contents,
      sum_by-cons (λ m. div_ceil m p) (length content) (map length contents),
    )

-- ---- all units of a plan

module _ (plan : PlanFacts) (is : IsPlan plan) where
  abbrev p : ℕ
  p = plan.piece_length

  pos : 0 < p
  pos = some_piece plan.kind p is.pieces

  abbrev contents : List (List ℕ)
  contents = blank plan.lengths

  fit : map length contents ≡ plan.lengths
  fit = blank_fits plan.lengths

  within : AreInFiles contents plan.units
  within =
      recursion_from_All (λ (unit : PlanUnit). All (IsInFile (map length contents)) unit.parts) plan.units
      (subst (λ (lengths : List ℕ). All (λ (unit : PlanUnit). All (IsInFile lengths) unit.parts) plan.units) (sym fit)
      (units_in_files plan is))

  all_hashes : has_v2 plan.kind ≡ true → pieces_of_parts p plan.units ≡ pieces_of_lengths p plan.lengths
  all_hashes trees =
      sym (of_units contents p (allowed_in plan is trees) pos (level_of plan.trees) plan.units within)
      ∙ ap length (rows_are_of_files plan contents is trees fit) ∙ of_files p (allowed_in plan is trees) contents
      ∙ ap (pieces_of_lengths p) fit

  all_sums : has_v1 plan.kind ≡ true → pieces_of_units p plan.units * 20 ≡ div_ceil (bytes_of plan.units) p * 20
  all_sums there =
      sym (sums_long contents p plan.units within) ∙ ap length (sums_are_of_files plan contents is there fit)
      ∙ length-piece_sums p (flat_map (unit_content contents) plan.units)
      ∙ ap (λ n. 20 * div_ceil n p) (units_long contents plan.units within) ∙ turned (div_ceil (bytes_of plan.units) p)
    where
      turned : (n : ℕ) → 20 * n ≡ n * 20
      turned n = omega arith

  -- ---- rows

  module _ (rows : List PieceRow) (d : PieceRow) (some : 0 < length rows)
      (each : (lot : ℕ) → lot < length rows
      → HasOwnPieces plan (dealt (length rows) lot plan.units) (get_or rows lot d)) where
    abbrev lots : ℕ
    lots = length rows

    abbrev units_at : ℕ → List PlanUnit
    units_at lot = dealt lots lot plan.units

    none_counted : {Y : Type 0} (f : ℕ → List Y) (a n : ℕ) → ((k : ℕ) → a ≤ k → k < a + n → length (f k) ≡ 0)
        → length (flat_map f (range_with_len a n)) ≡ 0
    none_counted f a zero none = refl
    none_counted f a (suc n) none =
        omega (
          arith,
          length-append (f a) (flat_map f (range_with_len (a + 1) n)),
          none a (omega arith) (omega arith),
          none_counted f (a + 1) n (λ k from to. none k (omega (arith, from)) (omega (arith, to))),
        )

    all_rows : {Y : Type 0} (f : PieceRow → List Y)
        → flat_map f rows ≡ flat_map (λ k. f (get_or rows k d)) (range_with_len 0 lots)
    all_rows f = sym (by_number f rows d 0 lots (let e : 0 + lots ≡ lots = omega arith in e))

    hashes_all : (b : Bool) → has_v2 plan.kind ≡ b
        → length (hashes_of rows) ≡ cond b (pieces_of_lengths p plan.lengths) 0
    hashes_all true trees =
        ap length (all_rows (λ row. row.hashes.items))
        ∙ counts (λ k. (get_or rows k d).hashes.items) units_at
        (λ (unit : PlanUnit). sum_by (λ part. div_ceil part.length p) unit.parts) 1 0 lots
        (λ k from to. (each k (omega (arith, to))).hashes ∙ ap (λ v. cond v (pieces_of_parts p (units_at k)) 0) trees
        ∙ (let e : pieces_of_parts p (units_at k) ≡ pieces_of_parts p (units_at k) * 1 = omega arith in e))
        ∙ (let e : pieces_of_parts p (flat_map units_at (range_with_len 0 lots)) * 1
        ≡ pieces_of_parts p (flat_map units_at (range_with_len 0 lots)) = omega arith in e)
        ∙ ap (pieces_of_parts p) (all_dealt lots plan.units some) ∙ all_hashes trees
    hashes_all false none =
        ap length (all_rows (λ row. row.hashes.items))
        ∙ none_counted (λ k. (get_or rows k d).hashes.items) 0 lots
        (λ k from to. (each k (omega (arith, to))).hashes ∙ ap (λ v. cond v (pieces_of_parts p (units_at k)) 0) none)

    sums_all : (b : Bool) → has_v1 plan.kind ≡ b
        → length (sums_of rows) ≡ cond b (div_ceil (bytes_of plan.units) p * 20) 0
    sums_all true there =
        ap length (all_rows (λ row. row.pieces.items))
        ∙ counts (λ k. (get_or rows k d).pieces.items) units_at
        (λ (unit : PlanUnit). div_ceil (unit_length unit) p) 20 0 lots
        (λ k from to. (each k (omega (arith, to))).sums ∙ ap (λ v. cond v (pieces_of_units p (units_at k) * 20) 0) there)
        ∙ ap (λ units. pieces_of_units p units * 20) (all_dealt lots plan.units some) ∙ all_sums there
    sums_all false none =
        ap length (all_rows (λ row. row.pieces.items))
        ∙ none_counted (λ k. (get_or rows k d).pieces.items) 0 lots
        (λ k from to. (each k (omega (arith, to))).sums ∙ ap (λ v. cond v (pieces_of_units p (units_at k) * 20) 0) none)

    pub have_all : HasAllPieces plan rows
    have_all = record {
      hashes = hashes_all (has_v2 plan.kind) refl;
      sums = sums_all (has_v1 plan.kind) refl;
    }

pub all_pieces : (plan : PlanFacts) → IsPlan plan → (rows : List PieceRow) → 0 < length rows
    → ((lot : ℕ) (d : PieceRow) → lot < length rows
    → HasOwnPieces plan (dealt (length rows) lot plan.units) (get_or rows lot d))
    → HasAllPieces plan rows
all_pieces plan is [] some each = absurd (omega (arith, some))
all_pieces plan is (row ∷ rows) some each = have_all plan is (row ∷ rows) row some (λ lot below. each lot row below)
