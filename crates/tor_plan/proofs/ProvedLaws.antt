-- The proofs of the laws of src/laws.rt, and lemmas on entries, units and logarithms that crates above cite too.
use Rattle.tor_plan.proofs.Names.{◌≡◌, ◌≢◌, ℕ, ◌+◌, ◌-◌, ◌*◌, ◌<◌, min, List, length, get_or, refl, arith, ap}
use Rattle.tor_plan.proofs.Names.{◌∙◌}
use Rattle.tor_plan.proofs.Names.{sym, subst, map, inl, inr, append-nil, eq-zero-or-pos, mul-pos, All, flat_map, Kind}
use Rattle.tor_plan.proofs.Names.{V1}
use Rattle.tor_plan.proofs.Names.{V2, Hybrid, AreContentsOf, joined_content, piece_sums, Entry}
use Rattle.tor_plan.proofs.Names.{unit_content, entry_units}
use Rattle.tor_plan.proofs.Names.{lengths_of_entries, IsLaidOut, piece_of_unit, pieces_of_unit, IsInFile}
use Rattle.tor_plan.proofs.Names.{IsUnitWithin, unit_length, IsFileUnit, PlanUnit, whole_unit}
use Rattle.tor_plan.proofs.PieceWithin.{unit_between_length}
use Rattle.tor_plan.proofs.UnitLaws.{content_of_pieces, each_unit, pieces_of_pieces, sums_of_pieces, whole_piece}
use Rattle.tor_plan.proofs.UnitLaws.{within_units}
use Rattle.tor_plan.proofs.WholeLaws.{content_of_roots, content_of_whole, in_files, no_zeros_first, roots, roots_in}
use Rattle.tor_plan.proofs.WholeLaws.{separate_whole, units_are_pieces}
use Rattle.tor_plan.proofs.WholeUnits.{parts_of_whole, pieces_of_whole, zeros_of_whole}
pub use Rattle.tor_plan.proofs.EntrySteps.{Label, entry_cases, file, padding}
pub use Rattle.tor_plan.proofs.FilesAsEntries.{files_laid_out, lengths_of_files}
pub use Rattle.tor_plan.proofs.Sizes.{files_within}
pub use Rattle.tor_plan.proofs.Trees.{log2_is, trees_are_runs, units_are_few}
pub use Rattle.tor_plan.proofs.PieceWithin.{pieces_are_within_files}
pub use Rattle.tor_plan.proofs.Positions.{entry_units_name_each_byte, positions_of_pieces}
pub use Rattle.tor_plan.proofs.AlignedPieces.{aligned_pieces_are_joined}
pub use Rattle.tor_plan.proofs.PieceSteps.{part_met, part_not_met}
pub use Rattle.tor_plan.proofs.Runs.{runs_are}
pub use Rattle.tor_plan.proofs.UnitContent.{content_between}

some_piece : (span piece_length : ℕ) → 0 < span * piece_length → 0 < piece_length
some_piece span piece_length pos = elim (eq-zero-or-pos piece_length) [
  | inl none ↦ let e : span * piece_length ≡ span * 0 = ap (λ n. span * n) none in absurd (omega (arith, pos, e))
  | inr some ↦ some
]

-- ---- entries

module _ (kind : Kind) (piece_length span : ℕ) (entries : List Entry) (some : 0 < piece_length)
    (pos : 0 < span * piece_length) (laid : IsLaidOut kind piece_length entries) where
  -- what the pieces of each root give, all units give
  of_roots : {Y : Type 0} (P : PlanUnit → Type 0) (f : PlanUnit → List Y)
      → ((u : PlanUnit) → P u → flat_map f (pieces_of_unit (span * piece_length) u) ≡ f u)
      → All P (roots kind (whole_unit entries))
      → flat_map f (entry_units kind piece_length span entries) ≡ flat_map f (roots kind (whole_unit entries))
  of_roots P f same held =
      ap (flat_map f) (units_are_pieces kind piece_length span entries some pos laid)
      ∙ each_unit f (span * piece_length) P same (roots kind (whole_unit entries)) held

module _ (kind : Kind) (piece_length span : ℕ) (entries : List Entry) (contents : List (List ℕ))
    (pos : 0 < span * piece_length) (laid : IsLaidOut kind piece_length entries)
    (fit : AreContentsOf entries contents) where
  abbrev whole : PlanUnit
  whole = whole_unit entries

  abbrev InFile : PlanUnit → Type 0
  InFile u = All (IsInFile (map length contents)) u.parts

  some : 0 < piece_length
  some = some_piece span piece_length pos

  held : All InFile (roots kind whole)
  held = roots_in kind (IsInFile (map length contents)) whole (in_files (map length contents) 0 entries fit)

  pub entry_units_are_the_content : flat_map (unit_content contents) (entry_units kind piece_length span entries)
      ≡ joined_content entries contents
  entry_units_are_the_content =
      of_roots kind piece_length span entries some pos laid InFile (unit_content contents)
      (λ u is. content_of_pieces contents u is (span * piece_length) pos) held ∙ content_of_roots kind contents whole
      (λ not_v1. zeros_of_whole 0 entries ∙ no_zeros_first kind piece_length entries not_v1 laid)
      ∙ content_of_whole contents 0 entries fit

  sums_of_units : flat_map (λ u. piece_sums piece_length (unit_content contents u))
      (entry_units kind piece_length span entries)
      ≡ flat_map (λ u. piece_sums piece_length (unit_content contents u)) (roots kind whole)
  sums_of_units =
      let sums : PlanUnit → List ℕ = λ u. piece_sums piece_length (unit_content contents u) in
      of_roots kind piece_length span entries some pos laid InFile sums
      (λ u is. sums_of_pieces contents u is piece_length span some pos) held

pub entry_units_are_within_files : (kind : Kind) (piece_length span : ℕ) (entries : List Entry) → 0 < span
    → 0 < piece_length → IsLaidOut kind piece_length entries
    → All (IsUnitWithin (lengths_of_entries entries) (span * piece_length)) (entry_units kind piece_length span entries)
entry_units_are_within_files kind piece_length span entries some pos laid =
    let lengths = lengths_of_entries entries in
    let bytes : 0 < span * piece_length = mul-pos some pos in
    subst (All (IsUnitWithin lengths (span * piece_length)))
    (sym (units_are_pieces kind piece_length span entries pos bytes laid))
    (within_units lengths (span * piece_length) bytes (roots kind (whole_unit entries))
    (roots_in kind (IsInFile lengths) (whole_unit entries) (in_files lengths 0 entries refl)))

pub units_are_cut_into_pieces : (kind : Kind) (piece_length span : ℕ) (entries : List Entry) → 0 < piece_length
    → 0 < span → IsLaidOut kind piece_length entries
    → flat_map (pieces_of_unit piece_length) (entry_units kind piece_length span entries)
    ≡ entry_units kind piece_length 1 entries
units_are_cut_into_pieces kind piece_length span entries pos some laid =
    let bytes : 0 < span * piece_length = mul-pos some pos in
    of_roots kind piece_length span entries pos bytes laid (λ _. Unit {0}) (pieces_of_unit piece_length)
    (λ u is. pieces_of_pieces piece_length span pos bytes u) (λ _ _ _. tt)
    ∙ ap (λ n. flat_map (pieces_of_unit n) (roots kind (whole_unit entries))) (omega arith)
    ∙ sym (units_are_pieces kind piece_length 1 entries pos (omega (arith, pos)) laid)

pub pieces_are_so_long : (piece_length k : ℕ) (unit : PlanUnit)
    → unit_length (piece_of_unit piece_length unit k) ≡ min (unit_length unit - k * piece_length) piece_length
pieces_are_so_long piece_length k unit =
    let next : (k + 1) * piece_length ≡ k * piece_length + piece_length = omega arith in
    omega (arith, unit_between_length (k * piece_length) ((k + 1) * piece_length) unit, next)

pub joined_entry_units_are_whole : (piece_length span : ℕ) (entries : List Entry) (k : ℕ) (unit : PlanUnit)
    → 0 < span * piece_length → k + 1 < length (entry_units V1 piece_length span entries)
    → unit_length (get_or (entry_units V1 piece_length span entries) k unit) ≡ span * piece_length
joined_entry_units_are_whole piece_length span entries k unit pos =
    subst (λ (units : List PlanUnit). k + 1 < length units → unit_length (get_or units k unit) ≡ span * piece_length)
    (pieces_of_whole (span * piece_length) entries) (whole_piece (span * piece_length) pos (whole_unit entries) k unit)

pub separate_entry_units_are_whole : (kind : Kind) (piece_length span : ℕ) (entries : List Entry) → kind ≢ V1
    → 0 < span * piece_length
    → All (IsFileUnit (lengths_of_entries entries) (span * piece_length)) (entry_units kind piece_length span entries)
separate_entry_units_are_whole V1 piece_length span entries not_v1 pos = absurd (not_v1 refl)
separate_entry_units_are_whole kind piece_length span entries not_v1 pos =
    subst (All (IsFileUnit (lengths_of_entries entries) (span * piece_length)))
    (parts_of_whole (span * piece_length) entries pos)
    (separate_whole (lengths_of_entries entries) (span * piece_length) pos 0 entries refl)

sums_of_joined : (piece_length span : ℕ) (entries : List Entry) (contents : List (List ℕ))
    → 0 < span * piece_length → IsLaidOut V1 piece_length entries → AreContentsOf entries contents
    → flat_map (λ unit. piece_sums piece_length (unit_content contents unit)) (entry_units V1 piece_length span entries)
    ≡ piece_sums piece_length (joined_content entries contents)
sums_of_joined piece_length span entries contents pos laid fit =
    sums_of_units V1 piece_length span entries contents pos laid fit
    ∙ append-nil (piece_sums piece_length (unit_content contents (whole_unit entries)))
    ∙ ap (piece_sums piece_length) (content_of_whole contents 0 entries fit)

pub pieces_are_in_entry_units : (kind : Kind) (piece_length span : ℕ) (entries : List Entry)
    (contents : List (List ℕ)) → kind ≢ V2 → 0 < piece_length → 0 < span * piece_length
    → IsLaidOut kind piece_length entries → AreContentsOf entries contents
    → flat_map (λ unit. piece_sums piece_length (unit_content contents unit))
    (entry_units kind piece_length span entries)
    ≡ piece_sums piece_length (joined_content entries contents)
unfolding IsLaidOut
pieces_are_in_entry_units V1 piece_length span entries contents not_v2 some pos laid fit =
    sums_of_joined piece_length span entries contents pos laid fit
pieces_are_in_entry_units V2 piece_length span entries contents not_v2 some pos laid fit = absurd (not_v2 refl)
pieces_are_in_entry_units Hybrid piece_length span entries contents not_v2 some pos laid fit =
    let one : 0 < 1 * piece_length = omega (arith, some) in
    sums_of_units Hybrid piece_length span entries contents pos laid fit
    ∙ sym (sums_of_units Hybrid piece_length 1 entries contents one laid fit)
    ∙ ap (flat_map (λ unit. piece_sums piece_length (unit_content contents unit)))
    (aligned_pieces_are_joined piece_length entries some laid)
    ∙ sums_of_joined piece_length 1 entries contents one tt fit
