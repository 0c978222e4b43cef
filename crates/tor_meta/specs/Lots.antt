-- One lot of a plan as bytes, and what all lots of a plan are joined to.
use Rattle.std.specs.Prelude.{◌≡◌, ◌≢◌, ◌<◌, ◌*◌, ◌==◌, ℕ, List, [], ◌∷◌, length, map, take, Option, None, Some, IsSome, is_none, true, unwrap_or}
use Rattle.std.specs.Prelude.{if◌then◌else◌, slice_index_or, Bool}
use Rattle.std.specs.List.{AllByRecursion, filter, flat_map, list_any, range_with_len}
use Rattle.tor_merkle.specs.Layer.{pieces_root}
use Rattle.tor_bencode.specs.Spelling.{spelling}
use Rattle.tor_meta.specs.Listing.{IsPlanRefusal, listing_refusal}
use Rattle.tor_meta.specs.PlanText.{IsPlanText, PlanText, plan_bytes}
use Rattle.tor_meta.specs.declared.join_error.JoinError.{JoinError}
use Rattle.tor_meta.specs.declared.join_error.JoinError.TheVariants as join
use Rattle.tor_parts.specs.Dealing.{dealt}
use Rattle.tor_parts.specs.LotCounts.{pieces_of_parts, pieces_of_units}
use Rattle.tor_parts.specs.LotText.{IsLot, LotFacts, lot_bytes}
use Rattle.tor_engine.specs.Rows.{IsRowOf}
use Rattle.tor_plan.specs.PlanFacts.{PlanFacts, plan_of_entries}
use Rattle.tor_plan.specs.declared.units.PlanUnit.{PlanUnit}
use Rattle.tor_parts.specs.Joining.{layers_over, roots_over}
use Rattle.tor_spec.specs.Facts.{Facts, attrs_in, layers_in, listed, roots_in}
use Rattle.tor_spec.specs.Metainfo.{root_dictionary}
use Rattle.tor_spec.specs.Settings.{layout_of}
use Rattle.tor_tree.specs.FileList.{lengths_of}
use Rattle.tor_v1.specs.Entries.{v1_entries}
use Rattle.tor_tree.specs.Kinds.{has_v1, has_v2}

-- the units of what a plan tells: file i of its list is file i of the source that is hashed by them (profile)
abbrev pub plan_of_text : PlanText → PlanFacts
plan_of_text text =
    plan_of_entries text.settings.kind text.settings.piece_length text.span
    (v1_entries (layout_of text.settings) text.settings.piece_length text.list.files)

-- whether units have bytes of the file with this number (profile)
abbrev pub has_bytes_of : List PlanUnit → ℕ → Bool
has_bytes_of units file = list_any (λ unit. list_any (λ part. part.file == file) unit.parts) units

-- the bytes are those of a lot of so many of a plan with this digest. Its hashes are those of these contents at its
-- units (profile)
pub record IsLotOf (plan : PlanFacts) (digest : List ℕ) (lots number : ℕ) (contents : List (List ℕ))
    (bytes : List ℕ) : Type 0 where
  pub facts : LotFacts
  pub lawful : IsLot facts
  pub spelled : bytes ≡ lot_bytes facts
  pub numbered : facts.number ≡ number
  pub counted : facts.lots ≡ lots
  pub planned : facts.plan ≡ digest
  pub row : IsRowOf plan contents (dealt lots number plan.units) facts.hashes facts.pieces

-- each text is a lot of a plan with this digest, and its hashes are those of these contents at its units (profile)
abbrev pub AreLotsOf : PlanFacts → List ℕ → List (List ℕ) → List (List ℕ) → Type 0
AreLotsOf plan digest contents texts =
    (word : ℕ) → word < length texts
    → (lots : ℕ) × (number : ℕ) × IsLotOf plan digest lots number contents (slice_index_or texts word [])

-- a lot has as many hashes and sums as the pieces of its units (profile)
pub record HasLotPieces (plan : PlanFacts) (lot : LotFacts) : Type 0 where
  pub hashes : length lot.hashes
      ≡ (if has_v2 plan.kind then pieces_of_parts plan.piece_length (dealt lot.lots lot.number plan.units) else 0)
  pub sums : length lot.pieces
      ≡ (if has_v1 plan.kind then pieces_of_units plan.piece_length (dealt lot.lots lot.number plan.units) * 20 else 0)

-- the hashes and sums of the first of some lots that has this number (profile)
unfoldable pub row_at : ℕ → List LotFacts → Option (List (List ℕ) × List ℕ)
row_at number [] = None
row_at number (lot ∷ lots) = if lot.number == number then Some (lot.hashes, lot.pieces) else row_at number lots

-- how many lots there are is what the first of some texts says; one if there is no text (profile)
pub record IsCount (texts : List (List ℕ)) (count : ℕ) : Type 0 where
  pub none : texts ≡ [] → count ≡ 1
  pub first : (lot : LotFacts) → IsLot lot → slice_index_or texts 0 [] ≡ lot_bytes lot → 0 < length texts
      → count ≡ lot.lots

-- a lot that fits behind others: it is of this plan, of as many lots, has another number, and all its pieces (profile)
pub record IsNextLot (plan : PlanFacts) (digest : List ℕ) (count : ℕ) (earlier : List LotFacts) (lot : LotFacts)
    : Type 0 where
  pub planned : lot.plan ≡ digest
  pub counted : lot.lots ≡ count
  pub fresh : row_at lot.number earlier ≡ None
  pub pieces : HasLotPieces plan lot

-- the first texts are those of these lots, each of which fits behind the others (profile)
pub record AreFirstLots (plan : PlanFacts) (digest : List ℕ) (count n : ℕ) (texts : List (List ℕ))
    (lots : List LotFacts) : Type 0 where
  pub told : take n texts ≡ map lot_bytes lots
  pub lawful : AllByRecursion IsLot lots
  pub next : (k : ℕ) (d : LotFacts) → k < length lots
      → IsNextLot plan digest count (take k lots) (slice_index_or lots k d)

-- why a text is not the next lot behind these; the first cause that holds (profile)
abbrev pub IsTextFault : PlanFacts → List ℕ → ℕ → List LotFacts → List ℕ → JoinError → Type 0
IsTextFault plan digest count earlier text (join.NoPart word) =
    (word ≡ length earlier) × ((lot : LotFacts) → IsLot lot → text ≢ lot_bytes lot)
IsTextFault plan digest count earlier text (join.OtherPlan word) =
    (word ≡ length earlier) × ((lot : LotFacts) × IsLot lot × (text ≡ lot_bytes lot) × (lot.plan ≢ digest))
IsTextFault plan digest count earlier text (join.OtherParts word) =
    (word ≡ length earlier)
    × ((lot : LotFacts) × IsLot lot × (text ≡ lot_bytes lot) × (lot.plan ≡ digest) × (lot.lots ≢ count))
IsTextFault plan digest count earlier text (join.Twice word) =
    (word ≡ length earlier)
    × ((lot : LotFacts) × IsLot lot × (text ≡ lot_bytes lot) × (lot.plan ≡ digest) × (lot.lots ≡ count)
    × IsSome (row_at lot.number earlier))
IsTextFault plan digest count earlier text (join.Length word) =
    (word ≡ length earlier)
    × ((lot : LotFacts) × IsLot lot × (text ≡ lot_bytes lot) × (lot.plan ≡ digest) × (lot.lots ≡ count)
    × (row_at lot.number earlier ≡ None) × (HasLotPieces plan lot → ⊥))
IsTextFault plan digest count earlier text other = ⊥

-- the numbers of the lots that are not there, of so many (profile)
abbrev pub missing_of : ℕ → List LotFacts → List ℕ
missing_of count lots = filter (λ number. is_none (row_at number lots)) (range_with_len 0 count)

-- why texts are not all lots of a plan: the first text that is not the next lot, or that some are missing (profile)
abbrev pub AreNotAll : PlanFacts → List ℕ → List (List ℕ) → JoinError → Type 0
AreNotAll plan digest texts (join.Missing numbers) =
    (count : ℕ) × (lots : List LotFacts) × IsCount texts count
    × AreFirstLots plan digest count (length texts) texts lots × (numbers.items ≡ missing_of count lots)
    × (numbers.items ≢ [])
AreNotAll plan digest texts join.Memory = Unit {0}
AreNotAll plan digest texts (join.Plan error) = ⊥
AreNotAll plan digest texts error =
    (count : ℕ) × (lots : List LotFacts) × IsCount texts count × (length lots < length texts)
    × AreFirstLots plan digest count (length lots) texts lots
    × IsTextFault plan digest count lots (slice_index_or texts (length lots) []) error

-- all texts are lots of a plan, of so many, and none is missing (profile)
pub record AreAllLots (plan : PlanFacts) (digest : List ℕ) (texts : List (List ℕ)) (count : ℕ)
    (lots : List LotFacts) : Type 0 where
  pub is_count : IsCount texts count
  pub are : AreFirstLots plan digest count (length texts) texts lots
  pub there : missing_of count lots ≡ []

-- the hashes and the sums of so many lots, in the order of their numbers (profile)
abbrev pub joined_hashes : ℕ → List LotFacts → List (List ℕ)
joined_hashes count lots =
    flat_map (λ number. (unwrap_or (row_at number lots) ([], [])).0) (range_with_len 0 count)

abbrev pub joined_sums : ℕ → List LotFacts → List ℕ
joined_sums count lots =
    flat_map (λ number. (unwrap_or (row_at number lots) ([], [])).1) (range_with_len 0 count)

-- the facts of the files of a plan with these hashes as layers, and the roots over them (BEP 52, "piece layers")
pub record AreJoinedFacts (text : PlanText) (hashes : List (List ℕ)) (facts : List Facts) : Type 0 where
  pub is_listed : listed facts ≡ text.list.files
  pub is_lettered : attrs_in facts ≡ text.list.attrs
  pub is_rooted : has_v2 text.settings.kind ≡ true
      → roots_in facts ≡ roots_over text.settings.piece_length (lengths_of text.list.files) hashes
  pub is_layered : has_v2 text.settings.kind ≡ true
      → layers_in facts ≡ layers_over text.settings.piece_length (lengths_of text.list.files) hashes

-- the torrent of what a plan tells with the hashes and sums of lots. Its layers are their hashes, and its roots those
-- over them (BEP 52, "piece layers"; BEP 3, "info dictionary")
abbrev pub IsTorrentOfLots : PlanText → ℕ → List LotFacts → List ℕ → Type 0
IsTorrentOfLots text count lots bytes =
    (facts : List Facts) → AreJoinedFacts text (joined_hashes count lots) facts
    → bytes ≡ spelling (root_dictionary text.settings facts (joined_sums count lots))

-- what lots are joined to: all lots of the plan that these bytes are, of which a torrent is made, and the torrent of
-- them (profile)
pub record IsJoined (plan : List ℕ) (texts : List (List ℕ)) (bytes : List ℕ) : Type 0 where
  pub text : PlanText
  pub count : ℕ
  pub lots : List LotFacts
  pub told : IsPlanText text
  pub is_plan : plan ≡ plan_bytes text
  pub accepted : listing_refusal text ≡ None
  pub are_all : AreAllLots (plan_of_text text) (pieces_root plan) texts count lots
  pub torrent : IsTorrentOfLots text count lots bytes

-- why they are not joined: the plan is none or is refused, which comes first, or the texts are not all its lots
-- (profile)
abbrev pub IsJoinRefusal : List ℕ → List (List ℕ) → JoinError → Type 0
IsJoinRefusal plan texts (join.Plan error) = IsPlanRefusal plan error
IsJoinRefusal plan texts join.Memory = Unit {0}
IsJoinRefusal plan texts error =
    (text : PlanText) × IsPlanText text × (plan ≡ plan_bytes text) × (listing_refusal text ≡ None)
    × AreNotAll (plan_of_text text) (pieces_root plan) texts error
