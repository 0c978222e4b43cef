-- The rows of lots in the order of their numbers, and the lots that they are of.
use Rattle.std.proofs.Common.{◌≡◌, ◌<◌, ◌==◌, ◌++◌, ◌∷◌, ◌∙◌, ◌+◌, [], ℕ, suc, true, false, Bool, cond, List, Option, Some}
use Rattle.std.proofs.Common.{ap, ap₂, arith, get_or, length, map, refl, subst, sym}
use Rattle.std.proofs.lemmas.Bool.{eqb-true}
use Rattle.std.proofs.lemmas.List.{get_or-map, length-map, take_all}
use Rattle.std.specs.List.{flat_map, range_with_len}
use Rattle.std.proofs.lemmas.List.Elements.{All-from_recursion}
use Rattle.tor_engine.specs.Rows.{IsRowOf}
use Rattle.tor_engine.specs.declared.lot.PieceRow.{PieceRow}
use Rattle.tor_meta.specs.Lots.{AreAllLots, AreJoinedFacts, AreLotsOf, IsTorrentOfLots, joined_hashes, joined_sums}
use Rattle.tor_meta.specs.Lots.{plan_of_text, row_at}
use Rattle.tor_meta.specs.steps.Join.{AreRowsOfLots, row_in}
use Rattle.tor_parts.proofs.ProvedLaws.{bytes_are_of_one_lot}
use Rattle.tor_parts.specs.Dealing.{dealt}
use Rattle.tor_parts.specs.JoinedRows.{AreRowsOf, hashes_of, sums_of}
use Rattle.tor_parts.specs.LotText.{IsLot, LotFacts, lot_bytes}
use Rattle.tor_plan.specs.PlanFacts.{PlanFacts}
use Rattle.tor_plan.specs.declared.units.PlanUnit.{PlanUnit}
use Rattle.std.specs.Prelude.{unwrap_or}
use Rattle.tor_bencode.specs.Spelling.{spelling}
use Rattle.tor_meta.specs.Head.{settings_of}
use Rattle.tor_meta.specs.Listing.{ListingFacts, text_of_listing}
use Rattle.tor_spec.specs.Facts.{Facts}
use Rattle.tor_spec.specs.Metainfo.{root_dictionary}

pub by_numbers : {Y : Type 0} (f : PieceRow → List Y) (g : ℕ → List Y) (n : ℕ) (rows : List PieceRow)
    → ((k : ℕ) (d : PieceRow) → k < length rows → f (get_or rows k d) ≡ g (n + k))
    → flat_map f rows ≡ flat_map g (range_with_len n (length rows))
by_numbers f g n [] each = refl
by_numbers f g n (row ∷ rows) each =
    ap₂ (λ x y. x ++ y) (each 0 row (omega arith) ∙ ap g (let e : n + 0 ≡ n = omega arith in e))
    (by_numbers f g (n + 1) rows (λ k d below.
    each (suc k) d (omega (arith, below)) ∙ ap g (let e : n + suc k ≡ n + 1 + k = omega arith in e)))

-- the lot that has a number
pub record IsFound (number : ℕ) (lots : List LotFacts) (row : List (List ℕ) × List ℕ) : Type 0 where
  pub at : ℕ
  pub lot : LotFacts
  pub there : at < length lots
  pub is : get_or lots at lot ≡ lot
  pub numbered : lot.number ≡ number
  pub same : (lot.hashes, lot.pieces) ≡ row

pub found : (number : ℕ) (lots : List LotFacts) (row : List (List ℕ) × List ℕ) → row_at number lots ≡ Some row
    → IsFound number lots row
unfolding row_at
found number [] row is = cc
found number (lot ∷ lots) row is =
    by_number (lot.number == number) refl is (λ (later : row_at number lots ≡ Some row). found number lots row later)
  where
    one_row : (a b : List (List ℕ) × List ℕ) → Some a ≡ Some b → a ≡ b
    one_row a b same = cc

    by_number : (b : Bool) → (lot.number == number) ≡ b
        → cond b (Some (lot.hashes, lot.pieces)) (row_at number lots) ≡ Some row
        → (row_at number lots ≡ Some row → IsFound number lots row) → IsFound number (lot ∷ lots) row
    by_number true same is later = record {
      at = 0;
      lot = lot;
      there = omega arith;
      is = refl;
      numbered = eqb-true lot.number number same;
      same = one_row (lot.hashes, lot.pieces) row is;
    }
    by_number false other is later =
        let one = later is in
        record {
          at = suc one.at;
          lot = one.lot;
          there = omega (arith, one.there);
          is = one.is;
          numbered = one.numbered;
          same = one.same;
        }

module _ (plan : PlanFacts) (digest : List ℕ) (texts : List (List ℕ)) (rows : List PieceRow) (lots : List LotFacts)
    (all : AreAllLots plan digest texts (length rows) lots) (of_lots : AreRowsOfLots plan rows lots)
    (contents : List (List ℕ)) (are : AreLotsOf plan digest contents texts) where
  told : texts ≡ map lot_bytes lots
  told = sym (take_all (length texts) texts (omega arith)) ∙ all.are.told

  pub rows_of : AreRowsOf plan contents rows
  rows_of k d below =
      let one = found k lots (row_in (get_or rows k d)) (sym (of_lots.each k d below)) in
      let many : length texts ≡ length lots = ap length told ∙ length-map lots lot_bytes in
      let lot = one.lot in
      let next = all.are.next one.at lot one.there in
      let counted : lot.lots ≡ length rows = ap (λ (l : LotFacts). l.lots) (sym one.is) ∙ next.counted in
      let lawful : IsLot lot = subst IsLot one.is (All-from_recursion IsLot lots all.are.lawful one.at lot one.there) in
      let text : get_or texts one.at [] ≡ lot_bytes lot =
      ap (λ (ts : List (List ℕ)). get_or ts one.at []) told
      ∙ get_or-map lot_bytes lots one.at lot [] one.there ∙ ap lot_bytes one.is in
      let own = (are one.at (omega (arith, one.there, many))).2 in
      let same : own.facts ≡ lot =
      bytes_are_of_one_lot own.facts lot own.lawful lawful (sym own.spelled ∙ text) in
      let count : (are one.at (omega (arith, one.there, many))).0 ≡ length rows =
      sym own.counted ∙ ap (λ (l : LotFacts). l.lots) same ∙ counted in
      let number : (are one.at (omega (arith, one.there, many))).1 ≡ k =
      sym own.numbered ∙ ap (λ (l : LotFacts). l.number) same ∙ one.numbered in
      let hashes : own.facts.hashes ≡ (get_or rows k d).hashes.items =
      ap (λ (l : LotFacts). l.hashes) same ∙ ap (λ (r : List (List ℕ) × List ℕ). r.0) one.same in
      let pieces : own.facts.pieces ≡ (get_or rows k d).pieces.items =
      ap (λ (l : LotFacts). l.pieces) same ∙ ap (λ (r : List (List ℕ) × List ℕ). r.1) one.same in
      as_row (dealt (are one.at (omega (arith, one.there, many))).0 (are one.at (omega (arith, one.there, many))).1 plan.units)
      (dealt (length rows) k plan.units) own.facts.hashes (get_or rows k d).hashes.items own.facts.pieces
      (get_or rows k d).pieces.items (ap₂ (λ (n : ℕ) (m : ℕ). dealt n m plan.units) count number) hashes pieces own.row
    where
      as_row : (us vs : List PlanUnit) (h i : List (List ℕ)) (p q : List ℕ) → us ≡ vs → h ≡ i → p ≡ q
          → IsRowOf plan contents us h p → IsRowOf plan contents vs i q
      as_row us vs h i p q units hashes pieces row =
          subst (λ (ws : List PlanUnit). IsRowOf plan contents ws i q) units
          (subst (λ (hs : List (List ℕ)). IsRowOf plan contents us hs q) hashes
          (subst (λ (ps : List ℕ). IsRowOf plan contents us h ps) pieces row))

-- ---- the torrent

module _ (listing : ListingFacts) (rows given : List PieceRow) (lots : List LotFacts) (bytes : List ℕ)
    (is_rows : given ≡ rows) where
  pub torrent_joined : ((k : ℕ) (d : PieceRow) → k < length rows → Some (row_in (get_or rows k d)) ≡ row_at k lots)
      → ((facts : List Facts) → AreJoinedFacts (text_of_listing listing) (hashes_of given) facts
      → bytes ≡ spelling (root_dictionary (settings_of listing.head) facts (sums_of given)))
      → IsTorrentOfLots (text_of_listing listing) (length rows) lots bytes
  torrent_joined each any = λ facts are.
      let own = λ (k : ℕ) (d : PieceRow) (below : k < length rows).
      ap (λ (o : Option (List (List ℕ) × List ℕ)). unwrap_or o ([], [])) (each k d below)
      ∙ ap (λ n. unwrap_or (row_at n lots) ([], [])) (let e : k ≡ 0 + k = omega arith in e) in
      let hashes : hashes_of given ≡ joined_hashes (length rows) lots =
      ap hashes_of is_rows ∙ by_numbers (λ row. row.hashes.items) (λ k. (unwrap_or (row_at k lots) ([], [])).0) 0 rows
      (λ k d below. ap (λ (r : List (List ℕ) × List ℕ). r.0) (own k d below)) in
      let sums : sums_of given ≡ joined_sums (length rows) lots =
      ap sums_of is_rows ∙ by_numbers (λ row. row.pieces.items) (λ k. (unwrap_or (row_at k lots) ([], [])).1) 0 rows
      (λ k d below. ap (λ (r : List (List ℕ) × List ℕ). r.1) (own k d below)) in
      any facts (subst (λ (hs : List (List ℕ)). AreJoinedFacts (text_of_listing listing) hs facts) (sym hashes) are)
      ∙ ap (λ ps. spelling (root_dictionary (settings_of listing.head) facts ps)) sums

  module _ (units : PlanFacts) (plan digest : List ℕ) (texts : List (List ℕ))
      (same_plan : units ≡ plan_of_text (text_of_listing listing)) (is_digest : digest ≡ plan)
      (all : AreAllLots units digest texts (length rows) lots) where
    pub all_there : AreAllLots (plan_of_text (text_of_listing listing)) plan texts (length rows) lots
    all_there =
        subst (λ (p : PlanFacts). AreAllLots p plan texts (length rows) lots) same_plan
        (subst (λ (d : List ℕ). AreAllLots units d texts (length rows) lots) is_digest all)

    pub rows_made : AreRowsOfLots units rows lots → (contents : List (List ℕ))
        → AreLotsOf (plan_of_text (text_of_listing listing)) plan contents texts → AreRowsOf units contents given
    rows_made of_lots contents are =
        let own = subst (λ (p : PlanFacts). AreLotsOf p digest contents texts) (sym same_plan)
        (subst (λ (d : List ℕ). AreLotsOf (plan_of_text (text_of_listing listing)) d contents texts) (sym is_digest) are) in
        subst (λ (rs : List PieceRow). AreRowsOf units contents rs) (sym is_rows)
        (rows_of units digest texts rows lots all of_lots contents own)
