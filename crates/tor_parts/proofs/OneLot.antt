-- Bytes are those of one lot at most.
use Rattle.std.proofs.Common.{◌≡◌, ◌∙◌, ℕ, ℤ, pos, List, [], Option, Some, append-nil, ap, arith, codes, refl, sym}
use Rattle.tor_bencode.specs.Data.{Data}
use Rattle.tor_bencode.specs.Find.{value_of}
use Rattle.tor_bencode.specs.Lawful.{IsLawful}
use Rattle.tor_bencode.specs.Spelling.{spelling}
use Rattle.tor_bencode.proofs.ProvedLaws.{no_spelling_begins_another}
use Rattle.tor_parts.specs.LotText.{IsLot, LotFacts, joined, lot_bytes, lot_dictionary}
use Rattle.tor_parts.specs.declared.lot_text.TheConstants.{MAX_LOTS}
use Rattle.tor_parts.proofs.LotHashes.{chunks_joined}
use Rattle.tor_parts.proofs.LotLawful.{lot_is_lawful}
use Rattle.tor_tree.specs.Properties.{as_integer, as_string}

lawful : (facts : LotFacts) → IsLot facts → IsLawful (lot_dictionary facts)
lawful facts is =
    let most : MAX_LOTS ≡ 65536 = refl in
    lot_is_lawful facts (omega (arith, is.number, is.lots, most)) (omega (arith, is.lots, most))

same_text : (a b : List ℕ) → ◌≡◌ {A = Option (List ℕ)} (Some a) (Some b) → a ≡ b
same_text a b same = cc

same_number : (a b : ℕ) → ◌≡◌ {A = Option ℤ} (Some (pos a)) (Some (pos b)) → a ≡ b
same_number a b same = cc

same_lot : (a b : LotFacts) → a.number ≡ b.number → a.lots ≡ b.lots → a.plan ≡ b.plan → a.hashes ≡ b.hashes
    → a.pieces ≡ b.pieces → a ≡ b
same_lot a b number lots plan hashes pieces = λ i. record {
  number = number i;
  lots = lots i;
  plan = plan i;
  hashes = hashes i;
  pieces = pieces i;
}

pub one_lot : (a b : LotFacts) → IsLot a → IsLot b → lot_bytes a ≡ lot_bytes b → a ≡ b
one_lot a b is other same =
    let tree : lot_dictionary a ≡ lot_dictionary b =
    (no_spelling_begins_another (lot_dictionary a) (lot_dictionary b) [] [] (lawful a is) (lawful b other)
    (append-nil (spelling (lot_dictionary a)) ∙ same ∙ sym (append-nil (spelling (lot_dictionary b))))).0 in
    let text = λ (key : List ℕ). ap (λ (d : Data). as_string (value_of key d)) tree in
    let number = λ (key : List ℕ). ap (λ (d : Data). as_integer (value_of key d)) tree in
    let bytes : joined a.hashes ≡ joined b.hashes = same_text _ _ (text (codes "hashes")) in
    same_lot a b (same_number _ _ (number (codes "part"))) (same_number _ _ (number (codes "parts")))
    (same_text _ _ (text (codes "plan")))
    (sym (chunks_joined (joined a.hashes) a.hashes is.hashes refl)
    ∙ chunks_joined (joined a.hashes) b.hashes other.hashes bytes)
    (same_text _ _ (text (codes "pieces")))
