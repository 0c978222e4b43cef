-- The pieces that were judged so far, and those that are left.
use Rattle.tor_recheck.proofs.Names.{◌≡◌, ℕ, ◌+◌, Bool, List, [], ◌∷◌, ◌++◌, None, Option, length, map, drop, get_or}
use Rattle.tor_recheck.proofs.Names.{arith, ap, ap₂, sym, ◌∙◌, drop-drop, map-range_with_len_more, range_with_len}
use Rattle.tor_recheck.proofs.Names.{zero-add, PieceHash}
use Rattle.tor_view.proofs.FromIndex.{first_of}

-- so many pieces have their bits; the hashes of the others are left, and those that the torrent has for them
pub record AreJudgedTo (judge : ℕ → Bool) (hashes left : List (Option PieceHash)) (roots told : List (List ℕ))
    (bits : List Bool) : Type 0 where
  pub count : ℕ
  pub judged : bits ≡ map judge (range_with_len 0 count)
  pub later : left ≡ drop count hashes
  pub later_told : told ≡ drop count roots
  pub counted : count + length left ≡ length hashes

module _ {judge : ℕ → Bool} {hashes left : List (Option PieceHash)} {roots told : List (List ℕ)} {bits : List Bool}
    (before : AreJudgedTo judge hashes left roots told bits) where
  -- the hash that the torrent has for the next piece
  pub next_told : get_or told 0 [] ≡ get_or roots before.count []
  next_told = ap (λ xs. get_or xs 0 []) before.later_told ∙ first_of roots before.count []

  -- all are judged
  pub judged_to_end : left ≡ [] → bits ≡ map judge (range_with_len 0 (length hashes))
  judged_to_end none =
      let all : before.count ≡ length hashes = omega (arith, before.counted, ap length none) in
      before.judged ∙ ap (λ n. map judge (range_with_len 0 n)) all

  module _ (hash : Option PieceHash) (others : List (Option PieceHash)) (next : left ≡ hash ∷ others) where
    pub next_hash : hash ≡ get_or hashes before.count None
    next_hash = ap (λ xs. get_or xs 0 None) (sym next ∙ before.later) ∙ first_of hashes before.count None

    -- one more piece has its bit
    abbrev pub one_more : (bit : Bool) (more : List Bool) (less : List (List ℕ)) → more ≡ bits ++ bit ∷ []
        → less ≡ drop 1 told → bit ≡ judge before.count → AreJudgedTo judge hashes others roots less more
    one_more bit more less pushed passed is = record {
      count = before.count + 1;
      judged = pushed ∙ ap₂ (λ xs x. xs ++ x ∷ []) before.judged is
          ∙ sym (map-range_with_len_more judge 0 before.count before.count (zero-add before.count));
      later = ap (drop 1) (sym next ∙ before.later) ∙ drop-drop 1 before.count hashes;
      later_told = passed ∙ ap (drop 1) before.later_told ∙ drop-drop 1 before.count roots;
      counted = omega (arith, before.counted, ap length next);
    }
