-- The bytes of units, file by file.
use Rattle.tor_plan.proofs.Names.{◌≡◌, ℕ, ◌+◌, ◌<◌, List, [], ◌∷◌, length, map, get_or, drop, arith, refl, ap, ◌∙◌, sym}
use Rattle.tor_plan.proofs.Names.{get_or-drop, drop-drop, range_with_len, file_unit, units_of_file, ceil_is}

abbrev pub File : Type 0
File = List (List ℕ) × ℕ

-- the contents from a file on
pub record AreFrom (contents : List (List ℕ)) (index : ℕ) (m : ℕ) (lengths : List ℕ) : Type 0 where
  pub first : List ℕ
  pub later : List (List ℕ)
  pub split : drop index contents ≡ first ∷ later
  pub long : length first ≡ m
  pub others : map length later ≡ lengths

from_split : (contents xs : List (List ℕ)) (index m : ℕ) (lengths : List ℕ) → drop index contents ≡ xs
    → map length xs ≡ m ∷ lengths → AreFrom contents index m lengths
from_split contents [] index m lengths split e = cc
from_split contents (x ∷ xs) index m lengths split e =
    record { first = x; later = xs; split = split; long = cc; others = cc }

pub from_index : (contents : List (List ℕ)) (index m : ℕ) (lengths : List ℕ)
    → map length (drop index contents) ≡ m ∷ lengths → AreFrom contents index m lengths
from_index contents index m lengths e = from_split contents (drop index contents) index m lengths refl e

module _ (contents : List (List ℕ)) (index m : ℕ) (lengths : List ℕ) (from : AreFrom contents index m lengths) where
  pub here : get_or contents index [] ≡ from.first
  here = ap (λ n. get_or contents n []) (omega arith)
      ∙ sym (get_or-drop index contents 0 []) ∙ ap (λ xs. get_or xs 0 []) from.split

  pub after : drop (index + 1) contents ≡ from.later
  after = sym (drop-drop 1 index contents) ∙ ap (drop 1) from.split

  pub after_lengths : map length (drop (index + 1) contents) ≡ lengths
  after_lengths = ap (map length) after ∙ from.others

-- an empty file has no unit
pub no_unit_of_file : (size index m tail : ℕ) → 0 < size → m ≡ 0 → units_of_file size index m tail ≡ []
no_unit_of_file size index m tail pos none =
    ap (λ n. map (file_unit size index m tail) (range_with_len 0 n))
    (ceil_is m size 0 (omega (arith, none)) (omega (arith, none)))
