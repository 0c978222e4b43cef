-- The units of all files, cut file by file.
use Rattle.std.proofs.Common.{◌≡◌, ◌<◌, ◌≤◌, ℕ, ◌+◌, List, [], ◌∷◌, ◌++◌, length, map, take, drop, get_or, Option, ap}
use Rattle.std.proofs.Common.{sym, ◌∙◌, arith}
use Rattle.std.proofs.Math.Seq.{drop-append_seam, take-append_seam}
use Rattle.std.proofs.lemmas.List.{drop-map, length-append, length-map, map_more, take-map}
use Rattle.std.proofs.lemmas.List.Concat.{flat_map-cons}
use Rattle.std.specs.List.{flat_map}
use Rattle.tor_sums.specs.declared.unit_sums.UnitSums.{UnitSums}
use Rattle.tor_sums.specs.steps.Hashes.{IsCut, Node}
use Rattle.tor_sums.specs.steps.Run.{node_in}

-- the first of files that are cut, and the others
pub one_cut : (p size : ℕ) (level : Option ℕ) (m : ℕ) (lengths : List ℕ) → IsCut p size level (m ∷ lengths)
    → IsCut p size level (m ∷ [])
one_cut p size level m lengths cut = record {
  allowed = cut.allowed;
  span = cut.span;
  some = cut.some;
  pieces = cut.pieces;
  stands = cut.stands;
  alone = λ none. ((cut.alone none).0, tt);
}

pub later_cut : (p size : ℕ) (level : Option ℕ) (m : ℕ) (lengths : List ℕ) → IsCut p size level (m ∷ lengths)
    → IsCut p size level lengths
later_cut p size level m lengths cut = record {
  allowed = cut.allowed;
  span = cut.span;
  some = cut.some;
  pieces = cut.pieces;
  stands = cut.stands;
  alone = λ none. (cut.alone none).1;
}

-- a function of each file, one more
pub map_next : {Y : Type 0} (f : List ℕ → Y) (xs : List (List ℕ)) (ys : List Y) (y : Y) (i : ℕ) → i < length xs
    → ys ≡ map f (take i xs) → y ≡ f (get_or xs i []) → ys ++ y ∷ [] ≡ map f (take (i + 1) xs)
map_next f xs ys y i there all one = rw (all, one) (sym (map_more f xs i [] there))

-- the nodes of contents, one after the other: those of the first, and of the later ones
module _ (f : List ℕ → List Node) (content : List ℕ) (contents : List (List ℕ)) (units : List UnitSums)
    (is : map node_in units ≡ flat_map f (content ∷ contents)) where
  all : map node_in units ≡ f content ++ flat_map f contents
  all = is ∙ flat_map-cons f content contents

  pub own_nodes : (n : ℕ) → n ≡ length (f content) → map node_in (take n units) ≡ f content
  own_nodes n many =
      sym (take-map node_in n units) ∙ ap (take n) all ∙ ap (λ k. take k (f content ++ flat_map f contents)) many
      ∙ take-append_seam (f content) (flat_map f contents)

  pub later_nodes : (n : ℕ) → n ≡ length (f content) → map node_in (drop n units) ≡ flat_map f contents
  later_nodes n many =
      sym (drop-map node_in n units) ∙ ap (drop n) all ∙ ap (λ k. drop k (f content ++ flat_map f contents)) many
      ∙ drop-append_seam (f content) (flat_map f contents)

  pub enough_nodes : (n : ℕ) → n ≡ length (f content) → n ≤ length units
  enough_nodes n many =
      omega (
        arith,
        many,
        length-map units node_in,
        ap length all,
        length-append (f content) (flat_map f contents),
      )
