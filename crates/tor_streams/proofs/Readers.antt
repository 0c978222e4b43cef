-- Readers that were read one after the other.
use Rattle.std.proofs.Common.{◌≡◌, Bool, ◌<◌, ◌+◌, ℕ, List, [], ◌∷◌, ◌++◌, length, map, get_or, Option, None, Some}
use Rattle.std.proofs.Common.{◌≤◌, arith, refl, take}
use Rattle.std.proofs.Common.{ap, ap₂, sym, ◌∙◌, subst, append-nil, length-append}
use Rattle.std.proofs.Math.Seq.{take-append_seam}
use Rattle.std.proofs.lemmas.List.{get_or-append-add, get_or-map, length-map, map-append}
use Rattle.std.specs.Io.KnownBytes.{Consumes, IsAtEnd}
use Rattle.std.specs.List.{AllByRecursion, AllZip}
use Rattle.tor_tree.specs.declared.kinds.Kind.{Kind}
use Rattle.tor_merkle.specs.declared.TheConstants.{MAX_LENGTH}
use Rattle.tor_streams.specs.Streams.{AreSumsOfContents, AreSumsOfReaders, GiveContents, GivesSome, GivesWhole}
use Rattle.tor_streams.specs.Streams.{ReadsUpTo}
use Rattle.tor_sums.specs.declared.sums.Sums.{Sums}

zip_more : {A B : Type 0} (R : A → B → Type 0) (xs : List A) (ys : List B) (x : A) (y : B) → AllZip R xs ys → R x y
    → AllZip R (xs ++ x ∷ []) (ys ++ y ∷ [])
zip_more R [] [] x y all is = (is, tt)
zip_more R [] (b ∷ ys) x y all is = absurd all
zip_more R (a ∷ xs) [] x y all is = absurd all
zip_more R (a ∷ xs) (b ∷ ys) x y all is = (all.0, zip_more R xs ys x y all.1 is)

module _ {X : Type 0} (known : X → Option (List ℕ)) where
  -- one more was read
  pub contents_more : (readers : List X) (reader : X) (contents : List (List ℕ)) (content : List ℕ)
      → GiveContents (map known readers) contents → GivesWhole (known reader) content
      → GiveContents (map known (readers ++ reader ∷ [])) (contents ++ content ∷ [])
  contents_more readers reader contents content given one =
      subst (λ (ks : List (Option (List ℕ))). GiveContents ks (contents ++ content ∷ []))
      (sym (map-append known readers (reader ∷ [])))
      (zip_more GivesWhole (map known readers) contents (known reader) content given one)

  -- the one that comes after so many
  pub at_number : (front : List X) (reader : X) (rest all : List X) → front ++ reader ∷ rest ≡ all → (n : ℕ)
      → n ≡ length front → (n < length (map known all)) × (get_or (map known all) n None ≡ known reader)
  at_number front reader rest all is n counted =
      let place : get_or (front ++ reader ∷ rest) n reader ≡ reader =
      ap (λ k. get_or (front ++ reader ∷ rest) k reader)
      (counted ∙ (let e : length front ≡ length front + 0 = omega arith in e))
      ∙ get_or-append-add front (reader ∷ rest) 0 reader in
      let within : n < length all = omega (arith, counted, ap length is, length-append front (reader ∷ rest)) in (
        omega (arith, within, length-map all known),
        get_or-map known all n reader None within ∙ ap (λ xs. known (get_or xs n reader)) (sym is) ∙ ap known place,
      )

  -- it gave these bytes, where those before it gave their contents
  pub read_up_to : (front : List X) (reader : X) (rest all : List X) → front ++ reader ∷ rest ≡ all → (n : ℕ)
      → n ≡ length front → (contents : List (List ℕ)) → GiveContents (map known front) contents
      → AllByRecursion (λ content. length content ≤ MAX_LENGTH) contents → (bytes : List ℕ)
      → GivesSome (known reader) bytes → ReadsUpTo (map known all) n bytes
  read_up_to front reader rest all is n counted contents given small bytes came =
      let at = at_number front reader rest all is n counted in record {
        is_there = at.0;
        came = subst (λ (k : Option (List ℕ)). GivesSome k bytes) (sym at.1) came;
        contents = contents;
        before = subst (λ (ks : List (Option (List ℕ))). GiveContents ks contents)
            (sym (ap₂ (λ k xs. take k (map known xs)) counted (sym is)
            ∙ ap (take (length front)) (map-append known front (reader ∷ rest))
            ∙ ap (λ k. take k (map known front ++ map known (reader ∷ rest))) (sym (length-map front known))
            ∙ take-append_seam (map known front) (map known (reader ∷ rest)))) given;
        small = small;
      }

-- readers whose bytes are known give these
pub told_contents : (contents given : List (List ℕ)) → GiveContents (map Some contents) given → given ≡ contents
told_contents [] [] all = refl
told_contents [] (one ∷ given) all = absurd all
told_contents (content ∷ contents) [] all = absurd all
told_contents (content ∷ contents) (one ∷ given) all =
    ap₂ (λ x xs. x ∷ xs) (whole all.0.0 all.0.1 all.0.2) (told_contents contents given all.1)
  where
    whole : (left : Option (List ℕ)) → Consumes (Some content) left one → IsAtEnd left → one ≡ content
    whole None gave end = absurd gave
    whole (Some rest) gave end = sym (gave ∙ ap (λ xs. one ++ xs) end ∙ append-nil one)

-- so what they sum up to is what these do
pub told_sums : (kind : Kind) (tail : Bool) (p : ℕ) (known : List (Option (List ℕ))) (sums : Sums)
    → AreSumsOfReaders kind tail p known sums → (contents : List (List ℕ)) → known ≡ map Some contents
    → AreSumsOfContents kind tail p contents sums
told_sums kind tail p known sums are contents is =
    subst (λ (xs : List (List ℕ)). AreSumsOfContents kind tail p xs sums)
    (told_contents contents are.contents (subst (λ (ks : List (Option (List ℕ))). GiveContents ks are.contents) is
    are.given)) are.sums_up
