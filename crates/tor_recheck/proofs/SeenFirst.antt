-- What a recheck that keeps going sees first is what one that stops answers; and if it sees nothing, both find the same.
use Rattle.tor_recheck.proofs.Names.{◌≡◌, ℕ, ◌<◌, Bool, true, false, ◌&&◌, cond, List, [], ◌∷◌, ◌++◌, length, map, get_or}
use Rattle.tor_recheck.proofs.Names.{Option, None, refl, ap, sym, ◌∙◌, arith, length-map, range_with_len}
use Rattle.tor_recheck.proofs.Names.{PlanUnit, empty_unit, IsCut, pieces_of, held_pieces, verified_pieces, View}
use Rattle.tor_recheck.proofs.Names.{SourceFacts, has_v2, judged, merkle_judged}
use Rattle.std.proofs.Common.{Some, ap₂, option_map, suc, unwrap_or, zero}
use Rattle.std.proofs.lemmas.List.FromFn.{fill_by_all, length-map-range_with_len}
use Rattle.std.specs.List.{flat_map}
use Rattle.std.specs.Option.{option_or}
use Rattle.std.specs.Prelude.{is_none, is_some}
use Rattle.tor_engine.specs.PieceFault.{asked_fault, first_asked_fault, piece_fault, pieces_fault}
use Rattle.tor_engine.specs.PieceHashes.{hash_if_there}
use Rattle.tor_engine.specs.Readable.{error_of_fault, piece_faults, read_faults, seen}
use Rattle.tor_engine.specs.declared.pieces.read_fault.ReadFault.{ReadFault}
use Rattle.tor_plan.specs.Present.{is_there}
use Rattle.tor_recheck.specs.Readable.{contents_seen, faults_seen, is_readable, readable_held, readable_pieces}
use Rattle.tor_recheck.specs.Readable.{those_readable}
use Rattle.tor_recheck.specs.Recheck.{first_fault, of_engine_error}
use Rattle.tor_recheck.specs.steps.Hashes.{cut_plan, hashes_in}
use Rattle.tor_recheck.proofs.HeldPieces.{judged_is_held}
use Rattle.tor_recheck.proofs.Rechecked.{pieces_are}
use Rattle.tor_sums.proofs.FirstOf.{first_append, neither}
use Rattle.tor_sums.specs.Contents.{contents_in}
use Rattle.tor_sums.specs.Fault.{byte_fault, first_of, part_fault, unit_fault}
use Rattle.tor_sums.specs.declared.errors.EngineError.{EngineError}
use Rattle.tor_sums.specs.declared.errors.EngineError.TheVariants.{Read}
use Rattle.tor_view.proofs.ProvedLaws.{pieces_are_counted}

or_mapped : {A B : Type 0} (f : A → B) (a b : Option A)
    → option_map f (option_or a b) ≡ option_or (option_map f a) (option_map f b)
or_mapped f None b = refl
or_mapped f (Some x) b = refl

mapped_twice : {A B C : Type 0} (f : B → C) (g : A → B) (a : Option A)
    → option_map f (option_map g a) ≡ option_map (λ x. f (g x)) a
mapped_twice f g None = refl
mapped_twice f g (Some x) = refl

or_same : {B : Type 0} (a b c : Option B) → (a ≡ None → b ≡ c) → option_or a b ≡ option_or a c
or_same None b c same = same refl
or_same (Some x) b c same = refl

-- the first fault that was seen, as the error that it is
abbrev first_seen : {F : Type 0} → List (ReadFault F) → Option (EngineError F)
first_seen faults = option_map error_of_fault (first_of Some faults)

seen_append : {F : Type 0} (xs ys : List (ReadFault F))
    → first_seen (xs ++ ys) ≡ option_or (first_seen xs) (first_seen ys)
seen_append xs ys =
    ap (option_map error_of_fault) (first_append Some xs ys)
    ∙ or_mapped error_of_fault (first_of Some xs) (first_of Some ys)

seen_each : {A F : Type 0} (f : A → List (ReadFault F)) (g : A → Option (EngineError F))
    → ((x : A) → first_seen (f x) ≡ g x) → (xs : List A) → first_seen (flat_map f xs) ≡ first_of g xs
unfolding first_of
seen_each f g same [] = refl
seen_each f g same (x ∷ xs) = seen_append (f x) (flat_map f xs) ∙ ap₂ option_or (same x) (seen_each f g same xs)

none_each : {A B : Type 0} (found : A → Option B) (xs : List A) → first_of found xs ≡ None → (i : ℕ) (d : A)
    → i < length xs → found (get_or xs i d) ≡ None
unfolding first_of
none_each found [] none i d less = absurd (omega (arith, less))
none_each found (x ∷ xs) none zero d less = (neither (found x) (first_of found xs) none).0
none_each found (x ∷ xs) none (suc i) d less =
    none_each found xs (neither (found x) (first_of found xs) none).1 i d (omega (arith, less))

module _ {F : Type 0} (facts : SourceFacts F) where
  asked_seen : (file : ℕ) → first_seen (read_faults (asked_fault facts file)) ≡ asked_fault facts file
  unfolding first_of
  asked_seen file = by_fault (facts.length_fault file)
    where
      by_fault : (fault : Option F)
          → first_seen (read_faults (option_map (λ (fault : F). Read file None fault) fault))
          ≡ option_map (λ (fault : F). Read file None fault) fault
      by_fault None = refl
      by_fault (Some fault) = refl

  bytes_seen : (file : ℕ) (offsets : List ℕ)
      → first_seen (read_faults (first_of (byte_fault facts file) offsets)) ≡ first_of (byte_fault facts file) offsets
  unfolding first_of
  bytes_seen file [] = refl
  bytes_seen file (offset ∷ offsets) =
      by_fault (facts.byte_fault file offset) (first_of (byte_fault facts file) offsets) (bytes_seen file offsets)
    where
      by_fault : (fault : Option F) (rest : Option (EngineError F)) → first_seen (read_faults rest) ≡ rest
          → first_seen (read_faults (option_or (option_map (λ (fault : F). Read file (Some offset) fault) fault) rest))
          ≡ option_or (option_map (λ (fault : F). Read file (Some offset) fault) fault) rest
      by_fault None rest same = same
      by_fault (Some fault) rest same = refl

  piece_seen : (contents : List (List ℕ)) (piece : PlanUnit)
      → first_seen (piece_faults facts contents piece) ≡ piece_fault facts contents piece
  unfolding first_of
  piece_seen contents piece = by_there (is_there contents piece)
    where
      by_there : (b : Bool)
          → first_seen (cond b (flat_map (λ part. read_faults (part_fault facts part)) piece.parts) [])
          ≡ cond b (unit_fault facts piece) None
      by_there true =
          seen_each (λ part. read_faults (part_fault facts part)) (part_fault facts)
          (λ part. bytes_seen part.file (range_with_len part.start part.length)) piece.parts
      by_there false = refl

  -- if no length fails, what is seen is what is there
  same_contents : (files : List ℕ) → first_of (asked_fault facts) files ≡ None
      → map (λ file. unwrap_or ((seen facts).contents file) []) files
      ≡ map (λ file. unwrap_or (facts.contents file) []) files
  unfolding first_of
  same_contents [] none = refl
  same_contents (file ∷ files) none =
      let both = neither (asked_fault facts file) (first_of (asked_fault facts) files) none in
      ap₂ (λ (c : List ℕ) (cs : List (List ℕ)). c ∷ cs) (by_fault file (facts.length_fault file) both.0)
      (same_contents files both.1)
    where
      by_fault : (file : ℕ) (fault : Option F) → option_map (λ (fault : F). Read file None fault) fault ≡ None
          → unwrap_or (cond (is_some fault) None (facts.contents file)) [] ≡ unwrap_or (facts.contents file) []
      by_fault file None none = refl
      by_fault file (Some fault) none = cc

  module _ (view : View) where
    all_seen : first_seen (faults_seen facts view)
        ≡ option_or (first_asked_fault facts (length view.files))
        (pieces_fault facts (contents_seen facts view) (pieces_of view))
    all_seen =
        seen_append (flat_map (λ file. read_faults (asked_fault facts file)) (range_with_len 0 (length view.files)))
        (flat_map (piece_faults facts (contents_seen facts view)) (pieces_of view))
        ∙ ap₂ option_or
        (seen_each (λ file. read_faults (asked_fault facts file)) (asked_fault facts) asked_seen
        (range_with_len 0 (length view.files)))
        (seen_each (piece_faults facts (contents_seen facts view)) (piece_fault facts (contents_seen facts view))
        (piece_seen (contents_seen facts view)) (pieces_of view))

    pub first_is_seen : first_fault facts view
        ≡ option_map (λ fault. of_engine_error (error_of_fault fault)) (first_of Some (faults_seen facts view))
    first_is_seen =
        ap (option_map of_engine_error)
        (or_same (first_asked_fault facts (length view.files))
        (pieces_fault facts (contents_in facts (length view.files)) (pieces_of view))
        (pieces_fault facts (contents_seen facts view) (pieces_of view))
        (λ none. ap (λ cs. pieces_fault facts cs (pieces_of view))
        (sym (same_contents (range_with_len 0 (length view.files)) none)))
        ∙ sym all_seen)
        ∙ mapped_twice of_engine_error error_of_fault (first_of Some (faults_seen facts view))

    module _ (cut : IsCut view) (clean : faults_seen facts view ≡ []) where
      neither_seen : option_or (first_asked_fault facts (length view.files))
          (pieces_fault facts (contents_seen facts view) (pieces_of view)) ≡ None
      unfolding first_of
      neither_seen = sym all_seen ∙ ap first_seen clean

      contents_same : contents_seen facts view ≡ contents_in facts (length view.files)
      contents_same =
          same_contents (range_with_len 0 (length view.files))
          (neither (first_asked_fault facts (length view.files)) _ neither_seen).0

      all_readable : (i : ℕ) → i < view.piece_count → is_readable facts view i ≡ true
      all_readable i less =
          ap is_none (none_each (piece_fault facts (contents_seen facts view)) (pieces_of view)
          (neither (first_asked_fault facts (length view.files)) _ neither_seen).1 i empty_unit
          (omega (arith, less, pieces_are_counted view cut)))

      and_all : (b c : Bool) → c ≡ true → b ≡ (b && c)
      and_all true c is = sym is
      and_all false c is = refl

      kept : (bits : List Bool) → length bits ≡ view.piece_count → those_readable facts view bits ≡ bits
      kept bits many =
          sym (fill_by_all (λ i. get_or bits i false && is_readable facts view i) bits view.piece_count false many
          (λ i less. and_all (get_or bits i false) (is_readable facts view i) (all_readable i less)))

      pub right_are_readable : readable_pieces facts view ≡ verified_pieces view (contents_in facts (length view.files))
      right_are_readable =
          kept (verified_pieces view (contents_seen facts view)) (length-map-range_with_len _ 0 view.piece_count)
          ∙ ap (verified_pieces view) contents_same

      either_length : (b : Bool) (f g : ℕ → Bool) (n : ℕ)
          → length (cond b (map f (range_with_len 0 n)) (map g (range_with_len 0 n))) ≡ n
      either_length true f g n = length-map-range_with_len f 0 n
      either_length false f g n = length-map-range_with_len g 0 n

      held_count : (contents : List (List ℕ)) → length (held_pieces view contents) ≡ view.piece_count
      held_count contents =
          let hashes = hashes_in view contents in
          ap length (sym (judged_is_held view contents cut hashes refl))
          ∙ either_length (has_v2 view.kind) (merkle_judged view hashes) (judged view hashes) (length hashes)
          ∙ length-map _ (hash_if_there (cut_plan view) contents) ∙ ap length (pieces_are view contents cut)
          ∙ pieces_are_counted view cut

      pub held_are_readable : readable_held facts view ≡ held_pieces view (contents_in facts (length view.files))
      held_are_readable =
          kept (held_pieces view (contents_seen facts view)) (held_count (contents_seen facts view))
          ∙ ap (held_pieces view) contents_same
