-- What is known where an order and its paths are not refused, and what their refusals are not.
use Rattle.std.proofs.Common.{◌≡◌, ◌⊎◌, inl, inr, ℕ, Bool, true, false, ◌&&◌, not, cond, List, nat_le, option_map}
use Rattle.std.proofs.Common.{◌==◌, ◌*◌, ◌≤◌, ◌∷◌, [], Option, None, Some, length, refl, sym, subst}
use Rattle.std.specs.List.{list_any}
use Rattle.std.specs.Int.{is_power_of_two}
use Rattle.std.specs.Option.{option_or}
use Rattle.std.proofs.lemmas.Bool.{and_parts, leb-true}
use Rattle.tor_sums.specs.How.{IsHow, is_how}
use Rattle.tor_sums.specs.declared.how.How.{How}
use Rattle.tor_sums.specs.declared.how.How.TheVariants.{One, Halves, Board}
use Rattle.tor_sums.specs.declared.how.TheConstants.{MAX_WORKERS}
use Rattle.tor_streams.specs.declared.streams.TheConstants.{MAX_UNIT_LENGTH}
use Rattle.tor_merkle.specs.Layer.{is_piece_length}
use Rattle.tor_meta.specs.Head.{settings_of}
use Rattle.tor_source.specs.Answers.{Answers}
use Rattle.tor_meta.specs.Make.{IsGivenTo, make_refusal, numbers_refusal}
use Rattle.tor_meta.specs.MakeError.{of_contents_error, out_of_resources}
use Rattle.tor_meta.specs.Order.{is_span, settings_of_order}
use Rattle.tor_meta.specs.MakeStreams.{IsGivenByReaders, are_rising, stream_numbers_refusal, stream_refusal}
use Rattle.tor_meta.specs.Refusal.{is_long, is_only, ordered_refusal, paths_refusal, shape_refusal}
use Rattle.tor_meta.specs.declared.head.Head.{Head}
use Rattle.tor_meta.specs.declared.make_error.MakeError.{MakeError}
use Rattle.tor_meta.specs.declared.make_error.MakeError.TheVariants.{NotSorted, PieceLength, Span, Workers}
use Rattle.tor_meta.specs.declared.order.Order.{Order}
use Rattle.tor_meta.specs.declared.refusals.ContentsError.{ContentsError}
use Rattle.tor_meta.specs.declared.refusals.ContentsError.TheVariants as refusal
use Rattle.tor_plan.specs.PlanFacts.{IsSpan}
use Rattle.tor_spec.specs.Settings.{Settings, is_aligned}
use Rattle.tor_tree.specs.FileList.{paths_fault, paths_nest, paths_repeat}
use Rattle.tor_tree.specs.declared.lists.ListError.{ListError}
use Rattle.tor_tree.specs.declared.lists.ListError.TheVariants as fault
use Rattle.tor_v1.specs.Reserved.{is_reserved}
use Rattle.tor_meta.proofs.Judged.{allowed, both_none, cleared}
use Rattle.tor_meta.proofs.SourceSums.{mapped_none}

-- what is known where no number is refused
pub numbers_of : {F : Type 0} (order : Order) → numbers_refusal {F = F} order ≡ None
    → (is_piece_length order.piece_length ≡ true) × (is_how order.how ≡ true) × IsSpan order.span
numbers_of {F} order numbers =
    let first = cleared {E = MakeError F} (not (is_piece_length order.piece_length)) PieceLength _ numbers in
    let second = cleared {E = MakeError F} (not (is_how order.how)) Workers _ first.1 in
    let third = cleared {E = MakeError F} (not (is_span order.span)) Span None second.1 in
    let span = and_parts (is_power_of_two order.span) (nat_le 1 order.span && nat_le order.span 1024)
    (allowed (is_span order.span) third.0) in
    let bounds = and_parts (nat_le 1 order.span) (nat_le order.span 1024) span.1 in (
      allowed (is_piece_length order.piece_length) first.0,
      allowed (is_how order.how) second.0,
      (span.0, leb-true 1 order.span bounds.0, leb-true order.span 1024 bounds.1),
    )

pub span_of : {F : Type 0} (order : Order) (paths : List (List (List ℕ))) → make_refusal {F = F} order paths ≡ None →
    IsSpan order.span
span_of {F} order paths accepted =
    (numbers_of {F = F} order (both_none (numbers_refusal {F = F} order) _ accepted).0).2

pub paths_of : {F : Type 0} (order : Order) (head : Head) (paths : List (List (List ℕ))) →
    make_refusal {F = F} order paths ≡ None →
    settings_of head ≡ settings_of_order order → paths_refusal (settings_of head) paths ≡ None
paths_of {F} order head paths accepted same =
    subst (λ settings. paths_refusal settings paths ≡ None) (sym same)
    (mapped_none (of_contents_error {F = F}) (paths_refusal (settings_of_order order) paths)
    (both_none (numbers_refusal {F = F} order) _ accepted).1)

module _ {X : Type 0} (P : X → Type 0) where
  of_test : (b : Bool) (x e : X) (rest : Option X) → P x → (rest ≡ Some e → P e) → cond b (Some x) rest ≡ Some e → P e
  of_test true x e rest here later is = let same : x ≡ e = cc in subst P same here
  of_test false x e rest here later is = later is

  of_either : (a b : Option X) (e : X) → (a ≡ Some e → P e) → (b ≡ Some e → P e) → option_or a b ≡ Some e → P e
  of_either None b e one other is = other is
  of_either (Some x) b e one other is = one is

  of_mapped : {Y : Type 0} (f : Y → X) (a : Option Y) (e : X) → ((y : Y) → a ≡ Some y → P (f y))
      → option_map f a ≡ Some e → P e
  of_mapped f None e each is = cc
  of_mapped f (Some y) e each is = let same : f y ≡ e = cc in subst P same (each y refl)

-- it is not for lengths
abbrev NotOfLengths : ContentsError → Type 0
NotOfLengths (refusal.List fault.TooLarge) = ⊥
NotOfLengths other = Unit {0}

path_fault : (paths : List (List (List ℕ))) (e : ListError) → paths_fault paths ≡ Some e
    → NotOfLengths (refusal.List e)
path_fault paths e =
    let P : ListError → Type 0 = λ e. NotOfLengths (refusal.List e) in
    of_test P (length paths == 0) fault.NoFiles e _ tt
    (of_test P (paths_repeat paths) fault.Duplicate e _ tt
    (of_test P (paths_nest paths) fault.FileAndFolder e None tt (λ no. cc)))

-- a refusal of paths is not for their lengths
module _ (settings : Settings) (paths : List (List (List ℕ))) (e : ContentsError) where
  shape_not_of_lengths : shape_refusal settings paths ≡ Some e → NotOfLengths e
  shape_not_of_lengths =
      of_test NotOfLengths (not (is_piece_length settings.piece_length)) refusal.PieceLength e _ tt
      (of_test NotOfLengths (list_any is_long paths) refusal.Path e _ tt
      (of_test NotOfLengths (settings.single && not (is_only settings.name paths)) refusal.SingleShape e None tt
      (λ no. cc)))

  ordered_not_of_lengths : ordered_refusal settings paths ≡ Some e → NotOfLengths e
  ordered_not_of_lengths =
      of_either NotOfLengths (option_map refusal.List (paths_fault paths)) _ e
      (of_mapped NotOfLengths refusal.List (paths_fault paths) e (path_fault paths))
      (of_test NotOfLengths (is_aligned settings.kind settings.single && list_any is_reserved paths)
      refusal.ReservedPad e None tt (λ no. cc))

  not_of_lengths : paths_refusal settings paths ≡ Some e → NotOfLengths e
  not_of_lengths =
      of_either NotOfLengths (shape_refusal settings paths) _ e shape_not_of_lengths ordered_not_of_lengths

module _ {F : Type 0} (answers : Answers F) (count : ℕ) where
  of_contents : (e : ContentsError) → NotOfLengths e → IsGivenTo answers count (of_contents_error e)
  of_contents refusal.PieceLength not_lengths = tt
  of_contents refusal.Path not_lengths = tt
  of_contents refusal.SingleShape not_lengths = tt
  of_contents (refusal.List fault.NoFiles) not_lengths = tt
  of_contents (refusal.List fault.Duplicate) not_lengths = tt
  of_contents (refusal.List fault.FileAndFolder) not_lengths = tt
  of_contents (refusal.List fault.TooLarge) not_lengths = absurd not_lengths
  of_contents (refusal.List fault.Memory) not_lengths = tt
  of_contents refusal.ReservedPad not_lengths = tt
  of_contents refusal.Memory not_lengths = tt

  -- no refusal is a fault of the source
  pub not_of_source : (order : Order) (paths : List (List (List ℕ))) (e : MakeError F)
      → make_refusal order paths ≡ Some e → IsGivenTo answers count e
  not_of_source order paths e is =
      let P : MakeError F → Type 0 = λ e. IsGivenTo answers count e in
      of_either P (numbers_refusal order)
      (option_map of_contents_error (paths_refusal (settings_of_order order) paths)) e
      (of_test P (not (is_piece_length order.piece_length)) PieceLength e _ tt
      (of_test P (not (is_how order.how)) Workers e _ tt
      (of_test P (not (is_span order.span)) Span e None tt (λ no. cc))))
      (of_mapped P of_contents_error (paths_refusal (settings_of_order order) paths) e
      (λ refused named. of_contents refused (not_of_lengths (settings_of_order order) paths refused named))) is

  pub given_or_not : (order : Order) (paths : List (List (List ℕ))) (e : MakeError F)
      → (e ≡ out_of_resources) ⊎ (make_refusal order paths ≡ Some e) → IsGivenTo answers count e
  given_or_not order paths e (inl none) = subst (λ e. IsGivenTo answers count e) (sym none) tt
  given_or_not order paths e (inr is) = not_of_source order paths e is

-- of readers: the same for their refusals
module _ (F : Type 0) (known : List (Option (List ℕ))) where
  of_contents_read : (e : ContentsError) → NotOfLengths e → IsGivenByReaders {F = F} known (of_contents_error e)
  of_contents_read refusal.PieceLength not_lengths = tt
  of_contents_read refusal.Path not_lengths = tt
  of_contents_read refusal.SingleShape not_lengths = tt
  of_contents_read (refusal.List fault.NoFiles) not_lengths = tt
  of_contents_read (refusal.List fault.Duplicate) not_lengths = tt
  of_contents_read (refusal.List fault.FileAndFolder) not_lengths = tt
  of_contents_read (refusal.List fault.TooLarge) not_lengths = absurd not_lengths
  of_contents_read (refusal.List fault.Memory) not_lengths = tt
  of_contents_read refusal.ReservedPad not_lengths = tt
  of_contents_read refusal.Memory not_lengths = tt

  abbrev span_fault : MakeError F
  span_fault = Span

  not_of_readers : (order : Order) (paths : List (List (List ℕ))) (e : MakeError F)
      → stream_refusal {F = F} order paths ≡ Some e → IsGivenByReaders known e
  not_of_readers order paths e =
      let P : MakeError F → Type 0 = λ e. IsGivenByReaders known e in
      let settings = settings_of_order order in
      of_either P (stream_numbers_refusal order) _ e
      (of_either P (numbers_refusal order) _ e
      (of_test P (not (is_piece_length order.piece_length)) PieceLength e _ tt
      (of_test P (not (is_how order.how)) Workers e _ tt
      (of_test P (not (is_span order.span)) Span e None tt (λ no. cc))))
      (of_absent (nat_le (order.span * order.piece_length) MAX_UNIT_LENGTH)))
      (of_either P (option_map of_contents_error (shape_refusal settings paths)) _ e
      (of_mapped P of_contents_error (shape_refusal settings paths) e
      (λ refused named. of_contents_read refused (shape_not_of_lengths settings paths refused named)))
      (of_test P (not (are_rising paths)) NotSorted e _ tt
      (of_mapped P of_contents_error (ordered_refusal settings paths) e
      (λ refused named. of_contents_read refused (ordered_not_of_lengths settings paths refused named)))))
    where
      of_absent : (b : Bool) → cond b None (Some span_fault) ≡ Some e → IsGivenByReaders known e
      of_absent true is = cc
      of_absent false is = let same : span_fault ≡ e = cc in subst (λ e. IsGivenByReaders known e) same tt

  pub given_by_readers_or_not : (order : Order) (paths : List (List (List ℕ))) (e : MakeError F)
      → (e ≡ out_of_resources) ⊎ (stream_refusal order paths ≡ Some e) → IsGivenByReaders known e
  given_by_readers_or_not order paths e (inl none) = subst (λ e. IsGivenByReaders known e) (sym none) tt
  given_by_readers_or_not order paths e (inr is) = not_of_readers order paths e is

how_allowed : (how : How) → is_how how ≡ true → IsHow how
how_allowed One h = tt
how_allowed (Halves workers) h =
    let parts = and_parts (nat_le 1 workers) (nat_le workers MAX_WORKERS) h in
    (leb-true 1 workers parts.0, leb-true workers MAX_WORKERS parts.1)
how_allowed (Board workers) h =
    let parts = and_parts (nat_le 1 workers) (nat_le workers MAX_WORKERS) h in
    (leb-true 1 workers parts.0, leb-true workers MAX_WORKERS parts.1)

pub order_numbers : {F : Type 0} (order : Order) (paths : List (List (List ℕ)))
    → make_refusal {F = F} order paths ≡ None
    → (is_piece_length order.piece_length ≡ true) × IsHow order.how × IsSpan order.span
order_numbers {F} order paths accepted =
    let numbers = numbers_of {F = F} order (both_none (numbers_refusal {F = F} order) _ accepted).0 in
    (numbers.0, how_allowed order.how numbers.1, numbers.2)

-- what is known where no number is refused of a torrent of readers
module _ {F : Type 0} (order : Order) (accepted : stream_numbers_refusal {F = F} order ≡ None) where
  abbrev too_large : MakeError F
  too_large = Span

  pub stream_numbers : (is_piece_length order.piece_length ≡ true) × IsHow order.how × IsSpan order.span
      × (order.span * order.piece_length ≤ MAX_UNIT_LENGTH)
  stream_numbers =
      let both = both_none (numbers_refusal {F = F} order) _ accepted in
      let numbers = numbers_of {F = F} order both.0 in (
        numbers.0,
        how_allowed order.how numbers.1,
        numbers.2,
        leb-true (order.span * order.piece_length) MAX_UNIT_LENGTH
            (small (nat_le (order.span * order.piece_length) MAX_UNIT_LENGTH) both.1),
      )
    where
      small : (b : Bool) → cond b None (Some too_large) ≡ None → b ≡ true
      small true h = refl
      small false h = cc

-- and where no torrent of readers is refused
module _ {F : Type 0} (order : Order) (paths : List (List (List ℕ)))
    (accepted : stream_refusal {F = F} order paths ≡ None) where
  pub accepted_numbers : stream_numbers_refusal {F = F} order ≡ None
  accepted_numbers = (both_none (stream_numbers_refusal {F = F} order) _ accepted).0

  abbrev unsorted : MakeError F
  unsorted = NotSorted

  after_numbers : (option_map (of_contents_error {F = F}) (shape_refusal (settings_of_order order) paths) ≡ None)
      × (cond (not (are_rising paths)) (Some unsorted)
      (option_map of_contents_error (ordered_refusal (settings_of_order order) paths)) ≡ None)
  after_numbers = both_none _ _ (both_none (stream_numbers_refusal {F = F} order) _ accepted).1

  pub stream_rising : are_rising paths ≡ true
  stream_rising = allowed (are_rising paths) (cleared {E = MakeError F} _ NotSorted _ after_numbers.1).0

  pub stream_paths : paths_refusal (settings_of_order order) paths ≡ None
  stream_paths =
      let settings = settings_of_order order in
      let shape = mapped_none (of_contents_error {F = F}) (shape_refusal settings paths) after_numbers.0 in
      let ordered = mapped_none (of_contents_error {F = F}) (ordered_refusal settings paths)
      (cleared {E = MakeError F} _ NotSorted _ after_numbers.1).1 in
      rw shape ordered

-- one content that is read as a stream is refused for a number of the stream's, or as one that is not
either_mapped : {X Y : Type 0} (f : Y → X) (a b : Option Y)
    → option_map f (option_or a b) ≡ option_or (option_map f a) (option_map f b)
either_mapped f None b = refl
either_mapped f (Some y) b = refl

pub refusal_of_stream : {F : Type 0} (order : Order) → stream_numbers_refusal {F = F} order ≡ None
    → stream_refusal {F = F} order ((order.name ∷ []) ∷ []) ≡ make_refusal order ((order.name ∷ []) ∷ [])
refusal_of_stream {F} order none =
    let one : List (List (List ℕ)) = (order.name ∷ []) ∷ [] in
    let settings = settings_of_order order in
    let numbers = (both_none (numbers_refusal {F = F} order) _ none).0 in
    rw (none, numbers) (sym (either_mapped (of_contents_error {F = F}) (shape_refusal settings one)
    (ordered_refusal settings one)))

pub refused_for_numbers : {F : Type 0} (order : Order) (paths : List (List (List ℕ))) (refusal : MakeError F)
    → stream_numbers_refusal order ≡ Some refusal → stream_refusal order paths ≡ Some refusal
refused_for_numbers order paths refusal is = rw is refl
