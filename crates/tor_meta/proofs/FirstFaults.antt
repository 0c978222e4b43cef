-- What a maker answers if the order, the paths or the lengths are refused.
use Rattle.std.proofs.Common.{◌≡◌, ◌⊎◌, inl, inr, ◌∙◌, ℕ, List as ListOf, [], Option, None, Some, ap}
use Rattle.std.proofs.Common.{subst, sym}
use Rattle.std.specs.Option.{option_or}
use Rattle.tor_meta.specs.Make.{IsMakeFault, IsOwn, plan_fault}
use Rattle.tor_meta.specs.MakeError.{of_contents_error, of_engine_error, out_of_resources}
use Rattle.tor_meta.specs.declared.make_error.MakeError.{MakeError}
use Rattle.tor_meta.specs.declared.make_error.MakeError.TheVariants as error
use Rattle.tor_meta.specs.declared.order.Order.{Order}
use Rattle.tor_meta.specs.declared.refusals.ContentsError.{ContentsError}
use Rattle.tor_meta.specs.declared.refusals.ContentsError.TheVariants as refusal
use Rattle.tor_source.specs.Source.{SourceFacts}
use Rattle.tor_sums.specs.declared.errors.EngineError.{EngineError}
use Rattle.tor_tree.specs.declared.lists.ListError.TheVariants as fault
use Rattle.tor_meta.proofs.Indexed.{or_first, or_second}

module _ {F : Type 0} (first : Option (MakeError F)) where
  own_first : (e : MakeError F) → first ≡ Some e → IsOwn first e
  own_first error.PieceLength is = is
  own_first error.Workers is = is
  own_first error.Span is = is
  own_first error.Path is = is
  own_first error.SingleShape is = is
  own_first error.NotSorted is = is
  own_first error.ReservedPad is = is
  own_first (error.List fault.NoFiles) is = is
  own_first (error.List fault.Duplicate) is = is
  own_first (error.List fault.FileAndFolder) is = is
  own_first (error.List fault.TooLarge) is = tt
  own_first (error.List fault.Memory) is = is
  own_first (error.Hashing other) is = tt

  -- a refusal that is the first is the maker's own
  pub own_refusal : (e : MakeError F) → (e ≡ out_of_resources) ⊎ (first ≡ Some e) → IsOwn first e
  own_refusal e (inl none) = subst (IsOwn first) (sym none) tt
  own_refusal e (inr is) = own_first e is

  -- so is what the hashing tells
  pub own_hashing : (e : MakeError F) (error : EngineError F) → e ≡ of_engine_error error → IsOwn first e
  own_hashing e error is = subst (IsOwn first) (sym is) tt

  -- and want of memory, or files that are too large together
  pub own_large : {P : Type 0} (e : MakeError F) (refused : ContentsError) → e ≡ of_contents_error refused
      → (refused ≡ refusal.Memory) ⊎ ((refused ≡ refusal.List fault.TooLarge) × P) → IsOwn first e
  own_large e refused is (inl none) = subst (IsOwn first) (sym (is ∙ ap of_contents_error none)) tt
  own_large e refused is (inr large) = subst (IsOwn first) (sym (is ∙ ap of_contents_error large.0)) tt

  -- it is the first of these and of others
  pub refusal_or : (others : Option (MakeError F)) (e : MakeError F) → (e ≡ out_of_resources) ⊎ (first ≡ Some e)
      → (e ≡ out_of_resources) ⊎ (option_or first others ≡ Some e)
  refusal_or others e (inl none) = inl none
  refusal_or others e (inr is) = inr (or_first first others e is)

  -- where nothing is refused, the others tell
  pub others_or : first ≡ None → (others : Option (MakeError F)) (e : MakeError F)
      → (e ≡ out_of_resources) ⊎ (others ≡ Some e) → (e ≡ out_of_resources) ⊎ (option_or first others ≡ Some e)
  others_or accepted others e (inl none) = inl none
  others_or accepted others e (inr is) = inr (or_second first others (Some e) accepted is)

  -- it is the refusal that there is
  pub one_refusal : (e other : MakeError F) → (e ≡ out_of_resources) ⊎ (first ≡ Some e) → first ≡ Some other
      → (e ≡ out_of_resources) ⊎ (e ≡ other)
  one_refusal e other (inl none) is = inl none
  one_refusal e other (inr told) is =
      let same : Some e ≡ Some other = sym told ∙ is in
      inr cc

-- a refusal, and a fault of asking, is the first of all
pub plan_first : {F : Type 0} (facts : SourceFacts F) (order : Order) (paths : ListOf (ListOf (ListOf ℕ)))
    (e : MakeError F) → (e ≡ out_of_resources) ⊎ (plan_fault facts order paths ≡ Some e)
    → (e ≡ out_of_resources) ⊎ IsMakeFault facts order paths (Some e)
plan_first facts order paths e (inl none) = inl none
plan_first facts order paths e (inr is) = inr (record {
  entries = [];
  indexed = λ accepted. let no : None ≡ Some e = sym accepted ∙ is in cc;
  is_first = or_first (plan_fault facts order paths) _ e is;
})
