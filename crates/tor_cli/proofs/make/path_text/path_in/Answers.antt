-- The parts of the text are those between its slashes.
use Rattle.std.proofs.Common.{◌≡◌, ◌⊎◌, ◌++◌, ◌∷◌, [], List, ℕ, Some, sym, ◌∙◌, ap, append_assoc, inl, inr}
use Rattle.std.proofs.lemmas.Result.{err_from_is_err_and}
use Rattle.tor_tree.specs.Name.{name_fault}
use Rattle.tor_tree.specs.declared.names.NameError.{NameError}
use Rattle.tor_tree.specs.declared.names.NameError.TheVariants.{Memory}
use Rattle.tor_cli.specs.make.PathsText.{names_fault, names_in}
use Rattle.tor_cli.proofs.AttrsLines.{last_part, next_part}
use Rattle.tor_cli.proofs.PathsTexts.{fault_at, fault_behind}
use Rattle.tor_cli.proofs.make.path_text.path_in.Goals as goal

-- the fault of a part is that of the text, if no part before has one
first : (text rest part : List ℕ) (parts : List (List ℕ)) (fault : NameError)
    → names_fault (names_in text) ≡ names_fault (names_in rest) → names_in rest ≡ part ∷ parts
    → (name_fault part ≡ Some fault) ⊎ (fault ≡ Memory)
    → (names_fault (names_in text) ≡ Some fault) ⊎ (fault ≡ Memory)
first text rest part parts fault same cut (inl is) =
    inl (same ∙ ap names_fault cut ∙ fault_at part parts fault is)
first text rest part parts fault same cut (inr memory) = inr memory

pub returns-in_err-push_name-clause-refused : goal.returns-in_err-push_name-clause-refused
returns-in_err-push_name-clause-refused c =
    let (cut, none) = c.in-Some.ensures.written in
    let p = err_from_is_err_and c.from_residual.result c.from_residual.ensures.1 in
    rw (p.1, p.2) (first c.args.text.now c.names.rest.now c.in-Some.part.now (names_in c.in-Some.more.now) _
    c.names.invariant.faultless (next_part c.names.rest.now c.in-Some.part.now c.in-Some.more.now cut none)
    c.in_err-push_name.ensures.refused)

pub names-preserved : goal.names-preserved
names-preserved c =
    let (cut, none) = c.in-Some.ensures.written in
    let parts = next_part c.names.rest.now c.in-Some.part.now c.in-Some.more.now cut none in
    record {
      parts =
          c.names.invariant.parts ∙ ap (λ (ps : List (List ℕ)). c.names.names.items ++ ps) parts
          ∙ sym (append_assoc c.names.names.items (c.in-Some.part.now ∷ []) (names_in c.in-Some.more.now))
          ∙ ap (λ (ps : List (List ℕ)). ps ++ names_in c.in-Some.more.now) (sym c.in_ok-push_name.ensures.pushed);
      faultless =
          c.names.invariant.faultless ∙ ap names_fault parts
          ∙ fault_behind c.in-Some.part.now (names_in c.in-Some.more.now) c.in_ok-push_name.ensures.accepted;
    }

pub returns-in_err-push_name-2-clause-refused : goal.returns-in_err-push_name-2-clause-refused
returns-in_err-push_name-2-clause-refused c =
    let p = err_from_is_err_and c.from_residual-in_err-push_name-2.result
    c.from_residual-in_err-push_name-2.ensures.1 in
    rw (p.1, p.2) (first c.args.text.now c.names.rest.now c.names.rest.now [] _ c.names.invariant.faultless
    (last_part c.names.rest.now c.in_default.ensures.none) c.in_err-push_name-2.ensures.refused)

pub returns-clause-path : goal.returns-clause-path
returns-clause-path c =
    let whole : names_in c.args.text.now ≡ c.push_name-2.new.names.items =
    c.names.invariant.parts
    ∙ ap (λ (ps : List (List ℕ)). c.names.names.items ++ ps) (last_part c.names.rest.now c.in_default.ensures.none)
    ∙ sym c.in_ok-push_name-2.ensures.pushed in
    (c.in-Some-new.ensures.0 ∙ sym whole, c.in-Some-new.ensures.1)
