use Rattle.tor_check.proofs.Names.{rules, sym, ◌∙◌, inl, inr, ⊎_elim}
use Rattle.tor_check.proofs.PathSteps.{is_path_of_names, names_from, no_path_of_others, some_texts}
use Rattle.tor_check.proofs.listed.path_of.Goals as goal

pub returns-in-Some-clause-read : goal.returns-in-Some-clause-read
returns-in-Some-clause-read c = c.in-Some.ensures.0 ∙ c.in-Ok.ensures.read ∙ sym (names_from c.args.texts.now)

pub returns-in-Some-clause-shaped : goal.returns-in-Some-clause-shaped
returns-in-Some-clause-shaped c =
    is_path_of_names c.args.texts.now c.in-Ok.ensures.shaped
    (λ none. c.in-Some.ensures.1.some (c.in-Some.ensures.0 ∙ c.in-Ok.ensures.read ∙ none))

pub returns-in-Err-clause-refused : goal.returns-in-Err-clause-refused
returns-in-Err-clause-refused c =
    ⊎_elim (λ other. inl (other.0, no_path_of_others c.args.texts.now other.1)) (λ memory. inr memory)
    c.in-Err.ensures.refused

pub returns-in-Err-clause-memory : goal.returns-in-Err-clause-memory
returns-in-Err-clause-memory c = λ _. some_texts c.args.texts.now (search rules)
