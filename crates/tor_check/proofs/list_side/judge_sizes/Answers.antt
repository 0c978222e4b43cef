use Rattle.tor_check.proofs.Names.{true, false, refl, sym, ◌∙◌, inl, inr, ⊎_elim, rules, view}
use Rattle.tor_check.proofs.ListDecides.{after_sizes, at_long, at_refusal, at_total, no_list_fault}
use Rattle.tor_check.proofs.SideLemmas.{tells_long, tells_negative, tells_size}
use Rattle.tor_check.proofs.list_side.judge_sizes.Goals as goal

pub returns-then-has_negative-clause-refused : goal.returns-then-has_negative-clause-refused
returns-then-has_negative-clause-refused c =
    let info = view c.args.info.now in
    let negative = tells_negative info c.args.files.now true c.requires.read c.if-has_negative.ensures in
    inr (rw (c.requires.shaped, negative) refl)

pub returns-in-Err-clause-refused : goal.returns-in-Err-clause-refused
returns-in-Err-clause-refused c =
    let info = view c.args.info.now in
    let files = c.args.files.now in
    let positive = tells_negative info files false c.requires.read c.if-has_negative.ensures in
    ⊎_elim (λ memory. inl memory)
    (λ e. inr (at_refusal info files c.in-Err.refusal c.requires.read c.requires.shaped positive e))
    c.in-Err.ensures.refused

pub returns-then-has_long-clause-refused : goal.returns-then-has_long-clause-refused
returns-then-has_long-clause-refused c =
    let info = view c.args.info.now in
    let files = c.args.files.now in
    let positive = tells_negative info files false c.requires.read c.if-has_negative.ensures in
    let none = no_list_fault info files c.requires.read (search rules) in
    let long = tells_long info files true c.requires.read c.if-has_long.ensures in
    inr (at_long info c.requires.shaped positive none long)

pub returns-in-None-clause-refused : goal.returns-in-None-clause-refused
returns-in-None-clause-refused c =
    let info = view c.args.info.now in
    let files = c.args.files.now in
    let positive = tells_negative info files false c.requires.read c.if-has_negative.ensures in
    let none = no_list_fault info files c.requires.read (search rules) in
    let long = tells_long info files false c.requires.read c.if-has_long.ensures in
    inr (at_total info c.requires.shaped positive none long
    (rw (sym (tells_size info files c.requires.read)) c.in-None.ensures))

pub returns-in-Some-clause-size : goal.returns-in-Some-clause-size
returns-in-Some-clause-size c = c.in-Some.ensures.1 ∙ tells_size (view c.args.info.now) c.args.files.now c.requires.read

pub returns-in-Some-clause-first : goal.returns-in-Some-clause-first
returns-in-Some-clause-first c =
    let info = view c.args.info.now in
    let files = c.args.files.now in
    let positive = tells_negative info files false c.requires.read c.if-has_negative.ensures in
    let none = no_list_fault info files c.requires.read (search rules) in
    let long = tells_long info files false c.requires.read c.if-has_long.ensures in
    after_sizes info c.requires.shaped positive none long
    (rw (sym (tells_size info files c.requires.read)) c.in-Some.ensures.0)

pub returns-in-Err-clause-memory : goal.returns-in-Err-clause-memory
returns-in-Err-clause-memory c =
    λ _. tells_negative (view c.args.info.now) c.args.files.now false c.requires.read c.if-has_negative.ensures
