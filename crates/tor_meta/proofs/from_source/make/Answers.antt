-- the paths are those that were handed in
use Rattle.std.proofs.Common.{◌≡◌, ◌⊎◌, List, ℕ, None, Some, ap, subst, ◌∙◌}
use Rattle.std.proofs.Common.{length}
use Rattle.std.proofs.lemmas.List.{length-map}
use Rattle.std.specs.Prelude.{IfErr, IfOk, MatchResult, OnOk}
use Rattle.tor_meta.specs.Contents.{IsMadeOf, IsMadeOfSome}
use Rattle.tor_meta.specs.Make.{IsGivenTo, IsMadeOfTold, IsMakeFault, IsOwn, files_of_source, make_refusal}
use Rattle.tor_meta.specs.Order.{settings_of_order}
use Rattle.tor_meta.specs.MakeError.{out_of_resources}
use Rattle.tor_tree.specs.FileList.{paths_of}
use Rattle.tor_tree.specs.declared.attr.Attr.{Attr}
use Rattle.tor_meta.proofs.WithoutLetters.{paths_alone}
use Rattle.tor_meta.proofs.from_source.make.Goals as goal

abbrev Files : Type 0
Files = List (List (List ℕ) × Attr)

pub returns-clause-made : goal.returns-clause-made
returns-clause-made g c = λ facts steady.
    subst (λ (files : Files). IfOk c.make_with.result
    (λ bytes. IsMadeOf (settings_of_order c.args.order.now) (files_of_source facts files) bytes.items))
    (c.deref.ensures.value ∙ c.in_ok-files.ensures) (c.make_with.ensures.made facts steady)

pub returns-clause-whole : goal.returns-clause-whole
returns-clause-whole g c =
    subst (λ (files : Files). IfOk c.make_with.result
    (λ bytes. IsMadeOfSome (settings_of_order c.args.order.now) files bytes.items))
    (c.deref.ensures.value ∙ c.in_ok-files.ensures) c.make_with.ensures.whole

pub returns-clause-told : goal.returns-clause-told
returns-clause-told g c =
    subst (λ (files : Files). IfOk c.make_with.result
    (λ bytes. IsMadeOfTold (g.S.Source.answers c.args.source.now) (settings_of_order c.args.order.now) files bytes.items))
    (c.deref.ensures.value ∙ c.in_ok-files.ensures) c.make_with.ensures.told

pub returns-clause-info : goal.returns-clause-info
returns-clause-info g c = c.make_with.ensures.info

pub returns-clause-gave : goal.returns-clause-gave
returns-clause-gave g c =
    subst (λ (n : ℕ). IfErr c.make_with.result (IsGivenTo (g.S.Source.answers c.args.source.now) n))
    (ap length (c.deref.ensures.value ∙ c.in_ok-files.ensures) ∙ length-map c.args.paths.now _)
    c.make_with.ensures.gave

pub returns-clause-fault : goal.returns-clause-fault
returns-clause-fault g c = λ facts steady.
    let order = c.args.order.now in
    let same = ap paths_of (c.deref.ensures.value ∙ c.in_ok-files.ensures) ∙ paths_alone c.args.paths.now in
    subst (λ (paths : List (List (List ℕ))). MatchResult c.make_with.result
    (λ bytes. IsMakeFault {F = g.row.S-Fault.Denot} facts order paths None)
    (λ error. (error ≡ out_of_resources) ⊎ IsMakeFault {F = g.row.S-Fault.Denot} facts order paths (Some error))) same
    (c.make_with.ensures.fault facts steady)

pub returns-clause-accepted : goal.returns-clause-accepted
returns-clause-accepted g c =
    let same = ap paths_of (c.deref.ensures.value ∙ c.in_ok-files.ensures) ∙ paths_alone c.args.paths.now in
    subst (λ (paths : List (List (List ℕ))). OnOk c.make_with.result
    (make_refusal {F = g.row.S-Fault.Denot} c.args.order.now paths ≡ None)) same
    c.make_with.ensures.accepted

pub returns-clause-refused : goal.returns-clause-refused
returns-clause-refused g c = λ refusal is.
    let same = ap paths_of (c.deref.ensures.value ∙ c.in_ok-files.ensures) ∙ paths_alone c.args.paths.now in
    c.make_with.ensures.refused refusal (ap (make_refusal {F = g.row.S-Fault.Denot} c.args.order.now) same ∙ is)

pub returns-clause-only : goal.returns-clause-only
returns-clause-only g c =
    let same = ap paths_of (c.deref.ensures.value ∙ c.in_ok-files.ensures) ∙ paths_alone c.args.paths.now in
    subst (λ (paths : List (List (List ℕ))). IfErr c.make_with.result
    (IsOwn (make_refusal {F = g.row.S-Fault.Denot} c.args.order.now paths))) same
    c.make_with.ensures.only
