-- the paths are those that were handed in
use Rattle.std.proofs.Common.{◌≡◌, ℕ, List, None, ap, map, subst, ◌∙◌, arith}
use Rattle.std.proofs.lemmas.Grind.{common_steps}
use Rattle.std.specs.Prelude.{IfErr, IfOk, OnOk}
use Rattle.std.specs.declared.io.Error.{Error}
use Rattle.tor_meta.specs.Contents.{IsMadeOfSome, files_with}
use Rattle.tor_meta.specs.Make.{IsOwn}
use Rattle.tor_meta.specs.MakeStreams.{IsMadeOfReaders, stream_refusal}
use Rattle.tor_meta.specs.Order.{settings_of_order}
use Rattle.tor_spec.specs.Metainfo.{metainfo}
use Rattle.tor_tree.specs.FileList.{paths_of}
use Rattle.tor_tree.specs.declared.attr.Attr.{Attr}
use Rattle.tor_meta.proofs.WithoutLetters.{paths_alone}
use Rattle.tor_meta.proofs.from_streams.make_streams.Goals as goal

abbrev Files : Type 0
Files = List (List (List ℕ) × Attr)

pub returns-clause-made : goal.returns-clause-made
returns-clause-made g c = λ contents known.
    subst (λ (files : Files). IfOk c.make_streams_with.result
    (λ bytes. bytes.items ≡ metainfo (settings_of_order c.args.order.now) (files_with files contents)))
    (c.deref.ensures.value ∙ c.in_ok-files.ensures) (c.make_streams_with.ensures.made contents known)

pub returns-clause-whole : goal.returns-clause-whole
returns-clause-whole g c =
    subst (λ (files : Files). IfOk c.make_streams_with.result (λ bytes. IsMadeOfReaders
    (settings_of_order c.args.order.now) files (map g.R.Read.remaining c.args.readers.items) bytes.items))
    (c.deref.ensures.value ∙ c.in_ok-files.ensures) c.make_streams_with.ensures.whole

pub returns-clause-some : goal.returns-clause-some
returns-clause-some g c =
    subst (λ (files : Files). IfOk c.make_streams_with.result
    (λ bytes. IsMadeOfSome (settings_of_order c.args.order.now) files bytes.items))
    (c.deref.ensures.value ∙ c.in_ok-files.ensures) c.make_streams_with.ensures.some

pub returns-clause-info : goal.returns-clause-info
returns-clause-info g c = c.make_streams_with.ensures.info

pub returns-clause-gave : goal.returns-clause-gave
returns-clause-gave g c = c.make_streams_with.ensures.gave

pub returns-clause-accepted : goal.returns-clause-accepted
returns-clause-accepted g c =
    let same = ap paths_of (c.deref.ensures.value ∙ c.in_ok-files.ensures) ∙ paths_alone c.args.paths.now in
    subst (λ paths. OnOk c.make_streams_with.result (stream_refusal {F = Error} c.args.order.now paths ≡ None)) same
    c.make_streams_with.ensures.accepted

pub returns-clause-refused : goal.returns-clause-refused
returns-clause-refused g c = λ refusal is.
    let same = ap paths_of (c.deref.ensures.value ∙ c.in_ok-files.ensures) ∙ paths_alone c.args.paths.now in
    c.make_streams_with.ensures.refused refusal (ap (stream_refusal {F = Error} c.args.order.now) same ∙ is)

pub returns-clause-only : goal.returns-clause-only
returns-clause-only g c =
    let same = ap paths_of (c.deref.ensures.value ∙ c.in_ok-files.ensures) ∙ paths_alone c.args.paths.now in
    subst (λ paths. IfErr c.make_streams_with.result (IsOwn (stream_refusal c.args.order.now paths))) same
    c.make_streams_with.ensures.only

pub make_streams_with-requires-after_bounds : goal.make_streams_with-requires-after_bounds
make_streams_with-requires-after_bounds g c κs within = grind (arith, common_steps)
