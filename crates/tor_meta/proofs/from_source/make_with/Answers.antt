-- the torrent is that of the listing
use Rattle.std.proofs.Common.{◌≡◌, ◌<◌, ℕ, List, Some, ◌∙◌, sym, ap, refl, subst, get_or, length, arith}
use Rattle.std.proofs.lemmas.Grind.{common_steps}
use Rattle.std.specs.List.{All}
use Rattle.std.proofs.lemmas.List.{length-map}
use Rattle.std.proofs.lemmas.Option.{none-some}
use Rattle.tor_sums.specs.Contents.{contents_in}
use Rattle.tor_meta.specs.Make.{IsGivenTo, make_refusal}
use Rattle.tor_meta.specs.MakeError.{of_engine_error}
use Rattle.tor_meta.specs.Order.{settings_of_order}
use Rattle.tor_meta.specs.PlanText.{PlanText}
use Rattle.tor_meta.specs.steps.Contents.{files_of}
use Rattle.tor_meta.specs.steps.IndexedFiles.{facts_at, renumbered}
use Rattle.tor_spec.specs.Metainfo.{metainfo}
use Rattle.tor_tree.specs.FileList.{lengths_of, paths_of}
use Rattle.tor_tree.specs.PathList.{indices_of}
use Rattle.tor_meta.proofs.FirstFaults.{own_hashing, plan_first}
use Rattle.tor_meta.proofs.FromSource.{made_of, made_of_some, made_of_told}
use Rattle.tor_meta.proofs.GivenFiles.{given_of_indexed}
use Rattle.tor_meta.proofs.Indexed.{indices_within}
use Rattle.tor_meta.proofs.SourceFaults.{fault_none, fault_told, lengths_told}
use Rattle.tor_meta.proofs.SourceFiles.{entries_within, told_of_listed}
use Rattle.tor_meta.proofs.from_source.make_with.Goals as goal

pub returns-in-Ok-torrent_of_listed-clause-made : goal.returns-in-Ok-torrent_of_listed-clause-made
returns-in-Ok-torrent_of_listed-clause-made g c = λ facts steady.
    let listed = c.in-Ok.ensures.listed in
    let listing = c.in-Ok.both.0 in
    let told = listed.steady facts steady in
    let are_indices = c.deref.ensures.value ∙ listed.are_indices in
    let none = lengths_told facts (paths_of c.args.files.now) listed.entries listing.list.files c.deref.result.now
    listed.indexed told.1 told.0 are_indices in
    made_of facts c.args.files.now (settings_of_order c.args.order.now) listed.entries listing.list c.deref.result.now
    c.in-Ok-torrent_of_listed.bytes.items listed.indexed listed.lawful told.0
    (ap (λ (text : PlanText). text.list.attrs) listed.text) are_indices
    (c.in-Ok-torrent_of_listed.ensures.made (facts_at c.deref.result.now facts) (facts, steady, refl) none
    ∙ ap (λ settings. metainfo settings (files_of listing.list
    (contents_in (facts_at c.deref.result.now facts) (length listing.list.files))))
    (ap (λ (text : PlanText). text.settings) listed.text))

pub returns-in-Ok-torrent_of_listed-clause-fault : goal.returns-in-Ok-torrent_of_listed-clause-fault
returns-in-Ok-torrent_of_listed-clause-fault g c = λ facts steady.
    let listed = c.in-Ok.ensures.listed in
    let list = c.in-Ok.both.0.list.files in
    let told = listed.steady facts steady in
    let are_indices = c.deref.ensures.value ∙ listed.are_indices in
    let none = lengths_told facts (paths_of c.args.files.now) listed.entries list c.deref.result.now
    listed.indexed told.1 told.0 are_indices in
    fault_none facts c.args.order.now (paths_of c.args.files.now) listed.entries list c.deref.result.now
    listed.indexed listed.lawful (c.in-Ok.ensures.fault facts steady) told.0 are_indices
    (c.in-Ok-torrent_of_listed.ensures.fault (facts_at c.deref.result.now facts) (facts, steady, refl) none)

pub returns-in-Ok-torrent_of_listed-clause-whole : goal.returns-in-Ok-torrent_of_listed-clause-whole
returns-in-Ok-torrent_of_listed-clause-whole g c =
    let listed = c.in-Ok.ensures.listed in
    let list = c.in-Ok.both.0.list in
    let whole = c.in-Ok-torrent_of_listed.ensures.whole in
    made_of_some (settings_of_order c.args.order.now) c.args.files.now listed.lengths listed.entries list whole.0
    c.in-Ok-torrent_of_listed.bytes.items listed.indexed listed.lawful
    (ap (λ (text : PlanText). text.list.files) listed.text) (ap (λ (text : PlanText). text.list.attrs) listed.text)
    whole.1
    (whole.2 ∙ ap (λ settings. metainfo settings (files_of list whole.0))
    (ap (λ (text : PlanText). text.settings) listed.text))

pub returns-in-Ok-torrent_of_listed-clause-told : goal.returns-in-Ok-torrent_of_listed-clause-told
returns-in-Ok-torrent_of_listed-clause-told g c =
    let listed = c.in-Ok.ensures.listed in
    let list = c.in-Ok.both.0.list in
    let whole = c.in-Ok-torrent_of_listed.ensures.whole in
    made_of_told (settings_of_order c.args.order.now) c.args.files.now listed.lengths listed.entries list whole.0
    c.in-Ok-torrent_of_listed.bytes.items listed.indexed listed.lawful
    (ap (λ (text : PlanText). text.list.files) listed.text) (ap (λ (text : PlanText). text.list.attrs) listed.text)
    whole.1
    (whole.2 ∙ ap (λ settings. metainfo settings (files_of list whole.0))
    (ap (λ (text : PlanText). text.settings) listed.text))
    (g.S.Source.answers c.args.source.now) listed.one_each listed.are_told

pub returns-clause-fault : goal.returns-clause-fault
returns-clause-fault g c = λ facts steady.
    let listed = c.in-Ok.ensures.listed in
    let list = c.in-Ok.both.0.list.files in
    let told = listed.steady facts steady in
    let are_indices = c.deref.ensures.value ∙ listed.are_indices in
    let none = lengths_told facts (paths_of c.args.files.now) listed.entries list c.deref.result.now
    listed.indexed told.1 told.0 are_indices in
    fault_told facts c.args.order.now (paths_of c.args.files.now) listed.entries list c.deref.result.now
    c.in-Err-torrent_of_listed.error c.from.result listed.indexed listed.lawful (c.in-Ok.ensures.fault facts steady)
    told.0 are_indices
    (c.from.ensures ∙ ap of_engine_error (c.renumbered.ensures
    ∙ ap (λ indices. renumbered indices c.in-Err-torrent_of_listed.error)
    (c.deref-in-Err-torrent_of_listed.ensures.value ∙ sym c.deref.ensures.value)))
    (c.in-Err-torrent_of_listed.ensures.fault (facts_at c.deref.result.now facts) (facts, steady, refl) none)

pub returns-clause-gave : goal.returns-clause-gave
returns-clause-gave g c =
    let answers = g.S.Source.answers c.args.source.now in
    let count = length c.args.files.now in
    let indices = c.deref.result.now in
    let listed = c.in-Ok.ensures.listed in
    let paths = listed.entries in
    let indexed = listed.indexed in
    let lengths = listed.lengths in
    let list = c.in-Ok.both.0.list.files in
    let files = ap (λ (text : PlanText). text.list.files) listed.text in
    let are_indices = c.deref.ensures.value ∙ listed.are_indices in
    let handed_in : length (indices_of paths) ≡ count =
    length-map paths (λ entry. entry.1) ∙ indexed.one_each ∙ length-map c.args.files.now (λ file. file.0) in
    let within = subst (λ (ks : List ℕ). All (λ index. index < count) ks) (sym are_indices)
    (indices_within count (indices_of paths) indexed.indices handed_in) in
    let one_each : length (lengths_of list) ≡ length indices =
    ap (λ files. length (lengths_of files)) files ∙ length-map _ (λ file. file.1) ∙ length-map paths _
    ∙ sym (length-map paths (λ entry. entry.1)) ∙ sym (ap length are_indices) in
    let entries = entries_within (length lengths) paths indexed.indices (sym listed.one_each) in
    let first : (file : ℕ) → file < length indices
    → answers.told (get_or indices file 0) (Some (get_or (lengths_of list) file 0))
    =
    rw (are_indices, files) (told_of_listed answers lengths paths entries listed.are_told) in
    let same = c.from.ensures ∙ ap of_engine_error (c.renumbered.ensures
    ∙ ap (λ indices. renumbered indices c.in-Err-torrent_of_listed.error)
    (c.deref-in-Err-torrent_of_listed.ensures.value ∙ sym c.deref.ensures.value)) in
    subst (λ error. IsGivenTo answers count error) (sym same)
    (given_of_indexed answers count indices (lengths_of list) within one_each first
    c.in-Err-torrent_of_listed.error c.in-Err-torrent_of_listed.ensures.gave)

-- what is refused before any length is asked, and what asking tells
pub returns-in-Err-clause-fault : goal.returns-in-Err-clause-fault
returns-in-Err-clause-fault g c = λ facts steady.
    plan_first facts c.args.order.now (paths_of c.args.files.now) c.in-Err.error (c.in-Err.ensures.fault facts steady)

pub returns-clause-refused : goal.returns-clause-refused
returns-clause-refused g c = λ refusal is. absurd (none-some refusal (sym c.in-Ok.ensures.accepted ∙ is))

pub returns-clause-only : goal.returns-clause-only
returns-clause-only g c =
    own_hashing (make_refusal c.args.order.now (paths_of c.args.files.now)) c.from.result _ c.from.ensures

pub torrent_of_listed-requires-clause-how : goal.torrent_of_listed-requires-clause-how
torrent_of_listed-requires-clause-how g c κs within = grind (arith, common_steps)
