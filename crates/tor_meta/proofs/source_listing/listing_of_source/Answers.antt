-- the files in the order of their paths are those that were handed in
use Rattle.std.proofs.Common.{◌≡◌, ◌⊎◌, ◌∙◌, ℕ, List, None, Some, ap, inl, length, map, refl, subst, sym}
use Rattle.std.proofs.lemmas.List.{length-map}
use Rattle.std.proofs.lemmas.Option.{none-some}
use Rattle.tor_meta.specs.Head.{settings_of}
use Rattle.tor_meta.specs.Listing.{ListingFacts, text_of_listing}
use Rattle.tor_meta.specs.Make.{IsGivenTo, asked_fault, letters_at, make_refusal}
use Rattle.tor_meta.specs.MakeError.{out_of_resources}
use Rattle.tor_meta.specs.Order.{settings_of_order}
use Rattle.tor_meta.specs.PlanText.{PlanText}
use Rattle.tor_meta.specs.Planned.{planned}
use Rattle.tor_meta.specs.declared.head.Head.{Head}
use Rattle.tor_meta.specs.declared.order.Order.{Order}
use Rattle.tor_spec.specs.Settings.{Settings}
use Rattle.tor_tree.specs.FileList.{LetteredFiles, list_fault, paths_of}
use Rattle.tor_tree.specs.PathList.{indices_of}
use Rattle.tor_tree.specs.declared.attr.Attr.{Attr}
use Rattle.tor_meta.proofs.FaultsOfLengths.{refused_of_lengths}
use Rattle.tor_meta.proofs.FirstFaults.{one_refusal, others_or, own_refusal, refusal_or}
use Rattle.tor_meta.proofs.Indexed.{or_second}
use Rattle.tor_meta.proofs.Made.{judged_list}
use Rattle.tor_meta.proofs.Refused.{given_or_not, paths_of as paths_accepted, span_of}
use Rattle.tor_engine.proofs.ProvedLaws.{stopped, stopped_by, stopped_match}
use Rattle.tor_meta.proofs.source_listing.listing_of_source.Goals as goal

pub returns-in-Err-clause-gave : goal.returns-in-Err-clause-gave
returns-in-Err-clause-gave g c =
    given_or_not (g.S.Source.answers c.args.source.now) (length c.args.files.now)
    c.args.order.now (paths_of c.args.files.now) c.in-Err.error c.in-Err.ensures.refused

pub returns-in-Err-ask_lettered-clause-only : goal.returns-in-Err-ask_lettered-clause-only
returns-in-Err-ask_lettered-clause-only g c = c.in-Err-ask_lettered.ensures.only _

pub of_judged-requires-clause-span : goal.of_judged-requires-clause-span
of_judged-requires-clause-span g c = span_of c.args.order.now (paths_of c.args.files.now) c.in-Ok.ensures.accepted

pub of_judged-requires-clause-judged : goal.of_judged-requires-clause-judged
of_judged-requires-clause-judged g c =
    let told = c.in-Ok-ask_lettered.ensures.list in
    judged_list c.in_ok-head.head (paths_of c.args.files.now) told.0 c.in-Ok.paths c.in-Ok-ask_lettered.both.0.files
    c.in-Ok.ensures.indexed
    (paths_accepted c.args.order.now c.in_ok-head.head (paths_of c.args.files.now) c.in-Ok.ensures.accepted
    c.in_ok-head.ensures)
    told.3 c.files-listed.ensures.lawful

pub returns-in-Err-clause-lengths : goal.returns-in-Err-clause-lengths
returns-in-Err-clause-lengths g c =
    refused_of_lengths c.args.order.now (paths_of c.args.files.now) c.in-Err.error c.in-Err.ensures.refused

-- what is refused before any length is asked, and what asking tells
pub returns-in-Err-clause-fault : goal.returns-in-Err-clause-fault
returns-in-Err-clause-fault g c = λ facts steady.
    let paths = paths_of c.args.files.now in
    refusal_or (make_refusal c.args.order.now paths) (asked_fault facts (length paths)) c.in-Err.error
    c.in-Err.ensures.refused

pub returns-in-Err-clause-refused : goal.returns-in-Err-clause-refused
returns-in-Err-clause-refused g c = λ refusal is.
    one_refusal (make_refusal c.args.order.now (paths_of c.args.files.now)) c.in-Err.error refusal
    c.in-Err.ensures.refused is

pub returns-in-Err-clause-only : goal.returns-in-Err-clause-only
returns-in-Err-clause-only g c =
    own_refusal (make_refusal c.args.order.now (paths_of c.args.files.now)) c.in-Err.error c.in-Err.ensures.refused

pub returns-in-Err-ask_lettered-clause-fault : goal.returns-in-Err-ask_lettered-clause-fault
returns-in-Err-ask_lettered-clause-fault g c = λ facts steady.
    let paths = paths_of c.args.files.now in
    let e = c.in-Err-ask_lettered.error in
    others_or (make_refusal c.args.order.now paths) c.in-Ok.ensures.accepted (asked_fault facts (length paths)) e
    (subst (λ (n : ℕ). (e ≡ out_of_resources) ⊎ (asked_fault facts n ≡ Some e)) c.in-Ok.ensures.indexed.one_each
    (c.in-Err-ask_lettered.ensures.fault facts steady))

pub returns-in-Err-ask_lettered-clause-refused : goal.returns-in-Err-ask_lettered-clause-refused
returns-in-Err-ask_lettered-clause-refused g c = λ refusal is.
    absurd (none-some refusal (sym c.in-Ok.ensures.accepted ∙ is))

pub returns-in-Err-ask_lettered-clause-gave : goal.returns-in-Err-ask_lettered-clause-gave
returns-in-Err-ask_lettered-clause-gave g c =
    subst (λ (n : ℕ). IsGivenTo (g.S.Source.answers c.args.source.now) n c.in-Err-ask_lettered.error)
    (c.in-Ok.ensures.indexed.one_each ∙ length-map c.args.files.now (λ file. file.0)) c.in-Err-ask_lettered.ensures.gave

pub returns-clause-fault : goal.returns-clause-fault
returns-clause-fault g c = λ facts steady.
    let paths = paths_of c.args.files.now in
    or_second (make_refusal c.args.order.now paths) (asked_fault facts (length paths)) None c.in-Ok.ensures.accepted
    (subst (λ (n : ℕ). asked_fault facts n ≡ None) c.in-Ok.ensures.indexed.one_each
    (c.in-Ok-ask_lettered.ensures.fault facts steady))

-- the text of an order and its files
text : Order → List (List (List ℕ) × ℕ) → List Attr → Settings → PlanText
text order files attrs settings = record {
  settings = settings;
  list = record { files = files; attrs = attrs };
  span = order.span;
}

text_is : (order : Order) (head : Head) (files : List (List (List ℕ) × Attr)) (entries : List (List (List ℕ) × ℕ))
    (listed : List (List (List ℕ) × ℕ)) (list : LetteredFiles) (listing : ListingFacts)
    → listing ≡ record { head = head; span = order.span; list = list } → settings_of head ≡ settings_of_order order
    → list.files ≡ listed → list.attrs ≡ map (letters_at files) (indices_of entries)
    → text_of_listing listing ≡ planned order files entries listed
unfolding text
text_is order head files entries listed list listing is same filed lettered =
    ap text_of_listing is ∙ ap (text order list.files list.attrs) same
    ∙ ap (λ fs. text order fs list.attrs (settings_of_order order)) filed
    ∙ ap (λ attrs. text order listed attrs (settings_of_order order)) lettered

pub returns-clause-listed : goal.returns-clause-listed
returns-clause-listed g c =
    let told = c.in-Ok-ask_lettered.ensures in
    let list = told.list in record {
      entries = c.in-Ok.paths;
      lengths = list.0;
      indexed = c.in-Ok.ensures.indexed;
      lawful = c.in-Ok.ensures.lawful;
      one_each = list.1;
      are_told = list.2;
      are_indices = told.indices;
      text = text_is c.args.order.now c.in_ok-head.head c.args.files.now c.in-Ok.paths _
          c.in-Ok-ask_lettered.both.0 c.of_judged.result c.of_judged.ensures c.in_ok-head.ensures list.3 told.letters;
      faultless = ap (λ (listing : ListingFacts). list_fault listing.list.files) c.of_judged.ensures
          ∙ c.files-listed.ensures.lawful.faultless;
      steady = λ facts steady. (
        ap (λ (listing : ListingFacts). listing.list.files) c.of_judged.ensures ∙ told.files facts steady,
        told.fault facts steady,
      );
    }

-- where there is no memory for the head
pub returns-in_err-head : goal.returns-in_err-head
returns-in_err-head g c =
    let r = c.from_residual.result in
    let is = c.from_residual.ensures.1 in record {
      listed = stopped _ _ r is;
      fault = λ facts steady. stopped_match _ _ _ r is (inl refl);
      accepted = stopped _ _ r is;
      refused = λ refusal first. stopped_by _ _ r is (inl refl);
      only = stopped_by _ _ r is tt;
      gave = stopped_by _ _ r is tt;
      lengths = stopped_by _ _ r is tt;
    }
