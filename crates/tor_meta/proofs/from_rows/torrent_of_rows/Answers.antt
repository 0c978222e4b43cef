-- the rows are those of the plan, and its sums are those that the head asks for
use Rattle.std.proofs.Common.{◌≡◌, ℕ, List, length, ap, ap₂, cond, arith, subst, sym, ◌∙◌}
use Rattle.std.proofs.lemmas.List.{length-map}
use Rattle.std.specs.List.{AllZip}
use Rattle.std.specs.Prelude.{Option}
use Rattle.tor_bencode.specs.Spelling.{spelling}
use Rattle.tor_merkle.proofs.ProvedLaws.{piece_length_bounds}
use Rattle.tor_meta.specs.Head.{settings_of}
use Rattle.tor_meta.specs.Listing.{ListingFacts, text_of_listing}
use Rattle.tor_meta.specs.Lots.{plan_of_text}
use Rattle.tor_meta.specs.steps.Sums.{IsPlanOf}
use Rattle.tor_meta.proofs.SourceSums.{from_plan}
use Rattle.tor_parts.specs.JoinedRows.{hashes_of}
use Rattle.tor_parts.specs.Joining.{layers_over, pieces_of_lengths, roots_over}
use Rattle.tor_parts.proofs.ProvedLaws.{layers_there, roots_there}
use Rattle.tor_plan.specs.PlanFacts.{PlanFacts}
use Rattle.tor_spec.specs.Metainfo.{root_dictionary}
use Rattle.tor_tree.specs.FileList.{lengths_of}
use Rattle.tor_tree.specs.Kinds.{has_v2}
use Rattle.tor_tree.specs.TidyTree.{HasItsRoot}
use Rattle.tor_meta.proofs.from_rows.torrent_of_rows.Goals as goal

plan_is_of : (listing : ListingFacts) (plan : PlanFacts) → plan ≡ plan_of_text (text_of_listing listing)
    → IsPlanOf listing.head listing.list.files (plan_of_text (text_of_listing listing))
    → IsPlanOf listing.head listing.list.files plan
plan_is_of listing plan same is = subst (λ (p : PlanFacts). IsPlanOf listing.head listing.list.files p) (sym same) is

pub torrent_of_listing-requires : goal.torrent_of_listing-requires
torrent_of_listing-requires c =
    let listing = c.args.listing.now in
    let head = listing.head in
    let files = listing.list.files in
    let hashes = hashes_of c.args.rows.now in
    let plan = c.args.plan.now in
    let is = plan_is_of listing plan c.requires.planned c.plans_are_of_torrents.ensures.is in
    let sums = c.in_ok-sums.sums in
    record {
      rooted = λ trees.
          let there = c.in_ok-sums.ensures.roots (ap has_v2 is.kind ∙ trees)
          ∙ ap₂ (λ p ls. roots_over p ls hashes) is.piece_length is.lengths in
          subst (λ (roots : List (Option (List ℕ))). AllZip HasItsRoot files roots) (sym there)
          (roots_there head.piece_length
          (omega (
            arith,
            ((piece_length_bounds head.piece_length).0
                c.plans_are_of_torrents.ensures.lawful.judged.piece_length).1,
          )) files hashes
          (c.requires.counted.hashes
          ∙ ap (λ b. cond b (pieces_of_lengths plan.piece_length plan.lengths) 0) (ap has_v2 is.kind ∙ trees)
          ∙ ap₂ pieces_of_lengths is.piece_length is.lengths));
      layered = λ trees.
          let there = c.in_ok-sums.ensures.layers (ap has_v2 is.kind ∙ trees)
          ∙ ap₂ (λ p ls. layers_over p ls hashes) is.piece_length is.lengths in
          sym (length-map sums.layers.items (λ layer. layer.items)) ∙ ap length there
          ∙ layers_there head.piece_length (lengths_of files) hashes ∙ length-map files (λ file. file.1);
    }

pub returns-clause-any : goal.returns-clause-any
returns-clause-any c = λ facts are.
    let listing = c.args.listing.now in
    let hashes = hashes_of c.args.rows.now in
    let is = plan_is_of listing c.args.plan.now c.requires.planned c.plans_are_of_torrents.ensures.is in
    c.in_ok-bytes.ensures.any facts (record {
      is_listed = are.is_listed;
      is_lettered = are.is_lettered;
      is_rooted = λ trees.
          are.is_rooted trees ∙ sym (c.in_ok-sums.ensures.roots (ap has_v2 is.kind ∙ trees)
          ∙ ap₂ (λ p ls. roots_over p ls hashes) is.piece_length is.lengths);
      is_layered = λ trees.
          are.is_layered trees ∙ sym (c.in_ok-sums.ensures.layers (ap has_v2 is.kind ∙ trees)
          ∙ ap₂ (λ p ls. layers_over p ls hashes) is.piece_length is.lengths);
    })
    ∙ ap (λ pieces. spelling (root_dictionary (settings_of listing.head) facts pieces)) c.in_ok-sums.ensures.pieces

pub returns-clause-made : goal.returns-clause-made
returns-clause-made c = λ contents fit are.
    let listing = c.args.listing.now in
    let plan = c.args.plan.now in
    let is = plan_is_of listing plan c.requires.planned c.plans_are_of_torrents.ensures.is in
    let fits = fit ∙ sym is.lengths in
    let both = from_plan listing.head listing.list.files c.in_ok-sums.sums plan contents is fits
    (c.in_ok-sums.ensures.summed contents fits are) in
    c.in_ok-bytes.ensures.made contents both.0 both.1

pub returns-clause-whole : goal.returns-clause-whole
returns-clause-whole c = λ others are.
    let listing = c.args.listing.now in
    let plan = c.args.plan.now in
    let is = plan_is_of listing plan c.requires.planned c.plans_are_of_torrents.ensures.is in
    let some = c.in_ok-sums.ensures.whole others are in
    let both = from_plan listing.head listing.list.files c.in_ok-sums.sums plan some.0 is some.1.fit some.2 in
    (some.0, some.1, c.in_ok-bytes.ensures.made some.0 both.0 both.1)
