-- the tree has the hash of each piece; without trees each piece is told without one
use Rattle.std.proofs.Common.{None, Some, ap, ap₂, inl, inr, length, map, replicate, sym, ◌∙◌}
use Rattle.std.specs.Int.{div_ceil}
use Rattle.tor_merkle.specs.Layer.{piece_roots}
use Rattle.tor_tree.specs.Kinds.{has_v2}
use Rattle.tor_sums.specs.Contents.{contents_in}
use Rattle.tor_sums.specs.steps.Given.{lengths_of_sizes}
use Rattle.tor_engine.specs.steps.Unsummed.{found_of}
use Rattle.tor_engine.proofs.PartsInside.{source_has_unit, unit_in_told}
use Rattle.tor_engine.proofs.ToldContents.{within_is_there}
use Rattle.tor_engine.proofs.TogetherFound.{owe_unit}
use Rattle.tor_engine.proofs.TogetherUnits.{fault_together}
use Rattle.tor_engine.proofs.pieces.together.find_together.Goals as goal

pub returns-clause-owing : goal.returns-clause-owing
returns-clause-owing g c = λ owed owes.
    let plan = c.args.plan.now in
    let read = c.in-Ok.ensures.owing owed owes in (
      read.0,
      owe_unit plan c.requires.planned c.args.known.now.lengths.items c.args.unit.now c.requires.unit
          c.requires.together (g.S.FileBytes.is_steady c.args.source.now) c.length_of_sums.ensures c.in-Ok.tree read.0
          read.1 c.in_ok-found.found.items
          (λ trees fed is. c.in_ok-found.ensures.trees (ap has_v2 c.kind.ensures ∙ trees) fed is
          ∙ ap (λ kind. map (λ root. found_of kind (Some root)) (piece_roots fed.bytes fed.piece_length))
          c.kind.ensures)
          (λ none. c.in_ok-found.ensures.bare (ap has_v2 c.kind.ensures ∙ none)
          ∙ ap₂ (λ n kind. replicate n (found_of kind None))
          (c.div_ceil-count.ensures ∙ ap₂ div_ceil c.unit_length.ensures c.piece_length.ensures) c.kind.ensures),
      read.2,
    )

pub returns-clause-fault : goal.returns-clause-fault
returns-clause-fault g c = λ facts steady told.
    let plan = c.args.plan.now in
    let unit = c.args.unit.now in
    let sizes = c.args.known.now.lengths.items in
    let contents = contents_in facts (length plan.lengths) in
    let there = sym (within_is_there sizes contents told unit) ∙ c.requires.together.there in
    fault_together plan c.requires.planned sizes unit c.requires.unit c.requires.together.there facts contents told
    ∙ c.in-Ok.ensures.fault facts steady (source_has_unit facts plan unit c.requires.unit.within.parts there)

pub returns-in-Err-clause-fault : goal.returns-in-Err-clause-fault
returns-in-Err-clause-fault g c = λ facts steady told.
    let plan = c.args.plan.now in
    let unit = c.args.unit.now in
    let sizes = c.args.known.now.lengths.items in
    let contents = contents_in facts (length plan.lengths) in
    let there = sym (within_is_there sizes contents told unit) ∙ c.requires.together.there in
    elim (c.in-Err.ensures.fault facts steady (source_has_unit facts plan unit c.requires.unit.within.parts there)) [
      | inl memory ↦ inl memory
      | inr fault ↦ inr (fault_together plan c.requires.planned sizes unit c.requires.unit c.requires.together.there
          facts contents told ∙ fault)
    ]

pub returns-in-Err-clause-gave : goal.returns-in-Err-clause-gave
returns-in-Err-clause-gave g c =
    let sizes = c.args.known.now.lengths.items in
    c.in-Err.ensures.gave (lengths_of_sizes sizes)
    (unit_in_told sizes c.args.plan.now.lengths c.args.unit.now c.requires.unit.within.parts c.requires.together.there)
