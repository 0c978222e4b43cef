-- The files in the order of their paths, with their contents, are those that were handed in.
use Rattle.std.proofs.Common.{◌∙◌, ap, inr, refl, arith}
use Rattle.std.proofs.lemmas.Grind.{common_steps}
use Rattle.tor_meta.specs.steps.Contents.{bytes_of}
use Rattle.tor_meta.specs.Head.{settings_of}
use Rattle.tor_meta.proofs.Made.{accepted_all, contents_listed, files_lawful, judged_list, lengths_in, made_of}
use Rattle.tor_meta.proofs.Made.{refused_lengths}
use Rattle.tor_meta.proofs.Made.{refused_paths, within}
use Rattle.tor_engine.proofs.ProvedLaws.{stopped, stopped_by}
use Rattle.tor_meta.proofs.contents.make_contents.Goals as goal

pub returns-in-Err-clause-refused : goal.returns-in-Err-clause-refused
returns-in-Err-clause-refused c =
    refused_paths (settings_of c.args.head.now) c.args.files.items c.in_ok-paths.paths.items
    c.in_ok-paths.contents.items (lengths_in c.in_ok-paths.contents.items)
    c.in_ok-paths.ensures.paths c.in_ok-paths.ensures.contents refl c.in-Err.refusal c.in-Err.ensures.refused

pub returns-in-Err-with_lengths-clause-refused : goal.returns-in-Err-with_lengths-clause-refused
returns-in-Err-with_lengths-clause-refused c =
    refused_lengths (settings_of c.args.head.now) c.args.files.items c.in_ok-paths.paths.items
    c.in_ok-paths.contents.items c.deref-2.result.now
    c.in_ok-paths.ensures.paths c.in_ok-paths.ensures.contents (c.deref-2.ensures.value ∙ c.in_ok-lengths.ensures
    ∙ ap lengths_in c.deref.ensures.value)
    c.in-Err-with_lengths.fault c.from.result c.from.ensures c.in-Ok.ensures.accepted
    c.in-Err-with_lengths.ensures.refused

pub returns-clause-accepted : goal.returns-clause-accepted
returns-clause-accepted c =
    accepted_all (settings_of c.args.head.now) c.args.files.items c.in_ok-paths.paths.items c.in_ok-paths.contents.items
    c.deref-2.result.now
    c.in_ok-paths.ensures.paths c.in_ok-paths.ensures.contents (c.deref-2.ensures.value ∙ c.in_ok-lengths.ensures
    ∙ ap lengths_in c.deref.ensures.value)
    c.in-Ok.ensures.accepted c.in-Ok-with_lengths.ensures.accepted

pub in_order-requires : goal.in_order-requires
in_order-requires c =
    rw (c.deref-3.ensures.value, c.deref-4.ensures.value)
    (within (settings_of c.args.head.now) c.args.files.items c.in_ok-paths.paths.items c.in_ok-paths.contents.items
    c.deref-2.result.now
    c.in_ok-paths.ensures.paths c.in_ok-paths.ensures.contents (c.deref-2.ensures.value ∙ c.in_ok-lengths.ensures
    ∙ ap lengths_in c.deref.ensures.value)
    c.in-Ok.paths c.in-Ok-with_lengths.both.0 c.in-Ok-with_lengths.both.1.items c.in-Ok.ensures.indexed
    c.in-Ok-with_lengths.ensures.files c.in-Ok-with_lengths.ensures.indices)

pub torrent_of_contents-requires-clause-judged : goal.torrent_of_contents-requires-clause-judged
torrent_of_contents-requires-clause-judged c =
    judged_list c.args.head.now c.in_ok-paths.paths.items c.deref-2.result.now c.in-Ok.paths
    c.in-Ok-with_lengths.both.0.files c.in-Ok.ensures.indexed c.in-Ok.ensures.accepted
    (ap (λ list. list.files) c.in-Ok-with_lengths.ensures.files) (files_lawful c.in-Ok-with_lengths.both.0 (rw (←
    c.list.view_is) c.list.invariant))

pub torrent_of_contents-requires-clause-contents : goal.torrent_of_contents-requires-clause-contents
torrent_of_contents-requires-clause-contents c =
    contents_listed (settings_of c.args.head.now) c.args.files.items c.in_ok-paths.paths.items
    c.in_ok-paths.contents.items c.deref-2.result.now
    c.in_ok-paths.ensures.paths c.in_ok-paths.ensures.contents (c.deref-2.ensures.value ∙ c.in_ok-lengths.ensures
    ∙ ap lengths_in c.deref.ensures.value)
    c.in-Ok.paths c.in-Ok-with_lengths.both.0 c.in-Ok-with_lengths.both.1.items c.in-Ok.ensures.indexed
    c.in-Ok-with_lengths.ensures.files c.in-Ok-with_lengths.ensures.indices
    _ (ap bytes_of c.deref-5.ensures.value ∙ c.in_ok-ordered.ensures
    ∙ rw (c.deref-3.ensures.value, c.deref-4.ensures.value) refl)

pub returns-clause-made : goal.returns-clause-made
returns-clause-made c =
    made_of (settings_of c.args.head.now) c.args.files.items c.in_ok-paths.paths.items c.in_ok-paths.contents.items
    c.deref-2.result.now
    c.in_ok-paths.ensures.paths c.in_ok-paths.ensures.contents (c.deref-2.ensures.value ∙ c.in_ok-lengths.ensures
    ∙ ap lengths_in c.deref.ensures.value)
    c.in-Ok.paths c.in-Ok-with_lengths.both.0 c.in-Ok-with_lengths.both.1.items c.in-Ok.ensures.indexed
    c.in-Ok-with_lengths.ensures.files c.in-Ok-with_lengths.ensures.indices
    c.in-Ok.ensures.lawful _ c.in_ok-bytes.bytes.items (ap bytes_of c.deref-5.ensures.value ∙ c.in_ok-ordered.ensures
    ∙ rw (c.deref-3.ensures.value, c.deref-4.ensures.value) refl) c.in_ok-bytes.ensures.made

-- where there is no memory for the paths
pub returns-in_err-paths : goal.returns-in_err-paths
returns-in_err-paths c =
    let r = c.from_residual.result in
    let is = c.from_residual.ensures.1 in record {
      made = stopped _ _ r is;
      info = stopped _ _ r is;
      accepted = stopped _ _ r is;
      refused = stopped_by _ _ r is (inr refl);
    }

-- where there is no memory for the lengths
pub returns-in_err-lengths : goal.returns-in_err-lengths
returns-in_err-lengths c =
    let r = c.from_residual-in_err-lengths.result in
    let is = c.from_residual-in_err-lengths.ensures.1 in record {
      made = stopped _ _ r is;
      info = stopped _ _ r is;
      accepted = stopped _ _ r is;
      refused = stopped_by _ _ r is (inr refl);
    }

-- where there is no memory for the ordered
pub returns-in_err-ordered : goal.returns-in_err-ordered
returns-in_err-ordered c =
    let r = c.from_residual-in_err-ordered.result in
    let is = c.from_residual-in_err-ordered.ensures.1 in record {
      made = stopped _ _ r is;
      info = stopped _ _ r is;
      accepted = stopped _ _ r is;
      refused = stopped_by _ _ r is (inr refl);
    }

-- where there is no memory for the bytes
pub returns-in_err-bytes : goal.returns-in_err-bytes
returns-in_err-bytes c =
    let r = c.from_residual-in_err-bytes.result in
    let is = c.from_residual-in_err-bytes.ensures.1 in record {
      made = stopped _ _ r is;
      info = stopped _ _ r is;
      accepted = stopped _ _ r is;
      refused = stopped_by _ _ r is (inr refl);
    }

pub with_lengths-requires : goal.with_lengths-requires
with_lengths-requires c = grind (arith, common_steps)
