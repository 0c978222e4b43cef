use Rattle.tor_check.proofs.Names.{◌≡◌, None, inr, subst, view, IsFirst, first_of_alignment, first_of_both, refusal_of}
use Rattle.tor_check.proofs.HeadFacts.{allowed}
use Rattle.tor_check.proofs.NoneHolds.{before_memory}
use Rattle.tor_check.proofs.Stages.{at_end, at_head, at_layers, at_alignment, at_sides}
use Rattle.tor_check.proofs.verdict.judge.Goals.{In_default-judge_alignment}
use Rattle.tor_check.proofs.verdict.judge.Goals as goal

pub returns-in-Err-clause-refused : goal.returns-in-Err-clause-refused
returns-in-Err-clause-refused c = at_head (view c.args.root.now) c.in-Err.refusal c.in-Err.ensures.refused

pub judge_layers-requires-clause-allowed : goal.judge_layers-requires-clause-allowed
judge_layers-requires-clause-allowed c =
    (allowed (view c.args.root.now) c.in-Ok.head.piece_length c.in-Ok.ensures.accepted
    c.in-Ok.ensures.read.piece_length).tree

pub judge_alignment-requires-clause-some : goal.judge_alignment-requires-clause-some
judge_alignment-requires-clause-some c =
    let length =
    allowed (view c.args.root.now) c.in-Ok.head.piece_length c.in-Ok.ensures.accepted
    c.in-Ok.ensures.read.piece_length in
    (length.some, length.few)

pub returns-in-Err-read_sides-clause-refused : goal.returns-in-Err-read_sides-clause-refused
returns-in-Err-read_sides-clause-refused c =
    let refusal = c.in-Err-read_sides.refusal in
    at_sides (view c.args.root.now) refusal c.in-Ok.ensures.accepted
    (subst (λ info. IsFirst (first_of_both info) refusal) c.in-Ok.ensures.read.info c.in-Err-read_sides.ensures.refused)

pub returns-in-Err-judge_layers-clause-refused : goal.returns-in-Err-judge_layers-clause-refused
returns-in-Err-judge_layers-clause-refused c =
    let sides =
    subst (λ info. first_of_both info ≡ None) c.in-Ok.ensures.read.info c.in-Ok-read_sides.ensures.accepted in
    at_layers (view c.args.root.now) c.in-Err-judge_layers.refusal c.in-Ok.ensures.accepted sides
    (inr c.in-Err-judge_layers.ensures.refused)

pub returns-in-Err-judge_alignment-clause-refused : goal.returns-in-Err-judge_alignment-clause-refused
returns-in-Err-judge_alignment-clause-refused c =
    let refusal = c.in-Err-judge_alignment.refusal in
    let sides =
    subst (λ info. first_of_both info ≡ None) c.in-Ok.ensures.read.info c.in-Ok-read_sides.ensures.accepted in
    let misaligned =
    subst (λ info. IsFirst (first_of_alignment info) refusal) c.in-Ok.ensures.read.info
    (inr c.in-Err-judge_alignment.ensures.refused) in
    at_alignment (view c.args.root.now) refusal c.in-Ok.ensures.accepted sides c.in_default.ensures.accepted misaligned

-- no condition holds where all judges passed
none_holds : (c : In_default-judge_alignment) → refusal_of (view c.args.root.now) ≡ None
none_holds c =
    let read = c.in-Ok.ensures.read.info in
    let sides = subst (λ info. first_of_both info ≡ None) read c.in-Ok-read_sides.ensures.accepted in
    let aligned = subst (λ info. first_of_alignment info ≡ None) read (c.in_default-judge_alignment).ensures.accepted in
    at_end (view c.args.root.now) c.in-Ok.ensures.accepted sides c.in_default.ensures.accepted aligned

pub torrent_of-requires-clause-accepted : goal.torrent_of-requires-clause-accepted
torrent_of-requires-clause-accepted c =
    none_holds (goal.at.torrent_of-requires-clause-accepted c).In_default-judge_alignment

pub returns-clause-accepted : goal.returns-clause-accepted
returns-clause-accepted c = none_holds (goal.at.returns-clause-accepted c).In_default-judge_alignment

pub returns-in-Err-judge_alignment-clause-memory : goal.returns-in-Err-judge_alignment-clause-memory
returns-in-Err-judge_alignment-clause-memory c =
    λ _. before_memory (view c.args.root.now) c.in-Ok.ensures.accepted

pub returns-in_err-torrent-clause-memory : goal.returns-in_err-torrent-clause-memory
returns-in_err-torrent-clause-memory c =
    λ _. before_memory (view c.args.root.now) c.in-Ok.ensures.accepted

pub returns-in-Err-read_sides-clause-memory : goal.returns-in-Err-read_sides-clause-memory
returns-in-Err-read_sides-clause-memory c = λ _. before_memory (view c.args.root.now) c.in-Ok.ensures.accepted

pub returns-in-Err-judge_layers-clause-memory : goal.returns-in-Err-judge_layers-clause-memory
returns-in-Err-judge_layers-clause-memory c = λ _. before_memory (view c.args.root.now) c.in-Ok.ensures.accepted

pub returns-clause-memory : goal.returns-clause-memory
returns-clause-memory c = λ _. before_memory (view c.args.root.now) c.in-Ok.ensures.accepted
