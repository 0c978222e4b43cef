use Rattle.tor_check.proofs.Names.{rules, ◌≡◌, ◌≤◌, ◌<◌, ◌∙◌, ap, refl, sym, subst, Err, slice_get, slice_get_read}
use Rattle.tor_check.proofs.Names.{HasTree, IsPieceLength, proof_count, length, ltb-false, none-some, piece_refusal}
use Rattle.tor_check.proofs.Names.{same_Some, slice_index_or, FileView, List, Some, ℕ}
use Rattle.tor_check.proofs.PieceSteps.{IsFound, index_alone, index_there, no_file, no_tree}
use Rattle.tor_check.proofs.ValidTrees.{allowed_of_view, tree_of_view}
use Rattle.tor_check.proofs.piece_proofs.prove_piece.Goals.{After-piece_length, In_default, Joined-then-not-has_v2}
use Rattle.tor_check.proofs.piece_proofs.prove_piece.Goals.{then-not-has_v2-via-then-not-has_v2}
use Rattle.tor_check.proofs.piece_proofs.prove_piece.Goals.{then-not-has_v2-via-else-not-has_v2+then-file-eq0}
use Rattle.tor_check.proofs.piece_proofs.prove_piece.Goals as goal
use Rattle.tor_check.specs.declared.piece_proofs.ProveError.TheVariants.{Index, NoTree}

-- the file that was got is the one at the index
told_at : {now files : List FileView} {file : ℕ} {told : FileView} → now ≡ files → file < length now
    → told ≡ slice_index_or now file told → slice_get files file ≡ Some told
told_at {now} {files} {file} {told} same within at =
    ap (λ list. slice_get list file) (sym same) ∙ slice_get_read now _ file told refl within at

found : (c : After-piece_length) → IsFound c.args.torrent.now c.args.file c.in-Some.told.now
found c = record {
  v2 = search rules;
  there = told_at c.files.ensures.value c.in-Some.ensures.lookup.3.0 c.in-Some.ensures.lookup.1;
  filled = search rules;
}

pub prove_in_file-requires-clause-allowed : goal.prove_in_file-requires-clause-allowed
prove_in_file-requires-clause-allowed c =
    subst IsPieceLength (sym c.piece_length.ensures)
    (allowed_of_view c.args.torrent.now c.files.ensures.valid (found c).v2)

pub prove_in_file-requires-clause-tree : goal.prove_in_file-requires-clause-tree
prove_in_file-requires-clause-tree c =
    let told = c.in-Some.told.now in
    let is = found c in
    subst (λ n. HasTree n told) (sym c.piece_length.ensures)
    (tree_of_view c.args.torrent.now c.files.ensures.valid is.v2 c.args.file told is.there is.filled)

pub returns-clause-refused : goal.returns-clause-refused
returns-clause-refused c = λ fault refused.
    let told = c.in-Some.told.now in
    let is = found (goal.at.returns-clause-refused c).After-piece_length in
    let past = index_alone c.args.torrent.now c.args.file c.args.index told fault is refused in
    let past' = subst (λ n. proof_count told.file.length n ≤ c.args.index) (sym c.piece_length.ensures) past.0 in
    subst (λ e. c.prove_in_file.result ≡ Err e) past.1 (c.prove_in_file.ensures.refused past')

pub returns-clause-answered : goal.returns-clause-answered
returns-clause-answered c = λ none.
    let told = c.in-Some.told.now in
    let is = found (goal.at.returns-clause-answered c).After-piece_length in
    let below = index_there c.args.torrent.now c.args.file c.args.index told is none in
    c.prove_in_file.ensures.answered
    (subst (λ n. c.args.index < proof_count told.file.length n) (sym c.piece_length.ensures) below)

pub returns-clause-proved : goal.returns-clause-proved
returns-clause-proved c =
    let is = found (goal.at.returns-clause-proved c).After-piece_length in
    let own = c.prove_in_file.ensures.proved in
    rw (is.there, ← c.piece_length.ensures) own

pub returns-clause-memory : goal.returns-clause-memory
returns-clause-memory c = λ refused.
    let is = found (goal.at.returns-clause-memory c).After-piece_length in
    rw (is.there, ← c.piece_length.ensures) (c.prove_in_file.ensures.memory refused)

-- the file is not there
missing : (c : In_default) → piece_refusal c.args.torrent.now c.args.file c.args.index ≡ Some Index
missing c =
    let past = ltb-false c.args.file (length c.files.result.now) (sym c.in_default.ensures.lookup.0) in
    no_file c.args.torrent.now c.args.file c.args.index
    (subst (λ files. length files ≤ c.args.file) c.files.ensures.value past)

pub returns-in_default-clause-refused : goal.returns-in_default-clause-refused
returns-in_default-clause-refused c = λ fault refused. ap Err (same_Some Index fault (sym (missing c) ∙ refused))

pub returns-in_default-clause-answered : goal.returns-in_default-clause-answered
returns-in_default-clause-answered c = λ none. absurd (none-some Index (sym none ∙ missing c))

-- the file has no tree
treeless : (c : Joined-then-not-has_v2) → piece_refusal c.args.torrent.now c.args.file c.args.index ≡ Some NoTree
treeless c =
    no_tree c.args.torrent.now c.args.file c.args.index c.in-Some.told.now
    (told_at c.files.ensures.value c.in-Some.ensures.lookup.3.0 c.in-Some.ensures.lookup.1)
    (elim c.then-not-has_v2.branch [
      | then-not-has_v2-via-then-not-has_v2 w ↦ rw (← c.kind.ensures, ← w.if-not-has_v2.ensures) refl
      | then-not-has_v2-via-else-not-has_v2+then-file-eq0 w ↦
          rw (← c.kind.ensures, ← w.if-not-has_v2.ensures, ← w.file.ensures, w.if-file-eq0.true) refl
    ])

pub returns-then-not-has_v2-clause-refused : goal.returns-then-not-has_v2-clause-refused
returns-then-not-has_v2-clause-refused c =
    λ fault refused. ap Err (same_Some NoTree fault (sym (treeless c) ∙ refused))

pub returns-then-not-has_v2-clause-answered : goal.returns-then-not-has_v2-clause-answered
returns-then-not-has_v2-clause-answered c = λ none. absurd (none-some NoTree (sym none ∙ treeless c))
