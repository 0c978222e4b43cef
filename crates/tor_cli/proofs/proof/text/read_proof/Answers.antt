-- The lines of index and hash, and those of the siblings.
use Rattle.std.proofs.Common.{◌≡◌, ℕ, List, ◌++◌, codes, sym, ◌∙◌, ap, append_assoc}
use Rattle.std.specs.Prelude.{flat_map}
use Rattle.tor_cli.specs.proof.ProofText.{index_line, hash_line, sibling_line, proof_text}
use Rattle.tor_cli.proofs.proof.text.read_proof.Goals as goal

-- the head of a text, and what comes after it
in_lines : (index : ℕ) (hash : List ℕ) (siblings : List (List ℕ)) → proof_text index hash siblings
    ≡ index_line index ++ (hash_line (codes "hash ") hash ++ flat_map sibling_line siblings)
unfolding proof_text
in_lines index hash siblings =
    append_assoc (index_line index) (hash_line (codes "hash ") hash) (flat_map sibling_line siblings)

pub returns-in_default-clause-read : goal.returns-in_default-clause-read
returns-in_default-clause-read c index hash siblings is same =
    c.in_default.ensures.read index hash (flat_map sibling_line siblings) is.below is.is_hash
    (sym same ∙ in_lines index hash siblings)

pub returns-in-Some-2-clause-written : goal.returns-in-Some-2-clause-written
returns-in-Some-2-clause-written c =
    let read = rw c.in-Some-2.is at c.in_ok-siblings.ensures.written in
    let index = c.in-Some.head.0 in
    let hash = c.in-Some.head.1 in
    let (below, is_hash, head) = c.in-Some.ensures.written in
    let (hashes, lines, few) = read in (
      record { below = below; is_hash = is_hash; are_hashes = hashes; few = few },
      in_lines index hash c.in-Some-2.siblings.items
          ∙ ap (λ (xs : List ℕ). index_line index ++ (hash_line (codes "hash ") hash ++ xs)) (sym lines)
          ∙ sym head,
    )

pub returns-in-Some-2-clause-read : goal.returns-in-Some-2-clause-read
returns-in-Some-2-clause-read c index hash siblings is same =
    let head =
    c.in-Some.ensures.read index hash (flat_map sibling_line siblings) is.below is.is_hash
    (sym same ∙ in_lines index hash siblings) in
    let read = rw c.in-Some-2.is at (c.in_ok-siblings.ensures.read siblings is.are_hashes is.few head.2) in
    (head.0, head.1, read)

pub returns-in-None-clause-read : goal.returns-in-None-clause-read
returns-in-None-clause-read c index hash siblings is same =
    let head =
    c.in-Some.ensures.read index hash (flat_map sibling_line siblings) is.below is.is_hash
    (sym same ∙ in_lines index hash siblings) in
    rw c.in-None.is at (c.in_ok-siblings.ensures.read siblings is.are_hashes is.few head.2)
