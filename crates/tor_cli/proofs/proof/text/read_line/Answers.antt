-- The digits of the hash end with their line.
use Rattle.std.proofs.Common.{◌≡◌, ℕ, List, ◌++◌, codes, sym, ◌∙◌, append_assoc}
use Rattle.std.proofs.lemmas.Option.{none-some, same_Some}
use Rattle.hex.specs.Hex.{encode_lower}
use Rattle.tor_cli.specs.proof.ProofText.{hash_line}
use Rattle.tor_cli.proofs.HashDigits.{length-digits}
use Rattle.tor_cli.proofs.proof.text.read_line.Goals as goal

-- the rest of the line, and what comes after it
line_of : (word hash rest text : List ℕ) → text ≡ hash_line word hash ++ rest
    → text ≡ word ++ (encode_lower hash ++ (codes "\n" ++ rest))
line_of word hash rest text same = same ∙ simp append_assoc

pub returns-in_err-digits-clause-read : goal.returns-in_err-digits-clause-read
returns-in_err-digits-clause-read c hash rest h same =
    let line = c.in_ok-after.ensures.read _ (line_of c.args.word.now hash rest c.args.text.now same) in
    absurd (c.in_err-digits.ensures.read (encode_lower hash) rest (length-digits hash h.size) line)

pub returns-in_err-read_hash-clause-read : goal.returns-in_err-read_hash-clause-read
returns-in_err-read_hash-clause-read c hash rest h same =
    let line = c.in_ok-after.ensures.read _ (line_of c.args.word.now hash rest c.args.text.now same) in
    let cut = c.in_ok-digits.ensures.read (encode_lower hash) rest (length-digits hash h.size) line in
    absurd (none-some hash (c.in_err-read_hash.ensures.read hash h (sym cut.0)))

pub returns-clause-read : goal.returns-clause-read
returns-clause-read c hash rest h same =
    let line = c.in_ok-after.ensures.read _ (line_of c.args.word.now hash rest c.args.text.now same) in
    let cut = c.in_ok-digits.ensures.read (encode_lower hash) rest (length-digits hash h.size) line in
    (same_Some c.in_ok-read_hash.field-0 hash (c.in_ok-read_hash.ensures.read hash h (sym cut.0)), cut.1)
