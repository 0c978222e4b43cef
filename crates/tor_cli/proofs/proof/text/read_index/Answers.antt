-- The digits of the index end with their line.
use Rattle.std.proofs.Common.{◌≡◌, ℕ, List, ◌++◌, codes, sym, ◌∙◌, ap, append_assoc}
use Rattle.std.proofs.lemmas.Option.{none-some, same_Some}
use Rattle.tor_bencode.specs.Spelling.{base_ten}
use Rattle.tor_cli.proofs.Numerals.{count_digits-base_ten}
use Rattle.tor_cli.proofs.proof.text.read_index.Goals as goal

-- the rest of the line, and what comes after it
line_of : (index : ℕ) (rest text : List ℕ) → text ≡ codes "index " ++ (base_ten index ++ codes "\n") ++ rest
    → text ≡ codes "index " ++ (base_ten index ++ (codes "\n" ++ rest))
line_of index rest text same =
    same ∙ ap (λ (xs : List ℕ). codes "index " ++ xs) (append_assoc (base_ten index) (codes "\n") rest)

pub returns-in_err-digits-clause-read : goal.returns-in_err-digits-clause-read
returns-in_err-digits-clause-read c index rest small same =
    let line = c.in_ok-line.ensures.read _ (line_of index rest c.args.text.now same) in
    let count = count_digits-base_ten index c.in_ok-line.line.now rest small line in
    absurd (c.in_err-digits.ensures.read (base_ten index) rest (sym (c.count_digits.ensures ∙ count)) line)

pub returns-in_err-read_number-clause-read : goal.returns-in_err-read_number-clause-read
returns-in_err-read_number-clause-read c index rest small same =
    let line = c.in_ok-line.ensures.read _ (line_of index rest c.args.text.now same) in
    let count = count_digits-base_ten index c.in_ok-line.line.now rest small line in
    let cut = c.in_ok-digits.ensures.read (base_ten index) rest (sym (c.count_digits.ensures ∙ count)) line in
    absurd (none-some index (c.in_err-read_number.ensures.read index small (sym cut.0)))

pub returns-clause-read : goal.returns-clause-read
returns-clause-read c index rest small same =
    let line = c.in_ok-line.ensures.read _ (line_of index rest c.args.text.now same) in
    let count = count_digits-base_ten index c.in_ok-line.line.now rest small line in
    let cut = c.in_ok-digits.ensures.read (base_ten index) rest (sym (c.count_digits.ensures ∙ count)) line in
    (same_Some c.in_ok-read_number.field-0 index (c.in_ok-read_number.ensures.read index small (sym cut.0)), cut.1)
