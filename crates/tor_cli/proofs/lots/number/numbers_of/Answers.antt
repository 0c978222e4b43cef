-- The digits of the first number end at the slash.
use Rattle.std.proofs.Common.{sym, refl, ◌∙◌}
use Rattle.std.proofs.lemmas.Option.{none-some, same_Some}
use Rattle.tor_bencode.specs.Spelling.{base_ten}
use Rattle.tor_cli.proofs.Numerals.{count_digits-before}
use Rattle.tor_cli.proofs.lots.number.numbers_of.Goals as goal

pub returns-in_err-number-clause-read : goal.returns-in_err-number-clause-read
returns-in_err-number-clause-read c k n small_k small_n same =
    let count = count_digits-before 47 k c.args.text.now (base_ten n) refl small_k same in
    absurd (c.in_err-number.ensures.read (base_ten k) (base_ten n) (sym (c.count_digits.ensures ∙ count)) same)

pub returns-in_err-read_number-clause-read : goal.returns-in_err-read_number-clause-read
returns-in_err-read_number-clause-read c k n small_k small_n same =
    let count = count_digits-before 47 k c.args.text.now (base_ten n) refl small_k same in
    let cut = c.in_ok-number.ensures.read (base_ten k) (base_ten n) (sym (c.count_digits.ensures ∙ count)) same in
    absurd (none-some k (c.in_err-read_number.ensures.read k small_k (sym cut.0)))

pub returns-in_err-read_number-2-clause-read : goal.returns-in_err-read_number-2-clause-read
returns-in_err-read_number-2-clause-read c k n small_k small_n same =
    let count = count_digits-before 47 k c.args.text.now (base_ten n) refl small_k same in
    let cut = c.in_ok-number.ensures.read (base_ten k) (base_ten n) (sym (c.count_digits.ensures ∙ count)) same in
    absurd (none-some n (c.in_err-read_number-2.ensures.read n small_n (sym cut.1)))

pub returns-clause-read : goal.returns-clause-read
returns-clause-read c k n small_k small_n same =
    let count = count_digits-before 47 k c.args.text.now (base_ten n) refl small_k same in
    let cut = c.in_ok-number.ensures.read (base_ten k) (base_ten n) (sym (c.count_digits.ensures ∙ count)) same in
    let first = same_Some c.in_ok-read_number.field-0 k (c.in_ok-read_number.ensures.read k small_k (sym cut.0)) in
    let second = same_Some c.in_ok-read_number-2.field-0 n (c.in_ok-read_number-2.ensures.read n small_n (sym cut.1)) in
    rw (first, second) refl
