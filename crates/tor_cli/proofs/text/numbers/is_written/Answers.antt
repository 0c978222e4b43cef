-- What is printed for the number is its shortest digits.
use Rattle.std.proofs.Common.{ℕ, List, sym, ◌∙◌, ap, arith}
use Rattle.std.specs.Str.{bytes_eq}
use Rattle.std.proofs.lemmas.Slice.Eq.{bytes_eq-Decides}
use Rattle.tor_cli.proofs.Numerals.{base_ten_decimal}
use Rattle.tor_bencode.specs.Spelling.{base_ten}
use Rattle.tor_cli.proofs.text.numbers.is_written.Goals as goal

pub returns : goal.returns
returns c =
    let printed =
    c.as_bytes.ensures.value ∙ c.format.ensures.text ∙ sym (base_ten_decimal c.args.n (omega arith)) in
    let tested = c.eq.ensures ∙ ap (λ (xs : List ℕ). bytes_eq xs c.args.text.now) printed in
    rw tested (bytes_eq-Decides (base_ten c.args.n) c.args.text.now)
