-- What a getter gives is the value in the rows.
use Rattle.std.proofs.Common.{◌≡◌, ◌∙◌, ap, refl, sym, ℕ, Bool, true, false, not, true≢false, List, None, Option, Some, Bor}
use Rattle.std.proofs.Common.{codes, option_map}
use Rattle.std.proofs.Math.Bool.{beq}
use Rattle.std.specs.Prelude.{◌&&◌, is_none, is_some}
use Rattle.clap.specs.Words.{first_of, first_value, one_text, rows_of}
use Rattle.clap.specs.declared.parser.matches.Found.{Found}
use Rattle.clap.proofs.WalkLemmas.{first_value-rows, one_text-rows}
use Rattle.tor_cli.specs.Words.{IsFlag}

pub found_text : (found : Found) (id : List ℕ) (got : Option (Bor (List ℕ))) (text : Bor (List ℕ))
    → option_map (λ s. s.now) got ≡ first_value found id → got ≡ Some text
    → first_of id (rows_of found) ≡ Some text.now
found_text found id got text gives is =
    sym (first_value-rows found id) ∙ sym gives ∙ ap (option_map (λ (s : Bor (List ℕ)). s.now)) is

-- a getter of a flag gives what the rows say
pub found_flag : (found : Found) (id : List ℕ) (flag given : Bool)
    → (one_text found id ≡ Some (codes "true") → flag ≡ true)
    → (one_text found id ≡ Some (codes "false") → flag ≡ false) → IsFlag (rows_of found) id given → flag ≡ given
found_flag found id flag true on off is = on (one_text-rows found id ∙ is)
found_flag found id flag false on off is = off (one_text-rows found id ∙ is)

-- a flag that is given exactly if something was not got
pub given_if_none : (flag none : Bool) (got : Option (Bor (List ℕ))) → not (beq flag none) ≡ false
    → is_some got ≡ not none → flag ≡ is_none got
given_if_none true true None same is = refl
given_if_none true true (Some text) same is = absurd (true≢false is)
given_if_none true false got same is = absurd (true≢false same)
given_if_none false true got same is = absurd (true≢false same)
given_if_none false false None same is = absurd (true≢false (sym is))
given_if_none false false (Some text) same is = refl

-- a flag that is given alone beside another one
pub beside_null : (null bad : Bool) → (null && not bad) ≡ false → null ≡ true → bad ≡ true
beside_null true true kept asked = refl
beside_null true false kept asked = absurd (true≢false kept)
beside_null false true kept asked = refl
beside_null false false kept asked = absurd (true≢false (sym asked))
