-- The values are those in the rows.
use Rattle.std.proofs.Common.{◌∙◌, ap, sym, [], ℕ, List, Option, codes, map, unwrap_or, Bor}
use Rattle.std.proofs.lemmas.Result.{IfOk-weaker}
use Rattle.clap.specs.Words.{found_of}
use Rattle.clap.proofs.WalkLemmas.{raw_values-rows}
use Rattle.tor_cli.proofs.lots.join_words.parts_in.Goals as goal

pub returns-in-Some : goal.returns-in-Some
returns-in-Some c =
    let told = c.in-Some.ensures ∙ raw_values-rows (found_of c.args.matches.now) (codes "part") in
    IfOk-weaker c.from_slice.result _ _
    (λ parts same. ap (λ (values : Option (List (List ℕ))). unwrap_or values []) (sym told)
    ∙ ap (map (λ (part : Bor (List ℕ)). part.now)) (sym same)) c.from_slice.ensures.items

pub returns-in-None : goal.returns-in-None
returns-in-None c =
    let told = c.in-None.ensures ∙ raw_values-rows (found_of c.args.matches.now) (codes "part") in
    ap (λ (values : Option (List (List ℕ))). unwrap_or values []) (sym told)
    ∙ ap (map (λ (part : Bor (List ℕ)). part.now)) (sym c.new.ensures.items)
