-- What comes after a beginning.
use Rattle.std.proofs.Common.{◌≡◌, ◌≢◌, ℕ, List, ◌++◌, Option, None, Some, Bor, sym, ◌∙◌}
use Rattle.std.specs.Prelude.{IfSome, MatchOption}
use Rattle.std.specs.Option.{IsSomeAnd}
use Rattle.std.proofs.lemmas.List.{append_cancel_left}

-- an answer where and only where the text begins so
abbrev pub IsAfter : List ℕ → List ℕ → Option (Bor (List ℕ)) → Type 0
IsAfter beginning text answer =
    MatchOption answer ((rest : List ℕ) → text ≢ beginning ++ rest) (λ x. text ≡ beginning ++ x.now)

pub after-written : (beginning text : List ℕ) (answer : Option (Bor (List ℕ))) → IsAfter beginning text answer
    → IfSome answer (λ rest. text ≡ beginning ++ rest.now)
after-written beginning text None h = tt
after-written beginning text (Some x) h = h

pub after-read : (beginning text rest : List ℕ) (answer : Option (Bor (List ℕ))) → IsAfter beginning text answer
    → text ≡ beginning ++ rest → IsSomeAnd answer (λ r. r.now ≡ rest)
after-read beginning text rest None h same = h rest same
after-read beginning text rest (Some x) h same = append_cancel_left beginning x.now rest (sym h ∙ same)
