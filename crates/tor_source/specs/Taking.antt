-- Parts that are kept one after the other are kept as one.
use Rattle.std.proofs.Common.{◌≡◌, ℕ, List, [], ◌++◌, sym, ap, ◌∙◌, append_assoc, Vec, Global}
use Rattle.std.proofs.lemmas.List.{append-nil}

joined : (s t u front rest : List ℕ) → t ≡ s ++ front → u ≡ t ++ rest → u ≡ s ++ (front ++ rest)
joined s t u front rest first second = second ∙ ap (λ bytes. bytes ++ rest) first ∙ append_assoc s front rest

pub kept_none : (s : Vec ℕ Global) → s.items ≡ s.items ++ []
kept_none s = sym (append-nil s.items)

pub kept_both : (s t u : Vec ℕ Global) (front rest : List ℕ) → t.items ≡ s.items ++ front → u.items ≡ t.items ++ rest
    → u.items ≡ s.items ++ (front ++ rest)
kept_both s t u front rest first second = joined s.items t.items u.items front rest first second
