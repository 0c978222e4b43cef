-- Parts that sums are fed one after the other are fed as one.
use Rattle.std.proofs.Common.{ℕ, List, [], ◌++◌, sym, subst, append_assoc}
use Rattle.std.proofs.lemmas.List.{append-nil}
use Rattle.tor_meta.specs.Fed.{Feeds, HasFed}
use Rattle.tor_meta.specs.declared.fed.FedSums.{FedSums}

-- the sums were fed these bytes after those that they had
abbrev pub takes_fed : FedSums → List ℕ → FedSums → Type 0
takes_fed s bytes t = Feeds s t bytes

pub fed_none : (s : FedSums) → takes_fed s [] s
fed_none s kind piece_length earlier given =
    subst (λ (bytes : List ℕ). HasFed s kind piece_length bytes) (sym (append-nil earlier)) given

pub fed_both : (s t u : FedSums) (front rest : List ℕ) → takes_fed s front t → takes_fed t rest u
    → takes_fed s (front ++ rest) u
fed_both s t u front rest first second kind piece_length earlier given =
    subst (λ (bytes : List ℕ). HasFed u kind piece_length bytes) (append_assoc earlier front rest)
    (second kind piece_length (earlier ++ front) (first kind piece_length earlier given))
