-- each path with the length at its place
use Rattle.std.proofs.Common.{◌≡◌, ◌∙◌, ℕ, List, ap, map, length, get_or}
use Rattle.std.proofs.lemmas.List.{length-map}
use Rattle.std.proofs.lemmas.List.FromFn.{length-enumerate_from}
use Rattle.std.specs.List.{enumerate_from}
use Rattle.tor_meta.proofs.StreamSums.{paired}
use Rattle.tor_meta.proofs.from_streams.with_lengths.Goals as goal

pub returns-in-Ok-clause-list : goal.returns-in-Ok-clause-list
returns-in-Ok-clause-list c = λ names same.
    let lengths = c.args.lengths.now in
    let long : length lengths ≡ length names = c.requires ∙ ap length same
    ∙ length-map (enumerate_from 0 names) (λ (p : ℕ × List (List ℕ)). (p.1, p.0)) ∙ length-enumerate_from 0 names in
    ap (λ list. list.files) c.in-Ok.ensures.files
    ∙ ap (λ entries. map (λ (entry : List (List ℕ) × ℕ). (entry.0, get_or lengths entry.1 0)) entries) same
    ∙ paired names lengths long
