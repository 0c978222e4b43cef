use Rattle.std.proofs.Common.{◌≡◌, ℕ, List, [], ◌∷◌, length, get_or, ◌∙◌, ◌<◌, ◌≤◌, ap, sym, refl, arith}
use Rattle.std.specs.Prelude.{Some}
use Rattle.tor_spec.specs.InfoDictionary.{total_size}
use Rattle.tor_meta.proofs.Listed.{one_size}
use Rattle.tor_meta.proofs.fields.info.only_length.Goals as goal

-- a list of one file
only_file : (files : List (List (List ℕ) × ℕ)) (d : List (List ℕ) × ℕ) → 1 ≤ length files → length files < 2
    → files ≡ get_or files 0 d ∷ []
only_file [] d some few = absurd (omega arith)
only_file (file ∷ []) d some few = refl
only_file (file ∷ other ∷ files) d some few = absurd (omega arith)

pub returns : goal.returns
returns c = λ facts is_listed.
    let d = c.index-files-0.result in
    let size : total_size facts ≡ (get_or c.args.files.now 0 d).1 =
    one_size facts (get_or c.args.files.now 0 d) (is_listed
    ∙ only_file c.args.files.now d c.in-len1.len_at_least c.in-len1.len_below) in
    rw (sym c.if-not-has_v1.ensures, c.if-not-head.false, size) (ap Some c.number.ensures)
