use Rattle.tor_check.proofs.Names.{◌≡◌, ap, arith, rules, sym, ◌∙◌, ◌++◌, ◌∷◌, [], Some, take, take_all, size_of_listed}
use Rattle.tor_check.proofs.Names.{sized_files}
use Rattle.tor_check.proofs.SideLemmas.{sized_file, sized_padding}
use Rattle.tor_check.proofs.list_side.sized_files.Goals.{in-Some+in_ok-copy+in_ok-push, in_default}
use Rattle.tor_check.proofs.list_side.sized_files.Goals as goal

pub files-preserved : goal.files-preserved
files-preserved c = elim c.match-file.branch [
  | in-Some+in_ok-copy+in_ok-push w ↦
      let file = c.file-item.result in
      let before = sized_files (take c.files.file-index c.args.files.now) in
      let path : file.path ≡ Some w.in_ok-copy.field-0 = search rules in
      let size : w.unsigned_abs.result ≡ size_of_listed file = search rules in
      ap (λ sized. sized.items) w.sized-is ∙ w.in_ok-push.ensures.items
      ∙ ap (λ sized. sized ++ (w.in_ok-copy.field-0, w.unsigned_abs.result) ∷ []) c.files.invariant
      ∙ ap (λ n. before ++ (w.in_ok-copy.field-0, n) ∷ []) size
      ∙ sym (sized_file c.args.files.now c.files.file-index file w.in_ok-copy.field-0 (omega arith) path
      (sym c.file-item.is))
  | in_default w ↦
      ap (λ sized. sized.items) w.sized-is ∙ c.files.invariant
      ∙ sym (sized_padding c.args.files.now c.files.file-index c.file-item.result (omega arith) w.in_default.is
      (sym c.file-item.is))
]

pub returns : goal.returns
returns c = c.files.invariant ∙ ap sized_files (take_all c.files.file-index c.args.files.now (omega arith))
