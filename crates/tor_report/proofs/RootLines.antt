-- The lines of roots, file by file.
use Rattle.std.proofs.Common.{◌≡◌, ◌∙◌, sym, ap, ℕ, suc, ◌+◌, ◌<◌, ◌≤◌, List, [], ◌∷◌, ◌++◌, length, take, drop}
use Rattle.std.proofs.Common.{append-nil, append_assoc, arith, get_or}
use Rattle.std.proofs.lemmas.List.{length-take-le, take-append-drop, take_all}
use Rattle.tor_spec.specs.valid.View.{FileView}
use Rattle.tor_report.proofs.Texts.{take_more}
use Rattle.tor_report.specs.Shown.{root_line, root_lines}

lines_of_both : (n : ℕ) (xs ys : List FileView) → root_lines n (xs ++ ys)
    ≡ root_lines n xs ++ root_lines (n + length xs) ys
lines_of_both n [] ys = ap (λ k. root_lines k ys) (omega arith)
lines_of_both n (x ∷ xs) ys =
    let next : suc n + length xs ≡ n + suc (length xs) = omega arith in
    ap (λ (rest : List ℕ). root_line n x.file.root ++ rest)
    (lines_of_both (suc n) xs ys ∙ ap (λ k. root_lines (suc n) xs ++ root_lines k ys) next)
    ∙ sym (append_assoc (root_line n x.file.root) (root_lines (suc n) xs) (root_lines (n + suc (length xs)) ys))

module _ (files : List FileView) (n : ℕ) (x : FileView) (within : n < length files) (is : x ≡ get_or files n x) where
  taken : 0 + length (take n files) ≡ n
  taken = let size = length-take-le n files (omega (arith, within)) in omega (arith, size)

  counted : 0 + length (take (n + 1) files) ≡ n + 1
  counted = let size = length-take-le (n + 1) files (omega (arith, within)) in omega (arith, size)

  -- the line of one more file
  pub root_more : root_lines 0 (take n files) ++ root_line n x.file.root ≡ root_lines 0 (take (n + 1) files)
  root_more =
      ap (λ (text : List ℕ). root_lines 0 (take n files) ++ text) (sym (append-nil (root_line n x.file.root)))
      ∙ ap (λ k. root_lines 0 (take n files) ++ root_lines k (x ∷ [])) (sym taken)
      ∙ sym (lines_of_both 0 (take n files) (x ∷ []))
      ∙ ap (λ (fs : List FileView). root_lines 0 fs) (sym (take_more files n x within is))

  -- and those of the files after it
  pub root_rest : root_lines 0 (take n files) ++ (root_line n x.file.root ++ root_lines (n + 1) (drop (n + 1) files))
      ≡ root_lines 0 files
  root_rest =
      sym (append_assoc (root_lines 0 (take n files)) (root_line n x.file.root)
      (root_lines (n + 1) (drop (n + 1) files)))
      ∙ ap (λ (text : List ℕ). text ++ root_lines (n + 1) (drop (n + 1) files)) root_more
      ∙ ap (λ k. root_lines 0 (take (n + 1) files) ++ root_lines k (drop (n + 1) files)) (sym counted)
      ∙ sym (lines_of_both 0 (take (n + 1) files) (drop (n + 1) files))
      ∙ ap (λ (fs : List FileView). root_lines 0 fs) (take-append-drop (n + 1) files)

pub root_all : (files : List FileView) (n : ℕ) → length files ≤ n
    → root_lines 0 (take n files) ≡ root_lines 0 files
root_all files n past = ap (λ (fs : List FileView). root_lines 0 fs) (take_all n files past)
