-- What a maker answers, of the files that were handed in.
use Rattle.std.proofs.Common.{◌≡◌, ◌∙◌, ◌⊎◌, inl, inr, ℕ, Vec, Global, Bool, true, false, All, cond, List as ListOf, []}
use Rattle.std.proofs.Common.{length, get_or, map, option_map, None, Some, refl, sym, ap, ◌<◌}
use Rattle.std.proofs.lemmas.List.{length-map}
use Rattle.std.specs.Option.{option_or}
use Rattle.tor_meta.specs.Contents.{files_in, IsMadeOf}
use Rattle.tor_meta.specs.steps.Contents.{contents_at, files_of}
use Rattle.tor_meta.specs.Head.{settings_of}
use Rattle.tor_meta.specs.ListRefusal.{of_list_error}
use Rattle.tor_meta.specs.Refusal.{contents_refusal, paths_refusal}
use Rattle.tor_meta.specs.steps.Sums.{IsJudged}
use Rattle.tor_meta.specs.declared.head.Head.{Head}
use Rattle.tor_meta.specs.declared.refusals.ContentsError.{ContentsError}
use Rattle.tor_meta.specs.declared.refusals.ContentsError.TheVariants.{List, Memory}
use Rattle.tor_spec.specs.Metainfo.{metainfo}
use Rattle.tor_spec.specs.Settings.{Settings}
use Rattle.tor_tree.specs.FileList.{IsFileList, IsLetteredList, LetteredFiles, lengths_fault, lengths_of}
use Rattle.tor_tree.specs.FileList.{lengths_too_large}
use Rattle.tor_tree.specs.FileList.{without_letters}
use Rattle.tor_tree.specs.Letters.{no_letters}
use Rattle.tor_tree.specs.PathList.{AreIndexedPaths, IsPathList, indices_of}
use Rattle.tor_tree.specs.declared.lists.ListError.{ListError}
use Rattle.tor_tree.specs.declared.lists.ListError.TheVariants as faults
use Rattle.tor_meta.proofs.Judged.{judged}
use Rattle.tor_meta.proofs.Indexed.{files_moved, handed_lengths, handed_paths, lengths_at, or_first, or_second}
use Rattle.tor_meta.proofs.Indexed.{paths_moved, indices_within}

abbrev pub Handed : Type 0
Handed = ListOf (ListOf (ListOf ℕ) × Vec ℕ Global)

-- how long the contents are
abbrev pub lengths_in : ListOf (Vec ℕ Global) → ListOf ℕ
lengths_in contents = map (λ content. length content.items) contents

module _ (settings : Settings) (files : Handed) (paths : ListOf (ListOf (ListOf ℕ))) (contents : ListOf (Vec ℕ Global))
    (lengths : ListOf ℕ) (are_paths : paths ≡ map (λ file. file.0) files)
    (are_contents : contents ≡ map (λ file. file.1) files) (are_lengths : lengths ≡ lengths_in contents) where
  lengths_are : map (λ file. length file.content) (files_in files) ≡ lengths
  lengths_are = handed_lengths files ∙ sym (are_lengths ∙ ap lengths_in are_contents)

  paths_are : map (λ file. file.path) (files_in files) ≡ paths
  paths_are = handed_paths files ∙ sym are_paths

  same_refusal : contents_refusal settings (files_in files)
      ≡ option_or (paths_refusal settings paths) (option_map List (lengths_fault lengths))
  same_refusal = rw (paths_are, lengths_are) refl

  pub accepted_all : paths_refusal settings paths ≡ None → lengths_fault lengths ≡ None
      → contents_refusal settings (files_in files) ≡ None
  accepted_all a b = same_refusal ∙ or_second _ _ None a (ap (option_map List) b)

  pub refused_paths : (refusal : ContentsError) → (paths_refusal settings paths ≡ Some refusal) ⊎ (refusal ≡ Memory)
      → (contents_refusal settings (files_in files) ≡ Some refusal) ⊎ (refusal ≡ Memory)
  refused_paths refusal (inl e) = inl (same_refusal ∙ or_first _ _ refusal e)
  refused_paths refusal (inr e) = inr e

  only_too_large : (b : Bool) (fault : ListError) → cond b (Some faults.TooLarge) None ≡ Some fault
      → of_list_error fault ≡ List fault
  only_too_large true fault e = let is : faults.TooLarge ≡ fault = cc in rw (← is) refl
  only_too_large false fault e = cc

  pub refused_lengths : (fault : ListError) (refusal : ContentsError) → refusal ≡ of_list_error fault
      → paths_refusal settings paths ≡ None → (lengths_fault lengths ≡ Some fault) ⊎ (fault ≡ faults.Memory)
      → (contents_refusal settings (files_in files) ≡ Some refusal) ⊎ (refusal ≡ Memory)
  refused_lengths fault refusal is none (inl e) =
      inl (same_refusal
      ∙ or_second _ _ (Some refusal) none (ap (option_map List) e
      ∙ ap Some (sym (is ∙ only_too_large (lengths_too_large lengths) fault e))))
  refused_lengths fault refusal is none (inr e) = inr (is ∙ rw e refl)

  module _ (entries : ListOf (ListOf (ListOf ℕ) × ℕ)) (list : LetteredFiles) (indices : ListOf ℕ)
      (indexed : AreIndexedPaths paths entries)
      (is_list : list ≡ without_letters (map (λ entry. (entry.0, get_or lengths entry.1 0)) entries))
      (are_indices : indices ≡ indices_of entries) where
    pub within : All (λ index. index < length contents) indices
    within =
        let handed : length paths ≡ length files = ap length are_paths ∙ simp length-map in
        let held : length contents ≡ length files = ap length are_contents ∙ simp length-map in
        let count : length (indices_of entries) ≡ length contents =
        simp length-map (indexed.one_each ∙ handed ∙ sym held) in
        rw are_indices (indices_within (length contents) (indices_of entries) indexed.indices count)

    pub contents_listed : (ordered : ListOf (ListOf ℕ)) → ordered ≡ contents_at contents indices
        → map length ordered ≡ lengths_of list.files
    contents_listed ordered is = rw (is, is_list, are_indices, are_lengths) (lengths_at contents entries)

    pub made_of : IsPathList entries → (ordered : ListOf (ListOf ℕ)) (bytes : ListOf ℕ)
        → ordered ≡ contents_at contents indices → bytes ≡ metainfo settings (files_of list ordered)
        → IsMadeOf settings (files_in files) bytes
    made_of lawful ordered bytes is made = (
      files_of list ordered,
      rw (is, is_list, are_indices, are_lengths, are_contents) (files_moved files entries (rw are_paths at indexed)),
      rw (is, is_list, are_indices)
          (rw
          (paths_moved (λ k. get_or lengths k 0) (λ k. get_or (map (λ content. content.items) contents) k [])
          (without_letters (map (λ entry. (entry.0, get_or lengths entry.1 0)) entries)).attrs entries
          (length-map _ (λ file. no_letters) ∙ length-map entries (λ entry. (entry.0, get_or lengths entry.1 0))))
          lawful.in_order),
      made,
    )

pub files_lawful : (list : LetteredFiles) → IsLetteredList list → IsFileList list.files
files_lawful list is = is.lawful

pub judged_list : (head : Head) (paths : ListOf (ListOf (ListOf ℕ))) (lengths : ListOf ℕ)
    (entries list : ListOf (ListOf (ListOf ℕ) × ℕ)) → AreIndexedPaths paths entries
    → paths_refusal (settings_of head) paths ≡ None
    → list ≡ map (λ entry. (entry.0, get_or lengths entry.1 0)) entries → IsFileList list → IsJudged head list
judged_list head paths lengths entries list indexed accepted is lawful =
    rw is (judged head paths (λ k. get_or lengths k 0) entries indexed accepted (rw is at lawful))
