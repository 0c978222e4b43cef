-- The sides of a made hybrid agree.
use Rattle.tor_spec.proofs.Names.{◌≡◌, ℕ, ◌==◌, Bool, true, false, not, ◌&&◌, ◌||◌, List, [], ◌∷◌, map, length}
use Rattle.tor_spec.proofs.Names.{refl, ap, ap₂, ◌∙◌, and_from, and_right, eq-eqb, or_from, lists_equiv}
use Rattle.tor_spec.proofs.Names.{nat_list_eq_equiv, nat_lt, if◌then◌else◌, Data, File, AreMade, sizes_of}
use Rattle.tor_spec.proofs.Names.{facts_of_files, Settings, is_aligned, layout_of, ListedFile, alignment}
use Rattle.tor_spec.proofs.Names.{attr_differs, attrs_of, some_letters_differ}
use Rattle.tor_spec.proofs.Names.{files_differ, has_wrong_tail, is_misaligned_after, last_size, listed_by_list}
use Rattle.tor_spec.proofs.Names.{listed_by_tree, same_files, tree_files, has_v1, path_eq, Hybrid}
use Rattle.tor_spec.proofs.Names.{TreeFile, padding_length, v1_entries, Layout, Joined, Aligned, AlignedTail}
use Rattle.tor_spec.proofs.Lettered.{no_letters_differ}
use Rattle.tor_spec.proofs.MadeHeads.{IsInfo, piece_length_told, tree_file}
use Rattle.tor_spec.proofs.BareSides.{bare_of, plain, same_alignment}
use Rattle.tor_spec.proofs.MadeListEntries.{listed_file}
use Rattle.tor_spec.proofs.MadeListSide.{layout_of_one, made_listed, made_side}
use Rattle.tor_spec.proofs.MadeSidesAligned.{all_aligned, right_tail, size_of_last}

-- the sides of a hybrid agree
pub record SidesAgree (info : Data) : Type 0 where
  pub files : files_differ info ≡ false
  pub aligned : alignment info ≡ false
  pub letters : attr_differs info ≡ false

abbrev Files : Type 0
Files = List (List (List ℕ) × ℕ)

listed_back : (files : List File)
    → map (λ (file : ListedFile). (file.path, file.size)) (map listed_file files) ≡ sizes_of files
listed_back [] = refl
listed_back (file ∷ files) = ap (λ more. (file.path, length file.content) ∷ more) (listed_back files)

tree_sizes : (files : List File)
    → map (λ (file : TreeFile). (file.path, file.length)) (map tree_file files) ≡ sizes_of files
tree_sizes [] = refl
tree_sizes (file ∷ files) = ap (λ more. (file.path, length file.content) ∷ more) (tree_sizes files)

same_as_itself : (files : Files) → same_files files files ≡ true
same_as_itself [] = refl
same_as_itself (file ∷ files) =
    and_from _ _
    (and_from (path_eq file.0 file.0) _ ((lists_equiv nat_list_eq_equiv).refl file.0) (eq-eqb file.1 file.1 refl))
    (same_as_itself files)

-- the files of a list of the v1 side begin where they are to, and its padding ends so
abbrev AreAligned : ℕ → List ListedFile → Type 0
AreAligned p side = (is_misaligned_after p [] side || has_wrong_tail p side) ≡ false

one_aligned : (p : ℕ) (files : List File) (name : List ℕ) → map (λ (file : File). file.path) files ≡ (name ∷ []) ∷ []
    → AreAligned p (map bare_of (v1_entries Joined p (sizes_of files)))
one_aligned p [] name paths = cc
one_aligned p (file ∷ []) name paths =
    let n = length file.content in
    or_from _ _ (or_from (nat_lt 0 n && false) false (and_right (nat_lt 0 n) false refl) refl)
    (ap (λ tail. not (tail == 0 || tail == padding_length p (last_size (plain (file.path, n) ∷ []))))
    (size_of_last n 0 refl))
one_aligned p (file ∷ more ∷ files) name paths = cc

module _ (settings : Settings) (files : List File) (pieces : List ℕ) (info : Data)
    (is : IsInfo settings (facts_of_files settings.piece_length files) pieces info) (made : AreMade settings files)
    (hybrid : settings.kind ≡ Hybrid) where
  sides_aligned : (single : Bool) → settings.single ≡ single
      → AreAligned settings.piece_length
      (map bare_of (v1_entries (layout_of settings) settings.piece_length (sizes_of files)))
  sides_aligned true e =
      ap (λ layout. is_misaligned_after settings.piece_length []
      (map bare_of (v1_entries layout settings.piece_length (sizes_of files)))
      || has_wrong_tail settings.piece_length
      (map bare_of (v1_entries layout settings.piece_length (sizes_of files)))) (layout_of_one settings e)
      ∙ one_aligned settings.piece_length files settings.name (made.single e)
  sides_aligned false e =
      let tailed : Layout = if settings.tail then AlignedTail else Aligned in
      let aligned : layout_of settings ≡ tailed =
      ap₂ (λ kind single. if is_aligned kind single then tailed else Joined) hybrid e in
      ap (λ layout. is_misaligned_after settings.piece_length []
      (map bare_of (v1_entries layout settings.piece_length (sizes_of files)))
      || has_wrong_tail settings.piece_length
      (map bare_of (v1_entries layout settings.piece_length (sizes_of files)))) aligned
      ∙ by_tail settings.tail
    where
      by_tail : (tail : Bool) → AreAligned settings.piece_length
          (map bare_of (v1_entries (if tail then AlignedTail else Aligned) settings.piece_length (sizes_of files)))
      by_tail true =
          or_from _ _ (all_aligned true settings.piece_length (sizes_of files) [] (λ some. refl))
          (right_tail true settings.piece_length (sizes_of files))
      by_tail false =
          or_from _ _ (all_aligned false settings.piece_length (sizes_of files) [] (λ some. refl))
          (right_tail false settings.piece_length (sizes_of files))

  made_aligned : alignment info ≡ false
  made_aligned =
      ap₂ (λ p side. is_misaligned_after p [] side || has_wrong_tail p side)
      (piece_length_told settings _ pieces info is) (made_side settings files pieces info is made (ap has_v1 hybrid))
      ∙ same_alignment settings.piece_length (attrs_of files)
      (v1_entries (layout_of settings) settings.piece_length (sizes_of files))
      ∙ sides_aligned settings.single refl

  made_files : listed_by_tree info ≡ sizes_of files → files_differ info ≡ false
  made_files tree =
      let list : listed_by_list info ≡ sizes_of files =
      ap (map (λ (file : ListedFile). (file.path, file.size)))
      (made_listed settings files pieces info is made (ap has_v1 hybrid)) ∙ listed_back files in
      ap₂ (λ one other. not (same_files one other)) list tree ∙ ap not (same_as_itself (sizes_of files))

  made_letters : tree_files info ≡ map tree_file files → attr_differs info ≡ false
  made_letters tree =
      ap₂ some_letters_differ (made_listed settings files pieces info is made (ap has_v1 hybrid)) tree
      ∙ no_letters_differ files

  -- where the tree has the files
  pub made_sides_of_tree : tree_files info ≡ map tree_file files → SidesAgree info
  made_sides_of_tree tree = record {
    files = made_files (ap (map (λ (file : TreeFile). (file.path, file.length))) tree ∙ tree_sizes files);
    aligned = made_aligned;
    letters = made_letters tree;
  }
