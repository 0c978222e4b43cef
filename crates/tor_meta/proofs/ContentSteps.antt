-- The files of a list, with contents of their lengths, and the facts that those tell.
use Rattle.std.proofs.Common.{◌≡◌, ℕ, ◌≤◌, Bor, true, false, Bool, List, [], ◌∷◌, length}
use Rattle.std.proofs.Common.{map, refl, sym, ap, ◌∙◌, arith}
use Rattle.std.specs.List.{All, AllByRecursion, AllZip}
use Rattle.std.proofs.lemmas.List.{length-map}
use Rattle.std.proofs.lemmas.List.Elements.{All-from_recursion, recursion_from_All}
use Rattle.tor_merkle.specs.Layer.{piece_layer}
use Rattle.tor_meta.specs.steps.Contents.{bytes_of, files_of}
use Rattle.tor_meta.specs.Head.{settings_of}
use Rattle.tor_meta.specs.steps.Sums.{AreFactsOf, HaveTrees, SumUp}
use Rattle.tor_meta.specs.declared.head.Head.{Head}
use Rattle.tor_sums.specs.declared.sums.Sums.{Sums}
use Rattle.tor_spec.specs.Facts.{Facts, File, attrs_in, listed, layers_in, roots_in}
use Rattle.tor_merkle.specs.Layer.{root_of}
use Rattle.tor_spec.specs.Metainfo.{facts_of_files, pieces_of_files, root_dictionary}
use Rattle.tor_spec.specs.Settings.{Settings}
use Rattle.tor_tree.specs.Kinds.{has_v1}
use Rattle.tor_tree.specs.FileList.{LetteredFiles, lengths_of}
use Rattle.tor_tree.specs.declared.attr.Attr.{Attr}
use Rattle.tor_tree.specs.TidyTree.{HasItsRoot}

root_there : (path : List (List ℕ)) (content : List ℕ) (n : ℕ) → length content ≡ n
    → HasItsRoot (path, n) (root_of content)
root_there path [] n e = ((λ h. cc), (λ lt. absurd (omega arith)))
root_there path (byte ∷ bytes) n e = ((λ h. omega arith), (λ lt. refl))

pub roots_there : (files : List (List (List ℕ) × ℕ)) (contents : List (List ℕ)) → map length contents ≡ lengths_of files
    → AllZip HasItsRoot files (map root_of contents)
roots_there [] [] e = tt
roots_there [] (content ∷ contents) e = cc
roots_there (file ∷ files) [] e = cc
roots_there (file ∷ files) (content ∷ contents) e =
    let first : length content ≡ file.1 = cc in
    let rest : map length contents ≡ lengths_of files = cc in
    (root_there file.0 content file.1 first, roots_there files contents rest)

-- what files of a list with contents are told as
pub record AreTold (p : ℕ) (files : List (List (List ℕ) × ℕ)) (attrs : List Attr) (contents : List (List ℕ))
    (made : List File) : Type 0 where
  pub listed : listed (facts_of_files p made) ≡ files
  pub lettered : attrs_in (facts_of_files p made) ≡ attrs
  pub rooted : roots_in (facts_of_files p made) ≡ map root_of contents
  pub layered : layers_in (facts_of_files p made) ≡ map (λ content. piece_layer content p) contents
  pub held : map (λ (file : File). file.content) made ≡ contents

pub contents_listed : (p : ℕ) (files : List (List (List ℕ) × ℕ)) (attrs : List Attr) (contents : List (List ℕ))
    → length attrs ≡ length files → map length contents ≡ lengths_of files
    → AreTold p files attrs contents (files_of (record { files = files; attrs = attrs }) contents)
contents_listed p [] [] [] many e =
    record { listed = refl; lettered = refl; rooted = refl; layered = refl; held = refl }
contents_listed p [] (attr ∷ attrs) contents many e = absurd (omega (arith, many))
contents_listed p [] [] (content ∷ contents) many e = cc
contents_listed p (file ∷ files) [] contents many e = absurd (omega (arith, many))
contents_listed p (file ∷ files) (attr ∷ attrs) [] many e = cc
contents_listed p (file ∷ files) (attr ∷ attrs) (content ∷ contents) many e =
    let first : length content ≡ file.1 = cc in
    let rest = contents_listed p files attrs contents (omega (arith, many)) cc in
    record {
      listed = rw (first, rest.listed) refl;
      lettered = ap (λ (xs : List Attr). attr ∷ xs) rest.lettered;
      rooted = ap (λ rs. root_of content ∷ rs) rest.rooted;
      layered = ap (λ ls. piece_layer content p ∷ ls) rest.layered;
      held = ap (λ cs. content ∷ cs) rest.held;
    }

pub have_trees : (head : Head) (files : List (List (List ℕ) × ℕ)) (contents : List (List ℕ)) (sums : Sums)
    → map length contents ≡ lengths_of files → SumUp head files contents sums → HaveTrees head files sums
have_trees head files contents sums same up = record {
  rooted = λ e. rw (up.roots e) (roots_there files contents same);
  layered = λ e. simp length-map at (ap length (up.layers e)) ∙ simp length-map at (ap length same);
}

pub told_facts : (head : Head) (list : LetteredFiles) (contents : List (List ℕ)) (sums : Sums)
    → length list.attrs ≡ length list.files → map length contents ≡ lengths_of list.files
    → SumUp head list.files contents sums
    → AreFactsOf head list sums (facts_of_files head.piece_length (files_of list contents))
told_facts head list contents sums many same up =
    let told = contents_listed head.piece_length list.files list.attrs contents many same in
    record {
      is_listed = told.listed;
      is_lettered = told.lettered;
      is_rooted = λ e. told.rooted ∙ sym (up.roots e);
      is_layered = λ e. told.layered ∙ sym (up.layers e);
    }

pieces_matter_not : (settings : Settings) (facts : List Facts) (p q : List ℕ) → has_v1 settings.kind ≡ false
    → root_dictionary settings facts p ≡ root_dictionary settings facts q
pieces_matter_not settings facts p q e = rw e refl

-- the pieces of the torrent, where it has any
pub same_pieces : (head : Head) (list : LetteredFiles) (contents : List (List ℕ)) (sums : Sums)
    → length list.attrs ≡ length list.files → map length contents ≡ lengths_of list.files
    → SumUp head list.files contents sums
    → root_dictionary (settings_of head) (facts_of_files head.piece_length (files_of list contents)) sums.pieces.items
    ≡ root_dictionary (settings_of head) (facts_of_files head.piece_length (files_of list contents))
    (pieces_of_files (settings_of head) (files_of list contents))
same_pieces head list contents sums many same up = by_kind (has_v1 head.kind) refl
  where
    by_kind : (b : Bool) → has_v1 head.kind ≡ b
        → root_dictionary (settings_of head)
        (facts_of_files head.piece_length (files_of list contents)) sums.pieces.items
        ≡ root_dictionary (settings_of head) (facts_of_files head.piece_length (files_of list contents))
        (pieces_of_files (settings_of head) (files_of list contents))
    by_kind true e =
        let told = contents_listed head.piece_length list.files list.attrs contents many same in
        ap (root_dictionary (settings_of head) (facts_of_files head.piece_length (files_of list contents)))
        (up.pieces e ∙ rw (told.listed, told.held) refl)
    by_kind false e =
        pieces_matter_not (settings_of head)
        (facts_of_files head.piece_length (files_of list contents)) sums.pieces.items
        (pieces_of_files (settings_of head) (files_of list contents)) e

pub contents_small : (m : ℕ) (contents : List (Bor (List ℕ))) (files : List (List (List ℕ) × ℕ))
    → map length (bytes_of contents) ≡ lengths_of files → All (λ file. file.1 ≤ m) files
    → All (λ (content : Bor (List ℕ)). length content.now ≤ m) contents
contents_small m contents files same small =
    All-from_recursion _ contents (each contents files same (recursion_from_All _ files small))
  where
    each : (cs : List (Bor (List ℕ))) (fs : List (List (List ℕ) × ℕ)) → map length (bytes_of cs) ≡ lengths_of fs
        → AllByRecursion (λ file. file.1 ≤ m) fs
        → AllByRecursion (λ (content : Bor (List ℕ)). length content.now ≤ m) cs
    each [] fs e h = tt
    each (c ∷ cs) [] e h = cc
    each (c ∷ cs) (f ∷ fs) e h =
        let first : length c.now ≡ f.1 = cc in
        let rest : map length (bytes_of cs) ≡ lengths_of fs = cc in
        (omega (arith, first, h.0), each cs fs rest h.1)
