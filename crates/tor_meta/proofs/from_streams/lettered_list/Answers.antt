-- there are as many letters as files
use Rattle.std.proofs.Common.{◌≡◌, ◌∙◌, ℕ, List, ap, length, sym}
use Rattle.std.proofs.lemmas.List.{length-map}
use Rattle.std.proofs.lemmas.List.FromFn.{length-enumerate_from}
use Rattle.std.specs.List.{enumerate_from}
use Rattle.tor_tree.specs.FileList.{paths_of}
use Rattle.tor_tree.specs.PathList.{with_indices}
use Rattle.tor_tree.specs.declared.attr.Attr.{Attr}
use Rattle.tor_meta.proofs.WithoutLetters.{length-zip}
use Rattle.tor_meta.proofs.from_streams.lettered_list.Goals as goal

as_many : (files : List (List (List ℕ) × Attr)) → length (with_indices (paths_of files)) ≡ length files
as_many files =
    length-map (enumerate_from 0 (paths_of files)) (λ (p : ℕ × List (List ℕ)). (p.1, p.0))
    ∙ length-enumerate_from 0 (paths_of files) ∙ length-map files (λ file. file.0)

pub with_lengths-requires : goal.with_lengths-requires
with_lengths-requires c = c.requires.counted ∙ sym (ap length c.requires.same ∙ as_many c.args.files.now)

pub with_attrs-requires : goal.with_attrs-requires
with_attrs-requires c =
    let files = c.args.files.now in
    let paths : length (paths_of files) ≡ length files = length-map files (λ file. file.0) in
    record {
      one_each =
          ap length c.in_ok-attrs.ensures ∙ length-map files (λ file. file.1)
          ∙ sym (ap length (c.in-Ok.ensures.list (paths_of files) c.requires.same)
          ∙ length-zip (paths_of files) c.args.lengths.now (c.requires.counted ∙ sym paths) ∙ paths);
    }
