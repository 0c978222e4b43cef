-- The segments of the first lines.
use Rattle.std.proofs.Common.{◌≡◌, refl, ℕ, List, ◌++◌, length, codes}
use Rattle.std.specs.Prelude.{decimal}
use Rattle.tor_spec.specs.valid.View.{View}
use Rattle.tor_report.specs.Shown.{head_lines}
use Rattle.tor_report.specs.Spelled.{spelled}
use Rattle.tor_report.specs.Words.{word_of}
use Rattle.tor_report.specs.declared.spelling.Spelling.TheVariants.{InLine}

pub head_segments : (view : View) (kind name : List ℕ) (piece_length pieces files : ℕ) → kind ≡ word_of view.kind
    → name ≡ view.name → piece_length ≡ view.piece_length → pieces ≡ view.piece_count → files ≡ length view.files
    → codes "kind " ++ (kind ++ (codes "\nname " ++ (spelled InLine name ++ (codes "\npiece length "
    ++ (decimal piece_length ++ (codes "\npieces " ++ (decimal pieces ++ (codes "\nfiles " ++ (decimal files
    ++ codes "\n"))))))))) ≡ head_lines view
head_segments view kind name piece_length pieces files a b c d e = rw (a, b, c, d, e) refl
