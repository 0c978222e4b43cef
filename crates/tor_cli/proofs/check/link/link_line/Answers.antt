-- The link, with what is asked for, and a line feed.
use Rattle.std.proofs.Common.{◌≡◌, ◌++◌, ◌∙◌, List, ℕ, ap, ap₂, append_assoc, codes, Some, None}
use Rattle.std.specs.Prelude.{if◌then◌else◌}
use Rattle.tor_spec.specs.Hashes.{magnet_link}
use Rattle.tor_spec.specs.LinkWords.{link_word}
use Rattle.tor_spec.specs.valid.View.{View}
use Rattle.tor_cli.proofs.check.link.link_line.Goals as goal

-- the parts of a line, put together from the left
parted : (text link dn tr end : List ℕ) → text ≡ link ++ (dn ++ tr) → text ++ end ≡ link ++ (dn ++ (tr ++ end))
parted text link dn tr end is =
    ap (λ (front : List ℕ). front ++ end) is ∙ append_assoc link (dn ++ tr) end
    ∙ ap (λ (rest : List ℕ). link ++ rest) (append_assoc dn tr end)

pub returns : goal.returns
unfolding lib.Utf8.encode
returns c root is torrent =
    let words = c.args.words in
    let link = magnet_link c.args.judged.now.hashes in
    let named = c.name_in-name.ensures ∙ ap (λ (view : View). if words.name then Some view.name else None) is in
    let tracked = c.in_ok-tracker.ensures root torrent.torrent.lawful torrent.torrent.spelled in
    let written = c.in_ok-line.ensures
    ∙ ap₂ (λ dn tr. link ++ (link_word (codes "&dn=") dn ++ link_word (codes "&tr=") tr)) named tracked in
    c.in_ok-push.ensures.bytes ∙ parted _ link _ _ (codes "\n") written
