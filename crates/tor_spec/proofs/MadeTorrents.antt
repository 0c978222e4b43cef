-- What the maker's definition gives of files that it accepts is a valid torrent, which tells of those files.
use Rattle.tor_spec.proofs.Names.{List, refl, ap, File, info_dictionary, AreMade, IsViewOfMade, facts_of_files}
use Rattle.tor_spec.proofs.Names.{metainfo, pieces_of_files, root_dictionary, Settings, IsTorrentOf, view_of, has_v2}
use Rattle.tor_spec.proofs.LawfulTorrents.{torrents_are_lawful}
use Rattle.tor_spec.proofs.MadeConditions.{made_is_accepted}
use Rattle.tor_spec.proofs.MadeFacts.{made_is_makeable}
use Rattle.tor_spec.proofs.MadeHeads.{info_values, root_values}
use Rattle.tor_spec.proofs.MadeList.{made_list}
use Rattle.tor_spec.proofs.MadeListSide.{entries_shown, listed_shown}
use Rattle.tor_spec.proofs.MadeSides.{made_sides_of_tree}
use Rattle.tor_spec.proofs.MadeTree.{made_tree_files}
use Rattle.tor_spec.proofs.MadeView.{made_view}

pub made_torrents_are_valid : (settings : Settings) (files : List File) → AreMade settings files
    → IsTorrentOf
    (root_dictionary settings (facts_of_files settings.piece_length files) (pieces_of_files settings files))
    (metainfo settings files)
unfolding metainfo
made_torrents_are_valid settings files made =
    let facts = facts_of_files settings.piece_length files in
    let pieces = pieces_of_files settings files in
    let info = info_dictionary settings facts pieces in
    let is = info_values settings facts pieces in
    record {
      lawful = torrents_are_lawful settings facts pieces (made_is_makeable settings files made);
      spelled = refl;
      accepted = made_is_accepted settings files made pieces info (root_dictionary settings facts pieces) is
          (root_values settings facts pieces) refl (made_list settings files info is made)
          (λ hybrid. made_sides_of_tree settings files pieces info is made hybrid
          (made_tree_files settings files made pieces info is (ap has_v2 hybrid)));
    }

pub made_torrents_are_told : (settings : Settings) (files : List File) → AreMade settings files
    → IsViewOfMade settings files (view_of
    (root_dictionary settings (facts_of_files settings.piece_length files) (pieces_of_files settings files)))
made_torrents_are_told settings files made =
    let facts = facts_of_files settings.piece_length files in
    let pieces = pieces_of_files settings files in
    let info = info_dictionary settings facts pieces in
    let is = info_values settings facts pieces in
    made_view settings files made info (root_dictionary settings facts pieces) is (root_values settings facts pieces)
    (listed_shown settings files pieces info is made) (entries_shown settings files pieces info is made)
