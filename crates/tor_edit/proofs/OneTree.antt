-- Bytes that are a torrent spell one tree.
use Rattle.tor_edit.proofs.Names.{◌≡◌, ◌∙◌, ◌++◌, ℕ, List, [], ap, subst, sym, Data, IsLawful, spelling}
use Rattle.tor_edit.proofs.Names.{no_spelling_begins_another, IsTorrentOf}

-- the tree that torrent spells is the one that is read of it
pub tree_of_torrent : (bytes : List ℕ) (root read : Data) → IsTorrentOf root bytes → IsLawful read
    → bytes ≡ spelling read → IsTorrentOf read bytes
tree_of_torrent bytes root read valid lawful spelled =
    let text : spelling root ++ [] ≡ spelling read ++ [] =
    ap (λ (text : List ℕ). text ++ []) (sym valid.spelled ∙ spelled) in
    subst (λ tree. IsTorrentOf tree bytes)
    (no_spelling_begins_another root read [] [] valid.lawful lawful text).0 valid
