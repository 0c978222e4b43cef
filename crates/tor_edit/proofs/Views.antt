-- A dictionary, as it is seen.
use Rattle.tor_edit.proofs.Names.{◌≡◌, List, Vec, Global, rules, Bor, ℕ, dictionary, ItemRef, Dict, ref_lemmas, view}
use Rattle.tor_edit.proofs.Names.{pairs_view}

pub view-Dict : (pairs : Vec (Bor (List ℕ) × ItemRef) Global) → view (Dict pairs) ≡ dictionary (pairs_view pairs.items)
view-Dict pairs = search (rules, ref_lemmas)
