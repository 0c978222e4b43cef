-- One more pair of a dictionary.
use Rattle.std.proofs.Common.{◌≡◌, ℕ, Vec, Global, List, [], ◌∷◌, ◌++◌, refl, ap, rules}
use Rattle.tor_bencode.specs.Data.{dictionary, pair}
use Rattle.tor_bencode.specs.View.{pairs_view, view}
use Rattle.tor_bencode.specs.declared.item.Item.{Dict, Item, the_lemmas}
use Rattle.tor_parts.specs.steps.Pairs.{with_pair}

pub pairs_view-push : (pairs : List (Vec ℕ Global × Item)) (more : Vec ℕ Global × Item)
    → pairs_view (pairs ++ more ∷ []) ≡ with_pair (pairs_view pairs) more.0.items (view more.1)
pairs_view-push [] more = refl
pairs_view-push (first ∷ pairs) more = ap (pair first.0.items (view first.1)) (pairs_view-push pairs more)

pub view-Dict : (pairs : Vec (Vec ℕ Global × Item) Global) → view (Dict pairs) ≡ dictionary (pairs_view pairs.items)
view-Dict pairs = search (rules, the_lemmas)
