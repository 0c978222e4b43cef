-- No record has a float.
use Rattle.std.proofs.Common.{◌≡◌, false, refl, ℕ, List, [], ◌∷◌, map}
use Rattle.std.specs.Prelude.{Vec}
use Rattle.std.specs.declared.alloc.Global.{Global}
use Rattle.serde_json.specs.Data.{object}
use Rattle.serde_json.specs.View.{items_of}
use Rattle.serde_json.specs.Written.{has_float, items_have_float}
use Rattle.tor_cli.specs.recheck.Extra.{extra_data, extra_members}

in_extra : (extra : List (Vec ℕ Global)) → items_have_float (items_of (map extra_data extra)) ≡ false
in_extra [] = refl
in_extra (path ∷ extra) = in_extra extra

pub no_float_in_extra : (extra : List (Vec ℕ Global)) → has_float (object (extra_members extra)) ≡ false
no_float_in_extra extra = rw (in_extra extra) refl
