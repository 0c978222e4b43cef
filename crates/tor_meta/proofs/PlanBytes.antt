-- A plan has bytes.
use Rattle.std.proofs.Common.{◌<◌, ◌++◌, arith, codes, length}
use Rattle.std.proofs.lemmas.List.{length-append}
use Rattle.tor_bencode.specs.Spelling.{pairs_spelling}
use Rattle.tor_meta.specs.PlanText.{PlanText, plan_bytes, plan_fields}
use Rattle.tor_spec.specs.Dictionary.{present}

pub some_bytes : (text : PlanText) → 0 < length (plan_bytes text)
unfolding plan_bytes
some_bytes text =
    let inner = pairs_spelling (present (plan_fields text)) in
    omega (arith, length-append (codes "d" ++ inner) (codes "e"), length-append (codes "d") inner)
