-- The first fault at an offset, over a list that grows.
use Rattle.std.proofs.Common.{◌≡◌, ◌<◌, ◌∷◌, [], ℕ, List, Option, None, Some, false, length, take, get_or, refl, suc}
use Rattle.std.proofs.Math.Seq.{take-suc}
use Rattle.std.proofs.lemmas.List.Folds.{find-append}
use Rattle.std.specs.List.{find}
use Rattle.std.specs.Option.{option_map, option_or}
use Rattle.tor_source.specs.Sources.{first_fault, is_at}

-- a search that found nothing, and is not at one more element
missed : {X Y : Type 0} (f : X → Y) (x : Option X) → option_map f x ≡ None → option_map f (option_or x None) ≡ None
missed f None e = refl
missed f (Some x) e = e

-- neither the first faults of a list are at an offset nor the one after them
pub first_fault-suc : (faults : List (ℕ × Option ℕ × ℕ)) (i : ℕ) (d : ℕ × Option ℕ × ℕ) (file : ℕ) (offset : Option ℕ)
    → i < length faults → first_fault (take i faults) file offset ≡ None
    → is_at file offset (get_or faults i d) ≡ false → first_fault (take (suc i) faults) file offset ≡ None
first_fault-suc faults i d file offset inside none other =
    rw (take-suc faults i d inside, find-append (is_at file offset) (take i faults) (get_or faults i d ∷ []), other)
    (missed (λ fault. fault.2) (find (is_at file offset) (take i faults)) none)
