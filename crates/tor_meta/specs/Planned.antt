-- The plan of the files of a source: what it is of, and of what its faults are.
use Rattle.std.specs.Prelude.{◌≡◌, ℕ, List, None, Some, length, map, slice_index}
use Rattle.tor_meta.specs.Make.{letters_at, listed_files}
use Rattle.tor_meta.specs.Order.{settings_of_order}
use Rattle.tor_meta.specs.PlanText.{PlanText, plan_bytes}
use Rattle.tor_meta.specs.declared.make_error.MakeError.{MakeError}
use Rattle.tor_meta.specs.declared.make_error.MakeError.TheVariants.{Hashing}
use Rattle.tor_meta.specs.declared.order.Order.{Order}
use Rattle.tor_source.specs.Answers.{Answers}
use Rattle.tor_source.specs.Source.{SourceFacts}
use Rattle.tor_sums.specs.Given.{HasToldLengths}
use Rattle.tor_sums.specs.declared.errors.EngineError.TheVariants as engine
use Rattle.tor_tree.specs.FileList.{IsInPathOrder, list_fault, paths_of}
use Rattle.tor_tree.specs.PathList.{AreIndexedPaths, indices_of}
use Rattle.tor_tree.specs.declared.attr.Attr.{Attr}

-- what the plan of an order tells of files with these paths and lengths. The entries are the paths in order, each with
-- the index of its file, of which the file has the letters (profile)
abbrev pub planned : Order → List (List (List ℕ) × Attr) → List (List (List ℕ) × ℕ) → List (List (List ℕ) × ℕ)
    → PlanText
planned order files entries listed = record {
  settings = settings_of_order order;
  list = record { files = listed; attrs = map (letters_at files) (indices_of entries) };
  span = order.span;
}

-- the bytes are the plan of an order, of the files that a source has under these paths with these letters. They are in
-- the order of their paths (profile)
pub record IsPlanOfSource {F : Type 0} (facts : SourceFacts F) (order : Order) (files : List (List (List ℕ) × Attr))
    (bytes : List ℕ) : Type 0 where
  pub entries : List (List (List ℕ) × ℕ)
  pub indexed : AreIndexedPaths (paths_of files) entries × IsInPathOrder entries
  pub planned : bytes ≡ plan_bytes (planned order files entries (listed_files facts entries))

-- the same of the lengths that were told of the files, of which there is a torrent (profile)
pub record IsPlanOfTold {F : Type 0} (answers : Answers F) (order : Order) (files : List (List (List ℕ) × Attr))
    (bytes : List ℕ) : Type 0 where
  pub entries : List (List (List ℕ) × ℕ)
  pub lengths : List ℕ
  pub indexed : AreIndexedPaths (paths_of files) entries × IsInPathOrder entries
  pub one_each : length lengths ≡ length entries
  pub are_told : HasToldLengths answers lengths
  pub accepted : list_fault (map (λ entry. (entry.0, slice_index lengths entry.1)) entries) ≡ None
  pub planned : bytes ≡ plan_bytes (planned order files entries
      (map (λ entry. (entry.0, slice_index lengths entry.1)) entries))

-- a fault of a plan is of a length that was asked: no byte is read, so none fails, and no file is seen to change
-- (profile)
abbrev pub IsFaultOfLengths : {F : Type 0} → MakeError F → Type 0
IsFaultOfLengths (Hashing (engine.Read file (Some start) fault)) = ⊥
IsFaultOfLengths (Hashing (engine.Changed file)) = ⊥
IsFaultOfLengths (Hashing (engine.StreamTooLong file)) = ⊥
IsFaultOfLengths error = Unit {0}
