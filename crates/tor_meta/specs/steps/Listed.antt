-- The listing of the files of a source.
use Rattle.std.specs.Prelude.{◌≡◌, ℕ, List, None, length, map, slice_index}
use Rattle.tor_meta.specs.Listing.{ListingFacts, text_of_listing}
use Rattle.tor_meta.specs.Make.{asked_fault, listed_files}
use Rattle.tor_meta.specs.Planned.{planned}
use Rattle.tor_meta.specs.declared.order.Order.{Order}
use Rattle.tor_source.specs.Answers.{Answers}
use Rattle.tor_source.specs.Source.{SourceFacts}
use Rattle.tor_sums.specs.Given.{HasToldLengths}
use Rattle.tor_tree.specs.FileList.{list_fault, paths_of}
use Rattle.tor_tree.specs.PathList.{AreIndexedPaths, IsPathList, indices_of}
use Rattle.tor_tree.specs.declared.attr.Attr.{Attr}

-- a listing is of the files of a source, in the order of their paths, with the lengths that were told; and each of its
-- files is the one of the source with this index
pub record IsListedOf {F : Type 0} (is_steady : SourceFacts F → Type 0) (answers : Answers F) (order : Order)
    (files : List (List (List ℕ) × Attr)) (listing : ListingFacts) (indices : List ℕ) : Type 0 where
  pub entries : List (List (List ℕ) × ℕ)
  pub lengths : List ℕ
  pub indexed : AreIndexedPaths (paths_of files) entries
  pub lawful : IsPathList entries
  pub one_each : length lengths ≡ length entries
  pub are_told : HasToldLengths answers lengths
  pub are_indices : indices ≡ indices_of entries
  pub text : text_of_listing listing
      ≡ planned order files entries (map (λ entry. (entry.0, slice_index lengths entry.1)) entries)
  pub faultless : list_fault listing.list.files ≡ None
  pub steady : (facts : SourceFacts F) → is_steady facts
      → (listing.list.files ≡ listed_files facts entries) × (asked_fault facts (length entries) ≡ None)
