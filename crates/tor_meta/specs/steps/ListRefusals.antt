-- What files are refused for. Only private clauses cite these.
use Rattle.std.specs.Prelude.{ℕ, List as ListOf, Option, None, Some, option_map, if◌then◌else◌}
use Rattle.std.specs.Option.{option_or}
use Rattle.tor_meta.specs.MakeStreams.{are_rising}
use Rattle.tor_meta.specs.Refusal.{paths_refusal}
use Rattle.tor_meta.specs.declared.listing_error.ListingError.{ListingError}
use Rattle.tor_meta.specs.declared.listing_error.ListingError.TheVariants.{Contents, NotSorted}
use Rattle.tor_meta.specs.declared.refusals.ContentsError.TheVariants.{List}
use Rattle.tor_spec.specs.Settings.{Settings}
use Rattle.tor_tree.specs.FileList.{lengths_fault, lengths_of, paths_of}

-- the refusals of paths and lengths, and that of their order
abbrev pub list_refusal : Settings → ListOf (ListOf (ListOf ℕ) × ℕ) → Option ListingError
list_refusal settings files =
    option_or (option_map Contents (paths_refusal settings (paths_of files))) (
    option_or (option_map (λ fault. Contents (List fault)) (lengths_fault (lengths_of files))) (
    if are_rising (paths_of files) then None else Some NotSorted))
