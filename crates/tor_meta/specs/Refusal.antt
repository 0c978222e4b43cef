-- When no torrent is made: the first refusal that holds.
use Rattle.std.specs.Prelude.{ℕ, Bool, false, not, ◌&&◌, nat_lt, List as ListOf, [], ◌∷◌, length, map, option_map}
use Rattle.std.specs.Prelude.{Option, None, Some, if◌then◌else◌}
use Rattle.std.specs.List.{list_any}
use Rattle.std.specs.Option.{option_or}
use Rattle.tor_merkle.specs.Layer.{is_piece_length}
use Rattle.tor_tree.specs.declared.paths.TheConstants.{MAX_NAMES}
use Rattle.tor_meta.specs.declared.refusals.ContentsError.{ContentsError}
use Rattle.tor_meta.specs.declared.refusals.ContentsError.TheVariants.{PieceLength, Path, SingleShape, List}
use Rattle.tor_meta.specs.declared.refusals.ContentsError.TheVariants.{ReservedPad}
use Rattle.tor_spec.specs.Facts.{File}
use Rattle.tor_spec.specs.Settings.{Settings, is_aligned}
use Rattle.tor_tree.specs.FileList.{paths_fault, lengths_fault}
use Rattle.tor_tree.specs.Path.{name_eq}
use Rattle.tor_v1.specs.Reserved.{is_reserved}

-- more names than the path of a file may have
abbrev pub is_long : ListOf (ListOf ℕ) → Bool
is_long path = nat_lt MAX_NAMES (length path)

-- the path of this name alone
abbrev pub is_name : ListOf (ListOf ℕ) → ListOf ℕ → Bool
is_name [] name = false
is_name (first ∷ []) name = name_eq first name
is_name (first ∷ second ∷ names) name = false

-- one path, which is the name
abbrev pub is_only : ListOf ℕ → ListOf (ListOf (ListOf ℕ)) → Bool
is_only name [] = false
is_only name (path ∷ []) = is_name path name
is_only name (path ∷ other ∷ paths) = false

-- what needs no order of the paths: M1, M4, M5 (profile)
abbrev pub shape_refusal : Settings → ListOf (ListOf (ListOf ℕ)) → Option ContentsError
shape_refusal settings paths =
    if not (is_piece_length settings.piece_length) then Some PieceLength else (
    if list_any is_long paths then Some Path else (
    if settings.single && not (is_only settings.name paths) then Some SingleShape else None))

-- what is found once paths are in order: their faults, then Y1 (profile)
abbrev pub ordered_refusal : Settings → ListOf (ListOf (ListOf ℕ)) → Option ContentsError
ordered_refusal settings paths =
    option_or (option_map List (paths_fault paths)) (
    if is_aligned settings.kind settings.single && list_any is_reserved paths then Some ReservedPad else None)

-- the first reason that paths give, whatever their contents. It is known before any length (profile)
abbrev pub paths_refusal : Settings → ListOf (ListOf (ListOf ℕ)) → Option ContentsError
paths_refusal settings paths = option_or (shape_refusal settings paths) (ordered_refusal settings paths)

-- the first reason why no torrent is made of files. That of their lengths comes last (profile)
abbrev pub contents_refusal : Settings → ListOf File → Option ContentsError
contents_refusal settings files =
    option_or (paths_refusal settings (map (λ file. file.path) files)) (
    option_map List (lengths_fault (map (λ file. length file.content) files)))
