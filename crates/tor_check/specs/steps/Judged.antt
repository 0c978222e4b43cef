-- How a refusal tells a condition, and what is known of a head that has none.
use Rattle.std.specs.Prelude.{◌≡◌, ◌⊎◌, ◌<◌, List, [], ◌∷◌, find, option_map, Option, None, Some, if◌then◌else◌}
use Rattle.tor_bencode.specs.Data.{Data}
use Rattle.tor_bencode.specs.RefView.{view}
use Rattle.tor_spec.specs.valid.Conditions.{Condition, holds, of_both}
use Rattle.tor_spec.specs.valid.SidesAgree.{alignment, attr_differs, files_differ}
use Rattle.tor_spec.specs.valid.Conditions as conditions
use Rattle.tor_spec.specs.valid.Parts.{info_of, is_private, kind_of, name_of, piece_length_of}
use Rattle.tor_check.specs.Refusals.{refusal_for}
use Rattle.tor_check.specs.declared.refusal.Refusal.{Refusal}
use Rattle.tor_check.specs.declared.refusal.Refusal.TheVariants as refusals
use Rattle.tor_check.specs.declared.head.CommonKeys.{CommonKeys}

-- this is the refusal of the first condition
abbrev pub Names : Option Condition → Refusal → Type 0
Names first refusal = option_map refusal_for first ≡ Some refusal

-- memory was refused, or this is the first condition
abbrev pub IsFirst : Option Condition → Refusal → Type 0
IsFirst first refusal = (refusal ≡ refusals.Memory) ⊎ Names first refusal

-- V2 to V7
abbrev pub head_conditions : List Condition
head_conditions =
    conditions.RootShape ∷ conditions.InfoShape ∷ conditions.MetaVersion ∷ conditions.PieceLength ∷
    conditions.Name ∷ conditions.LengthAndFiles ∷ []

-- V2 to V6: where one of them holds, it is answered without memory
abbrev pub conditions_before_memory : List Condition
conditions_before_memory =
    conditions.RootShape ∷ conditions.InfoShape ∷ conditions.MetaVersion ∷ conditions.PieceLength ∷
    conditions.Name ∷ []

-- the first of them that holds
abbrev pub first_in : List Condition → Data → Option Condition
first_in some root = find (holds root) some

-- V18 to V21
abbrev pub layer_conditions : List Condition
layer_conditions =
    conditions.LayersAbsent ∷ conditions.LayerAbsent ∷ conditions.LayerLength ∷ conditions.LayerRoot ∷ []

-- V22, V23 and V25
abbrev pub alignment_conditions : List Condition
alignment_conditions = conditions.FilesDiffer ∷ conditions.Alignment ∷ conditions.AttrDiffer ∷ []

-- the first of them that holds
abbrev pub first_of_alignment : Data → Option Condition
first_of_alignment info =
    if of_both files_differ info then Some conditions.FilesDiffer else (
    if of_both alignment info then Some conditions.Alignment else (
    if of_both attr_differs info then Some conditions.AttrDiffer else None))

pub record IsHeadOf (root : Data) (head : CommonKeys) : Type 0 where
  pub info : view head.info.now ≡ info_of root
  pub kind : head.kind ≡ kind_of (info_of root)
  pub name : head.name ≡ name_of (info_of root)
  pub piece_length : head.piece_length ≡ piece_length_of (info_of root)
  pub some : 0 < head.piece_length
  pub is_private : head.is_private ≡ is_private (info_of root)
