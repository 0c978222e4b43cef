-- The numbers by which the exports tell why bytes are no torrent.
use Rattle.std.specs.Prelude.{ℕ, List, [], ◌∷◌, ◌++◌}
use Rattle.std.specs.List.{range_with_len}
use Rattle.tor_bencode.specs.declared.fault.Fault.{Fault}
use Rattle.tor_bencode.specs.declared.fault.Fault.TheVariants.{Truncated, BadByte, BadInteger, IntegerRange, BadLength}
use Rattle.tor_bencode.specs.declared.fault.Fault.TheVariants.{KeyNotBytes, KeyOrder, TooDeep, Trailing}
use Rattle.tor_check.specs.Refusals.{refusal_for}
use Rattle.tor_check.specs.declared.refusal.Refusal.{Refusal}
use Rattle.tor_check.specs.declared.refusal.Refusal.TheVariants as refusals
use Rattle.tor_spec.specs.valid.Conditions.{Condition}

-- the number of a fault of bencode: 1 of `B1`, and so on
abbrev pub fault_number : Fault → ℕ
fault_number Truncated = 1
fault_number BadByte = 2
fault_number BadInteger = 3
fault_number IntegerRange = 4
fault_number BadLength = 5
fault_number KeyNotBytes = 6
fault_number KeyOrder = 7
fault_number TooDeep = 8
fault_number Trailing = 9

-- the number of a refusal: 1 of `V1`, and so on; 24 is want of memory (profile)
abbrev pub refusal_number : Refusal → ℕ
refusal_number (refusals.Bencode fault offset) = 1
refusal_number refusals.RootShape = 2
refusal_number refusals.InfoShape = 3
refusal_number refusals.MetaVersion = 4
refusal_number refusals.PieceLength = 5
refusal_number refusals.Name = 6
refusal_number refusals.LengthAndFiles = 7
refusal_number refusals.FileShape = 8
refusal_number refusals.FileLength = 9
refusal_number refusals.Duplicate = 10
refusal_number refusals.FileAndFolder = 11
refusal_number refusals.NoFiles = 12
refusal_number refusals.TooLarge = 13
refusal_number refusals.Symlink = 14
refusal_number refusals.PiecesLength = 15
refusal_number refusals.MixedNode = 16
refusal_number refusals.RootHash = 17
refusal_number refusals.LayersAbsent = 18
refusal_number refusals.LayerAbsent = 19
refusal_number refusals.LayerLength = 20
refusal_number refusals.LayerRoot = 21
refusal_number refusals.FilesDiffer = 22
refusal_number refusals.Alignment = 23
refusal_number refusals.Memory = 24
refusal_number refusals.AttrDiffer = 25

-- the number of a condition
abbrev pub condition_number : Condition → ℕ
condition_number condition = refusal_number (refusal_for condition)

-- the numbers of the conditions, in the order in which they are looked for: 2 to 23, and 25 (profile)
abbrev pub numbers_of_conditions : List ℕ
numbers_of_conditions = range_with_len 2 22 ++ 25 ∷ []
