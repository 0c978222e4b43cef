-- The bytes that a worker holds. Only private clauses cite these.
use Rattle.std.specs.Prelude.{◌≡◌, ◌⊎◌, ℕ, ◌+◌, ◌<◌, ◌≤◌, List, ◌++◌, length, take, vec_len}
use Rattle.tor_source.specs.Source.{SourceFacts, bytes_from}
use Rattle.tor_sums.specs.declared.room.Room.{Room}
use Rattle.tor_sums.specs.declared.room.TheConstants.{LEAST_ASKED}

abbrev pub held_in : Room → List ℕ
held_in room = take room.held room.bytes.items

-- how many these are, and how many can be held at most
abbrev pub count_in : Room → ℕ
count_in room = room.held

abbrev pub length_of : Room → ℕ
length_of room = vec_len room.bytes

-- how many are hashed together
abbrev pub batch_of : Room → ℕ
batch_of room = room.batch

-- some byte can be read, and where as many as the least that is asked for are left, as many
abbrev pub HasRoom : ℕ → Room → Type 0
HasRoom left room =
    (count_in room < length_of room) × (LEAST_ASKED ≤ left → count_in room + LEAST_ASKED ≤ length_of room)

-- a batch is held, or there is no room for the least that is asked for, where as many are left
abbrev pub IsFull : ℕ → Room → Type 0
IsFull left room =
    (batch_of room ≤ count_in room) ⊎ ((LEAST_ASKED ≤ left) × (length_of room < count_in room + LEAST_ASKED))

-- so many bytes were read and stand behind those that were held; a steady source has as many there, and they are those
pub record ReadsMore {F : Type 0} (is_steady : SourceFacts F → Type 0) (file start count : ℕ)
    (old new : Room) : Type 0 where
  pub bytes : List ℕ
  pub counted : length bytes ≡ count
  pub held : held_in new ≡ held_in old ++ bytes
  pub steady : (facts : SourceFacts F) → is_steady facts → 0 < length (bytes_from facts file start)
      → bytes ≡ take count (bytes_from facts file start)
  pub there : (facts : SourceFacts F) → is_steady facts → count ≤ length (bytes_from facts file start)
