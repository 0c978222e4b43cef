-- Where the text goes that is told.
use Rattle.std.specs.Prelude.{◌≡◌, ◌≤◌, ◌<◌, ◌^◌, ◌+◌, ℕ, List, ◌++◌, length, take, drop}
use Rattle.tor_c.specs.declared.sinks.Count.{Count}
use Rattle.tor_c.specs.declared.sinks.CallerRoom.{CallerRoom}

abbrev pub bytes_of : Count → ℕ
bytes_of count = count.bytes

-- it counted these bytes
abbrev pub Counts : Count → Count → List ℕ → Type 0
Counts old new bytes = bytes_of new ≡ bytes_of old + length bytes

-- the count would not fit
abbrev pub IsTooMany : Count → List ℕ → Type 0
IsTooMany old bytes = 2 ^ 64 ≤ bytes_of old + length bytes

abbrev pub filled_of : CallerRoom → ℕ
filled_of room = room.filled

abbrev pub room_of : CallerRoom → List ℕ
room_of room = room.room.now

-- these bytes follow those in the room, which is the same
abbrev pub Fills : CallerRoom → CallerRoom → List ℕ → Type 0
Fills old new bytes =
    (new.room.ghost_name ≡ old.room.ghost_name) × (filled_of new ≡ filled_of old + length bytes)
    × (room_of new ≡ take (filled_of old) (room_of old) ++ (bytes ++ drop (filled_of old + length bytes) (room_of old)))

-- they are more than it has room for
abbrev pub HasNoRoom : CallerRoom → List ℕ → Type 0
HasNoRoom old bytes = length (room_of old) < filled_of old + length bytes

abbrev pub is_within : (room : CallerRoom) → filled_of room ≤ length (room_of room)
is_within room = room.within

abbrev pub is_small : (room : CallerRoom) → length (room_of room) < 2 ^ 64
is_small room = room.small
