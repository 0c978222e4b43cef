-- A text that is put into a buffer part by part, on its way to a sink.
use Rattle.std.specs.Prelude.{◌≡◌, ◌≤◌, ◌<◌, ◌+◌, ◌-◌, ℕ, List, [], ◌++◌, length, drop, take}
use Rattle.tor_report.specs.Sinks.{IsStopped}
use Rattle.tor_report.specs.declared.buffer.Buffer.{Buffer}

-- of a text that was put since the sink was `start`, so many bytes went out, and the buffer has the others (profile)
pub record IsPut {S : Type 0} (took : S → S → List ℕ → Type 0) (start : S) (text : List ℕ) (out : S) (buffer : Buffer)
    : Type 0 where
  pub counted : buffer.sent ≤ length text
  pub held : buffer.held.items ≡ drop buffer.sent text
  pub went : took start out (take buffer.sent text)

-- no text was put yet (profile)
pub record IsFresh (buffer : Buffer) : Type 0 where
  pub unsent : buffer.sent ≡ 0
  pub empty : buffer.held.items ≡ []

-- this text was put after any that was put before (profile)
pub record Puts {S : Type 0} (took : S → S → List ℕ → Type 0) (text : List ℕ) (out : S) (buffer : Buffer) (out' : S)
    (buffer' : Buffer) : Type 0 where
  pub after : (start : S) → (before : List ℕ) → IsPut took start before out buffer
      → IsPut took start (before ++ text) out' buffer'

-- the sink stopped it: of this text, after any that was put before, so many bytes went out and no others (profile)
pub record Stops {S : Type 0} (took : S → S → List ℕ → Type 0) (fails : S → List ℕ → Type 0) (text : List ℕ) (out : S)
    (buffer : Buffer) (out' : S) (written : ℕ) : Type 0 where
  pub after : (start : S) → (before : List ℕ) → IsPut took start before out buffer
      → IsStopped took fails start out' written (before ++ text)

-- some of the bytes went out, so that of the whole text so many did
pub record IsCut {S : Type 0} (took : S → S → List ℕ → Type 0) (fails : S → List ℕ → Type 0) (out : S) (sent : ℕ)
    (bytes : List ℕ) (out' : S) (written : ℕ) : Type 0 where
  pub later : sent ≤ written
  pub earlier : written < sent + length bytes
  pub went : took out out' (take (written - sent) bytes)
  pub why : (start : S) → (front : List ℕ) → length front ≡ sent → took start out front → fails start (front ++ bytes)
