-- Bytes that are written into a buffer of the caller.
use Rattle.std.specs.Prelude.{◌≡◌, ◌<◌, ◌≤◌, ◌++◌, ◌⊎◌, ℕ, List, length, drop}
use Rattle.palmheap_c.specs.declared.answers.Answer.{Answer}
use Rattle.palmheap_c.specs.Answers.{IsFileRefusal, no_fault, no_room}

-- The buffer begins with the bytes, and its other bytes are unchanged.
pub record FillsBuffer (bytes old new : List ℕ) : Type 0 where
  pub fit : length bytes ≤ length old
  pub front : new ≡ bytes ++ drop (length bytes) old

-- The buffer is too short for the bytes, and is unchanged.
pub record IsShortBuffer (bytes old new : List ℕ) : Type 0 where
  pub too_short : length old < length bytes
  pub same : new ≡ old

-- The buffer got the bytes, or it is too short. The count is the number of bytes in both cases.
pub record PutsBytes (bytes old new : List ℕ) (count : ℕ) (found : Answer) : Type 0 where
  pub counted : count ≡ length bytes
  pub answered : ((found ≡ no_fault) × FillsBuffer bytes old new) ⊎ ((found ≡ no_room) × IsShortBuffer bytes old new)

-- a buffer, and the count that a call sets to the number of its bytes
pub record Buffer : Type 0 where
  pub bytes : List ℕ
  pub count : ℕ

abbrev pub buffer : List ℕ → ℕ → Buffer
buffer bytes count = record { bytes = bytes; count = count }

-- Bytes with `IsSuch` were written, or the buffer is too short for them. Otherwise the file is
-- refused, and the buffer and the count are unchanged.
abbrev pub IsBytesAnswer : (List ℕ → Type 0) → (file : List ℕ) → (old new : Buffer) → Answer → Type 0
IsBytesAnswer IsSuch file old new found =
    ((bytes : List ℕ) × IsSuch bytes × PutsBytes bytes old.bytes new.bytes new.count found)
    ⊎ (IsFileRefusal file found × (new.bytes ≡ old.bytes) × (new.count ≡ old.count))

-- the result of a call whose buffer is too short
abbrev pub call_no_room : ℕ
call_no_room = 100

-- The same as `PutsBytes`, for a result that is a number: 0, or the number for a buffer that is too
-- short.
pub record PutsCoded (bytes old new : List ℕ) (count result : ℕ) : Type 0 where
  pub counted : count ≡ length bytes
  pub answered : ((result ≡ 0) × FillsBuffer bytes old new) ⊎ ((result ≡ call_no_room) × IsShortBuffer bytes old new)
