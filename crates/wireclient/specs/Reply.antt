-- A reply, byte by byte (RFC 9112, sections 2.2, 6 and 7.1), and the items that a reader emits of it.
use Rattle.std.specs.Prelude.{ℕ, Bool, true, false, ◌+◌, ◌-◌, ◌*◌, min, ◌&&◌, ◌==◌, if◌then◌else◌, nat_le, nat_lt, List, [], ◌∷◌, ◌++◌, length, Option, None, Some}
use Rattle.std.specs.Char.{is_ascii_hexdigit, digit_value}
use Rattle.wire.specs.declared.place.ScanState.{ScanState}
use Rattle.wire.specs.Heads.{max_head, place_after}

-- how the body is framed: so many bytes, or chunks
pub data Framing : Type 0 where
  by_length : ℕ → Framing
  by_chunks : Framing

-- what a head says: its status and the framing; none where it is malformed
abbrev pub HeadCheck : Type 0
HeadCheck = Option (ℕ × Framing)

pub data ReplyItem : Type 0 where
  head : ℕ → ReplyItem
  whole : List ℕ → ReplyItem
  line : List ℕ → ReplyItem
  end : ReplyItem
  malformed : ReplyItem

abbrev pub is_malformed : ReplyItem → Bool
is_malformed malformed = true
is_malformed _ = false

-- nothing is emitted after it
abbrev pub is_last : ReplyItem → Bool
is_last end = true
is_last malformed = true
is_last _ = false

-- what has come of the reply
pub data State : Type 0 where
  heading : List ℕ → ScanState → State  -- the head so far
  body : ℕ → List ℕ → State  -- so many bytes are to come, and those that came
  size : ℕ → ℕ → List ℕ → State  -- digits of a chunk's size, their value, and the line so far
  size_lf : ℕ → List ℕ → State
  data_in : ℕ → List ℕ → State  -- so many bytes of the chunk are to come
  data_cr data_lf : List ℕ → State
  last_cr last_lf : List ℕ → State  -- after the chunk of size 0
  ended broken : State

-- a limit of the client's own, as a server's lines have none
abbrev pub max_line : ℕ
max_line = 2097152

abbrev pub Next : Type 0
Next = State × List ReplyItem

abbrev pub fails : Next
fails = (broken, malformed ∷ [])

abbrev pub goes_to : State → Next
goes_to s = (s, [])

abbrev pub begun : HeadCheck → Next
begun None = fails
begun (Some (status, by_length n)) = if n == 0 then (ended, head status ∷ whole [] ∷ end ∷ []) else (body n [], head status ∷ [])
begun (Some (status, by_chunks)) = (size 0 0 [], head status ∷ [])

abbrev pub headed : HeadCheck → List ℕ → Option ScanState → Next
headed j bytes None = begun j
headed j bytes (Some p) = goes_to (heading bytes p)

-- after a byte of a chunk's data: left bytes of it are still to come
abbrev pub data_after : ℕ → List ℕ → State
data_after left text = if left == 0 then data_cr text else data_in left text

-- one hexadecimal digit more, as a number of 64 bits, which 16 digits do not pass
abbrev pub digit_onto : ℕ → ℕ → ℕ
digit_onto value digit = min (min (value * 16) 18446744073709551615 + digit) 18446744073709551615

-- one byte more; j is the check of the head, should it end here
abbrev pub step : HeadCheck → State → ℕ → Next
step j (heading bytes p) b = if nat_le max_head (length bytes) then fails else headed j (bytes ++ b ∷ []) (place_after p b)
step j (body left bytes) b = if nat_le left 1 then (ended, whole (bytes ++ b ∷ []) ∷ end ∷ []) else goes_to (body (left - 1) (bytes ++ b ∷ []))
step j (size count value text) b =
    if is_ascii_hexdigit b && nat_lt count 16 then goes_to (size (count + 1) (digit_onto value (digit_value b)) text)
    else if b == 13 && nat_lt 0 count then goes_to (size_lf value text)
    else fails
step j (size_lf value text) b = if b == 10 then goes_to (if value == 0 then last_cr text else data_in value text) else fails
step j (data_in left text) b =
    if nat_le max_line (length text) then fails
    else if b == 10 then (data_after (left - 1) [], line text ∷ [])
    else goes_to (data_after (left - 1) (text ++ b ∷ []))
step j (data_cr text) b = if b == 13 then goes_to (data_lf text) else fails
step j (data_lf text) b = if b == 10 then goes_to (size 0 0 text) else fails
step j (last_cr text) b = if b == 13 then goes_to (last_lf text) else fails
step j (last_lf text) b = if b == 10 && length text == 0 then (ended, end ∷ []) else fails
step j ended b = goes_to ended
step j broken b = goes_to broken
