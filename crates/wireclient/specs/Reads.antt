-- What a reader emits of the bytes that came.
use Rattle.std.specs.Prelude.{◌≡◌, ℕ, ◌≤◌, Bool, true, false, ◌||◌, nat_le, if◌then◌else◌, List, [], ◌∷◌, ◌++◌, length, map, take, Option, None, Some, codes}
use Rattle.std.specs.List.{list_any}
use Rattle.std.specs.Str.{str_eq_ignore_ascii_case}
use Rattle.httparse.specs.Grammar.{ResponseHead, ReadsResponse, status_code}
use Rattle.httparse.specs.Spans.{name_and_value}
use Rattle.wire.specs.declared.place.ScanState.{ScanState}
use Rattle.wire.specs.declared.place.ScanState.TheVariants.{Leading}
use Rattle.wire.specs.Heads.{Named, is_content_length, is_transfer_encoding, max_fields, max_head, place_after}
use Rattle.wire.specs.Lengths.{length_in}
use Rattle.wireclient.specs.Reply.{Framing, by_length, by_chunks, HeadCheck, ReplyItem, is_malformed, is_last, State, heading, step}

-- ---- the head

-- a limit of the client's own; a server's is lower
abbrev pub max_body : ℕ
max_body = 1073741824

-- a body of so many bytes, within the limit
abbrev pub framed_by_length : Option ℕ → Option Framing
framed_by_length None = None
framed_by_length (Some n) = if nat_le n max_body then Some (by_length n) else None

abbrev pub encoding_in : List ℕ → Option Framing
encoding_in value = if str_eq_ignore_ascii_case value (codes "chunked") then Some by_chunks else None

abbrev pub framing_by : Named → Option Framing
framing_by f = if is_content_length f then framed_by_length (length_in f.1) else encoding_in f.1

abbrev pub frames : Named → Bool
frames f = is_content_length f || is_transfer_encoding f

-- ---- which field frames the body: just one, where a server takes several lengths that are alike

-- by the one field that frames a body; found is what it said, where it came before these
abbrev pub framing_with : Option (Option Framing) → List Named → Option Framing
framing_with None [] = None
framing_with None (f ∷ fs) = if frames f then framing_with (Some (framing_by f)) fs else framing_with None fs
framing_with (Some found) [] = found
framing_with (Some found) (f ∷ fs) = if frames f then None else framing_with (Some found) fs

abbrev pub framing_of : List Named → Option Framing
framing_of fs = framing_with None fs

-- what the bytes of a whole head say: it is a head of the grammar with at most so many fields, one of which frames the body
abbrev pub Checked : List ℕ → HeadCheck → Type 0
Checked bytes None = (h : ResponseHead) → ReadsResponse bytes h [] → length h.fields ≤ max_fields → framing_of (map name_and_value h.fields) ≡ None
Checked bytes (Some (status, framing)) =
    (h : ResponseHead) × ReadsResponse bytes h [] × (length h.fields ≤ max_fields) × (status ≡ status_code h) × (framing_of (map name_and_value h.fields) ≡ Some framing)

-- j is the check of a head that this byte ends; where none ends, or too many bytes came, it may be anything
abbrev pub CheckedWhereEnded : Bool → List ℕ → Option ScanState → HeadCheck → Type 0
CheckedWhereEnded true bytes p j = Unit {0}
CheckedWhereEnded false bytes (Some p) j = Unit {0}
CheckedWhereEnded false bytes None j = Checked bytes j

abbrev pub CheckedAt : State → ℕ → HeadCheck → Type 0
CheckedAt (heading bytes p) b j = CheckedWhereEnded (nat_le max_head (length bytes)) (bytes ++ b ∷ []) (place_after p b) j
CheckedAt _ b j = Unit {0}

-- one byte leads from a state to another, with the items emitted before and after it
abbrev pub Steps : State → ℕ → State → List ReplyItem → List ReplyItem → Type 0
Steps s b t old new = (j : HeadCheck) × CheckedAt s b j × (t ≡ (step j s b).0) × (new ≡ old ++ (step j s b).1)

-- ---- the whole

abbrev pub start : State
start = heading [] Leading

-- these bytes lead from one state to another, with these items emitted
abbrev pub Reaches : State → List ℕ → State → List ReplyItem → Type 0
Reaches s [] t items = (t ≡ s) × (items ≡ [])
Reaches s (b ∷ bytes) t items = (j : HeadCheck) × (rest : List ReplyItem) × CheckedAt s b j × Reaches (step j s b).0 bytes t rest × (items ≡ (step j s b).1 ++ rest)

-- the items that these bytes hold: head, body or whole lines, and end; or those before a bad byte, and then malformed
abbrev pub Items : List ℕ → List ReplyItem → Type 0
Items bytes items = (s : State) × Reaches start bytes s items

-- whether a bad byte stands in the bytes that hold these items
abbrev pub has_malformed : List ReplyItem → Bool
has_malformed items = list_any is_malformed items

-- whether nothing is emitted of any byte after those that hold these items
abbrev pub has_closed : List ReplyItem → Bool
has_closed items = list_any is_last items

-- a reader that took all these bytes; None is a reader without memory
abbrev pub ReaderRepresents : Option State → List ℕ → Type 0
ReaderRepresents reader bytes = (s : State) × (items : List ReplyItem) × (reader ≡ Some s) × Reaches start bytes s items

-- the first n of these bytes lead to a state, and nothing is emitted
abbrev pub TakesIn : State → List ℕ → ℕ → State → Type 0
TakesIn s bytes n t = (n ≤ length bytes) × Reaches s (take n bytes) t []
