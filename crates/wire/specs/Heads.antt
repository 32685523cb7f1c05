-- The head of a message, at either end (RFC 9112, sections 2.1, 2.2 and 5): its limits, where it ends, and its fields by their names.
use Rattle.std.specs.Prelude.{ℕ, ◌+◌, ◌==◌, Bool, if◌then◌else◌, List, [], ◌∷◌, Option, Some, None, codes}
use Rattle.std.specs.Str.{str_eq_ignore_ascii_case}
use Rattle.wire.specs.declared.place.ScanState.{ScanState}
use Rattle.wire.specs.declared.place.ScanState.TheVariants.{Leading, Inside, Fed, FedCr}

-- the end of a line
abbrev pub crlf : List ℕ
crlf = 13 ∷ 10 ∷ []

-- limits of each end
abbrev pub max_head : ℕ
max_head = 16384

abbrev pub max_fields : ℕ
max_fields = 64

-- ---- where a head ends: its first empty line

-- where a head stands after one byte more; none where it ends: at the first LF that is followed by LF or by CR LF, after the leading CR and LF bytes
abbrev pub place_after : ScanState → ℕ → Option ScanState
place_after Leading b = if b == 13 then Some Leading else if b == 10 then Some Leading else Some Inside
place_after Inside b = if b == 10 then Some Fed else Some Inside
place_after Fed b = if b == 10 then None else if b == 13 then Some FedCr else Some Inside
place_after FedCr b = if b == 10 then None else Some Inside

-- n bytes where it has ended with them, and else by where they stand
abbrev pub end_or : ℕ → Option ScanState → (ScanState → Option ℕ) → Option ℕ
end_or n None later = Some n
end_or n (Some p) later = later p

-- how many bytes the head has, of which n stand before these and lead to this place; none where these don't end it
abbrev pub end_from : ScanState → ℕ → List ℕ → Option ℕ
end_from p n [] = None
end_from p n (b ∷ bytes) = end_or (n + 1) (place_after p b) (λ q. end_from q (n + 1) bytes)

-- how many bytes the head has, where it ends in these
abbrev pub head_end : List ℕ → Option ℕ
head_end bytes = end_from Leading 0 bytes

-- ---- its fields

-- a field's name and its value
abbrev pub Named : Type 0
Named = List ℕ × List ℕ

-- a name is compared without regard to ASCII case
abbrev pub has_name : List ℕ → Named → Bool
has_name word field = str_eq_ignore_ascii_case field.0 word

abbrev pub is_content_length : Named → Bool
is_content_length field = has_name (codes "content-length") field

abbrev pub is_transfer_encoding : Named → Bool
is_transfer_encoding field = has_name (codes "transfer-encoding") field
