-- The line of a script by which an event of a hub happens: a JSON object (RFC 8259), and a line feed.
use Rattle.std.specs.Prelude.{ℕ, Bool, false, List, ◌∷◌, ◌++◌, codes, if◌then◌else◌}
use Rattle.std.specs.Fmt.{decimal}
use Rattle.std.specs.Str.{is_utf8}
use Rattle.hex.specs.Hex.{encode_lower}
use Rattle.serde_json.specs.Data.{Data, string}
use Rattle.serde_json.specs.Written.{compact_text, has_float}
use Rattle.httpedge.specs.Steps.{Event, opens, comes, goes, pumps, ticks, compacts, retypes}

-- {"<name>":<number>}
abbrev pub number_line : List ℕ → ℕ → List ℕ
number_line name n = codes "{\"" ++ (name ++ (codes "\":" ++ (decimal n ++ codes "}\n")))

-- {"in":[<id>,<text>]}
abbrev pub text_line : ℕ → List ℕ → List ℕ
text_line id text = codes "{\"in\":[" ++ (decimal id ++ (44 ∷ (compact_text (string text) ++ codes "]}\n")))

-- {"bytes":[<id>,"<digits>"]}
abbrev pub digits_line : ℕ → List ℕ → List ℕ
digits_line id bytes = codes "{\"bytes\":[" ++ (decimal id ++ (codes ",\"" ++ (encode_lower bytes ++ codes "\"]}\n")))

-- bytes that are a text as it is, and other bytes as digits, two a byte
abbrev pub bytes_line : ℕ → List ℕ → List ℕ
bytes_line id bytes = if is_utf8 bytes then text_line id bytes else digits_line id bytes

-- {"types":<file>}
abbrev pub types_line : Data → List ℕ
types_line file = codes "{\"types\":" ++ (compact_text file ++ codes "}\n")

-- the line of each event
abbrev pub event_line : Event → List ℕ
event_line (opens id) = number_line (codes "open") id
event_line (comes id bytes) = bytes_line id bytes
event_line (goes id) = number_line (codes "gone") id
event_line (pumps id max) = codes "{\"pump\":[" ++ (decimal id ++ (44 ∷ (decimal max ++ codes "]}\n")))
event_line (ticks ms) = number_line (codes "tick") ms
event_line (compacts c) = number_line (codes "compact") c
event_line (retypes file) = types_line file

-- whether a float is in it, whose digits no definition gives: none can be but in other types
abbrev pub holds_float : Event → Bool
holds_float (opens id) = false
holds_float (comes id bytes) = false
holds_float (goes id) = false
holds_float (pumps id max) = false
holds_float (ticks ms) = false
holds_float (compacts c) = false
holds_float (retypes file) = has_float file
