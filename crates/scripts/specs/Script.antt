-- Scripts: the events of a text, one JSON object (RFC 8259) a line.
use Rattle.std.specs.Prelude.{◌≡◌, ◌⊎◌, ◌≢◌, ◌≤◌, ◌+◌, ◌==◌, ℕ, Bool, not, List, [], ◌∷◌, ◌++◌, length, Option, Some, None, Ok, codes}
use Rattle.hex.specs.Hex.{decode_of}
use Rattle.std.specs.List.{All, AllZip, filter, slice_split}
use Rattle.serde_json.specs.Data.{Data, unsigned, boolean, number, string, array, object, no_items, item, no_members, member}
use Rattle.serde_json.specs.Read.{read as read_json}
use Rattle.httpedge.specs.Steps.{opens, comes, goes, pumps, ticks, compacts, retypes}
use Rattle.world_laws.specs.World.{WorldEvent, other, request, send, to_server, to_client, cut, restart, reconcile}
use Rattle.scripts.specs.Requests.{Apply, IsRequestOf}

-- the lines of a text, which line feeds part
abbrev pub lines_of : List ℕ → List (List ℕ)
lines_of text = slice_split (λ b. b == 10) text

-- ---- the line of an event

-- {"<name>":<value>}
abbrev pub only : List ℕ → Data → Data
only name value = object (member name value no_members)

abbrev pub whole : ℕ → Data
whole n = number (unsigned n)

-- [<value>,<value>]
abbrev pub pair : Data → Data → Data
pair x y = array (item x (item y no_items))

abbrev pub apply_object : Apply → Data
apply_object a = object (member (codes "body") a.body (member (codes "force") (boolean a.force) (member (codes "manager") (string a.manager) (member (codes "target") (string a.target) no_members))))

-- a target is of printable ASCII characters, without blanks and `?`
abbrev pub IsTarget : List ℕ → Type 0
IsTarget = All (λ b. (33 ≤ b) × (b ≤ 126) × (b ≢ 63))

-- the JSON object of each event; that of a request is its apply, and that of bytes has them as a text, or their digits, two a byte
abbrev pub IsEventObject : Data → WorldEvent → Type 0
IsEventObject d (other (opens k)) = d ≡ only (codes "open") (whole k)
IsEventObject d (other (comes k bytes)) = (d ≡ only (codes "in") (pair (whole k) (string bytes))) ⊎ ((digits : List ℕ) × (d ≡ only (codes "bytes") (pair (whole k) (string digits))) × (decode_of digits ≡ Ok bytes))
IsEventObject d (other (goes k)) = d ≡ only (codes "gone") (whole k)
IsEventObject d (other (pumps k max)) = d ≡ only (codes "pump") (pair (whole k) (whole max))
IsEventObject d (other (ticks ms)) = d ≡ only (codes "tick") (whole ms)
IsEventObject d (other (compacts c)) = d ≡ only (codes "compact") (whole c)
IsEventObject d (other (retypes file)) = d ≡ only (codes "types") file
IsEventObject d send = d ≡ only (codes "client") (string (codes "send"))
IsEventObject d (to_server n) = d ≡ only (codes "toServer") (whole n)
IsEventObject d (to_client n) = d ≡ only (codes "toClient") (whole n)
IsEventObject d cut = d ≡ only (codes "client") (string (codes "cut"))
IsEventObject d restart = d ≡ only (codes "client") (string (codes "restart"))
IsEventObject d reconcile = d ≡ only (codes "client") (string (codes "reconcile"))
IsEventObject d (request bytes) = (a : Apply) × (d ≡ only (codes "apply") (apply_object a)) × IsTarget a.target × IsRequestOf a bytes

-- the line is the event's: it is the JSON text of the event's object
abbrev pub IsEventLine : List ℕ → WorldEvent → Type 0
IsEventLine line e = (d : Data) × (read_json line ≡ Some d) × IsEventObject d e

-- ---- the lines of a script

-- what is read of a line: the event whose line it is, or that it is none's
abbrev pub ReadsLine : List ℕ → Option WorldEvent → Type 0
ReadsLine line None = (e : WorldEvent) → IsEventLine line e → ⊥
ReadsLine line (Some e) = IsEventLine line e

abbrev pub is_filled : List ℕ → Bool
is_filled line = not (length line == 0)

-- each line that isn't empty is an event's: these, in order
abbrev pub AreEvents : List (List ℕ) → List WorldEvent → Type 0
AreEvents lines events = AllZip IsEventLine (filter is_filled lines) events

-- line n, counted from 1, is the first that isn't empty and is no event's
pub record IsFirstBad (lines : List (List ℕ)) (n : ℕ) : Type 0 where
  pub before : List (List ℕ)
  pub line : List ℕ
  pub after : List (List ℕ)
  pub events : List WorldEvent
  pub split : lines ≡ before ++ line ∷ after
  pub good : AreEvents before events
  pub place : n ≡ length before + 1
  pub filled : line ≢ []
  pub bad : (e : WorldEvent) → IsEventLine line e → ⊥
