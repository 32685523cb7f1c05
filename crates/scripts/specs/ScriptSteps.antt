-- What each step of reading a line finds. Words of private clauses, step by step as the code goes; what a line says is said without them.
use Rattle.std.specs.Prelude.{◌≡◌, ◌&&◌, ◌==◌, ℕ, Bool, not, nat_le, List, Option, Some, None, option_and_then, option_map, if◌then◌else◌, codes}
use Rattle.std.specs.Result.{result_ok}
use Rattle.hex.specs.Hex.{decode_of}
use Rattle.std.specs.List.{list_all}
use Rattle.std.specs.Str.{bytes_eq}
use Rattle.serde_json.specs.Data.{Data, Items, no_items, item, Members, no_members, member}
use Rattle.serde_json.specs.Find.{as_array, as_bool, as_number, as_object, as_str, as_u64}
use Rattle.serde_json.specs.Read.{read as read_json}
use Rattle.httpedge.specs.Steps.{opens, comes, goes, pumps, ticks, compacts, retypes}
use Rattle.world_laws.specs.World.{WorldEvent, other, request, send, to_server, to_client, cut, restart, reconcile}
use Rattle.scripts.specs.Requests.{Apply, IsRequestOf}

-- the first member's value, if the member has the name, and the members after it
abbrev pub next_named : List ℕ → Members → Option (Data × Members)
next_named name no_members = None
next_named name (member k d ms) = if bytes_eq k name then Some (d, ms) else None

abbrev pub with_rest : {X : Type 0} → (Data → Option X) → Option (Data × Members) → Option (X × Members)
with_rest f found = option_and_then (λ p. option_map (λ x. (x, p.1)) (f p.0)) found

abbrev pub is_last : {X : Type 0} → X → Members → Option X
is_last x no_members = Some x
is_last x (member k d ms) = None

abbrev pub is_target : List ℕ → Bool
is_target = list_all (λ b. nat_le 33 b && nat_le b 126 && not (b == 63))

abbrev pub if_target : Apply → Option Apply
if_target a = if is_target a.target then Some a else None

abbrev pub apply_in : Members → Option Apply
apply_in ms =
    option_and_then (λ b. option_and_then (λ f. option_and_then (λ m. option_and_then (λ t.
    option_and_then if_target (is_last (record { body = b.0; force = f.0; manager = m.0; target = t.0 }) t.1))
    (with_rest as_str (next_named (codes "target") m.1)))
    (with_rest as_str (next_named (codes "manager") f.1)))
    (with_rest as_bool (next_named (codes "force") b.1)))
    (next_named (codes "body") ms)

-- the name and the value of the only member
abbrev pub only_member : Members → Option (List ℕ × Data)
only_member no_members = None
only_member (member k d ms) = is_last (k, d) ms

abbrev pub number_in : Data → Option ℕ
number_in d = option_and_then as_u64 (as_number d)

-- the first item, and the items after it
abbrev pub next_item : Items → Option (Data × Items)
next_item no_items = None
next_item (item d ds) = Some (d, ds)

abbrev pub with_items : {X : Type 0} → (Data → Option X) → Option (Data × Items) → Option (X × Items)
with_items f found = option_and_then (λ p. option_map (λ x. (x, p.1)) (f p.0)) found

abbrev pub is_last_item : {X : Type 0} → X → Items → Option X
is_last_item x no_items = Some x
is_last_item x (item d ds) = None

-- a connection, and a text that comes on it
abbrev pub comes_in : Items → Option (ℕ × List ℕ)
comes_in ds =
    option_and_then (λ k. option_and_then (λ t. is_last_item (k.0, t.0) t.1)
    (with_items as_str (next_item k.1)))
    (with_items number_in (next_item ds))

abbrev pub text_in : Items → Option WorldEvent
text_in ds = option_map (λ p. other (comes p.0 p.1)) (comes_in ds)

abbrev pub pumps_in : Items → Option WorldEvent
pumps_in ds =
    option_and_then (λ k. option_and_then (λ n. is_last_item (other (pumps k.0 n.0)) n.1)
    (with_items number_in (next_item k.1)))
    (with_items number_in (next_item ds))

-- an event that is told by one number
abbrev pub numbered : List ℕ → ℕ → Option WorldEvent
numbered name n =
    if bytes_eq name (codes "open") then Some (other (opens n))
    else if bytes_eq name (codes "gone") then Some (other (goes n))
    else if bytes_eq name (codes "tick") then Some (other (ticks n))
    else if bytes_eq name (codes "compact") then Some (other (compacts n))
    else if bytes_eq name (codes "toServer") then Some (to_server n)
    else if bytes_eq name (codes "toClient") then Some (to_client n)
    else None

-- what the client does
abbrev pub client_named : List ℕ → Option WorldEvent
client_named name =
    if bytes_eq name (codes "send") then Some send
    else if bytes_eq name (codes "cut") then Some cut
    else if bytes_eq name (codes "restart") then Some restart
    else if bytes_eq name (codes "reconcile") then Some reconcile
    else None

abbrev pub event_named : List ℕ → Data → Option WorldEvent
event_named name d =
    if bytes_eq name (codes "in") then option_and_then text_in (as_array d)
    else if bytes_eq name (codes "pump") then option_and_then pumps_in (as_array d)
    else if bytes_eq name (codes "client") then option_and_then client_named (as_str d)
    else option_and_then (numbered name) (number_in d)

-- what a line says: an apply, digits of bytes that come on a connection, or an event as it is
pub data Line : Type 0 where
  applies : Apply → Line
  brings : ℕ → List ℕ → Line
  happens : WorldEvent → Line

abbrev pub digits_in : Items → Option Line
digits_in ds = option_map (λ p. brings p.0 p.1) (comes_in ds)

abbrev pub line_named : List ℕ → Data → Option Line
line_named name d =
    if bytes_eq name (codes "apply") then option_map applies (option_and_then apply_in (as_object d))
    else if bytes_eq name (codes "bytes") then option_and_then digits_in (as_array d)
    else if bytes_eq name (codes "types") then Some (happens (other (retypes d)))
    else option_map happens (event_named name d)

abbrev pub line_in : Data → Option Line
line_in d = option_and_then (λ p. line_named p.0 p.1) (option_and_then only_member (as_object d))

abbrev pub line_of : List ℕ → Option Line
line_of text = option_and_then line_in (read_json text)

-- the event of bytes that come on a connection, if these are digits of bytes
abbrev pub event_of_digits : ℕ → List ℕ → Option WorldEvent
event_of_digits k digits = option_map (λ bytes. other (comes k bytes)) (result_ok (decode_of digits))

-- the event of what a line says, if there is one; of an apply it is a request of its own
abbrev pub Makes : Line → Option WorldEvent → Type 0
Makes (applies a) o = (bytes : List ℕ) × IsRequestOf a bytes × (o ≡ Some (request bytes))
Makes (brings k digits) o = o ≡ event_of_digits k digits
Makes (happens x) o = o ≡ Some x
