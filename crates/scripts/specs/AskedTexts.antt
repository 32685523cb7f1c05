-- What is printed of a move and of an object, of which a line asks.
use Rattle.std.specs.Prelude.{ℕ, List, ◌∷◌, ◌++◌, codes}
use Rattle.std.specs.Fmt.{decimal}
use Rattle.httpedge.specs.Steps as edge
use Rattle.world_laws.specs.World.{WorldEvent, other, request, send, to_server, to_client, cut, restart, reconcile}

-- {"<name>":<number>} as a value
abbrev pub number_words : List ℕ → ℕ → List ℕ
number_words name n = codes "{\"" ++ (name ++ (codes "\":" ++ (decimal n ++ codes "}")))

-- {"client":"<name>"}
abbrev pub client_words : List ℕ → List ℕ
client_words name = codes "{\"client\":\"" ++ (name ++ codes "\"}")

-- {"pump":[<id>,<max>]}
abbrev pub pump_words : ℕ → ℕ → List ℕ
pump_words id max = codes "{\"pump\":[" ++ (decimal id ++ (44 ∷ (decimal max ++ codes "]}")))

-- what the hub does of itself, as the line of a script; what a peer brings is no move
abbrev pub hub_words : edge.Event → List ℕ
hub_words (edge.pumps id max) = pump_words id max
hub_words (edge.ticks ms) = number_words (codes "tick") ms
hub_words (edge.opens id) = codes "null"
hub_words (edge.comes id bytes) = codes "null"
hub_words (edge.goes id) = codes "null"
hub_words (edge.compacts c) = codes "null"
hub_words (edge.retypes file) = codes "null"

abbrev pub move_words : WorldEvent → List ℕ
move_words (other e) = hub_words e
move_words send = client_words (codes "send")
move_words cut = client_words (codes "cut")
move_words (to_server n) = number_words (codes "toServer") n
move_words (to_client n) = number_words (codes "toClient") n
move_words (request bytes) = codes "null"
move_words restart = codes "null"
move_words reconcile = codes "null"

-- {"move":<the move as the line of a script>}
abbrev pub move_text : WorldEvent → List ℕ
move_text e = codes "{\"move\":" ++ (move_words e ++ codes "}\n")

-- {"object":<its text>}
abbrev pub object_text : List ℕ → List ℕ
object_text text = codes "{\"object\":" ++ (text ++ codes "}\n")
