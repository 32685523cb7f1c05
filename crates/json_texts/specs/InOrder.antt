-- JSON texts that are in order, as a compact text of a value without floats is: each object's names ascend, so that none comes twice, and each number is written as an integer within 64 bits, and not as `-0`.
-- What a value that borrows such a text represents (RFC 8259, sections 4 to 6).
use Rattle.std.specs.Prelude.{ℕ, Bool, true, false, not, ◌&&◌, List, [], ◌∷◌, Option, Some, None, option_and_then, if◌then◌else◌}
use Rattle.json.specs.Json as json
use Rattle.json.specs.Lex.{tokens}
use Rattle.serde_json.specs.Data.{Num, Data, null, boolean, number, string, array, object, Items, no_items, item, Members, no_members, member}
use Rattle.serde_json.specs.Find.{is_float}
use Rattle.serde_json.specs.Read.{number_of, max_depth}
use Rattle.fieldpath.specs.Scalars.{ascend}

-- ---- what a value represents, member by member

abbrev pub number_or_null : Option Num → Data
number_or_null None = null
number_or_null (Some n) = number n

abbrev mutual
  pub data_of : json.Json → Data
  data_of json.null = null
  data_of (json.boolean b) = boolean b
  data_of (json.number s) = number_or_null (number_of s)
  data_of (json.string s) = string s
  data_of (json.array js) = array (items_data js)
  data_of (json.object ms) = object (members_data ms)

  pub items_data : json.Items → Items
  items_data json.no_items = no_items
  items_data (json.item j js) = item (data_of j) (items_data js)

  pub members_data : json.Members → Members
  members_data json.no_members = no_members
  members_data (json.member k j ms) = member k (data_of j) (members_data ms)

-- ---- which values are in order

abbrev pub is_whole : Option Num → Bool
is_whole None = false
is_whole (Some n) = not (is_float n)

abbrev pub names : json.Members → List (List ℕ)
names json.no_members = []
names (json.member k j ms) = k ∷ names ms

abbrev mutual
  pub is_ordered : json.Json → Bool
  is_ordered json.null = true
  is_ordered (json.boolean b) = true
  is_ordered (json.number s) = is_whole (number_of s)
  is_ordered (json.string s) = true
  is_ordered (json.array js) = items_are_ordered js
  is_ordered (json.object ms) = ascend (names ms) && members_are_ordered ms

  pub items_are_ordered : json.Items → Bool
  items_are_ordered json.no_items = true
  items_are_ordered (json.item j js) = is_ordered j && items_are_ordered js

  pub members_are_ordered : json.Members → Bool
  members_are_ordered json.no_members = true
  members_are_ordered (json.member k j ms) = is_ordered j && members_are_ordered ms

-- the members of an object that is in order
abbrev pub are_ordered : json.Members → Bool
are_ordered ms = ascend (names ms) && members_are_ordered ms

abbrev pub data_if_ordered : json.Json → Option Data
data_if_ordered j = if is_ordered j then Some (data_of j) else None

-- the value that a text represents, with arrays and objects no deeper than `serde_json` follows
abbrev pub json_of : List ℕ → Option json.Json
json_of text = option_and_then (λ p. json.if_last p.0 p.1) (json.value max_depth (tokens text))

-- the data of a text that is in order; none of another text
unfoldable pub in_order : List ℕ → Option Data
in_order text = option_and_then data_if_ordered (json_of text)
