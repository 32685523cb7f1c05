-- For private clauses: what is appended to a JSON text that is being written.
use Rattle.std.specs.Prelude.{◌≡◌, List, ◌++◌}
use Rattle.json.specs.Json.{Json, Items, Members}
use Rattle.json.specs.Token.{Token}
use Rattle.json.specs.Tree.{items_tokens, json_tokens, members_tokens}
use Rattle.json.specs.Written.{Written}

-- these tokens
abbrev pub Adds : List Token → Written → Written → Type 0
Adds ts old new = (new.before ≡ old.before) × (new.tokens ≡ old.tokens ++ ts)

-- a value
abbrev pub AddsValue : Json → Written → Written → Type 0
AddsValue j = Adds (json_tokens j)

-- the items that `prefix` puts before others, whatever these are
abbrev pub AddsItems : (Items → Items) → Written → Written → Type 0
AddsItems prefix old new = (new.before ≡ old.before) × ((rest : Items) → new.tokens ++ items_tokens rest ≡ old.tokens ++ items_tokens (prefix rest))

-- the members that `prefix` puts before others
abbrev pub AddsMembers : (Members → Members) → Written → Written → Type 0
AddsMembers prefix old new = (new.before ≡ old.before) × ((rest : Members) → new.tokens ++ members_tokens rest ≡ old.tokens ++ members_tokens (prefix rest))
