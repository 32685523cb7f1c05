-- The members of a JSON object, looked up and taken out.
use Rattle.std.specs.Prelude.{ℕ, Bool, List, Option, option_map, option_and_then, is_some}
use Rattle.std.specs.Ordering.{nat_cmp, match_ordering}
use Rattle.std.specs.Cmp.Lexicographic.{slice_cmp}
use Rattle.serde_json.specs.Data.{Items, Members, no_members, member}
use Rattle.serde_json.specs.Find.{get_member, as_str, as_object, as_array}

-- a member has this name
abbrev pub has : List ℕ → Members → Bool
has k ms = is_some (get_member k ms)

-- the text at a name
abbrev pub text_at : List ℕ → Members → Option (List ℕ)
text_at k ms = option_and_then as_str (get_member k ms)

-- the members of the object at a name
abbrev pub members_at : List ℕ → Members → Option Members
members_at k ms = option_and_then as_object (get_member k ms)

-- the items of the array at a name
abbrev pub items_at : List ℕ → Members → Option Items
items_at k ms = option_and_then as_array (get_member k ms)

-- the members without the one of this name
abbrev pub less : List ℕ → Members → Members
less k no_members = no_members
less k (member l d ms) = match_ordering (slice_cmp nat_cmp k l) (member l d (less k ms)) ms (member l d (less k ms))

-- the members without the one of this name, and the members of the object that this one is
abbrev pub split_off : List ℕ → Members → Option (Members × Members)
split_off k ms = option_map (λ inner. (less k ms, inner)) (option_and_then as_object (get_member k ms))
