-- For private clauses: members that borrow their text.
use Rattle.std.specs.Prelude.{◌≡◌, ℕ, suc, true, List, None, codes}
use Rattle.std.specs.Borrow.{Bor}
use Rattle.std.specs.Cmp.Lexicographic.{slice_cmp}
use Rattle.std.specs.Ordering.{nat_cmp, match_ordering}
use Rattle.std.specs.declared.alloc.Global.{Global}
use Rattle.json.specs.Value.{members_view}
use Rattle.json.specs.declared.value.Value.{Value}
use Rattle.json_texts.specs.InOrder.{are_ordered, members_data}
use Rattle.serde_json.specs.Data.{Members, no_members, member}
use Rattle.serde_json.specs.Find.{get_member}

abbrev pub Entry : Type 0
Entry = Bor (List ℕ) × Value Global

-- what they represent
abbrev pub data_in : List Entry → Members
data_in es = members_data (members_view es)

-- the members of an object but for `metadata`
abbrev pub AreOthers : List Entry → Type 0
AreOthers es = (are_ordered (members_view es) ≡ true) × (get_member (codes "metadata") (data_in es) ≡ None)

-- how many members stand before the place of a name
abbrev pub place_in : List ℕ → Members → ℕ
place_in k no_members = 0
place_in k (member l d ms) = match_ordering (slice_cmp nat_cmp k l) 0 0 (suc (place_in k ms))
