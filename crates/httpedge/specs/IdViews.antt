-- A set of ids as ranges, each from a first to a last.
use Rattle.std.specs.Prelude.{◌≡◌, ℕ, ◌+◌, ◌-◌, ◌<◌, ◌≤◌, Bool, false, ◌&&◌, nat_le, if◌then◌else◌, Option, Some, None, ⊤}
use Rattle.std.specs.BTreeMap.{BTreeMap, get}
use Rattle.std.specs.List.{list_any}
use Rattle.std.specs.Ordering.{nat_cmp}

abbrev pub is_within : ℕ → ℕ × ℕ → Bool
is_within q range = nat_le range.0 q && nat_le q range.1

-- one of the ranges has this id
abbrev pub is_in : BTreeMap ℕ ℕ → ℕ → Bool
is_in ranges q = list_any (is_within q) ranges.entries

-- one of them is from here to there
abbrev pub HasRange : BTreeMap ℕ ℕ → ℕ → ℕ → Type 0
HasRange ranges first last = get nat_cmp ranges first ≡ Some last

-- none ends before it begins, and none begins within another
pub record AreApart (ranges : BTreeMap ℕ ℕ) : Type 0 where
  pub forward : (first last : ℕ) → HasRange ranges first last → first ≤ last
  pub apart : (first last next end : ℕ) → HasRange ranges first last → HasRange ranges next end → first < next → last < next

-- ---- words of private clauses

-- the last of the ranges that begin at an id or before it
abbrev pub IsBefore : BTreeMap ℕ ℕ → ℕ → Option (ℕ × ℕ) → Type 0
IsBefore ranges id None = (first last : ℕ) → HasRange ranges first last → id < first
IsBefore ranges id (Some range) = HasRange ranges range.0 range.1 × (range.0 ≤ id) × ((first last : ℕ) → HasRange ranges first last → first ≤ id → first ≤ range.0)

-- the range that begins just after an id
abbrev pub IsAfter : BTreeMap ℕ ℕ → ℕ → Option (ℕ × ℕ) → Type 0
IsAfter ranges id None = ⊤
IsAfter ranges id (Some range) = (range.0 ≡ id + 1) × HasRange ranges range.0 range.1

abbrev pub covers : Option (ℕ × ℕ) → ℕ → Bool
covers None id = false
covers (Some range) id = nat_le id range.1

-- the first of a range that ends just before an id, or else the id
abbrev pub first_with : Option (ℕ × ℕ) → ℕ → ℕ
first_with None id = id
first_with (Some range) id = if nat_le (id - 1) range.1 then range.0 else id
