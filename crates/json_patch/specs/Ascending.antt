-- The names of an object's members ascend, as they do in each value that a text is read as.
use Rattle.std.specs.Prelude.{◌≡◌, ℕ, List}
use Rattle.std.specs.Ordering.{nat_cmp}
use Rattle.std.specs.declared.cmp.Ordering.TheVariants.{Less}
use Rattle.std.specs.Cmp.Lexicographic.{slice_cmp}
use Rattle.serde_json.specs.Data.{Data, null, boolean, number, string, array, object, Members, no_members, member}

-- each name is after this one
abbrev pub AreAfter : List ℕ → Members → Type 0
AreAfter k no_members = Unit {0}
AreAfter k (member l d ms) = (slice_cmp nat_cmp k l ≡ Less) × AreAfter k ms

-- at each object that no array is round
abbrev mutual
  pub Ascends : Data → Type 0
  Ascends null = Unit {0}
  Ascends (boolean b) = Unit {0}
  Ascends (number n) = Unit {0}
  Ascends (string s) = Unit {0}
  Ascends (array ds) = Unit {0}
  Ascends (object ms) = MembersAscend ms

  pub MembersAscend : Members → Type 0
  MembersAscend no_members = Unit {0}
  MembersAscend (member k d ms) = AreAfter k ms × Ascends d × MembersAscend ms
