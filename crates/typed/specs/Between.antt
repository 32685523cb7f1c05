-- The members that a struct's fields are printed as, a stretch of the fields at a time (RFC 8259, section 4, "Objects").
use Rattle.std.specs.Prelude.{ℕ, Bool, true, ◌&&◌, List, Option, Some, None, if◌then◌else◌}
use Rattle.std.specs.Ordering.{is_lt, nat_cmp}
use Rattle.std.specs.Cmp.Lexicographic.{slice_cmp}
use Rattle.serde_json.specs.Data.{Data, Members, member}
use Rattle.fieldpath.specs.Elements.{name_text}
use Rattle.pathmap.specs.Contents.{Content}
use Rattle.pathmap.specs.Insides.{inside}
use Rattle.schema.specs.Shape.{Fields, no_fields, field}
use Rattle.typed.specs.Printing.{print}

-- a member of this name before the others, if there is a value
abbrev pub then_member : List ℕ → Option Data → Members → Members
then_member k None ms = ms
then_member k (Some d) ms = member k d ms

-- a member for each field in which something stands, and the others behind them
abbrev pub then_fields : Fields → Content → Members → Members
then_fields no_fields c rest = rest
then_fields (field f s more) c rest = then_member f (print s (inside (name_text f) c)) (then_fields more c rest)

abbrev pub is_above : Option (List ℕ) → List ℕ → Bool
is_above None f = true
is_above (Some k) f = is_lt (slice_cmp nat_cmp k f)

abbrev pub is_below : Option (List ℕ) → List ℕ → Bool
is_below None f = true
is_below (Some k) f = is_lt (slice_cmp nat_cmp f k)

-- the fields whose names lie above the one name and below the other, where there are such names
abbrev pub fields_between : Option (List ℕ) → Option (List ℕ) → Fields → Fields
fields_between low high no_fields = no_fields
fields_between low high (field f s more) = if is_above low f && is_below high f then field f s (fields_between low high more) else fields_between low high more
