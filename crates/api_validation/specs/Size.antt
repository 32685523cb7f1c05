-- Limits of an object: 64 labels, and 1,048,576 bytes of its text.
use Rattle.std.specs.Prelude.{ℕ, suc, Bool, not, length, nat_le, nat_lt, Option, Some, None, codes}
use Rattle.serde_json.specs.Data.{Data, Members, no_members, member}
use Rattle.serde_json.specs.Written.{compact_text}
use Rattle.api_request.specs.declared.reason.Reason.TheVariants.{Invalid}
use Rattle.api_request.specs.Validated.{Validated, and_then, require, require_at}
use Rattle.api_validation.specs.Naming.{metadata_object}

abbrev pub max_labels : ℕ
max_labels = 64

abbrev pub max_bytes : ℕ
max_bytes = 1048576

abbrev pub count : Members → ℕ
count no_members = 0
count (member k d ms) = suc (count ms)

abbrev pub count_if_there : Option Members → ℕ
count_if_there None = 0
count_if_there (Some ms) = count ms

-- No object has a float, since reading refuses it: `compact_text` has no text for one.
abbrev pub is_over : Data → Bool
is_over d = nat_lt max_bytes (length (compact_text d))

-- the object as it is printed
abbrev pub size_validated : Data → Validated (Unit {0})
size_validated d =
    and_then (require_at (nat_le (count_if_there (metadata_object (codes "labels") d)) max_labels) (codes "metadata.labels") (codes "more than 64")) (λ u.
    require (not (is_over d)) Invalid (codes "object over 1048576 bytes"))
