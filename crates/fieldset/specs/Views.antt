-- What the calls of the reader answer, beside the definition.
use Rattle.std.specs.Prelude.{◌≡◌, ◌&&◌, ℕ, Bool, List, Option, Some, None, String, string_bytes, if◌then◌else◌}
use Rattle.std.specs.declared.alloc.Global.{Global}
use Rattle.std.specs.declared.result.Result.{Result}
use Rattle.std.specs.declared.result.Result.TheVariants.{Ok, Err}
use Rattle.std.specs.Str.{bytes_eq}
use Rattle.serde_json.specs.Data.{Data, Members}
use Rattle.fieldpath.specs.Elements.{Element, IsElementText, read_element}
use Rattle.json_values.specs.Members.{has}
use Rattle.schema.specs.Steps.{TypeRef, step}
use Rattle.fieldset.specs.FieldsV1.{Reading, Refusal, and_then, dot, element_in, is_key_field, may_have_dot, read_below, read_mark, some_or, not_an_object, bad_key, not_canonical, off_schema}
use Rattle.fieldset.specs.declared.fault.FieldsV1Fault.{FieldsV1Fault}
use Rattle.fieldset.specs.declared.fault.FieldsV1Fault.TheVariants as fault
use Rattle.fieldset.specs.declared.fields_v1.Member.{Member}
use Rattle.pathmap.specs.Contents.{Content, nothing, under}
use Rattle.pathmap.specs.Maps.{content}

-- a fault is the definition's refusal; where memory ran out, nothing is said
abbrev pub FailsWith : {Y : Type 0} → FieldsV1Fault → Result Y Refusal → Type 0
FailsWith fault.NotAnObject read = read ≡ Err not_an_object
FailsWith fault.BadKey read = read ≡ Err bad_key
FailsWith fault.NotCanonical read = read ≡ Err not_canonical
FailsWith fault.OffSchema read = read ≡ Err off_schema
FailsWith fault.Memory read = Unit {0}

-- what a call returned, by its view, is what is read, or memory ran out
abbrev pub Returns : {X Y : Type 0} → (X → Y) → Result X FieldsV1Fault → Result Y Refusal → Type 0
Returns view (Ok x) read = read ≡ Ok (view x)
Returns view (Err e) read = FailsWith e read

-- what a member adds to what stands here
abbrev pub member_view : Option Member → Content
member_view None = nothing
member_view (Some m) = under (string_bytes m.element) (content m.map)

abbrev pub IsNamed : Option Member → List ℕ → Type 0
IsNamed None name = Unit {0}
IsNamed (Some m) name = string_bytes m.element ≡ name

-- what `.` and key fields say, by whether they may stand there and whether their value has no member
abbrev pub mark_by : Bool → Bool → Reading
mark_by is_due is_empty = if is_due && is_empty then Ok nothing else Err not_canonical

-- the text of an element, or that it is none
abbrev pub Reads : List ℕ → Result (String Global) FieldsV1Fault → Type 0
Reads name (Ok t) = (string_bytes t ≡ name) × IsElementText name
Reads name (Err fault.NotAnObject) = ⊥
Reads name (Err fault.BadKey) = element_in (read_element name) ≡ Err bad_key
Reads name (Err fault.NotCanonical) = ⊥
Reads name (Err fault.OffSchema) = ⊥
Reads name (Err fault.Memory) = Unit {0}

-- ---- a member, by where its name leads

-- where an element leads that is of no key field
abbrev pub stepped : TypeRef → Element → Result (Option TypeRef) Refusal
stepped s e = and_then (some_or off_schema (step s e)) (λ next. Ok (Some next))

-- where an element leads; none where it is that of a key field of the item that stands here
abbrev pub next_at : TypeRef → Element → Result (Option TypeRef) Refusal
next_at s e = if is_key_field s e then Ok None else stepped s e

abbrev pub next_of : TypeRef → List ℕ → Result (Option TypeRef) Refusal
next_of s k = and_then (element_in (read_element k)) (next_at s)

-- what a member says, by where its name leads
abbrev pub read_next : Reading → List ℕ → (TypeRef → Reading) → Option TypeRef → Reading
read_next mark k inner None = mark
read_next mark k inner (Some next) = read_below k (inner next)

-- `read_member`, step by step
abbrev pub read_named : TypeRef → Members → List ℕ → Data → (TypeRef → Reading) → Reading
read_named s beside k d inner = if bytes_eq k dot then read_mark (may_have_dot s beside) d else and_then (next_of s k) (read_next (read_mark (has dot beside) d) k inner)
