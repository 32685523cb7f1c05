-- What a schema's own keywords say, or its own fault.
use Rattle.std.specs.Prelude.{ℕ, Bool, not, ◌&&◌, nat_le, [], ◌∷◌, Option, Some, None, is_some, option_map, if◌then◌else◌, codes}
use Rattle.std.specs.declared.result.Result.{Result}
use Rattle.std.specs.declared.result.Result.TheVariants.{Ok, Err}
use Rattle.serde_json.specs.Data.{Members}
use Rattle.schema.specs.Shape.{Kind, Shape}
use Rattle.schema.specs.Lawful.{max_depth}
use Rattle.json_values.specs.Members.{has, members_at}
use Rattle.api_types.specs.Keywords.{has_no, has_only, is_object_or_absent, keywords, TypeName, object_type, array_type, scalar_type, type_in, map_type, list_type}
use Rattle.api_types.specs.Refusals.{Refusal, unknown_keyword, unknown_type, misfit, too_deep, and_then, some_or}

pub data Form : Type 0 where
  object_form : Bool → Form
  list_form : Kind → Form
  scalar_form : Shape → Form

abbrev pub object_fits : Members → Bool
object_fits ms =
    has_no (codes "items" ∷ codes "x-kubernetes-list-type" ∷ codes "x-kubernetes-list-map-keys" ∷ []) ms
    && not (has (codes "properties") ms && has (codes "additionalProperties") ms)
    && is_object_or_absent (codes "properties") ms && is_object_or_absent (codes "additionalProperties") ms

abbrev pub list_fits : Members → Bool
list_fits ms = has_no (codes "properties" ∷ codes "additionalProperties" ∷ codes "x-kubernetes-map-type" ∷ []) ms && is_some (members_at (codes "items") ms)

abbrev pub scalar_fits : Members → Bool
scalar_fits ms = has_no (codes "properties" ∷ codes "additionalProperties" ∷ codes "x-kubernetes-map-type" ∷ codes "items" ∷ codes "x-kubernetes-list-type" ∷ codes "x-kubernetes-list-map-keys" ∷ []) ms

-- none where a keyword is at a wrong place or a rule is broken
abbrev pub form_of : TypeName → Members → Option Form
form_of object_type ms = if object_fits ms then option_map object_form (map_type ms) else None
form_of array_type ms = if list_fits ms then option_map list_form (list_type ms) else None
form_of (scalar_type s) ms = if scalar_fits ms then Some (scalar_form s) else None

-- what it says without its unknown keywords, or its other own refusals by number
abbrev pub known_form : ℕ → Members → Result Form Refusal
known_form depth ms =
    and_then (some_or unknown_type (type_in ms)) (λ t.
    and_then (some_or misfit (form_of t ms)) (λ form.
    if nat_le depth max_depth then Ok form else Err too_deep))

-- its own refusals by number
abbrev pub own_form : ℕ → Members → Result Form Refusal
own_form depth ms = if not (has_only keywords ms) then Err unknown_keyword else known_form depth ms
