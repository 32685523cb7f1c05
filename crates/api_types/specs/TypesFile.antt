-- What a types file declares, or its first fault.
use Rattle.std.specs.Prelude.{ℕ, suc, Bool, true, false, not, ◌&&◌, nat_le, List, [], ◌∷◌, Option, Some, None, if◌then◌else◌, codes}
use Rattle.std.specs.declared.result.Result.{Result}
use Rattle.std.specs.declared.result.Result.TheVariants.{Ok, Err}
use Rattle.std.specs.List.{list_any}
use Rattle.std.specs.Ordering.{nat_cmp, is_lt}
use Rattle.std.specs.Cmp.Lexicographic.{slice_cmp}
use Rattle.std.specs.Str.{bytes_eq}
use Rattle.serde_json.specs.Data.{Data, null, boolean, number, string, array, object, Items, no_items, item, Members, no_members, member}
use Rattle.serde_json.specs.Find.{get_member, as_object}
use Rattle.schema.specs.Shape.{Shape, struct_of, map_of, list_of, Fields, no_fields, field}
use Rattle.names.specs.Names.{is_dns_label, is_dns_subdomain}
use Rattle.api_types.specs.Names.{is_kind_name, is_plural}
use Rattle.api_types.specs.Refusals.{Refusal, misfit, same_names, not_the_form, and_then, some_or}
use Rattle.json_values.specs.Members.{has, text_at, members_at, items_at}
use Rattle.schema.specs.Among.{is_in}
use Rattle.api_types.specs.Keywords.{has_only}
use Rattle.api_types.specs.Forms.{Form, object_form, list_form, scalar_form, own_form}
use Rattle.api_types.specs.Profiles.{metadata_of}
use Rattle.api_types.specs.declared.profile.Profile.{Profile}

-- ---- shapes

abbrev pub one_field : List ℕ → Result Shape Refusal → Result Fields Refusal → Result Fields Refusal
one_field k (Err e) rest = Err e
one_field k (Ok s) (Err e) = Err e
one_field k (Ok s) (Ok all) = Ok (field k s all)

-- an object with additionalProperties is a map, else a struct, without properties a struct without fields
abbrev pub shape_of_form : Bool → Result Shape Refusal → Result Fields Refusal → Result Shape Refusal → Form → Result Shape Refusal
shape_of_form is_map values properties items (object_form is_atomic) = if is_map then and_then values (λ s. Ok (map_of s is_atomic)) else and_then properties (λ all. Ok (struct_of all is_atomic))
shape_of_form is_map values properties items (list_form kind) = and_then items (λ s. Ok (list_of s kind))
shape_of_form is_map values properties items (scalar_form s) = Ok s

abbrev mutual
  -- a schema at a depth; its own faults stand before those of its parts, and the parts come in byte order
  pub shape_in : ℕ → Data → Result Shape Refusal
  shape_in depth (object ms) =
      and_then (own_form depth ms)
      (shape_of_form (has (codes "additionalProperties") ms) (schema_at (codes "additionalProperties") depth ms) (properties_in depth ms) (schema_at (codes "items") depth ms))
  shape_in depth null = Err misfit
  shape_in depth (boolean b) = Err misfit
  shape_in depth (number n) = Err misfit
  shape_in depth (string s) = Err misfit
  shape_in depth (array ds) = Err misfit

  -- the schema at a keyword
  pub schema_at : List ℕ → ℕ → Members → Result Shape Refusal
  schema_at k depth no_members = Err misfit
  schema_at k depth (member l d ms) = if bytes_eq k l then shape_in (suc depth) d else schema_at k depth ms

  pub properties_in : ℕ → Members → Result Fields Refusal
  properties_in depth no_members = Ok no_fields
  properties_in depth (member l d ms) = if bytes_eq (codes "properties") l then fields_at depth d else properties_in depth ms

  pub fields_at : ℕ → Data → Result Fields Refusal
  fields_at depth (object ms) = fields_of depth ms
  fields_at depth null = Err misfit
  fields_at depth (boolean b) = Err misfit
  fields_at depth (number n) = Err misfit
  fields_at depth (string s) = Err misfit
  fields_at depth (array ds) = Err misfit

  pub fields_of : ℕ → Members → Result Fields Refusal
  fields_of depth no_members = Ok no_fields
  fields_of depth (member k d ms) = one_field k (shape_in (suc depth) d) (fields_of depth ms)

-- ---- types

pub record ServedShape : Type 0 where
  pub group : List ℕ
  pub version : List ℕ
  pub kind : List ℕ
  pub plural : List ℕ
  pub shape : Shape
  -- which the file is read for
  pub profile : Profile

-- properties of these names at the top of a type's schema are ignored
abbrev pub is_envelope : List ℕ → Bool
is_envelope = is_in (codes "apiVersion" ∷ codes "kind" ∷ codes "metadata" ∷ [])

abbrev pub own_properties : Members → Members
own_properties no_members = no_members
own_properties (member k d ms) = if is_envelope k then own_properties ms else member k d (own_properties ms)

-- a field more, in byte order
abbrev pub put_field : List ℕ → Shape → Fields → Fields
put_field f s no_fields = field f s no_fields
put_field f s (field g t more) = if is_lt (slice_cmp nat_cmp g f) then field g t (put_field f s more) else field f s (field g t more)

-- a type's schema is a granular object with properties
abbrev pub type_properties : Form → Members → Option Members
type_properties (object_form is_atomic) ms = if is_atomic then None else members_at (codes "properties") ms
type_properties (list_form kind) ms = None
type_properties (scalar_form s) ms = None

abbrev pub type_shape : Profile → Option Members → Result Shape Refusal
type_shape profile None = Err misfit
type_shape profile (Some ms) =
    and_then (own_form 1 ms) (λ form.
    and_then (some_or misfit (type_properties form ms)) (λ ps.
    and_then (fields_of 1 (own_properties ps)) (λ all.
    Ok (struct_of (put_field (codes "metadata") (metadata_of profile) all) false))))

abbrev pub text_where : (List ℕ → Bool) → Option (List ℕ) → Result (List ℕ) Refusal
text_where p None = Err not_the_form
text_where p (Some s) = if p s then Ok s else Err not_the_form

-- an object with no other members
abbrev pub object_of : List (List ℕ) → Option Members → Result Members Refusal
object_of names None = Err not_the_form
object_of names (Some ms) = if has_only names ms then Ok ms else Err not_the_form

abbrev pub type_members : List (List ℕ)
type_members = codes "group" ∷ codes "kind" ∷ codes "plural" ∷ codes "schema" ∷ codes "version" ∷ []

-- a type: its form, then its schema
abbrev pub type_of : Profile → Data → Result ServedShape Refusal
type_of profile d =
    and_then (object_of type_members (as_object d)) (λ ms.
    and_then (text_where is_dns_subdomain (text_at (codes "group") ms)) (λ group.
    and_then (text_where is_dns_label (text_at (codes "version") ms)) (λ version.
    and_then (text_where is_kind_name (text_at (codes "kind") ms)) (λ kind.
    and_then (text_where is_plural (text_at (codes "plural") ms)) (λ plural.
    and_then (some_or not_the_form (get_member (codes "schema") ms)) (λ schema.
    and_then (type_shape profile (as_object schema)) (λ s.
    Ok (record { group = group; version = version; kind = kind; plural = plural; shape = s; profile = profile }))))))))

-- type by type
abbrev pub one_type : Result ServedShape Refusal → Result (List ServedShape) Refusal → Result (List ServedShape) Refusal
one_type (Err e) rest = Err e
one_type (Ok t) (Err e) = Err e
one_type (Ok t) (Ok ts) = Ok (t ∷ ts)

abbrev pub types_of : Profile → Items → Result (List ServedShape) Refusal
types_of profile no_items = Ok []
types_of profile (item d ds) = one_type (type_of profile d) (types_of profile ds)

abbrev pub is_named : List ℕ → List ℕ → List ℕ → ServedShape → Bool
is_named group version plural t = bytes_eq group t.group && bytes_eq version t.version && bytes_eq plural t.plural

abbrev pub names_differ : List ServedShape → Bool
names_differ [] = true
names_differ (t ∷ ts) = not (list_any (is_named t.group t.version t.plural) ts) && names_differ ts

abbrev pub length_of : Items → ℕ
length_of no_items = 0
length_of (item d ds) = suc (length_of ds)

abbrev pub max_types : ℕ
max_types = 4294967295

abbrev pub few : Items → Result Items Refusal
few ds = if nat_le (length_of ds) max_types then Ok ds else Err not_the_form

-- the file's own form and number of types
abbrev pub listed : Data → Result Items Refusal
listed d =
    and_then (object_of (codes "types" ∷ []) (as_object d)) (λ ms.
    and_then (some_or not_the_form (items_at (codes "types") ms)) few)

-- then type by type, and equal names last
abbrev pub declared_types : Profile → Data → Result (List ServedShape) Refusal
declared_types profile d = and_then (listed d) (λ ds. and_then (types_of profile ds) (λ ts. if names_differ ts then Ok ts else Err same_names))

-- the number of the type with these names
abbrev pub number_from : ℕ → List ℕ → List ℕ → List ℕ → List ServedShape → Option ℕ
number_from n group version plural [] = None
number_from n group version plural (t ∷ ts) = if is_named group version plural t then Some n else number_from (suc n) group version plural ts

abbrev pub type_number : List ℕ → List ℕ → List ℕ → List ServedShape → Option ℕ
type_number = number_from 0
