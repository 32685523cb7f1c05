-- What stands round an object's fields (Kubernetes API conventions, "Types (Kinds)", "Metadata"; ObjectMeta v1), validated in this order:
-- the body is an object, `apiVersion` and `kind`, `metadata`, `name`, `namespace`, `resourceVersion`, `managedFields`.
use Rattle.std.specs.Prelude.{ℕ, Bool, true, false, ◌&&◌, List, [], ◌∷◌, ◌++◌, Option, Some, None, option_and_then, if◌then◌else◌, codes}
use Rattle.std.specs.declared.result.Result.TheVariants.{Ok}
use Rattle.std.specs.Str.{bytes_eq}
use Rattle.serde_json.specs.Data.{Data, null, string, array, object, Items, no_items, item, Members, no_members, member, put}
use Rattle.serde_json.specs.Find.{get, get_member, as_object}
use Rattle.json_values.specs.Texts.{unless_empty}
use Rattle.names.specs.Decimals.{version_of}
use Rattle.objects.specs.declared.manager.Subresource.{Subresource}
use Rattle.schema.specs.Among.{is_in}
use Rattle.api_types.specs.TypesFile.{ServedShape}
use Rattle.typed.specs.Without.{Omitted}
use Rattle.api_request.specs.declared.reason.Reason.TheVariants.{BadRequest}
use Rattle.api_request.specs.declared.verb.Verb.{Verb}
use Rattle.api_request.specs.declared.verb.Verb.TheVariants.{Create, Apply}
use Rattle.api_request.specs.Validated.{Validated, and_then, refused_for, require}

-- what a body has to name, and what is asked with it; without a name the body gives its object's; of the body only what the subresource
-- writes counts
pub record Expected : Type 0 where
  pub served : ServedShape
  pub namespace : List ℕ
  pub name : Option (List ℕ)
  pub verb : Verb
  pub subresource : Subresource

-- the version that the body names, if any, and the body less its envelope, which is read under the type's schema
pub record Envelope : Type 0 where
  pub version : Option ℕ
  pub rest : Data

-- `group/version`
abbrev pub api_version_of : ServedShape → List ℕ
api_version_of t = t.group ++ codes "/" ++ t.version

-- of a member: the path above it, and its name
abbrev pub wrong_type : {X : Type 0} → List ℕ → List ℕ → Validated X
wrong_type path k = refused_for BadRequest (path ++ (k ++ codes ": wrong type"))

-- ---- texts

-- the member of an object that may be absent
abbrev pub member_of : List ℕ → Option Members → Option Data
member_of k ms = option_and_then (get_member k) ms

-- the text of a member; none where it is absent, null or the empty text
abbrev pub text_of : List ℕ → List ℕ → Option Data → Validated (Option (List ℕ))
text_of path k None = Ok None
text_of path k (Some null) = Ok None
text_of path k (Some (string s)) = Ok (unless_empty s)
text_of path k (Some d) = wrong_type path k

abbrev pub text_in : List ℕ → List ℕ → Option Members → Validated (Option (List ℕ))
text_in path k ms = text_of path k (member_of k ms)

abbrev pub is_text : Option (List ℕ) → List ℕ → Bool
is_text None s = false
is_text (Some t) s = bytes_eq t s

abbrev pub is_text_or_none : Option (List ℕ) → List ℕ → Bool
is_text_or_none None s = true
is_text_or_none (Some t) s = bytes_eq t s

-- ---- the steps

abbrev pub kind_message : List ℕ → List ℕ → List ℕ
kind_message api_version kind = codes "apiVersion and kind must be " ++ (api_version ++ (codes " and " ++ kind))

abbrev pub kind_validated : ServedShape → Members → Validated (Unit {0})
kind_validated t top =
    and_then (text_in (codes ".") (codes "apiVersion") (Some top)) (λ v.
    and_then (text_in (codes ".") (codes "kind") (Some top)) (λ k.
    require (is_text v (api_version_of t) && is_text k t.kind) BadRequest (kind_message (api_version_of t) t.kind)))

-- `metadata`, if it is there
abbrev pub metadata_in : Option Data → Validated (Option Members)
metadata_in None = Ok None
metadata_in (Some null) = Ok None
metadata_in (Some (object ms)) = Ok (Some ms)
metadata_in (Some d) = refused_for BadRequest (codes ".metadata: not an object")

abbrev pub must_be : List ℕ → List ℕ → List ℕ
must_be k wanted = codes "metadata." ++ (k ++ (codes " must be " ++ wanted))

-- what is given is that of the path, where the path has one
abbrev pub wanted_validated : List ℕ → Option (List ℕ) → Option (List ℕ) → Validated (Unit {0})
wanted_validated k None given = Ok tt
wanted_validated k (Some wanted) given = require (is_text_or_none given wanted) BadRequest (must_be k wanted)

abbrev pub given_validated : List ℕ → Option (List ℕ) → Option Members → Validated (Unit {0})
given_validated k wanted metadata = and_then (text_in (codes ".metadata.") k metadata) (wanted_validated k wanted)

abbrev pub version_or_fault : Option ℕ → Validated (Option ℕ)
version_or_fault None = refused_for BadRequest (codes "metadata.resourceVersion: bad version")
version_or_fault (Some v) = Ok (Some v)

abbrev pub version_read : Option (List ℕ) → Validated (Option ℕ)
version_read None = Ok None
version_read (Some s) = version_or_fault (version_of s)

abbrev pub version_validated : Option Members → Validated (Option ℕ)
version_validated metadata = and_then (text_in (codes ".metadata.") (codes "resourceVersion") metadata) version_read

-- a creation is of no version
abbrev pub version_allowed : Verb → Option ℕ → Validated (Unit {0})
version_allowed Create (Some v) = refused_for BadRequest (codes "metadata.resourceVersion must not be set")
version_allowed how given = Ok tt

-- an apply doesn't say who owns what (Server-Side Apply, "Managers")
abbrev pub entries_validated : Items → Validated (Unit {0})
entries_validated no_items = Ok tt
entries_validated (item d ds) = refused_for BadRequest (codes "metadata.managedFields must be empty")

abbrev pub managers_validated : Option Data → Validated (Unit {0})
managers_validated None = Ok tt
managers_validated (Some null) = Ok tt
managers_validated (Some (array ds)) = entries_validated ds
managers_validated (Some d) = wrong_type (codes ".metadata.") (codes "managedFields")

-- what any other write says of it is ignored
abbrev pub managers_by : Verb → Option Data → Validated (Unit {0})
managers_by Apply given = managers_validated given
managers_by how given = Ok tt

-- ---- the body less its envelope

abbrev pub top_names : List (List ℕ)
top_names = codes "apiVersion" ∷ codes "kind" ∷ []

-- the last four are read past
abbrev pub metadata_names : List (List ℕ)
metadata_names =
    codes "name" ∷ codes "namespace" ∷ codes "resourceVersion" ∷ codes "managedFields"
    ∷ codes "uid" ∷ codes "generation" ∷ codes "creationTimestamp" ∷ codes "selfLink" ∷ []

-- these members, and those of an object whose names are not among the given ones
abbrev pub with_others : List (List ℕ) → Members → Members → Members
with_others names no_members ms = ms
with_others names (member k d more) ms = with_others names more (if is_in names k then ms else put k d ms)

abbrev pub members_but : List (List ℕ) → Members → Members
members_but names ms = with_others names ms no_members

abbrev pub put_metadata : Option Members → Members → Members
put_metadata None rest = rest
put_metadata (Some ms) rest = put (codes "metadata") (object (members_but metadata_names ms)) rest

abbrev pub rest_of : Members → Option Members → Data
rest_of top metadata = object (put_metadata metadata (members_but top_names top))

-- what of a body is no field
abbrev pub left_out : Omitted
left_out = record { names = top_names; inside = codes "metadata"; inner = metadata_names }

abbrev pub metadata_validated : Expected → Members → Option Members → Validated Envelope
metadata_validated of top metadata =
    and_then (given_validated (codes "name") of.name metadata) (λ u.
    and_then (given_validated (codes "namespace") (Some of.namespace) metadata) (λ u.
    and_then (version_validated metadata) (λ version.
    and_then (version_allowed of.verb version) (λ u.
    and_then (managers_by of.verb (member_of (codes "managedFields") metadata)) (λ u.
    Ok (record { version = version; rest = rest_of top metadata }))))))

abbrev pub object_validated : Expected → Option Members → Validated Envelope
object_validated of None = refused_for BadRequest (codes ".: not an object")
object_validated of (Some top) =
    and_then (kind_validated of.served top) (λ u.
    and_then (metadata_in (get_member (codes "metadata") top)) (λ metadata.
    metadata_validated of top metadata))

-- the envelope of a write's body, or its first fault
abbrev pub envelope_of : Expected → Data → Validated Envelope
envelope_of of body = object_validated of (as_object body)

-- ---- the name that a body gives

abbrev pub filled_text : Data → Option (List ℕ)
filled_text (string s) = unless_empty s
filled_text d = None

abbrev pub name_in : Data → Option (List ℕ)
name_in body = option_and_then filled_text (option_and_then (get (codes "name")) (get (codes "metadata") body))
