-- Names of objects, and keys and values of their labels and annotations (Kubernetes docs, "Object Names and IDs", "Labels and Selectors", "Annotations").
use Rattle.std.specs.Prelude.{ℕ, List, Option, Some, None, option_and_then, codes}
use Rattle.std.specs.declared.result.Result.TheVariants.{Ok, Err}
use Rattle.serde_json.specs.Data.{Data, string, Members, no_members, member}
use Rattle.serde_json.specs.Find.{get, as_object}
use Rattle.objects.specs.declared.manager.Subresource.{Subresource}
use Rattle.objects.specs.declared.manager.Subresource.TheVariants.{Main, Status}
use Rattle.names.specs.Names.{is_dns_label, is_dns_subdomain, is_label_key, is_label_value}
use Rattle.api_request.specs.declared.cause_type.CauseType.TheVariants.{FieldValueRequired}
use Rattle.api_request.specs.declared.reason.Reason.TheVariants.{Invalid}
use Rattle.api_request.specs.Validated.{Validated, and_then, field_refusal, require_at}

abbrev pub path_validated : List ℕ → List ℕ → Validated (Unit {0})
path_validated namespace name =
    and_then (require_at (is_dns_subdomain name) (codes "metadata.name") (codes "bad name")) (λ u.
    require_at (is_dns_label namespace) (codes "metadata.namespace") (codes "bad namespace"))

-- a null member is absent; by their shape all others are texts
abbrev pub label_validated : List ℕ → Data → Validated (Unit {0})
label_validated k (string s) =
    and_then (require_at (is_label_key k) (codes "metadata.labels") (codes "bad key")) (λ u.
    require_at (is_label_value s) (codes "metadata.labels") (codes "bad value"))
label_validated k d = Ok tt

-- in the order of keys, each key before its value
abbrev pub labels_validated : Members → Validated (Unit {0})
labels_validated no_members = Ok tt
labels_validated (member k d ms) = and_then (label_validated k d) (λ u. labels_validated ms)

abbrev pub annotation_validated : List ℕ → Data → Validated (Unit {0})
annotation_validated k (string s) = require_at (is_label_key k) (codes "metadata.annotations") (codes "bad key")
annotation_validated k d = Ok tt

abbrev pub annotations_validated : Members → Validated (Unit {0})
annotations_validated no_members = Ok tt
annotations_validated (member k d ms) = and_then (annotation_validated k d) (λ u. annotations_validated ms)

-- an object in `metadata`, if it is there
abbrev pub metadata_object : List ℕ → Data → Option Members
metadata_object k body = option_and_then as_object (option_and_then (get k) (get (codes "metadata") body))

abbrev pub if_there : (Members → Validated (Unit {0})) → Option Members → Validated (Unit {0})
if_there validated None = Ok tt
if_there validated (Some ms) = validated ms

-- the labels and annotations of a body
abbrev pub labels_and_annotations_validated : Data → Validated (Unit {0})
labels_and_annotations_validated body =
    and_then (if_there labels_validated (metadata_object (codes "labels") body)) (λ u.
    if_there annotations_validated (metadata_object (codes "annotations") body))

-- those that a write gives: a status has none
abbrev pub labels_and_annotations_validated_by : Subresource → Data → Validated (Unit {0})
labels_and_annotations_validated_by Main body = labels_and_annotations_validated body
labels_and_annotations_validated_by Status body = Ok tt

-- the object's name and namespace, then the body's labels and annotations
abbrev pub names_validated : Subresource → List ℕ → List ℕ → Data → Validated (Unit {0})
names_validated subresource namespace name body = and_then (path_validated namespace name) (λ u. labels_and_annotations_validated_by subresource body)

-- a creation has to name its object
abbrev pub required_name : Option (List ℕ) → Validated (List ℕ)
required_name None = Err (field_refusal Invalid FieldValueRequired (codes "metadata.name") (codes "required"))
required_name (Some name) = Ok name
