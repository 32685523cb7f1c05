-- What is left of a body that a JSON text spells is such a value, so what is read of it is a content of the type.
use Rattle.std.proofs.Common.{◌≡◌, ◌≤◌, ℕ, suc, max, Bool, true, false, cond, List, Option, Some, None, Ok, Err, refl, ap, subst, arith}
use Rattle.std.specs.Prelude.{codes}
use Rattle.std.proofs.lemmas.Bool.{and_parts}
use Rattle.serde_json.specs.Data.{Data, null, boolean, number, string, array, object, Members, no_members, member, put, depth, members_depth}
use Rattle.serde_json.specs.Find.{get_member}
use Rattle.fieldpath.specs.Encodable.{IsEncodable, MembersAreEncodable}
use Rattle.fieldpath.proofs.Encodable.{put_ascend, put_encodable}
use Rattle.params.specs.declared.params.Asked.{Asked}
use Rattle.pathmap.specs.Contents.{Content}
use Rattle.schema.specs.Among.{is_in}
use Rattle.schema.specs.Lawful.{is_well_formed}
use Rattle.typed.specs.Faults.{Read}
use Rattle.typed.specs.Fitting.{IsContent}
use Rattle.typed.specs.Reading.{content_of}
use Rattle.objects.proofs.FieldTexts.{put_depth}
use Rattle.typed.proofs.Keeping.{reading_content}
use Rattle.schema.specs.ObjectShape.{IsObjectShape}
use Rattle.objects.proofs.Taken.{Kept, found_encodable, found_depth}
use Rattle.api_request.specs.Json.{IsJson}
use Rattle.api_validation.specs.Envelope.{Envelope, Expected, envelope_of, given_validated, kind_validated, managers_by, member_of, members_but, metadata_in, metadata_validated, metadata_names, put_metadata, rest_of, top_names, version_allowed, version_validated, with_others}
use Rattle.api_request.specs.Validated.{Validated}
use Rattle.api_validation.specs.Parameters.{parameters_for}
use Rattle.api_validation.specs.Shapes.{shape_validated}
use Rattle.verbs.specs.Step.{Intent, intent_of}
use Rattle.api_request.proofs.Checks.{no_err, ok_is, passed}

-- ---- members left out

put_kept : (n : ℕ) (k : List ℕ) (d : Data) (ms : Members) → IsEncodable d → depth d ≤ n → Kept n ms → Kept n (put k d ms)
put_kept n k d ms encodable deep h = (put_ascend k d ms h.0, put_encodable k d ms encodable h.1, put_depth n k d ms deep h.2)

none_kept : (n : ℕ) → Kept n no_members
none_kept n = (refl, tt, omega arith)

kept_if : (n : ℕ) (b : Bool) (k : List ℕ) (d : Data) (ms : Members) → IsEncodable d → depth d ≤ n → Kept n ms → Kept n (cond b ms (put k d ms))
kept_if n true k d ms encodable deep h = h
kept_if n false k d ms encodable deep h = put_kept n k d ms encodable deep h

first_deep : (a b n : ℕ) → max a b ≤ n → a ≤ n
first_deep a b n h = omega (arith, h)

later_deep : (a b n : ℕ) → max a b ≤ n → b ≤ n
later_deep a b n h = omega (arith, h)

others_kept : (n : ℕ) (names : List (List ℕ)) (all ms : Members) → MembersAreEncodable all → members_depth all ≤ n → Kept n ms → Kept n (with_others names all ms)
others_kept n names no_members ms encodable deep h = h
others_kept n names (member k d more) ms encodable deep h =
    others_kept n names more (cond (is_in names k) ms (put k d ms)) encodable.1 (later_deep (depth d) (members_depth more) n deep)
    (kept_if n (is_in names k) k d ms encodable.0 (first_deep (depth d) (members_depth more) n deep) h)

left_kept : (n : ℕ) (names : List (List ℕ)) (all : Members) → MembersAreEncodable all → members_depth all ≤ n → Kept n (members_but names all)
left_kept n names all encodable deep = others_kept n names all no_members encodable deep (none_kept n)

itself : (n : ℕ) → n ≤ n
itself n = omega arith

one_deeper : (a m n : ℕ) → a ≤ m → suc m ≤ n → suc a ≤ n
one_deeper a m n h k = omega (arith, h, k)

metadata_kept : (n : ℕ) (rest : Members) (found : Option Data) (metadata : Option Members) → Kept n rest → ((d : Data) → found ≡ Some d → IsEncodable d × (depth d ≤ n))
    → metadata_in found ≡ Ok metadata → Kept n (put_metadata metadata rest)
metadata_kept n rest None metadata kept is e = subst (λ m. Kept n (put_metadata m rest)) (ok_is None metadata e) kept
metadata_kept n rest (Some null) metadata kept is e = subst (λ m. Kept n (put_metadata m rest)) (ok_is None metadata e) kept
metadata_kept n rest (Some (boolean b)) metadata kept is e = no_err _ metadata e
metadata_kept n rest (Some (number x)) metadata kept is e = no_err _ metadata e
metadata_kept n rest (Some (string s)) metadata kept is e = no_err _ metadata e
metadata_kept n rest (Some (array ds)) metadata kept is e = no_err _ metadata e
metadata_kept n rest (Some (object ms)) metadata kept is e =
    let here = is (object ms) refl in
    let m = members_depth ms in
    let left = left_kept m metadata_names ms here.0.1 (itself m) in
    subst (λ x. Kept n (put_metadata x rest)) (ok_is (Some ms) metadata e)
    (put_kept n (codes "metadata") (object (members_but metadata_names ms)) rest (left.0, left.1) (one_deeper (members_depth (members_but metadata_names ms)) m n left.2 here.1) kept)

-- ---- the envelope

abbrev rest_in : Validated Envelope → Data
rest_in (Ok e) = e.rest
rest_in (Err d) = null

validated_rest : (of : Expected) (top : Members) (metadata : Option Members) (e : Envelope) → metadata_validated of top metadata ≡ Ok e → rest_of top metadata ≡ e.rest
validated_rest of top metadata e is =
    let name = passed (given_validated (codes "name") of.name metadata) _ e is in
    let namespace = passed (given_validated (codes "namespace") (Some of.namespace) metadata) _ e name.2 in
    let version = passed (version_validated metadata) _ e namespace.2 in
    let allowed = passed (version_allowed of.verb version.0) _ e version.2 in
    let managers = passed (managers_by of.verb (member_of (codes "managedFields") metadata)) _ e allowed.2 in
    ap rest_in managers.2

less_deep : (a : ℕ) → suc a ≤ 127 → a ≤ 126
less_deep a h = omega (arith, h)

deep_enough : (a : ℕ) → a ≤ 126 → suc a ≤ 127
deep_enough a h = omega (arith, h)

rest_json : (of : Expected) (body : Data) (e : Envelope) → IsJson body → envelope_of of body ≡ Ok e → IsJson e.rest
rest_json of null e json is = no_err _ e is
rest_json of (boolean b) e json is = no_err _ e is
rest_json of (number x) e json is = no_err _ e is
rest_json of (string s) e json is = no_err _ e is
rest_json of (array ds) e json is = no_err _ e is
rest_json of (object top) e json is =
    let kind = passed (kind_validated of.served top) _ e is in
    let metadata = passed (metadata_in (get_member (codes "metadata") top)) _ e kind.2 in
    let low = less_deep (members_depth top) json.1 in
    let left = left_kept 126 top_names top json.0.1 low in
    let whole = metadata_kept 126 (members_but top_names top) (get_member (codes "metadata") top) metadata.0 left
    (λ d there. (found_encodable (codes "metadata") d top json.0.1 there, found_depth 126 (codes "metadata") d top low there)) metadata.1 in
    subst IsJson (validated_rest of top metadata.0 e metadata.2) ((whole.0, whole.1), deep_enough (members_depth (put_metadata metadata.0 (members_but top_names top))) whole.2)

-- ---- the content

read_well : (r : Read Content) (c : Content) → shape_validated r ≡ Ok c → r ≡ Ok c
read_well (Ok x) c e = ap Ok (ok_is x c e)
read_well (Err f) c e = no_err _ c e

abbrev content_in : Content → Validated Intent → Content
content_in c (Ok i) = i.content
content_in c (Err d) = c

-- what a write intends is a content of its type
pub intended_content : (of : Expected) (how : Asked) (query : List ℕ) (body : Data) (i : Intent) → IsObjectShape of.served.shape → IsJson body → intent_of of how query body ≡ Ok i
    → IsContent of.served.shape i.content
intended_content of how query body i shaped json e =
    let s = of.served.shape in
    let envelope = passed (envelope_of of body) _ i e in
    let shape = passed (shape_validated (content_of s envelope.0.rest)) _ i envelope.2 in
    let values = passed (parameters_for of.served how query) _ i shape.2 in
    let rest = rest_json of body envelope.0 json envelope.1 in
    subst (IsContent s) (ap (content_in shape.0) values.2)
    (reading_content s envelope.0.rest shape.0 (and_parts (is_well_formed s) _ shaped.1).0 rest.0 rest.1 (read_well (content_of s envelope.0.rest) shape.0 shape.1))
