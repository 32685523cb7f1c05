-- Items are as their list wants them: what a schema's keywords asked of the schema of its items holds of what was read there.
use Rattle.std.proofs.Common.{◌≡◌, ℕ, zero, suc, ◌==◌, Bool, true, false, true≢false, cond, not, ◌&&◌, ◌||◌, T, nat_le, List, [], ◌∷◌, map, length, Option, Some, None, option_map, option_and_then, Ok, Err, nat_cmp, codes, refl, sym, ap, subst, ◌∙◌, arith}
use Rattle.std.proofs.lemmas.Bool.{and_parts, ne_eqb}
use Rattle.std.proofs.lemmas.Slice.Eq.{bytes_eq-Decides}
use Rattle.std.specs.Cmp.Derive.{both_true}
use Rattle.std.specs.Cmp.Lexicographic.{slice_cmp}
use Rattle.std.specs.FinMap as fin
use Rattle.std.specs.FinMap.{is_sorted}
use Rattle.std.specs.FinMap.Entries.{below_all}
use Rattle.std.specs.List.{list_all}
use Rattle.std.specs.Str.{bytes_eq}
use Rattle.std.specs.declared.result.Result.{Result}
use Rattle.serde_json.specs.Data.{Data, null, boolean, number, string, array, object, Members, no_members, member}
use Rattle.serde_json.specs.Find.{get_member, as_object}
use Rattle.fieldpath.specs.Scalars.{ascend, ascend_from}
use Rattle.api_types.specs.Forms.{Form, object_form, list_form, scalar_form, object_fits, list_fits, scalar_fits, form_of, own_form}
use Rattle.json_values.specs.Members.{has, members_at, items_at, text_at}
use Rattle.api_types.specs.Keywords.{has_only, keywords, texts_in, map_type, TypeName, object_type, array_type, scalar_type, type_in, type_named, text_or, is_scalar_type, is_object_type, is_scalar_schema, have_scalars, is_granular, is_keyed_struct, name_set, different, key_names, atomic_kind, set_kind, keyed_kind, kind_named, list_type}
use Rattle.schema.specs.Lawful.{max_depth, is_scalar, is_some_scalar, has_keys, is_some_name, item_is_lawful}
use Rattle.api_types.specs.Refusals.{Refusal, unknown_keyword, unknown_type, misfit, too_deep, and_then, some_or}
use Rattle.schema.specs.Shape.{Kind, atomic, set, keyed, Shape, text, whole, truth, struct_of, Fields, field, shape_at}
use Rattle.api_types.specs.TypesFile.{shape_in, schema_at, properties_in, fields_of, one_field, shape_of_form}
use Rattle.api_types.proofs.Reading.{schema_or, fields_or, schema_at-is, properties_in-is, at_name}

-- ---- what an answer was made of

abbrev ok_or : {X : Type 0} → X → Result X Refusal → X
ok_or d (Ok x) = x
ok_or d (Err e) = d

same_ok : {X : Type 0} (x y : X) → ◌≡◌ {A = Result X Refusal} (Ok x) (Ok y) → x ≡ y
same_ok x y e = ap (ok_or x) e

abbrev some_of : {X : Type 0} → X → Option X → X
some_of d (Some x) = x
some_of d None = d

same_some : {X : Type 0} (x y : X) → Some x ≡ Some y → x ≡ y
same_some x y e = ap (some_of x) e

abbrev Parts : ℕ → Members → Form → Type 0
Parts depth ms form = (t : TypeName) × (type_in ms ≡ Some t) × (form_of t ms ≡ Some form)

by_depth : (b : Bool) (f form : Form) → cond b (Ok f) (Err too_deep) ≡ Ok form → f ≡ form
by_depth true f form h = same_ok f form h
by_depth false f form h = absurd cc

by_form : (depth : ℕ) (ms : Members) (form : Form) (t : TypeName) (o : Option Form) → form_of t ms ≡ o
    → and_then (some_or misfit o) (λ f. cond (nat_le depth max_depth) (Ok f) (Err too_deep)) ≡ Ok form → form_of t ms ≡ Some form
by_form depth ms form t None is h = absurd cc
by_form depth ms form t (Some f) is h = is ∙ ap Some (by_depth (nat_le depth max_depth) f form h)

by_type : (depth : ℕ) (ms : Members) (form : Form) (o : Option TypeName) → type_in ms ≡ o
    → and_then (some_or unknown_type o) (λ t. and_then (some_or misfit (form_of t ms)) (λ f. cond (nat_le depth max_depth) (Ok f) (Err too_deep))) ≡ Ok form → Parts depth ms form
by_type depth ms form None is h = absurd cc
by_type depth ms form (Some t) is h = (t, is, by_form depth ms form t (form_of t ms) refl h)

by_keywords : (depth : ℕ) (ms : Members) (form : Form) (b : Bool)
    → cond b (Err unknown_keyword) (and_then (some_or unknown_type (type_in ms)) (λ t. and_then (some_or misfit (form_of t ms)) (λ f. cond (nat_le depth max_depth) (Ok f) (Err too_deep)))) ≡ Ok form
    → Parts depth ms form
by_keywords depth ms form true h = absurd cc
by_keywords depth ms form false h = by_type depth ms form (type_in ms) refl h

own_parts : (depth : ℕ) (ms : Members) (form : Form) → own_form depth ms ≡ Ok form → Parts depth ms form
own_parts depth ms form h = by_keywords depth ms form (not (has_only keywords ms)) h

-- ---- the kind of a list

abbrev KindFits : Members → Kind → Type 0
KindFits ms atomic = Unit {0}
KindFits ms set = is_scalar_schema (members_at (codes "items") ms) ≡ true
KindFits ms (keyed names) = (key_names ms ≡ Some names) × (is_keyed_struct names (members_at (codes "items") ms) ≡ true)

atomic_fits : (ms : Members) (k : Kind) (b : Bool) → cond b None (Some atomic) ≡ Some k → KindFits ms k
atomic_fits ms k true h = absurd cc
atomic_fits ms k false h = subst (KindFits ms) (same_some atomic k h) tt

set_fits : (ms : Members) (k : Kind) (a b : Bool) → is_scalar_schema (members_at (codes "items") ms) ≡ b → cond (a || not b) None (Some set) ≡ Some k → KindFits ms k
set_fits ms k true b is h = absurd cc
set_fits ms k false false is h = absurd cc
set_fits ms k false true is h = subst (KindFits ms) (same_some set k h) is

keyed_by : (ms : Members) (k : Kind) (names : List (List ℕ)) (b : Bool) → key_names ms ≡ Some names → is_keyed_struct names (members_at (codes "items") ms) ≡ b → cond b (Some (keyed names)) None ≡ Some k → KindFits ms k
keyed_by ms k names true named is h = subst (KindFits ms) (same_some (keyed names) k h) (named, is)
keyed_by ms k names false named is h = absurd cc

keyed_fits : (ms : Members) (k : Kind) (o : Option (List (List ℕ))) → key_names ms ≡ o
    → option_and_then (λ names. cond (is_keyed_struct names (members_at (codes "items") ms)) (Some (keyed names)) None) o ≡ Some k → KindFits ms k
keyed_fits ms k None named h = absurd cc
keyed_fits ms k (Some names) named h = keyed_by ms k names _ named refl h

kind_by : (ms : Members) (k : Kind) (a b c : Bool) → cond a (atomic_kind ms) (cond b (set_kind ms) (cond c (keyed_kind ms) None)) ≡ Some k → KindFits ms k
kind_by ms k true b c h = atomic_fits ms k (has (codes "x-kubernetes-list-map-keys") ms) h
kind_by ms k false true c h = set_fits ms k (has (codes "x-kubernetes-list-map-keys") ms) _ refl h
kind_by ms k false false true h = keyed_fits ms k (key_names ms) refl h
kind_by ms k false false false h = absurd cc

kind_of_text : (ms : Members) (k : Kind) (o : Option (List ℕ)) → option_and_then (kind_named ms) o ≡ Some k → KindFits ms k
kind_of_text ms k None h = absurd cc
kind_of_text ms k (Some s) h = kind_by ms k (bytes_eq s (codes "atomic")) (bytes_eq s (codes "set")) (bytes_eq s (codes "map")) h

kind_fits : (ms : Members) (k : Kind) → list_type ms ≡ Some k → KindFits ms k
kind_fits ms k h = kind_of_text ms k (text_or (codes "atomic") (get_member (codes "x-kubernetes-list-type") ms)) h

no_list : (b : Bool) (o : Option Bool) (k : Kind) → cond b (option_map object_form o) None ≡ Some (list_form k) → ⊥
no_list true None k h = cc
no_list true (Some a) k h = cc
no_list false o k h = cc

no_scalar_list : (b : Bool) (s : Shape) (k : Kind) → cond b (Some (scalar_form s)) None ≡ Some (list_form k) → ⊥
no_scalar_list true s k h = cc
no_scalar_list false s k h = cc

abbrev kind_in : Kind → Form → Kind
kind_in d (list_form k) = k
kind_in d _ = d

listed : (b : Bool) (o : Option Kind) (k : Kind) → cond b (option_map list_form o) None ≡ Some (list_form k) → o ≡ Some k
listed true None k h = absurd cc
listed true (Some j) k h = ap (λ f. Some (kind_in j f)) (same_some (list_form j) (list_form k) h)
listed false o k h = absurd cc

kind_by_type : (ms : Members) (k : Kind) (t : TypeName) → form_of t ms ≡ Some (list_form k) → KindFits ms k
kind_by_type ms k object_type h = absurd (no_list (object_fits ms) (map_type ms) k h)
kind_by_type ms k array_type h = kind_fits ms k (listed (list_fits ms) (list_type ms) k h)
kind_by_type ms k (scalar_type s) h = absurd (no_scalar_list (scalar_fits ms) s k h)

-- ---- a scalar

scalar_is : (r s : Shape) → Some (scalar_type r) ≡ Some (scalar_type s) → s ≡ r
scalar_is r s h = cc

scalar_named : (a b c d e : Bool) (s : Shape)
    → cond a (Some object_type) (cond b (Some array_type) (cond c (Some (scalar_type text)) (cond d (Some (scalar_type whole)) (cond e (Some (scalar_type truth)) None)))) ≡ Some (scalar_type s)
    → is_scalar s ≡ true
scalar_named true b c d e s h = absurd cc
scalar_named false true c d e s h = absurd cc
scalar_named false false true d e s h = ap is_scalar (scalar_is text s h)
scalar_named false false false true e s h = ap is_scalar (scalar_is whole s h)
scalar_named false false false false true s h = ap is_scalar (scalar_is truth s h)
scalar_named false false false false false s h = absurd cc

scalar_in : (o : Option (List ℕ)) (s : Shape) → option_and_then type_named o ≡ Some (scalar_type s) → is_scalar s ≡ true
scalar_in None s h = absurd cc
scalar_in (Some x) s h =
    scalar_named (bytes_eq x (codes "object")) (bytes_eq x (codes "array")) (bytes_eq x (codes "string")) (bytes_eq x (codes "integer")) (bytes_eq x (codes "boolean")) s h

form_is : (b : Bool) (f g : Form) → cond b (Some f) None ≡ Some g → f ≡ g
form_is true f g h = same_some f g h
form_is false f g h = absurd cc

module _ (is_map : Bool) (values items : Result Shape Refusal) (properties : Result Fields Refusal) (s : Shape) where
  scalar_shape_of : (u : Shape) (f : Form) → scalar_form u ≡ f → shape_of_form is_map values properties items f ≡ Ok s → u ≡ s
  scalar_shape_of u f is h = same_ok u s (ap (shape_of_form is_map values properties items) is ∙ h)

scalar_by_type : (depth : ℕ) (ms : Members) (s : Shape) (form : Form) (t : TypeName) → type_in ms ≡ Some t → is_scalar_type (Some t) ≡ true → form_of t ms ≡ Some form
    → shape_of_form (has (codes "additionalProperties") ms) (schema_at (codes "additionalProperties") depth ms) (properties_in depth ms) (schema_at (codes "items") depth ms) form ≡ Ok s
    → is_scalar s ≡ true
scalar_by_type depth ms s form object_type at is of h = absurd (true≢false (sym is))
scalar_by_type depth ms s form array_type at is of h = absurd (true≢false (sym is))
scalar_by_type depth ms s form (scalar_type u) at is of h =
    ap is_scalar (sym (scalar_shape_of (has (codes "additionalProperties") ms) (schema_at (codes "additionalProperties") depth ms) (schema_at (codes "items") depth ms) (properties_in depth ms) s u form
    (form_is (scalar_fits ms) (scalar_form u) form of) h))
    ∙ scalar_in (text_at (codes "type") ms) u at

scalar_by_form : (depth : ℕ) (ms : Members) (s : Shape) (r : Result Form Refusal) → own_form depth ms ≡ r → is_scalar_type (type_in ms) ≡ true
    → and_then r (shape_of_form (has (codes "additionalProperties") ms) (schema_at (codes "additionalProperties") depth ms) (properties_in depth ms) (schema_at (codes "items") depth ms)) ≡ Ok s
    → is_scalar s ≡ true
scalar_by_form depth ms s (Err e) own is h = absurd cc
scalar_by_form depth ms s (Ok form) own is h =
    let parts = own_parts depth ms form own in
    scalar_by_type depth ms s form parts.0 parts.1 (ap is_scalar_type (sym parts.1) ∙ is) parts.2 h

scalar_shape : (depth : ℕ) (ms : Members) (s : Shape) → is_scalar_type (type_in ms) ≡ true → shape_in depth (object ms) ≡ Ok s → is_scalar s ≡ true
scalar_shape depth ms s is h = scalar_by_form depth ms s (own_form depth ms) refl is h

-- the schema at a keyword whose schema says a scalar type
scalar_at : (depth : ℕ) (o : Option Data) (s : Shape) → is_scalar_schema (option_and_then as_object o) ≡ true → schema_or depth o ≡ Ok s → is_scalar s ≡ true
scalar_at depth None s is h = absurd (true≢false (sym is))
scalar_at depth (Some null) s is h = absurd (true≢false (sym is))
scalar_at depth (Some (boolean b)) s is h = absurd (true≢false (sym is))
scalar_at depth (Some (number n)) s is h = absurd (true≢false (sym is))
scalar_at depth (Some (string x)) s is h = absurd (true≢false (sym is))
scalar_at depth (Some (array ds)) s is h = absurd (true≢false (sym is))
scalar_at depth (Some (object ms)) s is h = scalar_shape (suc depth) ms s is h

-- ---- a struct with key fields

pub was_field : (k : List ℕ) (r : Result Shape Refusal) (rest : Result Fields Refusal) (all : Fields) → one_field k r rest ≡ Ok all
    → (s : Shape) × (more : Fields) × (r ≡ Ok s) × (rest ≡ Ok more) × (all ≡ field k s more)
was_field k (Err e) rest all h = absurd cc
was_field k (Ok s) (Err e) all h = absurd cc
was_field k (Ok s) (Ok more) all h = (s, more, refl, refl, sym (same_ok (field k s more) all h))

pub bytes_eq-swap : (b c : Bool) (x y : List ℕ) → bytes_eq x y ≡ b → bytes_eq y x ≡ c → b ≡ c
bytes_eq-swap true true x y p q = refl
bytes_eq-swap false false x y p q = refl
bytes_eq-swap true false x y p q = absurd (true≢false (sym ((bytes_eq-Decides y x).1 (sym ((bytes_eq-Decides x y).0 p))) ∙ q))
bytes_eq-swap false true x y p q = absurd (true≢false (sym ((bytes_eq-Decides x y).1 (sym ((bytes_eq-Decides y x).0 q))) ∙ p))

scalar_here : (depth : ℕ) (b : Bool) (d : Data) (rest : Option Members) (s : Shape) (more : Option Shape) → is_scalar_schema (cond b (option_and_then as_object (Some d)) rest) ≡ true
    → shape_in (suc depth) d ≡ Ok s → (is_scalar_schema rest ≡ true → is_some_scalar more ≡ true) → is_some_scalar (cond b (Some s) more) ≡ true
scalar_here depth true d rest s more is read later = scalar_at depth (Some d) s is read
scalar_here depth false d rest s more is read later = later is

scalar_field : (depth : ℕ) (n : List ℕ) (ms : Members) (all : Fields) → fields_of depth ms ≡ Ok all → is_scalar_schema (members_at n ms) ≡ true → is_some_scalar (shape_at n all) ≡ true
scalar_field depth n no_members all read is = absurd (true≢false (sym is))
scalar_field depth n (member k d ms) all read is =
    let parts = was_field k (shape_in (suc depth) d) (fields_of depth ms) all read in
    let s = parts.0 in
    let more = parts.1 in
    let there : is_scalar_schema (cond (bytes_eq n k) (option_and_then as_object (Some d)) (members_at n ms)) ≡ true = ap is_scalar_schema (sym (at_name (option_and_then as_object) n k d ms)) ∙ is in
    let swapped = bytes_eq-swap _ _ n k refl refl in
    ap (λ fs. is_some_scalar (shape_at n fs)) parts.4
    ∙ scalar_here depth (bytes_eq k n) d (members_at n ms) s (shape_at n more) (ap (λ b. is_scalar_schema (cond b (option_and_then as_object (Some d)) (members_at n ms))) (sym swapped) ∙ there)
    parts.2 (λ h. scalar_field depth n ms more parts.3 h)

scalar_fields : (depth : ℕ) (names : List (List ℕ)) (ms : Members) (all : Fields) → fields_of depth ms ≡ Ok all → list_all (λ k. is_scalar_schema (members_at k ms)) names ≡ true
    → list_all (λ n. is_some_scalar (shape_at n all)) names ≡ true
scalar_fields depth [] ms all read h = refl
scalar_fields depth (n ∷ ns) ms all read h =
    let p = and_parts (is_scalar_schema (members_at n ms)) _ h in
    both_true (scalar_field depth n ms all read p.0) (scalar_fields depth ns ms all read p.1)

keyed_fields : (depth : ℕ) (names : List (List ℕ)) (o : Option Data) (all : Fields) → fields_or depth o ≡ Ok all → have_scalars names (option_and_then as_object o) ≡ true
    → list_all (λ n. is_some_scalar (shape_at n all)) names ≡ true
keyed_fields depth names None all read h = absurd (true≢false (sym h))
keyed_fields depth names (Some null) all read h = absurd (true≢false (sym h))
keyed_fields depth names (Some (boolean b)) all read h = absurd (true≢false (sym h))
keyed_fields depth names (Some (number n)) all read h = absurd (true≢false (sym h))
keyed_fields depth names (Some (string x)) all read h = absurd (true≢false (sym h))
keyed_fields depth names (Some (array ds)) all read h = absurd (true≢false (sym h))
keyed_fields depth names (Some (object ms)) all read h = scalar_fields depth names ms all read h

abbrev flag_in : Bool → Form → Bool
flag_in d (object_form a) = a
flag_in d _ = d

was_object : (b : Bool) (o : Option Bool) (form : Form) → cond b (option_map object_form o) None ≡ Some form → is_granular o ≡ true → form ≡ object_form false
was_object true None form h is = absurd (true≢false (sym is))
was_object true (Some true) form h is = absurd (true≢false (sym is))
was_object true (Some false) form h is = sym (same_some (object_form false) form h)
was_object false o form h is = absurd cc

struct_shape : (names : List (List ℕ)) (properties : Result Fields Refusal) (s : Shape) → and_then properties (λ all. Ok (struct_of all false)) ≡ Ok s
    → ((all : Fields) → properties ≡ Ok all → list_all (λ n. is_some_scalar (shape_at n all)) names ≡ true) → has_keys names s ≡ true
struct_shape names (Err e) s h fields = absurd cc
struct_shape names (Ok all) s h fields = ap (has_keys names) (sym (same_ok (struct_of all false) s h)) ∙ fields all refl

object_is_type : (t : TypeName) → is_object_type (Some t) ≡ true → t ≡ object_type
object_is_type object_type h = refl
object_is_type array_type h = absurd (true≢false (sym h))
object_is_type (scalar_type s) h = absurd (true≢false (sym h))

is_no_map : (b : Bool) → not b ≡ true → b ≡ false
is_no_map false h = refl
is_no_map true h = absurd (true≢false (sym h))

module _ (depth : ℕ) (names : List (List ℕ)) (ms : Members) (s : Shape) (is : is_keyed_struct names (Some ms) ≡ true) where
  abbrev object_without : Bool
  object_without = is_object_type (type_in ms) && not (has (codes "additionalProperties") ms)

  fits : (object_without && is_granular (map_type ms) ≡ true) × (have_scalars names (members_at (codes "properties") ms) ≡ true)
  fits = and_parts (object_without && is_granular (map_type ms)) _ is

  granular : (object_without ≡ true) × (is_granular (map_type ms) ≡ true)
  granular = and_parts object_without _ fits.0

  of_type : is_object_type (type_in ms) ≡ true
  of_type = (and_parts (is_object_type (type_in ms)) _ granular.0).0

  no_map : has (codes "additionalProperties") ms ≡ false
  no_map = is_no_map _ (and_parts (is_object_type (type_in ms)) _ granular.0).1

  keyed_fields_of : (all : Fields) → properties_in depth ms ≡ Ok all → list_all (λ n. is_some_scalar (shape_at n all)) names ≡ true
  keyed_fields_of all read = keyed_fields depth names (get_member (codes "properties") ms) all (sym (properties_in-is depth ms) ∙ read) fits.1

  keyed_by_form : (form : Form) → own_form depth ms ≡ Ok form
      → shape_of_form (has (codes "additionalProperties") ms) (schema_at (codes "additionalProperties") depth ms) (properties_in depth ms) (schema_at (codes "items") depth ms) form ≡ Ok s
      → has_keys names s ≡ true
  keyed_by_form form own h =
      let parts = own_parts depth ms form own in
      let named : parts.0 ≡ object_type = object_is_type parts.0 (ap is_object_type (sym parts.1) ∙ of_type) in
      let is_struct : form ≡ object_form false = was_object (object_fits ms) (map_type ms) form (ap (λ t. form_of t ms) (sym named) ∙ parts.2) granular.1 in
      struct_shape names (properties_in depth ms) s
      (sym (ap (λ b. shape_of_form b (schema_at (codes "additionalProperties") depth ms) (properties_in depth ms) (schema_at (codes "items") depth ms) (object_form false)) no_map)
      ∙ ap (shape_of_form (has (codes "additionalProperties") ms) (schema_at (codes "additionalProperties") depth ms) (properties_in depth ms) (schema_at (codes "items") depth ms)) (sym is_struct) ∙ h)
      keyed_fields_of

  keyed_by_result : (r : Result Form Refusal) → own_form depth ms ≡ r
      → and_then r (shape_of_form (has (codes "additionalProperties") ms) (schema_at (codes "additionalProperties") depth ms) (properties_in depth ms) (schema_at (codes "items") depth ms)) ≡ Ok s
      → has_keys names s ≡ true
  keyed_by_result (Err e) own h = absurd cc
  keyed_by_result (Ok form) own h = keyed_by_form form own h

  keyed_shape : shape_in depth (object ms) ≡ Ok s → has_keys names s ≡ true
  keyed_shape h = keyed_by_result (own_form depth ms) refl h

keyed_at : (depth : ℕ) (names : List (List ℕ)) (o : Option Data) (s : Shape) → is_keyed_struct names (option_and_then as_object o) ≡ true → schema_or depth o ≡ Ok s → has_keys names s ≡ true
keyed_at depth names None s is h = absurd (true≢false (sym is))
keyed_at depth names (Some null) s is h = absurd (true≢false (sym is))
keyed_at depth names (Some (boolean b)) s is h = absurd (true≢false (sym is))
keyed_at depth names (Some (number n)) s is h = absurd (true≢false (sym is))
keyed_at depth names (Some (string x)) s is h = absurd (true≢false (sym is))
keyed_at depth names (Some (array ds)) s is h = absurd (true≢false (sym is))
keyed_at depth names (Some (object ms)) s is h = keyed_shape (suc depth) names ms s is h

-- ---- the names of key fields

rising : (n : List ℕ) (es : List (List ℕ × Unit {0})) → below_all (slice_cmp nat_cmp) n es ≡ true → is_sorted (slice_cmp nat_cmp) es ≡ true → ascend_from n (map (λ e. e.0) es) ≡ true
rising n [] below sorted = refl
rising n (e ∷ es) below sorted =
    let p = and_parts (below_all (slice_cmp nat_cmp) e.0 es) _ sorted in
    both_true (and_parts _ (below_all (slice_cmp nat_cmp) n es) below).0 (rising e.0 es p.0 p.1)

ascend_sorted : (es : List (List ℕ × Unit {0})) → is_sorted (slice_cmp nat_cmp) es ≡ true → ascend (map (λ e. e.0) es) ≡ true
ascend_sorted [] h = refl
ascend_sorted (e ∷ es) h = let p = and_parts (below_all (slice_cmp nat_cmp) e.0 es) _ h in rising e.0 es p.0 p.1

holds : (b : Bool) → T b → b ≡ true
holds true h = refl
holds false h = absurd h

none_named : (n m : ℕ) → m ≡ 0 → (not (n == 0) && m == n) ≡ true → ⊥
none_named zero m is h = true≢false (sym (and_parts (not (0 == 0)) (m == 0) h).0)
none_named (suc n) m is h = true≢false (sym (and_parts (not (suc n == 0)) (m == suc n) h).1 ∙ ne_eqb m (suc n) (λ e. omega arith))

some_named : (es : List (List ℕ × Unit {0})) (n m : ℕ) → (not (n == 0) && m == n) ≡ true → m ≡ length es → is_some_name (map (λ e. e.0) es) ≡ true
some_named (e ∷ es) n m h len = refl
some_named [] n m h len = absurd (none_named n m len h)

names_by : (from names : List (List ℕ)) (b : Bool) → (not (length from == 0) && fin.len (name_set from) == length from) ≡ b → cond b (Some (fin.keys (name_set from))) None ≡ Some names
    → (is_some_name names ≡ true) × (ascend names ≡ true)
names_by from names false is h = absurd cc
names_by from names true is h =
    let same = same_some (fin.keys (name_set from)) names h in
    let es = fin.entries (name_set from) in
    let some : is_some_name (map (λ e. e.0) es) ≡ true = some_named es (length from) (fin.len (name_set from)) is (fin.len-entries (name_set from)) in
    let rise : ascend (map (λ e. e.0) es) ≡ true = ascend_sorted es (holds _ (fin.entries_sorted (name_set from))) in
    (ap is_some_name (sym same) ∙ some, ap ascend (sym same) ∙ rise)

pub names_fit : (o : Option (List (List ℕ))) (names : List (List ℕ)) → option_and_then different o ≡ Some names → (is_some_name names ≡ true) × (ascend names ≡ true)
names_fit None names h = absurd cc
names_fit (Some from) names h = names_by from names _ refl h

-- ---- the items of a list

item_of_kind : (depth : ℕ) (ms : Members) (k : Kind) (s : Shape) → KindFits ms k → schema_at (codes "items") depth ms ≡ Ok s → item_is_lawful k s ≡ true
item_of_kind depth ms atomic s fit h = refl
item_of_kind depth ms set s fit h = scalar_at depth (get_member (codes "items") ms) s fit (sym (schema_at-is (codes "items") depth ms) ∙ h)
item_of_kind depth ms (keyed names) s fit h =
    let named = names_fit (option_and_then texts_in (items_at (codes "x-kubernetes-list-map-keys") ms)) names fit.0 in
    both_true (both_true named.0 named.1) (keyed_at depth names (get_member (codes "items") ms) s fit.1 (sym (schema_at-is (codes "items") depth ms) ∙ h))

pub items_lawful : (depth : ℕ) (ms : Members) (k : Kind) (s : Shape) → own_form depth ms ≡ Ok (list_form k) → schema_at (codes "items") depth ms ≡ Ok s → item_is_lawful k s ≡ true
items_lawful depth ms k s own h = let parts = own_parts depth ms (list_form k) own in item_of_kind depth ms k s (kind_by_type ms k parts.0 parts.2) h
