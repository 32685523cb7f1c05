-- Schemas at their depths: fields one after another, the field that every type has, and the whole.
use Rattle.std.proofs.Common.{◌≡◌, ℕ, suc, ◌+◌, ◌-◌, ◌≤◌, ◌||◌, Bool, true, false, true≢false, cond, nat_le, List, [], ◌∷◌, ◌++◌, map, Ok, String, Global, Ordering, Less, Equal, Greater, is_eq, nat_cmp, string_cmp, string_bytes, codes, refl, sym, ap, ap₂, ◌∙◌, arith}
use Rattle.std.proofs.Math.Nat.{le-max_left, le-max_right, max-le}
use Rattle.std.proofs.lemmas.Bool.{and_parts, or_parts}
use Rattle.std.proofs.lemmas.Bool.Decides.{nat_tests}
use Rattle.std.proofs.lemmas.Cmp.{nat_list_cmp_total}
use Rattle.std.proofs.lemmas.Map.Keys.{sorted_head, sorted_tail}
use Rattle.std.proofs.lemmas.Map.Text.{is_eq-slice_cmp}
use Rattle.std.proofs.lemmas.Slice.Eq.{bytes_eq-Decides}
use Rattle.std.specs.Cmp.Derive.{both_true}
use Rattle.std.specs.Cmp.Lexicographic.{slice_cmp}
use Rattle.std.specs.List.{AllByRecursion, list_any}
use Rattle.std.specs.List.Sorted.{IsStrictlySortedBy}
use Rattle.std.specs.Map.{keys_of}
use Rattle.std.specs.Ordering.{is_lt, ordering_reverse}
use Rattle.std.specs.Str.{bytes_eq}
use Rattle.serde_json.specs.Data.{Data, object, Members, no_members, member}
use Rattle.serde_json.specs.View.{view, members_view}
use Rattle.fieldpath.specs.Scalars.{ascend, ascend_from}
use Rattle.fieldpath.proofs.KeyFields.{Entry, ascend_keys}
use Rattle.api_types.specs.Depths.{KeepsAt, KeepAt, AreFieldsAt}
use Rattle.schema.specs.Lawful.{names_of, depth_of, fields_depth, is_well_formed, are_well_formed, item_is_lawful, is_lawful}
use Rattle.schema.specs.Shape.{Kind, Shape, struct_of, list_of, Fields, no_fields, field, shape, fields_in}
use Rattle.api_types.specs.TypesFile.{fields_of, fields_at, shape_in, is_envelope, own_properties, put_field}
use Rattle.api_types.specs.Profiles.{metadata_of}
use Rattle.api_types.specs.declared.profile.Profile.{Profile}
use Rattle.api_types.specs.declared.profile.Profile.TheVariants.{Plain, Discovered, Kubernetes}
use Rattle.schema.specs.declared.schema.Schema.{Schema}
use Rattle.api_types.proofs.Items.{was_field}

-- ---- fields one after another

well_pushed : (fs : List (String Global × Schema)) (f : String Global × Schema) → are_well_formed (fields_in fs) ≡ true → is_well_formed (shape f.1) ≡ true → are_well_formed (fields_in (fs ++ f ∷ [])) ≡ true
well_pushed [] f h w = both_true w refl
well_pushed (g ∷ fs) f h w = let p = and_parts (is_well_formed (shape g.1)) _ h in both_true p.0 (well_pushed fs f p.1 w)

depth_pushed : (n : ℕ) (fs : List (String Global × Schema)) (f : String Global × Schema) → fields_depth (fields_in fs) ≤ n → depth_of (shape f.1) ≤ n → fields_depth (fields_in (fs ++ f ∷ [])) ≤ n
depth_pushed n [] f h w = max-le w (omega arith)
depth_pushed n (g ∷ fs) f h w =
    let l = le-max_left (depth_of (shape g.1)) (fields_depth (fields_in fs)) in
    let r = le-max_right (depth_of (shape g.1)) (fields_depth (fields_in fs)) in
    max-le (omega (arith, l, h)) (depth_pushed n fs f (omega (arith, r, h)) w)

within : (depth a : ℕ) → depth + suc a ≤ 17 → a ≤ 16 - depth
within depth a h = omega (arith, h)

of_part : (depth a : ℕ) → (depth + 1) + a ≤ 17 → a ≤ 16 - depth
of_part depth a h = omega (arith, h)

back : (depth a b : ℕ) → depth + suc b ≤ 17 → a ≤ 16 - depth → depth + suc a ≤ 17
back depth a b at h = omega (arith, at, h)

pub kept_pushed : (depth : ℕ) (fs : List (String Global × Schema)) (f : String Global × Schema) → KeepAt depth (fields_in fs) → KeepsAt (depth + 1) (shape f.1) → KeepAt depth (fields_in (fs ++ f ∷ []))
kept_pushed depth fs f all one = (
  well_pushed fs f all.0 one.0,
  back depth _ (fields_depth (fields_in fs)) all.1 (depth_pushed (16 - depth) fs f (within depth _ all.1) (of_part depth _ one.1)),
)

pub kept_none : (depth : ℕ) → depth ≤ 16 → KeepAt depth no_fields
kept_none depth h = (refl, omega (arith, h))

pub kept_list : (depth : ℕ) (s : Shape) (k : Kind) → item_is_lawful k s ≡ true → KeepsAt (depth + 1) s → KeepsAt depth (list_of s k)
kept_list depth s k lawful one = (both_true lawful one.0, omega (arith, one.1))

-- ---- the names of members

abbrev names_in : Members → List (List ℕ)
names_in no_members = []
names_in (member k d ms) = k ∷ names_in ms

names-fields_of : (depth : ℕ) (ms : Members) (all : Fields) → fields_of depth ms ≡ Ok all → names_of all ≡ names_in ms
names-fields_of depth no_members no_fields h = refl
names-fields_of depth no_members (field k s all) h = absurd cc
names-fields_of depth (member k d ms) all h =
    let parts = was_field k (shape_in (suc depth) d) (fields_of depth ms) all h in
    ap names_of parts.4 ∙ ap (λ ns. k ∷ ns) (names-fields_of depth ms parts.1 parts.3)

names-members_view : (es : List Entry) → names_in (members_view es) ≡ map (λ e. string_bytes e.0) es
names-members_view [] = refl
names-members_view (e ∷ es) = ap (λ ns. string_bytes e.0 ∷ ns) (names-members_view es)

-- properties that were read have their names in byte order
fields_ascend : (depth : ℕ) (es : List Entry) (all : Fields) → IsStrictlySortedBy string_cmp (keys_of es) → fields_of depth (members_view es) ≡ Ok all → ascend (names_of all) ≡ true
fields_ascend depth es all sorted read = ap ascend (names-fields_of depth (members_view es) all read ∙ names-members_view es) ∙ ascend_keys es sorted

-- an object of a `Value`, which has its members in order
abbrev pub IsInOrder : Data → Type 0
IsInOrder d = (es : List Entry) × (d ≡ object (members_view es)) × IsStrictlySortedBy string_cmp (keys_of es)

fields_at-object : (depth : ℕ) (d : Data) (ms : Members) (all : Fields) → d ≡ object ms → fields_at depth d ≡ Ok all → fields_of depth ms ≡ Ok all
fields_at-object depth d ms all is read = ap (fields_at depth) (sym is) ∙ read

pub object_ascends : (depth : ℕ) (d : Data) (all : Fields) → IsInOrder d → fields_at depth d ≡ Ok all → ascend (names_of all) ≡ true
object_ascends depth d all order read = fields_ascend depth order.0 all order.2 (fields_at-object depth d (members_view order.0) all order.1 read)

-- ---- the properties of a type

own_from_at : (n : String Global) (e : Entry) (es : List Entry) (b : Bool) → string_cmp n e.0 ≡ Less → ascend (names_in (cond b (own_properties (members_view es)) (member (string_bytes e.0) (view e.1) (own_properties (members_view es))))) ≡ true
    → (ascend (names_in (own_properties (members_view es))) ≡ true → ascend_from (string_bytes n) (names_in (own_properties (members_view es))) ≡ true)
    → ascend_from (string_bytes n) (names_in (cond b (own_properties (members_view es)) (member (string_bytes e.0) (view e.1) (own_properties (members_view es))))) ≡ true
own_from_at n e es true lt h later = later h
own_from_at n e es false lt h later = both_true (ap is_lt lt) h

own_from : (n : String Global) (es : List Entry) → AllByRecursion (λ y. string_cmp n y ≡ Less) (keys_of es) → ascend (names_in (own_properties (members_view es))) ≡ true
    → ascend_from (string_bytes n) (names_in (own_properties (members_view es))) ≡ true
own_from n [] below h = refl
own_from n (e ∷ es) below h = own_from_at n e es (is_envelope (string_bytes e.0)) below.0 h (own_from n es below.1)

own_ascend_at : (e : Entry) (es : List Entry) (b : Bool) → AllByRecursion (λ y. string_cmp e.0 y ≡ Less) (keys_of es) → ascend (names_in (own_properties (members_view es))) ≡ true
    → ascend (names_in (cond b (own_properties (members_view es)) (member (string_bytes e.0) (view e.1) (own_properties (members_view es))))) ≡ true
own_ascend_at e es true below h = h
own_ascend_at e es false below h = own_from e.0 es below h

own_ascend : (es : List Entry) → IsStrictlySortedBy string_cmp (keys_of es) → ascend (names_in (own_properties (members_view es))) ≡ true
own_ascend [] sorted = refl
own_ascend (e ∷ es) sorted =
    own_ascend_at e es (is_envelope (string_bytes e.0)) (sorted_head string_cmp e.0 (keys_of es) sorted) (own_ascend es (sorted_tail string_cmp e.0 (keys_of es) sorted))

-- no property of a type's own has the name of the field that every type has
abbrev pub Lacks : List ℕ → List (List ℕ) → Type 0
Lacks f names = list_any (bytes_eq f) names ≡ false

-- the names of every object are no names of a type's own properties
apart_by : (f k : List ℕ) (b : Bool) → is_envelope f ≡ true → is_envelope k ≡ false → bytes_eq f k ≡ b → b ≡ false
apart_by f k false known other is = refl
apart_by f k true known other is = absurd (true≢false (sym known ∙ ap is_envelope ((bytes_eq-Decides f k).0 is) ∙ other))

lacks_at : (f k : List ℕ) (d : Data) (ms : Members) (b : Bool) → is_envelope f ≡ true → is_envelope k ≡ b → Lacks f (names_in ms) → Lacks f (names_in (cond b ms (member k d ms)))
lacks_at f k d ms true known is h = h
lacks_at f k d ms false known is h = ap₂ (λ a b. a || b) (apart_by f k (bytes_eq f k) known is refl) h

own_lack : (f : List ℕ) (ms : Members) → is_envelope f ≡ true → Lacks f (names_in (own_properties ms))
own_lack f no_members known = refl
own_lack f (member k d ms) known = lacks_at f k d (own_properties ms) (is_envelope k) known refl (own_lack f ms known)

pub own_fields_ascend : (es : List Entry) (all : Fields) → IsStrictlySortedBy string_cmp (keys_of es) → fields_of 1 (own_properties (members_view es)) ≡ Ok all → ascend (names_of all) ≡ true
own_fields_ascend es all sorted read = ap ascend (names-fields_of 1 (own_properties (members_view es)) all read) ∙ own_ascend es sorted

pub own_fields_lack : (f : List ℕ) (ms : Members) (all : Fields) → is_envelope f ≡ true → fields_of 1 (own_properties ms) ≡ Ok all → Lacks f (names_of all)
own_fields_lack f ms all known read = ap (list_any (bytes_eq f)) (names-fields_of 1 (own_properties ms) all read) ∙ own_lack f ms known

-- ---- a field put in its place

above_by : (f g : List ℕ) (o : Ordering) → slice_cmp nat_cmp f g ≡ o → is_lt (slice_cmp nat_cmp g f) ≡ false → bytes_eq f g ≡ false → is_lt o ≡ true
above_by f g Less is not other = refl
above_by f g Equal is not other = absurd (true≢false (ap is_eq (sym is) ∙ is_eq-slice_cmp f g ∙ other))
above_by f g Greater is not other = absurd (true≢false (ap is_lt (sym (nat_list_cmp_total.antisymm g f ∙ ap ordering_reverse is)) ∙ not))

above : (f g : List ℕ) → is_lt (slice_cmp nat_cmp g f) ≡ false → bytes_eq f g ≡ false → is_lt (slice_cmp nat_cmp f g) ≡ true
above f g not other = above_by f g (slice_cmp nat_cmp f g) refl not other

put_from_at : (n f g : List ℕ) (s t : Shape) (more : Fields) (b : Bool) → is_lt (slice_cmp nat_cmp g f) ≡ b → is_lt (slice_cmp nat_cmp n f) ≡ true → is_lt (slice_cmp nat_cmp n g) ≡ true
    → ascend_from g (names_of more) ≡ true → bytes_eq f g ≡ false → (is_lt (slice_cmp nat_cmp g f) ≡ true → ascend_from g (names_of (put_field f s more)) ≡ true)
    → ascend_from n (names_of (cond b (field g t (put_field f s more)) (field f s (field g t more)))) ≡ true
put_from_at n f g s t more true is first next rest other later = both_true next (later is)
put_from_at n f g s t more false is first next rest other later = both_true first (both_true (above f g is other) rest)

put_from : (n f : List ℕ) (s : Shape) (all : Fields) → is_lt (slice_cmp nat_cmp n f) ≡ true → ascend_from n (names_of all) ≡ true → Lacks f (names_of all) → ascend_from n (names_of (put_field f s all)) ≡ true
put_from n f s no_fields first up lack = both_true first refl
put_from n f s (field g t more) first up lack =
    let p = and_parts (is_lt (slice_cmp nat_cmp n g)) _ up in
    let q = or_parts (bytes_eq f g) _ lack in
    put_from_at n f g s t more (is_lt (slice_cmp nat_cmp g f)) refl first p.0 p.1 q.0 (λ lt. put_from g f s more lt p.1 q.1)

put_ascend_at : (f g : List ℕ) (s t : Shape) (more : Fields) (b : Bool) → is_lt (slice_cmp nat_cmp g f) ≡ b → ascend_from g (names_of more) ≡ true → bytes_eq f g ≡ false
    → (is_lt (slice_cmp nat_cmp g f) ≡ true → ascend_from g (names_of (put_field f s more)) ≡ true)
    → ascend (names_of (cond b (field g t (put_field f s more)) (field f s (field g t more)))) ≡ true
put_ascend_at f g s t more true is rest other later = later is
put_ascend_at f g s t more false is rest other later = both_true (above f g is other) rest

put_ascend : (f : List ℕ) (s : Shape) (all : Fields) → ascend (names_of all) ≡ true → Lacks f (names_of all) → ascend (names_of (put_field f s all)) ≡ true
put_ascend f s no_fields up lack = refl
put_ascend f s (field g t more) up lack =
    let q = or_parts (bytes_eq f g) _ lack in
    put_ascend_at f g s t more (is_lt (slice_cmp nat_cmp g f)) refl up q.0 (λ lt. put_from g f s more lt up q.1)

put_well_at : (f g : List ℕ) (s t : Shape) (more : Fields) (b : Bool) → is_well_formed s ≡ true → is_well_formed t ≡ true → are_well_formed more ≡ true → are_well_formed (put_field f s more) ≡ true
    → are_well_formed (cond b (field g t (put_field f s more)) (field f s (field g t more))) ≡ true
put_well_at f g s t more true one next rest later = both_true next later
put_well_at f g s t more false one next rest later = both_true one (both_true next rest)

put_well : (f : List ℕ) (s : Shape) (all : Fields) → is_well_formed s ≡ true → are_well_formed all ≡ true → are_well_formed (put_field f s all) ≡ true
put_well f s no_fields one h = both_true one refl
put_well f s (field g t more) one h =
    let p = and_parts (is_well_formed t) _ h in put_well_at f g s t more (is_lt (slice_cmp nat_cmp g f)) one p.0 p.1 (put_well f s more one p.1)

put_depth_at : (n : ℕ) (f g : List ℕ) (s t : Shape) (more : Fields) (b : Bool) → depth_of s ≤ n → depth_of t ≤ n → fields_depth more ≤ n → fields_depth (put_field f s more) ≤ n
    → fields_depth (cond b (field g t (put_field f s more)) (field f s (field g t more))) ≤ n
put_depth_at n f g s t more true one next rest later = max-le next later
put_depth_at n f g s t more false one next rest later = max-le one (max-le next rest)

put_depth : (n : ℕ) (f : List ℕ) (s : Shape) (all : Fields) → depth_of s ≤ n → fields_depth all ≤ n → fields_depth (put_field f s all) ≤ n
put_depth n f s no_fields one h = max-le one (omega arith)
put_depth n f s (field g t more) one h =
    let l = le-max_left (depth_of t) (fields_depth more) in
    let r = le-max_right (depth_of t) (fields_depth more) in
    let rest : fields_depth more ≤ n = omega (arith, r, h) in
    put_depth_at n f g s t more (is_lt (slice_cmp nat_cmp g f)) one (omega (arith, l, h)) rest (put_depth n f s more one rest)

le_true : (m n : ℕ) → m ≤ n → nat_le m n ≡ true
le_true m n h = grind (arith, nat_tests)

own_formed : (p : Profile) → is_well_formed (metadata_of p) ≡ true
own_formed Plain = refl
own_formed Discovered = refl
own_formed (Kubernetes epoch) = refl

own_low : (p : Profile) → depth_of (metadata_of p) ≤ 15
own_low Plain = omega arith
own_low Discovered = omega arith
own_low (Kubernetes epoch) = omega arith

pub type_kept : (p : Profile) (all : Fields) → AreFieldsAt 1 all → Lacks (codes "metadata") (names_of all) → is_lawful (struct_of (put_field (codes "metadata") (metadata_of p) all) false) ≡ true
type_kept p all kept lack =
    let deep : fields_depth (put_field (codes "metadata") (metadata_of p) all) ≤ 15 = put_depth 15 (codes "metadata") (metadata_of p) all (own_low p) (omega (arith, kept.0.1)) in
    both_true (both_true (put_ascend (codes "metadata") (metadata_of p) all kept.1 lack) (put_well (codes "metadata") (metadata_of p) all (own_formed p) kept.0.0))
    (le_true (suc (fields_depth (put_field (codes "metadata") (metadata_of p) all))) 16 (omega (arith, deep)))
