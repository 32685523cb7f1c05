-- The content that is read, under the new shape, of what is printed under the old one: level by level.
use Rattle.std.proofs.Common.{◌≡◌, ℕ, Bool, true, false, cond, ◌&&◌, ◌||◌, List, [], ◌∷◌, Option, Some, None, is_some, Ok, inl, inr, refl, sym, ap, ap₂, ◌∙◌, true≢false, subst}
use Rattle.std.specs.Prelude.{option_and_then}
use Rattle.std.specs.FinMap as fin
use Rattle.std.specs.List.{list_any}
use Rattle.std.specs.Str.{bytes_eq}
use Rattle.std.proofs.lemmas.Bool.{and_parts}
use Rattle.std.proofs.lemmas.Slice.Eq.{bytes_eq-Decides}
use Rattle.serde_json.specs.Data.{Data, Members, no_members, member, Items, no_items, item}
use Rattle.serde_json.specs.Read.{read}
use Rattle.serde_json.specs.Written.{compact_text}
use Rattle.fieldpath.specs.Elements.{field_name}
use Rattle.pathmap.specs.Contents.{LeafValue, Content, nothing, here, under, over}
use Rattle.pathmap.specs.Contents as leaf_value
use Rattle.pathmap.specs.Insides.{inside, heads}
use Rattle.pathmap.specs.Levels.{has_path}
use Rattle.pathmap.proofs.Contents.{same, either, get-nothing, get-over, get-under-top, nothing-over, over-nothing}
use Rattle.pathmap.proofs.Levels.{get-here-top, nothing_path}
use Rattle.pathmap.proofs.Heads.{heads-inside, heads-nothing, inside-nothing, no_path, one_rising, rising}
use Rattle.pathmap.proofs.Insides.{inside-over, inside-under}
use Rattle.schema.specs.Lawful.{is_well_formed}
use Rattle.schema.specs.Shape.{atomic, set, keyed, Shape, text, whole, truth, struct_of, map_of, list_of, Fields, no_fields, field, shape_at}
use Rattle.schema.specs.Becoming.{becomes, fields_become}
use Rattle.typed.specs.WellTyped.{IsAtomic, IsWellTyped, ReadsBack}
use Rattle.typed.specs.Printing.{value_at, value_of, object_or_none, array_or_none, print}
use Rattle.typed.specs.Reading.{plain_of, leaf}
use Rattle.typed.proofs.Prints.{print-nothing}
use Rattle.typed.proofs.RoundTrip.{round}
use Rattle.typed.proofs.SameShapes.{never}

-- ---- a content made of parts

abbrev pub under_each : (List ℕ → Content) → List (List ℕ) → Content
under_each g [] = nothing
under_each g (e ∷ es) = over (under e (g e)) (under_each g es)

either_same : {X : Type 0} (o : Option X) → either o o ≡ o
either_same None = refl
either_same (Some x) = refl

over_same : (c : Content) → over c c ≡ c
over_same c = same (over c c) c (λ q. get-over c c q ∙ either_same (fin.get c q))

inside-each : (g : List ℕ → Content) (es : List (List ℕ)) (e : List ℕ) → inside e (under_each g es) ≡ cond (list_any (bytes_eq e) es) (g e) nothing
inside-each g [] e = inside-nothing e
inside-each g (h ∷ es) e =
    inside-over e (under h (g h)) (under_each g es) ∙ ap₂ over (inside-under e h (g h) (bytes_eq e h) refl) (inside-each g es e) ∙ by_test (bytes_eq e h) refl (list_any (bytes_eq e) es)
  where
    by_test : (b : Bool) → bytes_eq e h ≡ b → (t : Bool) → over (cond b (g h) nothing) (cond t (g e) nothing) ≡ cond (b || t) (g e) nothing
    by_test true is true = ap (λ x. over (g x) (g e)) (sym ((bytes_eq-Decides e h).0 is)) ∙ over_same (g e)
    by_test true is false = over-nothing (g h) ∙ ap g (sym ((bytes_eq-Decides e h).0 is))
    by_test false is t = nothing-over (cond t (g e) nothing)

pub top-each : (g : List ℕ → Content) (es : List (List ℕ)) → fin.get (under_each g es) [] ≡ None
top-each g [] = get-nothing []
top-each g (e ∷ es) = get-over (under e (g e)) (under_each g es) [] ∙ ap (λ a. either a (fin.get (under_each g es) [])) (get-under-top e (g e)) ∙ top-each g es

-- something stands inside the element
pub inside-there : (g : List ℕ → Content) (c : Content) (e : List ℕ) → has_path (inside e c) ≡ true → inside e (under_each g (heads c)) ≡ g e
inside-there g c e there = inside-each g (heads c) e ∙ ap (λ b. cond b (g e) nothing) (heads-inside c e ∙ there)

pub inside-bare : (g : List ℕ → Content) (c : Content) (e : List ℕ) → inside e c ≡ nothing → inside e (under_each g (heads c)) ≡ nothing
inside-bare g c e bare = inside-each g (heads c) e ∙ ap (λ b. cond b (g e) nothing) (heads-inside c e ∙ ap has_path bare ∙ nothing_path)

pub inside-all : (g : List ℕ → Content) (c : Content) → ((e : List ℕ) → inside e c ≡ nothing → g e ≡ nothing) → (e : List ℕ) → inside e (under_each g (heads c)) ≡ g e
inside-all g c none e = by_test (has_path (inside e c)) refl
  where
    by_test : (b : Bool) → has_path (inside e c) ≡ b → inside e (under_each g (heads c)) ≡ g e
    by_test true is = inside-there g c e is
    by_test false is = let bare = no_path (inside e c) is in inside-bare g c e bare ∙ sym (none e bare)

-- contents of the same elements
pub heads_same : (c r : Content) → ((e : List ℕ) → has_path (inside e r) ≡ has_path (inside e c)) → heads r ≡ heads c
heads_same c r h = one_rising (heads r) (heads c) (rising r) (rising c) (λ e. heads-inside r e ∙ h e ∙ sym (heads-inside c e))

-- ---- the content

abbrev pub leaf_of : Option Data → Content
leaf_of None = nothing
leaf_of (Some d) = leaf d

abbrev pub struct_carried : Bool → (Fields → Content) → Shape → Content → Content
struct_carried was inner (struct_of others is) c = cond was c (inner others)
struct_carried was inner _ c = c

abbrev pub map_carried : Bool → Option Data → (Shape → Content) → Shape → Content → Content
map_carried was d inner (map_of t is) c = cond was c (cond is (leaf_of d) (inner t))
map_carried was d inner _ c = c

abbrev pub set_carried : Option Data → Shape → Content → Content
set_carried d (list_of t atomic) c = leaf_of d
set_carried d _ c = c

abbrev pub keyed_carried : Option Data → (Shape → Content) → Shape → Content → Content
keyed_carried d inner (list_of t atomic) c = leaf_of d
keyed_carried d inner (list_of t (keyed others)) c = inner t
keyed_carried d inner _ c = c

abbrev pub item_carried : (Fields → Content) → Shape → Content
item_carried inner (struct_of others is) = inner others
item_carried inner _ = nothing

abbrev pub is_named : List ℕ → Option (List ℕ) → Bool
is_named known None = false
is_named known (Some f) = bytes_eq known f

abbrev pub field_carried : (Shape → Content) → (Fields → Content) → Bool → Fields → Content
field_carried inner rest found no_fields = nothing
field_carried inner rest found (field g t more) = cond found (inner t) (rest more)

abbrev mutual
  pub carried_parts : Shape → Shape → Content → Content
  carried_parts text t c = c
  carried_parts whole t c = c
  carried_parts truth t c = c
  carried_parts (struct_of all was) t c = struct_carried was (λ others. under_each (λ e. in_field all others (field_name e) (inside e c)) (heads c)) t c
  carried_parts (map_of s was) t c = map_carried was (print (map_of s was) c) (λ u. under_each (λ e. carried_parts s u (inside e c)) (heads c)) t c
  carried_parts (list_of s atomic) t c = c
  carried_parts (list_of s set) t c = set_carried (print (list_of s set) c) t c
  carried_parts (list_of s (keyed names)) t c = keyed_carried (print (list_of s (keyed names)) c) (λ u. under_each (λ e. in_item s u (inside e c)) (heads c)) t c

  pub in_item : Shape → Shape → Content → Content
  in_item (struct_of all was) u c = item_carried (λ others. over (here leaf_value.mark) (under_each (λ e. in_field all others (field_name e) (inside e c)) (heads c))) u
  in_item _ u c = nothing

  pub in_field : Fields → Fields → Option (List ℕ) → Content → Content
  in_field no_fields others f c = nothing
  in_field (field known s more) others f c = field_carried (λ u. carried_parts s u c) (λ rest. in_field more rest f c) (is_named known f) others

-- ---- of nothing

leaf-nothing : (s : Shape) → leaf_of (print s nothing) ≡ nothing
leaf-nothing s = ap leaf_of (print-nothing s)

each-nothing : (g : List ℕ → Content) → under_each g (heads nothing) ≡ nothing
each-nothing g = ap (under_each g) heads-nothing

struct-nothing : (was : Bool) (inner : Fields → Content) → ((others : Fields) → inner others ≡ nothing) → (t : Shape) → struct_carried was inner t nothing ≡ nothing
struct-nothing was inner none text = refl
struct-nothing was inner none whole = refl
struct-nothing was inner none truth = refl
struct-nothing true inner none (struct_of others is) = refl
struct-nothing false inner none (struct_of others is) = none others
struct-nothing was inner none (map_of t is) = refl
struct-nothing was inner none (list_of t is) = refl

map-nothing : (was : Bool) (d : Option Data) (inner : Shape → Content) → leaf_of d ≡ nothing → ((t : Shape) → inner t ≡ nothing) → (t : Shape) → map_carried was d inner t nothing ≡ nothing
map-nothing was d inner bare none text = refl
map-nothing was d inner bare none whole = refl
map-nothing was d inner bare none truth = refl
map-nothing was d inner bare none (struct_of others is) = refl
map-nothing true d inner bare none (map_of t is) = refl
map-nothing false d inner bare none (map_of t true) = bare
map-nothing false d inner bare none (map_of t false) = none t
map-nothing was d inner bare none (list_of t is) = refl

set-nothing : (d : Option Data) → leaf_of d ≡ nothing → (t : Shape) → set_carried d t nothing ≡ nothing
set-nothing d bare text = refl
set-nothing d bare whole = refl
set-nothing d bare truth = refl
set-nothing d bare (struct_of others is) = refl
set-nothing d bare (map_of t is) = refl
set-nothing d bare (list_of t atomic) = bare
set-nothing d bare (list_of t set) = refl
set-nothing d bare (list_of t (keyed names)) = refl

keyed-nothing : (d : Option Data) (inner : Shape → Content) → leaf_of d ≡ nothing → ((t : Shape) → inner t ≡ nothing) → (t : Shape) → keyed_carried d inner t nothing ≡ nothing
keyed-nothing d inner bare none text = refl
keyed-nothing d inner bare none whole = refl
keyed-nothing d inner bare none truth = refl
keyed-nothing d inner bare none (struct_of others is) = refl
keyed-nothing d inner bare none (map_of t is) = refl
keyed-nothing d inner bare none (list_of t atomic) = bare
keyed-nothing d inner bare none (list_of t set) = refl
keyed-nothing d inner bare none (list_of t (keyed names)) = none t

field-nothing : (inner : Shape → Content) (rest : Fields → Content) (found : Bool) → ((t : Shape) → inner t ≡ nothing) → ((others : Fields) → rest others ≡ nothing) → (others : Fields) → field_carried inner rest found others ≡ nothing
field-nothing inner rest found one more no_fields = refl
field-nothing inner rest true one more (field g t others) = one t
field-nothing inner rest false one more (field g t others) = more others

mutual
  pub carried_parts-nothing : (s t : Shape) → carried_parts s t nothing ≡ nothing
  carried_parts-nothing text t = refl
  carried_parts-nothing whole t = refl
  carried_parts-nothing truth t = refl
  carried_parts-nothing (struct_of all was) t =
      struct-nothing was (λ others. under_each (λ e. in_field all others (field_name e) (inside e nothing)) (heads nothing)) (λ others. each-nothing (λ e. in_field all others (field_name e) (inside e nothing))) t
  carried_parts-nothing (map_of s was) t =
      map-nothing was (print (map_of s was) nothing) (λ u. under_each (λ e. carried_parts s u (inside e nothing)) (heads nothing)) (leaf-nothing (map_of s was)) (λ u. each-nothing (λ e. carried_parts s u (inside e nothing))) t
  carried_parts-nothing (list_of s atomic) t = refl
  carried_parts-nothing (list_of s set) t = set-nothing (print (list_of s set) nothing) (leaf-nothing (list_of s set)) t
  carried_parts-nothing (list_of s (keyed names)) t =
      keyed-nothing (print (list_of s (keyed names)) nothing) (λ u. under_each (λ e. in_item s u (inside e nothing)) (heads nothing)) (leaf-nothing (list_of s (keyed names))) (λ u. each-nothing (λ e. in_item s u (inside e nothing))) t

pub field-none : (fs gs : Fields) (f : Option (List ℕ)) → in_field fs gs f nothing ≡ nothing
field-none no_fields gs f = refl
field-none (field known s more) gs f =
    field-nothing (λ u. carried_parts s u nothing) (λ rest. in_field more rest f nothing) (is_named known f) (λ u. carried_parts-nothing s u) (λ rest. field-none more rest f) gs

-- ---- a field by its name

abbrev pub by_both : Option Shape → Option Shape → Content → Content
by_both None o c = nothing
by_both (Some s) None c = nothing
by_both (Some s) (Some t) c = carried_parts s t c

pub in_field-at : (fs gs : Fields) → fields_become true fs gs ≡ true → (f : List ℕ) (c : Content) → in_field fs gs (Some f) c ≡ by_both (shape_at f fs) (shape_at f gs) c
in_field-at no_fields gs h f c = refl
in_field-at (field known s more) no_fields h f c = never h
in_field-at (field known s more) (field g t rest) h f c =
    let named = and_parts (bytes_eq known g) (becomes true s t && fields_become true more rest) h in
    let later = in_field-at more rest (and_parts (becomes true s t) (fields_become true more rest) named.1).1 f c in
    subst (λ n. cond (bytes_eq known f) (carried_parts s t c) (in_field more rest (Some f) c) ≡ by_both (shape_at f (field known s more)) (shape_at f (field n t rest)) c) ((bytes_eq-Decides known g).0 named.0) (by_test (bytes_eq known f) later)
  where
    by_test : (b : Bool) → in_field more rest (Some f) c ≡ by_both (shape_at f more) (shape_at f rest) c
        → cond b (carried_parts s t c) (in_field more rest (Some f) c) ≡ by_both (cond b (Some s) (shape_at f more)) (cond b (Some t) (shape_at f rest)) c
    by_test true later = refl
    by_test false later = later

-- ---- what is to be shown: it has the new shape, and prints as before

abbrev pub Carries : Shape → Shape → Content → Content → Type 0
Carries s t c r = IsWellTyped t r × (print t r ≡ print s c)

-- something stands where something stood
pub path_same : (s t : Shape) (c : Content) → is_well_formed s ≡ true → IsWellTyped s c → Carries s t c (carried_parts s t c) → has_path (carried_parts s t c) ≡ has_path c
path_same s t c lawful well_typed carries = by_test (has_path c) refl (has_path (carried_parts s t c)) refl
  where
    by_test : (b : Bool) → has_path c ≡ b → (x : Bool) → has_path (carried_parts s t c) ≡ x → x ≡ b
    by_test true is true new = refl
    by_test false is false new = refl
    by_test false is true new = absurd (true≢false (sym new ∙ ap (λ d. has_path (carried_parts s t d)) (no_path c is) ∙ ap has_path (carried_parts-nothing s t) ∙ nothing_path))
    by_test true is false new =
        let none : print s c ≡ None = sym carries.1 ∙ ap (print t) (no_path (carried_parts s t c) new) ∙ print-nothing t in
        absurd (true≢false (sym is ∙ ap has_path (subst (λ o. ReadsBack s o c) none (round s c lawful well_typed)) ∙ nothing_path))

-- ---- a new leaf

-- a printed value that is neither `{}` nor `[]`, and that its compact JSON spells
abbrev pub IsLeafOf : Shape → Data → Type 0
IsLeafOf t d = (plain_of t d ≡ Ok d) × (read (compact_text d) ≡ Some d) × (leaf d ≡ here (leaf_value.plain (compact_text d)))

pub new_leaf : (t : Shape) (o : Option Data) → ((d : Data) → o ≡ Some d → IsLeafOf t d) → IsAtomic t (leaf_of o) × (value_at (leaf_of o) ≡ o)
new_leaf t None is = (inl refl, ap (option_and_then value_of) (get-nothing []))
new_leaf t (Some d) is =
    let whole = is d refl in (
      inr (d, whole.0, whole.1, refl),
      ap (λ x. option_and_then value_of (fin.get x [])) whole.2 ∙ ap (option_and_then value_of) (get-here-top (leaf_value.plain (compact_text d))) ∙ whole.1,
    )

pub object_leaf : (ms : Members) (d : Data) → object_or_none ms ≡ Some d → leaf d ≡ here (leaf_value.plain (compact_text d))
object_leaf no_members d h = absurd (true≢false (sym (ap is_some h)))
object_leaf (member k e ms) d h = subst (λ o. full_leaf o) h refl
  where
    full_leaf : Option Data → Type 0
    full_leaf None = Unit {0}
    full_leaf (Some x) = leaf x ≡ here (leaf_value.plain (compact_text x))

pub array_leaf : (ds : Items) (d : Data) → array_or_none ds ≡ Some d → leaf d ≡ here (leaf_value.plain (compact_text d))
array_leaf no_items d h = absurd (true≢false (sym (ap is_some h)))
array_leaf (item e ds) d h = subst (λ o. full_leaf o) h refl
  where
    full_leaf : Option Data → Type 0
    full_leaf None = Unit {0}
    full_leaf (Some x) = leaf x ≡ here (leaf_value.plain (compact_text x))
