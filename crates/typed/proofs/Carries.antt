-- The content level by level has the new shape, and prints as before.
use Rattle.std.proofs.Common.{◌≡◌, ℕ, suc, ◌≤◌, nat_le, arith, Bool, true, false, ◌&&◌, List, [], ◌∷◌, Option, Some, None, is_some, option_map, inl, inr, ◌⊎◌, refl, sym, ap, ap₂, ◌∙◌, subst}
use Rattle.std.specs.Prelude.{max}
use Rattle.std.specs.Bool.{beq}
use Rattle.std.specs.Cmp.Derive.{both_true}
use Rattle.std.specs.FinMap as fin
use Rattle.std.specs.List.{list_any}
use Rattle.std.specs.Str.{bytes_eq}
use Rattle.std.proofs.lemmas.Bool.{and_parts}
use Rattle.std.proofs.lemmas.Bool.Decides.{nat_tests}
use Rattle.std.proofs.lemmas.Slice.Eq.{bytes_eq-Decides}
use Rattle.serde_json.specs.Data.{Data, object, Members, no_members}
use Rattle.serde_json.specs.Read.{read}
use Rattle.serde_json.specs.Written.{compact_text}
use Rattle.fieldpath.specs.Elements.{name_text, field_name}
use Rattle.fieldpath.specs.Paths.{PathTexts}
use Rattle.fieldpath.specs.Scalars.{ascend}
use Rattle.pathmap.specs.Contents.{Content, nothing, here, over}
use Rattle.pathmap.specs.Contents as leaf_value
use Rattle.pathmap.specs.Insides.{inside, heads}
use Rattle.pathmap.specs.Levels.{has_path}
use Rattle.pathmap.proofs.Contents.{same, either, get-nothing, get-over, get-here-below}
use Rattle.pathmap.proofs.Levels.{get-here-top}
use Rattle.pathmap.proofs.Heads.{one_path}
use Rattle.pathmap.proofs.Insides.{get-inside}
use Rattle.schema.specs.Lawful.{names_of, item_is_lawful, is_scalar, is_well_formed, are_well_formed, depth_of, fields_depth, depth_limit, is_lawful}
use Rattle.schema.specs.Shape.{atomic, set, keyed, Shape, text, whole, truth, struct_of, map_of, list_of, Fields, no_fields, field, shape_at}
use Rattle.schema.specs.Becoming.{becomes, fields_become, is_same_kind}
use Rattle.typed.specs.WellTyped.{is_field, IsItem, IsWellTyped, AreWellTyped}
use Rattle.typed.specs.Printing.{object_or_none, array_or_none, with_member, each_member, each_item, scalar_in, print, print_item, print_fields}
use Rattle.typed.specs.Printing as printing
use Rattle.typed.proofs.Fitting.{contents_well_typed}
use Rattle.typed.proofs.KeyFields.{ascend_rising}
use Rattle.typed.proofs.Prints.{print_fields-nothing}
use Rattle.typed.proofs.Spelling.{printed_textual}
use Rattle.typed.proofs.Carrying.{Carries, by_both, carried_parts, carried_parts-nothing, field-none, heads_same, in_field, in_field-at, in_item, inside-all, inside-bare, inside-there, new_leaf, array_leaf, object_leaf, path_same, top-each, under_each}
use Rattle.typed.proofs.PlainCarried.{atomic_stays, shape_follows}
use Rattle.typed.proofs.PlainPrinted.{AllAt, all_at, printed_plain}
use Rattle.typed.proofs.SameShapes.{both_at, either_so, keyed_ascend, keys_fit_same, names_same, names_stay, never, same_shape, scalar_same}

name_field : (f : List ℕ) → field_name (name_text f) ≡ Some f
unfolding name_text
name_field f = refl

bare_inside : (c : Content) (e : List ℕ) → ((q : PathTexts) → fin.get c (e ∷ q) ≡ None) → inside e c ≡ nothing
bare_inside c e none = same (inside e c) nothing (λ q. get-inside e c q ∙ none q ∙ sym (get-nothing q))

get_bare : (c : Content) (e : List ℕ) (q : PathTexts) → inside e c ≡ nothing → fin.get c (e ∷ q) ≡ None
get_bare c e q bare = sym (get-inside e c q) ∙ ap (λ d. fin.get d q) bare ∙ get-nothing q

pub inside-marked : (g : List ℕ) (c : Content) → inside g (over (here leaf_value.mark) c) ≡ inside g c
inside-marked g c =
    same (inside g (over (here leaf_value.mark) c)) (inside g c) (λ q.
    get-inside g (over (here leaf_value.mark) c) q ∙ get-over (here leaf_value.mark) c (g ∷ q) ∙ ap (λ o. either o (fin.get c (g ∷ q))) (get-here-below leaf_value.mark g q) ∙ sym (get-inside g c q))

same_carries : (s t : Shape) → s ≡ t → (c : Content) → IsWellTyped s c → Carries s t c c
same_carries s t is c well_typed = subst (λ u. IsWellTyped u c × (print u c ≡ print s c)) is (well_typed, refl)

-- ---- fields

-- what is to be shown of each field
abbrev FieldsCarry : Fields → Fields → Content → Type 0
FieldsCarry no_fields gs c = Unit {0}
FieldsCarry (field f s more) no_fields c = Unit {0}
FieldsCarry (field f s more) (field g t rest) c = Carries s t (inside (name_text f) c) (carried_parts s t (inside (name_text f) c)) × FieldsCarry more rest c

module _ (all others : Fields) (c r : Content) (to : fields_become true all others ≡ true) (at : (e : List ℕ) → inside e r ≡ in_field all others (field_name e) (inside e c)) where
  field_is : (f : List ℕ) (s t : Shape) → shape_at f all ≡ Some s → shape_at f others ≡ Some t → inside (name_text f) r ≡ carried_parts s t (inside (name_text f) c)
  field_is f s t old new =
      at (name_text f) ∙ ap (λ o. in_field all others o (inside (name_text f) c)) (name_field f) ∙ in_field-at all others to f (inside (name_text f) c)
      ∙ ap₂ (λ o p. by_both o p (inside (name_text f) c)) old new

  -- what holds nothing holds nothing still
  bare_still : (e : List ℕ) → inside e c ≡ nothing → inside e r ≡ nothing
  bare_still e bare = at e ∙ ap (in_field all others (field_name e)) bare ∙ field-none all others (field_name e)

  struct_well_typed : (fs gs : Fields) → AllAt all fs → AllAt others gs → fields_become true fs gs ≡ true → FieldsCarry fs gs c → AreWellTyped gs r
  struct_well_typed fs no_fields old new h carry = tt
  struct_well_typed no_fields (field g t rest) old new h carry = never h
  struct_well_typed (field f s more) (field g t rest) old new h carry =
      let named = and_parts (bytes_eq f g) (becomes true s t && fields_become true more rest) h in
      let is = (bytes_eq-Decides f g).0 named.0 in (
        subst (IsWellTyped t) (sym (ap (λ n. inside (name_text n) r) (sym is) ∙ field_is f s t old.0 (ap (λ n. shape_at n others) is ∙ new.0))) carry.0.0,
        struct_well_typed more rest old.1 new.1 (and_parts (becomes true s t) (fields_become true more rest) named.1).1 carry.1,
      )

  struct_printed : (fs gs : Fields) → AllAt all fs → AllAt others gs → fields_become true fs gs ≡ true → FieldsCarry fs gs c → (ms : Members) → print_fields gs r ms ≡ print_fields fs c ms
  struct_printed no_fields no_fields old new h carry ms = refl
  struct_printed no_fields (field g t rest) old new h carry ms = never h
  struct_printed (field f s more) no_fields old new h carry ms = never h
  struct_printed (field f s more) (field g t rest) old new h carry ms =
      let named = and_parts (bytes_eq f g) (becomes true s t && fields_become true more rest) h in
      let is = (bytes_eq-Decides f g).0 named.0 in
      let there = ap (λ n. inside (name_text n) r) (sym is) ∙ field_is f s t old.0 (ap (λ n. shape_at n others) is ∙ new.0) in
      ap (print_fields rest r) (ap₂ (λ n o. with_member n o ms) (sym is) (ap (print t) there ∙ carry.0.1))
      ∙ struct_printed more rest old.1 new.1 (and_parts (becomes true s t) (fields_become true more rest) named.1).1 carry.1 (with_member f (print s (inside (name_text f) c)) ms)

same_field : (all others : Fields) → fields_become true all others ≡ true → (e : List ℕ) → is_field all e ≡ is_field others e
same_field all others to e = ap (list_any (λ f. bytes_eq e (name_text f))) (names_stay all others to)

pub fields_at : (all others : Fields) (c : Content) (e : List ℕ) → inside e (under_each (λ g. in_field all others (field_name g) (inside g c)) (heads c)) ≡ in_field all others (field_name e) (inside e c)
fields_at all others c = inside-all (λ g. in_field all others (field_name g) (inside g c)) c (λ g bare. ap (in_field all others (field_name g)) bare ∙ field-none all others (field_name g))

struct_carries : (all others : Fields) → is_well_formed (struct_of all false) ≡ true → is_well_formed (struct_of others false) ≡ true → fields_become true all others ≡ true → (c : Content) → IsWellTyped (struct_of all false) c
    → FieldsCarry all others c → Carries (struct_of all false) (struct_of others false) c (under_each (λ e. in_field all others (field_name e) (inside e c)) (heads c))
struct_carries all others a b to c well_typed carry =
    let g = λ (e : List ℕ). in_field all others (field_name e) (inside e c) in
    let r = under_each g (heads c) in
    let at = fields_at all others c in
    let old = all_at all all (ascend_rising (names_of all) (and_parts (ascend (names_of all)) (are_well_formed all) a).0) (λ k t. refl) in
    let new = all_at others others (ascend_rising (names_of others) (and_parts (ascend (names_of others)) (are_well_formed others) b).0) (λ k t. refl) in (
      (
        (
          top-each g (heads c),
          λ e q out. get_bare r e q (bare_still all others c r to at e (bare_inside c e (λ p. well_typed.0.1 e p (same_field all others to e ∙ out)))),
        ),
        struct_well_typed all others c r to at all others old new to carry,
      ),
      ap object_or_none (struct_printed all others c r to at all others old new to carry no_members),
    )

-- ---- items of a map list

abbrev ItemCarries : List (List ℕ) → Shape → Shape → List ℕ → Content → Content → Type 0
ItemCarries names s t e c r = IsItem names t e r × ((ms : Members) → print_item t r ms ≡ print_item s c ms)

item_struct : (names : List (List ℕ)) (all others : Fields) (was is : Bool) → is_well_formed (struct_of all was) ≡ true → is_well_formed (struct_of others is) ≡ true → fields_become true all others ≡ true → (e : List ℕ) (c : Content)
    → IsItem names (struct_of all was) e c → FieldsCarry all others c
    → ItemCarries names (struct_of all was) (struct_of others is) e c (over (here leaf_value.mark) (under_each (λ g. in_field all others (field_name g) (inside g c)) (heads c)))
item_struct names all others was is a b to e c ((ks, read_as, fit, top, none, bare), well_typed) carry =
    let u = under_each (λ g. in_field all others (field_name g) (inside g c)) (heads c) in
    let r = over (here leaf_value.mark) u in
    let at : (g : List ℕ) → inside g r ≡ in_field all others (field_name g) (inside g c) = λ g. inside-marked g u ∙ fields_at all others c g in
    let formed = and_parts (ascend (names_of all)) (are_well_formed all) a in
    let formed_then = and_parts (ascend (names_of others)) (are_well_formed others) b in
    let old = all_at all all (ascend_rising (names_of all) formed.0) (λ k t. refl) in
    let new = all_at others others (ascend_rising (names_of others) formed_then.0) (λ k t. refl) in (
      (
        (
          ks,
          read_as,
          sym (keys_fit_same all others (both_at all others formed.1 formed_then.1 to) names ks) ∙ fit,
          get-over (here leaf_value.mark) u [] ∙ ap (λ x. either x (fin.get u [])) (get-here-top leaf_value.mark),
          (λ g q out. get_bare r g q (bare_still all others c r to at g (bare_inside c g (λ p. none g p (same_field all others to g ∙ out))))),
          (λ f key. bare_still all others c r to at (name_text f) (bare f key)),
        ),
        struct_well_typed all others c r to at all others old new to carry,
      ),
      (λ ms. struct_printed all others c r to at all others old new to carry ms),
    )

pub item_top : (names : List (List ℕ)) (s : Shape) (e : List ℕ) (c : Content) → IsItem names s e c → has_path c ≡ true
item_top names text e c well_typed = absurd well_typed
item_top names whole e c well_typed = absurd well_typed
item_top names truth e c well_typed = absurd well_typed
item_top names (struct_of all was) e c well_typed = one_path c [] (ap is_some well_typed.0.3)
item_top names (map_of s was) e c well_typed = absurd well_typed
item_top names (list_of s was) e c well_typed = absurd well_typed

item-nothing : (s : Shape) (ms : Members) → print_item s nothing ms ≡ ms
item-nothing text ms = refl
item-nothing whole ms = refl
item-nothing truth ms = refl
item-nothing (struct_of all was) ms = print_fields-nothing all ms
item-nothing (map_of s was) ms = refl
item-nothing (list_of s was) ms = refl

module _ (names : List (List ℕ)) (s t : Shape) (c : Content) (well_typed : (e : List ℕ) → (inside e c ≡ nothing) ⊎ IsItem names s e (inside e c))
    (carry : (e : List ℕ) → IsItem names s e (inside e c) → ItemCarries names s t e (inside e c) (in_item s t (inside e c))) where
  item_there : (e : List ℕ) → IsItem names s e (inside e c) → inside e (under_each (λ e. in_item s t (inside e c)) (heads c)) ≡ in_item s t (inside e c)
  item_there e is = inside-there (λ e. in_item s t (inside e c)) c e (item_top names s e (inside e c) is)

  item_well_typed : (e : List ℕ) → (inside e c ≡ nothing) ⊎ IsItem names s e (inside e c)
      → (inside e (under_each (λ e. in_item s t (inside e c)) (heads c)) ≡ nothing) ⊎ IsItem names t e (inside e (under_each (λ e. in_item s t (inside e c)) (heads c)))
  item_well_typed e (inl bare) = inl (inside-bare (λ e. in_item s t (inside e c)) c e bare)
  item_well_typed e (inr is) = inr (subst (IsItem names t e) (sym (item_there e is)) (carry e is).0)

  item_printed : (e : List ℕ) → (inside e c ≡ nothing) ⊎ IsItem names s e (inside e c) → (ms : Members)
      → print_item t (inside e (under_each (λ e. in_item s t (inside e c)) (heads c))) ms ≡ print_item s (inside e c) ms
  item_printed e (inl bare) ms =
      ap (λ x. print_item t x ms) (inside-bare (λ e. in_item s t (inside e c)) c e bare) ∙ item-nothing t ms ∙ sym (ap (λ x. print_item s x ms) bare ∙ item-nothing s ms)
  item_printed e (inr is) ms = ap (λ x. print_item t x ms) (item_there e is) ∙ (carry e is).1 ms

  item_path : (e : List ℕ) → (inside e c ≡ nothing) ⊎ IsItem names s e (inside e c) → has_path (inside e (under_each (λ e. in_item s t (inside e c)) (heads c))) ≡ has_path (inside e c)
  item_path e (inl bare) = ap has_path (inside-bare (λ e. in_item s t (inside e c)) c e bare ∙ sym bare)
  item_path e (inr is) = ap has_path (item_there e is) ∙ item_top names t e (in_item s t (inside e c)) (carry e is).0 ∙ sym (item_top names s e (inside e c) is)

  list_carries : Carries (list_of s (keyed names)) (list_of t (keyed names)) c (under_each (λ e. in_item s t (inside e c)) (heads c))
  list_carries = (
    (top-each (λ e. in_item s t (inside e c)) (heads c), λ e. item_well_typed e (well_typed e)),
    ap₂ (λ (f : List ℕ → Members → Members) (hs : List (List ℕ)). array_or_none (each_item (λ e. option_map (λ ms. object (f e ms)) (printing.keys_in e)) hs))
        (λ i e ms. item_printed e (well_typed e) ms i) (heads_same c (under_each (λ e. in_item s t (inside e c)) (heads c)) (λ e. item_path e (well_typed e))),
  )

-- ---- maps

map_carries : (s t : Shape) → is_well_formed s ≡ true → (c : Content) → IsWellTyped (map_of s false) c → ((e : List ℕ) → Carries s t (inside e c) (carried_parts s t (inside e c)))
    → Carries (map_of s false) (map_of t false) c (under_each (λ e. carried_parts s t (inside e c)) (heads c))
map_carries s t a c well_typed each =
    let g = λ (e : List ℕ). carried_parts s t (inside e c) in
    let r = under_each g (heads c) in
    let at = inside-all g c (λ e bare. ap (carried_parts s t) bare ∙ carried_parts-nothing s t) in (
      (
        (top-each g (heads c), λ e q out. get_bare r e q (at e ∙ ap (carried_parts s t) (bare_inside c e (λ p. well_typed.0.1 e p out)) ∙ carried_parts-nothing s t)),
        λ e. subst (IsWellTyped t) (sym (at e)) (each e).0,
      ),
      ap₂ (λ (f : List ℕ → Option Data) (hs : List (List ℕ)). object_or_none (each_member f hs no_members)) (λ i e. (ap (print t) (at e) ∙ (each e).1) i)
          (heads_same c r (λ e. ap has_path (at e) ∙ path_same s t (inside e c) a (well_typed.1 e) (each e))),
    )

-- ---- new leaves

le_is : (m n : ℕ) → m ≤ n → nat_le m n ≡ true
le_is m n h = grind (arith, nat_tests)

encodable : (s : Shape) (c : Content) (d : Data) → is_well_formed s ≡ true → nat_le (depth_of s) (depth_limit s) ≡ true → IsWellTyped s c → print s c ≡ Some d → read (compact_text d) ≡ Some d
encodable s c d a deep well_typed is = (printed_textual s c d (both_true a deep) ((contents_well_typed s c a).1 well_typed) is).3

-- ---- the law

less_deep : (n : ℕ) → suc n ≤ 15 → n ≤ 15
less_deep n h = omega (arith, h)

left_deep : (m n : ℕ) → max m n ≤ 15 → m ≤ 15
left_deep m n h = omega (arith, h)

right_deep : (m n : ℕ) → max m n ≤ 15 → n ≤ 15
right_deep m n h = omega (arith, h)

pub keyed_to : (names others : List (List ℕ)) (s t : Shape) → is_well_formed (list_of s (keyed names)) ≡ true → is_well_formed (list_of t (keyed others)) ≡ true → becomes true (list_of s (keyed names)) (list_of t (keyed others)) ≡ true
    → (names ≡ others) × (becomes true s t ≡ true)
keyed_to names others s t a b h =
    either_so ((names ≡ others) × (becomes true s t ≡ true)) (is_same_kind (keyed names) (keyed others)) (becomes true s t) false h
    (λ same later. (names_same names others (keyed_ascend names s (and_parts (item_is_lawful (keyed names) s) (is_well_formed s) a).0) (keyed_ascend others t (and_parts (item_is_lawful (keyed others) t) (is_well_formed t) b).0) same, later)) never

mutual
  pub carries : (s t : Shape) → is_well_formed s ≡ true → is_well_formed t ≡ true → depth_of s ≤ 15 → becomes true s t ≡ true → (c : Content) → IsWellTyped s c → Carries s t c (carried_parts s t c)
  carries text t a b deep h c well_typed = same_carries text t (same_shape text t a b h) c well_typed
  carries whole t a b deep h c well_typed = same_carries whole t (same_shape whole t a b h) c well_typed
  carries truth t a b deep h c well_typed = same_carries truth t (same_shape truth t a b h) c well_typed
  carries (struct_of all was) text a b deep h c well_typed = never h
  carries (struct_of all was) whole a b deep h c well_typed = never h
  carries (struct_of all was) truth a b deep h c well_typed = never h
  carries (struct_of all true) (struct_of others true) a b deep h c well_typed =
      (atomic_stays (struct_of all true) (struct_of others true) c (shape_follows true (struct_of all true) (struct_of others true) a b h) well_typed, refl)
  carries (struct_of all true) (struct_of others false) a b deep h c well_typed = never h
  carries (struct_of all false) (struct_of others true) a b deep h c well_typed = never h
  carries (struct_of all false) (struct_of others false) a b deep h c well_typed =
      struct_carries all others a b h c well_typed
      (fields_carry all others (and_parts (ascend (names_of all)) (are_well_formed all) a).1 (and_parts (ascend (names_of others)) (are_well_formed others) b).1 (less_deep (fields_depth all) deep) h c well_typed.1)
  carries (struct_of all was) (map_of t is) a b deep h c well_typed = never h
  carries (struct_of all was) (list_of t is) a b deep h c well_typed = never h
  carries (map_of s was) text a b deep h c well_typed = never h
  carries (map_of s was) whole a b deep h c well_typed = never h
  carries (map_of s was) truth a b deep h c well_typed = never h
  carries (map_of s was) (struct_of others is) a b deep h c well_typed = never h
  carries (map_of s true) (map_of t true) a b deep h c well_typed = (atomic_stays (map_of s true) (map_of t true) c (shape_follows true (map_of s true) (map_of t true) a b h) well_typed, refl)
  carries (map_of s true) (map_of t false) a b deep h c well_typed = never h
  carries (map_of s false) (map_of t true) a b deep h c well_typed =
      new_leaf (map_of t true) (print (map_of s false) c) (λ d is. (
        shape_follows true (map_of s false) (map_of t true) a b h d d (printed_plain (map_of s false) c d a well_typed is),
        encodable (map_of s false) c d a (le_is (depth_of (map_of s false)) 15 deep) well_typed is,
        object_leaf (each_member (λ e. print s (inside e c)) (heads c) no_members) d is,
      ))
  carries (map_of s false) (map_of t false) a b deep h c well_typed = map_carries s t a c well_typed (λ e. carries s t a b (less_deep (depth_of s) deep) h (inside e c) (well_typed.1 e))
  carries (map_of s was) (list_of t is) a b deep h c well_typed = never h
  carries (list_of s was) text a b deep h c well_typed = never h
  carries (list_of s was) whole a b deep h c well_typed = never h
  carries (list_of s was) truth a b deep h c well_typed = never h
  carries (list_of s was) (struct_of others is) a b deep h c well_typed = never h
  carries (list_of s was) (map_of t is) a b deep h c well_typed = never h
  carries (list_of s atomic) (list_of t atomic) a b deep h c well_typed = (atomic_stays (list_of s atomic) (list_of t atomic) c (shape_follows true (list_of s atomic) (list_of t atomic) a b h) well_typed, refl)
  carries (list_of s atomic) (list_of t set) a b deep h c well_typed = never h
  carries (list_of s atomic) (list_of t (keyed others)) a b deep h c well_typed = never h
  carries (list_of s set) (list_of t atomic) a b deep h c well_typed =
      new_leaf (list_of t atomic) (print (list_of s set) c) (λ d is. (
        shape_follows true (list_of s set) (list_of t atomic) a b h d d (printed_plain (list_of s set) c d a well_typed is),
        encodable (list_of s set) c d a (le_is (depth_of (list_of s set)) 15 deep) well_typed is,
        array_leaf (each_item scalar_in (heads c)) d is,
      ))
  carries (list_of s set) (list_of t set) a b deep h c well_typed =
      let old = and_parts (is_scalar s) (is_well_formed s) a in
      let new = and_parts (is_scalar t) (is_well_formed t) b in
      same_carries (list_of s set) (list_of t set) (ap (λ u. list_of u set) (scalar_same s t old.1 new.1 old.0 h)) c well_typed
  carries (list_of s set) (list_of t (keyed others)) a b deep h c well_typed = never h
  carries (list_of s (keyed names)) (list_of t atomic) a b deep h c well_typed =
      new_leaf (list_of t atomic) (print (list_of s (keyed names)) c) (λ d is. (
        shape_follows true (list_of s (keyed names)) (list_of t atomic) a b h d d (printed_plain (list_of s (keyed names)) c d a well_typed is),
        encodable (list_of s (keyed names)) c d a (le_is (depth_of (list_of s (keyed names))) 15 deep) well_typed is,
        array_leaf (each_item (λ e. option_map (λ ms. object (print_item s (inside e c) ms)) (printing.keys_in e)) (heads c)) d is,
      ))
  carries (list_of s (keyed names)) (list_of t set) a b deep h c well_typed = never h
  carries (list_of s (keyed names)) (list_of t (keyed others)) a b deep h c well_typed =
      let to = keyed_to names others s t a b h in
      let old = and_parts (item_is_lawful (keyed names) s) (is_well_formed s) a in
      let new = and_parts (item_is_lawful (keyed others) t) (is_well_formed t) b in
      subst (λ ns. Carries (list_of s (keyed names)) (list_of t (keyed ns)) c (under_each (λ e. in_item s t (inside e c)) (heads c))) to.0
      (list_carries names s t c well_typed.1 (λ e is. item_carry names s t old.1 new.1 (less_deep (depth_of s) deep) to.1 e (inside e c) is))

  item_carry : (names : List (List ℕ)) (s t : Shape) → is_well_formed s ≡ true → is_well_formed t ≡ true → depth_of s ≤ 15 → becomes true s t ≡ true → (e : List ℕ) (c : Content) → IsItem names s e c → ItemCarries names s t e c (in_item s t c)
  item_carry names text t a b deep h e c well_typed = absurd well_typed
  item_carry names whole t a b deep h e c well_typed = absurd well_typed
  item_carry names truth t a b deep h e c well_typed = absurd well_typed
  item_carry names (map_of s was) t a b deep h e c well_typed = absurd well_typed
  item_carry names (list_of s was) t a b deep h e c well_typed = absurd well_typed
  item_carry names (struct_of all was) text a b deep h e c well_typed = never h
  item_carry names (struct_of all was) whole a b deep h e c well_typed = never h
  item_carry names (struct_of all was) truth a b deep h e c well_typed = never h
  item_carry names (struct_of all was) (map_of t is) a b deep h e c well_typed = never h
  item_carry names (struct_of all was) (list_of t is) a b deep h e c well_typed = never h
  item_carry names (struct_of all was) (struct_of others is) a b deep h e c well_typed =
      let to = (and_parts (beq was is) (fields_become true all others) h).1 in
      item_struct names all others was is a b to e c well_typed
      (fields_carry all others (and_parts (ascend (names_of all)) (are_well_formed all) a).1 (and_parts (ascend (names_of others)) (are_well_formed others) b).1 (less_deep (fields_depth all) deep) to c well_typed.1)

  fields_carry : (fs gs : Fields) → are_well_formed fs ≡ true → are_well_formed gs ≡ true → fields_depth fs ≤ 15 → fields_become true fs gs ≡ true → (c : Content) → AreWellTyped fs c → FieldsCarry fs gs c
  fields_carry no_fields gs a b deep h c well_typed = tt
  fields_carry (field f s more) no_fields a b deep h c well_typed = tt
  fields_carry (field f s more) (field g t rest) a b deep h c well_typed =
      let named = and_parts (bytes_eq f g) (becomes true s t && fields_become true more rest) h in
      let parts = and_parts (becomes true s t) (fields_become true more rest) named.1 in
      let old = and_parts (is_well_formed s) (are_well_formed more) a in
      let new = and_parts (is_well_formed t) (are_well_formed rest) b in
      (carries s t old.0 new.0 (left_deep (depth_of s) (fields_depth more) deep) parts.0 (inside (name_text f) c) well_typed.0, fields_carry more rest old.1 new.1 (right_deep (depth_of s) (fields_depth more) deep) parts.1 c well_typed.1)

one_less : (n : ℕ) → suc n ≤ 16 → n ≤ 15
one_less n h = omega (arith, h)

is_le : (m n : ℕ) → nat_le m n ≡ true → m ≤ n
is_le m n h = grind (arith, nat_tests)

-- a type's schema is a granular struct, and may nest one deeper
pub lawful_carries : (s t : Shape) → is_lawful s ≡ true → is_well_formed t ≡ true → becomes true s t ≡ true → (c : Content) → IsWellTyped s c → Carries s t c (carried_parts s t c)
lawful_carries text t a b h c well_typed = carries text t refl b (omega arith) h c well_typed
lawful_carries whole t a b h c well_typed = carries whole t refl b (omega arith) h c well_typed
lawful_carries truth t a b h c well_typed = carries truth t refl b (omega arith) h c well_typed
lawful_carries (struct_of all true) t a b h c well_typed =
    let parts = and_parts (is_well_formed (struct_of all true)) (nat_le (depth_of (struct_of all true)) 15) a in carries (struct_of all true) t parts.0 b (is_le _ _ parts.1) h c well_typed
lawful_carries (struct_of all false) text a b h c well_typed = never h
lawful_carries (struct_of all false) whole a b h c well_typed = never h
lawful_carries (struct_of all false) truth a b h c well_typed = never h
lawful_carries (struct_of all false) (struct_of others true) a b h c well_typed = never h
lawful_carries (struct_of all false) (struct_of others false) a b h c well_typed =
    let parts = and_parts (is_well_formed (struct_of all false)) (nat_le (depth_of (struct_of all false)) 16) a in
    let deep : suc (fields_depth all) ≤ 16 = is_le (suc (fields_depth all)) 16 parts.1 in
    struct_carries all others parts.0 b h c well_typed
    (fields_carry all others (and_parts (ascend (names_of all)) (are_well_formed all) parts.0).1 (and_parts (ascend (names_of others)) (are_well_formed others) b).1 (one_less (fields_depth all) deep) h c well_typed.1)
lawful_carries (struct_of all false) (map_of t is) a b h c well_typed = never h
lawful_carries (struct_of all false) (list_of t is) a b h c well_typed = never h
lawful_carries (map_of s was) t a b h c well_typed =
    let parts = and_parts (is_well_formed (map_of s was)) (nat_le (depth_of (map_of s was)) 15) a in carries (map_of s was) t parts.0 b (is_le _ _ parts.1) h c well_typed
lawful_carries (list_of s was) t a b h c well_typed =
    let parts = and_parts (is_well_formed (list_of s was)) (nat_le (depth_of (list_of s was)) 15) a in carries (list_of s was) t parts.0 b (is_le _ _ parts.1) h c well_typed
