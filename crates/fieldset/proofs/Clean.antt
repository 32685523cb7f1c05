-- FieldsV1 values have no number, so no float.
use Rattle.std.proofs.Common.{◌≡◌, ℕ, Bool, true, false, cond, ◌||◌, nat_cmp, List, [], ◌∷◌, Option, Some, None, Ordering, Less, Equal, Greater, refl, ap₂, true≢false, codes, is_some}
use Rattle.std.specs.Cmp.Lexicographic.{slice_cmp}
use Rattle.std.specs.FinMap as fin
use Rattle.std.specs.Ordering.{match_ordering}
use Rattle.serde_json.specs.Data.{Members, no_members, member, put}
use Rattle.serde_json.specs.Written.{has_float, members_have_float}
use Rattle.fieldpath.specs.Elements.{field_name, name_text}
use Rattle.pathmap.specs.Contents.{Content, PathSet, marked}
use Rattle.pathmap.specs.Insides.{heads, inside}
use Rattle.schema.specs.Shape.{atomic, set, keyed, Shape, text, whole, truth, struct_of, map_of, list_of, Fields, no_fields, field}
use Rattle.fieldset.specs.Below.{as_item, members_some, members_under, shape_below}
use Rattle.fieldset.specs.FieldsV1.{each, fields_v1_of, is_name, leaf, members_of, members_of_field, put_names, with_item}

abbrev pub IsClean : Members → Type 0
IsClean ms = members_have_float ms ≡ false

pub neither : (a b : Bool) → (a || b) ≡ false → (a ≡ false) × (b ≡ false)
neither true b h = absurd (true≢false h)
neither false b h = (refl, h)

put_clean : (k : List ℕ) (ms : Members) → IsClean ms → IsClean (put k leaf ms)
put_clean k no_members h = refl
put_clean k (member l d ms) h = by_order (neither (has_float d) (members_have_float ms) h) (put_clean k ms (neither (has_float d) (members_have_float ms) h).1) (slice_cmp nat_cmp k l)
  where
    by_order : (has_float d ≡ false) × IsClean ms → IsClean (put k leaf ms) → (o : Ordering) → IsClean (match_ordering o (member k leaf (member l d ms)) (member l leaf ms) (member l d (put k leaf ms)))
    by_order both later Less = h
    by_order both later Equal = both.1
    by_order both later Greater = ap₂ (λ a b. a || b) both.0 later

put_names_clean : (ns : List (List ℕ)) (ms : Members) → IsClean ms → IsClean (put_names ns ms)
put_names_clean [] ms h = h
put_names_clean (n ∷ ns) ms h = put_names_clean ns (put (name_text n) leaf ms) (put_clean (name_text n) ms h)

item_clean : (is_there : Bool) (names : List (List ℕ)) (ms : Members) → IsClean ms → IsClean (with_item is_there names ms)
item_clean true names ms h = put_clean (codes ".") (put_names names ms) (put_names_clean names ms h)
item_clean false names ms h = h

each_clean : (f : List ℕ → Members) → ((e : List ℕ) → IsClean (f e)) → (hs : List (List ℕ)) → IsClean (each f hs)
each_clean f h [] = refl
each_clean f h (e ∷ hs) = ap₂ (λ a b. a || b) (h e) (each_clean f h hs)

either_clean : (b : Bool) (ms ns : Members) → IsClean ms → IsClean ns → IsClean (cond b ms ns)
either_clean true ms ns h k = h
either_clean false ms ns h k = k

mutual
  members_clean : (s : Shape) (c : Content) → IsClean (members_of s c)
  members_clean text c = refl
  members_clean whole c = refl
  members_clean truth c = refl
  members_clean (struct_of all is_atomic) c =
      either_clean is_atomic no_members (each (λ e. members_of_field all (field_name e) (inside e c)) (heads c)) refl
      (each_clean (λ e. members_of_field all (field_name e) (inside e c)) (λ e. field_clean all (field_name e) (inside e c)) (heads c))
  members_clean (map_of inner is_atomic) c =
      either_clean is_atomic no_members (each (λ e. members_of inner (inside e c)) (heads c)) refl (each_clean (λ e. members_of inner (inside e c)) (λ e. members_clean inner (inside e c)) (heads c))
  members_clean (list_of inner atomic) c = refl
  members_clean (list_of inner set) c = each_clean (λ e. no_members) (λ e. refl) (heads c)
  members_clean (list_of inner (keyed names)) c =
      each_clean (λ e. with_item (is_some (fin.get (inside e c) [])) names (members_of inner (inside e c)))
      (λ e. item_clean (is_some (fin.get (inside e c) [])) names (members_of inner (inside e c)) (members_clean inner (inside e c))) (heads c)

  field_clean : (all : Fields) (f : Option (List ℕ)) (c : Content) → IsClean (members_of_field all f c)
  field_clean no_fields f c = refl
  field_clean (field known inner more) f c = either_clean (is_name known f) (members_of inner c) (members_of_field more f c) (members_clean inner c) (field_clean more f c)

some_clean : (o : Option Shape) (c : Content) → IsClean (members_some o c)
some_clean None c = refl
some_clean (Some s) c = members_clean s c

as_item_clean : (s : Shape) (is_there : Bool) (ms : Members) → IsClean ms → IsClean (as_item s is_there ms)
as_item_clean text is_there ms h = h
as_item_clean whole is_there ms h = h
as_item_clean truth is_there ms h = h
as_item_clean (struct_of all is_atomic) is_there ms h = h
as_item_clean (map_of inner is_atomic) is_there ms h = h
as_item_clean (list_of inner atomic) is_there ms h = h
as_item_clean (list_of inner set) is_there ms h = h
as_item_clean (list_of inner (keyed names)) is_there ms h = item_clean is_there names ms h

pub under_clean : (s : Shape) (e : List ℕ) (c : Content) → IsClean (members_under s e c)
under_clean s e c = as_item_clean s (is_some (fin.get c [])) (members_some (shape_below s e) c) (some_clean (shape_below s e) c)

pub fields_v1_clean : (s : Shape) (paths : PathSet) → has_float (fields_v1_of s paths) ≡ false
fields_v1_clean s paths = members_clean s (marked paths)
