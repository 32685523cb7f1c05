-- What a value reads as has places.
use Rattle.std.proofs.Common.{◌≡◌, ℕ, Bool, true, false, cond, ◌&&◌, is_eq, nat_cmp, List, [], ◌∷◌, Option, Some, None, is_some, Result, Ok, Err, refl, sym, subst, ap, ap₂, ◌∙◌, true≢false}
use Rattle.std.specs.Cmp.Lexicographic.{slice_cmp}
use Rattle.std.specs.FinMap as fin
use Rattle.std.specs.FinSet as set
use Rattle.std.specs.Str.{bytes_eq}
use Rattle.serde_json.specs.Data.{Data, null, boolean, number, string, array, object, Members, no_members, member}
use Rattle.fieldpath.specs.Paths.{PathTexts}
use Rattle.fieldpath.specs.Elements.{Element, NoElement, read_element}
use Rattle.pathmap.specs.Contents.{LeafValue, Content, PathSet, dom, nothing, over, under}
use Rattle.pathmap.proofs.Contents.{either, get-nothing, get-over, get-under, get-under-top}
use Rattle.pathmap.proofs.Sets.{contains-dom}
use Rattle.pathmap.proofs.Trees.{ties}
use Rattle.json_values.specs.Members.{has}
use Rattle.schema.specs.Steps.{TypeRef, value_of, set_item, map_item, step}
use Rattle.fieldset.specs.FieldsV1Laws.{HavePlaces, ReadHavePlaces}
use Rattle.fieldset.specs.FieldsV1.{Refusal, Reading, and_then, needs_members, bad_key, dot, element_in, is_empty, is_key_field, is_marked, joined, may_have_dot, not_an_object, not_canonical, off_schema, read_at, read_below, read_mark, read_member, read_members, some_or, top}
use Rattle.fieldset.proofs.Prefixes.{IsWellTypedAt}
use Rattle.fieldset.proofs.Marks.{joined_parts, mark_nothing, not_ok, same_ok}
use Rattle.schema.proofs.Places.{next, place-here, place-next, place_at, place_next, step_read}
use Rattle.fieldset.proofs.Splits.{get_top, get_top_below, mark_when}

-- nothing stands at the top, and the rest has places
abbrev pub IsWellTypedBelow : TypeRef → Content → Type 0
IsWellTypedBelow type_ref c = (fin.get c [] ≡ None) × ((g : List ℕ) (t : PathTexts) → is_some (fin.get c (g ∷ t)) ≡ true → is_some (place_at type_ref (g ∷ t)) ≡ true)

nothing_well_typed : (type_ref : TypeRef) (c : Content) → nothing ≡ c → IsWellTypedBelow type_ref c
nothing_well_typed type_ref c is = subst (IsWellTypedBelow type_ref) is (get-nothing [], λ g t there. absurd (true≢false (sym there ∙ ap is_some (get-nothing (g ∷ t)))))

either_some : (P : Type 0) (a b : Option LeafValue) → is_some (either a b) ≡ true → (is_some a ≡ true → P) → (is_some b ≡ true → P) → P
either_some P None b h left right = right h
either_some P (Some v) b h left right = left refl

both_well_typed : (type_ref : TypeRef) (c d x : Content) → over c d ≡ x → IsWellTypedBelow type_ref c → IsWellTypedBelow type_ref d → IsWellTypedBelow type_ref x
both_well_typed type_ref c d x is left right = subst (IsWellTypedBelow type_ref) is (
  get-over c d [] ∙ ap₂ either left.0 right.0,
  λ g t there. either_some (is_some (place_at type_ref (g ∷ t)) ≡ true) (fin.get c (g ∷ t)) (fin.get d (g ∷ t)) (sym (ap is_some (get-over c d (g ∷ t))) ∙ there) (left.1 g t) (right.1 g t),
)

under_well_typed : (type_ref : TypeRef) (k : List ℕ) (p : TypeRef) (y x : Content) → next type_ref k ≡ Some p → under k y ≡ x → IsWellTypedAt p y → IsWellTypedBelow type_ref x
under_well_typed type_ref k p y x reaches is well_typed = subst (IsWellTypedBelow type_ref) is (
  get-under-top k y,
  λ g t there. by_name g t (is_eq (slice_cmp nat_cmp g k)) refl (sym (ap is_some (get-under k y g t)) ∙ there),
)
  where
    by_name : (g : List ℕ) (t : PathTexts) (b : Bool) → is_eq (slice_cmp nat_cmp g k) ≡ b → is_some (cond b (fin.get y t) None) ≡ true → is_some (place_at type_ref (g ∷ t)) ≡ true
    by_name g t true same there = ap (λ f. is_some (place_at type_ref (f ∷ t))) (ties g k same) ∙ ap is_some (place-next t type_ref k ∙ ap (λ o. place_next o t) reaches) ∙ well_typed t there
    by_name g t false same there = absurd (true≢false (sym there))

-- ---- a member

module _ (type_ref : TypeRef) (beside : Members) (k : List ℕ) (d : Data) (inner : TypeRef → Reading) (x : Content) (well_typed : (p : TypeRef) (y : Content) → inner p ≡ Ok y → IsWellTypedAt p y) where
  by_below : (p : TypeRef) → next type_ref k ≡ Some p → (r : Reading) → inner p ≡ r → read_below k r ≡ Ok x → IsWellTypedBelow type_ref x
  by_below p reaches (Err e) is h = absurd (not_ok e x h)
  by_below p reaches (Ok y) is h = under_well_typed type_ref k p y x reaches (same_ok (under k y) x h) (well_typed p y is)

  by_step : (e : Element) → read_element k ≡ Ok e → (o : Option TypeRef) → step type_ref e ≡ o → and_then (some_or off_schema o) (λ n. read_below k (inner n)) ≡ Ok x → IsWellTypedBelow type_ref x
  by_step e read None is h = absurd (not_ok off_schema x h)
  by_step e read (Some p) is h = by_below p (ap (step_read type_ref) read ∙ is) (inner p) refl h

  by_key : (e : Element) → read_element k ≡ Ok e → (b : Bool) → cond b (read_mark (has dot beside) d) (and_then (some_or off_schema (step type_ref e)) (λ n. read_below k (inner n))) ≡ Ok x → IsWellTypedBelow type_ref x
  by_key e read true h = nothing_well_typed type_ref x (mark_nothing (has dot beside) d x h)
  by_key e read false h = by_step e read (step type_ref e) refl h

  by_read : (r : Result Element NoElement) → read_element k ≡ r
      → and_then (element_in r) (λ e. cond (is_key_field type_ref e) (read_mark (has dot beside) d) (and_then (some_or off_schema (step type_ref e)) (λ n. read_below k (inner n)))) ≡ Ok x → IsWellTypedBelow type_ref x
  by_read (Err n) is h = absurd (not_ok bad_key x h)
  by_read (Ok e) is h = by_key e is (is_key_field type_ref e) h

  by_dot : (b : Bool)
      → cond b (read_mark (may_have_dot type_ref beside) d)
      (and_then (element_in (read_element k)) (λ e. cond (is_key_field type_ref e) (read_mark (has dot beside) d) (and_then (some_or off_schema (step type_ref e)) (λ n. read_below k (inner n))))) ≡ Ok x
      → IsWellTypedBelow type_ref x
  by_dot true h = nothing_well_typed type_ref x (mark_nothing (may_have_dot type_ref beside) d x h)
  by_dot false h = by_read (read_element k) refl h

  member_well_typed : read_member type_ref beside k d inner ≡ Ok x → IsWellTypedBelow type_ref x
  member_well_typed h = by_dot (bytes_eq k dot) h

-- ---- an object

marked_place : (type_ref : TypeRef) (ms : Members) → is_marked type_ref ms ≡ true → is_some (place_at type_ref []) ≡ true
marked_place (value_of s) ms h = place-here s ∙ h
marked_place set_item ms h = refl
marked_place (map_item names all) ms h = refl

pub when_some : (b : Bool) → is_some (mark_when b) ≡ b
when_some true = refl
when_some false = refl

object_well_typed : (type_ref : TypeRef) (ms : Members) (x : Content) → ((y : Content) → read_members type_ref ms ms ≡ Ok y → IsWellTypedBelow type_ref y)
    → cond (needs_members type_ref && is_empty ms) (Err not_canonical) (joined (Ok (top (is_marked type_ref ms))) (read_members type_ref ms ms)) ≡ Ok x → IsWellTypedAt type_ref x
object_well_typed type_ref ms x below h = by_need (needs_members type_ref && is_empty ms) h
  where
    at : (y : Content) → over (top (is_marked type_ref ms)) y ≡ x → IsWellTypedBelow type_ref y → IsWellTypedAt type_ref x
    at y is well_typed = subst (IsWellTypedAt type_ref) is by_path
      where
        by_path : (p : PathTexts) → is_some (fin.get (over (top (is_marked type_ref ms)) y) p) ≡ true → is_some (place_at type_ref p) ≡ true
        by_path [] there =
            either_some (is_some (place_at type_ref []) ≡ true) (fin.get (top (is_marked type_ref ms)) []) (fin.get y []) (sym (ap is_some (get-over (top (is_marked type_ref ms)) y [])) ∙ there)
            (λ is_top. marked_place type_ref ms (sym (ap is_some (get_top (is_marked type_ref ms)) ∙ when_some (is_marked type_ref ms)) ∙ is_top)) (λ is_top. absurd (true≢false (sym is_top ∙ ap is_some well_typed.0)))
        by_path (g ∷ t) there =
            either_some (is_some (place_at type_ref (g ∷ t)) ≡ true) (fin.get (top (is_marked type_ref ms)) (g ∷ t)) (fin.get y (g ∷ t)) (sym (ap is_some (get-over (top (is_marked type_ref ms)) y (g ∷ t))) ∙ there)
            (λ is_top. absurd (true≢false (sym is_top ∙ ap is_some (get_top_below (is_marked type_ref ms) g t)))) (well_typed.1 g t)

    by_need : (b : Bool) → cond b (Err not_canonical) (joined (Ok (top (is_marked type_ref ms))) (read_members type_ref ms ms)) ≡ Ok x → IsWellTypedAt type_ref x
    by_need true h = absurd (not_ok not_canonical x h)
    by_need false h =
        let parts = joined_parts (Ok (top (is_marked type_ref ms))) (read_members type_ref ms ms) x h in
        at parts.1 (ap (λ c. over c parts.1) (same_ok (top (is_marked type_ref ms)) parts.0 parts.2) ∙ parts.4) (below parts.1 parts.3)

mutual
  pub at_well_typed : (type_ref : TypeRef) (d : Data) (x : Content) → read_at type_ref d ≡ Ok x → IsWellTypedAt type_ref x
  at_well_typed type_ref null x h = absurd (not_ok not_an_object x h)
  at_well_typed type_ref (boolean b) x h = absurd (not_ok not_an_object x h)
  at_well_typed type_ref (number n) x h = absurd (not_ok not_an_object x h)
  at_well_typed type_ref (string s) x h = absurd (not_ok not_an_object x h)
  at_well_typed type_ref (array ds) x h = absurd (not_ok not_an_object x h)
  at_well_typed type_ref (object ms) x h = object_well_typed type_ref ms x (λ y is. members_well_typed type_ref ms ms y is) h

  pub members_well_typed : (type_ref : TypeRef) (beside ms : Members) (x : Content) → read_members type_ref beside ms ≡ Ok x → IsWellTypedBelow type_ref x
  members_well_typed type_ref beside no_members x h = nothing_well_typed type_ref x (same_ok nothing x h)
  members_well_typed type_ref beside (member k d ms) x h =
      let parts = joined_parts (read_member type_ref beside k d (λ n. read_at n d)) (read_members type_ref beside ms) x h in
      both_well_typed type_ref parts.0 parts.1 x parts.4 (member_well_typed type_ref beside k d (λ n. read_at n d) parts.0 (λ p y is. at_well_typed p d y is) parts.2) (members_well_typed type_ref beside ms parts.1 parts.3)

-- ---- at the root

abbrev pub set_or : PathSet → Result PathSet Refusal → PathSet
set_or s (Ok t) = t
set_or s (Err e) = s

abbrev pub is_set : Result PathSet Refusal → Bool
is_set (Ok t) = true
is_set (Err e) = false

pub well_typed : ReadHavePlaces
well_typed s null paths h = absurd (true≢false (sym (ap is_set h)))
well_typed s (boolean b) paths h = absurd (true≢false (sym (ap is_set h)))
well_typed s (number n) paths h = absurd (true≢false (sym (ap is_set h)))
well_typed s (string t) paths h = absurd (true≢false (sym (ap is_set h)))
well_typed s (array ds) paths h = absurd (true≢false (sym (ap is_set h)))
well_typed s (object ms) paths h = by_read (read_members (value_of s) ms ms) refl h
  where
    by_path : (c : Content) → IsWellTypedBelow (value_of s) c → (p : PathTexts) → is_some (fin.get c p) ≡ true → is_some (place_at (value_of s) p) ≡ true
    by_path c below [] is = absurd (true≢false (sym is ∙ ap is_some below.0))
    by_path c below (g ∷ t) is = below.1 g t is

    by_read : (r : Reading) → read_members (value_of s) ms ms ≡ r → and_then r (λ c. Ok (dom c)) ≡ Ok paths → HavePlaces s paths
    by_read (Err e) is h = absurd (true≢false (sym (ap is_set h)))
    by_read (Ok c) is h = λ p there. by_path c (members_well_typed (value_of s) ms ms c is) p (sym (contains-dom c p) ∙ ap (λ x. set.contains x p) (ap (set_or paths) h) ∙ there)
