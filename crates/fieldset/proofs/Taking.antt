-- The readers' loop over the members of an object, as far as it has come.
use Rattle.std.proofs.Common.{◌≡◌, ◌&&◌, ℕ, Bool, true, false, cond, not, List, Ok, Err, Option, Some, None, refl, sym, ap, ap₂, subst, ◌∙◌}
use Rattle.std.specs.declared.result.Result.{Result}
use Rattle.std.specs.Str.{bytes_eq}
use Rattle.serde_json.specs.Data.{Data, Members, no_members, member, object}
use Rattle.fieldpath.specs.Elements.{Element, read_element}
use Rattle.fieldpath.specs.Scalars.{ascend, ascend_from}
use Rattle.fieldpath.specs.Encodable.{member_names}
use Rattle.fieldpath.proofs.Names.{ascend_rest, first_below, further, rest_above}
use Rattle.json_values.specs.Members.{has}
use Rattle.pathmap.specs.Contents.{Content, nothing, over, under}
use Rattle.pathmap.specs.Insides.{inside}
use Rattle.pathmap.specs.Levels.{has_path}
use Rattle.pathmap.proofs.Contents.{nothing-over, over-nothing, over-over}
use Rattle.pathmap.proofs.Heads.{inside-nothing}
use Rattle.pathmap.proofs.Insides.{inside_after}
use Rattle.pathmap.proofs.Levels.{nothing_path}
use Rattle.schema.specs.Steps.{TypeRef, step}
use Rattle.fieldset.specs.declared.fault.FieldsV1Fault.{FieldsV1Fault}
use Rattle.fieldset.specs.declared.fault.FieldsV1Fault.TheVariants as fault
use Rattle.fieldset.specs.declared.fields_v1.Member.{Member}
use Rattle.fieldset.specs.FieldsV1.{Reading, Refusal, and_then, needs_members, dot, element_in, is_empty, is_key_field, is_marked, joined, may_have_dot, not_canonical, off_schema, read_at, read_below, read_mark, read_member, read_members, some_or, top}
use Rattle.fieldset.specs.Views.{FailsWith, Returns, next_at, read_named, read_next}

pub joined-nothing : (a : Reading) → joined (Ok nothing) a ≡ a
joined-nothing (Ok c) = ap Ok (nothing-over c)
joined-nothing (Err e) = refl

pub joined-none : (c : Content) → joined (Ok c) (Ok nothing) ≡ Ok c
joined-none c = ap Ok (over-nothing c)

pub joined-joined : (a b c : Reading) → joined (joined a b) c ≡ joined a (joined b c)
joined-joined (Err e) b c = refl
joined-joined (Ok x) (Err e) c = refl
joined-joined (Ok x) (Ok y) (Err e) = refl
joined-joined (Ok x) (Ok y) (Ok z) = ap Ok (over-over x y z)

-- ---- faults handed on

pub fails-by : {X Y : Type 0} (f : FieldsV1Fault) (r : Result X Refusal) (s : Result Y Refusal) → ((e : Refusal) → r ≡ Err e → s ≡ Err e) → FailsWith f r → FailsWith f s
fails-by fault.NotAnObject r s h is = h _ is
fails-by fault.BadKey r s h is = h _ is
fails-by fault.NotCanonical r s h is = h _ is
fails-by fault.OffSchema r s h is = h _ is
fails-by fault.Memory r s h is = tt

-- a fault that `?` hands on
pub passed_on : {X Y : Type 0} (view : X → Y) (e f : FieldsV1Fault) (r : Result X FieldsV1Fault) (read : Result Y Refusal) → r ≡ Err e → e ≡ f → FailsWith f read → Returns view r read
passed_on view e f r read is same h = subst (λ s. Returns view s read) (sym is) (subst (λ x. FailsWith x read) (sym same) h)

pub is_none : (o : Option Member) → ((m : Member) → o ≡ Some m → ⊥) → o ≡ None
is_none None h = refl
is_none (Some m) h = absurd (h m refl)

-- ---- a member by where its name leads

pub named-is : (s : TypeRef) (beside : Members) (k : List ℕ) (d : Data) (inner : TypeRef → Reading) → read_named s beside k d inner ≡ read_member s beside k d inner
named-is s beside k d inner = ap (λ r. cond (bytes_eq k dot) (read_mark (may_have_dot s beside) d) r) (by_element (element_in (read_element k)))
  where
    by_step : (b : Bool) (o : Option TypeRef)
        → and_then (let r : Result (Option TypeRef) Refusal = cond b (Ok None) (and_then (some_or off_schema o) (λ next. Ok (Some next))) in r) (read_next (read_mark (has dot beside) d) k inner)
        ≡ cond b (read_mark (has dot beside) d) (and_then (some_or off_schema o) (λ next. read_below k (inner next)))
    by_step true o = refl
    by_step false None = refl
    by_step false (Some next) = refl

    by_element : (r : Result Element Refusal) → and_then (and_then r (next_at s)) (read_next (read_mark (has dot beside) d) k inner)
        ≡ and_then r (λ e. cond (is_key_field s e) (read_mark (has dot beside) d) (and_then (some_or off_schema (step s e)) (λ next. read_below k (inner next))))
    by_element (Err e) = refl
    by_element (Ok e) = by_step (is_key_field s e) (step s e)

-- ---- the loop

-- nothing stands at the names that are left
abbrev pub AllFree : Content → Members → Type 0
AllFree c no_members = Unit {0}
AllFree c (member k d left) = (inside k c ≡ nothing) × AllFree c left

free_nothing : (left : Members) → AllFree nothing left
free_nothing no_members = tt
free_nothing (member k d left) = (inside-nothing k, free_nothing left)

free_put : (k : List ℕ) (c m : Content) (left : Members) → ascend_from k (member_names left) ≡ true → AllFree c left → AllFree (over c (under k m)) left
free_put k c m no_members up free = tt
free_put k c m (member l d left) up free =
    let above = first_below k l (member_names left) up in
    (inside_after k l c m above ∙ free.0, free_put k c m left (further k l (member_names left) above (rest_above k l (member_names left) up)) free.1)

-- what is there, joined with what the members that are left say, is what all say
abbrev pub IsSoFar : TypeRef → Members → Reading → Content → Members → Type 0
IsSoFar type_ref beside whole c left = (joined (Ok c) (read_members type_ref beside left) ≡ whole) × (ascend (member_names left) ≡ true) × AllFree c left

module _ (type_ref : TypeRef) (beside : Members) where
  pub begin : (c : Content) (left all : Members) → c ≡ nothing → left ≡ all → ascend (member_names all) ≡ true → IsSoFar type_ref beside (read_members type_ref beside all) c left
  begin c left all none is up = (
    ap₂ (λ d m. joined (Ok d) (read_members type_ref beside m)) none is ∙ joined-nothing (read_members type_ref beside all),
    subst (λ m. ascend (member_names m) ≡ true) (sym is) up,
    subst (λ d. AllFree d left) (sym none) (free_nothing left),
  )

  module _ (whole : Reading) (c : Content) (it : Members) where
    pub finish : it ≡ no_members → IsSoFar type_ref beside whole c it → whole ≡ Ok c
    finish none so_far = sym so_far.0 ∙ ap (λ m. joined (Ok c) (read_members type_ref beside m)) none ∙ joined-none c

    module _ (k : List ℕ) (d : Data) (left : Members) (steps : it ≡ member k d left) (so_far : IsSoFar type_ref beside whole c it) where
      up : ascend_from k (member_names left) ≡ true
      up = subst (λ m. ascend (member_names m) ≡ true) steps so_far.1

      left_up : ascend (member_names left) ≡ true
      left_up = ascend_rest k (member_names left) up

      free : AllFree c (member k d left)
      free = subst (AllFree c) steps so_far.2

      abbrev pub one : Reading
      one = read_named type_ref beside k d (λ next. read_at next d)

      there : joined (Ok c) (joined one (read_members type_ref beside left)) ≡ whole
      there =
          ap (λ r. joined (Ok c) (joined r (read_members type_ref beside left))) (named-is type_ref beside k d (λ next. read_at next d))
          ∙ sym (ap (λ m. joined (Ok c) (read_members type_ref beside m)) steps) ∙ so_far.0

      pub nothing_added : one ≡ Ok nothing → IsSoFar type_ref beside whole c left
      nothing_added is = (
        ap (joined (Ok c)) (sym (ap (λ r. joined r (read_members type_ref beside left)) is ∙ joined-nothing (read_members type_ref beside left))) ∙ there,
        left_up,
        free.1,
      )

      -- a map put below the name of this member, where nothing stood
      pub added : (n : List ℕ) (m new : Content) (b : Bool) → one ≡ Ok (under n m) → n ≡ k → b ≡ not (has_path (inside n c)) → new ≡ cond b (over c (under n m)) c → IsSoFar type_ref beside whole new left
      added n m new b is named is_free put =
          let there_now : new ≡ over c (under n m) = put ∙ ap (λ t. cond t (over c (under n m)) c) (is_free ∙ ap (λ g. not (has_path (inside g c))) named ∙ ap (λ x. not (has_path x)) free.0 ∙ ap not nothing_path) in (
            ap (λ x. joined (Ok x) (read_members type_ref beside left)) there_now
                ∙ joined-joined (Ok c) (Ok (under n m)) (read_members type_ref beside left)
                ∙ ap (λ r. joined (Ok c) (joined r (read_members type_ref beside left))) (sym is) ∙ there,
            left_up,
            subst (λ x. AllFree x left) (sym (there_now ∙ ap (λ g. over c (under g m)) named)) (free_put k c m left up free.1),
          )

      pub failed : (f : FieldsV1Fault) → FailsWith f one → FailsWith f whole
      failed f = fails-by f one whole (λ x is. sym there ∙ ap (λ r. joined (Ok c) (joined r (read_members type_ref beside left))) is)

-- ---- an object, with what stands at its own path over its members

pub at_object : (s : TypeRef) (ms : Members) (c d : Content) → (needs_members s && is_empty ms) ≡ false → read_members s ms ms ≡ Ok c → d ≡ over (top (is_marked s ms)) c → read_at s (object ms) ≡ Ok d
at_object s ms c d has_needed is topped =
    ap (λ b. cond b (let read : Reading = Err not_canonical in read) (joined (Ok (top (is_marked s ms))) (read_members s ms ms))) has_needed
    ∙ ap (joined (Ok (top (is_marked s ms)))) is ∙ ap Ok (sym topped)

pub at_failed : (s : TypeRef) (ms : Members) (f : FieldsV1Fault) → (needs_members s && is_empty ms) ≡ false → FailsWith f (read_members s ms ms) → FailsWith f (read_at s (object ms))
at_failed s ms f has_needed = fails-by f (read_members s ms ms) (read_at s (object ms)) (λ e is.
    ap (λ b. cond b (let read : Reading = Err not_canonical in read) (joined (Ok (top (is_marked s ms))) (read_members s ms ms))) has_needed ∙ ap (joined (Ok (top (is_marked s ms)))) is)
