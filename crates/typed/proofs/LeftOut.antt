-- Objects of which some members are left out: what is read of the others, and what is copied.
use Rattle.std.specs.List.Sorted.{IsStrictlySortedBy}
use Rattle.std.specs.Map.{keys_of}
use Rattle.std.specs.Option.{unwrap_or}
use Rattle.std.specs.Str.{bytes_eq}
use Rattle.std.proofs.Common.{◌≡◌, ℕ, Bool, true, false, cond, ◌||◌, is_some, string_cmp, List, [], ◌∷◌, Some, None, Ok, string_bytes, refl, sym, ap, ap₂, subst, ◌∙◌, true≢false}
use Rattle.serde_json.specs.Data.{Data, null, boolean, number, string, array, object, Members, no_members, member, put}
use Rattle.serde_json.specs.Find.{as_object}
use Rattle.serde_json.specs.View.{view, members_view}
use Rattle.fieldpath.specs.Elements.{name_text}
use Rattle.pathmap.specs.Contents.{Content, nothing}
use Rattle.pathmap.proofs.Levels.{under-nothing}
use Rattle.schema.specs.Shape.{Fields, struct_of}
use Rattle.typed.specs.declared.fault.Cause.TheVariants.{NotAnObject}
use Rattle.typed.specs.declared.fault.ReadFault.{ReadFault}
use Rattle.typed.specs.Faults.{Read, ReportsFault, fault_in, and_then, below, some_or}
use Rattle.typed.specs.Reading.{is_null, at_field, joined, one_member, members_at, content_of, content_of_field}
use Rattle.typed.specs.Steps.{IsFree}
use Rattle.typed.specs.Without.{Omitted, but, kept, members_kept, value_kept}
use Rattle.typed.proofs.Faults.{reports-and_then, reports-within}
use Rattle.typed.proofs.Joins.{joined-nothing}
use Rattle.typed.proofs.Members.{AreMembersSoFar, members_begin, member_skipped, member_added, member_failed, member_new}
use Rattle.typed.proofs.Plains.{AreBefore, Entry, before_all, before_left, before_left_too, first_below, left_sorted, members_after, members_after-after, members_after-none, put_last}

-- ---- tests

first_false : (a b : Bool) → (a || b) ≡ false → a ≡ false
first_false true b h = absurd (true≢false h)
first_false false b h = refl

second_false : (a b : Bool) → (a || b) ≡ false → b ≡ false
second_false true b h = absurd (true≢false h)
second_false false b h = h

-- ---- a null member stays null

abbrev pub KeepsNull : (List ℕ → Data → Data) → Type 0
KeepsNull keep = (k : List ℕ) (d : Data) → is_null (keep k d) ≡ is_null d

pub as_it_is : KeepsNull (λ k d. d)
as_it_is k d = refl

but_null : (names : List (List ℕ)) (d : Data) → is_null (but names d) ≡ is_null d
but_null names null = refl
but_null names (boolean b) = refl
but_null names (number n) = refl
but_null names (string s) = refl
but_null names (array ds) = refl
but_null names (object ms) = refl

pub kept_null : (o : Omitted) → KeepsNull (kept o)
kept_null o k d = by_test (bytes_eq k o.inside)
  where
    by_test : (b : Bool) → is_null (cond b (but o.inner d) d) ≡ is_null d
    by_test true = but_null o.inner d
    by_test false = refl

-- ---- what is read

module _ (out : List ℕ → Bool) (keep : List ℕ → Data → Data) (inner : List ℕ → Data → Read Content) where
  -- nothing, where the member is out
  abbrev pub reads : List ℕ → Data → Read Content
  reads k d = cond (out k) (Ok nothing) (inner k (keep k d))

  abbrev pub AreReadSoFar : Members → Content → List Entry → Type 0
  AreReadSoFar all c it = AreMembersSoFar reads (members_at inner (members_kept out keep all)) c it

nothing_read : (b : Bool) (k : List ℕ) → cond {A = Read Content} b (Ok nothing) (at_field k (Ok nothing)) ≡ Ok nothing
nothing_read true k = refl
nothing_read false k = ap Ok (under-nothing (name_text k))

nothing_absent : (a b : Bool) (k : List ℕ) (r : Read Content) → (a || b) ≡ true → cond {A = Read Content} b (Ok nothing) (at_field k (cond a (Ok nothing) r)) ≡ Ok nothing
nothing_absent true b k r h = nothing_read b k
nothing_absent false true k r h = refl
nothing_absent false false k r h = absurd (true≢false (sym h))

one_read : (inner : List ℕ → Data → Read Content) (a : Bool) (k : List ℕ) (d x : Data) (r : Read Content) (ms : Members) → is_null x ≡ is_null d → r ≡ members_at inner ms
    → joined (cond (is_null d) (Ok nothing) (at_field k (cond a (Ok nothing) (inner k x)))) r ≡ members_at inner (cond a ms (member k x ms))
one_read inner true k d x r ms same is = ap (λ c. joined c r) (nothing_read (is_null d) k) ∙ joined-nothing r ∙ is
one_read inner false k d x r ms same is = ap₂ (λ b s. joined (cond b (Ok nothing) (at_field k (inner k x))) s) (sym same) is

module _ (out : List ℕ → Bool) (keep : List ℕ → Data → Data) (inner : List ℕ → Data → Read Content) where
  reads_are : KeepsNull keep → (ms : Members) → members_at (reads out keep inner) ms ≡ members_at inner (members_kept out keep ms)
  reads_are nulls no_members = refl
  reads_are nulls (member k d ms) = one_read inner (out k) k d (keep k d) (members_at (reads out keep inner) ms) (members_kept out keep ms) (nulls k d) (reads_are nulls ms)

  pub reading_begins : KeepsNull keep → (c : Content) (it all : List Entry) → c ≡ nothing → it ≡ all → IsStrictlySortedBy string_cmp (keys_of all) → AreReadSoFar out keep inner (members_view all) c it
  reading_begins nulls c it all none is sorted =
      subst (λ whole. AreMembersSoFar (reads out keep inner) whole c it) (reads_are nulls (members_view all)) (members_begin (reads out keep inner) c it all none is sorted)

  module _ (all : Members) (c : Content) (it : List Entry) (e : Entry) (left : List Entry) (steps : it ≡ e ∷ left) (so_far : AreReadSoFar out keep inner all c it) (k : List ℕ) (named : k ≡ string_bytes e.0) where
    pub reading_passes : (out k || is_null (view e.1)) ≡ true → AreReadSoFar out keep inner all c left
    reading_passes absent =
        member_skipped (reads out keep inner) (members_at inner (members_kept out keep all)) c it e left steps so_far
        (ap (λ f. one_member (reads out keep inner) f (view e.1)) (sym named) ∙ nothing_absent (out k) (is_null (view e.1)) k (inner k (keep k (view e.1))) absent)

    pub reading_new : IsFree (name_text k) c
    reading_new = member_new (reads out keep inner) (members_at inner (members_kept out keep all)) c it e left steps so_far k named

    module _ (there : (out k || is_null (view e.1)) ≡ false) where
      reads_here : reads out keep inner k (view e.1) ≡ inner k (keep k (view e.1))
      reads_here = ap (λ b. cond b (Ok nothing) (inner k (keep k (view e.1)))) (first_false (out k) (is_null (view e.1)) there)

      pub reading_adds : (new : Content) → Ok new ≡ joined (Ok c) (at_field k (inner k (keep k (view e.1)))) → AreReadSoFar out keep inner all new left
      reading_adds new adds =
          member_added (reads out keep inner) (members_at inner (members_kept out keep all)) c it e left steps so_far k named (second_false (out k) (is_null (view e.1)) there) new
          (adds ∙ ap (λ r. joined (Ok c) (at_field k r)) (sym reads_here))

      pub reading_fails : (f : ReadFault) → ReportsFault f (fault_in (at_field k (inner k (keep k (view e.1))))) → ReportsFault f (fault_in (members_at inner (members_kept out keep all)))
      reading_fails f h =
          member_failed (reads out keep inner) (members_at inner (members_kept out keep all)) c it e left steps so_far k named (second_false (out k) (is_null (view e.1)) there) f
          (subst (λ r. ReportsFault f (fault_in (at_field k r))) (sym reads_here) h)

-- ---- objects

module _ (out : List ℕ → Bool) (keep : List ℕ → Data → Data) where
  object_kept : (d : Data) → some_or NotAnObject (as_object (value_kept out keep d)) ≡ below [] (members_kept out keep) (some_or NotAnObject (as_object d))
  object_kept null = refl
  object_kept (boolean b) = refl
  object_kept (number n) = refl
  object_kept (string s) = refl
  object_kept (array ds) = refl
  object_kept (object ms) = refl

  pub struct_kept : (all : Fields) (d : Data) (ms : Members) → some_or NotAnObject (as_object d) ≡ Ok ms
      → content_of (struct_of all false) (value_kept out keep d) ≡ members_at (λ k e. content_of_field all k e) (members_kept out keep ms)
  struct_kept all d ms found = ap (λ r. and_then r (members_at (λ k e. content_of_field all k e))) (object_kept d ∙ ap (below [] (members_kept out keep)) found)

  pub struct_fails : (all : Fields) (d : Data) (f : ReadFault) → ReportsFault f (fault_in (some_or NotAnObject (as_object d))) → ReportsFault f (fault_in (content_of (struct_of all false) (value_kept out keep d)))
  struct_fails all d f h =
      reports-and_then f (some_or NotAnObject (as_object (value_kept out keep d))) (members_at (λ k e. content_of_field all k e))
      (subst (λ r. ReportsFault f (fault_in r)) (sym (object_kept d)) (reports-within f (members_kept out keep) (some_or NotAnObject (as_object d)) h))

  no_object : {P : Type 0} (ms : Members) → None ≡ Some ms → P
  no_object ms e = absurd (true≢false (sym (ap is_some e)))

  pub object_copied : (d : Data) (ms : Members) → as_object d ≡ Some ms → value_kept out keep d ≡ object (members_kept out keep ms)
  object_copied null ms e = no_object ms e
  object_copied (boolean b) ms e = no_object ms e
  object_copied (number n) ms e = no_object ms e
  object_copied (string s) ms e = no_object ms e
  object_copied (array ds) ms e = no_object ms e
  object_copied (object x) ms e = ap (λ ms. object (members_kept out keep ms)) (ap (λ o. unwrap_or o x) e)

  pub other_copied : (d : Data) → as_object d ≡ None → value_kept out keep d ≡ d
  other_copied null e = refl
  other_copied (boolean b) e = refl
  other_copied (number n) e = refl
  other_copied (string s) e = refl
  other_copied (array ds) e = refl
  other_copied (object x) e = absurd (true≢false (ap is_some e))

-- ---- what is copied

module _ (out : List ℕ → Bool) (keep : List ℕ → Data → Data) (all : Members) where
  abbrev pub AreCopiedSoFar : Members → List Entry → Type 0
  AreCopiedSoFar done it = (members_after done (members_kept out keep (members_view it)) ≡ members_kept out keep all) × IsStrictlySortedBy string_cmp (keys_of it) × AreBefore done it

  pub copy_ends : (done : Members) (it : List Entry) → it ≡ [] → AreCopiedSoFar done it → done ≡ members_kept out keep all
  copy_ends done it none so_far = sym (members_after-none done) ∙ ap (λ es. members_after done (members_kept out keep (members_view es))) (sym none) ∙ so_far.0

  module _ (done : Members) (it : List Entry) (e : Entry) (left : List Entry) (steps : it ≡ e ∷ left) (so_far : AreCopiedSoFar done it) (k : List ℕ) (named : k ≡ string_bytes e.0) where
    here : (b : Bool) → out k ≡ b → members_after done (cond b (members_kept out keep (members_view left)) (member k (keep k (view e.1)) (members_kept out keep (members_view left)))) ≡ members_kept out keep all
    here b is =
        ap (λ b. members_after done (cond b (members_kept out keep (members_view left)) (member k (keep k (view e.1)) (members_kept out keep (members_view left))))) (sym is)
        ∙ ap (λ f. members_after done (cond (out f) (members_kept out keep (members_view left)) (member f (keep f (view e.1)) (members_kept out keep (members_view left))))) named
        ∙ sym (ap (λ es. members_after done (members_kept out keep (members_view es))) steps) ∙ so_far.0

    pub copy_passes : out k ≡ true → AreCopiedSoFar done left
    copy_passes is = (here true is, left_sorted it e left steps so_far.1, before_left it e left steps so_far.1 done so_far.2)

    pub copy_adds : out k ≡ false → (new : Members) → new ≡ put k (keep k (view e.1)) done → AreCopiedSoFar new left
    copy_adds is new put_is = (
      ap (λ ms. members_after ms (members_kept out keep (members_view left))) (put_is ∙ put_last done k (keep k (view e.1)) (first_below it e left steps so_far.1 done so_far.2 k named))
          ∙ members_after-after done (member k (keep k (view e.1)) no_members) (members_kept out keep (members_view left)) ∙ here false is,
      left_sorted it e left steps so_far.1,
      before_left_too it e left steps so_far.1 done so_far.2 k (keep k (view e.1)) new named put_is,
    )

pub copy_begins : (out : List ℕ → Bool) (keep : List ℕ → Data → Data) (ns it all : List Entry) → ns ≡ [] → it ≡ all → IsStrictlySortedBy string_cmp (keys_of all) → AreCopiedSoFar out keep (members_view all) (members_view ns) it
copy_begins out keep ns it all none is sorted = (
  ap₂ (λ l m. members_after (members_view l) (members_kept out keep (members_view m))) none is,
  subst (λ es. IsStrictlySortedBy string_cmp (keys_of es)) (sym is) sorted,
  before_all ns it none,
)
