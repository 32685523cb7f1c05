-- Members whose names ascend, one after another.
use Rattle.std.specs.Ordering.{ordering_reverse}
use Rattle.std.specs.Cmp.Lexicographic.{slice_cmp}
use Rattle.std.specs.Str.{bytes_eq}
use Rattle.std.proofs.lemmas.Cmp.{nat_list_cmp_total}
use Rattle.std.proofs.lemmas.Map.Text.{is_eq-slice_cmp}
use Rattle.std.proofs.Common.{is_eq, nat_cmp, ◌≡◌, ℕ, Bool, true, false, cond, List, [], ◌∷◌, Ok, refl, sym, ap, ap₂, subst, ◌∙◌}
use Rattle.serde_json.specs.Data.{Data, Members, no_members, member}
use Rattle.fieldpath.specs.Elements.{name_text}
use Rattle.fieldpath.specs.Scalars.{ascend, ascend_from}
use Rattle.fieldpath.specs.Encodable.{member_names}
use Rattle.fieldpath.proofs.Names.{ascend_rest, first_below, further, rest_above}
use Rattle.pathmap.specs.Contents.{Content, nothing}
use Rattle.pathmap.specs.Insides.{inside}
use Rattle.pathmap.proofs.Heads.{inside-nothing}
use Rattle.typed.specs.declared.fault.ReadFault.{ReadFault}
use Rattle.typed.specs.Faults.{Read, ReportsFault, fault_in}
use Rattle.typed.specs.Reading.{is_null, at_field, joined, members_at, one_member}
use Rattle.typed.specs.Steps.{IsFree}
use Rattle.typed.proofs.Joins.{joined-nothing, joined-none, joined-joined, joined_keeps, reports-after, reports-before}

-- nothing stands below the element of a name that is left
abbrev pub AreFree : Content → List (List ℕ) → Type 0
AreFree c [] = Unit {0}
AreFree c (k ∷ ks) = IsFree (name_text k) c × AreFree c ks

all_free : (ks : List (List ℕ)) → AreFree nothing ks
all_free [] = tt
all_free (k ∷ ks) = (inside-nothing (name_text k), all_free ks)

same_prefix : (f g : List ℕ) → slice_cmp nat_cmp (name_text f) (name_text g) ≡ slice_cmp nat_cmp f g
unfolding name_text
same_prefix f g = refl

still_free : (k : List ℕ) (c d : Content) (ks : List (List ℕ)) → ascend_from k ks ≡ true → ((g : List ℕ) → bytes_eq g (name_text k) ≡ false → inside g d ≡ inside g c) → AreFree c ks → AreFree d ks
still_free k c d [] up others free = tt
still_free k c d (l ∷ ks) up others free =
    let below = first_below k l ks up in
    let apart =
    sym (is_eq-slice_cmp (name_text l) (name_text k)) ∙ ap is_eq (same_prefix l k ∙ nat_list_cmp_total.antisymm l k ∙ ap ordering_reverse below) in
    (others (name_text l) apart ∙ free.0, still_free k c d ks (further k l ks below (rest_above k l ks up)) others free.1)

-- ---- a loop over members, as far as it has come

abbrev pub AreReadTo : (List ℕ → Data → Read Content) → Read Content → Content → Members → Type 0
AreReadTo inner whole c left = (joined (Ok c) (members_at inner left) ≡ whole) × (ascend (member_names left) ≡ true) × AreFree c (member_names left)

pub read_begin : (inner : List ℕ → Data → Read Content) (c : Content) (left all : Members) → c ≡ nothing → left ≡ all → ascend (member_names all) ≡ true → AreReadTo inner (members_at inner all) c left
read_begin inner c left all none is up = (
  ap₂ (λ x m. joined (Ok x) (members_at inner m)) none is ∙ joined-nothing (members_at inner all),
  ap (λ m. ascend (member_names m)) is ∙ up,
  subst (λ x. AreFree x (member_names left)) (sym none) (all_free (member_names left)),
)

pub read_end : (inner : List ℕ → Data → Read Content) (whole : Read Content) (c : Content) (left : Members) → left ≡ no_members → AreReadTo inner whole c left → whole ≡ Ok c
read_end inner whole c left none so_far = sym so_far.0 ∙ ap (λ m. joined (Ok c) (members_at inner m)) none ∙ joined-none c

module _ (inner : List ℕ → Data → Read Content) (whole : Read Content) (c : Content) (left : Members) (k : List ℕ) (d : Data) (more : Members) (steps : left ≡ member k d more) (so_far : AreReadTo inner whole c left) where
  above : ascend_from k (member_names more) ≡ true
  above = subst (λ m. ascend (member_names m) ≡ true) steps so_far.1

  more_ascend : ascend (member_names more) ≡ true
  more_ascend = ascend_rest k (member_names more) above

  free_it : AreFree c (k ∷ member_names more)
  free_it = subst (λ m. AreFree c (member_names m)) steps so_far.2

  next : (b : Bool) → is_null d ≡ b → joined (Ok c) (joined (cond b (Ok nothing) (at_field k (inner k d))) (members_at inner more)) ≡ whole
  next b is = ap (λ b. joined (Ok c) (joined (cond b (Ok nothing) (at_field k (inner k d))) (members_at inner more))) (sym is)
      ∙ sym (ap (λ m. joined (Ok c) (members_at inner m)) steps) ∙ so_far.0

  -- nothing is read of the member
  pub one_skipped : one_member inner k d ≡ Ok nothing → AreReadTo inner whole c more
  one_skipped none = (
    ap (joined (Ok c)) (sym (joined-nothing (members_at inner more)) ∙ ap (λ a. joined a (members_at inner more)) (sym none)) ∙ next (is_null d) refl,
    more_ascend,
    free_it.1,
  )

  pub one_null : is_null d ≡ true → AreReadTo inner whole c more
  one_null null = (ap (joined (Ok c)) (sym (joined-nothing (members_at inner more))) ∙ next true null, more_ascend, free_it.1)

  pub one_free : IsFree (name_text k) c
  one_free = free_it.0

  module _ (has : is_null d ≡ false) where
    pub one_added : (e : Content) → Ok e ≡ joined (Ok c) (at_field k (inner k d)) → AreReadTo inner whole e more
    one_added e adds = (
      ap (λ a. joined a (members_at inner more)) adds ∙ joined-joined (Ok c) (at_field k (inner k d)) (members_at inner more) ∙ next false has,
      more_ascend,
      still_free k c e (member_names more) above (joined_keeps k c e (inner k d) adds) free_it.1,
    )

    pub one_failed : (f : ReadFault) → ReportsFault f (fault_in (at_field k (inner k d))) → ReportsFault f (fault_in whole)
    one_failed f h =
        subst (λ r. ReportsFault f (fault_in r)) (next false has)
        (reports-after f c (joined (at_field k (inner k d)) (members_at inner more)) (reports-before f (at_field k (inner k d)) (members_at inner more) h))
