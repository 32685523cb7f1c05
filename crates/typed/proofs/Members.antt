-- Members of an object, one after another.
use Rattle.std.specs.List.Sorted.{IsStrictlySortedBy}
use Rattle.std.specs.Map.{keys_of}
use Rattle.std.specs.Str.{bytes_eq}
use Rattle.std.proofs.Common.{string_cmp, ◌≡◌, ℕ, ◌+◌, ◌<◌, true, false, cond, List, [], ◌∷◌, map, length, drop, get_or, drop-cons, add-one, Ok, String, Global, string_bytes, refl, sym, ap, ◌∙◌}
use Rattle.serde_json.specs.Data.{Data, member}
use Rattle.serde_json.specs.View.{view, members_view}
use Rattle.fieldpath.specs.Elements.{name_text}
use Rattle.fieldpath.specs.Scalars.{ascend}
use Rattle.fieldpath.specs.Encodable.{member_names}
use Rattle.fieldpath.proofs.KeyFields.{ascend_keys}
use Rattle.pathmap.specs.Contents.{Content, nothing}
use Rattle.schema.specs.Shape.{shape, fields_in}
use Rattle.schema.specs.declared.schema.Schema.{Schema}
use Rattle.typed.specs.declared.fault.ReadFault.{ReadFault}
use Rattle.typed.specs.Faults.{Read, ReportsFault, fault_in}
use Rattle.typed.specs.Reading.{is_null, at_field, joined, members_at, one_member, content_of, content_of_field}
use Rattle.typed.specs.Steps.{IsFree}
use Rattle.typed.proofs.Ascending.{AreReadTo, one_added, one_failed, one_free, one_null, one_skipped, read_begin, read_end}
use Rattle.typed.proofs.Plains.{Entry}

members_names : (es : List Entry) → member_names (members_view es) ≡ map (λ e. string_bytes e.0) es
members_names [] = refl
members_names (e ∷ es) = ap (λ ns. string_bytes e.0 ∷ ns) (members_names es)

-- ---- a loop over the members of a map, as far as it has come

abbrev pub AreMembersSoFar : (List ℕ → Data → Read Content) → Read Content → Content → List Entry → Type 0
AreMembersSoFar inner whole c it = AreReadTo inner whole c (members_view it)

pub members_begin : (inner : List ℕ → Data → Read Content) (c : Content) (it all : List Entry) → c ≡ nothing → it ≡ all → IsStrictlySortedBy string_cmp (keys_of all) → AreMembersSoFar inner (members_at inner (members_view all)) c it
members_begin inner c it all none is sorted = read_begin inner c (members_view it) (members_view all) none (ap members_view is) (ap ascend (members_names all) ∙ ascend_keys all sorted)

pub members_end : (inner : List ℕ → Data → Read Content) (whole : Read Content) (c : Content) (it : List Entry) → it ≡ [] → AreMembersSoFar inner whole c it → whole ≡ Ok c
members_end inner whole c it none so_far = read_end inner whole c (members_view it) (ap members_view none) so_far

module _ (inner : List ℕ → Data → Read Content) (whole : Read Content) (c : Content) (it : List Entry) (e : Entry) (left : List Entry) (steps : it ≡ e ∷ left) (so_far : AreMembersSoFar inner whole c it) where
  -- nothing is read of the member
  pub member_skipped : one_member inner (string_bytes e.0) (view e.1) ≡ Ok nothing → AreMembersSoFar inner whole c left
  member_skipped none = one_skipped inner whole c (members_view it) (string_bytes e.0) (view e.1) (members_view left) (ap members_view steps) so_far none

  pub member_null : is_null (view e.1) ≡ true → AreMembersSoFar inner whole c left
  member_null null = one_null inner whole c (members_view it) (string_bytes e.0) (view e.1) (members_view left) (ap members_view steps) so_far null

  module _ (k : List ℕ) (named : k ≡ string_bytes e.0) where
    there : members_view it ≡ member k (view e.1) (members_view left)
    there = ap members_view steps ∙ ap (λ f. member f (view e.1) (members_view left)) (sym named)

    pub member_new : IsFree (name_text k) c
    member_new = one_free inner whole c (members_view it) k (view e.1) (members_view left) there so_far

    module _ (has : is_null (view e.1) ≡ false) where
      pub member_added : (d : Content) → Ok d ≡ joined (Ok c) (at_field k (inner k (view e.1))) → AreMembersSoFar inner whole d left
      member_added = one_added inner whole c (members_view it) k (view e.1) (members_view left) there so_far has

      pub member_failed : (f : ReadFault) → ReportsFault f (fault_in (at_field k (inner k (view e.1)))) → ReportsFault f (fault_in whole)
      member_failed = one_failed inner whole c (members_view it) k (view e.1) (members_view left) there so_far has

-- ---- fields

one_field : (f : List ℕ) (d : Data) (fs : List (String Global × Schema)) (i : ℕ) (x : String Global × Schema) → i < length fs
    → content_of_field (fields_in (drop i fs)) f d ≡ cond (bytes_eq (string_bytes (get_or fs i x).0) f) (content_of (shape (get_or fs i x).1) d) (content_of_field (fields_in (drop (i + 1) fs)) f d)
one_field f d fs i x lt = rw add-one (ap (λ l. content_of_field (fields_in l) f d) (drop-cons fs i x lt))

module _ (f : List ℕ) (d : Data) (fs : List (String Global × Schema)) (i : ℕ) (x : String Global × Schema) (lt : i < length fs) (is : x ≡ get_or fs i x) where
  pub field_here : bytes_eq (string_bytes x.0) f ≡ true → content_of_field (fields_in (drop i fs)) f d ≡ content_of (shape x.1) d
  field_here same = one_field f d fs i x lt ∙ rw (sym is, same) refl

  pub field_further : bytes_eq (string_bytes x.0) f ≡ false → content_of_field (fields_in (drop i fs)) f d ≡ content_of_field (fields_in (drop (i + 1) fs)) f d
  field_further other = one_field f d fs i x lt ∙ rw (sym is, other) refl
