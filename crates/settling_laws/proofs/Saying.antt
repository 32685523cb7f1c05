-- What an object says after an apply of counts.
use Rattle.std.proofs.Common.{◌≡◌, ℕ, Bool, true, false, cond, List, Option, Some, None, is_some, inl, inr, ◌⊎◌, refl, sym, ap, ◌∙◌, subst, true≢false}
use Rattle.std.specs.FinMap as fin
use Rattle.std.specs.FinSet as set
use Rattle.std.specs.Prelude.{codes, option_map}
use Rattle.serde_json.specs.Data.{member, no_members, object}
use Rattle.fieldpath.specs.Elements.{name_text}
use Rattle.fieldpath.specs.Paths.{PathTexts}
use Rattle.pathmap.specs.Beside.{changed, has_at_or_above}
use Rattle.pathmap.specs.Contents.{Content, LeafValue, dom, text}
use Rattle.pathmap.proofs.Contents.{path_cmp_total, either}
use Rattle.pathmap.proofs.Sets.{contains-dom}
use Rattle.schema.specs.Place.{place_of}
use Rattle.typed.specs.Fitting.{IsContent}
use Rattle.typed.proofs.Fitting.{contents_well_typed}
use Rattle.typed.proofs.Keeping.{reading_content}
use Rattle.typed.proofs.Places.{places}
use Rattle.api_types.specs.Subresources.{is_apart}
use Rattle.objects.specs.declared.manager.Subresource.TheVariants.{Main}
use Rattle.objects.specs.Owners.{Manager, is_same, owned_by}
use Rattle.objects.specs.State.{State}
use Rattle.objects.specs.WellTyped.{IsPresent, IsWellTypedState, Owns}
use Rattle.objects.proofs.Taking.{owned_mine, owned_other}
use Rattle.objects.proofs.Within.{left_true, same_manager-is, same_manager-itself}
use Rattle.ownership.specs.Apply.{applied, dropped}
use Rattle.ownership.specs.Keeping.{HasPlaces, StoodUnowned, is_end}
use Rattle.ownership.proofs.Keeping.{again, stays_body}
use Rattle.ownership.proofs.Leaves.{after-is, leaves_owned}
use Rattle.ownership.proofs.Sides.{own_content}
use Rattle.summary.specs.Apply.{spec_of}
use Rattle.summary.specs.Counts.{Summed}
use Rattle.settling_laws.specs.Said.{AppliedStay, CountsAreOwn, IsSayable, IsShared, Says, SaysExactly, applied_fields, count_path, count_value, counted_at, label_path, label_summary, total_path, with_counts}
use Rattle.settling_laws.specs.SummaryType.{summary_shape, summary_type}
use Rattle.settling_laws.proofs.Encoded.{fields_encodable, fields_shallow}
use Rattle.settling_laws.proofs.Fields.{applied_is, field_count, field_label, field_total, fields, fields_read}

-- ---- the fields are a content of the type

has_places : (c : Content) → IsContent summary_shape c → HasPlaces summary_shape c
has_places c content = places summary_shape c ((contents_well_typed summary_shape c refl).0 content)

pub fields_content : (s : Summed) → IsSayable s → IsContent summary_shape (applied_fields s)
fields_content s is =
    subst (IsContent summary_shape) (sym (applied_is s is))
    (own_content (is_apart summary_type) Main summary_shape (fields s) (reading_content summary_shape (object (member (codes "spec") (spec_of s) no_members)) (fields s) refl (fields_encodable s is) (fields_shallow s is) (fields_read s is)))

-- a count is a leaf
count_end : (value : List ℕ) → is_end (place_of summary_shape (count_path value)) ≡ true
unfolding name_text
count_end value = refl

-- ---- what it says

module _ (s : Summed) (old : State) (is : IsSayable s) where
  abbrev m : Manager
  m = label_summary

  abbrev body : Content
  body = applied_fields s

  abbrev new : State
  new = with_counts s old

  -- what is applied stands
  stands : (p : PathTexts) (v : LeafValue) → fin.get body p ≡ Some v → fin.get new.content p ≡ Some v
  stands p v there = stays_body old body m p (ap is_some there) ∙ there

  -- and is the controller's
  mine : (p : PathTexts) (b : Bool) → is_some (fin.get body p) ≡ b → set.contains (owned_by new.owners m) p ≡ b
  unfolding applied
  mine p b there = ap (λ x. set.contains x p) (owned_mine old.owners m (changed body old.content) (dom body)) ∙ contains-dom body p ∙ there

  -- what another manager owns it owned
  was_owned : (k : Manager) (p : PathTexts) → is_same m k ≡ false → Owns new k p → Owns old k p
  unfolding applied
  was_owned k p other owns =
      left_true (set.contains (owned_by old.owners k) p) _
      (sym (set.contains-difference path_cmp_total (owned_by old.owners k) (changed body old.content) p)
      ∙ ap (λ x. set.contains x p) (sym (owned_other old.owners m (changed body old.content) (dom body) k other)) ∙ owns)

  apart : (k : Manager) → is_same m k ≡ false → ¬ (k ≡ m)
  apart k other same = true≢false (sym (same_manager-itself m) ∙ ap (is_same m) (sym same) ∙ other)

  module _ (well_typed : IsWellTypedState summary_shape old) (value : List ℕ) (none : fin.get s.counts value ≡ None) where
    abbrev p : PathTexts
    p = count_path value

    absent : fin.get body p ≡ None
    absent = field_count s is value ∙ ap (option_map count_value) none

    after : fin.get new.content p ≡ cond (has_at_or_above (dropped old body m) p) None (fin.get old.content p)
    after = after-is old body m p ∙ ap (λ o. cond (has_at_or_above (dropped old body m) p) None (either o (fin.get old.content p))) absent

    was : (b : Bool) (o : Option LeafValue) → is_some (cond b None o) ≡ true → cond b None o ≡ o
    was true o there = absurd (true≢false (sym there))
    was false o there = refl

    stayed : IsPresent new.content p → fin.get new.content p ≡ fin.get old.content p
    stayed there = after ∙ was (has_at_or_above (dropped old body m) p) (fin.get old.content p) (sym (ap is_some after) ∙ there)

    owned_before : IsPresent new.content p → (k : Manager) (b : Bool) → is_same m k ≡ b → Owns new k p → IsShared old p
    owned_before there k true same owns = absurd (true≢false (sym (ap (λ x. set.contains (owned_by new.owners x) p) (same_manager-is m k same) ∙ owns) ∙ mine p false (ap is_some absent)))
    owned_before there k false other owns = (ap is_some (sym (stayed there)) ∙ there, inl (k, apart k other, was_owned k p other owns))

    by_owner : IsPresent new.content p → ((k : Manager) × Owns new k p) ⊎ StoodUnowned old new p → IsShared old p
    by_owner there (inl (k, owns)) = owned_before there k (is_same m k) refl owns
    by_owner there (inr stood) = (ap is_some (sym (stayed there)) ∙ there, inr (stood.1 m))

    uncounted : (o : Option LeafValue) → fin.get new.content p ≡ o → (fin.get new.content p ≡ None) ⊎ (IsShared old p × (fin.get new.content p ≡ fin.get old.content p))
    uncounted None at = inl at
    uncounted (Some v) at =
        let there : IsPresent new.content p = ap is_some at in
        inr (
          by_owner there (leaves_owned old body m summary_shape (has_places old.content well_typed.0) (has_places body (fields_content s is)) well_typed.1.1 p there (count_end value)),
          stayed there,
        )

  pub says : IsWellTypedState summary_shape old → Says s old new
  says well_typed = record {
    label = stands label_path (text s.label) (field_label s is);
    total = stands total_path (count_value s.total) (field_total s is);
    counted = λ value n there. stands (count_path value) (count_value n) (field_count s is value ∙ ap (option_map count_value) there);
    uncounted = λ value none. uncounted well_typed value none (fin.get new.content (count_path value)) refl;
  }

  -- ---- where the counts are the controller's alone

  module _ (well_typed : IsWellTypedState summary_shape old) (own : CountsAreOwn old) where
    unshared : (value : List ℕ) → IsShared old (count_path value) → ⊥
    unshared value (there, inl (k, other, owns)) = other ((own value there).1 k owns)
    unshared value (there, inr free) = free (own value there).0

    exact_by : (value : List ℕ) (o : Option ℕ) → fin.get s.counts value ≡ o → fin.get new.content (count_path value) ≡ option_map count_value o
    exact_by value (Some n) there = (says well_typed).counted value n there
    exact_by value None none = by_sharing ((says well_typed).uncounted value none)
      where
        by_sharing : (fin.get new.content (count_path value) ≡ None) ⊎ (IsShared old (count_path value) × (fin.get new.content (count_path value) ≡ fin.get old.content (count_path value)))
            → fin.get new.content (count_path value) ≡ None
        by_sharing (inl at) = at
        by_sharing (inr shared) = absurd (unshared value shared.0)

    exact : (value : List ℕ) → fin.get new.content (count_path value) ≡ counted_at s value
    exact value = exact_by value (fin.get s.counts value) refl

    owner_is : (value : List ℕ) (k : Manager) (b : Bool) → is_same m k ≡ b → Owns new k (count_path value) → k ≡ m
    owner_is value k true same owns = sym (same_manager-is m k same)
    owner_is value k false other owns =
        let was = was_owned k (count_path value) other owns in
        (own value (well_typed.1.1 k (count_path value) was)).1 k was

    pub own_exact : SaysExactly s new × CountsAreOwn new
    own_exact = (
      record { label = (says well_typed).label; total = (says well_typed).total; counts = exact },
      λ value there. (
        mine (count_path value) true (ap is_some (field_count s is value ∙ sym (exact value)) ∙ there),
        λ k owns. owner_is value k (is_same m k) refl owns,
      ),
    )

pub applied_stay : AppliedStay
applied_stay s old = (again old (applied_fields s) label_summary).1
