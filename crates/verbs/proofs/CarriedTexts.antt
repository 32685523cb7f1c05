-- Texts of objects under the types that take the place of these.
use Rattle.std.proofs.Common.{◌≡◌, ℕ, zero, suc, ◌≤◌, Bool, true, false, true≢false, not, List, [], ◌∷◌, Option, Some, refl, sym, ap, ap₂, ◌∙◌, subst}
use Rattle.std.specs.Prelude.{option_and_then, option_map, slice_get}
use Rattle.std.specs.Str.{bytes_eq}
use Rattle.std.proofs.lemmas.Bool.{and_parts}
use Rattle.std.proofs.lemmas.Slice.Eq.{bytes_eq-Decides}
use Rattle.schema.specs.Becoming.{may_become}
use Rattle.api_types.specs.Retyping.{type_may_become, types_may_become}
use Rattle.api_types.proofs.Marks.{same_profile}
use Rattle.schema.specs.ObjectShape.{IsObjectShape}
use Rattle.schema.specs.Shape.{Shape}
use Rattle.api_types.specs.Profiles.{is_same}
use Rattle.api_types.proofs.StatusStays.{apart_stays}
use Rattle.api_types.specs.Subresources.{is_apart}
use Rattle.api_types.specs.TypesFile.{ServedShape}
use Rattle.api_types.specs.declared.profile.Profile.{Profile}
use Rattle.history.specs.History.{Key, Object, last_revision}
use Rattle.objects.specs.ObjectText.{object_text}
use Rattle.objects.specs.WellTyped.{IsWellTypedState}
use Rattle.objects.specs.ReadBack.{IsCounted, IsObjectText}
use Rattle.objects.specs.State.{State}
use Rattle.objects.specs.SystemMetadata.{Stamp, System, stamped}
use Rattle.objects.proofs.Taken.{no_some, same_some}
use Rattle.ownership.specs.Carry.{Carries, carried_state}
use Rattle.ownership.specs.Sides.{OwnSides}
use Rattle.ownership.proofs.CarriedStates.{carried_carries, carried_same}
use Rattle.verbs.specs.Machine.{IsSomeTextAt, IsTextOf, identity_of, decoded_state, decoded_system}
use Rattle.verbs.specs.Retyping.{carried_text, is_changed, text_unchanged, carried_text_at}
use Rattle.verbs.specs.IsSystem.{IsSystemBy}
use Rattle.verbs.proofs.Said.{said_back, said_system, stamped_is_text, stamped_text_is}
use Rattle.verbs.proofs.Systems.{later_by}

not_false : (b : Bool) → not b ≡ false → b ≡ true
not_false true h = refl
not_false false h = absurd (true≢false h)

-- ---- the type that takes the place of another

pub record IsNewType (next_types : List ServedShape) (n : ℕ) (t : ServedShape) : Type 0 where
  pub u : ServedShape
  pub serves : slice_get next_types n ≡ Some u
  pub may : type_may_become t u ≡ true

pub new_type : (types next_types : List ServedShape) → types_may_become types next_types ≡ true → (n : ℕ) (t : ServedShape) → slice_get types n ≡ Some t → IsNewType next_types n t
new_type [] next_types may n t is = no_some t (sym is)
new_type (x ∷ types) [] may n t is = absurd (true≢false (sym may))
new_type (x ∷ types) (u ∷ next_types) may zero t is =
    record { u = u; serves = refl; may = subst (λ y. type_may_become y u ≡ true) (same_some x t is) (and_parts (type_may_become x u) (types_may_become types next_types) may).0 }
new_type (x ∷ types) (u ∷ next_types) may (suc n) t is =
    let rest = new_type types next_types (and_parts (type_may_become x u) (types_may_become types next_types) may).1 n t is in record { u = rest.u; serves = rest.serves; may = rest.may }

abbrev type_of : (group version kind plural : List ℕ) → Shape → Profile → ServedShape
type_of group version kind plural s profile = record { group = group; version = version; kind = kind; plural = plural; shape = s; profile = profile }

-- it has the same names
module _ (t u : ServedShape) (may : type_may_become t u ≡ true) where
  pub same_names : (s : Shape) → record t { shape = s } ≡ record u { shape = s }
  same_names s =
      let group = and_parts (bytes_eq t.group u.group) _ (and_parts (is_same t.profile u.profile) _ may).1 in
      let version = and_parts (bytes_eq t.version u.version) _ group.1 in
      let kind = and_parts (bytes_eq t.kind u.kind) _ version.1 in
      let plural = and_parts (bytes_eq t.plural u.plural) _ kind.1 in
      ap (type_of t.group t.version t.kind t.plural s) (sym (same_profile t u may))
      ∙ ap₂ (λ g v. type_of g v t.kind t.plural s u.profile) ((bytes_eq-Decides t.group u.group).0 group.0) ((bytes_eq-Decides t.version u.version).0 version.0)
      ∙ ap₂ (λ k p. type_of u.group u.version k p s u.profile) ((bytes_eq-Decides t.kind u.kind).0 kind.0) ((bytes_eq-Decides t.plural u.plural).0 plural.0)

  pub shape_may : may_become t.shape u.shape ≡ true
  shape_may =
      let group = and_parts (bytes_eq t.group u.group) _ (and_parts (is_same t.profile u.profile) _ may).1 in
      let version = and_parts (bytes_eq t.version u.version) _ group.1 in
      let kind = and_parts (bytes_eq t.kind u.kind) _ version.1 in
      (and_parts (bytes_eq t.plural u.plural) _ kind.1).1

-- so a text of some time is still one
pub still_some_text : (types next_types : List ServedShape) → types_may_become types next_types ≡ true → (k : Key) (r : ℕ) (text : List ℕ) → IsSomeTextAt types k r text → IsSomeTextAt next_types k r text
still_some_text types next_types may k r text is =
    let new = new_type types next_types may k.kind is.t is.served in
    record { t = new.u; served = new.serves; shape = is.shape; shaped = is.shaped; is_text = subst (λ x. IsTextOf x k r text) (same_names is.t new.u new.may is.shape) is.is_text }

-- ---- an object's text under its new type

module _ (types next_types : List ServedShape) (k : Key) (o : Object) (t u : ServedShape) (was : slice_get types k.kind ≡ Some t) (now : slice_get next_types k.kind ≡ Some u) (old : IsObjectShape t.shape) (new : IsObjectShape u.shape)
    (may : type_may_become t u ≡ true) (text : IsTextOf t k o.revision o.body) where
  said : decoded_state t.shape o.body ≡ text.state
  said = said_back t.shape _ (stamped o.revision text.system) text.state o.body old text.says

  system_said : decoded_system t.shape o.body ≡ text.system
  system_said = said_system t.shape _ (stamped o.revision text.system) text.state o.body old text.says

  well_typed : IsWellTypedState t.shape (decoded_state t.shape o.body)
  well_typed = subst (IsWellTypedState t.shape) (sym said) text.says.well_typed

  carry : Carries t.shape u.shape (decoded_state t.shape o.body) (carried_state t.shape u.shape (decoded_state t.shape o.body))
  carry = carried_carries t.shape u.shape (decoded_state t.shape o.body) old new (shape_may t u may) well_typed

  pub under : (r : ℕ) → carried_text_at types next_types r k o ≡ Some (carried_text t u r k o)
  under r = ap₂ (λ a b. option_and_then (λ x. option_map (λ y. carried_text x y r k o) b) a) was now

  abbrev new_stamp : ℕ → Stamp
  new_stamp r = stamped r (decoded_system t.shape o.body)

  new_says : (r : ℕ) → r ≤ last_revision → IsObjectText u.shape (identity_of u k) (new_stamp r) (carried_state t.shape u.shape (decoded_state t.shape o.body)) (carried_text t u r k o)
  new_says r low = stamped_is_text u k (new_stamp r) (carried_state t.shape u.shape (decoded_state t.shape o.body)) carry.well_typed low (subst IsCounted (sym system_said) text.says.counted)

  pub new_text : (r : ℕ) → o.revision ≤ r → r ≤ last_revision → IsTextOf u k r (carried_text t u r k o)
  new_text r later low = record {
    state = carried_state t.shape u.shape (decoded_state t.shape o.body);
    system = decoded_system t.shape o.body;
    says = new_says r low;
    is_system =
        later_by u.profile o.revision r (decoded_system t.shape o.body) later
        (subst (λ (p : Profile). IsSystemBy p o.revision (decoded_system t.shape o.body)) (sym (same_profile t u may)) (subst (IsSystemBy t.profile o.revision) (sym system_said) text.is_system));
    sides = carry.sides (is_apart u) (subst (λ x. OwnSides (is_apart u) x) (sym said) (subst (λ b. OwnSides b text.state) (sym (apart_stays t u may)) text.sides));
    named = text.named;
  }

  pub says_carried : (r : ℕ) → r ≤ last_revision → decoded_state u.shape (carried_text t u r k o) ≡ carried_state t.shape u.shape (decoded_state t.shape o.body)
  says_carried r low = said_back u.shape _ (new_stamp r) (carried_state t.shape u.shape (decoded_state t.shape o.body)) (carried_text t u r k o) new (new_says r low)

  -- where the text stays, it is the new one at its revision
  pub text_stays : is_changed types next_types (k, o) ≡ false → carried_text t u o.revision k o ≡ o.body
  text_stays h =
      (bytes_eq-Decides (carried_text t u o.revision k o) o.body).0
      (ap (λ x. text_unchanged x o.body) (sym (under o.revision)) ∙ not_false (text_unchanged (carried_text_at types next_types o.revision k o) o.body) h)

-- under its own type it is the same
pub same_text : (types : List ServedShape) (k : Key) (o : Object) (t : ServedShape) → slice_get types k.kind ≡ Some t → IsObjectShape t.shape → IsTextOf t k o.revision o.body → is_changed types types (k, o) ≡ false
same_text types k o t serves shaped text =
    let state = decoded_state t.shape o.body in
    let stamp = stamped o.revision text.system in
    let said : state ≡ text.state = said_back t.shape _ stamp text.state o.body shaped text.says in
    let system : decoded_system t.shape o.body ≡ text.system = said_system t.shape _ stamp text.state o.body shaped text.says in
    let same : carried_text t t o.revision k o ≡ o.body =
    stamped_text_is t k (stamped o.revision (decoded_system t.shape o.body)) (carried_state t.shape t.shape state)
    ∙ ap₂ (λ (x : Option System) (y : State). object_text t.shape (identity_of t k) (stamped o.revision x) y) system
    (carried_same t.shape state shaped (subst (IsWellTypedState t.shape) (sym said) text.says.well_typed) ∙ said)
    ∙ sym text.says.is_text in
    ap (λ a. not (text_unchanged (option_and_then (λ x. option_map (λ y. carried_text x y o.revision k o) a) a) o.body)) serves ∙ ap not ((bytes_eq-Decides (carried_text t t o.revision k o) o.body).1 same)
