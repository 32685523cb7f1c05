-- Texts of objects: what they say, and what is printed.
use Rattle.std.proofs.Common.{◌≡◌, ◌≤◌, ℕ, false, List, Option, None, Some, is_some, unwrap_or, refl, sym, ap, ◌∙◌, subst, true≢false}
use Rattle.std.specs.Prelude.{option_and_then, slice_get}
use Rattle.std.proofs.lemmas.Option.{get_or_from_slice_get, slice_get_within}
use Rattle.std.specs.FinMap as fin
use Rattle.std.specs.FinSet as set
use Rattle.serde_json.specs.Written.{has_float}
use Rattle.fieldpath.specs.Paths.{PathTexts, path_cmp}
use Rattle.pathmap.specs.Contents.{Content, PathSet, nothing}
use Rattle.schema.specs.Shape.{Shape}
use Rattle.api_types.specs.TypesFile.{ServedShape}
use Rattle.typed.specs.Fitting.{IsContent}
use Rattle.history.specs.History.{Key}
use Rattle.objects.specs.State.{State}
use Rattle.objects.specs.SystemMetadata.{Stamp, plain_stamp}
use Rattle.objects.specs.WellTyped.{IsWellTypedState}
use Rattle.objects.specs.ObjectText.{Identity, object_text}
use Rattle.objects.specs.Owners.{Manager, Owners, manager_cmp, owned_by}
use Rattle.objects.specs.Parts.{parts_in}
use Rattle.schema.specs.ObjectShape.{IsObjectShape}
use Rattle.objects.specs.ReadBack.{IsCounted, IsObjectText, max_version}
use Rattle.objects.proofs.Back.{parts_back, text_read}
use Rattle.objects.proofs.Taken.{no_some}
use Rattle.objects.proofs.Textual.{value_clean}
use Rattle.verbs.specs.Machine.{AreObjectTypes, identity_of, no_state, state_or_none, system_or_none, decoded_state, decoded_system}
use Rattle.verbs.specs.CachedStateViews.{IsDecodedFrom, IsSystemFrom}
use Rattle.verbs.specs.Step.{object_value_at, text_at, text_stamped}

-- an object's text says the state that it was printed of
pub said_back : (s : Shape) (of : Identity) (stamp : Stamp) (state : State) (text : List ℕ) → IsObjectShape s → IsObjectText s of stamp state text → decoded_state s text ≡ state
unfolding decoded_state
said_back s of stamp state text shaped said =
    ap (λ o. state_or_none (option_and_then (parts_in s) o)) (text_read s of stamp state text shaped said)
    ∙ ap state_or_none (parts_back s of stamp state shaped said.well_typed said.numbered)

-- and what the system said of it
pub said_system : (s : Shape) (of : Identity) (stamp : Stamp) (state : State) (text : List ℕ) → IsObjectShape s → IsObjectText s of stamp state text → decoded_system s text ≡ stamp.system
unfolding decoded_system
said_system s of stamp state text shaped said =
    ap (λ o. system_or_none (option_and_then (parts_in s) o)) (text_read s of stamp state text shaped said)
    ∙ ap system_or_none (parts_back s of stamp state shaped said.well_typed said.numbered)

pub stamped_text_is : (t : ServedShape) (k : Key) (stamp : Stamp) (state : State) → text_stamped t k stamp state ≡ object_text t.shape (identity_of t k) stamp state
unfolding object_text
stamped_text_is t k stamp state = refl

pub stamped_is_text : (t : ServedShape) (k : Key) (stamp : Stamp) (state : State) → IsWellTypedState t.shape state → stamp.version ≤ max_version → IsCounted stamp.system
    → IsObjectText t.shape (identity_of t k) stamp state (text_stamped t k stamp state)
stamped_is_text t k stamp state well_typed low counted = record { well_typed = well_typed; numbered = low; counted = counted; is_text = stamped_text_is t k stamp state }

pub text_is : (t : ServedShape) (k : Key) (revision : ℕ) (state : State) → text_at t k revision state ≡ object_text t.shape (identity_of t k) (plain_stamp revision) state
unfolding object_text
text_is t k revision state = refl

pub printed_is_text : (t : ServedShape) (k : Key) (revision : ℕ) (state : State) → IsWellTypedState t.shape state → revision ≤ max_version
    → IsObjectText t.shape (identity_of t k) (plain_stamp revision) state (text_at t k revision state)
printed_is_text t k revision state well_typed low = record { well_typed = well_typed; numbered = low; counted = tt; is_text = text_is t k revision state }

-- what is printed of a placed state says that state
pub printed_says : (t : ServedShape) (k : Key) (revision : ℕ) (state : State) → IsObjectShape t.shape → IsWellTypedState t.shape state → revision ≤ max_version
    → IsDecodedFrom t (text_at t k revision state) state
printed_says t k revision state shaped well_typed low = (said_back t.shape (identity_of t k) (plain_stamp revision) state (text_at t k revision state) shaped (printed_is_text t k revision state well_typed low), well_typed)

-- .. and that the system says nothing of it
pub printed_system : (t : ServedShape) (k : Key) (revision : ℕ) (state : State) → IsObjectShape t.shape → IsWellTypedState t.shape state → revision ≤ max_version
    → IsSystemFrom t (text_at t k revision state) None
printed_system t k revision state shaped well_typed low = said_system t.shape (identity_of t k) (plain_stamp revision) state (text_at t k revision state) shaped (printed_is_text t k revision state well_typed low)

-- no number in it is a float
pub printed_clean : (t : ServedShape) (k : Key) (revision : ℕ) (state : State) → IsObjectShape t.shape → IsContent t.shape state.content → has_float (object_value_at t k revision state) ≡ false
printed_clean t k revision state shaped content = value_clean t.shape shaped.1 (identity_of t k) (plain_stamp revision) state content

pub nobody_owns : (k : Manager) (p : PathTexts) → set.contains (owned_by fin.empty k) p ≡ false
unfolding owned_by
nobody_owns k p =
    ap (λ (o : Option PathSet). set.contains (unwrap_or o set.empty) p) (fin.get-empty manager_cmp k) ∙ set.contains-empty path_cmp p

-- nothing is a content of each type, owned by nobody
pub nothing_well_typed : (s : Shape) → IsWellTypedState s no_state
nothing_well_typed s = (
  (λ p v there. no_some v (sym there ∙ fin.get-empty path_cmp p), λ p q fits there. absurd (true≢false (sym there ∙ ap is_some (fin.get-empty path_cmp _)))),
  (
    λ m paths there. no_some paths (sym there ∙ fin.get-empty manager_cmp m),
    λ k p owns. absurd (true≢false (sym owns ∙ nobody_owns k p)),
  ),
)

-- each type has the shape of an object
abbrev pub Shapes : List ServedShape → Type 0
Shapes types = (n : ℕ) (t : ServedShape) → slice_get types n ≡ Some t → IsObjectShape t.shape

pub shapes_of : (types : List ServedShape) → AreObjectTypes types → Shapes types
shapes_of types all n t is = subst (λ u. IsObjectShape u.shape) (get_or_from_slice_get types n t t is) (all n t (slice_get_within types n t is))

pub empty_well_typed : (s : Shape) (content : Content) (owners : Owners) → content ≡ nothing → owners ≡ fin.empty → IsWellTypedState s (record { content = content; owners = owners })
empty_well_typed s content owners bare free =
    subst (λ (c : Content). IsWellTypedState s (record { content = c; owners = owners })) (sym bare)
    (subst (λ (w : Owners). IsWellTypedState s (record { content = nothing; owners = w })) (sym free) (nothing_well_typed s))
