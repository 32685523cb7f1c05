-- A body less its envelope is the body without what is left out, since its members ascend by name.
use Rattle.std.proofs.Common.{◌≡◌, ℕ, Bool, true, false, cond, is_eq, List, Option, Some, None, Ok, Err, Ordering, Less, Equal, Greater, refl, sym, ap, ap₂, subst, ◌∙◌, true≢false}
use Rattle.std.specs.Prelude.{codes, option_and_then, option_map}
use Rattle.std.specs.declared.result.Result.{Result}
use Rattle.std.specs.Ordering.{match_ordering, ordering_reverse}
use Rattle.std.specs.Str.{bytes_eq}
use Rattle.std.proofs.lemmas.Cmp.{nat_list_cmp_total}
use Rattle.std.proofs.lemmas.Map.Text.{is_eq-slice_cmp}
use Rattle.serde_json.specs.Data.{Data, null, boolean, number, string, array, object, Members, no_members, member, put}
use Rattle.serde_json.specs.Find.{as_object, get, get_member}
use Rattle.fieldpath.specs.Scalars.{ascend, ascend_from}
use Rattle.fieldpath.specs.Encodable.{MembersAreEncodable, member_names}
use Rattle.schema.specs.Among.{is_in}
use Rattle.typed.specs.Without.{but, kept, members_kept}
use Rattle.typed.proofs.Plains.{AreBelow, members_after, members_after-after, members_after-none, put_last, still_below}
use Rattle.objects.proofs.Taken.{absent_above, ascend_rest, cmp, first_below, found_encodable, further, no_some, rest_above, same_some, tied}
use Rattle.api_request.specs.declared.call_error.CallError.{CallError}
use Rattle.api_request.specs.declared.call_error.CallError.TheVariants as call_error
use Rattle.api_validation.specs.Envelope.{Envelope, Expected, envelope_of, kind_validated, left_out, members_but, metadata_in, metadata_names, metadata_validated, object_validated, put_metadata, rest_of, top_names, with_others}
use Rattle.api_request.specs.Json.{IsJson}
use Rattle.api_validation.specs.Naming.{annotations_validated, if_there, labels_validated, labels_and_annotations_validated, metadata_object}
use Rattle.api_request.specs.Views.{FailsWith, Returns}
use Rattle.api_validation.specs.Views.{envelope_seen, envelope_with, metadata_there, rest_seen}
use Rattle.api_request.specs.Validated.{Validated, and_then}
use Rattle.api_request.proofs.Checks.{no_err, ok_is}

-- ---- members left out, one put after the other

-- a name is above each of these
abbrev AreAbove : List ℕ → Members → Type 0
AreAbove k no_members = Unit {0}
AreAbove k (member l d ms) = (cmp l k ≡ Greater) × AreAbove k ms

over_prefix : (k l : List ℕ) → cmp k l ≡ Less → cmp l k ≡ Greater
over_prefix k l lt = nat_list_cmp_total.antisymm l k ∙ ap ordering_reverse lt

all_above : (k : List ℕ) (ms : Members) → ascend_from k (member_names ms) ≡ true → AreAbove k ms
all_above k no_members up = tt
all_above k (member l d ms) up =
    let lt = first_below k l (member_names ms) up in
    (over_prefix k l lt, all_above k ms (further k l (member_names ms) lt (rest_above k l (member_names ms) up)))

-- these are below each that is left
abbrev AreBefore : Members → Members → Type 0
AreBefore done no_members = Unit {0}
AreBefore done (member k d ms) = AreBelow done k × AreBefore done ms

before_too : (done : Members) (k : List ℕ) (d : Data) (ms : Members) → AreAbove k ms → AreBefore done ms → AreBefore (members_after done (member k d no_members)) ms
before_too done k d no_members above before = tt
before_too done k d (member l e ms) above before = (still_below done k l d before.0 above.0, before_too done k d ms above.1 before.1)

others_are : (names : List (List ℕ)) (ms done : Members) → ascend (member_names ms) ≡ true → AreBefore done ms → with_others names ms done ≡ members_after done (members_kept (is_in names) (λ k d. d) ms)
others_are names no_members done up before = sym (members_after-none done)
others_are names (member k d ms) done up before =
    by_test (is_in names k) (members_kept (is_in names) (λ k d. d) ms) (λ so_far. others_are names ms so_far (ascend_rest k (member_names ms) up))
  where
    by_test : (b : Bool) (rest : Members) → ((so_far : Members) → AreBefore so_far ms → with_others names ms so_far ≡ members_after so_far rest)
        → with_others names ms (cond b done (put k d done)) ≡ members_after done (cond b rest (member k d rest))
    by_test true rest later = later done before.1
    by_test false rest later =
        ap (with_others names ms) (put_last done k d before.0)
        ∙ later (members_after done (member k d no_members)) (before_too done k d ms (all_above k ms up) before.1)
        ∙ members_after-after done (member k d no_members) rest

before_all : (ms : Members) → AreBefore no_members ms
before_all no_members = tt
before_all (member k d ms) = (tt, before_all ms)

left_are : (names : List (List ℕ)) (ms : Members) → ascend (member_names ms) ≡ true → members_but names ms ≡ members_kept (is_in names) (λ k d. d) ms
left_are names ms up = others_are names ms no_members up (before_all ms)

-- ---- one member's value changed

-- the value of the member k changed by f
abbrev value_at : List ℕ → (Data → Data) → List ℕ → Data → Data
value_at k f l d = cond (bytes_eq l k) (f d) d

named_by : (k l : List ℕ) (o : Ordering) → cmp k l ≡ o → bytes_eq l k ≡ is_eq (ordering_reverse o)
named_by k l o is = sym (is_eq-slice_cmp l k) ∙ ap is_eq (nat_list_cmp_total.antisymm l k ∙ ap ordering_reverse is)

module _ (names : List (List ℕ)) (k : List ℕ) (f : Data → Data) where
  abbrev left : Members → Members
  left = members_kept (is_in names) (λ k d. d)

  abbrev changed : Members → Members
  changed = members_kept (is_in names) (value_at k f)

  -- none of these is k
  untouched : (ms : Members) → AreAbove k ms → changed ms ≡ left ms
  untouched no_members above = refl
  untouched (member l e ms) above =
      ap₂ (λ x more. cond (is_in names l) more (member l x more))
      (ap (λ b. cond b (f e) e) (sym (is_eq-slice_cmp l k) ∙ ap is_eq above.0)) (untouched ms above.1)

  at_other : (l : List ℕ) (e : Data) (o : Ordering) → cmp k l ≡ o → is_eq (ordering_reverse o) ≡ false → value_at k f l e ≡ e
  at_other l e o is other = ap (λ b. cond b (f e) e) (named_by k l o is ∙ other)

  at_same : (l : List ℕ) (e : Data) → cmp k l ≡ Equal → value_at k f l e ≡ f e
  at_same l e is = ap (λ b. cond b (f e) e) (named_by k l Equal is)

  -- where it changes nothing
  pub unchanged : (ms : Members) → ascend (member_names ms) ≡ true → ((d : Data) → get_member k ms ≡ Some d → f d ≡ d) → changed ms ≡ left ms
  unchanged no_members up same = refl
  unchanged (member l e ms) up same = by_order (cmp k l) refl same (unchanged ms (ascend_rest l (member_names ms) up))
    where
      with_value : (x : Data) → value_at k f l e ≡ x → changed ms ≡ left ms → changed (member l e ms) ≡ cond (is_in names l) (left ms) (member l x (left ms))
      with_value x is later = ap₂ (λ y more. cond (is_in names l) more (member l y more)) is later

      by_order : (o : Ordering) → cmp k l ≡ o → ((d : Data) → match_ordering o (get_member k ms) (Some e) (get_member k ms) ≡ Some d → f d ≡ d)
          → (((d : Data) → get_member k ms ≡ Some d → f d ≡ d) → changed ms ≡ left ms) → changed (member l e ms) ≡ left (member l e ms)
      by_order Less is same later = with_value e (at_other l e Less is refl) (later same)
      by_order Equal is same later =
          with_value e (at_same l e is ∙ same e refl) (untouched ms (all_above k ms (subst (λ n. ascend_from n (member_names ms) ≡ true) (sym (tied k l is)) up)))
      by_order Greater is same later = with_value e (at_other l e Greater is refl) (later same)

  -- the changed value is put in its member's place
  pub put_changed : (ms : Members) (d : Data) → ascend (member_names ms) ≡ true → is_in names k ≡ false → get_member k ms ≡ Some d → put k (f d) (left ms) ≡ changed ms
  put_changed no_members d up kept there = no_some d (sym there)
  put_changed (member l e ms) d up kept there = by_order (cmp k l) refl there (put_changed ms d (ascend_rest l (member_names ms) up) kept)
    where
      put_here : (o : Ordering) → cmp k l ≡ o → (more : Members) → put k (f d) (member l e more) ≡ match_ordering o (member k (f d) (member l e more)) (member l (f d) more) (member l e (put k (f d) more))
      put_here o is more = ap (λ o. match_ordering o (member k (f d) (member l e more)) (member l (f d) more) (member l e (put k (f d) more))) is

      by_test : (b : Bool) → cmp k l ≡ Greater → put k (f d) (left ms) ≡ changed ms → put k (f d) (cond b (left ms) (member l e (left ms))) ≡ cond b (changed ms) (member l (value_at k f l e) (changed ms))
      by_test true is later = later
      by_test false is later = put_here Greater is (left ms) ∙ ap₂ (member l) (sym (at_other l e Greater is refl)) later

      by_order : (o : Ordering) → cmp k l ≡ o → match_ordering o (get_member k ms) (Some e) (get_member k ms) ≡ Some d → (get_member k ms ≡ Some d → put k (f d) (left ms) ≡ changed ms)
          → put k (f d) (left (member l e ms)) ≡ changed (member l e ms)
      by_order Less is found later = no_some d (sym found ∙ absent_above k l ms is up)
      by_order Equal is found later =
          let out : is_in names l ≡ false = ap (is_in names) (sym (tied k l is)) ∙ kept in
          let more = untouched ms (all_above k ms (subst (λ n. ascend_from n (member_names ms) ≡ true) (sym (tied k l is)) up)) in
          ap (λ b. put k (f d) (cond b (left ms) (member l e (left ms)))) out ∙ put_here Equal is (left ms)
          ∙ ap₂ (member l) (ap f (sym (same_some e d found)) ∙ sym (at_same l e is)) (sym more)
          ∙ ap (λ b. cond b (changed ms) (member l (value_at k f l e) (changed ms))) (sym out)
      by_order Greater is found later = by_test (is_in names l) is (later found)

-- ---- the body less its envelope

abbrev metadata_left : Data → Data
metadata_left = but metadata_names

abbrev metadata_name : List ℕ
metadata_name = codes "metadata"

rest_by : (top : Members) (found : Option Data) → get_member metadata_name top ≡ found → ascend (member_names top) ≡ true → MembersAreEncodable top
    → put_metadata (option_and_then as_object found) (members_but top_names top) ≡ members_kept (is_in top_names) (value_at metadata_name metadata_left) top
rest_by top found is up encodable = by_value found is
  where
    as_left : ((d : Data) → get_member metadata_name top ≡ Some d → metadata_left d ≡ d) → members_but top_names top ≡ members_kept (is_in top_names) (value_at metadata_name metadata_left) top
    as_left same = left_are top_names top up ∙ sym (unchanged top_names metadata_name metadata_left top up same)

    stays : (x : Data) → get_member metadata_name top ≡ Some x → metadata_left x ≡ x → (d : Data) → get_member metadata_name top ≡ Some d → metadata_left d ≡ d
    stays x there same d found = subst (λ y. metadata_left y ≡ y) (same_some x d (sym there ∙ found)) same

    by_value : (found : Option Data) → get_member metadata_name top ≡ found → put_metadata (option_and_then as_object found) (members_but top_names top) ≡ members_kept (is_in top_names) (value_at metadata_name metadata_left) top
    by_value None is = as_left (λ d found. no_some d (sym found ∙ is))
    by_value (Some null) is = as_left (stays null is refl)
    by_value (Some (boolean b)) is = as_left (stays (boolean b) is refl)
    by_value (Some (number n)) is = as_left (stays (number n) is refl)
    by_value (Some (string s)) is = as_left (stays (string s) is refl)
    by_value (Some (array ds)) is = as_left (stays (array ds) is refl)
    by_value (Some (object ms)) is =
        ap₂ (λ x more. put metadata_name (object x) more) (left_are metadata_names ms (found_encodable metadata_name (object ms) top encodable is).0) (left_are top_names top up)
        ∙ put_changed top_names metadata_name metadata_left top (object ms) up refl is

pub rest_is : (top : Members) → IsJson (object top) → rest_of top (metadata_there top) ≡ rest_seen (object top)
rest_is top json = ap object (rest_by top (get_member metadata_name top) refl json.0.0 json.0.1)

-- ---- the envelope

pub metadata_is : (found : Option Data) (metadata : Option Members) → metadata_in found ≡ Ok metadata → metadata ≡ option_and_then as_object found
metadata_is None metadata e = sym (ok_is None metadata e)
metadata_is (Some null) metadata e = sym (ok_is None metadata e)
metadata_is (Some (boolean b)) metadata e = no_err _ metadata e
metadata_is (Some (number n)) metadata e = no_err _ metadata e
metadata_is (Some (string s)) metadata e = no_err _ metadata e
metadata_is (Some (array ds)) metadata e = no_err _ metadata e
metadata_is (Some (object ms)) metadata e = sym (ok_is (Some ms) metadata e)

seen_so : {X Y : Type 0} (see other : X → Y) (r : Result X CallError) (validated : Validated Y) → ((x : X) → see x ≡ other x) → Returns see r validated → Returns other r validated
seen_so see other (Ok x) validated same h = h ∙ ap Ok (same x)
seen_so see other (Err e) validated same h = h

abbrev with_rest : Option ℕ → Data → Envelope
with_rest version rest = record { version = version; rest = rest }

-- by the members of a body that is an object
pub object_seen : (of : Expected) (body : Data) (top : Members) (r : Result (Option ℕ) CallError) → body ≡ object top → IsJson body
    → Returns (envelope_with top (metadata_there top)) r (object_validated of (Some top)) → Returns (envelope_seen body) r (envelope_of of body)
object_seen of body top r is json h =
    subst (λ d. Returns (envelope_seen d) r (envelope_of of d)) (sym is)
    (seen_so (envelope_with top (metadata_there top)) (envelope_seen (object top)) r (object_validated of (Some top))
    (λ version. ap (with_rest version) (rest_is top (subst IsJson is json))) h)

pub object_by : (of : Expected) (top : Members) (metadata : Option Members) (u : Unit {0}) (r : Result (Option ℕ) CallError) → kind_validated of.served top ≡ Ok u → metadata_in (get_member metadata_name top) ≡ Ok metadata
    → Returns (envelope_with top metadata) r (metadata_validated of top metadata) → Returns (envelope_with top (metadata_there top)) r (object_validated of (Some top))
object_by of top metadata u r kind there h =
    subst (Returns (envelope_with top (metadata_there top)) r)
    (sym (ap (λ j. and_then j (λ u. and_then (metadata_in (get_member metadata_name top)) (metadata_validated of top))) kind ∙ ap (λ j. and_then j (metadata_validated of top)) there))
    (subst (λ x. Returns (envelope_with top x) r (metadata_validated of top metadata)) (metadata_is (get_member metadata_name top) metadata there) h)

-- ---- labels and annotations

get_kept : (out : List ℕ → Bool) (keep : List ℕ → Data → Data) (k : List ℕ) (ms : Members) → out k ≡ false → get_member k (members_kept out keep ms) ≡ option_map (keep k) (get_member k ms)
get_kept out keep k no_members in_place = refl
get_kept out keep k (member l e ms) in_place = by_order (cmp k l) refl (out l) refl (members_kept out keep ms) (get_kept out keep k ms in_place)
  where
    here : (o : Ordering) → cmp k l ≡ o → (more : Members) → get_member k (member l (keep l e) more) ≡ match_ordering o (get_member k more) (Some (keep l e)) (get_member k more)
    here o is more = ap (λ o. match_ordering o (get_member k more) (Some (keep l e)) (get_member k more)) is

    by_order : (o : Ordering) → cmp k l ≡ o → (b : Bool) → out l ≡ b → (more : Members) → get_member k more ≡ option_map (keep k) (get_member k ms)
        → get_member k (cond b more (member l (keep l e) more)) ≡ option_map (keep k) (match_ordering o (get_member k ms) (Some e) (get_member k ms))
    by_order Less is true gone more later = later
    by_order Less is false gone more later = here Less is more ∙ later
    by_order Equal is true gone more later = absurd (true≢false (sym gone ∙ ap out (sym (tied k l is)) ∙ in_place))
    by_order Equal is false gone more later = here Equal is more ∙ ap (λ n. Some (keep n e)) (sym (tied k l is))
    by_order Greater is true gone more later = later
    by_order Greater is false gone more later = here Greater is more ∙ later

as_it_is : (o : Option Data) → option_map (λ d. d) o ≡ o
as_it_is None = refl
as_it_is (Some d) = refl

get_but : (names : List (List ℕ)) (k : List ℕ) (d : Data) → is_in names k ≡ false → get k (but names d) ≡ get k d
get_but names k null other = refl
get_but names k (boolean b) other = refl
get_but names k (number n) other = refl
get_but names k (string s) other = refl
get_but names k (array ds) other = refl
get_but names k (object ms) other = get_kept (is_in names) (λ k d. d) k ms other ∙ as_it_is (get_member k ms)

get_metadata : (body : Data) → get metadata_name (rest_seen body) ≡ option_map metadata_left (get metadata_name body)
get_metadata null = refl
get_metadata (boolean b) = refl
get_metadata (number n) = refl
get_metadata (string s) = refl
get_metadata (array ds) = refl
get_metadata (object ms) = get_kept (is_in top_names) (kept left_out) metadata_name ms refl

-- what is no part of the envelope stays in `metadata`
mark_stays : (k : List ℕ) (body : Data) → is_in metadata_names k ≡ false → metadata_object k (rest_seen body) ≡ metadata_object k body
mark_stays k body other = ap (λ o. option_and_then as_object (option_and_then (get k) o)) (get_metadata body) ∙ ap (option_and_then as_object) (by_value (get metadata_name body))
  where
    by_value : (o : Option Data) → option_and_then (get k) (option_map metadata_left o) ≡ option_and_then (get k) o
    by_value None = refl
    by_value (Some d) = get_but metadata_names k d other

pub marks_stay : (body : Data) → labels_and_annotations_validated (rest_seen body) ≡ labels_and_annotations_validated body
marks_stay body =
    ap₂ (λ l a. and_then (if_there labels_validated l) (λ u. if_there annotations_validated a))
    (mark_stays (codes "labels") body refl) (mark_stays (codes "annotations") body refl)

fails_then : {X Y : Type 0} (f : CallError) (j : Validated X) (g : X → Validated Y) → FailsWith f j → FailsWith f (and_then j g)
fails_then call_error.Memory j g h = tt
fails_then (call_error.Refused d) j g h = ap (λ j. and_then j g) h

-- a refusal of labels, as `?` hands it on
pub marks_fail : (body : Data) (r : Result (Unit {0}) CallError) (e f : CallError) → r ≡ Err e → e ≡ f → FailsWith f (if_there labels_validated (metadata_object (codes "labels") body)) → Returns (λ u. u) r (labels_and_annotations_validated (rest_seen body))
marks_fail body r e f is same h =
    subst (Returns (λ u. u) r) (sym (marks_stay body))
    (subst (λ s. Returns (λ u. u) s (labels_and_annotations_validated body)) (sym is)
    (subst (λ x. FailsWith x (labels_and_annotations_validated body)) (sym same) (fails_then f _ (λ u. if_there annotations_validated (metadata_object (codes "annotations") body)) h)))
