-- A Status with causes, and details with them.
use Rattle.std.proofs.Common.{◌≡◌, ◌||◌, ℕ, Bool, false, List, [], ◌∷◌, Option, Some, None, length, ◌==◌, refl, ap, true≢false, codes}
use Rattle.serde_json.specs.Data.{Items, no_items, item, Members, array, object, put}
use Rattle.serde_json.specs.View.{items_view}
use Rattle.serde_json.specs.declared.value.Value.{Value}
use Rattle.serde_json.specs.Written.{has_float, items_have_float}
use Rattle.api_request.specs.declared.reason.Reason.{Reason}
use Rattle.api_request.specs.Details.{About, put_causes_in}
use Rattle.api_request.specs.Status.{CallRefusal, call_refusal_value, put_causes, status_members, with_causes, with_details}

pub some_causes : (vs : List Value) (ms : Members) → (length vs == 0) ≡ false → put_causes (items_view vs) ms ≡ with_causes (items_view vs) ms
some_causes [] ms e = absurd (true≢false e)
some_causes (v ∷ vs) ms e = refl

pub some_causes_in : (vs : List Value) (ms : Members) → (length vs == 0) ≡ false → put (codes "causes") (array (items_view vs)) ms ≡ put_causes_in (items_view vs) ms
some_causes_in [] ms e = absurd (true≢false e)
some_causes_in (v ∷ vs) ms e = refl

-- a refusal's Status has no float, where its causes have none
with_group : (r : Reason) (message : List ℕ) (group : Option (List ℕ)) (kind name : List ℕ) (cs : Items) → items_have_float cs ≡ false
    → has_float (object (with_details (Some (record { group = group; kind = kind; name = name })) cs (status_members r message))) ≡ false
with_group r message None kind name no_items clean = refl
with_group r message None kind name (item c cs) clean = ap (λ (b : Bool). (b || false) || false) clean
with_group r message (Some group) kind name no_items clean = refl
with_group r message (Some group) kind name (item c cs) clean = ap (λ (b : Bool). (b || false) || false) clean

about_clean : (r : Reason) (message : List ℕ) (about : Option About) (cs : Items) → items_have_float cs ≡ false → has_float (object (with_details about cs (status_members r message))) ≡ false
about_clean r message None no_items clean = refl
about_clean r message None (item c cs) clean = ap (λ (b : Bool). (b || false) || false) clean
about_clean r message (Some a) cs clean = with_group r message a.group a.kind a.name cs clean

pub value_clean : (d : CallRefusal) → items_have_float d.causes ≡ false → has_float (call_refusal_value d) ≡ false
value_clean d clean = about_clean d.reason d.message d.about d.causes clean
