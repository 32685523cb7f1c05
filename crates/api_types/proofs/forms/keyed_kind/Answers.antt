use Rattle.std.proofs.Common.{◌≡◌, ℕ, List, Some, None, Ok, true, false, option_and_then, map, string_bytes, codes, ap, sym, ◌∙◌, option_map, refl}
use Rattle.serde_json.specs.Data.{Members}
use Rattle.serde_json.specs.View.{members_view}
use Rattle.json_values.specs.Members.{items_at, members_at}
use Rattle.api_types.specs.Keywords.{key_names, is_keyed_struct, keyed_kind, texts_in}
use Rattle.api_types.specs.Refusals.{misfit, some_or}
use Rattle.schema.specs.Shape.{keyed}
use Rattle.api_types.proofs.Items.{names_fit}
use Rattle.schema.proofs.KeyNames.{sorted_already}
use Rattle.api_types.proofs.Texts.{was_some}
use Rattle.api_types.proofs.forms.keyed_kind.Goals as goal

no_struct : (ms item : Members) (names : List (List ℕ)) → key_names ms ≡ Some names → members_at (codes "items") ms ≡ Some item → is_keyed_struct names (Some item) ≡ false → keyed_kind ms ≡ None
no_struct ms item names named at not = rw (named, at, not) refl

pub returns-then-not-is_keyed_struct : goal.returns-then-not-is_keyed_struct
returns-then-not-is_keyed_struct c =
    let ms = members_view c.args.schema.now.entries in
    let names = map string_bytes c.in_ok-names.names.items in
    let at = sym c.members_at.ensures ∙ ap (option_map (λ m. members_view m.now.entries)) c.in-Some.is in
    ap (some_or misfit) (no_struct ms (members_view c.in-Some.item.now.entries) names (was_some (key_names ms) names c.in_ok-names.ensures) at
    (ap (λ ns. is_keyed_struct (map string_bytes ns) (Some (members_view c.in-Some.item.now.entries))) (sym c.deref.ensures.value) ∙ sym c.is_keyed_struct.ensures ∙ c.if-not-is_keyed_struct.true))

is_struct : (ms item : Members) (names : List (List ℕ)) → key_names ms ≡ Some names → members_at (codes "items") ms ≡ Some item → is_keyed_struct names (Some item) ≡ true → keyed_kind ms ≡ Some (keyed names)
is_struct ms item names named at fit = rw (named, at, fit) refl

pub returns : goal.returns
returns c =
    let ms = members_view c.args.schema.now.entries in
    let names = map string_bytes c.in_ok-names.names.items in
    let at = sym c.members_at.ensures ∙ ap (option_map (λ m. members_view m.now.entries)) c.in-Some.is in
    let named = was_some (key_names ms) names c.in_ok-names.ensures in
    let rise = names_fit (option_and_then texts_in (items_at (codes "x-kubernetes-list-map-keys") ms)) names named in
    ap (some_or misfit) (is_struct ms (members_view c.in-Some.item.now.entries) names named at
    (ap (λ ns. is_keyed_struct (map string_bytes ns) (Some (members_view c.in-Some.item.now.entries))) (sym c.deref.ensures.value) ∙ sym c.is_keyed_struct.ensures ∙ c.if-not-is_keyed_struct.false))
    ∙ ap (λ ns. Ok (keyed ns)) (sym (sorted_already names rise.1))
