use Rattle.std.proofs.Common.{◌≡◌, ℕ, suc, ◌<◌, ◌≤◌, true, false, nat_le, List, [], ◌∷◌, length, codes, Some, Ok, Err, option_map, refl, sym, ap, subst, ◌∙◌, arith}
use Rattle.std.proofs.lemmas.Bool.Decides.{nat_tests}
use Rattle.serde_json.specs.Data.{Data, Items, Members}
use Rattle.serde_json.specs.Find.{as_object}
use Rattle.serde_json.specs.View.{view, items_view, members_view}
use Rattle.serde_json.specs.declared.value.Value.{Value}
use Rattle.json_values.specs.Members.{items_at}
use Rattle.api_types.specs.Keywords.{has_only}
use Rattle.api_types.specs.Refusals.{not_the_form}
use Rattle.api_types.specs.TypesFile.{listed, few, length_of, max_types}
use Rattle.api_types.proofs.file.listed.Goals as goal

length_of-items_view : (vs : List Value) → length_of (items_view vs) ≡ length vs
length_of-items_view [] = refl
length_of-items_view (v ∷ vs) = ap suc (length_of-items_view vs)

le_true : (m n : ℕ) → m ≤ n → nat_le m n ≡ true
le_true m n h = grind (arith, nat_tests)

le_false : (m n : ℕ) → n < m → nat_le m n ≡ false
le_false m n h = grind (arith, nat_tests)

some_few : (vs : List Value) → length vs ≤ max_types → few (items_view vs) ≡ Ok (items_view vs)
some_few vs h = rw (length_of-items_view vs, le_true (length vs) max_types h) refl

too_many : (vs : List Value) → max_types < length vs → few (items_view vs) ≡ Err not_the_form
too_many vs h = rw (length_of-items_view vs, le_false (length vs) max_types h) refl

listed_by : (d : Data) (ms : Members) (ds : Items) → as_object d ≡ Some ms → has_only (codes "types" ∷ []) ms ≡ true → items_at (codes "types") ms ≡ Some ds → listed d ≡ few ds
listed_by d ms ds is only at = rw (is, only, at) refl

pub returns-clause-listed : goal.returns-clause-listed
returns-clause-listed c =
    let vs = c.in-Some-items_at.values.now.items in
    let is = sym c.as_object.ensures ∙ ap (option_map (λ m. members_view m.now.entries)) c.in-Some.is in
    let only = sym c.has_only.ensures ∙ c.if-not-has_only.false in
    let at = sym c.items_at.ensures ∙ ap (option_map (λ v. items_view v.now.items)) c.in-Some-items_at.is in
    listed_by (view c.args.file.now) (members_view c.in-Some.members.now.entries) (items_view vs) is only at ∙ some_few vs (subst (λ n. n ≤ max_types) (c.len.ensures ∙ c.in-Some-items_at.values.now.ok.0) c.if-len-gt-MAX_TYPES.false)

pub returns-then-len-gt-MAX_TYPES-clause-listed : goal.returns-then-len-gt-MAX_TYPES-clause-listed
returns-then-len-gt-MAX_TYPES-clause-listed c =
    let vs = c.in-Some-items_at.values.now.items in
    let is = sym c.as_object.ensures ∙ ap (option_map (λ m. members_view m.now.entries)) c.in-Some.is in
    let only = sym c.has_only.ensures ∙ c.if-not-has_only.false in
    let at = sym c.items_at.ensures ∙ ap (option_map (λ v. items_view v.now.items)) c.in-Some-items_at.is in
    listed_by (view c.args.file.now) (members_view c.in-Some.members.now.entries) (items_view vs) is only at ∙ too_many vs (subst (λ n. max_types < n) (c.len.ensures ∙ c.in-Some-items_at.values.now.ok.0) c.if-len-gt-MAX_TYPES.true)
