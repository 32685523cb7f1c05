use Rattle.std.proofs.Common.{◌≡◌, ◌==◌, string_bytes, map, length, Some, None, ap, sym, ◌∙◌, option_map, arith}
use Rattle.serde_json.specs.View.{items_view, members_view}
use Rattle.api_types.specs.Keywords.{different}
use Rattle.fieldpath.specs.Scalars.{ascend}
use Rattle.api_types.specs.Refusals.{misfit, some_or}
use Rattle.api_types.proofs.Texts.{key_names_by}
use Rattle.api_types.proofs.Sorting.{sorted_differ, none_differ, sorted_repeat}
use Rattle.api_types.proofs.forms.key_names.Goals.{then-is_empty-via-then-is_empty, then-is_empty-via-else-is_empty+then-not-names_ascend}
use Rattle.api_types.proofs.forms.key_names.Goals as goal

pub returns : goal.returns
returns c =
    let there = ap (λ v. Some (items_view v)) c.deref.ensures.value ∙ ap (option_map (λ v. items_view v.now.items)) (sym c.in-Some.is) ∙ c.items_at.ensures in
    let read = key_names_by (members_view c.args.schema.now.entries) (items_view c.deref.result.now) (map string_bytes c.in_ok-names.names.items) there c.in_ok-names.ensures in
    let names = c.deref-else-is_empty.ensures in
    let some = ap (λ n. n == 0) (ap length (sym names.value) ∙ names.len) ∙ sym c.is_empty.ensures ∙ c.if-is_empty.false in
    let rise = ap (λ ns. ascend (map string_bytes ns)) (sym names.value) ∙ sym c.names_ascend.ensures ∙ c.if-not-names_ascend.false in
    ap (some_or misfit) (read ∙ sorted_differ string_bytes c.in_ok-names.names.items c.sort.new.self.items c.in_ok-sort.ensures.permutation some rise)

pub returns-then-is_empty : goal.returns-then-is_empty
returns-then-is_empty c =
    let there = ap (λ v. Some (items_view v)) c.deref.ensures.value ∙ ap (option_map (λ v. items_view v.now.items)) (sym c.in-Some.is) ∙ c.items_at.ensures in
    let read = key_names_by (members_view c.args.schema.now.entries) (items_view c.deref.result.now) (map string_bytes c.in_ok-names.names.items) there c.in_ok-names.ensures in
    let none : different (map string_bytes c.in_ok-names.names.items) ≡ None = elim c.then-is_empty.branch [
      | then-is_empty-via-then-is_empty w ↦
          none_differ string_bytes c.in_ok-names.names.items c.sort.new.self.items c.in_ok-sort.ensures.permutation
          (ap (λ n. n == 0) (sym c.sort.new.self.ok.0) ∙ sym c.is_empty.ensures ∙ w.if-is_empty.true)
      | then-is_empty-via-else-is_empty+then-not-names_ascend w ↦
          sorted_repeat string_bytes c.in_ok-names.names.items c.sort.new.self.items c.in_ok-sort.ensures.permutation
          (λ k d lt. c.in_ok-sort.ensures.sorted k d (omega arith) lt)
          (ap (λ ns. ascend (map string_bytes ns)) (sym w.deref-else-is_empty.ensures.value) ∙ sym w.names_ascend.ensures ∙ w.if-not-names_ascend.true)
    ] in
    ap (some_or misfit) (read ∙ none)
