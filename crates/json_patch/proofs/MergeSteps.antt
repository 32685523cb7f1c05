-- A merge patch, as far as its members have been gone through.
use Rattle.std.proofs.Common.{◌≡◌, ℕ, List, ◌∷◌, is_some, true, false, sym, ap, ap₂, ◌∙◌, string_bytes, if◌then◌else◌}
use Rattle.serde_json.specs.Data.{Data, Members, put}
use Rattle.serde_json.specs.Find.{as_null}
use Rattle.serde_json.specs.View.{view, members_view}
use Rattle.serde_json.proofs.Views.{Entry}
use Rattle.json_values.specs.Members.{less}
use Rattle.json_patch.specs.MergePatch.{merge_patch, merge_members, value_at}

module _ (whole merged : Members) (it : List Entry) (e : Entry) (left : List Entry) (steps : it ≡ e ∷ left) (so_far : merge_members merged (members_view it) ≡ whole) where
  -- a member that is null
  pub null_merged : (new : Members) (name : List ℕ) → is_some (as_null (view e.1)) ≡ true → name ≡ string_bytes e.0 → new ≡ less name merged → merge_members new (members_view left) ≡ whole
  null_merged new name is_null named is =
      ap (λ m. merge_members m (members_view left)) (is ∙ ap (λ n. less n merged) named)
      ∙ sym (ap (λ b. merge_members (if b then less (string_bytes e.0) merged else put (string_bytes e.0) (merge_patch (value_at (string_bytes e.0) merged) (view e.1)) merged) (members_view left)) is_null)
      ∙ sym (ap (λ l. merge_members merged (members_view l)) steps)
      ∙ so_far

  -- another, put where its old value was taken out
  pub value_merged : (taken new : Members) (name name2 : List ℕ) (old d : Data) → is_some (as_null (view e.1)) ≡ false → name ≡ string_bytes e.0 → name2 ≡ string_bytes e.0
      → old ≡ value_at name merged → ((f : Data) → put name f taken ≡ put name f merged) → d ≡ merge_patch old (view e.1) → new ≡ put name2 d taken
      → merge_members new (members_view left) ≡ whole
  value_merged taken new name name2 old d not_null named named2 old_is kept d_is is =
      ap (λ m. merge_members m (members_view left))
      (is ∙ ap (λ n. put n d taken) (named2 ∙ sym named) ∙ kept d ∙ ap₂ (λ n f. put n f merged) named (d_is ∙ ap (λ o. merge_patch o (view e.1)) (old_is ∙ ap (λ n. value_at n merged) named)))
      ∙ sym (ap (λ b. merge_members (if b then less (string_bytes e.0) merged else put (string_bytes e.0) (merge_patch (value_at (string_bytes e.0) merged) (view e.1)) merged) (members_view left)) not_null)
      ∙ sym (ap (λ l. merge_members merged (members_view l)) steps)
      ∙ so_far
