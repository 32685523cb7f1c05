-- A member that a merge patch doesn't name.
use Rattle.std.proofs.Common.{◌≡◌, ℕ, List, Bool, true, false, true≢false, if◌then◌else◌, Option, Some, None, is_some, Ordering, Less, Equal, Greater, nat_cmp, is_eq, refl, sym, ap, ◌∙◌}
use Rattle.std.proofs.lemmas.Cmp.{nat_list_cmp_total, tied_itself}
use Rattle.std.proofs.lemmas.Map.Text.{is_eq-slice_cmp}
use Rattle.std.proofs.lemmas.Slice.Eq.{bytes_eq-Decides}
use Rattle.std.specs.Cmp.Lexicographic.{slice_cmp}
use Rattle.std.specs.Ordering.{match_ordering}
use Rattle.serde_json.specs.Data.{Data, Members, no_members, member, put}
use Rattle.serde_json.specs.Find.{as_null, get_member}
use Rattle.serde_json.proofs.Views.{get_member-put_other}
use Rattle.json_values.specs.Members.{less}
use Rattle.json_patch.specs.MergePatch.{merge_patch, merge_members, value_at}

pub same_by : (q k : List ℕ) → slice_cmp nat_cmp q k ≡ Equal → q ≡ k
same_by q k is = (bytes_eq-Decides q k).0 (sym (is_eq-slice_cmp q k) ∙ ap is_eq is)

apart : (q k : List ℕ) (o : Ordering) → slice_cmp nat_cmp q k ≡ o → is_eq o ≡ false → q ≡ k → ⊥
apart q k o is other e = true≢false (ap is_eq (sym (tied_itself nat_list_cmp_total q) ∙ ap (slice_cmp nat_cmp q) e ∙ is) ∙ other)

skips_at : (q k : List ℕ) (d : Data) (r : Option Data) (o : Ordering) → slice_cmp nat_cmp q k ≡ o → (q ≡ k → ⊥) → match_ordering o r (Some d) r ≡ r
skips_at q k d r Less is other = refl
skips_at q k d r Equal is other = absurd (other (same_by q k is))
skips_at q k d r Greater is other = refl

skips : (q k : List ℕ) (d : Data) (ms : Members) → (q ≡ k → ⊥) → get_member q (member k d ms) ≡ get_member q ms
skips q k d ms other = skips_at q k d (get_member q ms) (slice_cmp nat_cmp q k) refl other

less_other_at : (q k l : List ℕ) (d : Data) (ms : Members) (o : Ordering) → slice_cmp nat_cmp k l ≡ o → (q ≡ k → ⊥) → get_member q (less k ms) ≡ get_member q ms
    → get_member q (match_ordering o (member l d (less k ms)) ms (member l d (less k ms))) ≡ get_member q (member l d ms)
less_other_at q k l d ms Less is other later = ap (λ r. match_ordering (slice_cmp nat_cmp q l) r (Some d) r) later
less_other_at q k l d ms Equal is other later = sym (skips q l d ms (λ e. other (e ∙ sym (same_by k l is))))
less_other_at q k l d ms Greater is other later = ap (λ r. match_ordering (slice_cmp nat_cmp q l) r (Some d) r) later

less_other : (q k : List ℕ) (ms : Members) → (q ≡ k → ⊥) → get_member q (less k ms) ≡ get_member q ms
less_other q k no_members other = refl
less_other q k (member l d ms) other = less_other_at q k l d ms (slice_cmp nat_cmp k l) refl other (less_other q k ms other)

-- a name that isn't among members is none of theirs
unnamed_at : (q k : List ℕ) (d : Data) (r : Option Data) (o : Ordering) → slice_cmp nat_cmp q k ≡ o → match_ordering o r (Some d) r ≡ None → (q ≡ k → ⊥) × (r ≡ None)
unnamed_at q k d r Less is none = (apart q k Less is refl, none)
unnamed_at q k d r Equal is none = absurd (true≢false (ap is_some none))
unnamed_at q k d r Greater is none = (apart q k Greater is refl, none)

one_stays : (b : Bool) (q k : List ℕ) (d : Data) (target : Members) → (q ≡ k → ⊥) → get_member q (if b then less k target else put k d target) ≡ get_member q target
one_stays true q k d target other = less_other q k target other
one_stays false q k d target other = get_member-put_other q k d target other

pub unnamed_stays : (q : List ℕ) (target patch : Members) → get_member q patch ≡ None → get_member q (merge_members target patch) ≡ get_member q target
unnamed_stays q target no_members none = refl
unnamed_stays q target (member k d ms) none =
    let first = unnamed_at q k d (get_member q ms) (slice_cmp nat_cmp q k) refl none in
    unnamed_stays q (if is_some (as_null d) then less k target else put k (merge_patch (value_at k target) d) target) ms first.1
    ∙ one_stays (is_some (as_null d)) q k (merge_patch (value_at k target) d) target first.0
