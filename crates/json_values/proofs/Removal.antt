-- What is left of the members where one is removed.
use Rattle.std.proofs.Common.{◌≡◌, ℕ, cond, string_bytes, List, [], ◌∷◌, Ordering, Less, Equal, Greater, nat_cmp, is_eq, refl, ap}
use Rattle.std.specs.Cmp.Lexicographic.{slice_cmp}
use Rattle.std.specs.BTreeMap.{is_at}
use Rattle.std.specs.Map.{remove_entry}
use Rattle.std.specs.Ordering.{match_ordering}
use Rattle.serde_json.specs.Data.{member}
use Rattle.serde_json.specs.View.{view, members_view}
use Rattle.serde_json.proofs.Views.{Entry}
use Rattle.json_values.specs.Members.{less}

pub members-remove : (name : List ℕ) (es : List Entry) → members_view (remove_entry (is_at (λ k. slice_cmp nat_cmp name (string_bytes k))) es) ≡ less name (members_view es)
members-remove name [] = refl
members-remove name (e ∷ es) = by_order (slice_cmp nat_cmp name (string_bytes e.0)) (members-remove name es)
  where
    by_order : (o : Ordering) → members_view (remove_entry (is_at (λ k. slice_cmp nat_cmp name (string_bytes k))) es) ≡ less name (members_view es)
        → members_view (cond (is_eq o) es (e ∷ remove_entry (is_at (λ k. slice_cmp nat_cmp name (string_bytes k))) es))
        ≡ match_ordering o (member (string_bytes e.0) (view e.1) (less name (members_view es))) (members_view es) (member (string_bytes e.0) (view e.1) (less name (members_view es)))
    by_order Less later = ap (member (string_bytes e.0) (view e.1)) later
    by_order Equal later = refl
    by_order Greater later = ap (member (string_bytes e.0) (view e.1)) later
