-- The members of key fields don't depend on the order of their names.
use Rattle.std.proofs.Common.{◌≡◌, ℕ, Bool, true, false, cond, List, [], ◌∷◌, nat_cmp, refl, ap, ◌∙◌}
use Rattle.std.specs.Cmp.Lexicographic.{slice_cmp}
use Rattle.std.specs.Ordering.{is_lt}
use Rattle.serde_json.specs.Data.{Members, put}
use Rattle.fieldpath.specs.Elements.{name_text}
use Rattle.schema.specs.KeyNames.{put_name, sorted}
use Rattle.schema.proofs.Members.{put_turned}
use Rattle.fieldset.specs.FieldsV1.{leaf, put_names}

name_put : (n : List ℕ) (ns : List (List ℕ)) (ms : Members) → put_names (put_name n ns) ms ≡ put_names ns (put (name_text n) leaf ms)
name_put n [] ms = refl
name_put n (m ∷ ns) ms = by_test (name_put n ns (put (name_text m) leaf ms)) (is_lt (slice_cmp nat_cmp m n))
  where
    by_test : put_names (put_name n ns) (put (name_text m) leaf ms) ≡ put_names ns (put (name_text n) leaf (put (name_text m) leaf ms)) → (b : Bool)
        → put_names (cond b (m ∷ put_name n ns) (n ∷ m ∷ ns)) ms ≡ put_names ns (put (name_text m) leaf (put (name_text n) leaf ms))
    by_test later true = later ∙ ap (put_names ns) (put_turned (name_text n) (name_text m) leaf leaf ms (λ h. refl))
    by_test later false = refl

pub put_names-sorted : (ns : List (List ℕ)) (ms : Members) → put_names (sorted ns) ms ≡ put_names ns ms
put_names-sorted [] ms = refl
put_names-sorted (n ∷ ns) ms = name_put n (sorted ns) ms ∙ put_names-sorted ns (put (name_text n) leaf ms)
