-- Items, read one by one.
use Rattle.std.proofs.Common.{◌≡◌, ℕ, suc, ◌+◌, ◌<◌, List, [], ◌∷◌, ◌++◌, length, drop, get_or, drop-cons, add-one, refl, sym, ap, ◌∙◌, append_assoc, append-nil}
use Rattle.std.specs.declared.result.Result.TheVariants.{Ok, Err}
use Rattle.serde_json.specs.View.{view, items_view}
use Rattle.serde_json.specs.declared.value.Value.{Value}
use Rattle.indexer.specs.Objects.{Stored}
use Rattle.decoder.specs.declared.malformed.Malformed.{Malformed}
use Rattle.decoder.specs.Wanted.{Wanted}
use Rattle.decoder.specs.Members.{Read, ◌>>=◌}
use Rattle.decoder.specs.Objects.{object_of}
use Rattle.decoder.specs.Pages.{objects_of}

abbrev pub and_more : List Stored → Read (List Stored) → Read (List Stored)
and_more os r = r >>= λ more. Ok (os ++ more)

none_more : (r : Read (List Stored)) → and_more [] r ≡ r
none_more (Ok more) = refl
none_more (Err m) = refl

module _ (wanted : Wanted) where
  pub begun : (os : List Stored) (items : List Value) → os ≡ [] → and_more os (objects_of wanted (items_view items)) ≡ objects_of wanted (items_view items)
  begun os items none = ap (λ l. and_more l (objects_of wanted (items_view items))) none ∙ none_more (objects_of wanted (items_view items))

  module _ (os : List Stored) (items : List Value) (i : ℕ) (v : Value) (lt : i < length items) (is : v ≡ get_or items i v) (whole : Read (List Stored)) (so_far : and_more os (objects_of wanted (items_view (drop i items))) ≡ whole) where
    there : and_more os (object_of wanted (view v) >>= λ o. objects_of wanted (items_view (drop (i + 1) items)) >>= λ more. Ok (o ∷ more)) ≡ whole
    there =
        rw add-one (
        ap (λ w. and_more os (object_of wanted (view w) >>= λ o. objects_of wanted (items_view (drop (suc i) items)) >>= λ more. Ok (o ∷ more))) is
        ∙ sym (ap (λ l. and_more os (objects_of wanted (items_view l))) (drop-cons items i v lt)) ∙ so_far
        )

    pub fails : (m : Malformed) → object_of wanted (view v) ≡ Err m → whole ≡ Err m
    fails m failed = sym there ∙ ap (λ r. and_more os (r >>= λ o. objects_of wanted (items_view (drop (i + 1) items)) >>= λ more. Ok (o ∷ more))) failed

    pub takes : (o : Stored) (new : List Stored) → object_of wanted (view v) ≡ Ok o → new ≡ os ++ o ∷ [] → and_more new (objects_of wanted (items_view (drop (i + 1) items))) ≡ whole
    takes o new read pushed =
        ap (λ l. and_more l (objects_of wanted (items_view (drop (i + 1) items)))) pushed ∙ longer (objects_of wanted (items_view (drop (i + 1) items)))
        ∙ ap (λ r. and_more os (r >>= λ o. objects_of wanted (items_view (drop (i + 1) items)) >>= λ more. Ok (o ∷ more))) (sym read) ∙ there
      where
        longer : (r : Read (List Stored)) → and_more (os ++ o ∷ []) r ≡ and_more os (r >>= λ more. Ok (o ∷ more))
        longer (Ok more) = ap Ok (append_assoc os (o ∷ []) more)
        longer (Err m) = refl

  pub ended : (os : List Stored) (items : List Value) (i : ℕ) (whole : Read (List Stored)) → drop i items ≡ [] → and_more os (objects_of wanted (items_view (drop i items))) ≡ whole → whole ≡ Ok os
  ended os items i whole none so_far = sym so_far ∙ ap (λ l. and_more os (objects_of wanted (items_view l))) none ∙ ap Ok (append-nil os)
