-- The texts of a list, one after another.
use Rattle.std.proofs.Common.{◌≡◌, ℕ, suc, ◌+◌, ◌<◌, List, [], ◌∷◌, ◌++◌, length, drop, get_or, drop-cons, add-one, Option, Some, None, option_map, refl, sym, ap, ◌∙◌, append_assoc, Ok, codes, option_and_then}
use Rattle.serde_json.specs.Data.{Items, Members}
use Rattle.serde_json.specs.Find.{as_str}
use Rattle.serde_json.specs.View.{view, items_view}
use Rattle.serde_json.specs.declared.value.Value.{Value}
use Rattle.json_values.specs.Members.{items_at}
use Rattle.api_types.specs.Keywords.{one_text, texts_in, key_names, different}
use Rattle.api_types.specs.Refusals.{misfit, some_or}

-- the texts so far, with those that are left
abbrev pub after : List (List ℕ) → Option (List (List ℕ)) → Option (List (List ℕ))
after done left = option_map (λ ss. done ++ ss) left

pub after_none : (left : Option (List (List ℕ))) → after [] left ≡ left
after_none None = refl
after_none (Some ss) = refl

after_one : (done : List (List ℕ)) (s : List ℕ) (left : Option (List (List ℕ))) → after done (one_text (Some s) left) ≡ after (done ++ s ∷ []) left
after_one done s None = refl
after_one done s (Some ss) = ap Some (sym (append_assoc done (s ∷ []) ss))

module _ (vs : List Value) (i : ℕ) (v : Value) (lt : i < length vs) (is : v ≡ get_or vs i v) (done : List (List ℕ)) (whole : Option (List (List ℕ)))
    (kept : whole ≡ after done (texts_in (items_view (drop i vs)))) where
  first : texts_in (items_view (drop i vs)) ≡ one_text (as_str (view v)) (texts_in (items_view (drop (i + 1) vs)))
  first = rw add-one (ap (λ us. texts_in (items_view us)) (drop-cons vs i v lt) ∙ ap (λ u. one_text (as_str (view u)) (texts_in (items_view (drop (suc i) vs)))) (sym is))

  pub one_more : (s : List ℕ) → as_str (view v) ≡ Some s → whole ≡ after (done ++ s ∷ []) (texts_in (items_view (drop (i + 1) vs)))
  one_more s text = kept ∙ ap (after done) (first ∙ ap (λ o. one_text o (texts_in (items_view (drop (i + 1) vs)))) text) ∙ after_one done s _

  pub no_text : as_str (view v) ≡ None → whole ≡ None
  no_text none = kept ∙ ap (after done) (first ∙ ap (λ o. one_text o (texts_in (items_view (drop (i + 1) vs)))) none)

pub was_some : {X : Type 0} (o : Option X) (x : X) → some_or misfit o ≡ Ok x → o ≡ Some x
was_some None x e = cc
was_some (Some y) x e = cc

pub key_names_by : (ms : Members) (ds : Items) (ns : List (List ℕ)) → Some ds ≡ items_at (codes "x-kubernetes-list-map-keys") ms → some_or misfit (texts_in ds) ≡ Ok ns → key_names ms ≡ different ns
key_names_by ms ds ns at read = ap (λ o. option_and_then different (option_and_then texts_in o)) (sym at) ∙ ap (option_and_then different) (was_some (texts_in ds) ns read)
