-- Operations, read one after another, and done one after another.
use Rattle.std.proofs.Common.{◌≡◌, ℕ, ◌+◌, ◌<◌, ◌≤◌, List, [], ◌∷◌, ◌++◌, map, drop, get_or, length, Bool, lt-ltb, le-ltb, Option, Some, None, option_map, option_and_then, Result, Err, refl, sym, ap, ◌∙◌, arith, append_assoc, append-nil, if◌then◌else◌}
use Rattle.std.proofs.lemmas.List.{drop_more}
use Rattle.serde_json.specs.Data.{Data, Items}
use Rattle.serde_json.specs.Events.{items_len}
use Rattle.serde_json.specs.Find.{as_array, as_object}
use Rattle.serde_json.specs.View.{view, items_view}
use Rattle.serde_json.specs.declared.value.Value.{Value}
use Rattle.serde_json.proofs.Views.{items_len-items_view}
use Rattle.json_patch.specs.Forms.{operation_in, operations_in, operations_limit, or_bad, read_optional, read_patch}
use Rattle.json_patch.specs.Operations as spec
use Rattle.json_patch.specs.Operations.{State, and_after, applied, applied_from}
use Rattle.json_patch.specs.Represented.{operation_of}
use Rattle.json_patch.specs.declared.operation.Operation.{Operation}
use Rattle.json_patch.specs.declared.reading_patches.NoPatch.{NoPatch}
use Rattle.json_patch.specs.declared.reading_patches.NoPatch.TheVariants.{TooMany}

abbrev pub and_more : List spec.Operation → Option (List spec.Operation) → Option (List spec.Operation)
and_more os o = option_map (λ more. os ++ more) o

pub none_before : (o : Option (List spec.Operation)) → and_more [] o ≡ o
none_before None = refl
none_before (Some more) = refl

pub none_after : (os : List spec.Operation) → and_more os (Some []) ≡ Some os
none_after os = ap Some (append-nil os)

one_more : (os : List spec.Operation) (o : spec.Operation) (r : Option (List spec.Operation)) → and_more (os ++ o ∷ []) r ≡ and_more os (option_map (λ more. o ∷ more) r)
one_more os o None = refl
one_more os o (Some more) = ap Some (append_assoc os (o ∷ []) more)

module _ (whole : Option (List spec.Operation)) (os : List spec.Operation) (it : List Value) (v : Value) (left : List Value) (steps : it ≡ v ∷ left)
    (so_far : and_more os (operations_in (items_view it)) ≡ whole) where
  abbrev from_here : Option spec.Operation → Option (List spec.Operation)
  from_here r = and_more os (option_and_then (λ o. option_map (λ more. o ∷ more) (operations_in (items_view left))) r)

  here : from_here (option_and_then operation_in (as_object (view v))) ≡ whole
  here = sym (ap (λ l. and_more os (operations_in (items_view l))) steps) ∙ so_far

  pub not_read : None ≡ option_and_then operation_in (as_object (view v)) → None ≡ whole
  not_read none = ap from_here none ∙ here

  pub read_so_far : (o : spec.Operation) (new : List spec.Operation) → Some o ≡ option_and_then operation_in (as_object (view v)) → new ≡ os ++ o ∷ [] → and_more new (operations_in (items_view left)) ≡ whole
  read_so_far o new reads is =
      ap (λ n. and_more n (operations_in (items_view left))) is ∙ one_more os o (operations_in (items_view left)) ∙ ap from_here reads ∙ here

-- ---- done

module _ (whole : Result Data ℕ) (os : List Operation) (n : ℕ) (o : Operation) (s : State) (there : n < length os) (is : o ≡ get_or os n o)
    (so_far : applied_from n (map operation_of (drop n os)) s ≡ whole) where
  abbrev after : Option State → Result Data ℕ
  after r = and_after n (applied_from (n + 1) (map operation_of (drop (n + 1) os))) r

  now : after (applied (operation_of o) s) ≡ whole
  now = ap (λ p. after (applied (operation_of p) s)) is ∙ sym (ap (λ l. applied_from n (map operation_of l) s) (drop_more os n o there)) ∙ so_far

  pub fails : None ≡ applied (operation_of o) s → Err n ≡ whole
  fails none = ap after none ∙ now

  pub done : (new : State) → Some new ≡ applied (operation_of o) s → applied_from (n + 1) (map operation_of (drop (n + 1) os)) new ≡ whole
  done new is_done = ap after is_done ∙ now

-- ---- a list that is read

abbrev by_count : Items → Bool → Result (List spec.Operation) NoPatch
by_count ds b = if b then Err TooMany else or_bad (operations_in ds)

module _ (d : Data) (xs : List Value) (is : Some (items_view xs) ≡ as_array d) where
  pub too_many : operations_limit < length xs → Err TooMany ≡ read_patch d
  too_many more =
      sym (ap (by_count (items_view xs)) (lt-ltb operations_limit (items_len (items_view xs)) (omega (arith, items_len-items_view xs)))) ∙ ap read_optional is

  pub read_within : length xs ≤ operations_limit → (o : Option (List spec.Operation)) → o ≡ operations_in (items_view xs) → or_bad o ≡ read_patch d
  read_within within o reads =
      ap or_bad reads ∙ sym (ap (by_count (items_view xs)) (le-ltb operations_limit (items_len (items_view xs)) (omega (arith, items_len-items_view xs)))) ∙ ap read_optional is
