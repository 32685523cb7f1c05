-- Entries read one by one.
use Rattle.std.proofs.Common.{◌≡◌, ◌+◌, ◌<◌, ◌≤◌, ℕ, List, [], ◌∷◌, ◌++◌, drop, get_or, length, Option, Some, None, refl, sym, ap, ◌∙◌, append_assoc, append-nil}
use Rattle.std.specs.Prelude.{option_map}
use Rattle.std.proofs.lemmas.List.{drop_all, map-append}
use Rattle.json.specs.Value.{items_view, value_view}
use Rattle.json_texts.specs.InOrder.{data_of, items_data}
use Rattle.json_texts.proofs.Parts.{Item, at_place}
use Rattle.serde_json.specs.Data.{Data, Items, item}
use Rattle.pathmap.specs.Contents.{PathSet}
use Rattle.schema.specs.Shape.{Shape}
use Rattle.objects.specs.Managers.{pair, pairs}
use Rattle.objects.specs.Owners.{Manager}
use Rattle.objects.specs.Parts as parts
use Rattle.objects.specs.Parts.{entries_in, entry_in}
use Rattle.objects.specs.declared.managers.Entry.{Entry}
use Rattle.objects.proofs.Entries.{Pairs}

goes_on : (s : Shape) (before : Pairs) (e : Manager × PathSet) (d : Data) (ds : Items) → entry_in s d ≡ Some e
    → option_map (λ es. (before ++ e ∷ []) ++ es) (entries_in s ds) ≡ option_map (λ es. before ++ es) (entries_in s (item d ds))
goes_on s before e d ds is = by_rest (entries_in s ds) ∙ ap (λ x. option_map (λ es. before ++ es) (parts.one_more x (entries_in s ds))) (sym is)
  where
    by_rest : (o : Option Pairs) → option_map (λ es. (before ++ e ∷ []) ++ es) o ≡ option_map (λ es. before ++ es) (parts.one_more (Some e) o)
    by_rest None = refl
    by_rest (Some es) = ap Some (append_assoc before (e ∷ []) es)

-- those so far and those of the values that are left are all
abbrev pub AreReadTo : Shape → Option Pairs → List Entry → List Item → Type 0
AreReadTo s whole so_far left = option_map (λ es. pairs so_far ++ es) (entries_in s (items_data (items_view left))) ≡ whole

module _ (s : Shape) (all : List Item) (i : ℕ) (v : Item) (lt : i < length all) (is : v ≡ get_or all i v) (whole : Option Pairs) (before : List Entry) (so_far : AreReadTo s whole before (drop i all)) where
  there : option_map (λ es. pairs before ++ es) (entries_in s (item (data_of (value_view v)) (items_data (items_view (drop (i + 1) all))))) ≡ whole
  there = ap (λ l. option_map (λ es. pairs before ++ es) (entries_in s (items_data (items_view l)))) (sym (at_place all i v lt is)) ∙ so_far

  -- one that is none
  pub none_read : entry_in s (data_of (value_view v)) ≡ None → whole ≡ None
  none_read none = sym there ∙ ap (λ x. option_map (λ es. pairs before ++ es) (parts.one_more x (entries_in s (items_data (items_view (drop (i + 1) all)))))) none

  pub one_read : (e : Entry) (new : List Entry) → entry_in s (data_of (value_view v)) ≡ Some (pair e) → new ≡ before ++ e ∷ [] → AreReadTo s whole new (drop (i + 1) all)
  one_read e new reads pushed =
      ap (λ l. option_map (λ es. l ++ es) (entries_in s (items_data (items_view (drop (i + 1) all))))) (ap pairs pushed ∙ map-append pair before (e ∷ []))
      ∙ goes_on s (pairs before) (pair e) (data_of (value_view v)) (items_data (items_view (drop (i + 1) all))) reads ∙ there

pub all_read : (s : Shape) (all : List Item) (i : ℕ) (whole : Option Pairs) (before : List Entry) → length all ≤ i → AreReadTo s whole before (drop i all) → whole ≡ Some (pairs before)
all_read s all i whole before past so_far =
    sym so_far ∙ ap (λ l. option_map (λ es. pairs before ++ es) (entries_in s (items_data (items_view l)))) (drop_all i all past) ∙ ap Some (append-nil (pairs before))
