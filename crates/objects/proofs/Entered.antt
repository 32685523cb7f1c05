-- The entries of `managedFields`, read as they are written.
use Rattle.std.proofs.Common.{◌≡◌, ℕ, true, false, cond, not, List, [], ◌∷◌, Some, None, refl, ap, ◌∙◌}
use Rattle.std.specs.Prelude.{codes, option_map, option_and_then}
use Rattle.std.specs.FinMap as fin
use Rattle.std.specs.List.{AllByRecursion}
use Rattle.std.specs.declared.result.Result.TheVariants.{Ok}
use Rattle.serde_json.specs.Data.{Items, no_items, item, Members, array}
use Rattle.serde_json.specs.Find.{get_member}
use Rattle.serde_json.proofs.Views.{get_member-put}
use Rattle.fieldset.specs.FieldsV1.{fields_v1_of, read_fields_v1}
use Rattle.pathmap.specs.Beside.{is_empty}
use Rattle.pathmap.specs.Contents.{PathSet}
use Rattle.schema.specs.Shape.{Shape}
use Rattle.fieldset.specs.FieldsV1Laws.{HavePlaces}
use Rattle.objects.specs.declared.manager.Operation.{Operation}
use Rattle.objects.specs.declared.manager.Operation.TheVariants.{Apply, Update}
use Rattle.objects.specs.declared.manager.Subresource.{Subresource}
use Rattle.objects.specs.declared.manager.Subresource.TheVariants.{Main, Status}
use Rattle.objects.specs.ObjectText.{entry_members, entry_value, entry_items, put_entries}
use Rattle.objects.specs.Owners.{Manager, Owners, HavePaths, manager_by}
use Rattle.objects.specs.Parts.{if_ok, manager_in, set_in, entry_in, one_more, entries_in, items_or_none, owners_of}
use Rattle.objects.specs.Ranks.{have_paths}
use Rattle.objects.proofs.Entries.{Pairs, from-entries}
use Rattle.objects.proofs.Within.{both_true}
use Rattle.objects.proofs.Rising.{sorted_rises, all_found}

-- ---- one entry

module _ (s : Shape) (api_version : List ℕ) (paths : PathSet) where
  manager_there : (n : List ℕ) (o : Operation) (sub : Subresource) → manager_in (entry_members s api_version (manager_by n o sub) paths) ≡ Some (manager_by n o sub)
  manager_there n Apply Main = refl
  manager_there n Apply Status = refl
  manager_there n Update Main = refl
  manager_there n Update Status = refl

  fields_there : (n : List ℕ) (o : Operation) (sub : Subresource) → get_member (codes "fieldsV1") (entry_members s api_version (manager_by n o sub) paths) ≡ Some (fields_v1_of s paths)
  fields_there n o Main = refl
  fields_there n o Status = refl

  pub entry_there : (m : Manager) → read_fields_v1 s (fields_v1_of s paths) ≡ Ok paths → entry_in s (entry_value s api_version m paths) ≡ Some (m, paths)
  entry_there m reads =
      ap (λ o. option_and_then (λ k. option_map (λ p. (k, p)) (set_in s (entry_members s api_version m paths))) o) (manager_there m.name m.operation m.subresource)
      ∙ ap (λ o. option_map (λ p. (m, p)) (option_and_then (λ d. if_ok (read_fields_v1 s d)) o)) (fields_there m.name m.operation m.subresource)
      ∙ ap (λ r. option_map (λ p. (m, p)) (if_ok r)) reads

-- ---- all entries

-- of paths that have places
abbrev pub AllWellTyped : Shape → Pairs → Type 0
AllWellTyped s es = AllByRecursion (λ e. HavePlaces s e.1) es

pub entries_there : (s : Shape) (api_version : List ℕ) (es : Pairs) → ((paths : PathSet) → HavePlaces s paths → read_fields_v1 s (fields_v1_of s paths) ≡ Ok paths) → AllWellTyped s es
    → entries_in s (entry_items s api_version es) ≡ Some es
entries_there s api_version [] back all = refl
entries_there s api_version (e ∷ es) back all =
    ap (λ x. one_more x (entries_in s (entry_items s api_version es))) (entry_there s api_version e.1 e.0 (back e.1 all.0)) ∙ ap (one_more (Some e)) (entries_there s api_version es back all.1)

-- `managedFields`, as it is put
pub items_put : (ds : Items) (members : Members) → get_member (codes "managedFields") members ≡ None → items_or_none (get_member (codes "managedFields") (put_entries ds members)) ≡ Some ds
items_put no_items members none = ap items_or_none none
items_put (item d ds) members none = ap items_or_none (get_member-put (codes "managedFields") (array (item d ds)) members)

-- owners have their entries
pub owners_back : (w : Owners) → HavePaths w → owners_of (fin.entries w) ≡ Some w
owners_back w some =
    ap (λ b. cond b (Some (fin.from_entries (fin.entries w))) None) (both_true _ _ (sorted_rises (fin.entries w) (fin.entries_sorted w)) (all_have w some))
    ∙ ap Some (from-entries w)
  where
    nonempty : (es : Pairs) → AllByRecursion (λ e. is_empty e.1 ≡ false) es → have_paths es ≡ true
    nonempty [] all = refl
    nonempty (e ∷ es) all = both_true _ _ (ap not all.0) (nonempty es all.1)

    all_have : (v : Owners) → HavePaths v → have_paths (fin.entries v) ≡ true
    all_have v have = nonempty (fin.entries v) (all_found (λ k paths. is_empty paths ≡ false) (fin.entries v) (fin.entries_sorted v) (λ q paths is. have q paths (fin.get-entries v q ∙ is)))
