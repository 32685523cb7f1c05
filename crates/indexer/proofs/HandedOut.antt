-- Objects handed out of a map, one after the other.
use Rattle.std.proofs.Common.{◌≡◌, List, [], ◌∷◌, ◌++◌, map, sym, ap, ◌∙◌, append_assoc, append-nil, BTreeMap}
use Rattle.std.proofs.lemmas.List.{map-append}
use Rattle.std.specs.List.Sorted.{IsStrictlySortedBy}
use Rattle.std.specs.Map.{keys_of}
use Rattle.indexer.specs.declared.entry.Entry.{Entry}
use Rattle.indexer.specs.declared.object.ObjectKey.{ObjectKey}
use Rattle.indexer.specs.Keys.{key_cmp}
use Rattle.indexer.specs.Kept.{indexed_objects_in, objects_in}
use Rattle.indexer.specs.Objects.{Place, Shared, Stored, place_of, shared_of}
use Rattle.indexer.proofs.IndexedObjects.{without_keys, held_objects}

-- an object beside its key
abbrev pub under_key : ObjectKey × Shared → Place × Stored
under_key e = (place_of e.0, shared_of e.1)

pub one_out : (old new : List (ObjectKey × Shared)) (k : ObjectKey) (e : Entry) (it left : List (ObjectKey × Entry)) (whole : List (Place × Stored)) → it ≡ (k, e) ∷ left → new ≡ old ++ (k, e.object) ∷ []
    → map under_key old ++ map without_keys it ≡ whole → map under_key new ++ map without_keys left ≡ whole
one_out old new k e it left whole steps pushed so_far =
    ap (λ xs. map under_key xs ++ map without_keys left) pushed
    ∙ ap (λ xs. xs ++ map without_keys left) (map-append under_key old ((k, e.object) ∷ []))
    ∙ append_assoc (map under_key old) (under_key (k, e.object) ∷ []) (map without_keys left)
    ∙ ap (λ xs. map under_key old ++ map without_keys xs) (sym steps) ∙ so_far

pub all_out : (objects : BTreeMap ObjectKey Entry) (out : List (ObjectKey × Shared)) (it : List (ObjectKey × Entry)) → IsStrictlySortedBy key_cmp (keys_of objects.entries) → it ≡ []
    → map under_key out ++ map without_keys it ≡ map without_keys objects.entries → map under_key out ≡ objects_in (indexed_objects_in objects)
all_out objects out it ordered none whole =
    sym (append-nil (map under_key out)) ∙ ap (λ xs. map under_key out ++ map without_keys xs) (sym none) ∙ whole ∙ held_objects objects ordered
