use Rattle.std.proofs.Common.{rules, ◌≡◌, ◌∙◌, List, ℕ, cond, Some, None, ap, sym, subst}
use Rattle.std.specs.Prelude.{option_map}
use Rattle.std.specs.BTreeMap.{BTreeMap, get, get_key, is_at, ContainsKey}
use Rattle.std.specs.BTreeMap.Entry.{entry_key, entry_value, map_with_value, map_without_entry, MatchEntry}
use Rattle.std.specs.declared.collections.btree_map.Entry as places
use Rattle.std.specs.FinMap as fin
use Rattle.std.specs.Map.{lookup}
use Rattle.indexer.specs.declared.entry.Entry.{Entry}
use Rattle.indexer.specs.declared.object.ObjectKey.{ObjectKey}
use Rattle.indexer.specs.declared.texts.Texts.{Texts}
use Rattle.indexer.specs.Keys.{key_cmp, is_same}
use Rattle.indexer.specs.Kept.{indexed_objects_in, seen_of, has_key}
use Rattle.indexer.specs.Objects.{place_of_object, shared_of, kept_of, texts_at, is_among, under_at}
use Rattle.indexer.proofs.IndexedObjects.{held_insert, held_same, get_held}
use Rattle.indexer.proofs.Written.{shared_key, found_copy, get_found, holds_written, none_removed, same_value}
use Rattle.indexer.proofs.kept.put.Goals as goal
use Rattle.indexer.proofs.kept.put.Goals.{After-objects-in-Occupied-1, After-objects-in_default-1, After-drop-remove-in-Err}

-- ---- something stands at the key

pub move_to-requires : goal.move_to-requires
move_to-requires c = λ i k q same.
    let stored = found_copy c.in_ok-of.field-0 c.key.result.now (ap (key_cmp c.in_ok-of.field-0) (c.key.ensures ∙ ap (λ e. entry_key e) (sym c.in-Occupied.is)) ∙ c.in_ok-held.ensures.same_key) in
    c.requires i k q ∙ ap (λ o. has_key o i k) (get_found c.args.objects.now c.in_ok-of.field-0 c.key.result.now q (Some c.get.result.now) stored (sym c.in_ok-held.ensures.value ∙ ap (λ e. entry_value e) c.in-Occupied.is ∙ c.get.ensures) same)
    ∙ ap (λ (ks : List Texts). is_among (texts_at ks i) k) (sym c.deref.ensures.value)

written : (c : After-objects-in-Occupied-1) → c.objects-in-Occupied-1.given.0 ≡ map_with_value c.in_ok-held.field-0 (record { object = c.args.object; keys = c.in_ok-kept.kept })
written c =
    let now : c.objects-in-Occupied-1.given.0 ≡ map_with_value (places.Entry.Occupied c.in-Occupied.held) (record { object = c.args.object; keys = c.in_ok-kept.kept }) = search rules in
    now ∙ ap (λ e. map_with_value e (record { object = c.args.object; keys = c.in_ok-kept.kept })) (sym c.in-Occupied.is)

pub returns-in_ok-move_to-in-Occupied-clause-holds : goal.returns-in_ok-move_to-in-Occupied-clause-holds
returns-in_ok-move_to-in-Occupied-clause-holds c =
    let stored = found_copy c.in_ok-of.field-0 c.key.result.now (ap (key_cmp c.in_ok-of.field-0) (c.key.ensures ∙ ap (λ e. entry_key e) (sym c.in-Occupied.is)) ∙ c.in_ok-held.ensures.same_key) in
    let w : Entry = record { object = c.args.object; keys = c.in_ok-kept.kept } in
    holds_written c.args.objects.now c.objects-in-Occupied-1.given.0 c.args.postings.now.items c.move_to.new.postings.items c.in_ok-of.field-0 c.key.result.now w c.requires stored
    (λ q. ap (λ (m : BTreeMap ObjectKey Entry). get key_cmp m q) (written c) ∙ (c.in_ok-held.ensures.update.0 w).0 q)
    (λ i k q. c.in_ok-move_to-in-Occupied.ensures.ok i k q ∙ ap (λ (ks : List Texts). cond (is_same c.key.result.now q) (is_among (texts_at ks i) k) (under_at c.args.postings.now.items i k q)) c.deref-in-Occupied.ensures.value)

pub returns-in_ok-move_to-in-Occupied-clause-ok : goal.returns-in_ok-move_to-in-Occupied-clause-ok
returns-in_ok-move_to-in-Occupied-clause-ok c =
    let w : Entry = record { object = c.args.object; keys = c.in_ok-kept.kept } in
    held_insert c.args.objects.now c.objects-in-Occupied-1.given.0 c.in_ok-of.field-0 w (ap (λ (m : BTreeMap ObjectKey Entry). m.entries) (written c) ∙ c.in_ok-held.ensures.update.1 w)
    ∙ ap (λ p. fin.insert (indexed_objects_in c.args.objects.now) p (shared_of c.args.object, kept_of c.in_ok-kept.kept.items)) (shared_key c.args.object c.as_ref.result.now c.in_ok-of.field-0 c.as_ref.ensures c.in_ok-of.ensures)
    ∙ ap (λ (ks : List (List (List ℕ))). fin.insert (indexed_objects_in c.args.objects.now) (place_of_object c.args.object.value) (shared_of c.args.object, ks)) c.in_ok-kept.ensures

pub returns-in_ok-move_to-in-Occupied-clause-was : goal.returns-in_ok-move_to-in-Occupied-clause-was
returns-in_ok-move_to-in-Occupied-clause-was c =
    let at : get key_cmp c.args.objects.now c.in_ok-of.field-0 ≡ Some c.insert.result = sym c.in_ok-held.ensures.value ∙ ap (λ e. entry_value e) c.in-Occupied.is ∙ c.insert.ensures.old in
    ap (option_map seen_of) (sym at) ∙ sym (get_held c.args.objects.now c.in_ok-of.field-0)
    ∙ ap (fin.get (indexed_objects_in c.args.objects.now)) (shared_key c.args.object c.as_ref.result.now c.in_ok-of.field-0 c.as_ref.ensures c.in_ok-of.ensures)

-- ---- nothing stands there

pub move_to-requires-in-Vacant : goal.move_to-requires-in-Vacant
move_to-requires-in-Vacant c = λ i k q same.
    let new_key = found_copy c.in_ok-of.field-0 c.key-in-Vacant.result.now
    (ap (key_cmp c.in_ok-of.field-0) (c.key-in-Vacant.ensures ∙ c.insert_entry-held.ensures.3 ∙ ap (λ e. entry_key e) (sym c.in-Vacant.is)) ∙ c.in_ok-held.ensures.same_key) in
    let absent : get key_cmp c.args.objects.now c.in_ok-of.field-0 ≡ None =
    subst (λ e. MatchEntry e (ContainsKey key_cmp c.args.objects.now c.in_ok-of.field-0 × (get_key key_cmp c.args.objects.now c.in_ok-of.field-0 ≡ Some (entry_key e))) (get key_cmp c.args.objects.now c.in_ok-of.field-0 ≡ None))
    c.in-Vacant.is c.in_ok-held.ensures.found in
    c.requires i k q ∙ ap (λ o. has_key o i k) (get_found c.args.objects.now c.in_ok-of.field-0 c.key-in-Vacant.result.now q None new_key absent same)

added : (c : After-objects-in_default-1) → c.objects-in_default-1.given.0 ≡ map_with_value c.in_ok-held.field-0 (record { object = c.args.object; keys = c.in_ok-kept.kept })
added c =
    let now : c.objects-in_default-1.given.0 ≡ c.insert_entry-held.result.map.now = search rules in
    now ∙ c.insert_entry-held.ensures.1 ∙ ap (λ e. map_with_value e (record { object = c.args.object; keys = c.in_ok-kept.kept })) (sym c.in-Vacant.is)

pub returns-in_default-clause-holds : goal.returns-in_default-clause-holds
returns-in_default-clause-holds c =
    let new_key = found_copy c.in_ok-of.field-0 c.key-in-Vacant.result.now
    (ap (key_cmp c.in_ok-of.field-0) (c.key-in-Vacant.ensures ∙ c.insert_entry-held.ensures.3 ∙ ap (λ e. entry_key e) (sym c.in-Vacant.is)) ∙ c.in_ok-held.ensures.same_key) in
    let w : Entry = record { object = c.args.object; keys = c.in_ok-kept.kept } in
    let kept = c.deref-in-Vacant.ensures.value ∙ ap (λ (e : Entry). e.keys.items) (same_value c.insert_entry-held.ensures.2 c.get-in-Vacant.ensures) in
    holds_written c.args.objects.now c.objects-in_default-1.given.0 c.args.postings.now.items c.move_to-in-Vacant.new.postings.items c.in_ok-of.field-0 c.key-in-Vacant.result.now w c.requires new_key
    (λ q. ap (λ (m : BTreeMap ObjectKey Entry). get key_cmp m q) (added c) ∙ (c.in_ok-held.ensures.update.0 w).0 q)
    (λ i k q. c.in_default.ensures.ok i k q ∙ ap (λ (ks : List Texts). cond (is_same c.key-in-Vacant.result.now q) (is_among (texts_at ks i) k) (under_at c.args.postings.now.items i k q)) kept)

pub returns-in_default-clause-ok : goal.returns-in_default-clause-ok
returns-in_default-clause-ok c =
    let w : Entry = record { object = c.args.object; keys = c.in_ok-kept.kept } in
    held_insert c.args.objects.now c.objects-in_default-1.given.0 c.in_ok-of.field-0 w (ap (λ (m : BTreeMap ObjectKey Entry). m.entries) (added c) ∙ c.in_ok-held.ensures.update.1 w)
    ∙ ap (λ p. fin.insert (indexed_objects_in c.args.objects.now) p (shared_of c.args.object, kept_of c.in_ok-kept.kept.items)) (shared_key c.args.object c.as_ref.result.now c.in_ok-of.field-0 c.as_ref.ensures c.in_ok-of.ensures)
    ∙ ap (λ (ks : List (List (List ℕ))). fin.insert (indexed_objects_in c.args.objects.now) (place_of_object c.args.object.value) (shared_of c.args.object, ks)) c.in_ok-kept.ensures

pub returns-in_default-clause-was : goal.returns-in_default-clause-was
returns-in_default-clause-was c =
    let absent : get key_cmp c.args.objects.now c.in_ok-of.field-0 ≡ None =
    subst (λ e. MatchEntry e (ContainsKey key_cmp c.args.objects.now c.in_ok-of.field-0 × (get_key key_cmp c.args.objects.now c.in_ok-of.field-0 ≡ Some (entry_key e))) (get key_cmp c.args.objects.now c.in_ok-of.field-0 ≡ None))
    c.in-Vacant.is c.in_ok-held.ensures.found in
    ap (option_map seen_of) (sym absent) ∙ sym (get_held c.args.objects.now c.in_ok-of.field-0)
    ∙ ap (fin.get (indexed_objects_in c.args.objects.now)) (shared_key c.args.object c.as_ref.result.now c.in_ok-of.field-0 c.as_ref.ensures c.in_ok-of.ensures)

-- taken out again, where the keys were refused
as_before : (c : After-drop-remove-in-Err) → c.objects-in-Err-1.given.0.entries ≡ c.args.objects.now.entries
as_before c =
    let absent : get key_cmp c.args.objects.now c.in_ok-of.field-0 ≡ None =
    subst (λ e. MatchEntry e (ContainsKey key_cmp c.args.objects.now c.in_ok-of.field-0 × (get_key key_cmp c.args.objects.now c.in_ok-of.field-0 ≡ Some (entry_key e))) (get key_cmp c.args.objects.now c.in_ok-of.field-0 ≡ None))
    c.in-Vacant.is c.in_ok-held.ensures.found in
    let now : c.objects-in-Err-1.given.0 ≡ c.remove.new.self.0 = search rules in
    ap (λ (m : BTreeMap ObjectKey Entry). m.entries) now ∙ c.remove.ensures.removed ∙ c.insert_entry-held.ensures.5
    ∙ ap (λ e. (map_without_entry e).entries) (sym c.in-Vacant.is) ∙ c.in_ok-held.ensures.removal.1
    ∙ none_removed (is_at (key_cmp c.in_ok-of.field-0)) c.args.objects.now.entries absent

pub returns-in-Err-clause-holds : goal.returns-in-Err-clause-holds
returns-in-Err-clause-holds c = λ i k q.
    c.in-Err.ensures.err i k q ∙ c.requires i k q ∙ ap (λ (es : List (ObjectKey × Entry)). has_key (lookup (is_at (key_cmp q)) es) i k) (sym (as_before c))

pub returns-in-Err-clause-err : goal.returns-in-Err-clause-err
returns-in-Err-clause-err c = held_same c.args.objects.now c.objects-in-Err-1.given.0 (as_before c)
