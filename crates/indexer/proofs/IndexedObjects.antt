-- The objects as a map, after one change.
use Rattle.std.proofs.Common.{T, subst, suc, length, ◌≡◌, ℕ, Bool, true, false, ◌&&◌, cond, List, [], ◌∷◌, map, Option, Some, None, Ordering, Less, Equal, Greater, nat_cmp, is_eq, refl, sym, ap, ap₂, ◌∙◌, true≢false}
use Rattle.std.specs.Prelude.{option_map}
use Rattle.std.specs.BTreeMap.{BTreeMap, is_at, get, insert_entry}
use Rattle.std.specs.Cmp.{IsTotalOrder}
use Rattle.std.specs.Cmp.Lexicographic.{slice_cmp}
use Rattle.std.specs.FinMap as fin
use Rattle.std.specs.FinMap.{find, IsAntisymmetric}
use Rattle.std.specs.FinMap.Entries as entries
use Rattle.std.specs.List.{AllByRecursion}
use Rattle.std.specs.List.Sorted.{IsStrictlySortedBy}
use Rattle.std.specs.Map.{keys_of, lookup, remove_entry}
use Rattle.std.specs.Ordering.{match_ordering, eq_by_cmp, is_lt}
use Rattle.std.proofs.lemmas.Map.Keys.{sorted_head, sorted_tail}
use Rattle.std.proofs.lemmas.Cmp.{then_total, on_total, nat_list_cmp_total}
use Rattle.indexer.specs.declared.entry.Entry.{Entry}
use Rattle.indexer.specs.declared.object.ObjectKey.{ObjectKey}
use Rattle.indexer.specs.Keys.{key_cmp, is_same}
use Rattle.indexer.specs.Indexer.{has_one, is_under_number}
use Rattle.indexer.specs.Kept.{indexed_objects_in, seen_of, has_key, objects_in, HoldsPostings}
use Rattle.indexer.specs.Postings.{Postings}
use Rattle.indexer.specs.Objects.{Place, place_cmp, place_of, Stored, under_number}
use Rattle.indexer.proofs.Same.{then_equal, texts_equal, equal_texts}

pub place_total : IsTotalOrder place_cmp
place_total = then_total (on_total (λ p. p.0) nat_list_cmp_total) (on_total (λ p. p.1) nat_list_cmp_total)

abbrev shown : ObjectKey × Entry → Place × (Stored × List (List (List ℕ)))
shown e = (place_of e.0, seen_of e.1)

left : (a b : Bool) → (a && b) ≡ true → a ≡ true
left true b h = refl
left false b h = h

right : (a b : Bool) → (a && b) ≡ true → b ≡ true
right true b h = h
right false b h = absurd cc

pub same_place : (a b : Place) → eq_by_cmp place_cmp a b ≡ true → a ≡ b
same_place a b h =
    let e = sym (then_equal (slice_cmp nat_cmp a.0 b.0) (slice_cmp nat_cmp a.1 b.1)) ∙ h in
    ap₂ (λ (x y : List ℕ). (x, y)) (texts_equal a.0 b.0 (left _ (is_eq (slice_cmp nat_cmp a.1 b.1)) e)) (texts_equal a.1 b.1 (right (is_eq (slice_cmp nat_cmp a.0 b.0)) _ e))

pub place_itself : (a b : Place) → a ≡ b → eq_by_cmp place_cmp a b ≡ true
place_itself a b h =
    then_equal (slice_cmp nat_cmp a.0 b.0) (slice_cmp nat_cmp a.1 b.1)
    ∙ ap₂ (λ x y. x && y) (equal_texts a.0 b.0 (ap (λ (p : Place). p.0) h)) (equal_texts a.1 b.1 (ap (λ (p : Place). p.1) h))

pub place_antisymmetric : IsAntisymmetric place_cmp
place_antisymmetric a b h = same_place a b (ap is_eq h)

-- ---- look-ups

pub find_get : (key : ObjectKey) (es : List (ObjectKey × Entry)) → find place_cmp (place_of key) (map shown es) ≡ option_map seen_of (lookup (is_at (key_cmp key)) es)
find_get key [] = refl
find_get key (e ∷ es) = go (is_same key e.0) (find_get key es)
  where
    go : (t : Bool) → find place_cmp (place_of key) (map shown es) ≡ option_map seen_of (lookup (is_at (key_cmp key)) es)
        → cond t (Some (seen_of e.1)) (find place_cmp (place_of key) (map shown es)) ≡ option_map seen_of (cond t (Some e.1) (lookup (is_at (key_cmp key)) es))
    go true h = refl
    go false h = h

pub get_held : (objects : BTreeMap ObjectKey Entry) (key : ObjectKey) → fin.get (indexed_objects_in objects) (place_of key) ≡ option_map seen_of (get key_cmp objects key)
get_held objects key = fin.get-from_entries place_total (map shown objects.entries) (place_of key) ∙ find_get key objects.entries

find_insert : (q : Place) (key : ObjectKey) (entry : Entry) (es : List (ObjectKey × Entry))
    → find place_cmp q (map shown (insert_entry key_cmp es key entry)) ≡ cond (eq_by_cmp place_cmp q (place_of key)) (Some (seen_of entry)) (find place_cmp q (map shown es))
find_insert q key entry [] = refl
find_insert q key entry (e ∷ es) = go (key_cmp key e.0) refl (find_insert q key entry es)
  where
    twice : {X : Type 0} (t : Bool) (x y z : X) → cond t x z ≡ cond t x (cond t y z)
    twice true x y z = refl
    twice false x y z = refl

    apart : {X : Type 0} (s t : Bool) (x y z w : X) → (s ≡ true → t ≡ true → x ≡ y) → w ≡ cond t y z → cond s x w ≡ cond t y (cond s x z)
    apart true true x y z w h e = h refl refl
    apart true false x y z w h e = refl
    apart false true x y z w h e = e
    apart false false x y z w h e = e

    go : (o : Ordering) → key_cmp key e.0 ≡ o
        → find place_cmp q (map shown (insert_entry key_cmp es key entry)) ≡ cond (eq_by_cmp place_cmp q (place_of key)) (Some (seen_of entry)) (find place_cmp q (map shown es))
        → find place_cmp q (map shown (match_ordering o ((key, entry) ∷ e ∷ es) ((e.0, entry) ∷ es) (e ∷ insert_entry key_cmp es key entry)))
        ≡ cond (eq_by_cmp place_cmp q (place_of key)) (Some (seen_of entry)) (find place_cmp q (map shown (e ∷ es)))
    go Less is rest = refl
    go Equal is rest =
        let same : place_of key ≡ place_of e.0 = same_place (place_of key) (place_of e.0) (ap is_eq is) in
        twice (eq_by_cmp place_cmp q (place_of e.0)) (Some (seen_of entry)) (Some (seen_of e.1)) (find place_cmp q (map shown es))
        ∙ ap (λ (p : Place). cond (eq_by_cmp place_cmp q p) (Some (seen_of entry)) (cond (eq_by_cmp place_cmp q (place_of e.0)) (Some (seen_of e.1)) (find place_cmp q (map shown es)))) (sym same)
    go Greater is rest =
        apart (eq_by_cmp place_cmp q (place_of e.0)) (eq_by_cmp place_cmp q (place_of key)) (Some (seen_of e.1)) (Some (seen_of entry)) (find place_cmp q (map shown es)) _
        (λ s t.
        let same : place_of key ≡ place_of e.0 = sym (same_place q (place_of key) t) ∙ same_place q (place_of e.0) s in
        absurd (true≢false (sym (place_itself (place_of key) (place_of e.0) same) ∙ ap is_eq is)))
        rest

find_removed : (q : Place) (key : ObjectKey) (es : List (ObjectKey × Entry)) → eq_by_cmp place_cmp q (place_of key) ≡ false
    → find place_cmp q (map shown (remove_entry (is_at (key_cmp key)) es)) ≡ find place_cmp q (map shown es)
find_removed q key [] other = refl
find_removed q key (e ∷ es) other = go (is_same key e.0) refl (find_removed q key es other)
  where
    go : (t : Bool) → is_same key e.0 ≡ t → find place_cmp q (map shown (remove_entry (is_at (key_cmp key)) es)) ≡ find place_cmp q (map shown es)
        → find place_cmp q (map shown (cond t es (e ∷ remove_entry (is_at (key_cmp key)) es))) ≡ find place_cmp q (map shown (e ∷ es))
    go true is rest =
        let same : place_of key ≡ place_of e.0 = same_place (place_of key) (place_of e.0) is in
        sym (ap (λ b. cond b (Some (seen_of e.1)) (find place_cmp q (map shown es))) (ap (eq_by_cmp place_cmp q) (sym same) ∙ other))
    go false is rest = ap (cond (eq_by_cmp place_cmp q (place_of e.0)) (Some (seen_of e.1))) rest

-- ---- the two changes

pub held_insert : (old new : BTreeMap ObjectKey Entry) (key : ObjectKey) (entry : Entry) → new.entries ≡ insert_entry key_cmp old.entries key entry
    → indexed_objects_in new ≡ fin.insert (indexed_objects_in old) (place_of key) (seen_of entry)
held_insert old new key entry is = fin.same_map place_total place_antisymmetric _ _ (λ q.
    fin.get-from_entries place_total (map shown new.entries) q
    ∙ ap (λ (es : List (ObjectKey × Entry)). find place_cmp q (map shown es)) is ∙ find_insert q key entry old.entries
    ∙ ap (cond (eq_by_cmp place_cmp q (place_of key)) (Some (seen_of entry))) (sym (fin.get-from_entries place_total (map shown old.entries) q))
    ∙ sym (fin.get-insert place_total (indexed_objects_in old) (place_of key) (seen_of entry) q))

pub held_remove : (old new : BTreeMap ObjectKey Entry) (key : ObjectKey) → new.entries ≡ remove_entry (is_at (key_cmp key)) old.entries → get key_cmp new key ≡ None
    → indexed_objects_in new ≡ fin.remove (indexed_objects_in old) (place_of key)
held_remove old new key is none = fin.same_map place_total place_antisymmetric _ _ (λ q.
    fin.get-from_entries place_total (map shown new.entries) q ∙ go q (eq_by_cmp place_cmp q (place_of key)) refl
    ∙ sym (fin.get-remove place_total (indexed_objects_in old) (place_of key) q))
  where
    go : (q : Place) (t : Bool) → eq_by_cmp place_cmp q (place_of key) ≡ t → find place_cmp q (map shown new.entries) ≡ cond t None (fin.get (indexed_objects_in old) q)
    go q true e = ap (λ (p : Place). find place_cmp p (map shown new.entries)) (same_place q (place_of key) e) ∙ find_get key new.entries ∙ ap (option_map seen_of) none
    go q false e =
        ap (λ (es : List (ObjectKey × Entry)). find place_cmp q (map shown es)) is ∙ find_removed q key old.entries e
        ∙ sym (fin.get-from_entries place_total (map shown old.entries) q)

-- the same entries are the same objects
pub held_same : (old new : BTreeMap ObjectKey Entry) → new.entries ≡ old.entries → indexed_objects_in new ≡ indexed_objects_in old
held_same old new is = fin.same_map place_total place_antisymmetric _ _ (λ q.
    fin.get-from_entries place_total (map shown new.entries) q ∙ ap (λ (es : List (ObjectKey × Entry)). find place_cmp q (map shown es)) is
    ∙ sym (fin.get-from_entries place_total (map shown old.entries) q))

-- ---- under the keys of an index

has_is : (o : Option Entry) (i : ℕ) (k : List ℕ) → has_key o i k ≡ has_one (option_map seen_of o) i k
has_is None i k = refl
has_is (Some entry) i k = refl

pub under_is : (objects : BTreeMap ObjectKey Entry) (postings : List Postings) → HoldsPostings objects postings → (n : Option ℕ) (k : List ℕ) (q : ObjectKey)
    → under_number postings n k q ≡ is_under_number (indexed_objects_in objects) n k (place_of q)
under_is objects postings holds None k q = refl
under_is objects postings holds (Some i) k q = holds i k q ∙ has_is (get key_cmp objects q) i k ∙ sym (ap (λ o. has_one o i k) (get_held objects q))

-- ---- how many there are

both_hold : (a b : Bool) → T a → T b → T (a && b)
both_hold true b x y = y
both_hold false b x y = absurd x

all_below : (k : ObjectKey) (es : List (ObjectKey × Entry)) → AllByRecursion (λ y. key_cmp k y ≡ Less) (keys_of es) → T (entries.below_all place_cmp (place_of k) (map shown es))
all_below k [] h = tt
all_below k (e ∷ es) h = subst T (sym (ap (λ o. is_lt o && entries.below_all place_cmp (place_of k) (map shown es)) h.0)) (all_below k es h.1)

in_order : (es : List (ObjectKey × Entry)) → IsStrictlySortedBy key_cmp (keys_of es) → T (fin.is_sorted place_cmp (map shown es))
in_order [] h = tt
in_order (e ∷ es) h = both_hold _ _ (all_below e.0 es (sorted_head key_cmp e.0 (keys_of es) h)) (in_order es (sorted_tail key_cmp e.0 (keys_of es) h))

shown_length : (es : List (ObjectKey × Entry)) → length (map shown es) ≡ length es
shown_length [] = refl
shown_length (e ∷ es) = ap suc (shown_length es)

abbrev pub without_keys : ObjectKey × Entry → Place × Stored
without_keys e = (place_of e.0, (seen_of e.1).0)

held_entries : (objects : BTreeMap ObjectKey Entry) → IsStrictlySortedBy key_cmp (keys_of objects.entries) → fin.entries (indexed_objects_in objects) ≡ map shown objects.entries
held_entries objects h =
    let es = map shown objects.entries in
    let sorted = in_order objects.entries h in
    ap fin.entries (fin.same_map place_total place_antisymmetric (indexed_objects_in objects) (fin.from_sorted es) (λ q. fin.get-from_entries place_total es q ∙ sym (fin.get-from_sorted place_cmp es q sorted)))
    ∙ fin.entries-from_sorted place_cmp es sorted

bare : (es : List (ObjectKey × Entry)) → map (λ e. (e.0, e.1.0)) (map shown es) ≡ map without_keys es
bare [] = refl
bare (e ∷ es) = ap (λ rest. (place_of e.0, (seen_of e.1).0) ∷ rest) (bare es)

pub held_objects : (objects : BTreeMap ObjectKey Entry) → IsStrictlySortedBy key_cmp (keys_of objects.entries) → map without_keys objects.entries ≡ objects_in (indexed_objects_in objects)
held_objects objects h = sym (ap (map (λ e. (e.0, e.1.0))) (held_entries objects h) ∙ bare objects.entries)

pub held_len : (objects : BTreeMap ObjectKey Entry) → IsStrictlySortedBy key_cmp (keys_of objects.entries) → length objects.entries ≡ fin.len (indexed_objects_in objects)
held_len objects h = sym (fin.len-entries (indexed_objects_in objects) ∙ ap length (held_entries objects h) ∙ shown_length objects.entries)
