-- An object kept where its key stands.
use Rattle.std.proofs.Common.{◌≡◌, ℕ, Bool, true, false, cond, Equal, is_eq, List, [], ◌∷◌, Option, Some, None, refl, sym, ap, ap₂, ◌∙◌}
use Rattle.std.specs.BTreeMap.{BTreeMap, get}
use Rattle.std.specs.Map.{lookup, remove_entry}
use Rattle.indexer.specs.declared.entry.Entry.{Entry}
use Rattle.indexer.specs.declared.object.Object.{Object}
use Rattle.indexer.specs.declared.object.ObjectKey.{ObjectKey}
use Rattle.indexer.specs.Keys.{key_cmp, is_same, IsKeyOf, IsCopyOf}
use Rattle.indexer.specs.Kept.{has_key, HoldsPostings}
use Rattle.indexer.specs.Objects.{Shared, place_of, place_of_object, texts_at, is_among, under_at}
use Rattle.indexer.specs.Postings.{Postings}
use Rattle.indexer.proofs.Same.{same_bytes, get_copy}
use Rattle.indexer.proofs.Under.{same_copy}

pub place_key : (object : Object) (key : ObjectKey) → IsKeyOf object key → place_of key ≡ place_of_object object
place_key object key of = ap₂ (λ (a b : List ℕ). (a, b)) of.namespace of.name

pub shared_key : (shared : Shared) (object : Object) (key : ObjectKey) → object ≡ shared.value → IsKeyOf object key → place_of key ≡ place_of_object shared.value
shared_key shared object key is of = place_key object key of ∙ ap place_of_object is

-- the key that stands there has the same bytes
pub found_copy : (key found : ObjectKey) → key_cmp key found ≡ Equal → IsCopyOf key found
found_copy key found is = same_bytes key found (ap is_eq is)

-- taking out a key at which nothing stands
pub none_removed : (p : ObjectKey → Bool) (es : List (ObjectKey × Entry)) → lookup p es ≡ None → remove_entry p es ≡ es
none_removed p [] is = refl
none_removed p (e ∷ es) is = go (p e.0) is (λ h. none_removed p es h)
  where
    go : (t : Bool) → cond t (Some e.1) (lookup p es) ≡ None → (lookup p es ≡ None → remove_entry p es ≡ es) → cond t es (e ∷ remove_entry p es) ≡ e ∷ es
    go true is rest = absurd cc
    go false is rest = ap (λ (l : List (ObjectKey × Entry)). e ∷ l) (rest is)

pub same_value : {X : Type 0} {a b : X} {o : Option X} → o ≡ Some a → o ≡ Some b → b ≡ a
same_value one other = let same = sym other ∙ one in cc

-- what is kept at a key that is the same as the one that stands there
pub get_found : (objects : BTreeMap ObjectKey Entry) (key found q : ObjectKey) (o : Option Entry) → IsCopyOf key found → get key_cmp objects key ≡ o → is_same found q ≡ true → get key_cmp objects q ≡ o
get_found objects key found q o copy is same = get_copy objects found q (same_bytes found q same) ∙ get_copy objects key found copy ∙ is

pub holds_written : (old new : BTreeMap ObjectKey Entry) (before after : List Postings) (key found : ObjectKey) (entry : Entry) → HoldsPostings old before → IsCopyOf key found
    → ((q : ObjectKey) → get key_cmp new q ≡ cond (is_same key q) (Some entry) (get key_cmp old q))
    → ((i : ℕ) (k : List ℕ) (q : ObjectKey) → under_at after i k q ≡ cond (is_same found q) (is_among (texts_at entry.keys.items i) k) (under_at before i k q))
    → HoldsPostings new after
holds_written old new before after key found entry holds copy sets moves i k q =
    moves i k q ∙ ap (λ t. cond t (is_among (texts_at entry.keys.items i) k) (under_at before i k q)) (same_copy key found q copy)
    ∙ ap (cond (is_same key q) (is_among (texts_at entry.keys.items i) k)) (holds i k q) ∙ go (is_same key q) (get key_cmp old q)
    ∙ sym (ap (λ o. has_key o i k) (sets q))
  where
    go : (t : Bool) (o : Option Entry) → cond t (is_among (texts_at entry.keys.items i) k) (has_key o i k) ≡ has_key (cond t (Some entry) o) i k
    go true o = refl
    go false o = refl
