-- A line taken in, beside the client that hears it.
use Rattle.std.proofs.lemmas.Bool.Decides.{leb_tells}
use Rattle.std.proofs.Common.{arith, inl, inr, suc, not, ◌≡◌, ℕ, Bool, true, false, cond, ◌&&◌, List, [], ◌++◌, Option, Some, None, append-nil, unwrap_or, refl, sym, ap, ap₂, subst, ◌∙◌}
use Rattle.std.specs.Prelude.{option_map, nat_lt, nat_le}
use Rattle.std.specs.FinMap as fin
use Rattle.indexer.specs.Kept.{IndexedObjects}
use Rattle.indexer.specs.Objects.{Place, Stored}
use Rattle.reflector.specs.Client.{place_in, max_objects, Notice, Cache, Client, kept, notice_of}
use Rattle.decoder.specs.Lines.{Line}
use Rattle.reflector.specs.Items.{line}
use Rattle.reflector.specs.Run.{relisting, moved, with_put, with_deleted, with_bookmark, with_line, with_watch}
use Rattle.reflector.specs.MirrorViews.{Keys, keyed, len_with, Mirrors}
use Rattle.reflector.specs.MirrorRepresentsViews.{keys_in}
use Rattle.reflector.specs.RelistReasons.{bookmark_reason, deleted_reason, line_reason, put_reason}
use Rattle.reflector.specs.declared.relist_reason.RelistReason.{RelistReason}
use Rattle.reflector.specs.declared.relist_reason.RelistReason.TheVariants.{NotAList, TooManyObjects, StaleEvent, StaleBookmark}
use Rattle.reflector.proofs.Keyed.{beside, keyed-object, keyed-insert, keyed-remove, keyed-len_insert}

turned : (a b : ℕ) → nat_le b a ≡ not (nat_lt a b)
turned a b =
    elim (leb_tells b a) [
      | inl e ↦ elim (leb_tells (suc a) b) [
        | inl f ↦ let x = e.1 in let y = f.1 in absurd (omega (arith, x, y))
        | inr f ↦ e.0 ∙ sym (ap not f.0)
      ]
      | inr e ↦ elim (leb_tells (suc a) b) [
        | inl f ↦ e.0 ∙ sym (ap not f.0)
        | inr f ↦ let x = e.1 in let y = f.1 in absurd (omega (arith, x, y))
      ]
    ]

-- giving up keeps all
pub given_up : (ks : Keys) (held : IndexedObjects) (r : Option ℕ) (notes : List Notice) (c : Client) → Mirrors ks held r notes c → Mirrors ks held r notes (relisting c)
given_up ks held r notes c m = record { objects = m.objects; revision = m.revision; notices = m.notices }

module _ (ks : Keys) (held : IndexedObjects) (r : Option ℕ) (notes : List Notice) (c : Client) (cache : Cache) (m : Mirrors ks held r notes c) (is : c.cache ≡ Some cache) where
  there : held ≡ keyed ks cache.objects
  there = m.objects ∙ ap (λ k. keyed ks (kept k)) is

  object_there : (p : Place) → option_map (λ h. h.0) (fin.get held p) ≡ fin.get cache.objects p
  object_there p = ap (λ h. option_map (λ e. e.0) (fin.get h p)) there ∙ keyed-object ks cache.objects p

  -- ---- put

  module _ (o : Stored) where
    length_there : len_with held (place_in o) ≡ fin.len (fin.insert cache.objects (place_in o) o)
    length_there = ap (λ h. len_with h (place_in o)) there ∙ keyed-len_insert ks cache.objects (place_in o) o

    -- by whether the revision is above, and whether there is room
    put_by : (a b : Bool) → nat_lt cache.revision o.revision ≡ a → nat_le (len_with held (place_in o)) max_objects ≡ b
        → (with_put c cache o ≡ cond (a && b) (moved c o.revision (fin.insert cache.objects (place_in o) o) (notice_of (fin.get cache.objects (place_in o)) (Some o))) (relisting c))
        × (put_reason cache o ≡ cond a (cond b None (Some TooManyObjects)) (Some StaleEvent))
    put_by a b is_above has_room =
        let fits = ap (λ (n : ℕ). nat_le n max_objects) (sym length_there) ∙ has_room in (
          ap₂ (λ (s t : Bool). cond (s && t) (moved c o.revision (fin.insert cache.objects (place_in o) o) (notice_of (fin.get cache.objects (place_in o)) (Some o))) (relisting c)) is_above fits,
          ap₂ (λ (s t : Bool). cond s (cond t None (Some TooManyObjects)) (Some StaleEvent)) is_above fits,
        )

    pub put_taken : (held_now : IndexedObjects) (r_now : Option ℕ) (notes_now : List Notice) → nat_lt cache.revision o.revision ≡ true → nat_le (len_with held (place_in o)) max_objects ≡ true
        → held_now ≡ fin.insert held (place_in o) (o, ks o) → r_now ≡ Some o.revision → notes_now ≡ notes ++ notice_of (option_map (λ h. h.0) (fin.get held (place_in o))) (Some o)
        → Mirrors ks held_now r_now notes_now (with_put c cache o) × (None ≡ put_reason cache o)
    put_taken held_now r_now notes_now is_above has_room puts at notifies =
        let by = put_by true true is_above has_room in (
          subst (Mirrors ks held_now r_now notes_now) (sym by.0) (record {
            objects = puts ∙ ap (λ h. fin.insert h (place_in o) (beside ks o)) there ∙ keyed-insert ks cache.objects (place_in o) o;
            revision = at;
            notices = notifies ∙ ap (λ n. n ++ notice_of (option_map (λ h. h.0) (fin.get held (place_in o))) (Some o)) m.notices ∙ ap (λ x. c.notices ++ notice_of x (Some o)) (object_there (place_in o));
          }),
          sym by.1,
        )

    pub put_full : nat_lt cache.revision o.revision ≡ true → nat_le (len_with held (place_in o)) max_objects ≡ false → Mirrors ks held r notes (with_put c cache o) × (Some TooManyObjects ≡ put_reason cache o)
    put_full is_above has_room = let by = put_by true false is_above has_room in (subst (Mirrors ks held r notes) (sym by.0) (given_up ks held r notes c m), sym by.1)

    -- ---- deleted

    deleted_by : (b : Bool) → nat_lt cache.revision o.revision ≡ b
        → (with_deleted c cache o ≡ cond b (moved c o.revision (fin.remove cache.objects (place_in o)) (notice_of (fin.get cache.objects (place_in o)) None)) (relisting c))
        × (deleted_reason cache o ≡ cond b None (Some StaleEvent))
    deleted_by b h = (
      ap (λ (t : Bool). cond t (moved c o.revision (fin.remove cache.objects (place_in o)) (notice_of (fin.get cache.objects (place_in o)) None)) (relisting c)) h,
      ap (λ (t : Bool). cond t None (Some StaleEvent)) h,
    )

    pub deleted_taken : (held_now : IndexedObjects) (r_now : Option ℕ) (notes_now : List Notice) → nat_lt cache.revision o.revision ≡ true
        → held_now ≡ fin.remove held (place_in o) → r_now ≡ Some o.revision → notes_now ≡ notes ++ notice_of (option_map (λ h. h.0) (fin.get held (place_in o))) None
        → Mirrors ks held_now r_now notes_now (with_deleted c cache o) × (None ≡ deleted_reason cache o)
    deleted_taken held_now r_now notes_now is_above removes at notifies =
        let by = deleted_by true is_above in (
          subst (Mirrors ks held_now r_now notes_now) (sym by.0) (record {
            objects = removes ∙ ap (λ h. fin.remove h (place_in o)) there ∙ keyed-remove ks cache.objects (place_in o);
            revision = at;
            notices = notifies ∙ ap (λ n. n ++ notice_of (option_map (λ h. h.0) (fin.get held (place_in o))) None) m.notices ∙ ap (λ x. c.notices ++ notice_of x None) (object_there (place_in o));
          }),
          sym by.1,
        )

  -- ---- bookmark

  bookmark_by : (revision : ℕ) (b : Bool) → nat_le cache.revision revision ≡ b
      → (with_bookmark c cache revision ≡ cond b (moved c revision cache.objects []) (relisting c)) × (bookmark_reason cache revision ≡ cond b None (Some StaleBookmark))
  bookmark_by revision b h = (ap (λ (t : Bool). cond t (moved c revision cache.objects []) (relisting c)) h, ap (λ (t : Bool). cond t None (Some StaleBookmark)) h)

  pub bookmark_taken : (revision : ℕ) (r_now : Option ℕ) → nat_le cache.revision revision ≡ true → r_now ≡ Some revision
      → Mirrors ks held r_now notes (with_bookmark c cache revision) × (None ≡ bookmark_reason cache revision)
  bookmark_taken revision r_now reaches at =
      let by = bookmark_by revision true reaches in
      (subst (Mirrors ks held r_now notes) (sym by.0) (record { objects = there; revision = at; notices = m.notices ∙ sym (append-nil c.notices) }), sym by.1)

  pub bookmark_low : (revision : ℕ) → nat_le cache.revision revision ≡ false → Mirrors ks held r notes (with_bookmark c cache revision) × (Some StaleBookmark ≡ bookmark_reason cache revision)
  bookmark_low revision reaches = let by = bookmark_by revision false reaches in (subst (Mirrors ks held r notes) (sym by.0) (given_up ks held r notes c m), sym by.1)

-- ---- as the code has it: the indexes as they are before and after, and the cache's revision

module _ {I : Type 0} (keys : I → Stored → List (List ℕ)) (before after : List I) (held : IndexedObjects) (r : Option ℕ) (notes : List Notice) (now : ℕ) where
  above_now : (revision : ℕ) (is_above b : Bool) (cache : Cache) → is_above ≡ nat_lt now revision → is_above ≡ b → now ≡ cache.revision → nat_lt cache.revision revision ≡ b
  above_now revision is_above b cache tests is_so of_now = ap (λ n. nat_lt n revision) (sym of_now) ∙ sym tests ∙ is_so

  pub after_put : (held_now : IndexedObjects) (r_now : Option ℕ) (notes_now : List Notice) (o : Stored) (is_above has_room : Bool) → is_above ≡ nat_lt now o.revision → is_above ≡ true
      → has_room ≡ nat_le (len_with held (place_in o)) max_objects → has_room ≡ true → after ≡ before
      → held_now ≡ fin.insert held (place_in o) (o, keys_in keys before o) → r_now ≡ Some o.revision → notes_now ≡ notes ++ notice_of (option_map (λ h. h.0) (fin.get held (place_in o))) (Some o)
      → (c : Client) (cache : Cache) → Mirrors (keys_in keys before) held r notes c → c.cache ≡ Some cache → now ≡ cache.revision
      → Mirrors (keys_in keys after) held_now r_now notes_now (with_put c cache o) × (None ≡ put_reason cache o)
  after_put held_now r_now notes_now o is_above has_room tests is_so counts is_room same puts at notifies c cache m is of_now =
      subst (λ is. Mirrors (keys_in keys is) held_now r_now notes_now (with_put c cache o) × (None ≡ put_reason cache o)) (sym same)
      (put_taken (keys_in keys before) held r notes c cache m is o held_now r_now notes_now (above_now o.revision is_above true cache tests is_so of_now) (sym counts ∙ is_room) puts at notifies)

  pub full_put : (o : Stored) (is_above has_room : Bool) → is_above ≡ nat_lt now o.revision → is_above ≡ true → has_room ≡ nat_le (len_with held (place_in o)) max_objects → has_room ≡ false
      → (c : Client) (cache : Cache) → Mirrors (keys_in keys before) held r notes c → c.cache ≡ Some cache → now ≡ cache.revision
      → Mirrors (keys_in keys before) held r notes (with_put c cache o) × (Some TooManyObjects ≡ put_reason cache o)
  full_put o is_above has_room tests is_so counts is_room c cache m is of_now =
      put_full (keys_in keys before) held r notes c cache m is o (above_now o.revision is_above true cache tests is_so of_now) (sym counts ∙ is_room)

  pub after_deleted : (held_now : IndexedObjects) (r_now : Option ℕ) (notes_now : List Notice) (o : Stored) (is_above : Bool) → is_above ≡ nat_lt now o.revision → is_above ≡ true → after ≡ before
      → held_now ≡ fin.remove held (place_in o) → r_now ≡ Some o.revision → notes_now ≡ notes ++ notice_of (option_map (λ h. h.0) (fin.get held (place_in o))) None
      → (c : Client) (cache : Cache) → Mirrors (keys_in keys before) held r notes c → c.cache ≡ Some cache → now ≡ cache.revision
      → Mirrors (keys_in keys after) held_now r_now notes_now (with_deleted c cache o) × (None ≡ deleted_reason cache o)
  after_deleted held_now r_now notes_now o is_above tests is_so same removes at notifies c cache m is of_now =
      subst (λ is. Mirrors (keys_in keys is) held_now r_now notes_now (with_deleted c cache o) × (None ≡ deleted_reason cache o)) (sym same)
      (deleted_taken (keys_in keys before) held r notes c cache m is o held_now r_now notes_now (above_now o.revision is_above true cache tests is_so of_now) removes at notifies)

  reaches_now : (revision : ℕ) (is_below b : Bool) (cache : Cache) → is_below ≡ nat_lt revision now → is_below ≡ b → now ≡ cache.revision → nat_le cache.revision revision ≡ not b
  reaches_now revision is_below b cache tests is_so of_now = ap (λ n. nat_le n revision) (sym of_now) ∙ turned revision now ∙ ap not (sym tests ∙ is_so)

  pub after_bookmark : (r_now : Option ℕ) (revision : ℕ) (is_below : Bool) → is_below ≡ nat_lt revision now → is_below ≡ false → r_now ≡ Some revision
      → (c : Client) (cache : Cache) → Mirrors (keys_in keys before) held r notes c → c.cache ≡ Some cache → now ≡ cache.revision
      → Mirrors (keys_in keys before) held r_now notes (with_bookmark c cache revision) × (None ≡ bookmark_reason cache revision)
  after_bookmark r_now revision is_below tests is_so at c cache m is of_now =
      bookmark_taken (keys_in keys before) held r notes c cache m is revision r_now (reaches_now revision is_below false cache tests is_so of_now) at

  pub low_bookmark : (revision : ℕ) (is_below : Bool) → is_below ≡ nat_lt revision now → is_below ≡ true
      → (c : Client) (cache : Cache) → Mirrors (keys_in keys before) held r notes c → c.cache ≡ Some cache → now ≡ cache.revision
      → Mirrors (keys_in keys before) held r notes (with_bookmark c cache revision) × (Some StaleBookmark ≡ bookmark_reason cache revision)
  low_bookmark revision is_below tests is_so c cache m is of_now =
      bookmark_low (keys_in keys before) held r notes c cache m is revision (reaches_now revision is_below true cache tests is_so of_now)

-- ---- by what the cache has

none_kept : (cache : Option Cache) → None ≡ option_map (λ now. now.revision) cache → cache ≡ None
none_kept None h = refl
none_kept (Some now) h = absurd cc

one_kept : (cache : Option Cache) (now : ℕ) → Some now ≡ option_map (λ now. now.revision) cache → (k : Cache) × (cache ≡ Some k) × (now ≡ k.revision)
one_kept None now h = absurd cc
one_kept (Some k) now h = (k, refl, ap (λ o. unwrap_or o now) h)

-- a line where nothing is kept yet
pub nothing_kept : (ks : Keys) (held : IndexedObjects) (r : Option ℕ) (notes : List Notice) (l : Line) → r ≡ None → (c : Client) → Mirrors ks held r notes c
    → Mirrors ks held r notes (with_watch c c.cache (line l)) × (Some NotAList ≡ line_reason c.cache l)
nothing_kept ks held r notes l is c m =
    subst (λ k. Mirrors ks held r notes (with_watch c k (line l)) × (Some NotAList ≡ line_reason k l)) (sym (none_kept c.cache (sym is ∙ m.revision))) (given_up ks held r notes c m, refl)

-- a line where something is kept, whatever is to be shown of the client after it, and of what is wrong with the line
pub something_kept : (ks : Keys) (held : IndexedObjects) (r : Option ℕ) (notes : List Notice) (now : ℕ) (l : Line) → r ≡ Some now → (c : Client) → Mirrors ks held r notes c → (P : Client → Option RelistReason → Type 0)
    → ((k : Cache) → c.cache ≡ Some k → now ≡ k.revision → P (with_line c k l) (line_reason (Some k) l)) → P (with_watch c c.cache (line l)) (line_reason c.cache l)
something_kept ks held r notes now l is c m P h =
    let t = one_kept c.cache now (sym is ∙ m.revision) in
    subst (λ k. P (with_watch c k (line l)) (line_reason k l)) (sym t.1) (h t.0 t.1 t.2)
