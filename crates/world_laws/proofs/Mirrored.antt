-- The objects of a state as the client has them: place by place, after one change, in the client's order, and the prefixes of a list.
use Rattle.std.proofs.Common.{◌≡◌, ℕ, Bool, true, false, cond, T, List, [], ◌∷◌, ◌++◌, Option, Some, None, refl, sym, ap, ap₂, subst, ◌∙◌, is_eq, is_lt}
use Rattle.std.specs.Cmp.{nat_cmp_total, tied_itself}
use Rattle.std.specs.FinMap as fin
use Rattle.std.specs.FinMap.{find, is_sorted}
use Rattle.std.specs.FinMap.Entries.{below_all}
use Rattle.std.specs.List.{AllByRecursion, flat_map}
use Rattle.std.specs.Ordering.{eq_by_cmp, nat_cmp, ordering_then}
use Rattle.std.specs.declared.result.Result.TheVariants.{Ok, Err}
use Rattle.history.specs.History.{Key, Object, key_cmp, text_cmp}
use Rattle.history.specs.History as history
use Rattle.history.proofs.Keys.{key_cmp_total, tied}
use Rattle.history.proofs.Selecting.{both, fst, snd}
use Rattle.indexer.specs.Objects.{Place, Stored, place_cmp}
use Rattle.indexer.proofs.IndexedObjects.{place_antisymmetric, place_total}
use Rattle.decoder.specs.Members.{Read}
use Rattle.decoder.specs.OwnTexts.{object_in}
use Rattle.decoder.specs.Wanted.{Wanted}
use Rattle.reflector.specs.Client.{by_place, place_in}
use Rattle.line_laws.specs.Listed.{AreReadAs, IsReadAs}
use Rattle.line_laws.proofs.Kept.{each_entry}
use Rattle.world_laws.proofs.Mirror.{mirrored, stored_by}
use Rattle.world_laws.specs.Reports.{IsStateAt}

abbrev pub Entries : Type 0
Entries = List (Key × Object)

-- ---- objects of one type that the client reads

-- the client reads it as the object of its key, which is of the type
abbrev pub IsRead : Wanted → ℕ → Key → Object → Type 0
IsRead wanted kind k o = (k.kind ≡ kind) × (x : Stored) × IsReadAs wanted k o x

-- so it reads each of these
abbrev pub AreRead : Wanted → ℕ → history.Objects → Type 0
AreRead wanted kind s = (k : Key) (o : Object) → fin.get s k ≡ Some o → IsRead wanted kind k o

abbrev pub place_of : Key → Place
place_of k = (k.namespace, k.name)

abbrev pub key_at : ℕ → Place → Key
key_at kind p = record { kind = kind; namespace = p.0; name = p.1 }

-- the object that is read, if one stands there
abbrev pub as_stored : Read Stored → Option Stored
as_stored (Ok x) = Some x
as_stored (Err m) = None

abbrev pub stored_from : Wanted → Option Object → Option Stored
stored_from wanted None = None
stored_from wanted (Some o) = as_stored (object_in wanted o.body)

-- ---- orders

-- of one type, keys are ordered as their places are
pub place_order : (p q : Key) → p.kind ≡ q.kind → key_cmp p q ≡ place_cmp (place_of p) (place_of q)
place_order p q same = ap (λ r. ordering_then r (ordering_then (text_cmp p.namespace q.namespace) (text_cmp p.name q.name))) (ap (nat_cmp p.kind) (sym same) ∙ tied_itself nat_cmp_total p.kind)

pub read_place : (wanted : Wanted) (k : Key) (o : Object) (x : Stored) → IsReadAs wanted k o x → place_in x ≡ place_of k
read_place wanted k o x is = ap₂ (λ (a b : List ℕ). (a, b)) is.of_namespace is.of_name

module _ (wanted : Wanted) (kind : ℕ) where
  abbrev pub AllRead : Entries → Type 0
  AllRead = AllByRecursion (λ e. IsRead wanted kind e.0 e.1)

  pub each_read : (s : history.Objects) → AreRead wanted kind s → AllRead (fin.entries s)
  each_read s are = each_entry (IsRead wanted kind) (fin.entries s) (fin.entries_sorted s) (λ k o there. are k o (fin.get-entries s k ∙ there))

  -- ---- lists that are read

  pub read_all : (es : Entries) → AllRead es → (xs : List Stored) × AreReadAs wanted es xs
  read_all [] all = ([], tt)
  read_all (e ∷ es) all = let rest = read_all es all.1 in (all.0.1 ∷ rest.0, (all.0.2, rest.1))

  read_is : (es : Entries) (xs : List Stored) → AreReadAs wanted es xs → flat_map (λ e. stored_by (object_in wanted e.1.body)) es ≡ xs
  read_is [] [] read = refl
  read_is [] (x ∷ xs) read = absurd read
  read_is (e ∷ es) [] read = absurd read
  read_is (e ∷ es) (x ∷ xs) read = ap₂ (λ (r : Read Stored) (l : List Stored). stored_by r ++ l) read.0.is_read (read_is es xs read.1)

  below_read : (q : Key) → q.kind ≡ kind → (es : Entries) (xs : List Stored) → AllRead es → AreReadAs wanted es xs → T (below_all key_cmp q es) → T (below_all place_cmp (place_of q) (by_place xs))
  below_read q own [] [] all read low = tt
  below_read q own [] (x ∷ xs) all read low = absurd read
  below_read q own (e ∷ es) [] all read low = absurd read
  below_read q own (e ∷ es) (x ∷ xs) all read low =
      let same = place_order q e.0 (own ∙ sym all.0.0) ∙ ap (place_cmp (place_of q)) (sym (read_place wanted e.0 e.1 x read.0)) in
      both _ _ (subst (λ r. T (is_lt r)) same (fst _ _ low)) (below_read q own es xs all.1 read.1 (snd _ _ low))

  sorted_read : (es : Entries) (xs : List Stored) → AllRead es → AreReadAs wanted es xs → T (is_sorted key_cmp es) → T (is_sorted place_cmp (by_place xs))
  sorted_read [] [] all read up = tt
  sorted_read [] (x ∷ xs) all read up = absurd read
  sorted_read (e ∷ es) [] all read up = absurd read
  sorted_read (e ∷ es) (x ∷ xs) all read up =
      both _ _ (subst (λ p. T (below_all place_cmp p (by_place xs))) (sym (read_place wanted e.0 e.1 x read.0)) (below_read e.0 all.0.0 es xs all.1 read.1 (fst _ _ up)))
      (sorted_read es xs all.1 read.1 (snd _ _ up))

  find_read : (p : Place) (es : Entries) (xs : List Stored) → AllRead es → AreReadAs wanted es xs → find place_cmp p (by_place xs) ≡ stored_from wanted (find key_cmp (key_at kind p) es)
  find_read p [] [] all read = refl
  find_read p [] (x ∷ xs) all read = absurd read
  find_read p (e ∷ es) [] all read = absurd read
  find_read p (e ∷ es) (x ∷ xs) all read =
      ap (λ b. cond b (Some x) (find place_cmp p (by_place xs)))
      (ap (λ q. is_eq (place_cmp p q)) (read_place wanted e.0 e.1 x read.0) ∙ ap is_eq (sym (place_order (key_at kind p) e.0 (sym all.0.0))))
      ∙ go (eq_by_cmp key_cmp (key_at kind p) e.0) (find_read p es xs all.1 read.1)
    where
      go : (b : Bool) → find place_cmp p (by_place xs) ≡ stored_from wanted (find key_cmp (key_at kind p) es)
          → cond b (Some x) (find place_cmp p (by_place xs)) ≡ stored_from wanted (cond b (Some e.1) (find key_cmp (key_at kind p) es))
      go true rest = ap as_stored (sym read.0.is_read)
      go false rest = rest

  -- ---- the client's objects

  module _ (s : history.Objects) (are : AreRead wanted kind s) where
    -- in the order of keys they are the client's, in the order of places
    pub entries-mirrored : (xs : List Stored) → AreReadAs wanted (fin.entries s) xs → fin.entries (mirrored wanted s) ≡ by_place xs
    entries-mirrored xs read =
        ap (λ (l : List Stored). fin.entries (fin.from_sorted {R = place_cmp} (by_place l))) (read_is (fin.entries s) xs read)
        ∙ fin.entries-from_sorted place_cmp (by_place xs) (sorted_read (fin.entries s) xs (each_read s are) read (fin.entries_sorted s))

    pub all_mirrored : (xs : List Stored) × AreReadAs wanted (fin.entries s) xs × (fin.entries (mirrored wanted s) ≡ by_place xs)
    all_mirrored = let all = read_all (fin.entries s) (each_read s are) in (all.0, all.1, entries-mirrored all.0 all.1)

    -- so they are the state that a report has to have
    pub state_mirrored : IsStateAt wanted s (mirrored wanted s)
    state_mirrored = let all = all_mirrored in record { all = all.0; entries = all.2; read = all.1 }

    -- at each place stands what is read from the text that stands under the key
    pub get-mirrored : (p : Place) → fin.get (mirrored wanted s) p ≡ stored_from wanted (fin.get s (key_at kind p))
    get-mirrored p =
        let all = all_mirrored in
        fin.get-entries (mirrored wanted s) p ∙ ap (find place_cmp p) all.2
        ∙ find_read p (fin.entries s) all.0 (each_read s are) all.1
        ∙ ap (stored_from wanted) (sym (fin.get-entries s (key_at kind p)))

    -- ---- after one change

    -- they are read too after an object of the type was put, or removed
    pub insert_read : (k : Key) (o : Object) → IsRead wanted kind k o → AreRead wanted kind (fin.insert s k o)
    insert_read k o one q p there = by_test (eq_by_cmp key_cmp q k) refl (sym (fin.get-insert key_cmp_total s k o q) ∙ there)
      where
        by_test : (b : Bool) → eq_by_cmp key_cmp q k ≡ b → cond b (Some o) (fin.get s q) ≡ Some p → IsRead wanted kind q p
        by_test true same is = let one_object : o ≡ p = cc in subst (λ r. IsRead wanted kind r p) (sym (tied q k same)) (subst (IsRead wanted kind k) one_object one)
        by_test false other is = are q p is

    pub remove_read : (k : Key) → AreRead wanted kind (fin.remove s k)
    remove_read k q p there = by_test (eq_by_cmp key_cmp q k) (sym (fin.get-remove key_cmp_total s k q) ∙ there)
      where
        by_test : (b : Bool) → cond b None (fin.get s q) ≡ Some p → IsRead wanted kind q p
        by_test true is = absurd cc
        by_test false is = are q p is

  module _ (s : history.Objects) (are : AreRead wanted kind s) (k : Key) (own : k.kind ≡ kind) where
    same_test : (q p : Place) → p ≡ place_of k → eq_by_cmp key_cmp (key_at kind q) k ≡ eq_by_cmp place_cmp q p
    same_test q p is = ap is_eq (place_order (key_at kind q) k (sym own)) ∙ ap (λ r. is_eq (place_cmp q r)) (sym is)

    -- to put an object is to put what is read of it
    pub mirrored-insert : (o : Object) (x : Stored) → IsReadAs wanted k o x → mirrored wanted (fin.insert s k o) ≡ fin.insert (mirrored wanted s) (place_in x) x
    mirrored-insert o x read = fin.same_map place_total place_antisymmetric _ _ (λ q.
        get-mirrored (fin.insert s k o) (insert_read s are k o (own, x, read)) q
        ∙ ap (stored_from wanted) (fin.get-insert key_cmp_total s k o (key_at kind q))
        ∙ put_there q (eq_by_cmp key_cmp (key_at kind q) k)
        ∙ ap (λ b. cond b (Some x) (stored_from wanted (fin.get s (key_at kind q)))) (same_test q (place_in x) (read_place wanted k o x read))
        ∙ ap (cond (eq_by_cmp place_cmp q (place_in x)) (Some x)) (sym (get-mirrored s are q))
        ∙ sym (fin.get-insert place_total (mirrored wanted s) (place_in x) x q))
      where
        put_there : (q : Place) (b : Bool) → stored_from wanted (cond b (Some o) (fin.get s (key_at kind q))) ≡ cond b (Some x) (stored_from wanted (fin.get s (key_at kind q)))
        put_there q true = ap as_stored read.is_read
        put_there q false = refl

    -- to remove the object of a key is to remove what is read of it, at its place
    pub mirrored-remove : (p : Place) → p ≡ place_of k → mirrored wanted (fin.remove s k) ≡ fin.remove (mirrored wanted s) p
    mirrored-remove p is = fin.same_map place_total place_antisymmetric _ _ (λ q.
        get-mirrored (fin.remove s k) (remove_read s are k) q
        ∙ ap (stored_from wanted) (fin.get-remove key_cmp_total s k (key_at kind q))
        ∙ none_there q (eq_by_cmp key_cmp (key_at kind q) k)
        ∙ ap (λ b. cond b None (stored_from wanted (fin.get s (key_at kind q)))) (same_test q p is)
        ∙ ap (cond (eq_by_cmp place_cmp q p) None) (sym (get-mirrored s are q))
        ∙ sym (fin.get-remove place_total (mirrored wanted s) p q))
      where
        none_there : (q : Place) (b : Bool) → stored_from wanted (cond b None (fin.get s (key_at kind q))) ≡ cond b None (stored_from wanted (fin.get s (key_at kind q)))
        none_there q true = refl
        none_there q false = refl
