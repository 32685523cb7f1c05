-- A prefix of the list at a revision is a part of what the client is to have, and the token behind such a part is that of its last object.
use Rattle.std.proofs.Common.{◌≡◌, ℕ, true, T, List, [], ◌∷◌, ◌++◌, map, Option, Some, None, option_map, refl, sym, ap, subst, ◌∙◌}
use Rattle.std.proofs.lemmas.List.{map-append}
use Rattle.std.specs.Cmp.Lexicographic.{bytes_decides}
use Rattle.std.specs.FinMap as fin
use Rattle.std.specs.FinMap.{is_sorted}
use Rattle.std.specs.List.{AllByRecursion, last_or}
use Rattle.history.specs.History.{History, Key, Object, key_cmp}
use Rattle.history.specs.History as history
use Rattle.history.specs.Seen.{IsPrefix, last_key, past}
use Rattle.history.proofs.Paging.{all_pages, past-prefix}
use Rattle.indexer.specs.Objects.{Place, Stored}
use Rattle.params.specs.Texts.{token_text}
use Rattle.lists.specs.Body.{continued_at}
use Rattle.decoder.specs.Wanted.{Wanted}
use Rattle.reflector.specs.Client.{by_place, place_in}
use Rattle.reflector.specs.FollowsLaws.{IsPart, Server}
use Rattle.line_laws.specs.Listed.{AreReadAs}
use Rattle.world_laws.proofs.Mirror.{is_token_behind, server_of}
use Rattle.world_laws.specs.Tasks.{Task, selected_at, wanted_by}
use Rattle.world_laws.proofs.Mirrored.{AllRead, AreRead, Entries, all_mirrored, each_read, entries-mirrored, place_of, read_all, read_place}

-- ---- lists, joined and parted

pub all_left : {A : Type 0} (P : A → Type 0) (xs ys : List A) → AllByRecursion P (xs ++ ys) → AllByRecursion P ys
all_left P [] ys all = all
all_left P (x ∷ xs) ys all = all_left P xs ys all.1

pub all_first : {A : Type 0} (P : A → Type 0) (xs ys : List A) → AllByRecursion P (xs ++ ys) → AllByRecursion P xs
all_first P [] ys all = tt
all_first P (x ∷ xs) ys all = (all.0, all_first P xs ys all.1)

-- what holds of all entries holds of the last
pub last_has : (P : Key → Type 0) (k : Key) (es : Entries) → AllByRecursion (λ e. P e.0) es → last_key es ≡ Some k → P k
last_has P k [] all is = absurd cc
last_has P k (e ∷ []) all is = let same : e.0 ≡ k = cc in subst P same all.0
last_has P k (e ∷ f ∷ es) all is = last_has P k (f ∷ es) all.1 is

pub last_both : (k : Key) (xs ys : Entries) → last_key ys ≡ Some k → last_key (xs ++ ys) ≡ Some k
last_both k [] ys is = is
last_both k (x ∷ []) [] is = absurd cc
last_both k (x ∷ []) (y ∷ ys) is = is
last_both k (x ∷ z ∷ xs) ys is = last_both k (z ∷ xs) ys is

has_last : (e : Key × Object) (es : Entries) → (k : Key) × (last_key (e ∷ es) ≡ Some k)
has_last e [] = (e.0, refl)
has_last e (f ∷ es) = has_last f es

objects_back : (xs : List Stored) → map (λ (e : Place × Stored). e.1) (by_place xs) ≡ xs
objects_back [] = refl
objects_back (x ∷ xs) = ap (λ l. x ∷ l) (objects_back xs)

-- these entries begin with those that are read as these objects
pub record Begins (wanted : Wanted) (es : Entries) (xs : List Stored) : Type 0 where
  prefix : Entries
  rest : Entries
  is : es ≡ prefix ++ rest
  read : AreReadAs wanted prefix xs

module _ (wanted : Wanted) where
  pub read_both : (es fs : Entries) (xs ys : List Stored) → AreReadAs wanted es xs → AreReadAs wanted fs ys → AreReadAs wanted (es ++ fs) (xs ++ ys)
  read_both [] fs [] ys one other = other
  read_both [] fs (x ∷ xs) ys one other = absurd one
  read_both (e ∷ es) fs [] ys one other = absurd one
  read_both (e ∷ es) fs (x ∷ xs) ys one other = (one.0, read_both es fs xs ys one.1 other)

  begins : (es : Entries) (xs ys : List Stored) → AreReadAs wanted es (xs ++ ys) → Begins wanted es xs
  begins es [] ys read = record { prefix = []; rest = es; is = refl; read = tt }
  begins [] (x ∷ xs) ys read = absurd read
  begins (e ∷ es) (x ∷ xs) ys read =
      let others = begins es xs ys read.1 in
      record { prefix = e ∷ others.prefix; rest = others.rest; is = ap (λ l. e ∷ l) others.is; read = (read.0, others.read) }

  -- the last of both is one object
  last_read : (k : Key) (es : Entries) (o : Option Stored) (xs : List Stored) → AreReadAs wanted es xs → last_key es ≡ Some k → (x : Stored) × (last_or o xs ≡ Some x) × (place_in x ≡ place_of k)
  last_read k [] o xs read is = absurd cc
  last_read k (e ∷ []) o [] read is = absurd read
  last_read k (e ∷ []) o (x ∷ []) read is = let same : e.0 ≡ k = cc in (x, refl, read_place wanted e.0 e.1 x read.0 ∙ ap place_of same)
  last_read k (e ∷ []) o (x ∷ y ∷ xs) read is = absurd read.1
  last_read k (e ∷ f ∷ es) o [] read is = absurd read
  last_read k (e ∷ f ∷ es) o (x ∷ xs) read is = last_read k (f ∷ es) (Some x) xs read.1 is

  last_is : (x : Stored) (es : Entries) (xs : List Stored) → AreReadAs wanted es xs → last_or None xs ≡ Some x → (k : Key) × (last_key es ≡ Some k) × (place_in x ≡ place_of k)
  last_is x [] [] read is = absurd cc
  last_is x [] (y ∷ ys) read is = absurd read
  last_is x (e ∷ es) xs read is =
      let last = has_last e es in
      let own = last_read last.0 (e ∷ es) None xs read last.1 in
      let same : own.0 ≡ x = some_is own.0 x (sym own.1 ∙ is) in
      (last.0, last.1, ap place_in (sym same) ∙ own.2)
    where
      some_is : (a b : Stored) → Some a ≡ Some b → a ≡ b
      some_is a b e = cc

-- ---- parts of the server's list

-- the next page, if there is one, begins after the last entry
abbrev pub IsLast : Entries → Option Key → Type 0
IsLast prefix None = Unit {0}
IsLast prefix (Some k) = last_key prefix ≡ Some k

-- the last entry of what comes last is the last of all
pub later_last : (before found : Entries) (next : Option Key) → IsLast found next → IsLast (before ++ found) next
later_last before found None is = tt
later_last before found (Some k) is = last_both k before found is

-- of the same place, the token is the same
same_token : (r : ℕ) (k : Key) (x : Stored) → place_in x ≡ place_of k → continued_at r k ≡ token_text (record { revision = r; namespace = x.namespace; name = x.name })
same_token r k x is = ap (λ (p : Place). token_text (record { revision = r; namespace = p.0; name = p.1 })) (sym is)

-- the objects that a client has set aside are those of a prefix of the list, and the token that it goes on by is the one behind the last of them
pub record KeepsPaged (wanted : Wanted) (s : history.Objects) (r : ℕ) (paged_list : List Stored) (token : List ℕ) : Type 0 where
  pub prefix : Entries
  pub last : Key
  pub is : IsPrefix (fin.entries s) prefix (Some last)
  pub is_last : last_key prefix ≡ Some last
  pub read : AreReadAs wanted prefix paged_list
  pub object : Stored
  pub is_object : last_or None paged_list ≡ Some object
  pub same_place : place_in object ≡ place_of last
  pub token_is : token ≡ token_text (record { revision = r; namespace = object.namespace; name = object.name })

module _ (task : Task) (machine : History) (kind r : ℕ) (are : AreRead (wanted_by task) kind (selected_at task machine r)) where
  abbrev wanted : Wanted
  wanted = wanted_by task

  abbrev s : history.Objects
  s = selected_at task machine r

  abbrev server : Server
  server = server_of task machine

  pub prefix_is_part : (prefix : Entries) (next : Option Key) (objects : List Stored) → IsPrefix (fin.entries s) prefix next → IsLast prefix next → AreReadAs wanted prefix objects
      → IsPart server r objects (option_map (continued_at r) next)
  prefix_is_part prefix None objects is last read = entries-mirrored wanted kind s are objects (subst (λ es. AreReadAs wanted es objects) (sym (all_pages s prefix is)) read)
  prefix_is_part prefix (Some k) objects is last read =
      let left : AllRead wanted kind is.rest = all_left _ prefix is.rest (subst (AllRead wanted kind) is.is (each_read wanted kind s are)) in
      let rest = read_all wanted kind is.rest left in
      let whole = subst (λ es. AreReadAs wanted es (objects ++ rest.0)) (sym is.is) (read_both wanted prefix is.rest objects rest.0 read rest.1) in
      let own = last_read wanted k prefix None objects read last in (
        by_place rest.0,
        entries-mirrored wanted kind s are (objects ++ rest.0) whole ∙ map-append (λ (x : Stored). (place_in x, x)) objects rest.0,
        ap (λ o. is_token_behind o r (continued_at r k)) own.1 ∙ (bytes_decides (continued_at r k) (token_text (record { revision = r; namespace = own.0.namespace; name = own.0.name }))).1 (same_token r k own.0 own.2),
      )

  pub part_is_prefix : (paged_list : List Stored) (token : List ℕ) → IsPart server r paged_list (Some token) → KeepsPaged wanted s r paged_list token
  part_is_prefix paged_list token part = by_last (last_or None paged_list) refl part.2
    where
      parted : Begins wanted (fin.entries s) paged_list
      parted =
          let left : List Stored = map (λ (e : Place × Stored). e.1) part.0 in
          let all = all_mirrored wanted kind s are in
          let split : all.0 ≡ paged_list ++ left =
          sym (objects_back all.0) ∙ ap (map (λ (e : Place × Stored). e.1)) (sym all.2 ∙ part.1) ∙ map-append (λ (e : Place × Stored). e.1) (by_place paged_list) part.0
          ∙ ap (λ l. l ++ left) (objects_back paged_list) in
          begins wanted (fin.entries s) paged_list left (subst (AreReadAs wanted (fin.entries s)) split all.1)

      by_last : (o : Option Stored) → last_or None paged_list ≡ o → is_token_behind o r token ≡ true → KeepsPaged wanted s r paged_list token
      by_last None is behind = absurd cc
      by_last (Some x) is behind =
          let prefix = parted in
          let own = last_is wanted x prefix.prefix paged_list prefix.read is in
          let sorted : T (is_sorted key_cmp (prefix.prefix ++ prefix.rest)) = subst (λ es. T (is_sorted key_cmp es)) prefix.is (fin.entries_sorted s) in
          record {
            prefix = prefix.prefix;
            last = own.0;
            is = record { rest = prefix.rest; is = prefix.is; left = ap (past own.0) prefix.is ∙ past-prefix own.0 prefix.prefix prefix.rest sorted own.1 };
            is_last = own.1;
            read = prefix.read;
            object = x;
            is_object = is;
            same_place = own.2;
            token_is = (bytes_decides token (token_text (record { revision = r; namespace = x.namespace; name = x.name }))).0 behind;
          }
