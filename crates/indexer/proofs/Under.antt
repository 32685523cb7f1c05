-- What stands under a key of an index after one change.
use Rattle.std.proofs.Common.{◌≡◌, ℕ, Bool, true, false, cond, not, ◌&&◌, ◌||◌, List, [], ◌∷◌, length, arith, Option, None, refl, sym, ap, ap₂, ◌∙◌}
use Rattle.std.specs.BTreeSet.{BTreeSet}
use Rattle.std.specs.Ordering.{is_eq, ordering_then, nat_cmp}
use Rattle.std.specs.Rc.{rc_str_bytes}
use Rattle.std.specs.Cmp.Lexicographic.{slice_cmp}
use Rattle.std.specs.List.{list_any}
use Rattle.std.specs.Str.{bytes_eq}
use Rattle.std.proofs.lemmas.Slice.Eq.{bytes_eq-Decides}
use Rattle.indexer.specs.declared.object.ObjectKey.{ObjectKey}
use Rattle.indexer.specs.Keys.{is_same, IsCopyOf}
use Rattle.indexer.specs.Postings.{Postings, listed_at, has_in, under}

pub or_false : (a b : Bool) → (a || (b && false)) ≡ a
or_false true b = refl
or_false false true = refl
or_false false false = refl

pub or_nothing : (a : Bool) → a ≡ (a || false)
or_nothing true = refl
or_nothing false = refl

pub and_true : (a b : Bool) → (a && not (b && false)) ≡ a
and_true true true = refl
and_true true false = refl
and_true false b = refl

pub cond_or : (here before : Bool) → cond here true before ≡ (before || here)
cond_or true true = refl
cond_or true false = refl
cond_or false true = refl
cond_or false false = refl

pub cond_and : (here before : Bool) → cond here false before ≡ (before && not here)
cond_and true true = refl
cond_and true false = refl
cond_and false true = refl
cond_and false false = refl

-- a copy is the same key
pub same_copy : (key copy q : ObjectKey) → IsCopyOf key copy → is_same copy q ≡ is_same key q
same_copy key copy q h =
    ap₂ (λ (a b : List ℕ). is_eq (ordering_then (slice_cmp nat_cmp a (rc_str_bytes q.namespace)) (slice_cmp nat_cmp b (rc_str_bytes q.name)))) h.namespace h.name

pub nothing_in : {X : Type 0} (p : X → Bool) (xs : List X) → length xs ≡ 0 → list_any p xs ≡ false
nothing_in p [] e = refl
nothing_in p (x ∷ xs) e = absurd (omega arith)

-- a key that was written and then taken out
pub gone : {X : Type 0} (t : Bool) (x y : Option X) → cond t None (cond t x y) ≡ cond t None y
gone true x y = refl
gone false x y = refl

module _ (text : List ℕ) (old new : Postings) (was now : Option (BTreeSet ObjectKey)) where
  abbrev pub Sets : Type 0
  Sets = (k : List ℕ) → listed_at new k ≡ cond (bytes_eq text k) now (listed_at old k)

  -- the key that was found holds more now
  pub adds_under : Sets → listed_at old text ≡ was → (k : List ℕ) (q : ObjectKey) (here : Bool) → has_in now q ≡ (has_in was q || here) → under new k q ≡ (under old k q || (bytes_eq text k && here))
  adds_under sets before k q here h = ap (λ (o : Option (BTreeSet ObjectKey)). has_in o q) (sets k) ∙ go (bytes_eq text k) refl
    where
      go : (t : Bool) → bytes_eq text k ≡ t → has_in (cond t now (listed_at old k)) q ≡ (has_in (listed_at old k) q || (t && here))
      go true e =
          let same : text ≡ k = (bytes_eq-Decides text k).0 e in
          h ∙ ap (λ (o : Option (BTreeSet ObjectKey)). has_in o q || here) (sym before ∙ ap (listed_at old) same)
      go false e = sym (plain (has_in (listed_at old k) q))
        where
          plain : (a : Bool) → (a || false) ≡ a
          plain true = refl
          plain false = refl

  -- the key that was found holds less now
  pub takes_under : Sets → listed_at old text ≡ was → (k : List ℕ) (q : ObjectKey) (here : Bool) → has_in now q ≡ (has_in was q && not here) → under new k q ≡ (under old k q && not (bytes_eq text k && here))
  takes_under sets before k q here h = ap (λ (o : Option (BTreeSet ObjectKey)). has_in o q) (sets k) ∙ go (bytes_eq text k) refl
    where
      go : (t : Bool) → bytes_eq text k ≡ t → has_in (cond t now (listed_at old k)) q ≡ (has_in (listed_at old k) q && not (t && here))
      go true e =
          let same : text ≡ k = (bytes_eq-Decides text k).0 e in
          h ∙ ap (λ (o : Option (BTreeSet ObjectKey)). has_in o q && not here) (sym before ∙ ap (listed_at old) same)
      go false e = sym (plain (has_in (listed_at old k) q))
        where
          plain : (a : Bool) → (a && true) ≡ a
          plain true = refl
          plain false = refl
