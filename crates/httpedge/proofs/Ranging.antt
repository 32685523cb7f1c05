-- Ids as ranges: what one more id makes of them.
use Rattle.std.proofs.Common.{arith, ⊎_elim, ◌≡◌, ℕ, ◌+◌, ◌-◌, ◌<◌, ◌≤◌, Bool, true, false, cond, ◌&&◌, ◌||◌, List, [], ◌∷◌, All, Option, Some, None, refl, sym, ap, subst, ◌∙◌}
use Rattle.std.specs.Prelude.{nat_le}
use Rattle.std.specs.BTreeMap.{BTreeMap, IsOrdered, get, is_at}
use Rattle.std.specs.Cmp.{nat_cmp_is, nat_cmp_total, tied_itself}
use Rattle.std.specs.FinMap as fin
use Rattle.std.specs.List.{list_any}
use Rattle.std.specs.Map.{lookup}
use Rattle.std.specs.Ordering.{nat_cmp, eq_by_cmp, is_eq, is_gt}
use Rattle.std.specs.declared.cmp.Ordering.{Ordering}
use Rattle.std.specs.declared.cmp.Ordering.TheVariants.{Less, Equal, Greater}
use Rattle.std.proofs.lemmas.Bool.{le-leb, leb-true}
use Rattle.std.proofs.lemmas.Bool.Decides.{leb_tells}
use Rattle.std.proofs.lemmas.List.Elements.{All-head, All-tail}
use Rattle.std.proofs.lemmas.Map.Views.{All-found}
use Rattle.httpedge.specs.IdViews.{AreApart, IsAfter, IsBefore, HasRange, covers, first_with, is_in, is_within}

-- ---- numbers that are the same, or not

wrong : false ≡ true → ⊥
wrong e = cc

itself : (id : ℕ) → eq_by_cmp nat_cmp id id ≡ true
itself id = ap is_eq (tied_itself nat_cmp_total id)

is_tied : (r : Ordering) → is_eq r ≡ true → r ≡ Equal
is_tied Less e = absurd cc
is_tied Equal e = refl
is_tied Greater e = absurd cc

tied_same : (id k : ℕ) → eq_by_cmp nat_cmp id k ≡ true → id ≡ k
tied_same id k e = fin.nat_cmp-IsAntisymmetric id k (is_tied (nat_cmp id k) e)

by_same : {A : Type 0} (x y : ℕ) → (x ≡ y → A) → ((x ≡ y → ⊥) → A) → A
by_same {A} x y same other = go (eq_by_cmp nat_cmp x y) refl
  where
    go : (b : Bool) → eq_by_cmp nat_cmp x y ≡ b → A
    go true e = same (tied_same x y e)
    go false e = other (λ s. wrong (sym e ∙ sym (ap (eq_by_cmp nat_cmp x) s) ∙ itself x))

some_of : {A : Type 0} {x y : A} → Some x ≡ Some y → x ≡ y
some_of e = cc

none_some : {A : Type 0} {x : A} → None ≡ Some x → ⊥
none_some e = cc

not_true : (b : Bool) → (b ≡ true → ⊥) → b ≡ false
not_true true isnt = absurd (isnt refl)
not_true false isnt = refl

same_truth : (a b : Bool) → (a ≡ true → b ≡ true) → (b ≡ true → a ≡ true) → a ≡ b
same_truth true b there back = sym (there refl)
same_truth false true there back = back refl
same_truth false false there back = refl

both : (a b : Bool) → a ≡ true → b ≡ true → a && b ≡ true
both true b x y = y
both false b x y = absurd cc

and_parts : (a b : Bool) → a && b ≡ true → (a ≡ true) × (b ≡ true)
and_parts true b h = (refl, h)
and_parts false b h = absurd cc

pub not_gt : (a b : ℕ) → a ≤ b → is_gt (nat_cmp a b) ≡ false
not_gt a b low =
    by_same a b (λ same. sym (ap is_gt (nat_cmp_is a b Equal same))) (λ other. sym (ap is_gt (nat_cmp_is a b Less (omega (arith, low, other)))))

-- ---- an id in a range

within : (q first last : ℕ) → first ≤ q → q ≤ last → is_within q (first, last) ≡ true
within q first last low high = both (nat_le first q) (nat_le q last) (le-leb first q low) (le-leb q last high)

found : (q first last : ℕ) (es : List (ℕ × ℕ)) → lookup (is_at (nat_cmp first)) es ≡ Some last → first ≤ q → q ≤ last → list_any (is_within q) es ≡ true
found q first last [] at low high = absurd (none_some at)
found q first last (e ∷ es) at low high = go (eq_by_cmp nat_cmp first e.0) (tied_same first e.0) at (λ later. found q first last es later low high)
  where
    later : (b : Bool) → (b || true) ≡ true
    later true = refl
    later false = refl

    go : (b : Bool) → (b ≡ true → first ≡ e.0) → cond b (Some e.1) (lookup (is_at (nat_cmp first)) es) ≡ Some last
        → (lookup (is_at (nat_cmp first)) es ≡ Some last → list_any (is_within q) es ≡ true) → (is_within q e || list_any (is_within q) es) ≡ true
    go true same here rest =
        ap (λ (b : Bool). b || list_any (is_within q) es)
        (within q e.0 e.1 (subst (λ (k : ℕ). k ≤ q) (same refl) low) (subst (λ (k : ℕ). q ≤ k) (sym (some_of here)) high))
    go false same there rest = ap (λ (b : Bool). is_within q e || b) (rest there) ∙ later (is_within q e)

in_ranges : (m : BTreeMap ℕ ℕ) (q first last : ℕ) → HasRange m first last → first ≤ q → q ≤ last → is_in m q ≡ true
in_ranges m q first last at low high = found q first last m.entries at low high

-- the range that has an id
abbrev pub RangeOf : BTreeMap ℕ ℕ → ℕ → Type 0
RangeOf m q = (first : ℕ) × (last : ℕ) × HasRange m first last × (first ≤ q) × (q ≤ last)

one_of : (m : BTreeMap ℕ ℕ) (q : ℕ) (es : List (ℕ × ℕ)) → All (λ e. get nat_cmp m e.0 ≡ Some e.1) es → list_any (is_within q) es ≡ true → RangeOf m q
one_of m q [] all has = absurd (wrong has)
one_of m q (e ∷ es) all has = go (is_within q e) refl has (λ there. one_of m q es (All-tail (λ e. get nat_cmp m e.0 ≡ Some e.1) e es all) there)
  where
    go : (b : Bool) → is_within q e ≡ b → (b || list_any (is_within q) es) ≡ true → (list_any (is_within q) es ≡ true → RangeOf m q) → RangeOf m q
    go true is here rest =
        let parts = and_parts (nat_le e.0 q) (nat_le q e.1) is in
        (e.0, e.1, All-head (λ e. get nat_cmp m e.0 ≡ Some e.1) e es all, leb-true e.0 q parts.0, leb-true q e.1 parts.1)
    go false is there rest = rest there

range_of : (m : BTreeMap ℕ ℕ) (q : ℕ) → IsOrdered nat_cmp m → is_in m q ≡ true → RangeOf m q
range_of m q ordered has = one_of m q m.entries (All-found nat_cmp_total m ordered) has

same_last : (m : BTreeMap ℕ ℕ) (f g l k : ℕ) → HasRange m f l → HasRange m g k → f ≡ g → l ≡ k
same_last m f g l k one other same = some_of (sym one ∙ ap (get nat_cmp m) same ∙ other)

-- ---- what is found

pub covers_is : (m : BTreeMap ℕ ℕ) (id : ℕ) (o : Option (ℕ × ℕ)) → IsOrdered nat_cmp m → AreApart m → IsBefore m id o → covers o id ≡ is_in m id
covers_is m id None ordered apart before = sym (not_true (is_in m id) (λ has. above (range_of m id ordered has)))
  where
    above : RangeOf m id → ⊥
    above (first, last, at, low, high) = let over : id < first = before first last at in omega (arith, over, low)
covers_is m id (Some r) ordered apart (at, low, greatest) =
    same_truth (nat_le id r.1) (is_in m id) (λ is. in_ranges m id r.0 r.1 at low (leb-true id r.1 is)) (λ has. le-leb id r.1 (reached (range_of m id ordered has)))
  where
    reached : RangeOf m id → id ≤ r.1
    reached (first, last, there, below, high) = by_same first r.0
        (λ same. subst (λ (k : ℕ). id ≤ k) (same_last m first r.0 last r.1 there at same) high)
        (λ other.
        let most : first ≤ r.0 = greatest first last there below in
        let less : last < r.0 = apart.apart first last r.0 r.1 there at (omega (arith, most, other)) in
        omega (arith, less, low, high))

pub already : (m : BTreeMap ℕ ℕ) (id : ℕ) → is_in m id ≡ true → (q : ℕ) → is_in m q ≡ cond (eq_by_cmp nat_cmp id q) true (is_in m q)
already m id has q = go (eq_by_cmp nat_cmp id q) (tied_same id q)
  where
    go : (b : Bool) → (b ≡ true → id ≡ q) → is_in m q ≡ cond b true (is_in m q)
    go true same = ap (is_in m) (sym (same refl)) ∙ has
    go false same = refl

-- ---- one more id

-- where the range with the new id begins: at the id, or where one ended just before it
abbrev pub BeginsAt : BTreeMap ℕ ℕ → ℕ → ℕ → Option ℕ → Type 0
BeginsAt m id first None = first ≡ id
BeginsAt m id first (Some end) = HasRange m first end × (end + 1 ≡ id)

-- where it ends: at the id, or where one ends that began just after it
abbrev pub EndsAt : BTreeMap ℕ ℕ → ℕ → ℕ → Bool → Type 0
EndsAt m id last false = last ≡ id
EndsAt m id last true = HasRange m (id + 1) last

-- the id is in none of the ranges old; in those of new one is from first to last, and has it
pub record Joins (old new : BTreeMap ℕ ℕ) (id first last : ℕ) (is_next : Bool) : Type 0 where
  pub apart : AreApart old
  pub free : (f l : ℕ) → HasRange old f l → f ≤ id → l < id
  pub greatest : (f l : ℕ) → HasRange old f l → f ≤ id → f ≤ first
  pub begins : (end : Option ℕ) × BeginsAt old id first end
  pub ends : EndsAt old id last is_next
  pub here : HasRange new first last
  pub next_gone : (l : ℕ) → is_next ≡ true → HasRange new (id + 1) l → ⊥
  pub others : (f : ℕ) → (f ≡ first → ⊥) → (is_next ≡ true → f ≡ id + 1 → ⊥) → get nat_cmp new f ≡ get nat_cmp old f

module _ (old new : BTreeMap ℕ ℕ) (id first last : ℕ) (is_next : Bool) (j : Joins old new id first last is_next) where
  first_low : first ≤ id
  first_low = go j.begins.0 j.begins.1
    where
      go : (end : Option ℕ) → BeginsAt old id first end → first ≤ id
      go None is = omega (arith, is)
      go (Some end) (at, next) = let low : first ≤ end = j.apart.forward first end at in omega (arith, low, next)

  last_high : id ≤ last
  last_high = go is_next j.ends
    where
      go : (b : Bool) → EndsAt old id last b → id ≤ last
      go false is = omega (arith, is)
      go true at = let low : id + 1 ≤ last = j.apart.forward (id + 1) last at in omega (arith, low)

  -- a range of the new ones other than that with the id is an old one
  was_there : (f l : ℕ) → (f ≡ first → ⊥) → HasRange new f l → HasRange old f l
  was_there f l other at = sym (j.others f other (λ is same. j.next_gone l is (subst (λ (k : ℕ). HasRange new k l) same at))) ∙ at

  old_has : (q : ℕ) → (q ≡ id → ⊥) → RangeOf new q → is_in old q ≡ true
  old_has q apart (f, l, at, low, high) = by_same f first
      (λ same.
      let is : l ≡ last = same_last new f first l last at j.here same in
      ⊎_elim (λ over. after is_next j.ends over.1 is) (λ under. before j.begins.0 j.begins.1 same under.1) (leb_tells id q))
      (λ other. in_ranges old q f l (was_there f l other at) low high)
    where
      after : (b : Bool) → EndsAt old id last b → id ≤ q → l ≡ last → is_in old q ≡ true
      after false ends over is = absurd (apart (omega (arith, ends, over, is, high)))
      after true ends over is = in_ranges old q (id + 1) last ends (omega (arith, over, apart)) (omega (arith, is, high))

      before : (end : Option ℕ) → BeginsAt old id first end → f ≡ first → q < id → is_in old q ≡ true
      before None is same under = absurd (omega (arith, is, same, under, low))
      before (Some end) (began, next) same under = in_ranges old q first end began (omega (arith, same, low)) (omega (arith, next, under))

  new_has : (q : ℕ) → RangeOf old q → is_in new q ≡ true
  new_has q (f, l, at, low, high) = by_same f first
      (λ same.
      let begins : first ≤ id = first_low in
      let ends : id ≤ last = last_high in
      let less : l < id = j.free f l at (omega (arith, same, begins)) in
      in_ranges new q first last j.here (omega (arith, same, low)) (omega (arith, less, high, ends)))
      (λ other. by_same f (id + 1) (λ next. joined is_next refl other next) (λ apart. in_ranges new q f l (j.others f other (λ is. apart) ∙ at) low high))
    where
      joined : (b : Bool) → is_next ≡ b → (f ≡ first → ⊥) → f ≡ id + 1 → is_in new q ≡ true
      joined true is other next =
          let ends : HasRange old (id + 1) last = subst (EndsAt old id last) is j.ends in
          let same : l ≡ last = same_last old f (id + 1) l last at ends next in
          let begins : first ≤ id = first_low in
          in_ranges new q first last j.here (omega (arith, begins, next, low)) (omega (arith, same, high))
      joined false is other next = in_ranges new q f l (j.others f other (λ yes same. wrong (sym is ∙ yes)) ∙ at) low high

  either : (b c : Bool) → (b ≡ false → c ≡ true) → cond b true c ≡ true
  either true c then = refl
  either false c then = then refl

  joined_has : IsOrdered nat_cmp old → IsOrdered nat_cmp new → (q : ℕ) → is_in new q ≡ cond (eq_by_cmp nat_cmp id q) true (is_in old q)
  joined_has ordered ordered' q = same_truth (is_in new q) (cond (eq_by_cmp nat_cmp id q) true (is_in old q))
      (λ has. either (eq_by_cmp nat_cmp id q) (is_in old q) (λ e. old_has q (λ same. wrong (sym e ∙ ap (eq_by_cmp nat_cmp id) same ∙ itself id)) (range_of new q ordered' has)))
      (λ has. go (eq_by_cmp nat_cmp id q) (tied_same id q) has)
    where
      go : (b : Bool) → (b ≡ true → id ≡ q) → cond b true (is_in old q) ≡ true → is_in new q ≡ true
      go true same has = subst (λ (k : ℕ). is_in new k ≡ true) (same refl) (in_ranges new id first last j.here first_low last_high)
      go false same has = new_has q (range_of old q ordered has)

  joined_apart : AreApart new
  joined_apart = record { forward = forward; apart = apart }
    where
      forward : (f l : ℕ) → HasRange new f l → f ≤ l
      forward f l at = by_same f first
          (λ same.
          let is : l ≡ last = same_last new f first l last at j.here same in
          let begins : first ≤ id = first_low in
          let ends : id ≤ last = last_high in
          omega (arith, is, same, begins, ends))
          (λ other. j.apart.forward f l (was_there f l other at))

      -- one behind that with the id
      behind : (g k : ℕ) → HasRange old g k → first < g → (b : Bool) → is_next ≡ b → EndsAt old id last b → (b ≡ true → g ≡ id + 1 → ⊥) → last < g
      behind g k at later false is ends gone = ⊎_elim (λ under. absurd (let low : g ≤ first = j.greatest g k at under.1 in omega (arith, low, later))) (λ over. omega (arith, ends, over.1)) (leb_tells g id)
      behind g k at later true is ends gone = ⊎_elim (λ under. absurd (let low : g ≤ first = j.greatest g k at under.1 in omega (arith, low, later)))
          (λ over. j.apart.apart (id + 1) last g k ends at (let apart : g ≡ id + 1 → ⊥ = gone refl in omega (arith, over.1, apart))) (leb_tells g id)

      -- one before that with the id
      ahead : (f l : ℕ) → HasRange old f l → f < first → (end : Option ℕ) → BeginsAt old id first end → l < first
      ahead f l at less None is = let low : l < id = j.free f l at (omega (arith, is, less)) in omega (arith, low, is)
      ahead f l at less (Some end) (began, next) = j.apart.apart f l first end at began less

      apart : (f l g k : ℕ) → HasRange new f l → HasRange new g k → f < g → l < g
      apart f l g k one other less = by_same f first
          (λ same.
          let is : l ≡ last = same_last new f first l last one j.here same in
          let later : first < g = omega (arith, same, less) in
          let apart : g ≡ first → ⊥ = λ s. omega (arith, s, later) in
          let over : last < g = behind g k (was_there g k apart other) later is_next refl j.ends (λ next at. j.next_gone k next (subst (λ (n : ℕ). HasRange new n k) at other)) in
          omega (arith, is, over))
          (λ apart. by_same g first
          (λ same. subst (λ (n : ℕ). l < n) (sym same) (ahead f l (was_there f l apart one) (omega (arith, same, less)) j.begins.0 j.begins.1))
          (λ off. j.apart.apart f l g k (was_there f l apart one) (was_there g k off other) less))

-- where a range begins, with what was found before an id that is in none
begins_at : (m : BTreeMap ℕ ℕ) (id : ℕ) (o : Option (ℕ × ℕ)) → IsBefore m id o → ((f l : ℕ) → HasRange m f l → f ≤ id → l < id) → (end : Option ℕ) × BeginsAt m id (first_with o id) end
begins_at m id None before free = (None, refl)
begins_at m id (Some r) (at, low, greatest) free = go (nat_le (id - 1) r.1) refl
  where
    go : (b : Bool) → nat_le (id - 1) r.1 ≡ b → (end : Option ℕ) × BeginsAt m id (cond b r.0 id) end
    go true is =
        let less : r.1 < id = free r.0 r.1 at low in
        let near : id - 1 ≤ r.1 = leb-true (id - 1) r.1 is in
        (Some r.1, (at, omega (arith, less, near)))
    go false is = (None, refl)

greatest_is : (m : BTreeMap ℕ ℕ) (id : ℕ) (o : Option (ℕ × ℕ)) → IsBefore m id o → (f l : ℕ) → HasRange m f l → f ≤ id → f ≤ first_with o id
greatest_is m id None before f l at low = low
greatest_is m id (Some r) (there, under, greatest) f l at low = go (nat_le (id - 1) r.1)
  where
    go : (b : Bool) → f ≤ cond b r.0 id
    go true = greatest f l at low
    go false = low

free_of : (m : BTreeMap ℕ ℕ) (id : ℕ) (o : Option (ℕ × ℕ)) → IsOrdered nat_cmp m → AreApart m → IsBefore m id o → covers o id ≡ false → (f l : ℕ) → HasRange m f l → f ≤ id → l < id
free_of m id o ordered apart before none f l at low = ⊎_elim
    (λ in_it. absurd (wrong (sym (sym (covers_is m id o ordered apart before) ∙ none) ∙ in_ranges m id f l at low in_it.1)))
    (λ past. past.1) (leb_tells id l)

module _ (old : BTreeMap ℕ ℕ) (id : ℕ) (o : Option (ℕ × ℕ)) (ordered : IsOrdered nat_cmp old) (apart : AreApart old) (before : IsBefore old id o) (none : covers o id ≡ false) where
  put_at : (mid : BTreeMap ℕ ℕ) (first last f : ℕ) → ((q : ℕ) → get nat_cmp mid q ≡ cond (is_at (nat_cmp first) q) (Some last) (get nat_cmp old q)) → (f ≡ first → ⊥) → get nat_cmp mid f ≡ get nat_cmp old f
  put_at mid first last f put other =
      put f ∙ ap (λ (b : Bool). cond b (Some last) (get nat_cmp old f)) (not_true (eq_by_cmp nat_cmp first f) (λ e. other (sym (tied_same first f e))))

  alone : (new : BTreeMap ℕ ℕ) → ((q : ℕ) → get nat_cmp new q ≡ cond (is_at (nat_cmp (first_with o id)) q) (Some id) (get nat_cmp old q)) → Joins old new id (first_with o id) id false
  alone new put = record {
    apart = apart;
    free = free_of old id o ordered apart before none;
    greatest = greatest_is old id o before;
    begins = begins_at old id o before (free_of old id o ordered apart before none);
    ends = refl;
    here = put (first_with o id) ∙ ap (λ (b : Bool). cond b (Some id) (get nat_cmp old (first_with o id))) (itself (first_with o id));
    next_gone = λ l is. absurd (wrong is);
    others = λ f other next. put_at new (first_with o id) id f put other;
  }

  with_next : (mid new : BTreeMap ℕ ℕ) (next last : ℕ) → next ≡ id + 1 → HasRange old next last
      → ((q : ℕ) → get nat_cmp mid q ≡ cond (is_at (nat_cmp (first_with o id)) q) (Some last) (get nat_cmp old q))
      → ((q : ℕ) → get nat_cmp new q ≡ cond (is_at (nat_cmp next) q) None (get nat_cmp mid q)) → Joins old new id (first_with o id) last true
  with_next mid new next last is at put took =
      let first = first_with o id in
      let free = free_of old id o ordered apart before none in
      let begins = begins_at old id o before free in record {
        apart = apart;
        free = free;
        greatest = greatest_is old id o before;
        begins = begins;
        ends = subst (λ (n : ℕ). HasRange old n last) is at;
        here = kept first (λ same. low begins.0 begins.1 (same ∙ is)) ∙ put first ∙ ap (λ (b : Bool). cond b (Some last) (get nat_cmp old first)) (itself first);
        next_gone = λ l yes there. none_some (sym (gone (id + 1) (sym is)) ∙ there);
        others = λ f other off. kept f (λ same. off refl (same ∙ is)) ∙ put_at mid first last f put other;
      }
    where
      kept : (f : ℕ) → (f ≡ next → ⊥) → get nat_cmp new f ≡ get nat_cmp mid f
      kept f other = took f ∙ ap (λ (b : Bool). cond b None (get nat_cmp mid f)) (not_true (eq_by_cmp nat_cmp next f) (λ e. other (sym (tied_same next f e))))

      gone : (f : ℕ) → f ≡ next → get nat_cmp new f ≡ None
      gone f same = took f ∙ ap (λ (b : Bool). cond b None (get nat_cmp mid f)) (ap (λ (k : ℕ). eq_by_cmp nat_cmp next k) same ∙ itself next)

      low : (end : Option ℕ) → BeginsAt old id (first_with o id) end → first_with o id ≡ id + 1 → ⊥
      low None same high = omega (arith, same, high)
      low (Some end) (began, just) high = let forward : first_with o id ≤ end = apart.forward (first_with o id) end began in omega (arith, forward, just, high)

-- an id is added that no range has
abbrev pub Adds : BTreeMap ℕ ℕ → ℕ → BTreeMap ℕ ℕ → Type 0
Adds old id new = AreApart new × ((q : ℕ) → is_in new q ≡ cond (eq_by_cmp nat_cmp id q) true (is_in old q))

pub adds_alone : (old new : BTreeMap ℕ ℕ) (id first : ℕ) (o : Option (ℕ × ℕ)) → IsOrdered nat_cmp old → IsOrdered nat_cmp new → AreApart old → IsBefore old id o → covers o id ≡ false
    → first ≡ first_with o id → ((q : ℕ) → get nat_cmp new q ≡ cond (is_at (nat_cmp first) q) (Some id) (get nat_cmp old q)) → Adds old id new
adds_alone old new id first o ordered ordered' apart before none is put =
    let joins = alone old id o ordered apart before none new (subst (λ (f : ℕ). (q : ℕ) → get nat_cmp new q ≡ cond (is_at (nat_cmp f) q) (Some id) (get nat_cmp old q)) is put) in
    (joined_apart old new id (first_with o id) id false joins, joined_has old new id (first_with o id) id false joins ordered ordered')

pub adds_joined : (old mid new : BTreeMap ℕ ℕ) (id first next last : ℕ) (o : Option (ℕ × ℕ)) → IsOrdered nat_cmp old → IsOrdered nat_cmp new → AreApart old → IsBefore old id o → covers o id ≡ false
    → first ≡ first_with o id → IsAfter old id (Some (next, last)) → ((q : ℕ) → get nat_cmp mid q ≡ cond (is_at (nat_cmp first) q) (Some last) (get nat_cmp old q))
    → ((q : ℕ) → get nat_cmp new q ≡ cond (is_at (nat_cmp next) q) None (get nat_cmp mid q)) → Adds old id new
adds_joined old mid new id first next last o ordered ordered' apart before none is (after, at) put took =
    let joins = with_next old id o ordered apart before none mid new next last after at
    (subst (λ (f : ℕ). (q : ℕ) → get nat_cmp mid q ≡ cond (is_at (nat_cmp f) q) (Some last) (get nat_cmp old q)) is put) took in
    (joined_apart old new id (first_with o id) last true joins, joined_has old new id (first_with o id) last true joins ordered ordered')
