-- Who writes which paths, kept by an apply and by an update.
use Rattle.std.proofs.Common.{◌≡◌, ℕ, Bool, true, false, cond, not, ◌&&◌, ◌||◌, List, [], ◌∷◌, Option, None, is_some, refl, sym, ap, ap₂, ◌∙◌, subst, true≢false}
use Rattle.std.specs.Prelude.{codes}
use Rattle.std.specs.FinMap as fin
use Rattle.std.specs.FinSet as set
use Rattle.std.specs.Cmp.Lexicographic.{bytes_decides}
use Rattle.std.specs.Str.{bytes_eq}
use Rattle.fieldpath.specs.Paths.{PathTexts}
use Rattle.pathmap.specs.Beside.{changed, has_at_or_above, is_prefix, same_value}
use Rattle.pathmap.specs.Contents.{LeafValue, Content, PathSet, dom, nothing}
use Rattle.pathmap.specs.Parted.{is_in, part_of, rest_of}
use Rattle.pathmap.specs.declared.parts.Part.{Part}
use Rattle.pathmap.proofs.Contents.{path_cmp_antisymmetric, path_cmp_total, same, either, either-None, get-nothing, get-over}
use Rattle.pathmap.proofs.Parting.{get-part, get-rest}
use Rattle.pathmap.proofs.Sets.{contains-changed, contains-clear_of, contains-dom}
use Rattle.schema.specs.Shape.{Shape}
use Rattle.typed.specs.Fitting.{IsContent}
use Rattle.typed.proofs.Keeping.{over_content, retained_content}
use Rattle.objects.specs.declared.manager.Subresource.{Subresource}
use Rattle.objects.specs.declared.manager.Subresource.TheVariants.{Main, Status}
use Rattle.objects.specs.Owners.{Manager, Owners, is_same, others, owned_by, taken_over}
use Rattle.objects.specs.State.{State}
use Rattle.objects.proofs.Taking.{owned_mine, owned_other}
use Rattle.objects.proofs.Within.{left_true, same_manager-is}
use Rattle.ownership.specs.Apply.{all_paths, applied, dropped}
use Rattle.ownership.specs.Keeping.{HasPlaces}
use Rattle.ownership.specs.Sides.{OtherSideStays, OwnSides, beside_others, other_part, own_part, writes}
use Rattle.ownership.specs.Update.{removed, updated}
use Rattle.ownership.proofs.Changing.{contains-gone, contains-mine}
use Rattle.ownership.proofs.Keeping.{some_above}
use Rattle.ownership.proofs.Leaves.{after-is}
use Rattle.ownership.proofs.Sameness.{same_value-itself}

-- ---- the parts of a content

pub get-own : (is_apart : Bool) (x : Subresource) (c : Content) (p : PathTexts) → fin.get (own_part is_apart x c) p ≡ cond (writes is_apart x p) (fin.get c p) None
unfolding own_part
get-own is_apart x c p = fin.get-retain_keys c (writes is_apart x) p (λ q t. ap (writes is_apart x) (sym (path_cmp_antisymmetric p q t)))

pub get-other : (is_apart : Bool) (x : Subresource) (c : Content) (p : PathTexts) → fin.get (other_part is_apart x c) p ≡ cond (not (writes is_apart x p)) (fin.get c p) None
unfolding other_part
get-other is_apart x c p = fin.get-retain_keys c (λ q. not (writes is_apart x q)) p (λ q t. ap (λ r. not (writes is_apart x r)) (sym (path_cmp_antisymmetric p q t)))

module _ (x : Subresource) (part : Part) (field : List ℕ) (named : field ≡ codes "status") (is : (p : PathTexts) → is_in part (codes "status") p ≡ writes true x p) where
  pub own_is : (c : Content) → part_of part field c ≡ own_part true x c
  own_is c = ap (λ f. part_of part f c) named ∙ same _ _ (λ p. get-part part (codes "status") c p ∙ ap (λ b. cond b (fin.get c p) None) (is p) ∙ sym (get-own true x c p))

  pub other_is : (c : Content) → rest_of part field c ≡ other_part true x c
  other_is c = ap (λ f. rest_of part f c) named ∙ same _ _ (λ p. get-rest part (codes "status") c p ∙ ap (λ b. cond (not b) (fin.get c p) None) (is p) ∙ sym (get-other true x c p))

-- where the status isn't apart, the main resource writes all, and the subresource `status` nothing

pub own_all : (c : Content) → own_part false Main c ≡ c
own_all c = same _ _ (get-own false Main c)

pub own_nothing : (c : Content) → own_part false Status c ≡ nothing
own_nothing c = same _ _ (λ p. get-own false Status c p ∙ sym (get-nothing p))

pub beside_nothing : (new live : Content) → beside_others false Main new live ≡ new
beside_nothing new live =
    same _ _ (λ p. get-over (own_part false Main new) (other_part false Main live) p ∙ ap₂ either (get-own false Main new p) (get-other false Main live p) ∙ either-None (fin.get new p))

pub beside_all : (new live : Content) → beside_others false Status new live ≡ live
beside_all new live = same _ _ (λ p. get-over (own_part false Status new) (other_part false Status live) p ∙ ap₂ either (get-own false Status new p) (get-other false Status live p))

-- ---- the first element decides

pub first_decides : (is_apart : Bool) (x : Subresource) (f : List ℕ) (p q : PathTexts) → writes is_apart x (f ∷ p) ≡ writes is_apart x (f ∷ q)
first_decides true Main f p q = refl
first_decides true Status f p q = refl
first_decides false Main f p q = refl
first_decides false Status f p q = refl

none_written : (x : Subresource) → writes true x [] ≡ false
none_written Main = refl
none_written Status = refl

-- what is written at a path is written below it
written_below : (is_apart : Bool) (x : Subresource) (q p : PathTexts) → is_prefix q p ≡ true → writes is_apart x q ≡ true → writes is_apart x p ≡ true
written_below false Main q p prefix is = refl
written_below false Status q p prefix is = absurd (true≢false (sym is))
written_below true x [] p prefix is = absurd (true≢false (sym is ∙ none_written x))
written_below true x (f ∷ q) [] prefix is = absurd (true≢false (sym prefix))
written_below true x (f ∷ q) (g ∷ p) prefix is =
    let alike = (bytes_decides f g).0 (left_true (bytes_eq f g) (is_prefix q p) prefix) in
    ap (λ h. writes true x (h ∷ p)) (sym alike) ∙ first_decides true x f p q ∙ is

-- ---- contents of a schema, and places

module _ (is_apart : Bool) (x : Subresource) (s : Shape) where
  pub own_content : (c : Content) → IsContent s c → IsContent s (own_part is_apart x c)
  unfolding own_part
  own_content c content = retained_content s c (writes is_apart x) (first_decides is_apart x) content

  other_content : (c : Content) → IsContent s c → IsContent s (other_part is_apart x c)
  unfolding other_part
  other_content c content = retained_content s c (λ p. not (writes is_apart x p)) (λ f p q. ap not (first_decides is_apart x f p q)) content

  pub beside_content : (new live : Content) → IsContent s new → IsContent s live → IsContent s (beside_others is_apart x new live)
  beside_content new live content stood = over_content s (own_part is_apart x new) (other_part is_apart x live) (own_content new content) (other_content live stood)

  pub own_places : (c : Content) → HasPlaces s c → HasPlaces s (own_part is_apart x c)
  own_places c places p there = places p (in_whole (writes is_apart x p) (fin.get c p) (sym (ap is_some (get-own is_apart x c p)) ∙ there))
    where
      in_whole : (b : Bool) (o : Option LeafValue) → is_some (cond b o None) ≡ true → is_some o ≡ true
      in_whole true o h = h
      in_whole false o h = absurd (true≢false (sym h))

-- ---- owners, once a manager has taken over

and_true : (b : Bool) → (b && true) ≡ b
and_true true = refl
and_true false = refl

and_not : (b : Bool) → (b && not b) ≡ false
and_not true = refl
and_not false = refl

or_false : (b : Bool) → (b || false) ≡ b
or_false true = refl
or_false false = refl

module _ (w : Owners) (m : Manager) (lost mine : PathSet) where
  abbrev left : Owners
  left = taken_over w m lost mine

  -- each still owns what it writes
  taken_sides : (is_apart : Bool) → ((k : Manager) (p : PathTexts) → set.contains (owned_by w k) p ≡ true → writes is_apart k.subresource p ≡ true) → ((p : PathTexts) → set.contains mine p ≡ true → writes is_apart m.subresource p ≡ true) → (k : Manager) (p : PathTexts)
      → set.contains (owned_by left k) p ≡ true → writes is_apart k.subresource p ≡ true
  taken_sides is_apart before own k p is = by_manager (is_same m k) refl
    where
      by_manager : (b : Bool) → is_same m k ≡ b → writes is_apart k.subresource p ≡ true
      by_manager true t =
          let alike = same_manager-is m k t in
          ap (λ j. writes is_apart j.subresource p) (sym alike) ∙ own p (ap (λ s. set.contains s p) (sym (owned_mine w m lost mine)) ∙ ap (λ j. set.contains (owned_by left j) p) alike ∙ is)
      by_manager false t =
          before k p (left_true (set.contains (owned_by w k) p) _ (sym (set.contains-difference path_cmp_total (owned_by w k) lost p) ∙ ap (λ s. set.contains s p) (sym (owned_other w m lost mine k t)) ∙ is))

  -- a path that is not lost, and that the manager owns as before, has the owners that it had
  taken_apart : (p : PathTexts) → set.contains mine p ≡ set.contains (owned_by w m) p → set.contains lost p ≡ false → (k : Manager) → set.contains (owned_by left k) p ≡ set.contains (owned_by w k) p
  taken_apart p as_before free k = by_manager (is_same m k) refl
    where
      by_manager : (b : Bool) → is_same m k ≡ b → set.contains (owned_by left k) p ≡ set.contains (owned_by w k) p
      by_manager true t =
          let alike = same_manager-is m k t in
          ap (λ j. set.contains (owned_by left j) p) (sym alike) ∙ ap (λ s. set.contains s p) (owned_mine w m lost mine) ∙ as_before ∙ ap (λ j. set.contains (owned_by w j) p) alike
      by_manager false t =
          ap (λ s. set.contains s p) (owned_other w m lost mine k t) ∙ set.contains-difference path_cmp_total (owned_by w k) lost p ∙ ap (λ b. set.contains (owned_by w k) p && not b) free
          ∙ and_true (set.contains (owned_by w k) p)

not_owned : (is_apart : Bool) (state : State) → OwnSides is_apart state → (k : Manager) (p : PathTexts) → writes is_apart k.subresource p ≡ false → set.contains (owned_by state.owners k) p ≡ false
not_owned is_apart state sides k p out = by_test (set.contains (owned_by state.owners k) p) refl
  where
    by_test : (b : Bool) → set.contains (owned_by state.owners k) p ≡ b → b ≡ false
    by_test true is = absurd (true≢false (sym (sides k p is) ∙ out))
    by_test false is = refl

-- ---- an apply

module _ (is_apart : Bool) (live : State) (config : Content) (m : Manager) where
  abbrev body : Content
  body = own_part is_apart m.subresource config

  none_applied : (p : PathTexts) → writes is_apart m.subresource p ≡ false → fin.get body p ≡ None
  none_applied p out = get-own is_apart m.subresource config p ∙ ap (λ b. cond b (fin.get config p) None) out

  written : (p : PathTexts) → set.contains (dom body) p ≡ true → writes is_apart m.subresource p ≡ true
  written p is = by_test (writes is_apart m.subresource p) refl
    where
      by_test : (b : Bool) → writes is_apart m.subresource p ≡ b → b ≡ true
      by_test true t = refl
      by_test false t = absurd (true≢false (sym is ∙ contains-dom body p ∙ ap is_some (none_applied p t)))

  unchanged : (p : PathTexts) → writes is_apart m.subresource p ≡ false → set.contains (changed body live.content) p ≡ false
  unchanged p out = contains-changed body live.content p ∙ ap (λ o. is_some o && not (same_value o (fin.get live.content p))) (none_applied p out)

  none_dropped : OwnSides is_apart live → (p : PathTexts) → writes is_apart m.subresource p ≡ false → has_at_or_above (dropped live body m) p ≡ false
  unfolding dropped
  none_dropped sides p out = by_test (has_at_or_above (dropped live body m) p) refl
    where
      all_of : PathSet
      all_of = all_paths (dom body) (others live.owners m)

      by_test : (b : Bool) → has_at_or_above (dropped live body m) p ≡ b → b ≡ false
      by_test true h =
          let found = some_above (dropped live body m) p h in
          let owned = left_true (set.contains (owned_by live.owners m) found.0) _ (sym (contains-clear_of (owned_by live.owners m) all_of found.0) ∙ found.1) in
          absurd (true≢false (sym (written_below is_apart m.subresource found.0 p found.2 (sides m found.0 owned)) ∙ out))
      by_test false h = refl

  pub applied_sides : OwnSides is_apart live → OwnSides is_apart (applied live body m)
  unfolding applied
  applied_sides sides = taken_sides live.owners m (changed body live.content) (dom body) is_apart sides written

  pub applied_apart : OwnSides is_apart live → OtherSideStays is_apart m.subresource live (applied live body m)
  unfolding applied
  applied_apart sides p out = (
    after-is live body m p ∙ ap₂ (λ b o. cond b None (either o (fin.get live.content p))) (none_dropped sides p out) (none_applied p out),
    taken_apart live.owners m (changed body live.content) (dom body) p (contains-dom body p ∙ ap is_some (none_applied p out) ∙ sym (not_owned is_apart live sides m p out)) (unchanged p out),
  )

  pub keeps_sides : (new : State) → new ≡ applied live body m → OwnSides is_apart live → OwnSides is_apart new
  keeps_sides new is sides = subst (OwnSides is_apart) (sym is) (applied_sides sides)

  pub keeps_apart : (new : State) → new ≡ applied live body m → OwnSides is_apart live → OtherSideStays is_apart m.subresource live new
  keeps_apart new is sides = subst (OtherSideStays is_apart m.subresource live) (sym is) (applied_apart sides)

-- ---- an update

module _ (is_apart : Bool) (live : State) (sent : Content) (m : Manager) where
  abbrev new : Content
  new = beside_others is_apart m.subresource sent live.content

  abbrev changes : PathSet
  changes = changed new live.content

  abbrev gone : PathSet
  gone = removed live.content new

  as_it_was : (p : PathTexts) → writes is_apart m.subresource p ≡ false → fin.get new p ≡ fin.get live.content p
  as_it_was p out =
      get-over (own_part is_apart m.subresource sent) (other_part is_apart m.subresource live.content) p
      ∙ ap₂ either (get-own is_apart m.subresource sent p ∙ ap (λ b. cond b (fin.get sent p) None) out) (get-other is_apart m.subresource live.content p ∙ ap (λ b. cond (not b) (fin.get live.content p) None) out)

  unchanged_there : (p : PathTexts) → writes is_apart m.subresource p ≡ false → set.contains changes p ≡ false
  unchanged_there p out =
      contains-changed new live.content p ∙ ap (λ o. is_some o && not (same_value o (fin.get live.content p))) (as_it_was p out)
      ∙ ap (λ b. is_some (fin.get live.content p) && not b) (same_value-itself (fin.get live.content p)) ∙ and_none (is_some (fin.get live.content p))
    where
      and_none : (b : Bool) → (b && false) ≡ false
      and_none true = refl
      and_none false = refl

  stays_there : (p : PathTexts) → writes is_apart m.subresource p ≡ false → set.contains gone p ≡ false
  stays_there p out = contains-gone live new m p ∙ ap (λ o. is_some (fin.get live.content p) && not (is_some o)) (as_it_was p out) ∙ and_not (is_some (fin.get live.content p))

  abbrev lost : PathSet
  lost = set.union changes gone

  abbrev mine : PathSet
  mine = set.union (set.difference (owned_by live.owners m) gone) changes

  owned_as_before : (p : PathTexts) → writes is_apart m.subresource p ≡ false → set.contains mine p ≡ set.contains (owned_by live.owners m) p
  owned_as_before p out =
      contains-mine live new m p ∙ ap₂ (λ g c. (set.contains (owned_by live.owners m) p && not g) || c) (stays_there p out) (unchanged_there p out) ∙ or_false (set.contains (owned_by live.owners m) p && true)
      ∙ and_true (set.contains (owned_by live.owners m) p)

  none_lost : (p : PathTexts) → writes is_apart m.subresource p ≡ false → set.contains lost p ≡ false
  none_lost p out = set.contains-union path_cmp_total changes gone p ∙ ap₂ (λ a b. a || b) (unchanged_there p out) (stays_there p out)

  mine_written : OwnSides is_apart live → (p : PathTexts) → set.contains mine p ≡ true → writes is_apart m.subresource p ≡ true
  mine_written sides p is = by_test (writes is_apart m.subresource p) refl
    where
      by_test : (b : Bool) → writes is_apart m.subresource p ≡ b → b ≡ true
      by_test true t = refl
      by_test false t = absurd (true≢false (sym is ∙ owned_as_before p t ∙ not_owned is_apart live sides m p t))

  pub updated_sides : OwnSides is_apart live → OwnSides is_apart (updated live new m)
  unfolding updated
  updated_sides sides = taken_sides live.owners m lost mine is_apart sides (mine_written sides)

  pub updated_apart : OtherSideStays is_apart m.subresource live (updated live new m)
  unfolding updated
  updated_apart p out = (as_it_was p out, taken_apart live.owners m lost mine p (owned_as_before p out) (none_lost p out))

  pub update_sides : (after : State) → after ≡ updated live new m → OwnSides is_apart live → OwnSides is_apart after
  update_sides after is sides = subst (OwnSides is_apart) (sym is) (updated_sides sides)

  pub update_apart : (after : State) → after ≡ updated live new m → OtherSideStays is_apart m.subresource live after
  update_apart after is = subst (OtherSideStays is_apart m.subresource live) (sym is) updated_apart
