-- Members that are read, and one more put among them.
use Rattle.std.proofs.Common.{◌≡◌, ℕ, Bool, true, false, cond, is_eq, nat_cmp, List, [], ◌∷◌, Option, Some, None, is_some, Ok, Err, is_ok, Ordering, Less, Equal, Greater, refl, sym, ap, ap₂, ◌∙◌, true≢false, subst}
use Rattle.std.specs.Cmp.{tied_itself}
use Rattle.std.specs.Cmp.Lexicographic.{slice_cmp}
use Rattle.std.specs.FinMap as fin
use Rattle.std.specs.Ordering.{match_ordering}
use Rattle.std.proofs.lemmas.Cmp.{nat_list_cmp_total}
use Rattle.serde_json.specs.Data.{Data, Members, no_members, member, put}
use Rattle.serde_json.specs.Find.{get_member}
use Rattle.serde_json.proofs.Views.{get_member-put_other}
use Rattle.fieldpath.specs.Elements.{name_text}
use Rattle.fieldpath.specs.Paths.{PathTexts}
use Rattle.pathmap.specs.Contents.{Content, nothing, under, over}
use Rattle.pathmap.proofs.Contents.{same, either, get-nothing, get-over, get-under, get-under-top, nothing-over}
use Rattle.pathmap.proofs.Levels.{under-nothing}
use Rattle.pathmap.proofs.Trees.{ties}
use Rattle.typed.specs.Faults.{Read}
use Rattle.typed.specs.Printing.{with_member}
use Rattle.typed.specs.Reading.{is_null, at_field, joined, one_member, members_at}

abbrev value_or : Content → Read Content → Content
value_or c (Ok x) = x
value_or c (Err e) = c

pub same_ok : (x y : Content) → ◌≡◌ {A = Read Content} (Ok x) (Ok y) → x ≡ y
same_ok x y h = ap (value_or x) h

-- what stands below e alone
abbrev pub StandsBelow : List ℕ → Content → Type 0
StandsBelow e c = (fin.get c [] ≡ None) × ((g : List ℕ) (rest : PathTexts) → is_eq (slice_cmp nat_cmp g e) ≡ false → fin.get c (g ∷ rest) ≡ None)

under_stands : (e : List ℕ) (x : Content) → StandsBelow e (under e x)
under_stands e x = (get-under-top e x, λ g rest h. get-under e x g rest ∙ ap (λ b. cond b (fin.get x rest) None) h)

nothing_stands : (e : List ℕ) → StandsBelow e nothing
nothing_stands e = (get-nothing [], λ g rest h. get-nothing (g ∷ rest))

pub one_stands : (inner : List ℕ → Data → Read Content) (k : List ℕ) (d : Data) (a : Content) → one_member inner k d ≡ Ok a → StandsBelow (name_text k) a
one_stands inner k d a h = by_null (is_null d) (inner k d) h
  where
    by_null : (b : Bool) (r : Read Content) → cond b (Ok nothing) (at_field k r) ≡ Ok a → StandsBelow (name_text k) a
    by_null true r h = subst (StandsBelow (name_text k)) (same_ok nothing a h) (nothing_stands (name_text k))
    by_null false (Ok y) h = subst (StandsBelow (name_text k)) (same_ok (under (name_text k) y) a h) (under_stands (name_text k) y)
    by_null false (Err e) h = absurd (true≢false (sym (ap is_ok h)))

swap_first : {X : Type 0} (x u b : Option X) → x ≡ None → either x (either u b) ≡ either u (either x b)
swap_first x u b none = rw none refl

swap_second : {X : Type 0} (x u b : Option X) → u ≡ None → either x (either u b) ≡ either u (either x b)
swap_second x u b none = rw none refl

get-both : (a u b : Content) (q : PathTexts) → fin.get (over a (over u b)) q ≡ either (fin.get a q) (either (fin.get u q) (fin.get b q))
get-both a u b q = get-over a (over u b) q ∙ ap (either (fin.get a q)) (get-over u b q)

commute : (e f : List ℕ) (a u b : Content) → is_eq (slice_cmp nat_cmp e f) ≡ false → StandsBelow e a → StandsBelow f u → over a (over u b) ≡ over u (over a b)
commute e f a u b apart left right = same (over a (over u b)) (over u (over a b)) (λ q. get-both a u b q ∙ by_path q ∙ sym (get-both u a b q))
  where
    by_path : (q : PathTexts) → either (fin.get a q) (either (fin.get u q) (fin.get b q)) ≡ either (fin.get u q) (either (fin.get a q) (fin.get b q))
    by_path [] = swap_first (fin.get a []) (fin.get u []) (fin.get b []) left.0
    by_path (g ∷ rest) = by_test (is_eq (slice_cmp nat_cmp g e)) refl
      where
        by_test : (t : Bool) → is_eq (slice_cmp nat_cmp g e) ≡ t
            → either (fin.get a (g ∷ rest)) (either (fin.get u (g ∷ rest)) (fin.get b (g ∷ rest))) ≡ either (fin.get u (g ∷ rest)) (either (fin.get a (g ∷ rest)) (fin.get b (g ∷ rest)))
        by_test true t = swap_second (fin.get a (g ∷ rest)) (fin.get u (g ∷ rest)) (fin.get b (g ∷ rest)) (right.1 g rest (ap (λ x. is_eq (slice_cmp nat_cmp x f)) (ties g e t) ∙ apart))
        by_test false t = swap_first (fin.get a (g ∷ rest)) (fin.get u (g ∷ rest)) (fin.get b (g ∷ rest)) (left.1 g rest t)

gone : (o : Ordering) (r : Option Data) (e : Data) → match_ordering o r (Some e) r ≡ None → (is_eq o ≡ false) × (r ≡ None)
gone Less r e h = (refl, h)
gone Equal r e h = absurd (true≢false (ap is_some h))
gone Greater r e h = (refl, h)

pub split : (r s : Read Content) (c : Content) → joined r s ≡ Ok c → (a : Content) × (b : Content) × (r ≡ Ok a) × (s ≡ Ok b) × (over a b ≡ c)
split (Err e) s c h = absurd (true≢false (sym (ap is_ok h)))
split (Ok a) (Err e) c h = absurd (true≢false (sym (ap is_ok h)))
split (Ok a) (Ok b) c h = (a, b, refl, refl, same_ok (over a b) c h)

name_apart : (k l : List ℕ) → is_eq (slice_cmp nat_cmp k l) ≡ false → is_eq (slice_cmp nat_cmp (name_text k) (name_text l)) ≡ false
unfolding name_text
name_apart k l h = h

module _ (inner : List ℕ → Data → Read Content) where
  put_reads : (k : List ℕ) (d : Data) (x : Content) → one_member inner k d ≡ Ok (under (name_text k) x) → (ms : Members) (c : Content) → get_member k ms ≡ None → members_at inner ms ≡ Ok c
      → members_at inner (put k d ms) ≡ Ok (over (under (name_text k) x) c)
  put_reads k d x one no_members c absent h = ap (λ r. joined r (Ok nothing)) one ∙ ap (λ y. Ok (over (under (name_text k) x) y)) (same_ok nothing c h)
  put_reads k d x one (member l e ms) c absent h =
      let parts = split (one_member inner l e) (members_at inner ms) c h in
      let away = gone (slice_cmp nat_cmp k l) (get_member k ms) e absent in
      by_order (slice_cmp nat_cmp k l) refl parts.0 parts.1 parts.2 parts.4 away.0 (put_reads k d x one ms parts.1 away.1 parts.3)
    where
      by_order : (o : Ordering) → slice_cmp nat_cmp k l ≡ o → (a b : Content) → one_member inner l e ≡ Ok a → over a b ≡ c → is_eq (slice_cmp nat_cmp k l) ≡ false
          → members_at inner (put k d ms) ≡ Ok (over (under (name_text k) x) b)
          → members_at inner (match_ordering o (member k d (member l e ms)) (member l d ms) (member l e (put k d ms))) ≡ Ok (over (under (name_text k) x) c)
      by_order Less o a b first is apart later = ap₂ joined one h
      by_order Equal o a b first is apart later = absurd (true≢false (sym (ap is_eq o) ∙ apart))
      by_order Greater o a b first is apart later =
          ap₂ joined first later
          ∙ ap Ok (sym (commute (name_text k) (name_text l) (under (name_text k) x) a b (name_apart k l apart) (under_stands (name_text k) x) (one_stands inner l e a first)) ∙ ap (over (under (name_text k) x)) is)

-- what a value that is printed, or none, gives
abbrev pub Gave : (Data → Read Content) → Option Data → Content → Type 0
Gave inner None x = x ≡ nothing
Gave inner (Some d) x = (is_null d ≡ false) × (inner d ≡ Ok x)

pub with_reads : (inner : List ℕ → Data → Read Content) (k : List ℕ) (o : Option Data) (x : Content) (ms : Members) (c : Content) → Gave (inner k) o x → (is_some o ≡ true → get_member k ms ≡ None)
    → members_at inner ms ≡ Ok c → members_at inner (with_member k o ms) ≡ Ok (over (under (name_text k) x) c)
with_reads inner k None x ms c none absent h = h ∙ sym (ap (λ y. Ok (over y c)) (ap (under (name_text k)) none ∙ under-nothing (name_text k)) ∙ ap Ok (nothing-over c))
with_reads inner k (Some d) x ms c gave absent h =
    put_reads inner k d x (ap (λ b. cond b (Ok nothing) (at_field k (inner k d))) gave.0 ∙ ap (at_field k) gave.1) ms c (absent refl) h

pub with_other : (g k : List ℕ) (o : Option Data) (ms : Members) → (g ≡ k → ⊥) → get_member g (with_member k o ms) ≡ get_member g ms
with_other g k None ms other = refl
with_other g k (Some d) ms other = get_member-put_other g k d ms other

pub below_differs : (g h : List ℕ) → slice_cmp nat_cmp g h ≡ Less → h ≡ g → ⊥
below_differs g h less is = true≢false (sym (ap is_eq (tied_itself nat_list_cmp_total g)) ∙ ap is_eq (ap (slice_cmp nat_cmp g) (sym is) ∙ less))
