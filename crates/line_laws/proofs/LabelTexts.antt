-- Members that are all texts.
use Rattle.std.proofs.Common.{◌≡◌, ℕ, Bool, true, false, cond, ◌||◌, List, [], ◌∷◌, drop, Option, Some, None, refl, sym, ap, ◌∙◌, true≢false, Ordering, Less, Equal, Greater}
use Rattle.std.specs.Prelude.{option_map, option_and_then, unwrap_or}
use Rattle.std.specs.Ordering.{match_ordering}
use Rattle.std.specs.Cmp.Lexicographic.{bytes_decides}
use Rattle.std.specs.FinMap.{nat_cmp-IsAntisymmetric, slice_cmp-IsAntisymmetric}
use Rattle.std.specs.List.{list_any}
use Rattle.std.specs.Str.{bytes_eq}
use Rattle.serde_json.specs.Data.{Data, string, Members, no_members, member, put}
use Rattle.serde_json.specs.Find.{as_str, get_member}
use Rattle.serde_json.proofs.Views.{get_member-put}
use Rattle.selector.specs.Labels.{Labels, value_at}
use Rattle.fieldpath.specs.Elements.{field_name, has_prefix, name_text}
use Rattle.json_values.specs.Texts.{texts_of}
use Rattle.typed.specs.Printing.{each_member, with_member, with_named}
use Rattle.typed.proofs.Putting.{with_other}
use Rattle.typed.proofs.RoundTrip.{prefix_name}
use Rattle.objects.proofs.Taken.{cmp, same_text}

abbrev pub IsText : Data → Type 0
IsText d = (s : List ℕ) × (d ≡ string s)

abbrev pub AreTexts : Members → Type 0
AreTexts no_members = Unit {0}
AreTexts (member k d ms) = IsText d × AreTexts ms

-- ---- as labels

abbrev AreLabels : Members → Type 0
AreLabels ms = (ls : Labels) × (texts_of ms ≡ Some ls) × ((k : List ℕ) → value_at k ls ≡ option_and_then as_str (get_member k ms))

tied : (k l : List ℕ) → cmp k l ≡ Equal → k ≡ l
tied = slice_cmp-IsAntisymmetric nat_cmp-IsAntisymmetric

untied : (k l : List ℕ) → bytes_eq k l ≡ false → cmp k l ≡ Equal → false ≡ true
untied k l apart is = sym apart ∙ (bytes_decides k l).1 (tied k l is)

found : (k l s : List ℕ) (ls : Labels) (ms : Members) → value_at k ls ≡ option_and_then as_str (get_member k ms)
    → cond (bytes_eq k l) (Some s) (value_at k ls) ≡ option_and_then as_str (get_member k (member l (string s) ms))
found k l s ls ms more = by (bytes_eq k l) refl
  where
    equal : (o : Ordering) → o ≡ Equal → Some s ≡ option_and_then as_str (match_ordering o (get_member k ms) (Some (string s)) (get_member k ms))
    equal o is = sym (ap (λ p. option_and_then as_str (match_ordering p (get_member k ms) (Some (string s)) (get_member k ms))) is)

    other : (o : Ordering) → (o ≡ Equal → false ≡ true) → option_and_then as_str (get_member k ms) ≡ option_and_then as_str (match_ordering o (get_member k ms) (Some (string s)) (get_member k ms))
    other Less apart = refl
    other Equal apart = absurd (true≢false (sym (apart refl)))
    other Greater apart = refl

    by : (b : Bool) → bytes_eq k l ≡ b → cond b (Some s) (value_at k ls) ≡ option_and_then as_str (match_ordering (cmp k l) (get_member k ms) (Some (string s)) (get_member k ms))
    by true is = equal (cmp k l) (ap (cmp k) (sym ((bytes_decides k l).0 is)) ∙ same_text k)
    by false apart = more ∙ other (cmp k l) (untied k l apart)

pub texts_are : (ms : Members) → AreTexts ms → AreLabels ms
texts_are no_members all = ([], refl, λ k. refl)
texts_are (member l d ms) all =
    let rest = texts_are ms all.1 in
    let s = all.0.0 in (
      (l, s) ∷ rest.0,
      ap (λ x. option_and_then (λ v. option_map (λ more. (l, v) ∷ more) (texts_of ms)) (as_str x)) all.0.1 ∙ ap (λ o. option_map (λ more. (l, s) ∷ more) o) rest.1,
      λ k. found k l s rest.0 ms (rest.2 k) ∙ ap (λ x. option_and_then as_str (get_member k (member l x ms))) (sym all.0.1),
    )

pub labels_by : (ms : Members) (k : List ℕ) → AreTexts ms → value_at k (unwrap_or (texts_of ms) []) ≡ option_and_then as_str (get_member k ms)
labels_by ms k all = let are = texts_are ms all in ap (λ o. value_at k (unwrap_or o [])) are.1 ∙ are.2 k

-- ---- one for each element

abbrev pub IfText : Option Data → Type 0
IfText None = Unit {0}
IfText (Some d) = IsText d

put_texts : (k : List ℕ) (d : Data) (ms : Members) → IsText d → AreTexts ms → AreTexts (put k d ms)
put_texts k d no_members one all = (one, tt)
put_texts k d (member l e ms) one all = by (cmp k l) (put_texts k d ms one all.1)
  where
    by : (o : Ordering) → AreTexts (put k d ms) → AreTexts (match_ordering o (member k d (member l e ms)) (member l d ms) (member l e (put k d ms)))
    by Less later = (one, all)
    by Equal later = (one, all.1)
    by Greater later = (all.0, later)

named_texts : (k : Option (List ℕ)) (o : Option Data) (ms : Members) → IfText o → AreTexts ms → AreTexts (with_named k o ms)
named_texts None o ms one all = all
named_texts (Some k) None ms one all = all
named_texts (Some k) (Some d) ms one all = put_texts k d ms one all

pub each_texts : (inner : List ℕ → Option Data) → ((e : List ℕ) → IfText (inner e)) → (es : List (List ℕ)) (ms : Members) → AreTexts ms → AreTexts (each_member inner es ms)
each_texts inner one [] ms all = all
each_texts inner one (e ∷ es) ms all = each_texts inner one es (with_named (field_name e) (inner e) ms) (named_texts (field_name e) (inner e) ms (one e) all)

-- an element of another name leaves the member
other_element : (k e : List ℕ) (o : Option Data) (ms : Members) → bytes_eq (name_text k) e ≡ false → get_member k (with_named (field_name e) o ms) ≡ get_member k ms
other_element k e o ms apart = by (has_prefix 102 e) refl
  where
    named : (j : List ℕ) → e ≡ name_text j → k ≡ j → false ≡ true
    named j is same = sym apart ∙ (bytes_decides (name_text k) e).1 (ap name_text same ∙ sym is)

    by : (b : Bool) → has_prefix 102 e ≡ b → get_member k (with_named (field_name e) o ms) ≡ get_member k ms
    by true is =
        let it = prefix_name e is in
        ap (λ n. get_member k (with_named n o ms)) it.1 ∙ with_other k it.0 o ms (λ same. true≢false (sym (named it.0 it.2 same)))
    by false is = ap (λ b. get_member k (with_named (cond b (Some (drop 2 e)) None) o ms)) is

pub each_other : (inner : List ℕ → Option Data) (k : List ℕ) (es : List (List ℕ)) (ms : Members) → list_any (bytes_eq (name_text k)) es ≡ false → get_member k (each_member inner es ms) ≡ get_member k ms
each_other inner k [] ms none = refl
each_other inner k (e ∷ es) ms none = by (bytes_eq (name_text k) e) refl none (each_other inner k es (with_named (field_name e) (inner e) ms))
  where
    by : (b : Bool) → bytes_eq (name_text k) e ≡ b → (b || list_any (bytes_eq (name_text k)) es) ≡ false
        → (list_any (bytes_eq (name_text k)) es ≡ false → get_member k (each_member inner es (with_named (field_name e) (inner e) ms)) ≡ get_member k (with_named (field_name e) (inner e) ms))
        → get_member k (each_member inner es (with_named (field_name e) (inner e) ms)) ≡ get_member k ms
    by true is none later = absurd (true≢false none)
    by false is none later = later none ∙ other_element k e (inner e) ms is

name_field : (k : List ℕ) → field_name (name_text k) ≡ Some k
unfolding name_text
name_field k = refl

pub each_found : (inner : List ℕ → Option Data) (k : List ℕ) (d : Data) → inner (name_text k) ≡ Some d → (es : List (List ℕ)) (ms : Members) → list_any (bytes_eq (name_text k)) es ≡ true
    → get_member k (each_member inner es ms) ≡ Some d
each_found inner k d is [] ms some = absurd (true≢false (sym some))
each_found inner k d is (e ∷ es) ms some =
    by (list_any (bytes_eq (name_text k)) es) refl (bytes_eq (name_text k) e) refl some (each_found inner k d is es (with_named (field_name e) (inner e) ms))
  where
    here : bytes_eq (name_text k) e ≡ true → get_member k (with_named (field_name e) (inner e) ms) ≡ Some d
    here same =
        let e_is : e ≡ name_text k = sym ((bytes_decides (name_text k) e).0 same) in
        ap (λ x. get_member k (with_named (field_name x) (inner x) ms)) e_is ∙ ap (λ n. get_member k (with_named n (inner (name_text k)) ms)) (name_field k)
        ∙ ap (λ o. get_member k (with_member k o ms)) is ∙ get_member-put k d ms

    by : (later : Bool) → list_any (bytes_eq (name_text k)) es ≡ later → (now : Bool) → bytes_eq (name_text k) e ≡ now → (now || later) ≡ true
        → (list_any (bytes_eq (name_text k)) es ≡ true → get_member k (each_member inner es (with_named (field_name e) (inner e) ms)) ≡ Some d)
        → get_member k (each_member inner es (with_named (field_name e) (inner e) ms)) ≡ Some d
    by true in_rest now same some rest = rest in_rest
    by false in_rest true same some rest = each_other inner k es (with_named (field_name e) (inner e) ms) in_rest ∙ here same
    by false in_rest false same some rest = absurd (true≢false (sym some))
