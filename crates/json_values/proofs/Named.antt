-- Texts by their names, read one by one.
use Rattle.std.specs.Ordering.{ordering_reverse, match_ordering}
use Rattle.std.specs.Cmp.Lexicographic.{slice_cmp}
use Rattle.std.specs.BTreeMap.{insert_entry}
use Rattle.std.specs.List.{AllByRecursion}
use Rattle.std.specs.List.Sorted.{IsStrictlySortedBy}
use Rattle.std.specs.Map.{keys_of}
use Rattle.std.proofs.lemmas.Cmp.{nat_list_cmp_total}
use Rattle.std.proofs.lemmas.Map.Keys.{sorted_head, sorted_tail}
use Rattle.std.proofs.Common.{nat_cmp, string_cmp, Ordering, Less, Equal, Greater, ◌≡◌, ℕ, List, [], ◌∷◌, ◌++◌, map, Option, Some, None, option_map, option_and_then, String, Global, string_bytes, refl, sym, ap, subst, ◌∙◌, append_assoc, append-nil}
use Rattle.serde_json.specs.Find.{as_str}
use Rattle.serde_json.specs.View.{view, members_view}
use Rattle.serde_json.specs.declared.value.Value.{Value}
use Rattle.json_values.specs.Texts.{texts_of}

abbrev pub Pair : Type 0
Pair = List ℕ × List ℕ

abbrev pub bytes_cmp : List ℕ → List ℕ → Ordering
bytes_cmp = slice_cmp nat_cmp

abbrev pub Label : Type 0
Label = String Global × String Global

abbrev pub pair : Label → Pair
pair e = (string_bytes e.0, string_bytes e.1)

map_ordering : (o : Ordering) (a b c : List Label) → map pair (match_ordering o a b c) ≡ match_ordering o (map pair a) (map pair b) (map pair c)
map_ordering Less a b c = refl
map_ordering Equal a b c = refl
map_ordering Greater a b c = refl

pub pairs-insert : (es : List Label) (k v : String Global) → map pair (insert_entry string_cmp es k v) ≡ insert_entry bytes_cmp (map pair es) (string_bytes k) (string_bytes v)
pairs-insert [] k v = refl
pairs-insert (e ∷ es) k v =
    map_ordering (string_cmp k e.0) ((k, v) ∷ e ∷ es) ((e.0, v) ∷ es) (e ∷ insert_entry string_cmp es k v)
    ∙ ap (λ more. match_ordering (string_cmp k e.0) ((string_bytes k, string_bytes v) ∷ pair e ∷ map pair es) ((string_bytes e.0, string_bytes v) ∷ map pair es) (pair e ∷ more)) (pairs-insert es k v)

-- ---- what is put behind all goes last

abbrev pub AreBelow : List Pair → List ℕ → Type 0
AreBelow [] k = Unit {0}
AreBelow (e ∷ es) k = (bytes_cmp k e.0 ≡ Greater) × AreBelow es k

put_last : (es : List Pair) (k v : List ℕ) → AreBelow es k → insert_entry bytes_cmp es k v ≡ es ++ (k, v) ∷ []
put_last [] k v h = refl
put_last (e ∷ es) k v h = rw (h.0) (ap (λ l. e ∷ l) (put_last es k v h.1))

still_below : (es : List Pair) (k v l : List ℕ) → AreBelow es l → bytes_cmp l k ≡ Greater → AreBelow (es ++ (k, v) ∷ []) l
still_below [] k v l h above = (above, tt)
still_below (e ∷ es) k v l h above = (h.0, still_below es k v l h.1 above)

abbrev pub Entry : Type 0
Entry = String Global × Value

-- the labels so far are below each that is left
abbrev pub AreBefore : List Pair → List Entry → Type 0
AreBefore es it = AllByRecursion (λ e. AreBelow es (string_bytes e.0)) it

pub before_all : (es : List Pair) (it : List Entry) → es ≡ [] → AreBefore es it
before_all es [] none = tt
before_all es (e ∷ it) none = (rw none tt, before_all es it none)

all_below : (k : String Global) (es : List Pair) (v : List ℕ) (left : List Entry) → AllByRecursion (λ y. string_cmp k y ≡ Less) (keys_of left) → AreBefore es left → AreBefore (es ++ (string_bytes k, v) ∷ []) left
all_below k es v [] above h = tt
all_below k es v (e ∷ left) above h =
    (still_below es (string_bytes k) v (string_bytes e.0) h.0 (nat_list_cmp_total.antisymm (string_bytes e.0) (string_bytes k) ∙ ap ordering_reverse above.0), all_below k es v left above.1 h.1)

-- ---- as far as the loop has come

abbrev pub and_more : List Pair → Option (List Pair) → Option (List Pair)
and_more es r = option_map (λ more. es ++ more) r

abbrev pub IsReadSoFar : Option (List Pair) → List Pair → List Entry → Type 0
IsReadSoFar whole es it = (and_more es (texts_of (members_view it)) ≡ whole) × IsStrictlySortedBy string_cmp (keys_of it) × AreBefore es it

none_more : (r : Option (List Pair)) → and_more [] r ≡ r
none_more None = refl
none_more (Some more) = refl

pub begun : (es : List Pair) (it all : List Entry) → es ≡ [] → it ≡ all → and_more es (texts_of (members_view it)) ≡ texts_of (members_view all)
begun es it all none is = ap (λ l. and_more l (texts_of (members_view it))) none ∙ none_more (texts_of (members_view it)) ∙ ap (λ l. texts_of (members_view l)) is

pub ended : (es : List Pair) (it : List Entry) (whole : Option (List Pair)) → it ≡ [] → and_more es (texts_of (members_view it)) ≡ whole → Some es ≡ whole
ended es it whole none so_far = sym (ap Some (append-nil es)) ∙ sym (ap (λ l. and_more es (texts_of (members_view l))) none) ∙ so_far

module _ (whole : Option (List Pair)) (es : List Pair) (it : List Entry) (e : Entry) (left : List Entry) (steps : it ≡ e ∷ left) (so_far : IsReadSoFar whole es it) where
  there : and_more es (option_and_then (λ v. option_map (λ more. (string_bytes e.0, v) ∷ more) (texts_of (members_view left))) (as_str (view e.1))) ≡ whole
  there = sym (ap (λ l. and_more es (texts_of (members_view l))) steps) ∙ so_far.0

  -- one that is no text
  pub no_text : None ≡ as_str (view e.1) → None ≡ whole
  no_text is = ap (λ r. and_more es (option_and_then (λ v. option_map (λ more. (string_bytes e.0, v) ∷ more) (texts_of (members_view left))) r)) is ∙ there

  module _ (k v : List ℕ) (named : k ≡ string_bytes e.0) (says : Some v ≡ as_str (view e.1)) (new : List Pair) (is : new ≡ insert_entry bytes_cmp es k v) where
    sorted_it : IsStrictlySortedBy string_cmp (keys_of (e ∷ left))
    sorted_it = subst (λ l. IsStrictlySortedBy string_cmp (keys_of l)) steps so_far.1

    before_it : AreBefore es (e ∷ left)
    before_it = subst (AreBefore es) steps so_far.2

    put : new ≡ es ++ (string_bytes e.0, v) ∷ []
    put = is ∙ ap (λ n. insert_entry bytes_cmp es n v) named ∙ put_last es (string_bytes e.0) v before_it.0

    longer : (r : Option (List Pair)) → and_more (es ++ (string_bytes e.0, v) ∷ []) r ≡ and_more es (option_map (λ more. (string_bytes e.0, v) ∷ more) r)
    longer None = refl
    longer (Some more) = ap Some (append_assoc es ((string_bytes e.0, v) ∷ []) more)

    pub takes : IsReadSoFar whole new left
    takes = (
      ap (λ l. and_more l (texts_of (members_view left))) put ∙ longer (texts_of (members_view left))
          ∙ ap (λ r. and_more es (option_and_then (λ w. option_map (λ more. (string_bytes e.0, w) ∷ more) (texts_of (members_view left))) r)) says ∙ there,
      sorted_tail string_cmp e.0 (keys_of left) sorted_it,
      subst (λ l. AreBefore l left) (sym put) (all_below e.0 es v left (sorted_head string_cmp e.0 (keys_of left) sorted_it) before_it.1),
    )
