-- The counts of the objects that a client keeps can be said: their values are texts, and their numbers are within 64 bits.
use Rattle.std.proofs.Common.{◌≡◌, ℕ, zero, suc, ◌+◌, ◌-◌, ◌<◌, ◌≤◌, Bool, true, false, cond, List, [], ◌∷◌, ◌++◌, length, Option, Some, None, IsUtf8, Less, Equal, Greater, refl, sym, ap, subst, ◌∙◌, arith, T}
use Rattle.std.proofs.lemmas.List.{length-map}
use Rattle.std.specs.Prelude.{IfSome, filter, nat_le, ◌&&◌}
use Rattle.std.specs.Cmp.{tied_itself}
use Rattle.std.specs.Cmp.Lexicographic.{slice_cmp}
use Rattle.std.specs.FinMap as fin
use Rattle.std.specs.FinMap.Entries.{below_all, find, is_sorted}
use Rattle.std.specs.List.{AllByRecursion, flat_map}
use Rattle.std.specs.Ordering.{eq_by_cmp, is_eq, is_lt, nat_cmp}
use Rattle.std.specs.declared.cmp.Ordering.{Ordering}
use Rattle.std.proofs.lemmas.Cmp.{nat_list_cmp_total}
use Rattle.history.specs.History.{Change, History, IsHistory, IsRising, Key, Object, Objects as Standing, changed, current_objects, is_same_key, key_cmp, left_by, object_by, put_or_remove, up_to}
use Rattle.history.proofs.Keys.{get-put_or_remove, key_cmp_total}
use Rattle.history.proofs.Lists.{all-filter}
use Rattle.history.proofs.Selecting.{entries-selected}
use Rattle.history.specs.Seen.{Selection, selected}
use Rattle.objects.proofs.Taken.{no_some, same_some}
use Rattle.indexer.specs.Objects.{Place, Stored}
use Rattle.decoder.specs.Wanted.{Wanted}
use Rattle.reflector.specs.Client.{Objects, by_place}
use Rattle.line_laws.specs.Listed.{AreReadAs}
use Rattle.line_laws.proofs.Kept.{each_entry}
use Rattle.verbs.specs.Machine.{AreUnicode}
use Rattle.summary.specs.Counts.{count, counts_of, has, how_many, is_labelled, some_if_any, summed_of, total, value_of, with_count}
use Rattle.summary.proofs.ByValue.{counts_get, same_key}
use Rattle.world_laws.specs.Reports.{IsStateAt}
use Rattle.settling_laws.specs.Said.{IsSayable, max_whole}
use Rattle.settling_laws.proofs.LabelTexts.{AreTexts, labels_texts}

abbrev Entries : Type 0
Entries = List (Key × Object)

abbrev Held : Type 0
Held = List (Place × Stored)

-- ---- how many there are

filter_shorter : {X : Type 0} (p : X → Bool) (xs : List X) → length (filter p xs) ≤ length xs
filter_shorter p [] = omega arith
filter_shorter p (x ∷ xs) = by_test (p x) (filter_shorter p xs)
  where
    by_test : (b : Bool) → length (filter p xs) ≤ length xs → length (cond b (x ∷ filter p xs) (filter p xs)) ≤ suc (length xs)
    by_test true less = omega (arith, less)
    by_test false less = omega (arith, less)

-- one more change leaves one object more at most
put_longer : (s : Standing) (k : Key) (o : Option Object) → fin.len (put_or_remove s k o) ≤ fin.len s + 1
put_longer s k None = let less : fin.len (fin.remove s k) ≡ cond (fin.contains_key s k) (fin.len s - 1) (fin.len s) = fin.len-remove key_cmp_total s k in by_test (fin.contains_key s k) less
  where
    by_test : (b : Bool) → fin.len (fin.remove s k) ≡ cond b (fin.len s - 1) (fin.len s) → fin.len (fin.remove s k) ≤ fin.len s + 1
    by_test true is = omega (arith, is)
    by_test false is = omega (arith, is)
put_longer s k (Some o) = let more : fin.len (fin.insert s k o) ≡ cond (fin.contains_key s k) (fin.len s) (fin.len s + 1) = fin.len-insert key_cmp_total s k o in by_test (fin.contains_key s k) more
  where
    by_test : (b : Bool) → fin.len (fin.insert s k o) ≡ cond b (fin.len s) (fin.len s + 1) → fin.len (fin.insert s k o) ≤ fin.len s + 1
    by_test true is = omega (arith, is)
    by_test false is = omega (arith, is)

changed_longer : (cs : List Change) (s : Standing) → fin.len (changed s cs) ≤ fin.len s + length cs
changed_longer [] s = omega arith
changed_longer (c ∷ cs) s =
    let one : fin.len (put_or_remove s c.key (left_by c)) ≤ fin.len s + 1 = put_longer s c.key (left_by c) in
    let rest : fin.len (changed (put_or_remove s c.key (left_by c)) cs) ≤ fin.len (put_or_remove s c.key (left_by c)) + length cs = changed_longer cs (put_or_remove s c.key (left_by c)) in
    omega (arith, one, rest)

rising_short : (lo top : ℕ) (cs : List Change) → IsRising lo cs top → lo + length cs ≤ top
rising_short lo top [] rising = let low : lo ≤ top = rising in omega (arith, low)
rising_short lo top (c ∷ cs) rising =
    let above : lo < c.revision = rising.0 in
    let rest : c.revision + length cs ≤ top = rising_short c.revision top cs rising.1 in
    omega (arith, above, rest)

standing_few : (m : History) → IsHistory m → length (fin.entries (current_objects m)) ≤ max_whole
standing_few m is =
    let none : Standing = fin.empty in
    let bare : fin.len none ≡ 0 = fin.len-empty key_cmp Object in
    let listed : fin.len (changed none (up_to m.current m.changes)) ≡ length (fin.entries (current_objects m)) = fin.len-entries (current_objects m) in
    let made : fin.len (changed none (up_to m.current m.changes)) ≤ fin.len none + length (up_to m.current m.changes) = changed_longer (up_to m.current m.changes) none in
    let some : length (up_to m.current m.changes) ≤ length m.changes = filter_shorter (λ c. nat_le c.revision m.current) m.changes in
    let rising : 0 + length m.changes ≤ m.current = rising_short 0 m.current m.changes is.rising in
    let high : m.current ≤ 9223372036854775807 = is.high in
    omega (arith, bare, listed, made, some, rising, high)

-- the client keeps as many as are listed
read_long : (wanted : Wanted) (es : Entries) (xs : List Stored) → AreReadAs wanted es xs → length xs ≡ length es
read_long wanted [] [] read = refl
read_long wanted [] (x ∷ xs) read = absurd read
read_long wanted (e ∷ es) [] read = absurd read
read_long wanted (e ∷ es) (x ∷ xs) read = ap suc (read_long wanted es xs read.1)

-- ---- the values of labels

abbrev HaveTexts : Held → Type 0
HaveTexts held = AllByRecursion (λ e. AreTexts e.1.labels) held

read_texts : (wanted : Wanted) (es : Entries) (xs : List Stored) → AllByRecursion (λ e. IsUtf8 e.1.body) es → AreReadAs wanted es xs → HaveTexts (by_place xs)
read_texts wanted [] [] texts read = tt
read_texts wanted [] (x ∷ xs) texts read = absurd read
read_texts wanted (e ∷ es) [] texts read = absurd read
read_texts wanted (e ∷ es) (x ∷ xs) texts read = (labels_texts wanted e.1.body x read.0.is_read (subst IsUtf8 (sym read.0.text_is) texts.0), read_texts wanted es xs texts.1 read.1)

found_text : (label v : List ℕ) (labels : List (List ℕ × List ℕ)) → AreTexts labels → find (slice_cmp nat_cmp) label labels ≡ Some v → IsUtf8 v
found_text label v [] texts is = no_some v (sym is)
found_text label v (e ∷ es) texts is = by_test (eq_by_cmp (slice_cmp nat_cmp) label e.0) (λ there. found_text label v es texts.1 there) is
  where
    by_test : (b : Bool) → (find (slice_cmp nat_cmp) label es ≡ Some v → IsUtf8 v) → cond b (Some e.1) (find (slice_cmp nat_cmp) label es) ≡ Some v → IsUtf8 v
    by_test true further there = subst IsUtf8 (same_some e.1 v there) texts.0
    by_test false further there = further there

-- a value that is counted is an object's
counted_text : (label value : List ℕ) (n : List ℕ → ℕ) (i : ℕ) (held : Held) → HaveTexts held
    → find (slice_cmp nat_cmp) value (flat_map (λ (e : Place × Stored). with_count n (value_of label e.1)) held) ≡ Some i → IsUtf8 value
counted_text label value n i [] texts is = no_some i (sym is)
counted_text label value n i (e ∷ es) texts is = by_value (λ there. counted_text label value n i es texts.1 there) (value_of label e.1) refl is
  where
    rest : List (List ℕ × ℕ)
    rest = flat_map (λ (e : Place × Stored). with_count n (value_of label e.1)) es

    by_test : (find (slice_cmp nat_cmp) value rest ≡ Some i → IsUtf8 value) → (v : List ℕ) → IsUtf8 v → (b : Bool) → eq_by_cmp (slice_cmp nat_cmp) value v ≡ b → cond b (Some (n v)) (find (slice_cmp nat_cmp) value rest) ≡ Some i → IsUtf8 value
    by_test further v text true same here = subst IsUtf8 (same_key v value same) text
    by_test further v text false other here = further here

    by_value : (find (slice_cmp nat_cmp) value rest ≡ Some i → IsUtf8 value) → (o : Option (List ℕ)) → value_of label e.1 ≡ o → find (slice_cmp nat_cmp) value (with_count n o ++ rest) ≡ Some i → IsUtf8 value
    by_value further None at there = further there
    by_value further (Some v) at there = by_test further v (found_text label v e.1.labels texts.0 at) (eq_by_cmp (slice_cmp nat_cmp) value v) refl there

-- ---- each entry of a map, by what is found

fst : (a b : Bool) → T (a && b) → T a
fst true b h = tt
fst false b h = absurd h

snd : (a b : Bool) → T (a && b) → T b
snd true b h = h
snd false b h = absurd h

-- nothing stands under what all are above
none_above : (q : List ℕ) (es : List (List ℕ × ℕ)) → T (below_all (slice_cmp nat_cmp) q es) → find (slice_cmp nat_cmp) q es ≡ None
none_above q [] up = refl
none_above q (e ∷ es) up = by_order (slice_cmp nat_cmp q e.0) (fst _ _ up) (none_above q es (snd _ _ up))
  where
    by_order : (o : Ordering) → T (is_lt o) → find (slice_cmp nat_cmp) q es ≡ None → cond (is_eq o) (Some e.1) (find (slice_cmp nat_cmp) q es) ≡ None
    by_order Less low none = none
    by_order Equal low none = absurd low
    by_order Greater low none = absurd low

each_count : (P : List ℕ → ℕ → Type 0) (es : List (List ℕ × ℕ)) → T (is_sorted (slice_cmp nat_cmp) es) → ((v : List ℕ) (n : ℕ) → find (slice_cmp nat_cmp) v es ≡ Some n → P v n) → AllByRecursion (λ e. P e.0 e.1) es
each_count P [] up each = tt
each_count P (e ∷ es) up each =
    (each e.0 e.1 (ap (λ (o : Ordering). cond (is_eq o) (Some e.1) (find (slice_cmp nat_cmp) e.0 es)) (tied_itself nat_list_cmp_total e.0)), each_count P es (snd _ _ up) later)
  where
    later : (v : List ℕ) (n : ℕ) → find (slice_cmp nat_cmp) v es ≡ Some n → P v n
    later v n is = by_test (eq_by_cmp (slice_cmp nat_cmp) v e.0) refl
      where
        by_test : (b : Bool) → eq_by_cmp (slice_cmp nat_cmp) v e.0 ≡ b → P v n
        by_test true same =
            no_some n (sym is ∙ none_above v es (subst (λ q. T (below_all (slice_cmp nat_cmp) q es)) (same_key e.0 v same) (fst _ _ up)))
        by_test false other = each v n (ap (λ (b : Bool). cond b (Some e.1) (find (slice_cmp nat_cmp) v es)) other ∙ is)

-- ---- the bodies that stand are texts

abbrev AreTextsUnder : Standing → Type 0
AreTextsUnder s = (k : Key) (o : Object) → fin.get s k ≡ Some o → IsUtf8 o.body

text_left : (r : ℕ) (body : Option (List ℕ)) (o : Object) → IfSome body IsUtf8 → object_by r body ≡ Some o → IsUtf8 o.body
text_left r None o text is = no_some o (sym is)
text_left r (Some t) o text is = subst (λ (x : Object). IsUtf8 x.body) (same_some (record { revision = r; body = t }) o is) text

texts_put : (s : Standing) (k : Key) (r : ℕ) (body : Option (List ℕ)) → AreTextsUnder s → IfSome body IsUtf8 → AreTextsUnder (put_or_remove s k (object_by r body))
texts_put s k r body all text q o there = by_test (is_same_key q k) (sym (get-put_or_remove s k (object_by r body) q) ∙ there)
  where
    by_test : (b : Bool) → cond b (object_by r body) (fin.get s q) ≡ Some o → IsUtf8 o.body
    by_test true here = text_left r body o text here
    by_test false here = all q o here

texts_changed : (cs : List Change) (s : Standing) → AreTextsUnder s → AreUnicode cs → AreTextsUnder (changed s cs)
texts_changed [] s all unicode = all
texts_changed (c ∷ cs) s all unicode = texts_changed cs (put_or_remove s c.key (left_by c)) (texts_put s c.key c.revision c.body all unicode.0) unicode.1

standing_texts : (m : History) → AreUnicode m.changes → AreTextsUnder (current_objects m)
standing_texts m unicode =
    texts_changed (up_to m.current m.changes) fin.empty (λ k o there. no_some o (sym there ∙ fin.get-empty key_cmp k)) (all-filter (λ c. IfSome c.body IsUtf8) (λ c. nat_le c.revision m.current) m.changes unicode)

-- ---- the counts

module _ (wanted : Wanted) (sel : Selection) (label : List ℕ) (m : History) (o : Objects) (history : IsHistory m) (unicode : AreUnicode m.changes) (at : IsStateAt wanted (selected sel (current_objects m)) o) where
  listed_texts : AllByRecursion (λ e. IsUtf8 e.1.body) (fin.entries (selected sel (current_objects m)))
  listed_texts =
      let s : Standing = current_objects m in
      subst (AllByRecursion (λ (e : Key × Object). IsUtf8 e.1.body)) (sym (entries-selected sel s))
      (all-filter (λ (e : Key × Object). IsUtf8 e.1.body) (λ e. sel e.0 e.1.body) (fin.entries s)
      (each_entry (λ k x. IsUtf8 x.body) (fin.entries s) (fin.entries_sorted s) (λ k x there. standing_texts m unicode k x (fin.get-entries s k ∙ there))))

  held_texts : HaveTexts (fin.entries o)
  held_texts = subst HaveTexts (sym at.entries) (read_texts wanted (fin.entries (selected sel (current_objects m))) at.all listed_texts at.read)

  few : length (fin.entries o) ≤ max_whole
  few =
      let s : Standing = current_objects m in
      let kept : length (fin.entries o) ≡ length at.all = ap length at.entries ∙ length-map at.all (λ x. ((x.namespace, x.name), x)) in
      let read : length at.all ≡ length (fin.entries (selected sel s)) = read_long wanted (fin.entries (selected sel s)) at.all at.read in
      let found : length (fin.entries (selected sel s)) ≡ length (filter (λ (e : Key × Object). sel e.0 e.1.body) (fin.entries s)) = ap length (entries-selected sel s) in
      let shorter : length (filter (λ (e : Key × Object). sel e.0 e.1.body) (fin.entries s)) ≤ length (fin.entries s) = filter_shorter (λ (e : Key × Object). sel e.0 e.1.body) (fin.entries s) in
      let standing : length (fin.entries s) ≤ max_whole = standing_few m history in
      omega (arith, kept, read, found, shorter, standing)

  counted_few : (test : Stored → Bool) → how_many test o ≤ max_whole
  counted_few test =
      let less : how_many test o ≤ length (fin.entries o) = filter_shorter (λ (e : Place × Stored). test e.1) (fin.entries o) in
      let most : length (fin.entries o) ≤ max_whole = few in
      omega (arith, less, most)

  some_is : (n i : ℕ) → some_if_any n ≡ Some i → n ≡ i
  some_is zero i is = no_some i (sym is)
  some_is (suc n) i is = same_some (suc n) i is

  count_sayable : (value : List ℕ) (n : ℕ) → find (slice_cmp nat_cmp) value (fin.entries (counts_of label o)) ≡ Some n → IsUtf8 value × (n ≤ max_whole)
  count_sayable value n there =
      let got : fin.get (counts_of label o) value ≡ Some n = fin.get-entries (counts_of label o) value ∙ there in
      let is : count label value o ≡ n = some_is (count label value o) n (sym (counts_get label value o) ∙ got) in (
        counted_text label value (λ v. count label v o) n (fin.entries o) held_texts
            (sym (fin.get-from_entries nat_list_cmp_total (flat_map (λ (e : Place × Stored). with_count (λ v. count label v o) (value_of label e.1)) (fin.entries o)) value) ∙ got),
        subst (λ i. i ≤ max_whole) is (counted_few (has label value)),
      )

  pub counts_sayable : IsUtf8 label → IsSayable (summed_of label o)
  counts_sayable text = record {
    label = text;
    counts = each_count (λ v n. IsUtf8 v × (n ≤ max_whole)) (fin.entries (counts_of label o)) (fin.entries_sorted (counts_of label o)) count_sayable;
    total = counted_few (is_labelled label);
  }
