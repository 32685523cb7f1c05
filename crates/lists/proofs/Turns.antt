-- The grammar's loops, a turn at a time, under the conversion to data; and what is found by them.
use Rattle.std.proofs.Common.{◌≡◌, ◌-◌, ◌<◌, ◌≤◌, ℕ, Bool, true, false, true≢false, List, [], ◌∷◌, length, Option, Some, None, option_map, option_and_then, is_some, unwrap_or, Ordering, Less, Equal, Greater, nat_cmp, refl, sym, ap, ◌∙◌, arith}
use Rattle.std.specs.BTreeMap.{insert_entry}
use Rattle.std.specs.Cmp.Lexicographic.{slice_cmp}
use Rattle.std.specs.Ordering.{match_ordering}
use Rattle.json.specs.Token.{Token}
use Rattle.json.specs.Json as json
use Rattle.json.specs.Json.{Parse, parse_map, after_end_array, read_key, if_last, items, members, value, value_with}
use Rattle.json.proofs.Grammar.{value_is, value-begin_array, value-begin_object, items_end, items_more, members_end, members_more}
use Rattle.serde_json.specs.Data.{Num, Data, null, boolean, number, string, array, object, Items, no_items, item, Members, no_members, member, put}
use Rattle.serde_json.specs.Find.{as_object, get, get_member}
use Rattle.serde_json.specs.Read.{of_json, of_items, of_members, number_of, converted}
use Rattle.serde_json.proofs.Views.{get_member-put, get_member-put_other}
use Rattle.lists.specs.Finding.{begins_object, data_at, reads, reads_items, reads_members}
use Rattle.json_values.specs.Texts.{texts_of}
use Rattle.selector.specs.Labels.{Labels}
use Rattle.lists.specs.Labels.{labels_by}

-- ---- as `serde_json`'s own proofs, whose lemmas can't be cited

abbrev pick : {A : Type 0} → A → Option A → A
pick d None = d
pick d (Some a) = a

found : {A B : Type 0} (a : A) (r s : List Token) (x : Option B) (b : B) → option_map {U = B × List Token} (λ y. (y, r)) x ≡ Some (b, s) → (r ≡ s) × (x ≡ Some b)
found a r s None b e = absurd (cc)
found a r s (Some y) b e = let same = ap (pick (y, r)) e in (ap (λ p. p.1) same, ap (λ p. Some p.0) same)

converted_some : {A B : Type 0} (f : A → Option B) (o : Option (A × List Token)) (b : B) (r : List Token) → converted f o ≡ Some (b, r) → (a : A) × (o ≡ Some (a, r)) × (f a ≡ Some b)
converted_some f None b r e = absurd (cc)
converted_some f (Some p) b r e = let both = found p.0 p.1 r (f p.0) b e in (p.0, ap (λ s. Some (p.0, s)) both.0, both.1)

twice : {A B : Type 0} (g : A → B) (r : List Token) (x : Option A) → option_map (λ b. (b, r)) (option_map g x) ≡ parse_map g (option_map (λ a. (a, r)) x)
twice g r None = refl
twice g r (Some a) = refl

converted-array : (o : Option (json.Items × List Token)) → converted of_json (parse_map json.array o) ≡ parse_map array (converted of_items o)
converted-array None = refl
converted-array (Some p) = twice array p.1 (of_items p.0)

converted-object : (o : Option (json.Members × List Token)) → converted of_json (parse_map json.object o) ≡ parse_map object (converted (λ ms. of_members ms no_members) o)
converted-object None = refl
converted-object (Some p) = twice object p.1 (of_members p.0 no_members)

with_item : (j : json.Json) (d : Data) → of_json j ≡ Some d → (o : Option (json.Items × List Token)) → converted of_items (parse_map (json.item j) o) ≡ parse_map (item d) (converted of_items o)
with_item j d e None = refl
with_item j d e (Some p) = rw e (twice (item d) p.1 (of_items p.0))

with_member : (k : List ℕ) (j : json.Json) (d : Data) (old : Members) → of_json j ≡ Some d → (o : Option (json.Members × List Token))
    → converted (λ ms. of_members ms old) (parse_map (json.member k j) o) ≡ converted (λ ms. of_members ms (put k d old)) o
with_member k j d old e None = refl
with_member k j d old e (Some p) = rw e

-- ---- one value by its first token

pub string_read : (depth : ℕ) (s : List ℕ) (ts : List Token) → reads depth (Token.string s ∷ ts) ≡ Some (string s, ts)
string_read depth s ts = ap (converted of_json) (value_is depth (Token.string s ∷ ts))

pub boolean_read : (depth : ℕ) (b : Bool) (ts : List Token) → reads depth (Token.boolean b ∷ ts) ≡ Some (boolean b, ts)
boolean_read depth b ts = ap (converted of_json) (value_is depth (Token.boolean b ∷ ts))

pub null_read : (depth : ℕ) (ts : List Token) → reads depth (Token.null ∷ ts) ≡ Some (null, ts)
null_read depth ts = ap (converted of_json) (value_is depth (Token.null ∷ ts))

some_number : (ts : List Token) (o : Option Num) → is_some o ≡ true → (d : Data) × (option_map {U = Data × List Token} (λ b. (b, ts)) (option_map number o) ≡ Some (d, ts))
some_number ts None h = absurd (true≢false (sym h))
some_number ts (Some n) h = (number n, refl)

pub number_read : (depth : ℕ) (s : List ℕ) (ts : List Token) → is_some (number_of s) ≡ true → (d : Data) × (reads depth (Token.number s ∷ ts) ≡ Some (d, ts))
number_read depth s ts h = let some = some_number ts (number_of s) h in (some.0, ap (converted of_json) (value_is depth (Token.number s ∷ ts)) ∙ some.1)

pub array_read : (depth : ℕ) (ts r : List Token) (ds : Items) → 0 < depth → reads_items (depth - 1) ts ≡ Some (ds, r) → reads depth (Token.begin_array ∷ ts) ≡ Some (array ds, r)
array_read depth ts r ds pos e = ap (converted of_json) (value-begin_array depth ts pos) ∙ converted-array (items (value (depth - 1)) (length ts) ts) ∙ ap (parse_map array) e

pub object_read : (depth : ℕ) (ts r : List Token) (ms : Members) → 0 < depth → reads_members (depth - 1) ts ≡ Some (ms, r) → reads depth (Token.begin_object ∷ ts) ≡ Some (object ms, r)
object_read depth ts r ms pos e = ap (converted of_json) (value-begin_object depth ts pos) ∙ converted-object (members (value (depth - 1)) (length ts) ts) ∙ ap (parse_map object) e

-- ---- a value that begins with another token is no object

abbrev first : Option (Data × List Token) → Option Members
first o = option_and_then (λ p. as_object p.0) o

mapped : {X : Type 0} (f : X → Data) (r : List Token) → ((x : X) → as_object (f x) ≡ None) → (o : Option X) → first (option_map (λ b. (b, r)) (option_map f o)) ≡ None
mapped f r other None = refl
mapped f r other (Some x) = other x

array_first : (o : Option (json.Items × List Token)) → first (converted of_json (parse_map json.array o)) ≡ None
array_first None = refl
array_first (Some p) = mapped array p.1 (λ x. refl) (of_items p.0)

no_object_with : (a : Parse json.Items) (o : Parse json.Members) (t : Token) (ts : List Token) → begins_object t ≡ false → first (converted of_json (value_with a o (t ∷ ts))) ≡ None
no_object_with a o Token.begin_object ts h = absurd (true≢false h)
no_object_with a o Token.end_object ts h = refl
no_object_with a o Token.begin_array ts h = array_first (a ts)
no_object_with a o Token.end_array ts h = refl
no_object_with a o (Token.key s) ts h = refl
no_object_with a o (Token.string s) ts h = refl
no_object_with a o (Token.number s) ts h = mapped number ts (λ x. refl) (number_of s)
no_object_with a o (Token.boolean b) ts h = refl
no_object_with a o Token.null ts h = refl
no_object_with a o Token.bad ts h = refl

no_object_first : (depth : ℕ) (t : Token) (ts : List Token) → begins_object t ≡ false → first (reads depth (t ∷ ts)) ≡ None
no_object_first depth t ts h = ap (λ x. first (converted of_json x)) (value_is depth (t ∷ ts)) ∙ no_object_with _ _ t ts h

no_member : (k : List ℕ) (d : Data) → as_object d ≡ None → get k d ≡ None
no_member k null h = refl
no_member k (boolean b) h = refl
no_member k (number n) h = refl
no_member k (string s) h = refl
no_member k (array ds) h = refl
no_member k (object ms) h = absurd cc

nothing_at : (path : List (List ℕ)) (d : Data) → as_object d ≡ None → labels_by (data_at path d) ≡ []
nothing_at [] d h = ap (λ o. unwrap_or (option_and_then texts_of o) []) h
nothing_at (k ∷ path) d h = ap (λ o. labels_by (option_and_then (data_at path) o)) (no_member k d h)

pub object_begins : (t : Token) → begins_object t ≡ true → t ≡ Token.begin_object
object_begins Token.begin_object h = refl
object_begins Token.end_object h = absurd (true≢false (sym h))
object_begins Token.begin_array h = absurd (true≢false (sym h))
object_begins Token.end_array h = absurd (true≢false (sym h))
object_begins (Token.key s) h = absurd (true≢false (sym h))
object_begins (Token.string s) h = absurd (true≢false (sym h))
object_begins (Token.number s) h = absurd (true≢false (sym h))
object_begins (Token.boolean b) h = absurd (true≢false (sym h))
object_begins Token.null h = absurd (true≢false (sym h))
object_begins Token.bad h = absurd (true≢false (sym h))

-- so it has no texts
pub no_texts : (depth : ℕ) (t : Token) (ts r : List Token) (d : Data) (path : List (List ℕ)) → begins_object t ≡ false → reads depth (t ∷ ts) ≡ Some (d, r) → [] ≡ labels_by (data_at path d)
no_texts depth t ts r d path other e = sym (nothing_at path d (sym (ap first e) ∙ no_object_first depth t ts other))

-- ---- items and members, one after another

module _ (p : Parse json.Json) where
  pub item_read : (n : ℕ) (ts r : List Token) (d : Data) → 0 < n → after_end_array ts ≡ None → converted of_json (p ts) ≡ Some (d, r)
      → converted of_items (items p n ts) ≡ parse_map (item d) (converted of_items (items p (n - 1) r))
  item_read n ts r d some going e = let j = converted_some of_json (p ts) d r e in ap (converted of_items) (items_more p n ts r j.0 some going j.1) ∙ with_item j.0 d j.2 _

  pub items_over : (n : ℕ) (ts r : List Token) → length ts ≤ n → after_end_array ts ≡ Some r → converted of_items (items p n ts) ≡ Some (no_items, r)
  items_over n ts r enough e = ap (converted of_items) (items_end p n ts r enough e)

  module _ (old : Members) where
    pub member_read : (n : ℕ) (k : List ℕ) (ts s r : List Token) (d : Data) → 0 < n → read_key ts ≡ Some (Some k, s) → converted of_json (p s) ≡ Some (d, r)
        → converted (λ ms. of_members ms old) (members p n ts) ≡ converted (λ ms. of_members ms (put k d old)) (members p (n - 1) r)
    member_read n k ts s r d some key e =
        let j = converted_some of_json (p s) d r e in
        ap (converted (λ ms. of_members ms old)) (members_more p n k ts s r j.0 some key j.1) ∙ with_member k j.0 d old j.2 _

    pub members_over : (n : ℕ) (ts r : List Token) → length ts ≤ n → read_key ts ≡ Some (None, r) → converted (λ ms. of_members ms old) (members p n ts) ≡ Some (old, r)
    members_over n ts r enough e = ap (converted (λ ms. of_members ms old)) (members_end p n ts r enough e)

-- the items before some that are left
pub none_before : (o : Option (Items × List Token)) → o ≡ parse_map (λ ds. ds) o
none_before None = refl
none_before (Some p) = refl

pub one_more_before : (before : Items → Items) (d : Data) (o : Option (Items × List Token)) → parse_map before (parse_map (item d) o) ≡ parse_map (λ ds. before (item d ds)) o
one_more_before before d None = refl
one_more_before before d (Some p) = refl

-- ---- texts by their names, as members

abbrev pub as_members : Labels → Members
as_members [] = no_members
as_members (t ∷ ts) = member t.0 (string t.1) (as_members ts)

as_members-match_ordering : (o : Ordering) (a b c : Labels) → as_members (match_ordering o a b c) ≡ match_ordering o (as_members a) (as_members b) (as_members c)
as_members-match_ordering Less a b c = refl
as_members-match_ordering Equal a b c = refl
as_members-match_ordering Greater a b c = refl

pub text_put : (ts : Labels) (k v : List ℕ) → as_members (insert_entry (slice_cmp nat_cmp) ts k v) ≡ put k (string v) (as_members ts)
text_put [] k v = refl
text_put (t ∷ ts) k v = as_members-match_ordering (slice_cmp nat_cmp k t.0) _ _ _ ∙ rw (text_put ts k v)

pub texts_back : (ts : Labels) → texts_of (as_members ts) ≡ Some ts
texts_back [] = refl
texts_back (t ∷ ts) = ap (option_map (λ more. t ∷ more)) (texts_back ts)

-- ---- what stands at a path below a member

pub found_here : (name k : List ℕ) (path : List (List ℕ)) (d : Data) (ms : Members) (texts : Labels) → k ≡ name → texts ≡ labels_by (data_at path d)
    → texts ≡ labels_by (option_and_then (data_at path) (get_member name (put k d ms)))
found_here name k path d ms texts same is = is ∙ sym (ap (λ o. labels_by (option_and_then (data_at path) o)) (ap (λ n. get_member n (put k d ms)) (sym same) ∙ get_member-put k d ms))

pub found_before : (name k : List ℕ) (path : List (List ℕ)) (d : Data) (ms : Members) (texts : Labels) → (name ≡ k → ⊥)
    → texts ≡ labels_by (option_and_then (data_at path) (get_member name ms)) → texts ≡ labels_by (option_and_then (data_at path) (get_member name (put k d ms)))
found_before name k path d ms texts other is = is ∙ sym (ap (λ o. labels_by (option_and_then (data_at path) o)) (get_member-put_other name k d ms other))

pub no_path : {X : Type 0} (path : List X) → length path ≡ 0 → path ≡ []
no_path [] h = refl
no_path (x ∷ path) h = absurd (omega arith)

one_name : (o : Option Data) → option_and_then (data_at []) o ≡ o
one_name None = refl
one_name (Some d) = refl

below : (k : List ℕ) (o : Option Data) → option_and_then (data_at (k ∷ [])) o ≡ option_and_then (get k) o
below k None = refl
below k (Some d) = one_name (get k d)

pub two_names : (j k : List ℕ) (d : Data) → data_at (j ∷ k ∷ []) d ≡ option_and_then (get k) (get j d)
two_names j k d = below k (get j d)

-- ---- the whole text

pub whole_read : (o : Option (json.Json × List Token)) (d : Data) → converted of_json o ≡ Some (d, []) → option_and_then of_json (option_and_then (λ p. if_last p.0 p.1) o) ≡ Some d
whole_read o d e = let j = converted_some of_json o d [] e in ap (λ o. option_and_then of_json (option_and_then (λ p. if_last p.0 p.1) o)) j.1 ∙ j.2
