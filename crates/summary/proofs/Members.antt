-- A member for each value, put one after the other.
use Rattle.std.proofs.Common.{◌≡◌, ℕ, Bool, true, false, ◌||◌, ◌&&◌, T, List, [], ◌∷◌, map, String, Global, BTreeMap, Less, Greater, nat_cmp, string_bytes, string_cmp, refl, sym, subst, ap, ◌∙◌}
use Rattle.std.specs.Cmp.Lexicographic.{slice_cmp, nat_list_cmp_total}
use Rattle.std.specs.FinMap as fin
use Rattle.std.specs.FinMap.Entries.{below_all}
use Rattle.std.specs.List.{AllByRecursion}
use Rattle.std.specs.List.Sorted.{IsStrictlySortedBy}
use Rattle.std.specs.Map.{keys_of}
use Rattle.std.specs.Ordering.{is_lt, match_ordering, ordering_reverse}
use Rattle.std.proofs.lemmas.Map.Keys.{sorted_head, sorted_tail}
use Rattle.serde_json.specs.Data.{Data, number, unsigned, Members, no_members, member, put}
use Rattle.serde_json.specs.Written.{has_float, members_have_float}
use Rattle.summary.specs.Apply.{count_members, summary_of}
use Rattle.summary.specs.Counts.{Summed}
use Rattle.summary.specs.Summary.{counts_in}
use Rattle.summary.proofs.ByValue.{text_cmp, text_antisymmetric}
use Rattle.summary.proofs.Tally.{shown}

abbrev Entry : Type 0
Entry = String Global × ℕ

abbrev pub puts : Members → List Entry → Members
puts ms [] = ms
puts ms (e ∷ es) = puts (put (string_bytes e.0) (number (unsigned e.1)) ms) es

-- keys above go behind
behind : (l : String Global) (d : Data) (ms : Members) (es : List Entry) → AllByRecursion (λ y. string_cmp l y ≡ Less) (keys_of es) → puts (member (string_bytes l) d ms) es ≡ member (string_bytes l) d (puts ms es)
behind l d ms [] h = refl
behind l d ms (e ∷ es) h =
    let above : slice_cmp nat_cmp (string_bytes e.0) (string_bytes l) ≡ Greater = nat_list_cmp_total.antisymm (string_bytes e.0) (string_bytes l) ∙ ap ordering_reverse h.0 in
    let n = number (unsigned e.1) in
    ap (λ o. puts (match_ordering o (member (string_bytes e.0) n (member (string_bytes l) d ms)) (member (string_bytes l) n ms) (member (string_bytes l) d (put (string_bytes e.0) n ms))) es) above
    ∙ behind l d (put (string_bytes e.0) n ms) es h.1

in_turn : (es : List Entry) → IsStrictlySortedBy string_cmp (keys_of es) → puts no_members es ≡ count_members (map shown es)
in_turn [] h = refl
in_turn (e ∷ es) h =
    behind e.0 (number (unsigned e.1)) no_members es (sorted_head string_cmp e.0 (keys_of es) h)
    ∙ ap (member (string_bytes e.0) (number (unsigned e.1))) (in_turn es (sorted_tail string_cmp e.0 (keys_of es) h))

-- ---- the entries, in order

both_hold : (a b : Bool) → T a → T b → T (a && b)
both_hold true b x y = y
both_hold false b x y = absurd x

all_below : (k : String Global) (es : List Entry) → AllByRecursion (λ y. string_cmp k y ≡ Less) (keys_of es) → T (below_all text_cmp (string_bytes k) (map shown es))
all_below k [] h = tt
all_below k (e ∷ es) h = subst T (sym (ap (λ o. is_lt o && below_all text_cmp (string_bytes k) (map shown es)) h.0)) (all_below k es h.1)

in_order : (es : List Entry) → IsStrictlySortedBy string_cmp (keys_of es) → T (fin.is_sorted text_cmp (map shown es))
in_order [] h = tt
in_order (e ∷ es) h = both_hold _ _ (all_below e.0 es (sorted_head string_cmp e.0 (keys_of es) h)) (in_order es (sorted_tail string_cmp e.0 (keys_of es) h))

tally_entries : (m : BTreeMap (String Global) ℕ) → IsStrictlySortedBy string_cmp (keys_of m.entries) → fin.entries (counts_in m) ≡ map shown m.entries
tally_entries m h =
    let es = map shown m.entries in
    let sorted = in_order m.entries h in
    ap fin.entries (fin.same_map nat_list_cmp_total text_antisymmetric (counts_in m) (fin.from_sorted es) (λ q. fin.get-from_entries nat_list_cmp_total es q ∙ sym (fin.get-from_sorted text_cmp es q sorted)))
    ∙ fin.entries-from_sorted text_cmp es sorted

pub all_members : (m : BTreeMap (String Global) ℕ) → IsStrictlySortedBy string_cmp (keys_of m.entries) → puts no_members m.entries ≡ count_members (fin.entries (counts_in m))
all_members m h = in_turn m.entries h ∙ sym (ap count_members (tally_entries m h))

-- ---- no floats

no_floats : (es : List (List ℕ × ℕ)) → members_have_float (count_members es) ≡ false
no_floats [] = refl
no_floats (e ∷ es) = no_floats es

pub summary_textual : (s : Summed) (namespace name : List ℕ) → has_float (summary_of s namespace name) ≡ false
summary_textual s namespace name = ap (λ b. (b || false) || false) (no_floats (fin.entries s.counts))
