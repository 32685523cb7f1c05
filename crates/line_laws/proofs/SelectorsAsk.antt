-- A label selector asks nothing of the name: each key that is read is a label's, and the name stands under none.
use Rattle.std.proofs.Common.{◌≡◌, ◌∙◌, ℕ, Bool, true, false, cond, ◌||◌, ◌==◌, List, [], ◌∷◌, Option, Some, None, refl, sym, ap, subst, true≢false}
use Rattle.std.specs.Prelude.{Result, Ok, Err, codes}
use Rattle.std.specs.Cmp.Lexicographic.{bytes_decides}
use Rattle.std.specs.List.{after_first, before_first, list_any}
use Rattle.std.specs.Str.{bytes_eq}
use Rattle.names.specs.Names.{is_label_key}
use Rattle.selector.specs.declared.fault.Fault.{Fault}
use Rattle.selector.specs.declared.fault.Fault.TheVariants.{BadKey, Bracket}
use Rattle.selector.specs.Fields.{asks_name, name_key}
use Rattle.selector.specs.Grammar.{Sign, ◌>>=◌, among_of, are_paired, before_word, closed, cut_at_commas, cut_at_sign, different, each_of, equal, outside_of, parse_selector, part_of, parts_of, plain_of, required, set_of, signed, trimmed, value_of, values_of, without_trailing_blanks}
use Rattle.selector.specs.Requirement.{Condition, Requirement, absent, among, differs, equals, exists, outside}
use Rattle.selector.proofs.Named.{labels_decide}
use Rattle.line_laws.specs.Names.{LabelSelectorsAskLabels}

-- ---- one requirement

abbrev IsOnLabel : Result Requirement Fault → Type 0
IsOnLabel (Ok r) = (bytes_eq r.key name_key ≡ false)
IsOnLabel (Err f) = Unit {0}

no_label : is_label_key name_key ≡ false
no_label = refl

apart : (key : List ℕ) → is_label_key key ≡ true → bytes_eq key name_key ≡ false
apart key is = by (bytes_eq key name_key) refl
  where
    by : (b : Bool) → bytes_eq key name_key ≡ b → bytes_eq key name_key ≡ false
    by false other = other
    by true same = absurd (true≢false (sym is ∙ ap is_label_key ((bytes_decides key name_key).0 same) ∙ no_label))

either : (b : Bool) (r q : Result Requirement Fault) → IsOnLabel r → IsOnLabel q → IsOnLabel (cond b r q)
either true r q one another = one
either false r q one another = another

required_on : (key : List ℕ) (condition : Result Condition Fault) → IsOnLabel (required key condition)
required_on key condition = by (is_label_key (trimmed key)) refl condition
  where
    by : (b : Bool) → is_label_key (trimmed key) ≡ b → (c : Result Condition Fault) → IsOnLabel (cond b (Ok (trimmed key)) (Err BadKey) >>= λ k. c >>= λ d. Ok (record { key = k; condition = d }))
    by true is (Ok d) = apart (trimmed key) is
    by true is (Err f) = tt
    by false is c = tt

outside_on : (key : Option (List ℕ)) (values : List ℕ) → IsOnLabel (outside_of key values)
outside_on (Some key) values = required_on key (values_of values >>= λ vs. Ok (outside vs))
outside_on None values = tt

among_on : (key : Option (List ℕ)) (head values : List ℕ) → IsOnLabel (among_of key head values)
among_on (Some key) head values = required_on key (values_of values >>= λ vs. Ok (among vs))
among_on None head values = outside_on (before_word (codes " notin") head) values

closed_on : (head values after : List ℕ) → IsOnLabel (closed head values after)
closed_on head values [] = among_on (before_word (codes " in") head) head values
closed_on head values (b ∷ after) = tt

set_on : (head inner : List ℕ) → IsOnLabel (set_of head inner)
set_on head inner =
    let values = before_first (λ b. b == 41) inner in
    let after = after_first (λ b. b == 41) inner in
    either (list_any (λ b. b == 41) inner) (closed (without_trailing_blanks head) values after) (Err Bracket) (closed_on (without_trailing_blanks head) values after) tt

signed_on : (key : List ℕ) (found : Option (Sign × List ℕ)) → IsOnLabel (signed key found)
signed_on key None = required_on key (Ok exists)
signed_on key (Some (equal, value)) = required_on key (value_of value >>= λ v. Ok (equals v))
signed_on key (Some (different, value)) = required_on key (value_of value >>= λ v. Ok (differs v))

plain_on : (text : List ℕ) → IsOnLabel (plain_of text)
plain_on [] = tt
plain_on (b ∷ bs) =
    let cut = cut_at_sign (b ∷ bs) in
    either (b == 33) (required bs (Ok absent)) (signed cut.0 cut.1) (required_on bs (Ok absent)) (signed_on cut.0 cut.1)

part_on : (part : List ℕ) → IsOnLabel (part_of part)
part_on part =
    let head = before_first (λ b. b == 40) part in
    let inner = after_first (λ b. b == 40) part in
    either (list_any (λ b. b == 40) part) (set_of head inner) (plain_of part) (set_on head inner) (plain_on part)

-- ---- all of them

abbrev AreOnLabels : Result (List Requirement) Fault → Type 0
AreOnLabels (Ok rs) = (asks_name rs ≡ false)
AreOnLabels (Err f) = Unit {0}

one_more : (r : Result Requirement Fault) (rs : Result (List Requirement) Fault) → IsOnLabel r → AreOnLabels rs → AreOnLabels (r >>= λ x. rs >>= λ xs. Ok (x ∷ xs))
one_more (Ok r) (Ok rs) one all = ap (λ (b : Bool). b || asks_name rs) one ∙ all
one_more (Ok r) (Err f) one all = tt
one_more (Err f) rs one all = tt

each_on : (texts : List (List ℕ)) → AreOnLabels (each_of (λ part. part_of (trimmed part)) texts)
each_on [] = refl
each_on (t ∷ ts) = one_more (part_of (trimmed t)) (each_of (λ part. part_of (trimmed part)) ts) (part_on (trimmed t)) (each_on ts)

parsed_on : (text : List ℕ) → AreOnLabels (parse_selector text)
parsed_on [] = refl
parsed_on (b ∷ bs) = by (are_paired false (b ∷ bs))
  where
    by : (paired : Bool) → AreOnLabels (cond paired (parts_of (b ∷ bs)) (Err Bracket))
    by true = each_on (cut_at_commas false (b ∷ bs))
    by false = tt

pub label_selectors_ask_labels : LabelSelectorsAskLabels
label_selectors_ask_labels text requirements parsed = labels_decide requirements (subst AreOnLabels parsed (parsed_on text))
