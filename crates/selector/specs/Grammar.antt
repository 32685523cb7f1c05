-- How a text spells a selector: requirements with commas between them (Kubernetes documentation,
-- "Labels and Selectors"). Each function reads one form, and answers its first fault from the left.
use Rattle.std.specs.Prelude.{ℕ, ◌-◌, Bool, true, false, ◌&&◌, not, ◌==◌, if◌then◌else◌, List, [], ◌∷◌, length, drop, take, reverse, Option, Some, None, Result, Ok, Err, ◌≡◌, codes}
use Rattle.std.specs.List.{list_any, slice_split, before_first, after_first}
use Rattle.std.specs.Str.{bytes_eq}
use Rattle.selector.specs.declared.fault.Fault.{Fault}
use Rattle.selector.specs.declared.fault.Fault.TheVariants.{EmptyPart, BadKey, BadValue, Bracket}
use Rattle.selector.specs.declared.fault.ReadError.{ReadError}
use Rattle.selector.specs.declared.fault.ReadError.TheVariants as errors
use Rattle.names.specs.Names.{is_label_key, is_label_value}
use Rattle.selector.specs.Requirement.{Condition, equals, differs, among, outside, exists, absent, Requirement}

infixl 10 ◌>>=◌
abbrev pub ◌>>=◌ : {A B : Type 0} → Result A Fault → (A → Result B Fault) → Result B Fault
(Ok x) >>= f = f x
(Err e) >>= f = Err e

-- what a call answered, seen by view, is what reading gives, unless there was no memory
abbrev pub FailsWith : {B : Type 0} → ReadError → Result B Fault → Type 0
FailsWith (errors.Fault f) answer = answer ≡ Err f
FailsWith errors.Memory answer = Unit {0}

abbrev pub Returns : {A B : Type 0} → (A → B) → Result A ReadError → Result B Fault → Type 0
Returns view (Ok x) answer = answer ≡ Ok (view x)
Returns view (Err e) answer = FailsWith e answer

-- blanks are spaces alone
abbrev pub without_leading_blanks : List ℕ → List ℕ
without_leading_blanks [] = []
without_leading_blanks (b ∷ bs) = if b == 32 then without_leading_blanks bs else b ∷ bs

abbrev pub without_trailing_blanks : List ℕ → List ℕ
without_trailing_blanks text = reverse (without_leading_blanks (reverse text))

abbrev pub trimmed : List ℕ → List ℕ
trimmed text = without_trailing_blanks (without_leading_blanks text)

-- ---- keys and values

abbrev pub key_of : List ℕ → Result (List ℕ) Fault
key_of text = if is_label_key (trimmed text) then Ok (trimmed text) else Err BadKey

abbrev pub value_of : List ℕ → Result (List ℕ) Fault
value_of text = if is_label_value (trimmed text) then Ok (trimmed text) else Err BadValue

-- each text is read in turn
abbrev pub each_of : {B : Type 0} → (List ℕ → Result B Fault) → List (List ℕ) → Result (List B) Fault
each_of read [] = Ok []
each_of read (text ∷ texts) = read text >>= λ x. each_of read texts >>= λ xs. Ok (x ∷ xs)

-- values have commas between them
abbrev pub values_of : List ℕ → Result (List (List ℕ)) Fault
values_of text = each_of value_of (slice_split (λ b. b == 44) text)

-- the key is read before the values
abbrev pub required : List ℕ → Result Condition Fault → Result Requirement Fault
required key condition = key_of key >>= λ k. condition >>= λ c. Ok (record { key = k; condition = c })

-- ---- key in (values), key notin (values)

-- what comes before the word at the end of the text, if it ends so
abbrev pub before_word : List ℕ → List ℕ → Option (List ℕ)
before_word word text = if bytes_eq (drop (length text - length word) text) word then Some (take (length text - length word) text) else None

abbrev pub outside_of : Option (List ℕ) → List ℕ → Result Requirement Fault
outside_of (Some key) values = required key (values_of values >>= λ vs. Ok (outside vs))
outside_of None values = Err Bracket

abbrev pub among_of : Option (List ℕ) → List ℕ → List ℕ → Result Requirement Fault
among_of (Some key) head values = required key (values_of values >>= λ vs. Ok (among vs))
among_of None head values = outside_of (before_word (codes " notin") head) values

-- the word has a blank before it
abbrev pub worded : List ℕ → List ℕ → Result Requirement Fault
worded head values = among_of (before_word (codes " in") head) head values

abbrev pub closed : List ℕ → List ℕ → List ℕ → Result Requirement Fault
closed head values [] = worded head values
closed head values (b ∷ after) = Err Bracket

-- what stands before the opening bracket and after it: the values end at the closing one, and nothing comes after that
abbrev pub set_of : List ℕ → List ℕ → Result Requirement Fault
set_of head inner =
    if list_any (λ b. b == 41) inner
    then closed (without_trailing_blanks head) (before_first (λ b. b == 41) inner) (after_first (λ b. b == 41) inner)
    else Err Bracket

-- ---- key = value, key == value, key != value, key, !key

pub data Sign : Type 0 where
  equal different : Sign

abbrev pub begins_with : List ℕ → List ℕ → Bool
begins_with prefix text = bytes_eq (take (length prefix) text) prefix

-- the sign with which the text begins, and what comes after it
abbrev pub sign_at : List ℕ → Option (Sign × List ℕ)
sign_at text =
    if begins_with (codes "!=") text then Some (different, drop 2 text)
    else if begins_with (codes "==") text then Some (equal, drop 2 text)
    else if begins_with (codes "=") text then Some (equal, drop 1 text)
    else None

-- what comes before the first sign from the left, that sign, and what comes after it
abbrev pub cut_here : Option (Sign × List ℕ) → ℕ → List ℕ × Option (Sign × List ℕ) → List ℕ × Option (Sign × List ℕ)
cut_here (Some found) b rest = ([], Some found)
cut_here None b rest = (b ∷ rest.0, rest.1)

abbrev pub cut_at_sign : List ℕ → List ℕ × Option (Sign × List ℕ)
cut_at_sign [] = ([], None)
cut_at_sign (b ∷ bs) = cut_here (sign_at (b ∷ bs)) b (cut_at_sign bs)

abbrev pub signed : List ℕ → Option (Sign × List ℕ) → Result Requirement Fault
signed key None = required key (Ok exists)
signed key (Some (equal, value)) = required key (value_of value >>= λ v. Ok (equals v))
signed key (Some (different, value)) = required key (value_of value >>= λ v. Ok (differs v))

abbrev pub plain_of : List ℕ → Result Requirement Fault
plain_of [] = Err EmptyPart
plain_of (b ∷ bs) = if b == 33 then required bs (Ok absent) else signed (cut_at_sign (b ∷ bs)).0 (cut_at_sign (b ∷ bs)).1

-- ---- the parts

abbrev pub part_of : List ℕ → Result Requirement Fault
part_of part = if list_any (λ b. b == 40) part then set_of (before_first (λ b. b == 40) part) (after_first (λ b. b == 40) part) else plain_of part

-- each bracket is closed, and none opens inside another
abbrev pub are_paired : Bool → List ℕ → Bool
are_paired inside [] = not inside
are_paired inside (b ∷ bs) =
    if b == 40 then not inside && are_paired true bs
    else if b == 41 then inside && are_paired false bs
    else are_paired inside bs

abbrev pub is_inside_after : Bool → ℕ → Bool
is_inside_after inside b = if b == 40 then true else if b == 41 then false else inside

-- the text up to the first comma outside brackets, and what comes after it, if there is one
abbrev pub first_part : Bool → List ℕ → List ℕ × Option (List ℕ)
first_part inside [] = ([], None)
first_part inside (b ∷ bs) =
    if b == 44 && not inside then ([], Some bs)
    else (b ∷ (first_part (is_inside_after inside b) bs).0, (first_part (is_inside_after inside b) bs).1)

-- the text cut at the commas outside brackets
abbrev pub onto_first : ℕ → List (List ℕ) → List (List ℕ)
onto_first b [] = (b ∷ []) ∷ []
onto_first b (part ∷ parts) = (b ∷ part) ∷ parts

abbrev pub cut_at_commas : Bool → List ℕ → List (List ℕ)
cut_at_commas inside [] = [] ∷ []
cut_at_commas inside (b ∷ bs) =
    if b == 44 && not inside then [] ∷ cut_at_commas inside bs
    else onto_first b (cut_at_commas (is_inside_after inside b) bs)

abbrev pub parts_of : List ℕ → Result (List Requirement) Fault
parts_of text = each_of (λ part. part_of (trimmed part)) (cut_at_commas false text)

-- the empty text asks nothing; brackets are looked at before all else
abbrev pub parse_selector : List ℕ → Result (List Requirement) Fault
parse_selector [] = Ok []
parse_selector (b ∷ bs) = if are_paired false (b ∷ bs) then parts_of (b ∷ bs) else Err Bracket
