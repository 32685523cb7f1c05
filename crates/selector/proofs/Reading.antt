-- Reading texts one after the other, as a loop does.
use Rattle.std.proofs.Common.{◌≡◌, ℕ, suc, ◌<◌, false, length, get_or, take, drop, Option, ap₂, append-nil, List, [], ◌∷◌, ◌++◌, Result, Ok, Err, refl, sym, ap, subst, ◌∙◌, append_assoc}
use Rattle.selector.specs.declared.fault.Fault.{Fault}
use Rattle.selector.specs.Grammar.{◌>>=◌, Returns, FailsWith, each_of, value_of, part_of, trimmed, first_part, cut_at_commas}
use Rattle.selector.specs.Requirement.{Requirement}
use Rattle.selector.proofs.Found.{split_at_item}
use Rattle.selector.proofs.Parts.{parts_after, first_and_rest}
use Rattle.selector.specs.declared.fault.ReadError.{ReadError}
use Rattle.selector.specs.declared.fault.ReadError.TheVariants as errors

-- what was read before, and what is still read
abbrev pub with_prefix : {B : Type 0} → List B → Result (List B) Fault → Result (List B) Fault
with_prefix prefix read = read >>= λ xs. Ok (prefix ++ xs)

regroup : {B : Type 0} (prefix : List B) (x : B) (read : Result (List B) Fault) → with_prefix prefix (read >>= λ xs. Ok (x ∷ xs)) ≡ with_prefix (prefix ++ x ∷ []) read
regroup prefix x (Ok xs) = ap Ok (sym (append_assoc prefix (x ∷ []) xs))
regroup prefix x (Err e) = refl

pub reads_next : {B : Type 0} (read : List ℕ → Result B Fault) (prefix : List B) (text : List ℕ) (texts : List (List ℕ)) (x : B) → read text ≡ Ok x
    → with_prefix prefix (each_of read (text ∷ texts)) ≡ with_prefix (prefix ++ x ∷ []) (each_of read texts)
reads_next read prefix text texts x is = rw is (regroup prefix x (each_of read texts))

pub fails_next : {B : Type 0} (read : List ℕ → Result B Fault) (prefix : List B) (text : List ℕ) (texts : List (List ℕ)) (e : Fault) → read text ≡ Err e
    → with_prefix prefix (each_of read (text ∷ texts)) ≡ Err e
fails_next read prefix text texts e is = rw is refl

pub gives_along : {A B : Type 0} (view : A → B) (r : Result A ReadError) (a b : Result B Fault) → a ≡ b → Returns view r b → Returns view r a
gives_along view r a b e h = subst (λ x. Returns view r x) (sym e) h

-- a loop that ends with the fault of the next text
pub ends : {B : Type 0} (e : ReadError) (read : List ℕ → Result B Fault) (prefix : List B) (text : List ℕ) (texts : List (List ℕ)) (whole : Result (List B) Fault)
    → FailsWith e (read text) → with_prefix prefix (each_of read (text ∷ texts)) ≡ whole → FailsWith e whole
ends (errors.Fault f) read prefix text texts whole is so_far = sym so_far ∙ fails_next read prefix text texts f is
ends errors.Memory read prefix text texts whole is so_far = tt

-- ---- the parts of a selector

abbrev pub read_part : List ℕ → Result Requirement Fault
read_part part = part_of (trimmed part)

-- the first part of what is left, and the parts after it
pub part_first : (prefix : List Requirement) (left part : List ℕ) (after : Option (List ℕ)) (whole : Result (List Requirement) Fault)
    → part ≡ (first_part false left).0 → after ≡ (first_part false left).1
    → with_prefix prefix (each_of read_part (cut_at_commas false left)) ≡ whole → with_prefix prefix (each_of read_part (part ∷ parts_after after)) ≡ whole
part_first prefix left part after whole is rest so_far =
    ap (λ ts. with_prefix prefix (each_of read_part ts)) (ap₂ (λ (p : List ℕ) (r : Option (List ℕ)). p ∷ parts_after r) is rest ∙ sym (first_and_rest false left)) ∙ so_far

-- ---- values between commas

-- the item at hand is the next of all
pub item_next : (n : ℕ) (all seen : List (List ℕ)) (item : List ℕ) → n < length all → item ≡ get_or all n item → seen ≡ take n all → all ≡ seen ++ item ∷ drop (suc n) all
item_next n all seen item lt at prefix = split_at_item all n item lt ∙ ap₂ (λ (xs : List (List ℕ)) (x : List ℕ). xs ++ x ∷ drop (suc n) all) (sym prefix) (sym at)

pub item_read : (prefix seen all : List (List ℕ)) (item : List ℕ) (rest : List (List ℕ)) → ((more : List (List ℕ)) → each_of value_of (seen ++ more) ≡ with_prefix prefix (each_of value_of more)) → all ≡ seen ++ item ∷ rest
    → with_prefix prefix (each_of value_of (item ∷ rest)) ≡ each_of value_of all
item_read prefix seen all item rest emitted is = sym (emitted (item ∷ rest)) ∙ ap (each_of value_of) (sym is)

pub item_kept : (prefix seen : List (List ℕ)) (item value : List ℕ) → ((more : List (List ℕ)) → each_of value_of (seen ++ more) ≡ with_prefix prefix (each_of value_of more)) → value_of item ≡ Ok value
    → (more : List (List ℕ)) → each_of value_of ((seen ++ item ∷ []) ++ more) ≡ with_prefix (prefix ++ value ∷ []) (each_of value_of more)
item_kept prefix seen item value emitted is more = ap (each_of value_of) (append_assoc seen (item ∷ []) more) ∙ emitted (item ∷ more) ∙ reads_next value_of prefix item more value is

pub items_end : (prefix seen all : List (List ℕ)) → ((more : List (List ℕ)) → each_of value_of (seen ++ more) ≡ with_prefix prefix (each_of value_of more)) → seen ≡ all → each_of value_of all ≡ Ok prefix
items_end prefix seen all emitted is = ap (each_of value_of) (sym is ∙ sym (append-nil seen)) ∙ emitted [] ∙ ap Ok (append-nil prefix)
