-- What the tests of WHERE say of a row.
use Rattle.std.proofs.Common.{◌≡◌, ℕ, pos, List, [], ◌∷◌, ◌++◌, Bool, true, false, ◌&&◌, ◌||◌, refl, ap, ◌∙◌, sym, arith, Option, Some, None, unwrap_or, is_eq, int_cmp, Ordering, Less, Equal, Greater, ◌==◌}
use Rattle.std.specs.Prelude.{nat_lt, nat_le, is_none}
use Rattle.std.specs.Ordering.{is_gt, is_ge, is_le, nat_cmp, ordering_then}
use Rattle.std.specs.List.{list_all}
use Rattle.std.proofs.lemmas.Int.{ints}
use Rattle.std.proofs.lemmas.Bool.Decides.{nat_tests}
use Rattle.std.proofs.lemmas.Cmp.{tied_itself}
use Rattle.sqlite.specs.declared.types.Value.{Value}
use Rattle.sqlite.specs.declared.types.Value.TheVariants.{Null, Int, Text as Words}
use Rattle.sqlite.specs.Collation.TheVariants.{Binary}
use Rattle.sqlite_sql.specs.declared.ops.CompareOp.TheVariants.{Eq, Ge, Gt, Le}
use Rattle.sqlite_sql.specs.declared.ops.BinaryOp.TheVariants.{Compare, Or, Is}
use Rattle.sqlite_sql.specs.Term.{holds}
use Rattle.sqlite_sql.specs.Ops.{binary, truth, from_truth, or3}
use Rattle.sqlite_value.proofs.OrderLemmas.{value_cmp-Int, value_cmp-Text, value_cmp_total, value_cmp-apart}
use Rattle.sqlite_value.specs.Order.{value_cmp, Row}
use Rattle.history.specs.History.{Key, text_cmp, is_same_key}
use Rattle.revtable.specs.Asked.{is_past_name, is_in_one, is_from, low_of}
use Rattle.history.specs.Page.{is_in_namespace, is_within}
use Rattle.revtable.specs.Rows.{row_of, body_value, flag, number_value}
use Rattle.revtable.specs.Spans.{Span, is_ended, is_past, is_current_at}
use Rattle.revtable.proofs.Nexts.{same_key_symm}
use Rattle.revtable.proofs.Texts.{last_query, newest_query, made_query, deleted_query, end_query, delete_query, in_tests, from_tests}

-- each test, of the values that it compares
abbrev passes : Value → Bool
passes v = unwrap_or (truth v) false

pub truth_back : (b : Bool) → unwrap_or (truth (from_truth (Some b))) false ≡ b
truth_back true = refl
truth_back false = refl

or_both : (a b : Bool) → passes (from_truth (or3 (truth (from_truth (Some a))) (truth (from_truth (Some b))))) ≡ (a || b)
or_both true true = refl
or_both true false = refl
or_both false true = refl
or_both false false = refl

or_unknown : (a : Bool) → passes (from_truth (or3 (truth (from_truth (Some a))) None)) ≡ a
or_unknown true = refl
or_unknown false = refl

same_number : (a b : ℕ) → is_eq (int_cmp (pos a) (pos b)) ≡ (a == b)
same_number a b = grind (arith, ints, nat_tests)

same_cmp : (a b : ℕ) → is_eq (nat_cmp a b) ≡ (a == b)
same_cmp a b = grind (arith, nat_tests)

gt_is : (a b : ℕ) → is_gt (int_cmp (pos a) (pos b)) ≡ nat_lt b a
gt_is a b = grind (arith, ints, nat_tests)

le_is : (a b : ℕ) → is_le (int_cmp (pos a) (pos b)) ≡ nat_le a b
le_is a b = grind (arith, ints, nat_tests)

with_true : (b : Bool) → (b && true) ≡ b
with_true true = refl
with_true false = refl

-- ---- one test

equal : (a b : ℕ) → passes (binary (Compare Eq Binary) (Int (pos a)) (Int (pos b))) ≡ (a == b)
unfolding binary
equal a b = rw (value_cmp-Int (pos a) (pos b)) (truth_back (is_eq (int_cmp (pos a) (pos b))) ∙ same_number a b)

at_most : (a b : ℕ) → passes (binary (Compare Le Binary) (Int (pos a)) (Int (pos b))) ≡ nat_le a b
unfolding binary
at_most a b = rw (value_cmp-Int (pos a) (pos b)) (truth_back (is_le (int_cmp (pos a) (pos b))) ∙ le_is a b)

above : (a b : ℕ) → passes (binary (Compare Gt Binary) (Int (pos a)) (Int (pos b))) ≡ nat_lt b a
unfolding binary
above a b = rw (value_cmp-Int (pos a) (pos b)) (truth_back (is_gt (int_cmp (pos a) (pos b))) ∙ gt_is a b)

same_text : (a b : List ℕ) → passes (binary (Compare Eq Binary) (Words a) (Words b)) ≡ is_eq (text_cmp a b)
unfolding binary
same_text a b = rw (value_cmp-Text a b) (truth_back (is_eq (text_cmp a b)))

from_low : (a b : List ℕ) → passes (binary (Compare Ge Binary) (Words a) (Words b)) ≡ is_ge (text_cmp a b)
unfolding binary
from_low a b = rw (value_cmp-Text a b) (truth_back (is_ge (text_cmp a b)))

null_null : is_eq (value_cmp Null Null) ≡ true
null_null = ap is_eq (tied_itself value_cmp_total Null)

null_text : (t : List ℕ) → is_eq (value_cmp (Words t) Null) ≡ false
null_text t = ap is_eq (value_cmp-apart (Words t) Null (λ e. absurd (omega (arith, e))))

null_number : (n : ℕ) → is_eq (value_cmp (Int (pos n)) Null) ≡ false
null_number n = ap is_eq (value_cmp-apart (Int (pos n)) Null (λ e. absurd (omega (arith, e))))

-- ---- the revision that ended a row

is_living : (o : Option ℕ) → passes (binary (Is Binary) (number_value o) Null) ≡ is_none o
unfolding binary
is_living None = rw null_null refl
is_living (Some n) = rw (null_number n) refl

ended_above : (c : ℕ) (o : Option ℕ) → passes (binary Or (binary (Is Binary) (number_value o) Null) (binary (Compare Gt Binary) (number_value o) (Int (pos c)))) ≡ is_past c o
unfolding binary
ended_above c None = rw null_null refl
ended_above c (Some n) = rw (null_number n) (rw (value_cmp-Int (pos n) (pos c)) (or_both false (is_gt (int_cmp (pos n) (pos c))) ∙ gt_is n c))

-- it ended after one revision and up to another
abbrev pub is_ended_in : ℕ → ℕ → Option ℕ → Bool
is_ended_in from to None = false
is_ended_in from to (Some n) = nat_lt from n && nat_le n to

never_between : (from to : ℕ) (rest : Bool) → (passes (binary (Compare Gt Binary) Null (Int (pos from))) && (passes (binary (Compare Le Binary) Null (Int (pos to))) && rest)) ≡ false
unfolding binary
never_between from to rest = refl

ended_between : (from to : ℕ) (o : Option ℕ) (rest : Bool)
    → (passes (binary (Compare Gt Binary) (number_value o) (Int (pos from))) && (passes (binary (Compare Le Binary) (number_value o) (Int (pos to))) && rest)) ≡ (is_ended_in from to o && rest)
ended_between from to (Some n) rest = rw (above n from, at_most n to) (both (nat_lt from n) (nat_le n to))
  where
    both : (a b : Bool) → (a && (b && rest)) ≡ ((a && b) && rest)
    both true b = refl
    both false b = refl
ended_between from to None rest = never_between from to rest

-- ---- rows of a key

three : (a b c : Ordering) (d : Bool) → (is_eq a && (is_eq b && (is_eq c && d))) ≡ (is_eq (ordering_then a (ordering_then b c)) && d)
three Less b c d = refl
three Equal Less c d = refl
three Equal Equal c d = refl
three Equal Greater c d = refl
three Greater b c d = refl

-- the parameters that name a key
abbrev pub bound_key : Key → Row → Row
bound_key k rest = Int (pos k.kind) ∷ Words k.namespace ∷ Words k.name ∷ rest

of_key : (k q : Key) (d : Bool) → ((q.kind == k.kind) && (is_eq (text_cmp q.namespace k.namespace) && (is_eq (text_cmp q.name k.name) && d))) ≡ (is_same_key k q && d)
of_key k q d =
    ap (λ b. b && (is_eq (text_cmp q.namespace k.namespace) && (is_eq (text_cmp q.name k.name) && d))) (sym (same_cmp q.kind k.kind))
    ∙ three (nat_cmp q.kind k.kind) (text_cmp q.namespace k.namespace) (text_cmp q.name k.name) d
    ∙ ap (λ b. b && d) (same_key_symm q k)

pub last_tests : (k : Key) (s : Span) → list_all (holds (bound_key k [] ∷ row_of s ∷ [])) last_query.filter ≡ is_same_key k s.key
last_tests k s = rw (equal s.key.kind k.kind, same_text s.key.namespace k.namespace, same_text s.key.name k.name) (of_key k s.key true ∙ with_true (is_same_key k s.key))

pub newest_tests : (k : Key) (r : ℕ) (s : Span) → list_all (holds (bound_key k (Int (pos r) ∷ []) ∷ row_of s ∷ [])) newest_query.filter ≡ (is_same_key k s.key && is_current_at r s)
newest_tests k r s =
    rw (equal s.key.kind k.kind, same_text s.key.namespace k.namespace, same_text s.key.name k.name, at_most s.first r, ended_above r s.ended, with_true (is_past r s.ended))
    (of_key k s.key (is_current_at r s))

-- ---- the end of a row, and rows that ended

pub end_tests : (n : ℕ) (rest : Row) (s : Span) → list_all (holds ((Int (pos n) ∷ rest) ∷ row_of s ∷ [])) end_query.filter ≡ ((s.first == n) && is_none s.ended)
end_tests n rest s = rw (equal s.first n, is_living s.ended, with_true (is_none s.ended)) refl

ended_up_to : (c : ℕ) (o : Option ℕ) → (is_ended_in 0 c o && true) ≡ is_ended c o
ended_up_to c None = refl
ended_up_to c (Some n) = with_true (nat_lt 0 n && nat_le n c)

pub delete_tests : (c : ℕ) (s : Span) → list_all (holds ((Int (pos c) ∷ []) ∷ row_of s ∷ [])) delete_query.filter ≡ is_ended c s.ended
delete_tests c s = ended_between 0 c s.ended true ∙ ended_up_to c s.ended

-- ---- a span of revisions

abbrev pub bound_span : ℕ → ℕ → ℕ → Option (List ℕ) → ℕ → Row
bound_span from to kind ns max = Int (pos from) ∷ Int (pos to) ∷ Int (pos kind) ∷ body_value ns ∷ Int (pos max) ∷ []

in_namespace : (t : List ℕ) (ns : Option (List ℕ)) → passes (binary Or (binary (Is Binary) (body_value ns) Null) (binary (Compare Eq Binary) (Words t) (body_value ns))) ≡ is_in_namespace ns (record { kind = 0; namespace = t; name = [] })
unfolding binary
in_namespace t None = rw null_null refl
in_namespace t (Some ns) = rw (null_text ns) (rw (value_cmp-Text t ns) (or_both false (is_eq (text_cmp t ns))))

same_space : (k : Key) (ns : Option (List ℕ)) → is_in_namespace ns (record { kind = 0; namespace = k.namespace; name = [] }) ≡ is_in_namespace ns k
same_space k None = refl
same_space k (Some ns) = refl

pub made_tests : (from to kind : ℕ) (ns : Option (List ℕ)) (max : ℕ) (s : Span)
    → list_all (holds (bound_span from to kind ns max ∷ row_of s ∷ [])) made_query.filter ≡ (nat_lt from s.first && (nat_le s.first to && is_within kind ns s.key))
made_tests from to kind ns max s =
    rw (above s.first from, at_most s.first to, equal s.key.kind kind, in_namespace s.key.namespace ns, same_space s.key ns, with_true (is_in_namespace ns s.key)) refl

flag_is : (b : Bool) → passes (binary (Compare Eq Binary) (Int (pos (flag b))) (Int (pos 1))) ≡ b
flag_is true = equal 1 1
flag_is false = equal 0 1

pub deleted_tests : (from to kind : ℕ) (ns : Option (List ℕ)) (max : ℕ) (s : Span)
    → list_all (holds (bound_span from to kind ns max ∷ row_of s ∷ [])) deleted_query.filter ≡ (is_ended_in from to s.ended && (s.gone && is_within kind ns s.key))
deleted_tests from to kind ns max s =
    ended_between from to s.ended _
    ∙ ap (λ b. is_ended_in from to s.ended && b) (rw (flag_is s.gone, equal s.key.kind kind, in_namespace s.key.namespace ns, same_space s.key ns, with_true (is_in_namespace ns s.key)) refl)

-- ---- a page

-- the parameters of a page: the revision, how many, and what else is asked
abbrev pub bound_page : ℕ → ℕ → Row → Row
bound_page r max rest = Int (pos r) ∷ Int (pos max) ∷ rest

abbrev pub bound_in : ℕ → List ℕ → Option (List ℕ) → Row
bound_in kind ns name = Int (pos kind) ∷ Words ns ∷ Words (low_of name) ∷ []

abbrev pub bound_from : ℕ → List ℕ → Row
bound_from kind ns = Int (pos kind) ∷ Words ns ∷ []

-- the text after another

never_less : (y : ℕ) → is_ge (nat_cmp y 0) ≡ true
never_less y = grind (arith, nat_tests)

from_nothing : (n : List ℕ) → is_ge (text_cmp n []) ≡ true
from_nothing [] = refl
from_nothing (x ∷ n) = refl

not_less : (o : Ordering) (n : List ℕ) → is_ge o ≡ true → is_ge (ordering_then o (text_cmp n [])) ≡ true
not_less Less n e = e
not_less Equal n e = from_nothing n
not_less Greater n e = refl

pub next_text : (n ns : List ℕ) → is_ge (text_cmp n (ns ++ 0 ∷ [])) ≡ is_gt (text_cmp n ns)
next_text [] [] = refl
next_text [] (x ∷ ns) = refl
next_text (y ∷ n) [] = not_less (nat_cmp y 0) n (never_less y)
next_text (y ∷ n) (x ∷ ns) = go (nat_cmp y x) (next_text n ns)
  where
    go : (o : Ordering) → is_ge (text_cmp n (ns ++ 0 ∷ [])) ≡ is_gt (text_cmp n ns) → is_ge (ordering_then o (text_cmp n (ns ++ 0 ∷ []))) ≡ is_gt (ordering_then o (text_cmp n ns))
    go Less e = refl
    go Equal e = e
    go Greater e = refl

from_name : (name : Option (List ℕ)) (n : List ℕ) → is_ge (text_cmp n (low_of name)) ≡ is_past_name name n
from_name None n = from_nothing n
from_name (Some name) n = next_text n name

in_turn : (k n a s : Bool) → (k && (n && (a && s))) ≡ (s && ((k && n) && a))
in_turn true true true true = refl
in_turn true true true false = refl
in_turn true true false true = refl
in_turn true true false false = refl
in_turn true false a true = refl
in_turn true false a false = refl
in_turn false n a true = refl
in_turn false n a false = refl

later_turn : (k n s : Bool) → (k && (n && s)) ≡ (s && (k && n))
later_turn true true true = refl
later_turn true true false = refl
later_turn true false true = refl
later_turn true false false = refl
later_turn false n true = refl
later_turn false n false = refl

pub in_tests_are : (kind : ℕ) (ns : List ℕ) (name : Option (List ℕ)) (r max : ℕ) (s : Span)
    → list_all (holds (bound_page r max (bound_in kind ns name) ∷ row_of s ∷ [])) in_tests ≡ (is_current_at r s && is_in_one kind ns name s.key)
in_tests_are kind ns name r max s =
    rw (equal s.key.kind kind, same_text s.key.namespace ns, from_low s.key.name (low_of name), at_most s.first r, ended_above r s.ended, with_true (is_past r s.ended))
    (ap (λ b. (s.key.kind == kind) && (is_eq (text_cmp s.key.namespace ns) && (b && is_current_at r s))) (from_name name s.key.name)
    ∙ in_turn (s.key.kind == kind) (is_eq (text_cmp s.key.namespace ns)) (is_past_name name s.key.name) (is_current_at r s))

pub from_tests_are : (kind : ℕ) (low : List ℕ) (r max : ℕ) (s : Span)
    → list_all (holds (bound_page r max (bound_from kind low) ∷ row_of s ∷ [])) from_tests ≡ (is_current_at r s && is_from kind low s.key)
from_tests_are kind low r max s =
    rw (equal s.key.kind kind, from_low s.key.namespace low, at_most s.first r, ended_above r s.ended, with_true (is_past r s.ended))
    (later_turn (s.key.kind == kind) (is_ge (text_cmp s.key.namespace low)) (is_current_at r s))
