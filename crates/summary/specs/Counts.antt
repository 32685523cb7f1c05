-- How many objects have each value of a label (Kubernetes documentation, "Labels and Selectors").
use Rattle.std.specs.Prelude.{ℕ, zero, suc, ◌+◌, ◌-◌, Bool, false, cond, List, [], ◌∷◌, length, Option, Some, None, is_some}
use Rattle.std.specs.Cmp.Lexicographic.{slice_cmp}
use Rattle.std.specs.FinMap as fin
use Rattle.std.specs.FinMap.Entries.{find}
use Rattle.std.specs.List.{filter, flat_map}
use Rattle.std.specs.Ordering.{nat_cmp}
use Rattle.std.specs.Str.{bytes_eq}
use Rattle.indexer.specs.Objects.{Stored}
use Rattle.reflector.specs.Client.{Objects, Notice, added, updated, deleted}

-- the value that an object has of the label
abbrev pub value_of : List ℕ → Stored → Option (List ℕ)
value_of label o = find (slice_cmp nat_cmp) label o.labels

abbrev pub is_value : List ℕ → Option (List ℕ) → Bool
is_value value None = false
is_value value (Some other) = bytes_eq other value

abbrev pub has : List ℕ → List ℕ → Stored → Bool
has label value o = is_value value (value_of label o)

abbrev pub is_labelled : List ℕ → Stored → Bool
is_labelled label o = is_some (value_of label o)

-- so many of the objects pass the test
abbrev pub how_many : (Stored → Bool) → Objects → ℕ
how_many test o = length (filter (λ e. test e.1) (fin.entries o))

abbrev pub count : List ℕ → List ℕ → Objects → ℕ
count label value o = how_many (has label value) o

-- so many have the label
abbrev pub total : List ℕ → Objects → ℕ
total label o = how_many (is_labelled label) o

-- numbers by value, in order of the values' bytes
abbrev pub Counts : Type 0
Counts = fin.FinMap (slice_cmp nat_cmp) ℕ

abbrev pub with_count : (List ℕ → ℕ) → Option (List ℕ) → List (List ℕ × ℕ)
with_count n None = []
with_count n (Some value) = (value, n value) ∷ []

-- for each value that some object has, how many have it
abbrev pub counts_of : List ℕ → Objects → Counts
counts_of label o = fin.from_entries (flat_map (λ e. with_count (λ value. count label value o) (value_of label e.1)) (fin.entries o))

-- none where it is 0
abbrev pub some_if_any : ℕ → Option ℕ
some_if_any zero = None
some_if_any (suc n) = Some (suc n)

-- what is summed up of the objects by a label
pub record Summed : Type 0 where
  pub label : List ℕ
  pub counts : Counts
  pub total : ℕ

abbrev pub summed_of : List ℕ → Objects → Summed
summed_of label o = record { label = label; counts = counts_of label o; total = total label o }

-- ---- by notices

abbrev pub one_if : Bool → ℕ
one_if b = cond b 1 0

-- how many pass the test after a notice
abbrev pub counted : (Stored → Bool) → ℕ → Notice → ℕ
counted test n (added new) = n + one_if (test new)
counted test n (updated old new) = n + one_if (test new) - one_if (test old)
counted test n (deleted old) = n - one_if (test old)

-- how many pass it after notices, one after the other
abbrev pub counted_all : (Stored → Bool) → ℕ → List Notice → ℕ
counted_all test n [] = n
counted_all test n (x ∷ xs) = counted_all test (counted test n x) xs
