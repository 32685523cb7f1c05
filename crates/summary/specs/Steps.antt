-- What is summed up, with one object more or less. For private clauses.
use Rattle.std.specs.Prelude.{ℕ, zero, suc, ◌+◌, ◌-◌, ◌^◌, min, List, [], ◌∷◌, Option, Some, None}
use Rattle.std.specs.FinMap as fin
use Rattle.indexer.specs.Objects.{Stored}
use Rattle.reflector.specs.Client.{Notice, added, updated, deleted}
use Rattle.summary.specs.Counts.{Counts, Summed, value_of}

-- one more, as far as a number of 64 bits goes
abbrev pub more : ℕ → ℕ
more n = min (n + 1) (2 ^ 64 - 1)

abbrev pub one_more : Option ℕ → ℕ
one_more None = 1
one_more (Some n) = more n

abbrev pub with_one_more : Counts → List ℕ → Counts
with_one_more counts value = fin.insert counts value (one_more (fin.get counts value))

-- a value that no object has goes
abbrev pub with_left : Counts → List ℕ → ℕ → Counts
with_left counts value zero = fin.remove counts value
with_left counts value (suc n) = fin.insert counts value (suc n)

abbrev pub less_one : Counts → List ℕ → Option ℕ → Counts
less_one counts value None = counts
less_one counts value (Some n) = with_left counts value (n - 1)

abbrev pub with_one_less : Counts → List ℕ → Counts
with_one_less counts value = less_one counts value (fin.get counts value)

abbrev pub with_value : Summed → Option (List ℕ) → Summed
with_value s None = s
with_value s (Some value) = record { label = s.label; counts = with_one_more s.counts value; total = more s.total }

abbrev pub without_value : Summed → Option (List ℕ) → Summed
without_value s None = s
without_value s (Some value) = record { label = s.label; counts = with_one_less s.counts value; total = s.total - 1 }

abbrev pub with_object : Summed → Stored → Summed
with_object s o = with_value s (value_of s.label o)

abbrev pub without_object : Summed → Stored → Summed
without_object s o = without_value s (value_of s.label o)

abbrev pub noted : Summed → Notice → Summed
noted s (added new) = with_object s new
noted s (updated old new) = without_object (with_object s new) old
noted s (deleted old) = without_object s old

abbrev pub noted_all : Summed → List Notice → Summed
noted_all s [] = s
noted_all s (n ∷ ns) = noted_all (noted s n) ns
