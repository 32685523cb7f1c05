-- What a summary says.
use Rattle.std.specs.Prelude.{ℕ, map, String, string_bytes}
use Rattle.std.specs.BTreeMap.{BTreeMap}
use Rattle.std.specs.FinMap as fin
use Rattle.std.specs.declared.alloc.Global.{Global}
use Rattle.summary.specs.declared.summary.Summary.{Summary}
use Rattle.summary.specs.Counts.{Counts, Summed}

abbrev pub counts_in : BTreeMap (String Global) ℕ → Counts
counts_in counts = fin.from_entries (map (λ e. (string_bytes e.0, e.1)) counts.entries)

abbrev pub summed : Summary → Summed
summed s = record { label = string_bytes s.label; counts = counts_in s.counts; total = s.total }
