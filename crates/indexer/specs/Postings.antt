-- The keys of one index, and the objects under each.
use Rattle.std.specs.Prelude.{ℕ, Bool, false, List, Option, Some, None}
use Rattle.std.specs.BTreeMap.{BTreeMap, get_by}
use Rattle.std.specs.BTreeSet.{BTreeSet, contains}
use Rattle.std.specs.Cmp.Lexicographic.{slice_cmp}
use Rattle.std.specs.Ordering.{nat_cmp}
use Rattle.std.specs.Rc.{rc_str_bytes}
use Rattle.std.specs.declared.alloc.Global.{Global}
use Rattle.std.specs.declared.rc.RcStr.{RcStr}
use Rattle.indexer.specs.declared.object.ObjectKey.{ObjectKey}
use Rattle.indexer.specs.Keys.{key_cmp}

abbrev pub Postings : Type 0
Postings = BTreeMap (RcStr Global) (BTreeSet ObjectKey)

-- the objects under this key of the index, if it has the key
abbrev pub listed_at : Postings → List ℕ → Option (BTreeSet ObjectKey)
listed_at postings k = get_by (λ t. slice_cmp nat_cmp k (rc_str_bytes t)) postings

abbrev pub has_in : Option (BTreeSet ObjectKey) → ObjectKey → Bool
has_in None q = false
has_in (Some keys) q = contains key_cmp keys q

-- whether the object stands under this key of the index
abbrev pub under : Postings → List ℕ → ObjectKey → Bool
under postings k q = has_in (listed_at postings k) q

abbrev pub under_in : Option Postings → List ℕ → ObjectKey → Bool
under_in None k q = false
under_in (Some postings) k q = under postings k q
