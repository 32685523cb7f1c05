-- The objects that the client keeps, by namespace and name.
use Rattle.std.specs.Prelude.{ℕ, zero, suc, Bool, false, List, [], ◌∷◌, map, Option, None, Some, Vec, String, string_bytes}
use Rattle.std.specs.declared.alloc.Global.{Global}
use Rattle.std.specs.BTreeMap.{BTreeMap}
use Rattle.std.specs.List.{list_any, slice_index_or}
use Rattle.std.specs.Ordering.{ordering_then, nat_cmp}
use Rattle.std.specs.Rc.{rc_str_bytes}
use Rattle.std.specs.declared.rc.Rc.{Rc}
use Rattle.std.specs.Cmp.Lexicographic.{slice_cmp}
use Rattle.std.specs.Str.{bytes_eq}
use Rattle.std.specs.declared.cmp.Ordering.{Ordering}
use Rattle.indexer.specs.declared.object.Object.{Object}
use Rattle.indexer.specs.declared.object.ObjectKey.{ObjectKey}
use Rattle.indexer.specs.declared.texts.Texts.{Texts}
use Rattle.indexer.specs.Postings.{Postings, under}
use Rattle.indexer.specs.Texts.{bytes_in}

-- an object without where it lies in memory
pub record Stored : Type 0 where
  pub namespace : List ℕ
  pub name : List ℕ
  pub revision : ℕ
  pub labels : List (List ℕ × List ℕ)
  pub text : List ℕ

abbrev pub labels_of : BTreeMap (String Global) (String Global) → List (List ℕ × List ℕ)
labels_of labels = map (λ e. (string_bytes e.0, string_bytes e.1)) labels.entries

abbrev pub stored_of : Object → Stored
stored_of o = record { namespace = rc_str_bytes o.namespace; name = rc_str_bytes o.name; revision = o.revision; labels = labels_of o.labels; text = string_bytes o.text }

-- an object with several owners
abbrev pub Shared : Type 0
Shared = Rc Object Global

abbrev pub shared_of : Shared → Stored
shared_of o = stored_of o.value

-- a namespace and a name
abbrev pub Place : Type 0
Place = List ℕ × List ℕ

-- by namespace, then by name
abbrev pub place_cmp : Place → Place → Ordering
place_cmp a b = ordering_then (slice_cmp nat_cmp a.0 b.0) (slice_cmp nat_cmp a.1 b.1)

abbrev pub place_of : ObjectKey → Place
place_of key = (rc_str_bytes key.namespace, rc_str_bytes key.name)

abbrev pub place_of_object : Object → Place
place_of_object o = (rc_str_bytes o.namespace, rc_str_bytes o.name)

-- whether a key is one of these
abbrev pub is_among : List (List ℕ) → List ℕ → Bool
is_among texts k = list_any (λ t. bytes_eq t k) texts

-- the keys of an object in each index, as its function gives them
abbrev pub texts_of : List (Vec (String Global) Global) → List (List (List ℕ))
texts_of keys = map (λ v. map string_bytes v.items) keys

-- the same as they are kept
abbrev pub kept_of : List Texts → List (List (List ℕ))
kept_of keys = map bytes_in keys

-- those in index number i
abbrev pub texts_at : List Texts → ℕ → List (List ℕ)
texts_at keys i = slice_index_or (kept_of keys) i []

abbrev pub under_at : List Postings → ℕ → List ℕ → ObjectKey → Bool
under_at [] i k q = false
under_at (p ∷ ps) zero k q = under p k q
under_at (p ∷ ps) (suc i) k q = under_at ps i k q

-- the same by the number of the index, if there is such an index
abbrev pub under_number : List Postings → Option ℕ → List ℕ → ObjectKey → Bool
under_number ps None k q = false
under_number ps (Some i) k q = under_at ps i k q
