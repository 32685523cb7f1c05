-- What the statements find among the changes and the objects that the rows keep.
use Rattle.std.specs.Prelude.{ℕ, Bool, true, List, [], ◌∷◌, ◌++◌, Option, Some, None, ◌&&◌, ◌==◌, is_none, filter}
use Rattle.std.specs.Ordering.{is_ge, is_gt}
use Rattle.std.specs.declared.cmp.Ordering.{Ordering}
use Rattle.std.specs.declared.cmp.Ordering.TheVariants.{Less, Equal, Greater}
use Rattle.std.specs.FinMap as fin
use Rattle.history.specs.History.{Key, Change, Object, Objects, is_same_key, text_cmp}
use Rattle.history.specs.Page.{is_within}

-- the change that left an object
abbrev pub as_change : Key × Object → Change
as_change e = record { revision = e.1.revision; key = e.0; body = Some e.1.body }

-- what stands under a key, if anything does
abbrev pub under : Key → Objects → List (Key × Object)
under k s = filter (λ e. is_same_key k e.0) (fin.entries s)

-- those that are deletions
abbrev pub deletions : List Change → List Change
deletions = filter (λ c. is_none c.body)

-- ---- a page, read from one namespace and from those after it

-- after this name, if one is given
abbrev pub is_past_name : Option (List ℕ) → List ℕ → Bool
is_past_name None n = true
is_past_name (Some name) n = is_gt (text_cmp n name)

abbrev pub is_in_one : ℕ → List ℕ → Option (List ℕ) → Key → Bool
is_in_one kind ns name k = is_within kind (Some ns) k && is_past_name name k.name

abbrev pub is_in_later : ℕ → List ℕ → Key → Bool
is_in_later kind ns k = (k.kind == kind) && is_gt (text_cmp k.namespace ns)

abbrev pub is_from : ℕ → List ℕ → Key → Bool
is_from kind low k = (k.kind == kind) && is_ge (text_cmp k.namespace low)

-- the objects of the type in one namespace, after a name if one is given, those in the namespaces after it, and those
-- in the namespaces from a text on
abbrev pub in_one : ℕ → List ℕ → Option (List ℕ) → Objects → List (Key × Object)
in_one kind ns name s = filter (λ e. is_in_one kind ns name e.0) (fin.entries s)

abbrev pub in_later : ℕ → List ℕ → Objects → List (Key × Object)
in_later kind ns s = filter (λ e. is_in_later kind ns e.0) (fin.entries s)

abbrev pub in_from : ℕ → List ℕ → Objects → List (Key × Object)
in_from kind low s = filter (λ e. is_from kind low e.0) (fin.entries s)

-- the text that the names of a page begin from: the next after a name is the name and a zero byte
abbrev pub low_of : Option (List ℕ) → List ℕ
low_of None = []
low_of (Some name) = name ++ 0 ∷ []

-- the namespace that a page begins in, and the name there after which it does; a place past the asked namespace leaves nothing
abbrev pub begins_by : Ordering → List ℕ → List ℕ → Option (List ℕ × Option (List ℕ))
begins_by Less ns name = None
begins_by Equal ns name = Some (ns, Some name)
begins_by Greater ns name = Some (ns, None)

abbrev pub begins : Option (List ℕ) → Option (List ℕ × List ℕ) → Option (List ℕ × Option (List ℕ))
begins None None = Some ([], None)
begins None (Some after) = Some (after.0, Some after.1)
begins (Some ns) None = Some (ns, None)
begins (Some ns) (Some after) = begins_by (text_cmp ns after.0) ns after.1
