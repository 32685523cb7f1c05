-- For private clauses: one member or one item more.
use Rattle.std.specs.Prelude.{◌≡◌, ℕ, Bool, true, false, List, [], ◌∷◌, ◌++◌, ⊤, if◌then◌else◌, string_bytes}
use Rattle.std.specs.declared.result.Result.{Result}
use Rattle.std.specs.declared.result.Result.TheVariants.{Ok, Err}
use Rattle.std.specs.List.{list_any}
use Rattle.std.specs.Str.{bytes_eq}
use Rattle.serde_json.specs.Data.{Data, array, object, no_items, Members, no_members, put}
use Rattle.pathmap.specs.Contents.{Content, nothing, over}
use Rattle.pathmap.specs.Insides.{inside}
use Rattle.pathmap.specs.Levels.{has_path}
use Rattle.pathmap.specs.Maps.{content}
use Rattle.typed.specs.declared.fault.ReadFault.{ReadFault}
use Rattle.typed.specs.declared.items.Item.{Item}
use Rattle.typed.specs.Faults.{Read, ReportsFault, fault_in, below, shown_name, shown_place}
use Rattle.typed.specs.Reading.{joined, marked, one_item}

-- the new members have what was read at k, or it is a fault
abbrev pub PutsMember : List ℕ → Members → Members → Result ⊤ ReadFault → Read Data → Type 0
PutsMember k old new (Ok x) read = (d : Data) × (read ≡ Ok d) × (new ≡ put k d old)
PutsMember k old new (Err e) read = ReportsFault e (fault_in (below (shown_name k) (λ d. d) read))

-- the new items end in what was read, or it is a fault
abbrev pub PushesItem : ℕ → List Data → List Data → Result ⊤ ReadFault → Read Data → Type 0
PushesItem i old new (Ok x) read = (d : Data) × (read ≡ Ok d) × (new ≡ old ++ d ∷ [])
PushesItem i old new (Err e) read = ReportsFault e (fault_in (below (shown_place i) (λ d. d) read))

-- what was read was joined to what stood below, or it is a fault
abbrev pub Joins : Content → Content → Result ⊤ ReadFault → Read Content → Type 0
Joins old new (Ok x) read = Ok new ≡ joined (Ok old) read
Joins old new (Err e) read = ReportsFault e (fault_in read)

-- nothing stands below this element
abbrev pub IsFree : List ℕ → Content → Type 0
IsFree f c = inside f c ≡ nothing

-- a key field stands in the item's element alone
abbrev pub unless_key : List (List ℕ) → List ℕ → Read Content → Read Content
unless_key names k read = if list_any (bytes_eq k) names then below [] (λ c. nothing) read else read

-- an item's element and content
abbrev pub item_view : Item → List ℕ × Content
item_view x = (string_bytes x.element, content x.below)

-- something stands below the elements so far, and below no other
abbrev pub AreSeen : List (List ℕ) → Content → Type 0
AreSeen seen c = (g : List ℕ) → has_path (inside g c) ≡ list_any (bytes_eq g) seen

-- an item whose element is new was added under it, or it is a fault
abbrev pub AddsItem : List (List ℕ) → ℕ → Content → Content → Result ⊤ ReadFault → Read (List ℕ × Content) → Type 0
AddsItem seen i old new (Ok x) read =
    (e : List ℕ × Content) × (read ≡ Ok e) × (list_any (bytes_eq e.0) seen ≡ false) × (new ≡ over old (marked e.0 e.1)) × AreSeen (e.0 ∷ seen) new
AddsItem seen i old new (Err f) read = (rest : List (List ℕ) → Read Content) → ReportsFault f (fault_in (one_item seen (below (shown_place i) (λ e. e) read) rest))

-- what counts as absent where an atomic value is due
abbrev pub is_empty : Data → Bool
is_empty (object no_members) = true
is_empty (array no_items) = true
is_empty d = false
