-- Who owns which paths. Server-Side Apply, "Field management": a manager is a name and an operation (`Apply` or `Update`), with a subresource where it wrote by one.
use Rattle.std.specs.Prelude.{◌≡◌, ℕ, Bool, false, not, List, [], ◌∷◌, Some, filter, map, unwrap_or, if◌then◌else◌, codes}
use Rattle.std.specs.declared.cmp.Ordering.{Ordering}
use Rattle.std.specs.Ordering.{on, eq_by_cmp}
use Rattle.std.specs.FinMap as fin
use Rattle.std.specs.FinSet as set
use Rattle.fieldpath.specs.Paths.{path_cmp}
use Rattle.pathmap.specs.Beside.{is_empty}
use Rattle.pathmap.specs.Contents.{PathSet}
use Rattle.objects.specs.declared.manager.Operation.{Operation}
use Rattle.objects.specs.declared.manager.Operation.TheVariants.{Apply, Update}
use Rattle.objects.specs.declared.manager.Subresource.{Subresource}
use Rattle.objects.specs.declared.manager.Subresource.TheVariants.{Main, Status}

pub record Manager : Type 0 where
  pub name : List ℕ
  pub operation : Operation
  pub subresource : Subresource

abbrev pub manager_by : List ℕ → Operation → Subresource → Manager
manager_by name operation subresource = record { name = name; operation = operation; subresource = subresource }

-- by the main resource, which is no subresource
abbrev pub manager_of : List ℕ → Operation → Manager
manager_of name operation = manager_by name operation Main

abbrev pub apply_operation : Operation
apply_operation = Apply

abbrev pub update_operation : Operation
update_operation = Update

abbrev pub operation_text : Operation → List ℕ
operation_text Apply = codes "Apply"
operation_text Update = codes "Update"

-- the main resource has no text
abbrev pub subresource_text : Subresource → List ℕ
subresource_text Main = []
subresource_text Status = codes "status"

abbrev pub manager_texts : Manager → List (List ℕ)
manager_texts m = m.name ∷ operation_text m.operation ∷ subresource_text m.subresource ∷ []

-- by name, then operation, then subresource (none first), each by its bytes
abbrev pub manager_cmp : Manager → Manager → Ordering
manager_cmp = on manager_texts path_cmp

-- each manager's paths; a manager with none has no entry
abbrev pub Owners : Type 0
Owners = fin.FinMap manager_cmp PathSet

abbrev pub is_same : Manager → Manager → Bool
is_same = eq_by_cmp manager_cmp

-- what a manager owns, nothing where it has no entry
unfoldable pub owned_by : Owners → Manager → PathSet
owned_by w m = unwrap_or (fin.get w m) set.empty

-- the entries of all managers but one, in order
unfoldable pub others : Owners → Manager → List (Manager × PathSet)
others w m = filter (λ e. not (is_same m e.0)) (fin.entries w)

-- each entry has a path
abbrev pub HavePaths : Owners → Type 0
HavePaths w = (m : Manager) (paths : PathSet) → fin.get w m ≡ Some paths → is_empty paths ≡ false

-- each entry less these paths; what is empty then vanishes
abbrev pub less : PathSet → List (Manager × PathSet) → List (Manager × PathSet)
less s es = filter (λ e. not (is_empty e.1)) (map (λ e. (e.0, set.difference e.1 s)) es)

-- one entry more, unless it is empty
unfoldable pub with_owner : Owners → Manager → PathSet → Owners
with_owner w m s = if is_empty s then w else fin.insert w m s

-- all others lose these paths, and this manager owns just the given ones
unfoldable pub taken_over : Owners → Manager → PathSet → PathSet → Owners
taken_over w m lost mine = with_owner (fin.from_entries (less lost (others w m))) m mine
