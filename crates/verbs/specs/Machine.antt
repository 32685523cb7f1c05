-- The machine: a history whose bodies are texts of objects, each of the type and key of its change
-- (resourceVersion and its order: Kubernetes "API Concepts", "Resource versions").
use Rattle.std.specs.Prelude.{◌≡◌, ℕ, suc, ◌≤◌, true, IfSome, IsUtf8, List, [], ◌∷◌, Option, Some, None, option_and_then, slice_get}
use Rattle.std.specs.FinMap as fin
use Rattle.std.specs.List.{All, AllByRecursion}
use Rattle.serde_json.specs.Read.{read}
use Rattle.schema.specs.Shape.{Shape}
use Rattle.api_types.specs.Subresources.{is_apart}
use Rattle.api_types.specs.TypesFile.{ServedShape}
use Rattle.pathmap.specs.Contents.{nothing}
use Rattle.history.specs.History.{Key, Change, Object, Objects, History, last_revision, current_objects, written}
use Rattle.history.specs.View.{View, state_in}
use Rattle.history.specs.Whole.{AreThere, IsWhole}
use Rattle.objects.specs.State.{State}
use Rattle.objects.specs.SystemMetadata.{Stamp, System, stamped}
use Rattle.objects.specs.ObjectText.{Identity}
use Rattle.objects.specs.Parts.{parts_in}
use Rattle.schema.specs.ObjectShape.{IsObjectShape}
use Rattle.objects.specs.ReadBack.{IsObjectText}
use Rattle.ownership.specs.Sides.{OwnSides}
use Rattle.names.specs.Names.{is_dns_label, is_dns_subdomain}
use Rattle.api_validation.specs.Envelope.{api_version_of}
use Rattle.verbs.specs.IsSystem.{IsSystemOf}

-- ---- what stands

-- no content, owned by nobody
abbrev pub no_state : State
no_state = record { content = nothing; owners = fin.empty }

abbrev pub state_or_none : Option (State × Stamp) → State
state_or_none None = no_state
state_or_none (Some p) = p.0

-- what an object's text says: its content, and who owns what. It is read as the code reads it; that the text of a state says just this
-- state is the law `verbs::texts_say_states`, over `objects::objects_are_one_for_one`
unfoldable pub decoded_state : Shape → List ℕ → State
decoded_state s text = state_or_none (option_and_then (parts_in s) (read text))

-- .. and what the system says of it beside its version, if it says something
abbrev pub system_or_none : Option (State × Stamp) → Option System
system_or_none None = None
system_or_none (Some p) = p.1.system

unfoldable pub decoded_system : Shape → List ℕ → Option System
decoded_system s text = system_or_none (option_and_then (parts_in s) (read text))

-- what a call starts from: the state of the object that stands, or nothing
abbrev pub state_of_existing : ServedShape → Option Object → State
state_of_existing t None = no_state
state_of_existing t (Some o) = decoded_state t.shape o.body

abbrev pub system_of_existing : ServedShape → Option Object → Option System
system_of_existing t None = None
system_of_existing t (Some o) = decoded_system t.shape o.body

abbrev pub state_by : Option ServedShape → Option Object → State
state_by None existing = no_state
state_by (Some t) existing = state_of_existing t existing

-- content and owners under a key, both empty where there is no object
abbrev pub state_under : List ServedShape → Objects → Key → State
state_under types s k = state_by (slice_get types k.kind) (fin.get s k)

-- ---- texts of objects

-- what an object of a type is of, and its key
abbrev pub identity_of : ServedShape → Key → Identity
identity_of t k = record { api_version = api_version_of t; kind = t.kind; namespace = k.namespace; name = k.name }

-- the namespace and the name are ones that an object may have
pub record IsNamed (k : Key) : Type 0 where
  pub namespace : is_dns_label k.namespace ≡ true
  pub name : is_dns_subdomain k.name ≡ true

-- the text is that of an object of the type and the key, at the revision: of a content of the type, with owners of its paths, each of
-- paths that its subresource writes; the system says what it may of the type's objects; the key has a namespace and a name that
-- an object may have
pub record IsTextOf (t : ServedShape) (k : Key) (revision : ℕ) (text : List ℕ) : Type 0 where
  pub state : State
  pub system : Option System
  pub says : IsObjectText t.shape (identity_of t k) (stamped revision system) state text
  pub is_system : IsSystemOf t revision system
  pub sides : OwnSides (is_apart t) state
  pub named : IsNamed k

-- of the key's type, as it is served now
pub record IsTextAt (types : List ServedShape) (k : Key) (revision : ℕ) (text : List ℕ) : Type 0 where
  pub t : ServedShape
  pub served : slice_get types k.kind ≡ Some t
  pub is_text : IsTextOf t k revision text

-- of the key's type, under some schema that a type of its names could have
pub record IsSomeTextAt (types : List ServedShape) (k : Key) (revision : ℕ) (text : List ℕ) : Type 0 where
  pub t : ServedShape
  pub served : slice_get types k.kind ≡ Some t
  pub shape : Shape
  pub shaped : IsObjectShape shape
  pub is_text : IsTextOf (record t { shape = shape }) k revision text

-- each text is that of an object of its key and its type, as it is served now
abbrev pub AreTexts : List ServedShape → Objects → Type 0
AreTexts types s = (k : Key) (o : Object) → fin.get s k ≡ Some o → IsTextAt types k o.revision o.body

-- the text that stands, if any, is that of an object of the key and the type
abbrev pub IsReadable : ServedShape → Key → Option Object → Type 0
IsReadable t k None = Unit {0}
IsReadable t k (Some o) = (stamp : Stamp) × (state : State) × IsObjectText t.shape (identity_of t k) stamp state o.body

-- the text of a change, if it has one, is that of an object of its key and its type, under the schema of its time
abbrev pub IsOfTypes : List ServedShape → Change → Type 0
IsOfTypes types c = IfSome c.body (IsSomeTextAt types c.key c.revision)

-- each type's schema is that of an object
abbrev pub AreObjectTypes : List ServedShape → Type 0
AreObjectTypes types = All (λ t. IsObjectShape t.shape) types

-- ---- the machine

-- nothing of it is forgotten since it began at a revision; each body is an object's text, and what stands is of the types that are served now
pub record IsMachine (types : List ServedShape) (m : History) : Type 0 where
  pub first : ℕ
  pub whole : IsWhole first m
  pub shapes : AreObjectTypes types
  pub texts : AllByRecursion (IsOfTypes types) m.changes
  pub stand : AreTexts types (current_objects m)

-- each body is Unicode, encoded in UTF-8 (RFC 8259, section 8.1)
abbrev pub AreUnicode : List Change → Type 0
AreUnicode = AllByRecursion (λ c. IfSome c.body IsUtf8)

-- the machine after a call that made these changes, one after the other
abbrev pub after : History → List Change → History
after m [] = m
after m (c ∷ cs) = after (written m c.key c.body) cs

-- a change that may come next: it has the next revision; a deletion is of what stands, and a text is an object's of a type that is served now
pub record IsNext (types : List ServedShape) (m : History) (c : Change) : Type 0 where
  pub next : c.revision ≡ suc m.current
  pub high : c.revision ≤ last_revision
  pub there : c.body ≡ None → fin.contains_key (current_objects m) c.key ≡ true
  pub is_text : IfSome c.body (IsTextAt types c.key c.revision)

-- changes that may come next, one after the other
abbrev pub AreNext : List ServedShape → History → List Change → Type 0
AreNext types m [] = Unit {0}
AreNext types m (c ∷ cs) = IsNext types m c × AreNext types (written m c.key c.body) cs

-- each has the next revision
abbrev pub AreNumbered : ℕ → List Change → Type 0
AreNumbered r [] = Unit {0}
AreNumbered r (c ∷ cs) = (c.revision ≡ suc r) × AreNumbered (suc r) cs

-- changes that may come after what is seen: they have the next revisions, and each deletion is of what stands then
pub record ComeAfter (v : View) (cs : List Change) : Type 0 where
  pub next : AreNumbered v.current cs
  pub there : AreThere (state_in v v.current) cs
