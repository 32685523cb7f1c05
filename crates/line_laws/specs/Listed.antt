-- The objects of a list, and what a client takes from its body (Kubernetes API Concepts, "Retrieving large results sets in chunks").
use Rattle.std.specs.Prelude.{◌≡◌, ℕ, true, List, [], ◌∷◌, Option, Some, option_map, ⊤}
use Rattle.std.specs.FinMap as fin
use Rattle.std.specs.List.{AllByRecursion}
use Rattle.std.specs.declared.result.Result.TheVariants.{Ok}
use Rattle.schema.specs.ObjectShape.{IsObjectShape}
use Rattle.schema.specs.Shape.{Shape}
use Rattle.objects.specs.State.{State}
use Rattle.objects.specs.SystemMetadata.{System, stamped}
use Rattle.objects.specs.ObjectText.{Identity}
use Rattle.objects.specs.ReadBack.{IsObjectText}
use Rattle.history.specs.History.{Key, Object, Objects}
use Rattle.history.specs.Seen.{SeenPage}
use Rattle.indexer.specs.Objects.{Stored}
use Rattle.lists.specs.Body.{Collection, continued_at}
use Rattle.decoder.specs.OwnTexts.{object_in}
use Rattle.decoder.specs.Pages.{Page, page_in}
use Rattle.decoder.specs.Wanted.{Wanted, api_version_of, is_in}

-- the collection is what a client asks for: of the type, and in the namespace or in all
pub record IsWanted (wanted : Wanted) (of : Collection) : Type 0 where
  pub of_version : of.api_version ≡ api_version_of wanted
  pub of_kind : of.item_kind ≡ wanted.kind
  pub of_namespace : of.namespace ≡ wanted.namespace
  pub has_kind : wanted.kind ≡ [] → ⊥

-- ---- what stands

-- what an object of the collection is of, and its key
abbrev pub identity_of : Collection → Key → Identity
identity_of of k = record { api_version = of.api_version; kind = of.item_kind; namespace = k.namespace; name = k.name }

-- what stands under the key is the text of the object of that key at its version, and neither part of the key is empty
pub record IsKept (of : Collection) (k : Key) (o : Object) : Type 0 where
  pub shape : Shape
  pub shaped : IsObjectShape shape
  pub system : Option System
  pub state : State
  pub says : IsObjectText shape (identity_of of k) (stamped o.revision system) state o.body
  pub has_namespace : k.namespace ≡ [] → ⊥
  pub has_name : k.name ≡ [] → ⊥

-- so does each object of the collection's type
abbrev pub AreKept : Collection → Objects → Type 0
AreKept of s = (k : Key) (o : Object) → k.kind ≡ of.kind → fin.get s k ≡ Some o → IsKept of k o

-- so do these, each in the namespace that is asked for
abbrev pub AreWanted : Wanted → Collection → List (Key × Object) → Type 0
AreWanted wanted of = AllByRecursion (λ e. IsKept of e.0 e.1 × (is_in wanted.namespace e.0.namespace ≡ true))

-- ---- what is read

-- the object that is read from the text that stands under the key: of that key, at its version, with that text
pub record IsReadAs (wanted : Wanted) (k : Key) (o : Object) (x : Stored) : Type 0 where
  pub of_namespace : x.namespace ≡ k.namespace
  pub of_name : x.name ≡ k.name
  pub of_revision : x.revision ≡ o.revision
  pub text_is : x.text ≡ o.body
  pub is_read : object_in wanted o.body ≡ Ok x

-- one for one, in order
abbrev pub AreReadAs : Wanted → List (Key × Object) → List Stored → Type 0
AreReadAs wanted [] [] = ⊤
AreReadAs wanted [] (x ∷ xs) = ⊥
AreReadAs wanted (e ∷ es) [] = ⊥
AreReadAs wanted (e ∷ es) (x ∷ xs) = IsReadAs wanted e.0 e.1 x × AreReadAs wanted es xs

-- the list's revision, the token by which it goes on after the key, if there is one, and these objects
abbrev pub page_with : ℕ → Option Key → List Stored → Page
page_with revision next objects = record { revision = revision; token = option_map (continued_at revision) next; objects = objects }

-- a client reads the body as exactly this page of the revision
abbrev pub IsReadAsPage : Wanted → List ℕ → ℕ → SeenPage → Type 0
IsReadAsPage wanted text revision page =
    (objects : List Stored) × (page_in wanted text ≡ Ok (page_with revision page.next objects)) × AreReadAs wanted page.found objects
