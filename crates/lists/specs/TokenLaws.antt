-- The token that a list goes on by, and what a client asks for the next page with it (Kubernetes documentation, "Kubernetes API
-- Concepts", "Retrieving large results sets in chunks").
use Rattle.std.specs.Prelude.{◌≡◌, ℕ, ◌<◌, ◌≤◌, true, List, [], ◌∷◌, codes, decimal, IsUtf8}
use Rattle.std.specs.List.{All}
use Rattle.std.specs.FinMap as fin
use Rattle.names.specs.Names.{is_dns_label, is_dns_subdomain}
use Rattle.history.specs.History.{Key, Object, Objects, last_revision}
use Rattle.history.specs.Seen.{selected}
use Rattle.selector.specs.Requirement.{Requirement}
use Rattle.params.specs.Query.{Pairs}
use Rattle.params.specs.Values.{Token}
use Rattle.lists.specs.Body.{Collection}
use Rattle.lists.specs.Labels.{selection_of}

-- what the token of a page says: the page's revision and its last object
abbrev pub token_after : ℕ → Key → Token
token_after revision k = record { revision = revision; namespace = k.namespace; name = k.name }

-- a revision that a store can have, and a namespace and a name that an object may have
pub record CanBeListed (revision : ℕ) (k : Key) : Type 0 where
  pub high : revision ≤ last_revision
  pub namespace : is_dns_label k.namespace ≡ true
  pub name : is_dns_subdomain k.name ≡ true

-- ---- queries

-- the bytes of a text
abbrev pub IsText : List ℕ → Type 0
IsText bytes = IsUtf8 bytes × All (λ b. b < 256) bytes

abbrev pub IsTextPair : List ℕ × List ℕ → Type 0
IsTextPair pair = IsText pair.0 × IsText pair.1

-- the empty selector selects all, and isn't sent
abbrev pub labels_pair : List ℕ → Pairs
labels_pair [] = []
labels_pair (b ∷ bs) = (codes "labelSelector", b ∷ bs) ∷ []

-- what a client asks for the page after a token: so many objects, of this selector
abbrev pub next_pairs : ℕ → List ℕ → List ℕ → Pairs
next_pairs limit token labels = (codes "limit", decimal limit) ∷ (codes "continue", token) ∷ labels_pair labels

-- ---- pages

-- the whole list: all objects of the collection that meet the requirements, in the order of keys
abbrev pub whole_list : Collection → List Requirement → Objects → List (Key × Object)
whole_list of requirements s = fin.entries (selected (selection_of of.kind of.namespace requirements) s)
