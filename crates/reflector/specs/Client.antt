-- What a client keeps of one type's objects (Kubernetes API Concepts, "Efficient detection of changes").
use Rattle.std.specs.Prelude.{ℕ, Bool, false, if◌then◌else◌, List, [], ◌∷◌, ◌++◌, map, Option, Some, None}
use Rattle.std.specs.List.{flat_map}
use Rattle.std.specs.Str.{bytes_eq}
use Rattle.std.specs.FinMap as fin
use Rattle.indexer.specs.Objects.{Place, place_cmp, Stored}

-- objects by namespace and name, in that order
abbrev pub Objects : Type 0
Objects = fin.FinMap place_cmp Stored

abbrev pub place_in : Stored → Place
place_in o = (o.namespace, o.name)

abbrev pub by_place : List Stored → List (Place × Stored)
by_place os = map (λ o. (place_in o, o)) os

-- this project's own limit
abbrev pub max_objects : ℕ
max_objects = 4294967295

-- what happened to an object
pub data Notice : Type 0 where
  added : Stored → Notice
  updated : (old new : Stored) → Notice
  deleted : Stored → Notice

-- the objects, as they are at a revision
pub record Cache : Type 0 where
  pub revision : ℕ
  pub objects : Objects

-- what is asked for next, or now
pub data SyncPhase : Type 0 where
  -- the first page of a list
  first : SyncPhase
  -- the page of this list, of this revision, where the token goes on behind the objects that are set aside
  next : (revision : ℕ) → (token : List ℕ) → (paged_list : List Stored) → SyncPhase
  -- a watch from the cache's revision
  streaming : SyncPhase

-- the revision of the list in whose middle it is
abbrev pub list_revision : SyncPhase → Option ℕ
list_revision first = None
list_revision (next revision token paged_list) = Some revision
list_revision streaming = None

-- is_awaiting_reply: a request is under way. The notices are those that weren't taken yet
pub record Client : Type 0 where
  pub cache : Option Cache
  pub sync : SyncPhase
  pub is_awaiting_reply : Bool
  pub notices : List Notice

-- nothing is kept, and nothing asked yet
abbrev pub fresh : Client
fresh = record { cache = None; sync = first; is_awaiting_reply = false; notices = [] }

abbrev pub kept : Option Cache → Objects
kept None = fin.empty
kept (Some now) = now.objects

-- ---- notices

-- of one place: what stood there, and what stands there
abbrev pub notice_of : Option Stored → Option Stored → List Notice
notice_of None None = []
notice_of None (Some new) = added new ∷ []
notice_of (Some old) None = deleted old ∷ []
notice_of (Some old) (Some new) = if bytes_eq old.text new.text then [] else updated old new ∷ []

-- the places of either, in order
abbrev pub places_of : Objects → Objects → List Place
places_of before after = fin.keys (fin.from_entries {R = place_cmp} (fin.entries before ++ fin.entries after))

-- one for each place whose text differs, in the order of places
abbrev pub differences : Objects → Objects → List Notice
differences before after = flat_map (λ p. notice_of (fin.get before p) (fin.get after p)) (places_of before after)
