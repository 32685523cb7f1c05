-- What a client reports over a run of events, and when that is right.
use Rattle.std.specs.Prelude.{◌≡◌, ℕ, suc, ◌≤◌, nat_lt, if◌then◌else◌, List, [], ◌∷◌, ◌++◌, Option, Some, None, ⊤}
use Rattle.std.specs.FinMap as fin
use Rattle.history.specs.History.{History}
use Rattle.history.specs.History as history
use Rattle.line_laws.specs.Listed.{AreReadAs}
use Rattle.indexer.specs.Objects.{Stored}
use Rattle.decoder.specs.Wanted.{Wanted}
use Rattle.reflector.specs.Client.{Cache, Objects, by_place}
use Rattle.world_laws.specs.Tasks.{Task, selected_at, wanted_by}
use Rattle.world_laws.specs.World.{Steps, World, WorldEvent}

-- after the event of this number: the machine as it was then, and the client's revision and objects
pub record Report : Type 0 where
  pub event : ℕ
  pub machine : History
  pub now : Cache

-- ---- when there is one

-- where the revision is the first, or has risen
abbrev pub reports_between : ℕ → History → Option Cache → Option Cache → List Report
reports_between event machine before None = []
reports_between event machine None (Some now) = record { event = event; machine = machine; now = now } ∷ []
reports_between event machine (Some was) (Some now) = if nat_lt was.revision now.revision then record { event = event; machine = machine; now = now } ∷ [] else []

-- after an event that led from one world to another
abbrev pub reports_after : ℕ → World → World → List Report
reports_after event w v = reports_between event v.hub.machine w.client.cache v.client.cache

-- events in turn, numbered from i on, lead from one world to another, with these reports
abbrev pub Runs : Task → ℕ → World → List WorldEvent → World → List Report → Type 0
Runs task i w [] v reports = (v ≡ w) × (reports ≡ [])
Runs task i w (e ∷ es) v reports = (mid : World) × (others : List Report) × Steps task w e mid × Runs task (suc i) mid es v others × (reports ≡ reports_after i w mid ++ others)

-- they lead to this world with these reports, and to no other and with no others
pub record IsOnlyRun (task : Task) (i : ℕ) (w : World) (es : List WorldEvent) (v : World) (reports : List Report) : Type 0 where
  pub runs : Runs task i w es v reports
  pub only : (u : World) (others : List Report) → Runs task i w es u others → (u ≡ v) × (others ≡ reports)

-- ---- when it is right

-- the client's objects are the server's, one for one and in their order: each of the same namespace, name and revision, with the same text
pub record IsStateAt (wanted : Wanted) (s : history.Objects) (o : Objects) : Type 0 where
  pub all : List Stored
  pub entries : fin.entries o ≡ by_place all
  pub read : AreReadAs wanted (fin.entries s) all

-- its revision is one that the machine has had, and not below lo; its objects are the machine's of that revision
pub record IsRight (task : Task) (lo : ℕ) (machine : History) (now : Cache) : Type 0 where
  pub low : lo ≤ now.revision
  pub high : now.revision ≤ machine.current
  pub objects : IsStateAt (wanted_by task) (selected_at task machine now.revision) now.objects

-- each of them is right, and of no lower revision than any before it
abbrev pub AreRight : Task → ℕ → List Report → Type 0
AreRight task lo [] = ⊤
AreRight task lo (r ∷ rs) = IsRight task lo r.machine r.now × AreRight task r.now.revision rs

-- what the client keeps, if it keeps anything, is right
abbrev pub IsKeptRight : Task → ℕ → History → Option Cache → Type 0
IsKeptRight task lo machine None = ⊤
IsKeptRight task lo machine (Some now) = IsRight task lo machine now

-- the revision of the last report, or lo where there is none
abbrev pub last_reported : ℕ → List Report → ℕ
last_reported lo [] = lo
last_reported lo (r ∷ rs) = last_reported r.now.revision rs
