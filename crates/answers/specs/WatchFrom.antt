-- What a watch begins from (Kubernetes docs, "Kubernetes API Concepts", "Semantics for watch").
use Rattle.std.specs.Prelude.{ℕ, Bool, List, Option}
use Rattle.selector.specs.Requirement.{Requirement}
use Rattle.answers.specs.declared.watch_from.InitialEvents.{InitialEvents}

-- the seconds after which it ends are 0 for never
pub record WatchFrom : Type 0 where
  pub kind : ℕ
  pub namespace : Option (List ℕ)
  pub requirements : List Requirement
  pub position : ℕ
  pub initial : InitialEvents
  pub bookmarks : Bool
  pub timeout : ℕ
