-- The values of parameters.
use Rattle.std.specs.Prelude.{ℕ, Bool, false, List, [], Option, None}
use Rattle.selector.specs.Requirement.{Requirement}
use Rattle.params.specs.declared.params.VersionMatch.{VersionMatch}

-- where a list goes on: the revision that it is of, and the last object that was listed
pub record Token : Type 0 where
  pub revision : ℕ
  pub namespace : List ℕ
  pub name : List ℕ

-- whether a watch tells bookmarks, and after how many seconds it ends, 0 for never
pub record Watch : Type 0 where
  pub has_bookmarks : Bool
  pub timeout : ℕ

-- what a call's parameters say; a list without limit has 0, a call without manager an empty one
pub record Values : Type 0 where
  pub manager : List ℕ
  pub is_forced : Bool
  pub version : Option ℕ
  pub version_match : Option VersionMatch
  pub limit : ℕ
  pub token : Option Token
  pub selector : List Requirement
  pub watch : Option Watch

-- what a query without parameters says
abbrev pub no_values : Values
no_values = record { manager = []; is_forced = false; version = None; version_match = None; limit = 0; token = None; selector = []; watch = None }
