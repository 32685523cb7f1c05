-- What a label selector asks of an object's labels (Kubernetes documentation, "Labels and Selectors",
-- "Equality-based requirement" and "Set-based requirement").
use Rattle.std.specs.Prelude.{ℕ, Bool, true, false, not, List, Option, Some, None}
use Rattle.std.specs.List.{list_any, list_all}
use Rattle.std.specs.Str.{bytes_eq}
use Rattle.selector.specs.Labels.{Labels, value_at}

-- what is asked of the value at a key
pub data Condition : Type 0 where
  equals : List ℕ → Condition
  differs : List ℕ → Condition
  among : List (List ℕ) → Condition
  outside : List (List ℕ) → Condition
  exists : Condition
  absent : Condition

pub record Requirement : Type 0 where
  pub key : List ℕ
  pub condition : Condition

-- whether a value, or there being none, meets the condition
abbrev pub meets : Condition → Option (List ℕ) → Bool
meets (equals v) None = false
meets (equals v) (Some w) = bytes_eq w v
meets (differs v) None = true
meets (differs v) (Some w) = not (bytes_eq w v)
meets (among vs) None = false
meets (among vs) (Some w) = list_any (λ v. bytes_eq v w) vs
meets (outside vs) None = true
meets (outside vs) (Some w) = not (list_any (λ v. bytes_eq v w) vs)
meets exists None = false
meets exists (Some w) = true
meets absent None = true
meets absent (Some w) = false

-- all requirements are met
abbrev pub selects : List Requirement → Labels → Bool
selects requirements labels = list_all (λ r. meets r.condition (value_at r.key labels)) requirements
