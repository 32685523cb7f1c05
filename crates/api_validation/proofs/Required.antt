-- A field that has to be in order, alone and after another; a text as it is seen.
use Rattle.std.proofs.Common.{◌≡◌, ℕ, Bool, List, Result, Ok, String, Global, string_bytes, rules, sym, ap, subst, ◌∙◌}
use Rattle.serde_json.specs.Data.{string}
use Rattle.serde_json.specs.View.{view}
use Rattle.serde_json.specs.declared.value.Value as values
use Rattle.serde_json.specs.declared.value.Value.{the_lemmas}
use Rattle.api_request.specs.declared.call_error.CallError.{CallError}
use Rattle.api_request.specs.Validated.{Validated, and_then, require_at}
use Rattle.api_request.specs.Views.{Returns}

-- by an equal test
pub required_by : (r : Result (Unit {0}) CallError) (a b : Bool) (path what : List ℕ) → a ≡ b → Returns (λ u. u) r (require_at a path what) → Returns (λ u. u) r (require_at b path what)
required_by r a b path what is h = subst (λ (x : Bool). Returns (λ u. u) r (require_at x path what)) is h

-- after a field that is
pub required_then : (r : Result (Unit {0}) CallError) (a b : Bool) (path what : List ℕ) (u : Unit {0}) (j : Validated (Unit {0})) → a ≡ b → require_at a path what ≡ Ok u → Returns (λ u. u) r j
    → Returns (λ u. u) r (and_then (require_at b path what) (λ v. j))
required_then r a b path what u j is passed h =
    subst (λ (x : Validated (Unit {0})). Returns (λ u. u) r (and_then x (λ v. j))) (sym (ap (λ (x : Bool). require_at x path what) (sym is) ∙ passed)) h

pub view-String : (s : String Global) → view (values.String s) ≡ string (string_bytes s)
view-String s = search (rules, the_lemmas)
