-- The Status object that reports a failure (Kubernetes API conventions, "Response Status Kind").
use Rattle.std.specs.Prelude.{ℕ, List, codes}
use Rattle.serde_json.specs.Data.{Data, number, unsigned, string, object, Members, no_members, put}

-- by its code, its reason and its message
abbrev pub status_members : ℕ → List ℕ → List ℕ → Members
status_members code reason message =
    put (codes "apiVersion") (string (codes "v1")) (put (codes "code") (number (unsigned code)) (put (codes "kind") (string (codes "Status"))
    (put (codes "message") (string message) (put (codes "metadata") (object no_members) (put (codes "reason") (string reason)
    (put (codes "status") (string (codes "Failure")) no_members))))))

abbrev pub status_value : ℕ → List ℕ → List ℕ → Data
status_value code reason message = object (status_members code reason message)
