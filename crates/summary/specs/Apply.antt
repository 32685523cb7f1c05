-- The apply by which a summary is written (Kubernetes documentation, "Server-Side Apply").
use Rattle.std.specs.Prelude.{ℕ, List, [], ◌∷◌, ◌++◌, Some, codes}
use Rattle.std.specs.FinMap as fin
use Rattle.serde_json.specs.Data.{Data, object, string, number, unsigned, Members, member, no_members}
use Rattle.serde_json.specs.Written.{compact_text}
use Rattle.wireclient.specs.Request.{request}
use Rattle.summary.specs.Counts.{Summed}

-- one member for each value
abbrev pub count_members : List (List ℕ × ℕ) → Members
count_members [] = no_members
count_members (e ∷ es) = member e.0 (number (unsigned e.1)) (count_members es)

abbrev pub spec_of : Summed → Data
spec_of s = object (member (codes "counts") (object (count_members (fin.entries s.counts))) (member (codes "label") (string s.label) (member (codes "total") (number (unsigned s.total)) no_members)))

abbrev pub metadata_of : List ℕ → List ℕ → Data
metadata_of namespace name = object (member (codes "name") (string name) (member (codes "namespace") (string namespace) no_members))

-- the object that is applied
abbrev pub summary_of : Summed → List ℕ → List ℕ → Data
summary_of s namespace name =
    object (member (codes "apiVersion") (string (codes "summary.example/v1")) (member (codes "kind") (string (codes "LabelSummary")) (member (codes "metadata") (metadata_of namespace name) (member (codes "spec") (spec_of s) no_members))))

-- by the manager label-summary, which takes over what others own
abbrev pub target_of : List ℕ → List ℕ → List ℕ
target_of namespace name = codes "/apis/summary.example/v1/namespaces/" ++ (namespace ++ (codes "/labelsummaries/" ++ (name ++ codes "?fieldManager=label-summary&force=true")))

-- the bytes that apply it
abbrev pub apply_request : Summed → List ℕ → List ℕ → List ℕ
apply_request s namespace name = request (codes "PATCH") (target_of namespace name) (Some (codes "application/apply-patch+yaml", compact_text (summary_of s namespace name)))
