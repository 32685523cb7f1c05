-- The request that an apply makes (Kubernetes docs, "Server-Side Apply"): a PATCH of its target.
use Rattle.std.specs.Prelude.{◌≡◌, ◌≤◌, ℕ, Bool, true, false, List, [], ◌∷◌, ◌++◌, Some, codes}
use Rattle.form_urlencoded.specs.Form.{append_pair}
use Rattle.serde_json.specs.Data.{Data, depth}
use Rattle.serde_json.specs.Read.{max_depth, read}
use Rattle.serde_json.specs.Written.{compact_text, has_float}
use Rattle.api_request.specs.Admit.{apply_type}
use Rattle.wireclient.specs.Request.{request}

-- a body applied to an object, whose path is the target, by a manager
pub record Apply : Type 0 where
  pub body : Data
  pub force : Bool
  pub manager : List ℕ
  pub target : List ℕ

-- the query names the manager and, where the apply takes over what others own, says so
abbrev pub with_force : Bool → List ℕ → List ℕ
with_force true query = append_pair query (codes "force") (codes "true")
with_force false query = query

abbrev pub query_of : Apply → List ℕ
query_of a = with_force a.force (append_pair [] (codes "fieldManager") a.manager)

-- the path, a question mark and the query
abbrev pub request_target_of : Apply → List ℕ
request_target_of a = a.target ++ (63 ∷ query_of a)

-- the text is JSON of the value: its compact text where no number has a point or an exponent, and it reads back as the value
pub record IsBodyText (d : Data) (text : List ℕ) : Type 0 where
  pub compact : has_float d ≡ false → text ≡ compact_text d
  pub reads_back : depth d ≤ max_depth → read text ≡ Some d

-- these bytes are the request of the apply
abbrev pub IsRequestOf : Apply → List ℕ → Type 0
IsRequestOf a bytes = (text : List ℕ) × IsBodyText a.body text × (bytes ≡ request (codes "PATCH") (request_target_of a) (Some (apply_type, text)))
