-- The list that a call asks for: the objects that are seen at a revision, page by page (Kubernetes docs, "Kubernetes API Concepts",
-- "Retrieving large results sets in chunks").
use Rattle.std.specs.Prelude.{ℕ, ◌==◌, if◌then◌else◌, min, List, Option, Some, None, option_map}
use Rattle.std.specs.declared.result.Result.{Result}
use Rattle.std.specs.declared.result.Result.TheVariants.{Ok, Err}
use Rattle.history.specs.History.{Key, Objects}
use Rattle.history.specs.Seen.{SeenPage, seen_page}
use Rattle.params.specs.Values.{Token, Values}
use Rattle.lists.specs.declared.refusal.Refusal.{Refusal}
use Rattle.lists.specs.Labels.{selection_of}
use Rattle.lists.specs.Revision.{revision_of}
use Rattle.lists.specs.Body.{Collection, list_text}

-- how many items a page has at most: without a limit the list is whole
abbrev pub max_page : ℕ
max_page = 500

abbrev pub page_limit : ℕ → Option ℕ
page_limit limit = if limit == 0 then None else Some (min limit max_page)

-- a list that goes on does so after the last object that was listed
abbrev pub key_after : ℕ → Token → Key
key_after kind token = record { kind = kind; namespace = token.namespace; name = token.name }

-- the page that is asked for, of these objects
abbrev pub page_of : Collection → Values → Objects → SeenPage
page_of of values s = seen_page (selection_of of.kind of.namespace values.selector) (option_map (key_after of.kind) values.token) (page_limit values.limit) s

-- its text, where the list is of a revision
abbrev pub text_at : Collection → Values → (ℕ → Objects) → Result ℕ Refusal → Result (List ℕ) Refusal
text_at of values at (Ok revision) = Ok (list_text of revision (page_of of values (at revision)))
text_at of values at (Err refusal) = Err refusal

-- by the current and the compacted number, and the objects at each revision
abbrev pub list_of : Collection → Values → ℕ → ℕ → (ℕ → Objects) → Result (List ℕ) Refusal
list_of of values current compacted at = text_at of values at (revision_of current compacted values)
