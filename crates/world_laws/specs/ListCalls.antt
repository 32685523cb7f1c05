-- The calls by which the client of a task asks for its list, page by page (Kubernetes API Concepts, "Retrieving large results sets in chunks"),
-- and what it reads of an answer.
use Rattle.std.specs.Prelude.{◌≡◌, ℕ, if◌then◌else◌, List, Option, Some, None}
use Rattle.std.specs.List.{last_or}
use Rattle.std.specs.Str.{is_utf8}
use Rattle.std.specs.declared.result.Result.TheVariants.{Ok, Err}
use Rattle.history.specs.Seen.{SeenPage}
use Rattle.indexer.specs.Objects.{Stored}
use Rattle.params.specs.Values.{Token, Values, no_values}
use Rattle.decoder.specs.Pages.{page_in}
use Rattle.decoder.specs.Wanted.{Wanted}
use Rattle.decoder.specs.declared.malformed.Malformed.TheVariants.{Json}
use Rattle.line_laws.specs.Listed.{AreReadAs, page_with}
use Rattle.api_types.specs.TypesFile.{ServedShape}
use Rattle.api_request.specs.Calls.{Call}
use Rattle.wire_laws.specs.Listings.{IsListing}
use Rattle.world_laws.specs.Tasks.{Task}

-- so many objects as the task's pages have, of those that its selector selects; from the beginning, or behind a token
abbrev pub page_values : Task → Option Token → Values
page_values task token = record no_values { limit = task.settings.page; selector = task.requirements; token = token }

-- it lists the objects of the task's type, in its namespace or in all, and asks for such a page of them
abbrev pub IsListCall : List ServedShape → Task → Option Token → Call → Type 0
IsListCall types task token call = IsListing types call task.t task.settings.kind task.settings.namespace (page_values task token)

-- it asks for the next page of the list at the revision, after the last of these objects
abbrev pub IsNextCall : List ServedShape → Task → ℕ → List Stored → Call → Type 0
IsNextCall types task revision paged_list call =
    (o : Stored) × (last_or None paged_list ≡ Some o) × IsListCall types task (Some (record { revision = revision; namespace = o.namespace; name = o.name })) call

-- a client reads the body as exactly this page of the revision where it is UTF-8, and as no JSON where it isn't
abbrev pub IsReadAsPageIfUtf8 : Wanted → List ℕ → ℕ → SeenPage → Type 0
IsReadAsPageIfUtf8 wanted body revision page =
    (objects : List Stored) × (page_in wanted body ≡ (if is_utf8 body then Ok (page_with revision page.next objects) else Err Json)) × AreReadAs wanted page.found objects
