-- What the crate's values represent.
use Rattle.std.specs.Prelude.{◌≡◌, map, Some, None, if◌then◌else◌, option_map, string_bytes}
use Rattle.std.specs.declared.result.Result.{Result}
use Rattle.std.specs.declared.result.Result.TheVariants.{Ok, Err}
use Rattle.history.specs.Seen.{SeenPage, last_key}
use Rattle.history.specs.Read.{entry_of}
use Rattle.lists.specs.declared.collection.Collection.{Collection as TheCollection}
use Rattle.lists.specs.declared.page.Page.{Page as ThePage}
use Rattle.lists.specs.declared.refusal.Refusal.{Refusal}
use Rattle.lists.specs.declared.fault.ListFault.{ListFault}
use Rattle.lists.specs.declared.fault.ListFault.TheVariants as fault
use Rattle.lists.specs.declared.rows.Start.{Start as TheStart}
use Rattle.lists.specs.declared.rows.Start.TheVariants as start
use Rattle.lists.specs.Body.{Collection}
use Rattle.lists.specs.Rows.{Start}
use Rattle.lists.specs.declared.revision.WantedRevision.{WantedRevision as TheWantedRevision}
use Rattle.lists.specs.declared.revision.WantedRevision.TheVariants as wanted
use Rattle.lists.specs.Revision.{WantedRevision, not_older_than, exactly}

abbrev pub collection_of : TheCollection → Collection
collection_of c = record { kind = c.kind; namespace = option_map (λ s. s.now) c.namespace; api_version = c.api_version.now; item_kind = c.item_kind.now }

abbrev pub wanted_seen : TheWantedRevision → WantedRevision
wanted_seen (wanted.NotOlderThan v) = not_older_than v
wanted_seen (wanted.Exactly v) = exactly v

abbrev pub start_of : TheStart → Start
start_of start.First = None
start_of (start.After namespace name) = Some (string_bytes namespace, string_bytes name)

abbrev pub page_seen : ThePage → SeenPage
page_seen p = record { found = map entry_of p.found.items; next = if p.has_more then last_key (map entry_of p.found.items) else None }

-- what was answered, seen by view, is the definition's answer, unless memory ran out or the store failed
abbrev pub FailsWith : {B : Type 0} → ListFault → Result B Refusal → Type 0
FailsWith (fault.Refused r) answer = answer ≡ Err r
FailsWith (fault.Failed f) answer = Unit {0}

abbrev pub Returns : {A B : Type 0} → (A → B) → Result A ListFault → Result B Refusal → Type 0
Returns view (Ok x) answer = answer ≡ Ok (view x)
Returns view (Err e) answer = FailsWith e answer
