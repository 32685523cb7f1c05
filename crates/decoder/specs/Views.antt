-- What the crate's values say, and what its calls return beside what is to be read.
use Rattle.std.specs.Prelude.{◌≡◌, ℕ, List, Option, String, map, option_map, option_and_then, string_bytes, codes, ⊤}
use Rattle.std.specs.declared.alloc.Global.{Global}
use Rattle.std.specs.declared.result.Result.{Result}
use Rattle.std.specs.declared.result.Result.TheVariants.{Ok, Err}
use Rattle.serde_json.specs.Data.{Data, Members, Items}
use Rattle.serde_json.specs.Find.{as_array}
use Rattle.indexer.specs.Objects.{shared_of, stored_of}
use Rattle.decoder.specs.declared.malformed.Malformed.{Malformed}
use Rattle.decoder.specs.declared.malformed.Malformed.TheVariants as malformed
use Rattle.decoder.specs.declared.fault.DecodeFault.{DecodeFault}
use Rattle.decoder.specs.declared.fault.DecodeFault.TheVariants as fault
use Rattle.decoder.specs.declared.wanted.Source as sources
use Rattle.decoder.specs.declared.wanted.Wanted as asked
use Rattle.decoder.specs.declared.page.Page as pages
use Rattle.decoder.specs.declared.line.Line as lines
use Rattle.decoder.specs.declared.line.Line.TheVariants as line
use Rattle.decoder.specs.Wanted.{Wanted}
use Rattle.decoder.specs.Members.{Read, or_malformed, at, text_at}
use Rattle.decoder.specs.Pages.{Page}
use Rattle.decoder.specs.Lines.{Line, put, deleted, bookmark, error}

-- the objects of a type, in a namespace or in all
abbrev pub wanted_from : sources.Source → Option (String Global) → Wanted
wanted_from s namespace = record { group = string_bytes s.group; version = string_bytes s.version; kind = string_bytes s.kind; plural = string_bytes s.plural; namespace = option_map string_bytes namespace }

abbrev pub wanted_of : asked.Wanted → Wanted
wanted_of w = wanted_from w.source w.namespace

abbrev pub page_seen : pages.Page → Page
page_seen p = record { revision = p.revision; token = option_map string_bytes p.token; objects = map shared_of p.objects.items }

abbrev pub line_seen : lines.Line → Line
line_seen (line.Put o) = put (shared_of o)
line_seen (line.Deleted o) = deleted (stored_of o)
line_seen (line.Bookmark r) = bookmark r
line_seen line.Error = error

-- what a call that takes no memory returned is what is read, or its error
abbrev pub Says : {X Y : Type 0} → (X → Y) → Result X Malformed → Read Y → Type 0
Says view (Ok x) read = read ≡ Ok (view x)
Says view (Err m) read = read ≡ Err m

-- the same of one that takes memory, or there was none
abbrev pub Returns : {X Y : Type 0} → (X → Y) → Result X DecodeFault → Read Y → Type 0
Returns view (Ok x) read = read ≡ Ok (view x)
Returns view (Err (fault.Malformed m)) read = read ≡ Err m
Returns view (Err fault.Memory) read = ⊤

-- ---- for private clauses: parts of the definitions

abbrev pub name_in : Members → Read (List ℕ)
name_in metadata = or_malformed malformed.Name (text_at (codes "name") metadata)

abbrev pub items_in : Members → Read Items
items_in top = or_malformed malformed.Items (option_and_then as_array (at (codes "items") top))

abbrev pub type_in : Members → Read (List ℕ)
type_in top = or_malformed malformed.LineType (text_at (codes "type") top)

abbrev pub object_value_in : Members → Read Data
object_value_in top = or_malformed malformed.Object (at (codes "object") top)
