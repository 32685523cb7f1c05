-- What is printed of a run.
use Rattle.std.specs.Prelude.{◌≡◌, ℕ, Bool, not, List, [], ◌∷◌, ◌++◌, length, map, String, codes}
use Rattle.std.specs.BTreeMap.{BTreeMap}
use Rattle.std.specs.FinMap as fin
use Rattle.std.specs.Fmt.{decimal}
use Rattle.std.specs.List.{filter, flat_map, list_any}
use Rattle.std.specs.Ordering.{eq_by_cmp, nat_cmp}
use Rattle.std.specs.declared.alloc.Global.{Global}
use Rattle.serde_json.specs.Data.{object}
use Rattle.serde_json.specs.Written.{compact_text}
use Rattle.summary.specs.Apply.{count_members}
use Rattle.summary.specs.Summary.{counts_in}
use Rattle.wireclient.specs.Reads as reads
use Rattle.wireclient.specs.Reply as reply
use Rattle.world.specs.Views.{reply_seen}
use Rattle.world.specs.declared.trace.Report.{Report}
use Rattle.world.specs.declared.trace.Trace.{Trace}

-- ---- the text of each part

-- of a reply's head the status and a blank, the body, and at its end a line feed
abbrev pub words_of : reply.ReplyItem → List ℕ
words_of (reply.head status) = decimal status ++ 32 ∷ []
words_of (reply.whole body) = body
words_of reply.end = 10 ∷ []
words_of (reply.line text) = []
words_of reply.malformed = []

-- the text tells the reply that these bytes are, as a client reads it
abbrev pub WritesReply : List ℕ → List ℕ → Type 0
WritesReply bytes text = (items : List reply.ReplyItem) × reads.Items bytes items × (text ≡ flat_map words_of items)

-- a connection's id, how many bytes were written on it, and these
abbrev pub connection_text : ℕ → List ℕ → List ℕ
connection_text id bytes = codes "connection " ++ (decimal id ++ (32 ∷ (decimal (length bytes) ++ (10 ∷ (bytes ++ 10 ∷ [])))))

-- as compact JSON
abbrev pub counts_text : BTreeMap (String Global) ℕ → List ℕ
counts_text counts = compact_text (object (count_members (fin.entries (counts_in counts))))

-- a report's event, its revision, how many objects there were, and their counts
abbrev pub report_text : Report → List ℕ
report_text r = codes "report " ++ (decimal r.event ++ (32 ∷ (decimal r.revision ++ (32 ∷ (decimal (length r.objects.items) ++ (32 ∷ (counts_text r.counts ++ 10 ∷ [])))))))

-- ---- the parts of a run

-- a reply to a request, another connection with what was written on it, a report
pub data Part : Type 0 where
  replied : List ℕ → Part
  connected : ℕ → List ℕ → Part
  reported : Report → Part

abbrev pub WritesPart : Part → List ℕ → Type 0
WritesPart (replied bytes) text = WritesReply bytes text
WritesPart (connected id bytes) text = text ≡ connection_text id bytes
WritesPart (reported r) text = text ≡ report_text r

-- whether a connection is one of these
abbrev pub is_one_of : List ℕ → ℕ → Bool
is_one_of ids id = list_any (eq_by_cmp nat_cmp id) ids

-- of connections, what was written on those that were opened for these requests, and on the others
abbrev pub replies_in : List ℕ → List (ℕ × List ℕ) → List Part
replies_in requested written = map (λ e. replied e.1) (filter (λ e. is_one_of requested e.0) written)

abbrev pub connections_in : List ℕ → List (ℕ × List ℕ) → List Part
connections_in requested written = map (λ e. connected e.0 e.1) (filter (λ e. not (is_one_of requested e.0)) written)

-- the replies to the requests, then the other connections, both by their ids, which rise, and then the reports
abbrev pub parts_of : Trace → List Part
parts_of t = replies_in t.requested.items (map reply_seen t.written.items) ++ (connections_in t.requested.items (map reply_seen t.written.items) ++ map reported t.reports.items)

-- ---- the whole

-- the text tells these parts in turn
abbrev pub Prints : List Part → List ℕ → Type 0
Prints [] text = text ≡ []
Prints (p ∷ ps) text = (first : List ℕ) × (rest : List ℕ) × WritesPart p first × Prints ps rest × (text ≡ first ++ rest)

-- the text is a prefix of what tells the first of these parts
abbrev pub PrintsPrefix : List Part → List ℕ → Type 0
PrintsPrefix parts text = (first : List Part) × (rest : List Part) × (whole : List ℕ) × (more : List ℕ) × (parts ≡ first ++ rest) × Prints first whole × (whole ≡ text ++ more)
