-- What is printed where a script is read line by line: the answer to each line, which is what the line's event added to what the run shows.
use Rattle.std.specs.Prelude.{◌≡◌, ◌≢◌, ◌⊎◌, ℕ, suc, Bool, true, false, List, [], ◌∷◌, ◌++◌, length, map, Option, Some, None, Result, Ok, Err, ⊤, IsUtf8, codes, if◌then◌else◌, is_none}
use Rattle.std.specs.FinMap as fin
use Rattle.std.specs.Fmt.{decimal}
use Rattle.std.specs.Io.KnownBytes.{Appends, Consumes, IsAtEnd}
use Rattle.std.specs.List.{All, flat_map}
use Rattle.std.specs.Option.{option_to_list}
use Rattle.std.specs.Ordering.{eq_by_cmp, nat_cmp}
use Rattle.std.specs.Str.{is_utf8}
use Rattle.hex.specs.Hex.{encode_lower}
use Rattle.serde_json.specs.Data.{object, string}
use Rattle.serde_json.specs.Written.{compact_text}
use Rattle.httpedge.specs.Connections.{written_on}
use Rattle.indexer.specs.Namespaces.{namespace_keys}
use Rattle.indexer.specs.Objects.{Stored}
use Rattle.indexer.specs.declared.by_namespace.ByNamespace.{ByNamespace}
use Rattle.reflector.specs.Client.{kept}
use Rattle.api_types.specs.TypesFile.{ServedShape}
use Rattle.summary.specs.Apply.{count_members}
use Rattle.summary.specs.Counts.{counts_of}
use Rattle.summary.specs.Summary.{counts_in}
use Rattle.world_laws.specs.Moves.{next_move}
use Rattle.world_laws.specs.Reports as laws
use Rattle.world_laws.specs.Tasks.{IsTask, RunSettings, Task}
use Rattle.world_laws.specs.World.{Steps, World, WorldEvent}
use Rattle.world.specs.Starting.{start_at}
use Rattle.world.specs.Views.{reply_seen}
use Rattle.world.specs.Represents.{WorldRepresents}
use Rattle.world.specs.Stepping.{added, ended_since, opened_by, refusal_of}
use Rattle.world.specs.declared.refusal.Refusal as refusals
use Rattle.world.specs.declared.step.Step.{Step}
use Rattle.world.specs.declared.trace.Report as shown
use Rattle.world.specs.declared.world.World as worlds
use Rattle.scripts.specs.Asking.{Question, asks_next, asks_objects, asked_on}
use Rattle.scripts.specs.AskedTexts.{move_text, object_text}
use Rattle.scripts.specs.Script.{IsEventLine}
use Rattle.programs.specs.declared.run_fault.RunFault.TheVariants as run
use Rattle.scripts.specs.declared.program_fault.ProgramFault.{ProgramFault}
use Rattle.scripts.specs.declared.program_fault.ProgramFault.TheVariants as fault

-- ---- the text of each part

-- as a JSON string
abbrev pub quoted : List ℕ → List ℕ
quoted text = compact_text (string text)

-- {"<name>":<number>}
abbrev pub number_text : List ℕ → ℕ → List ℕ
number_text name n = codes "{\"" ++ (name ++ (codes "\":" ++ (decimal n ++ codes "}\n")))

-- {"out":[<id>,<text>]}
abbrev pub out_text : ℕ → List ℕ → List ℕ
out_text id text = codes "{\"out\":[" ++ (decimal id ++ (44 ∷ (quoted text ++ codes "]}\n")))

-- {"bytes":[<id>,<digits>]}
abbrev pub bytes_text : ℕ → List ℕ → List ℕ
bytes_text id bytes = codes "{\"bytes\":[" ++ (decimal id ++ (codes ",\"" ++ (encode_lower bytes ++ codes "\"]}\n")))

-- a text as it is, and other bytes as digits
abbrev pub written_text : ℕ → List ℕ → List ℕ
written_text id bytes = if is_utf8 bytes then out_text id bytes else bytes_text id bytes

-- what the client reports: the event, the revision, how many objects there are, and how many of them have each value of the label
abbrev pub report_words : ℕ → ℕ → ℕ → List (List ℕ × ℕ) → List ℕ
report_words event revision objects counts =
    codes "{\"report\":{\"event\":" ++ (decimal event ++ (codes ",\"revision\":" ++ (decimal revision ++ (codes ",\"objects\":" ++ (decimal objects ++ (codes ",\"counts\":" ++ (compact_text (object (count_members counts)) ++ codes "}}\n")))))))

-- {"done":<number>,"refused":<why>}
abbrev pub refused_text : ℕ → List ℕ → List ℕ
refused_text n why = codes "{\"done\":" ++ (decimal n ++ (codes ",\"refused\":" ++ (quoted why ++ codes "}\n")))

-- {"done":<number>,"bad":<why>}
abbrev pub bad_text : ℕ → List ℕ → List ℕ
bad_text n why = codes "{\"done\":" ++ (decimal n ++ (codes ",\"bad\":" ++ (quoted why ++ codes "}\n")))

-- ---- the parts of an answer

-- a connection that opened; what was written on one; one that ended; a report; a move and an object, of which a line asks; and the end of the
-- answer: the event is done, is refused, or the line is no event's
pub data Part : Type 0 where
  opened : ℕ → Part
  written : ℕ → List ℕ → Part
  ended : ℕ → Part
  reported : ℕ → ℕ → ℕ → List (List ℕ × ℕ) → Part
  moves : WorldEvent → Part
  holds : Stored → Part
  done : ℕ → Part
  refused : ℕ → List ℕ → Part
  bad : ℕ → List ℕ → Part

-- the line of each part
abbrev pub part_text : Part → List ℕ
part_text (opened id) = number_text (codes "opened") id
part_text (written id bytes) = written_text id bytes
part_text (ended id) = number_text (codes "ended") id
part_text (reported event revision objects counts) = report_words event revision objects counts
part_text (moves e) = move_text e
part_text (holds o) = object_text o.text
part_text (done n) = number_text (codes "done") n
part_text (refused n why) = refused_text n why
part_text (bad n why) = bad_text n why

-- an id, and what was written on its connection
abbrev pub written_part : ℕ × List ℕ → Part
written_part e = written e.0 e.1

-- of a report its number, the revision, how many objects there are, and their counts by the label
abbrev pub report_part : List ℕ → laws.Report → Part
report_part label r = reported r.event r.now.revision (length (fin.entries r.now.objects)) (fin.entries (counts_of label r.now.objects))

-- the end of the answer to an event: whether it happened, and if not, why
abbrev pub last_part : ℕ → Bool → List ℕ → Part
last_part n true why = done n
last_part n false why = refused n why

-- the event of this number, which led from one world to another; why is what is told of it if it is refused
abbrev pub event_parts : Task → ℕ → World → WorldEvent → World → List ℕ → List Part
event_parts task n w e v why =
    map opened (option_to_list (opened_by task w e))
    ++ (map written_part (added w.hub v.hub) ++ (map ended (ended_since w.hub v.hub) ++ (map (report_part task.settings.label) (laws.reports_after n w v) ++ last_part n (is_none (refusal_of task w e)) why ∷ [])))

-- to what is asked behind n events
abbrev pub asked_parts : Question → ℕ → World → List Part
asked_parts asks_next n w = map moves (option_to_list (next_move w)) ++ done n ∷ []
asked_parts asks_objects n w = map holds (map (λ e. e.1) (fin.entries (kept w.client.cache))) ++ done n ∷ []

-- to a line of no event; why is what is told of it if it asks nothing
abbrev pub other_by : Option Question → ℕ → World → List ℕ → List Part
other_by (Some question) n w why = asked_parts question n w
other_by None n w why = bad n why ∷ []

abbrev pub other_parts : ℕ → World → List ℕ → List ℕ → List Part
other_parts n w line why = other_by (asked_on line) n w why

-- ---- the answer to a line

-- the line is a text of no event, or no text
abbrev pub IsBad : List ℕ → Type 0
IsBad line = IsUtf8 line → (e : WorldEvent) → IsEventLine line e → ⊥

-- an empty line has no answer
pub record Ignores (n : ℕ) (w : World) (line : List ℕ) (parts : List Part) (m : ℕ) (v : World) : Type 0 where
  pub empty : line ≡ []
  pub silent : parts ≡ []
  pub count : m ≡ n
  pub same : v ≡ w

-- a line that is no event's and asks nothing changes nothing
pub record Rejects (n : ℕ) (w : World) (line : List ℕ) (parts : List Part) (m : ℕ) (v : World) : Type 0 where
  pub filled : line ≢ []
  pub is_bad : IsBad line
  pub unasked : asked_on line ≡ None
  pub why : List ℕ
  pub emitted : parts ≡ bad n why ∷ []
  pub count : m ≡ n
  pub same : v ≡ w

-- nor does one that asks
pub record Asks (n : ℕ) (w : World) (line : List ℕ) (parts : List Part) (m : ℕ) (v : World) : Type 0 where
  pub filled : line ≢ []
  pub is_bad : IsBad line
  pub question : Question
  pub asked : asked_on line ≡ Some question
  pub emitted : parts ≡ asked_parts question n w
  pub count : m ≡ n
  pub same : v ≡ w

-- an event's line leads on, and has the next number
pub record Takes (task : Task) (n : ℕ) (w : World) (line : List ℕ) (parts : List Part) (m : ℕ) (v : World) : Type 0 where
  pub event : WorldEvent
  pub says : IsEventLine line event
  pub steps : Steps task w event v
  pub why : List ℕ
  pub emitted : parts ≡ event_parts task (suc n) w event v why
  pub count : m ≡ suc n

-- the answer to a line before which there were n events: its parts, how many events there are then, and where they led
abbrev pub Answered : Task → ℕ → World → List ℕ → List Part → ℕ → World → Type 0
Answered task n w line parts m v = Ignores n w line parts m v ⊎ (Rejects n w line parts m v ⊎ (Asks n w line parts m v ⊎ Takes task n w line parts m v))

-- ---- all lines

-- the answers to these lines in turn
abbrev pub Converses : Task → ℕ → World → List (List ℕ) → List Part → ℕ → World → Type 0
Converses task n w [] parts m v = (parts ≡ []) × (m ≡ n) × (v ≡ w)
Converses task n w (line ∷ lines) parts m v =
    (first : List Part) × (rest : List Part) × (k : ℕ) × (mid : World) × Answered task n w line first k mid × Converses task k mid lines rest m v × (parts ≡ first ++ rest)

-- the bytes of a line, which end with a line feed, or where the reader had no more
abbrev pub IsPiece : List ℕ → List ℕ → Type 0
IsPiece bytes line = All (λ b. b ≢ 10) line × ((bytes ≡ line ++ 10 ∷ []) ⊎ (bytes ≡ line))

-- the bytes are those of these lines
abbrev pub AreLines : List ℕ → List (List ℕ) → Type 0
AreLines bytes [] = bytes ≡ []
AreLines bytes (line ∷ lines) = (piece : List ℕ) × (rest : List ℕ) × IsPiece piece line × AreLines rest lines × (bytes ≡ piece ++ rest)

-- these bytes are lines, the text is the answers to them, and this is how many events there were and where they led
pub record IsAnswered (task : Task) (w : World) (received text : List ℕ) (m : ℕ) (v : World) : Type 0 where
  pub lines : List (List ℕ)
  pub parts : List Part
  pub cut : AreLines received lines
  pub converses : Converses task 0 w lines parts m v
  pub emitted : text ≡ flat_map part_text parts

-- the first of these bytes are lines, and the text is a prefix of the answers to them
pub record IsAnsweredPrefix (task : Task) (w : World) (received text : List ℕ) : Type 0 where
  pub answered : List ℕ
  pub unanswered : List ℕ
  pub more : List ℕ
  pub count : ℕ
  pub end : World
  pub split : received ≡ answered ++ unanswered
  pub answers : IsAnswered task w answered (text ++ more) count end

-- the lines are answered from the start of a run at this revision with these settings
abbrev pub PipesAsked : List ServedShape → Option RunSettings → ℕ → List ℕ → List ℕ → Type 0
PipesAsked types asked revision received text =
    (settings : RunSettings) × (task : Task) × (m : ℕ) × (v : World) × (asked ≡ Some settings) × IsTask types task × (task.settings ≡ settings) × IsAnswered task (start_at revision types) received text m v

-- nothing is read or written, or a prefix of that
abbrev pub PipesPrefixAsked : List ServedShape → Option RunSettings → ℕ → List ℕ → List ℕ → Type 0
PipesPrefixAsked types asked revision received text =
    ((received ≡ []) × (text ≡ [])) ⊎ ((settings : RunSettings) × (task : Task) × (asked ≡ Some settings) × IsTask types task × (task.settings ≡ settings) × IsAnsweredPrefix task (start_at revision types) received text)

-- ---- the run of the events

-- those of the lines that are an event's: these events, in order
abbrev pub HaveEvents : List (List ℕ) → List WorldEvent → Type 0
HaveEvents [] events = events ≡ []
HaveEvents (line ∷ lines) events =
    (((line ≡ []) ⊎ IsBad line) × HaveEvents lines events) ⊎ ((e : WorldEvent) × (others : List WorldEvent) × IsEventLine line e × HaveEvents lines others × (events ≡ e ∷ others))

-- what a part says that was written on a connection
abbrev pub printed_on : ℕ → Part → List ℕ
printed_on id (written k bytes) = if eq_by_cmp nat_cmp id k then bytes else []
printed_on id (opened k) = []
printed_on id (ended k) = []
printed_on id (reported event revision objects counts) = []
printed_on id (moves e) = []
printed_on id (holds o) = []
printed_on id (done n) = []
printed_on id (refused n why) = []
printed_on id (bad n why) = []

-- the lines' events lead from one world to another, and what the parts say of each connection, joined, was written on it in between
abbrev pub Joins : Task → ℕ → World → List (List ℕ) → List Part → World → Type 0
Joins task n w lines parts v =
    (events : List WorldEvent) × (reports : List laws.Report) × HaveEvents lines events × laws.Runs task (suc n) w events v reports
    × ((id : ℕ) → written_on v.hub.connections id ≡ written_on w.hub.connections id ++ flat_map (printed_on id) parts)

-- ---- as the code has it

-- the code's world stands for this one
abbrev pub Represents : worlds.World ByNamespace → Task → World → Type 0
Represents x task w = WorldRepresents namespace_keys task (kept w.client.cache) x w

-- of the code's report
abbrev pub report_text : shown.Report → List ℕ
report_text r = report_words r.event r.revision (length r.objects.items) (fin.entries (counts_in r.counts))

-- the same, of the code's refusal
abbrev pub last_text : ℕ → Option refusals.Refusal → List ℕ → List ℕ
last_text n None why = number_text (codes "done") n
last_text n (Some r) why = refused_text n why

-- of a step of the code
abbrev pub step_text : ℕ → Step → List ℕ → List ℕ
step_text n x why =
    flat_map part_text (map opened (option_to_list x.opened))
    ++ (flat_map part_text (map written_part (map reply_seen x.written.items)) ++ (flat_map part_text (map ended x.ended.items) ++ (flat_map report_text (option_to_list x.report) ++ last_text n x.refused why)))

-- what is left of a line's bytes without their line feed; nothing where there are none
abbrev pub IsCut : List ℕ → Option (List ℕ) → Type 0
IsCut bytes None = bytes ≡ []
IsCut bytes (Some line) = (bytes ≡ line ++ 10 ∷ []) ⊎ ((prefix : List ℕ) × (b : ℕ) × (b ≢ 10) × (bytes ≡ prefix ++ b ∷ []) × (line ≡ bytes))

-- the next line of a reader, and the bytes that it took; none where it has no more
abbrev pub ReadsNext : Option (List ℕ) → Option (List ℕ) → Option (List ℕ) → Type 0
ReadsNext before after None = Consumes before after [] × IsAtEnd before
ReadsNext before after (Some line) = (piece : List ℕ) × Consumes before after piece × IsPiece piece line

-- what ends the answers before the reader's end: memory or the store, the input or the output
abbrev pub IsOfPlay : ProgramFault → Type 0
IsOfPlay (fault.Run run.Memory) = ⊤
IsOfPlay (fault.Run run.Store) = ⊤
IsOfPlay (fault.Run (run.Output e)) = ⊤
IsOfPlay (fault.Input e) = ⊤
IsOfPlay fault.Link = ⊤
IsOfPlay _ = ⊥

-- a play ends so, or by one of these faults
abbrev pub EndsPlaying : {A : Type 0} → Result A ProgramFault → Type 0
EndsPlaying (Ok x) = ⊤
EndsPlaying (Err e) = IsOfPlay e

-- the answer to one line, which these bytes are
pub record IsTurn (task : Task) (n : ℕ) (w : World) (received emitted : List ℕ) (m : ℕ) (v : World) : Type 0 where
  pub line : List ℕ
  pub parts : List Part
  pub cut : IsPiece received line
  pub answered : Answered task n w line parts m v
  pub text : emitted ≡ flat_map part_text parts

-- a reader's next line was answered to a writer, or the reader had no more
abbrev pub Turns : Option (List ℕ) → Option (List ℕ) → Option (List ℕ) → Option (List ℕ) → Task → ℕ → World → worlds.World ByNamespace → Option ℕ → Type 0
Turns before after old new task n w x None = Consumes before after [] × IsAtEnd before × Appends old new []
Turns before after old new task n w x (Some m) =
    (received : List ℕ) × (emitted : List ℕ) × (v : World) × Consumes before after received × Appends old new emitted × IsTurn task n w received emitted m v × Represents x task v

-- nothing of the answer was written, or a prefix
abbrev pub TurnsPrefix : Option (List ℕ) → Option (List ℕ) → Option (List ℕ) → Option (List ℕ) → Task → ℕ → World → Type 0
TurnsPrefix before after old new task n w =
    (received : List ℕ) × (emitted : List ℕ) × Consumes before after received × Appends old new emitted
    × ((emitted ≡ []) ⊎ ((more : List ℕ) × (m : ℕ) × (v : World) × IsTurn task n w received (emitted ++ more) m v))

-- what holds after some turns: what was read and written so far, and where that led
abbrev pub IsAt : Option (List ℕ) → Option (List ℕ) → Option (List ℕ) → Option (List ℕ) → Task → World → worlds.World ByNamespace → ℕ → Type 0
IsAt start reader blank writer task w x n =
    (received : List ℕ) × (emitted : List ℕ) × (v : World) × Consumes start reader received × Appends blank writer emitted × IsAnswered task w received emitted n v × Represents x task v
