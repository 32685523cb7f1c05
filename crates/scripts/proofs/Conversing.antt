-- The answers to lines, one after another.
use Rattle.std.proofs.Common.{◌≡◌, ◌≢◌, ◌∙◌, ◌+◌, ◌-◌, ◌==◌, arith, drop, take, ℕ, Bool, true, false, refl, sym, ap, ap₂, subst, inl, inr, List, [], ◌∷◌, ◌++◌, length, map, Option, Some, None, append_assoc, append-nil}
use Rattle.std.specs.Prelude.{◌⊎◌, IfSome, is_none}
use Rattle.std.specs.FinMap as fin
use Rattle.std.specs.List.{All, flat_map}
use Rattle.std.specs.Option.{option_to_list}
use Rattle.std.proofs.lemmas.Grind.{flat_map-append}
use Rattle.std.specs.Io.{StopsAt}
use Rattle.std.specs.Io.KnownBytes.{Appends, Consumes, IsAtEnd}
use Rattle.std.proofs.KnownBytes.{Appends-nil, Appends-trans, Consumes-nil, Consumes-trans, Consumes-whole}
use Rattle.std.proofs.Math.Seq.{take-append_seam}
use Rattle.std.proofs.lemmas.List.{length-append, length-map}
use Rattle.std.proofs.lemmas.List.Elements.{All-append, All-cons, All-nil}
use Rattle.indexer.specs.Objects.{Stored, shared_of}
use Rattle.indexer.specs.declared.by_namespace.ByNamespace.{ByNamespace}
use Rattle.summary.specs.Summary.{counts_in}
use Rattle.world_laws.specs.Reports as laws
use Rattle.world_laws.specs.Tasks.{Task}
use Rattle.world_laws.specs.World.{World, WorldEvent}
use Rattle.world.specs.Stepping.{Refusal, Refuses, ShowsStep, added, ended_since, opened_by, refusal_of}
use Rattle.world.specs.Shown.{AllShow, Shows}
use Rattle.world.specs.declared.refusal.Refusal as refusals
use Rattle.world.specs.declared.step.Step.{Step}
use Rattle.world.specs.declared.trace.Report as shown
use Rattle.world.specs.declared.world.World as worlds
use Rattle.scripts.specs.Piped.{Answered, AreLines, Converses, IsAnswered, IsAnsweredPrefix, IsAt, IsCut, IsPiece, IsTurn, Part, ReadsNext, Represents, Turns, TurnsPrefix, ended, event_parts, last_part, last_text, opened, part_text, report_part, report_text, report_words, step_text, written_part}

-- ---- the text of an event

report_emitted : {I : Type 0} (keys : I → Stored → List (List ℕ)) (indexes : List I) (names : List (List ℕ)) (label : List ℕ) (x : shown.Report) (r : laws.Report) → Shows keys indexes names label x r → report_text x ≡ part_text (report_part label r)
report_emitted keys indexes names label x r shows =
    let many : length x.objects.items ≡ length (fin.entries r.now.objects) = sym (length-map x.objects.items shared_of) ∙ ap length shows.objects ∙ length-map (fin.entries r.now.objects) (λ e. e.1) in
    ap (λ (k : ℕ). report_words k x.revision (length x.objects.items) (fin.entries (counts_in x.counts))) shows.event
    ∙ ap (λ (k : ℕ). report_words r.event k (length x.objects.items) (fin.entries (counts_in x.counts))) shows.revision
    ∙ ap (λ (k : ℕ). report_words r.event r.now.revision k (fin.entries (counts_in x.counts))) many
    ∙ ap (λ m. report_words r.event r.now.revision (length (fin.entries r.now.objects)) (fin.entries m)) shows.counts

reports_emitted : {I : Type 0} (keys : I → Stored → List (List ℕ)) (indexes : List I) (names : List (List ℕ)) (label : List ℕ) (xs : List shown.Report) (rs : List laws.Report) → AllShow keys indexes names label xs rs
    → flat_map report_text xs ≡ flat_map part_text (map (report_part label) rs)
reports_emitted keys indexes names label [] [] shows = refl
reports_emitted keys indexes names label [] (r ∷ rs) shows = absurd shows
reports_emitted keys indexes names label (x ∷ xs) [] shows = absurd shows
reports_emitted keys indexes names label (x ∷ xs) (r ∷ rs) (first, rest) =
    ap₂ (λ (a b : List ℕ). a ++ b) (report_emitted keys indexes names label x r first) (reports_emitted keys indexes names label xs rs rest)

last_emitted : (n : ℕ) (r : Option refusals.Refusal) (o : Option Refusal) (why : List ℕ) → Refuses r o → last_text n r why ≡ flat_map part_text (last_part n (is_none o) why ∷ [])
last_emitted n None o why refuses = sym (append-nil _) ∙ ap (λ (x : Option Refusal). flat_map part_text (last_part n (is_none x) why ∷ [])) refuses
last_emitted n (Some r) o why refuses = sym (append-nil _) ∙ ap (λ (x : Option Refusal). flat_map part_text (last_part n (is_none x) why ∷ [])) refuses

pieces : {a b c d e a' b' c' d' e' : List ℕ} → a ≡ a' → b ≡ b' → c ≡ c' → d ≡ d' → e ≡ e' → a ++ (b ++ (c ++ (d ++ e))) ≡ a' ++ (b' ++ (c' ++ (d' ++ e')))
pieces p q r s t = rw (p, q, r, s, t) refl

emitted_apart : (a b c d e : List Part) → flat_map part_text a ++ (flat_map part_text b ++ (flat_map part_text c ++ (flat_map part_text d ++ flat_map part_text e))) ≡ flat_map part_text (a ++ (b ++ (c ++ (d ++ e))))
emitted_apart a b c d e =
    let f : List Part → List ℕ = flat_map part_text in
    sym (flat_map-append part_text a (b ++ (c ++ (d ++ e))) ∙ ap (λ (t : List ℕ). f a ++ t)
    (flat_map-append part_text b (c ++ (d ++ e)) ∙ ap (λ (t : List ℕ). f b ++ t) (flat_map-append part_text c (d ++ e) ∙ ap (λ (t : List ℕ). f c ++ t) (flat_map-append part_text d e))))

pub step_emitted : {I : Type 0} (keys : I → Stored → List (List ℕ)) (indexes : List I) (names : List (List ℕ)) (task : Task) (n : ℕ) (w : World) (e : WorldEvent) (v : World) (x : Step) (why : List ℕ)
    → ShowsStep keys indexes names task n w e v x → step_text n x why ≡ flat_map part_text (event_parts task n w e v why)
step_emitted keys indexes names task n w e v x why shows =
    pieces (ap (λ o. flat_map part_text (map opened (option_to_list o))) shows.opened)
    (ap (λ ws. flat_map part_text (map written_part ws)) shows.written)
    (ap (λ ids. flat_map part_text (map ended ids)) shows.ended)
    (reports_emitted keys indexes names task.settings.label (option_to_list x.report) (laws.reports_after n w v) shows.report)
    (last_emitted n x.refused (refusal_of task w e) why shows.refused)
    ∙ emitted_apart (map opened (option_to_list (opened_by task w e))) (map written_part (added w.hub v.hub)) (map ended (ended_since w.hub v.hub)) (map (report_part task.settings.label) (laws.reports_after n w v))
    (last_part n (is_none (refusal_of task w e)) why ∷ [])

-- ---- one line more

converses_more : (task : Task) (n : ℕ) (w : World) (lines : List (List ℕ)) (parts : List Part) (k : ℕ) (mid : World) (line : List ℕ) (first : List Part) (m : ℕ) (v : World)
    → Converses task n w lines parts k mid → Answered task k mid line first m v → Converses task n w (lines ++ line ∷ []) (parts ++ first) m v
converses_more task n w [] parts k mid line first m v (none, count, same) answered =
    (first, [], m, v, subst (λ (x : World). Answered task n x line first m v) same (subst (λ (j : ℕ). Answered task j mid line first m v) count answered), (refl, refl, refl), ap (λ (ps : List Part). ps ++ first) none ∙ sym (append-nil first))
converses_more task n w (l ∷ ls) parts k mid line first m v (f, r, j, x, a, rest, is) answered =
    (f, r ++ first, j, x, a, converses_more task j x ls r k mid line first m v rest answered, ap (λ (ps : List Part). ps ++ first) is ∙ append_assoc f r first)

lines_more : (received : List ℕ) (lines : List (List ℕ)) (piece line : List ℕ) → AreLines received lines → IsPiece piece line → AreLines (received ++ piece) (lines ++ line ∷ [])
lines_more received [] piece line none is = (piece, [], is, refl, ap (λ (bs : List ℕ). bs ++ piece) none ∙ sym (append-nil piece))
lines_more received (l ∷ ls) piece line (first, rest, cut, more, is) piece_is =
    (first, rest ++ piece, cut, lines_more rest ls piece line more piece_is, ap (λ (bs : List ℕ). bs ++ piece) is ∙ append_assoc first rest piece)

pub none_answered : (task : Task) (w : World) → IsAnswered task w [] [] 0 w
none_answered task w = record { lines = []; parts = []; cut = refl; converses = (refl, refl, refl); emitted = refl }

pub answered_more : (task : Task) (w : World) (received emitted : List ℕ) (n : ℕ) (mid : World) (piece text : List ℕ) (m : ℕ) (v : World) → IsAnswered task w received emitted n mid → IsTurn task n mid piece text m v
    → IsAnswered task w (received ++ piece) (emitted ++ text) m v
answered_more task w received emitted n mid piece text m v before turn = record {
  lines = before.lines ++ turn.line ∷ [];
  parts = before.parts ++ turn.parts;
  cut = lines_more received before.lines piece turn.line before.cut turn.cut;
  converses = converses_more task 0 w before.lines before.parts n mid turn.line turn.parts m v before.converses turn.answered;
  emitted = ap₂ (λ (a b : List ℕ). a ++ b) before.emitted turn.text ∙ sym (flat_map-append part_text before.parts turn.parts);
}

-- ---- a prefix

-- the bytes that were read last have no answer
pub prefix_unheard : (task : Task) (w : World) (received emitted piece : List ℕ) (m : ℕ) (v : World) → IsAnswered task w received emitted m v → IsAnsweredPrefix task w (received ++ piece) emitted
prefix_unheard task w received emitted piece m v answered =
    record { answered = received; unanswered = piece; more = []; count = m; end = v; split = refl; answers = subst (λ (t : List ℕ). IsAnswered task w received t m v) (sym (append-nil emitted)) answered }

-- some of the last answer is missing
pub prefix_within : (task : Task) (w : World) (received emitted some rest : List ℕ) (m : ℕ) (v : World) → IsAnswered task w received (emitted ++ (some ++ rest)) m v → IsAnsweredPrefix task w received (emitted ++ some)
prefix_within task w received emitted some rest m v answered = record {
  answered = received;
  unanswered = [];
  more = rest;
  count = m;
  end = v;
  split = sym (append-nil received);
  answers = subst (λ (t : List ℕ). IsAnswered task w received t m v) (sym (append_assoc emitted some rest)) answered;
}

-- after a turn that failed
pub prefix_turned : (task : Task) (w : World) (received emitted : List ℕ) (n : ℕ) (mid : World) (piece some : List ℕ) → IsAnswered task w received emitted n mid
    → (some ≡ []) ⊎ ((more : List ℕ) × (m : ℕ) × (v : World) × IsTurn task n mid piece (some ++ more) m v) → IsAnsweredPrefix task w (received ++ piece) (emitted ++ some)
prefix_turned task w received emitted n mid piece some before (inl none) =
    subst (λ (t : List ℕ). IsAnsweredPrefix task w (received ++ piece) t) (sym (ap (λ (s : List ℕ). emitted ++ s) none ∙ append-nil emitted)) (prefix_unheard task w received emitted piece n mid before)
prefix_turned task w received emitted n mid piece some before (inr (more, m, v, turn)) =
    prefix_within task w (received ++ piece) emitted some more m v (answered_more task w received emitted n mid piece (some ++ more) m v before turn)

-- ---- a line's bytes

pub empty_line : (line : List ℕ) → (length line == 0) ≡ true → line ≡ []
empty_line [] is = refl
empty_line (b ∷ bs) is = let bad_is : true ≡ false = sym is ∙ grind arith in absurd cc

pub filled_line : (line : List ℕ) → (length line == 0) ≡ false → line ≢ []
filled_line line is none = let wrong : true ≡ false = sym (ap (λ (bs : List ℕ). length bs == 0) none) ∙ is in cc

one_less : (xs : List ℕ) (x : ℕ) → length (xs ++ x ∷ []) - 1 ≡ length xs
one_less xs x = ap (λ (k : ℕ). k - 1) (length-append xs (x ∷ [])) ∙ grind arith

stops_all : (line : List ℕ) → StopsAt (line ++ 10 ∷ []) 10 → All (λ b. b ≢ 10) line
stops_all line stops = subst (All (λ b. b ≢ 10)) (ap (λ (k : ℕ). take k (line ++ 10 ∷ [])) (one_less line 10) ∙ take-append_seam line (10 ∷ [])) stops

stops_but_last : (prefix : List ℕ) (b : ℕ) → b ≢ 10 → StopsAt (prefix ++ b ∷ []) 10 → All (λ x. x ≢ 10) (prefix ++ b ∷ [])
stops_but_last prefix b isnt stops =
    All-append (λ x. x ≢ 10) prefix (b ∷ []) (subst (All (λ x. x ≢ 10)) (ap (λ (k : ℕ). take k (prefix ++ b ∷ [])) (one_less prefix b) ∙ take-append_seam prefix (b ∷ [])) stops) (All-cons (λ x. x ≢ 10) b [] isnt (All-nil (λ x. x ≢ 10)))

pub reads_next : (before after : Option (List ℕ)) (bytes : List ℕ) (o : Option (List ℕ)) → Consumes before after bytes → StopsAt bytes 10 → (bytes ≡ [] → IsAtEnd before) → IsCut bytes o → ReadsNext before after o
reads_next before after bytes None consumes stops end is = (subst (Consumes before after) is consumes, end is)
reads_next before after bytes (Some line) consumes stops end (inl is) =
    (bytes, consumes, (stops_all line (subst (λ (bs : List ℕ). StopsAt bs 10) is stops), inl is))
reads_next before after bytes (Some line) consumes stops end (inr (prefix, b, isnt, is, same)) =
    let whole = stops_but_last prefix b isnt (subst (λ (bs : List ℕ). StopsAt bs 10) is stops) in
    (bytes, consumes, (subst (All (λ x. x ≢ 10)) (sym (same ∙ is)) whole, inr (sym same)))

count_none : (old bytes : List ℕ) (n : ℕ) → old ≡ [] → bytes ≡ [] → length bytes ≡ length old + n → n ≡ 0
count_none old bytes n none empty grows =
    let a : length old ≡ 0 = ap length none in
    let b : length bytes ≡ 0 = ap length empty in
    omega arith

-- the bytes that were read up to a line feed, where none had been kept
pub read_next : (before after : Option (List ℕ)) (old bytes : List ℕ) (n : ℕ) (o : Option (List ℕ)) → old ≡ [] → Consumes before after (drop (length old) bytes) → StopsAt (drop (length old) bytes) 10
    → (n ≡ 0 → IsAtEnd before) → length bytes ≡ length old + n → IsCut bytes o → ReadsNext before after o
read_next before after old bytes n o none consumes stops end grows cut =
    let same : drop (length old) bytes ≡ bytes = ap (λ (xs : List ℕ). drop (length xs) bytes) none in
    reads_next before after bytes o (subst (Consumes before after) same consumes) (subst (λ (bs : List ℕ). StopsAt bs 10) same stops) (λ empty. end (count_none old bytes n none empty grows)) cut

-- ---- all turns

pub one_turn : (start reader after blank writer new : Option (List ℕ)) (task : Task) (w : World) (x y : worlds.World ByNamespace) (n m : ℕ) (b : IsAt start reader blank writer task w x n)
    → Turns reader after writer new task n b.2 y (Some m) → IsAt start after blank new task w y m
one_turn start reader after blank writer new task w x y n m (received, emitted, mid, consumes, appends, answered, represents) (piece, text, v, more, put, turn, goes) = (
  received ++ piece,
  emitted ++ text,
  v,
  Consumes-trans start reader after received piece consumes more,
  Appends-trans blank writer new emitted text appends put,
  answered_more task w received emitted n mid piece text m v answered turn,
  goes,
)

pub last_turn : (start reader after blank writer new : Option (List ℕ)) (task : Task) (w : World) (x y : worlds.World ByNamespace) (n : ℕ) (b : IsAt start reader blank writer task w x n) → Turns reader after writer new task n b.2 y None
    → (received : List ℕ) × (emitted : List ℕ) × (m : ℕ) × (v : World) × Consumes start after received × IfSome start (λ bytes. received ≡ bytes) × Appends blank new emitted × IsAnswered task w received emitted m v
last_turn start reader after blank writer new task w x y n (received, emitted, mid, consumes, appends, answered, represents) (none, end, silent) = (
  received,
  emitted,
  n,
  mid,
  subst (Consumes start after) (append-nil received) (Consumes-trans start reader after received [] consumes none),
  Consumes-whole start reader received (λ bytes. received ≡ bytes) consumes end refl,
  subst (Appends blank new) (append-nil emitted) (Appends-trans blank writer new emitted [] appends silent),
  answered,
)

pub failed_turn : (start reader after blank writer new : Option (List ℕ)) (task : Task) (w : World) (x : worlds.World ByNamespace) (n : ℕ) (b : IsAt start reader blank writer task w x n) → TurnsPrefix reader after writer new task n b.2
    → (received : List ℕ) × (emitted : List ℕ) × Consumes start after received × Appends blank new emitted × IsAnsweredPrefix task w received emitted
failed_turn start reader after blank writer new task w x n (received, emitted, mid, consumes, appends, answered, represents) (piece, some, more, put, prefix) = (
  received ++ piece,
  emitted ++ some,
  Consumes-trans start reader after received piece consumes more,
  Appends-trans blank writer new emitted some appends put,
  prefix_turned task w received emitted n mid piece some answered prefix,
)

pub no_turn : (start reader blank writer : Option (List ℕ)) (task : Task) (w : World) (x : worlds.World ByNamespace) (n : ℕ) → IsAt start reader blank writer task w x n
    → (received : List ℕ) × (emitted : List ℕ) × Consumes start reader received × Appends blank writer emitted × IsAnsweredPrefix task w received emitted
no_turn start reader blank writer task w x n (received, emitted, mid, consumes, appends, answered, represents) = (
  received,
  emitted,
  consumes,
  appends,
  subst (λ (bytes : List ℕ). IsAnsweredPrefix task w bytes emitted) (append-nil received) (prefix_unheard task w received emitted [] n mid answered),
)

pub first_turn : (start blank : Option (List ℕ)) (task : Task) (w : World) (x : worlds.World ByNamespace) → Represents x task w → IsAt start start blank blank task w x 0
first_turn start blank task w x represents = ([], [], w, Consumes-nil start, Appends-nil blank, none_answered task w, represents)

-- ---- one turn

-- the line that was cut is the one that was answered, and the text that was put is the answer's
pub turn_made : (x : worlds.World ByNamespace) (task : Task) (n : ℕ) (w : World) (received line seen text put : List ℕ) (m : ℕ) → IsPiece received line → seen ≡ line → put ≡ text
    → (given : (parts : List Part) × (v : World) × Answered task n w seen parts m v × Represents x task v × (text ≡ flat_map part_text parts)) → IsTurn task n w received put m given.1
turn_made x task n w received line seen text put m cut is same (parts, v, answered, represents, emitted) =
    record { line = line; parts = parts; cut = cut; answered = subst (λ (l : List ℕ). Answered task n w l parts m v) is answered; text = same ∙ emitted }

pub turned : (before after old new : Option (List ℕ)) (x : worlds.World ByNamespace) (task : Task) (n : ℕ) (w : World) (line seen text put : List ℕ) (m : ℕ) → ReadsNext before after (Some line) → Appends old new put → seen ≡ line → put ≡ text
    → (parts : List Part) × (v : World) × Answered task n w seen parts m v × Represents x task v × (text ≡ flat_map part_text parts) → Turns before after old new task n w x (Some m)
turned before after old new x task n w line seen text put m (received, consumes, cut) appends is same given =
    (received, put, given.1, consumes, appends, turn_made x task n w received line seen text put m cut is same given, given.3)

pub turned_prefix : (before after old new : Option (List ℕ)) (x : worlds.World ByNamespace) (task : Task) (n : ℕ) (w : World) (line seen text put : List ℕ) (m : ℕ) → ReadsNext before after (Some line)
    → (emitted : List ℕ) × (rest : List ℕ) × (put ≡ emitted ++ rest) × Appends old new emitted → seen ≡ line → put ≡ text
    → (parts : List Part) × (v : World) × Answered task n w seen parts m v × Represents x task v × (text ≡ flat_map part_text parts) → TurnsPrefix before after old new task n w
turned_prefix before after old new x task n w line seen text put m (received, consumes, cut) (emitted, rest, apart, appends) is same given =
    (received, emitted, consumes, appends, inr (rest, m, given.1, turn_made x task n w received line seen text (emitted ++ rest) m cut is (sym apart ∙ same) given))

-- a line that was read has no answer yet
pub unturned : (before after old : Option (List ℕ)) (task : Task) (n : ℕ) (w : World) (line : List ℕ) → ReadsNext before after (Some line) → TurnsPrefix before after old old task n w
unturned before after old task n w line (received, consumes, cut) = (received, [], consumes, Appends-nil old, inl refl)
