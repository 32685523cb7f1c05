-- Each report of a run is a state of the history at its end.
use Rattle.std.proofs.Common.{◌≡◌, ◌∙◌, ◌<◌, ◌≤◌, ◌+◌, ℕ, zero, suc, T, Bool, true, false, cond, ◌||◌, not, List, [], ◌∷◌, ◌++◌, length, map, Option, Some, None, refl, sym, ap, ap₂, subst, arith, string_bytes, Less, is_lt, true≢false, lt-ltb, length-append, append_assoc}
use Rattle.std.specs.Prelude.{is_ok, is_some, nat_lt, slice_get}
use Rattle.std.specs.FinMap as fin
use Rattle.std.specs.FinMap.Entries.{below_all, find, is_sorted}
use Rattle.std.specs.List.{All, AllByRecursion, list_any, position, prefix_len, slice_index_or, zip}
use Rattle.std.specs.List.Sorted.{IsNonDecreasing, IsStrictlySortedBy}
use Rattle.std.specs.Str.{bytes_eq}
use Rattle.std.proofs.Math.Seq.{get_or-append_seam}
use Rattle.std.proofs.lemmas.Bool.{and_parts}
use Rattle.std.proofs.lemmas.List.{length-map, map-append}
use Rattle.std.proofs.lemmas.List.Elements.{All-cons, All-head, All-nil, All-tail}
use Rattle.std.proofs.lemmas.List.Folds.{list_any-append}
use Rattle.api_types.specs.TypesFile.{ServedShape}
use Rattle.history.specs.History.{History}
use Rattle.indexer.specs.Indexer.{is_under_number}
use Rattle.indexer.specs.Names.{are_distinct}
use Rattle.indexer.specs.Objects.{Place, Shared, Stored, place_cmp, place_of, shared_of}
use Rattle.line_laws.specs.Listed.{AreReadAs}
use Rattle.reflector.specs.Client.{Objects, by_place, place_in}
use Rattle.reflector.specs.Faults.{is_namespace_or_all, is_page_size}
use Rattle.reflector.specs.MirrorViews.{keyed}
use Rattle.reflector.specs.MirrorRepresentsViews.{keys_in}
use Rattle.reflector.proofs.Places.{place_total}
use Rattle.selector.specs.Grammar.{parse_selector}
use Rattle.summary.specs.Counts.{counts_of}
use Rattle.world_laws.specs.Headline.{AreOfHistory}
use Rattle.world_laws.specs.Reports as reported
use Rattle.world_laws.specs.Reports.{IsRight}
use Rattle.world_laws.specs.Tasks.{IsTask, RunSettings, Task, or_fault, selected_at, settings_fault, wanted_by}
use Rattle.world_laws.specs.World.{World, WorldEvent, start}
use Rattle.world.specs.Shots.{ShowsIndex}
use Rattle.world.specs.Shown.{AllShow, Shows, Traces}
use Rattle.world.specs.Traces.{IsStateOf, IsTraceOf, index_of, moment_in, moment_of, objects_in, shot_seen}
use Rattle.world.specs.declared.trace.IndexShot.{IndexShot}
use Rattle.world.specs.declared.trace.Report.{Report}
use Rattle.world.specs.declared.trace.Trace.{Trace}
use Rattle.world.proofs.Indexed.{entries_are, first_holds, less, neither, place_same, same_text, second_holds, text_itself, under_at}

-- ---- an index by its name

prefix_is : (prefix rest : List (List ℕ)) (n : List ℕ) → list_any (λ m. bytes_eq m n) prefix ≡ false → prefix_len (λ m. not (bytes_eq m n)) (prefix ++ n ∷ rest) ≡ length prefix
prefix_is [] rest n apart = ap (λ (b : Bool). cond (not b) (1 + prefix_len (λ m. not (bytes_eq m n)) rest) 0) (text_itself n)
prefix_is (m ∷ prefix) rest n apart =
    let parts = neither (bytes_eq m n) (list_any (λ m. bytes_eq m n) prefix) apart in
    let others : prefix_len (λ m. not (bytes_eq m n)) (prefix ++ n ∷ rest) ≡ length prefix = prefix_is prefix rest n parts.1 in
    ap (λ (b : Bool). cond (not b) (1 + prefix_len (λ m. not (bytes_eq m n)) (prefix ++ n ∷ rest)) 0) parts.0 ∙ omega (arith, others)

-- the number of a name that none before it is
number_is : (prefix rest : List (List ℕ)) (n : List ℕ) → list_any (λ m. bytes_eq m n) prefix ≡ false → position (λ m. bytes_eq m n) (prefix ++ n ∷ rest) ≡ Some (length prefix)
number_is prefix rest n apart =
    let many = length-append prefix (n ∷ rest) in
    let within : length prefix < length (prefix ++ n ∷ rest) = omega (arith, many) in
    ap (λ i. cond (nat_lt i (length (prefix ++ n ∷ rest))) (Some i) None) (prefix_is prefix rest n apart)
    ∙ ap (λ (b : Bool). cond b (Some (length prefix)) None) (lt-ltb (length prefix) (length (prefix ++ n ∷ rest)) within)

other_way : (a b : List ℕ) → bytes_eq a b ≡ false → bytes_eq b a ≡ false
other_way a b isnt = go (bytes_eq b a) refl
  where
    go : (t : Bool) → bytes_eq b a ≡ t → t ≡ false
    go true is = absurd (true≢false (sym (subst (λ x. bytes_eq x b ≡ true) (same_text b a is) (text_itself b)) ∙ isnt))
    go false is = refl

-- none of the names is one of these
abbrev AreApart : List (List ℕ) → List (List ℕ) → Type 0
AreApart prefix = AllByRecursion (λ n. list_any (λ m. bytes_eq m n) prefix ≡ false)

all_apart : (names : List (List ℕ)) → AreApart [] names
all_apart [] = tt
all_apart (n ∷ names) = (refl, all_apart names)

apart_next : (prefix : List (List ℕ)) (name : List ℕ) (names : List (List ℕ)) → AreApart prefix names → list_any (λ n. bytes_eq n name) names ≡ false → AreApart (prefix ++ name ∷ []) names
apart_next prefix name [] all none = tt
apart_next prefix name (n ∷ names) all none =
    let parts = neither (bytes_eq n name) (list_any (λ m. bytes_eq m name) names) none in (
      list_any-append (λ m. bytes_eq m n) prefix (name ∷ []) ∙ ap₂ (λ (a b : Bool). a || (b || false)) all.0 (other_way n name parts.0),
      apart_next prefix name names all.1 parts.1,
    )

isnt : (b : Bool) → not b ≡ true → b ≡ false
isnt true is = absurd (true≢false (sym is))
isnt false is = refl

-- ---- places of objects in order

below_places : (p : Place) (os : List Stored) → T (below_all place_cmp p (by_place os)) → AllByRecursion (λ q. place_cmp p q ≡ Less) (map place_in os)
below_places p [] low = tt
below_places p (o ∷ os) low = (less (place_cmp p (place_in o)) (first_holds (is_lt (place_cmp p (place_in o))) _ low), below_places p os (second_holds (is_lt (place_cmp p (place_in o))) _ low))

ascend : (os : List Stored) → T (is_sorted place_cmp (by_place os)) → IsStrictlySortedBy place_cmp (map place_in os)
unfolding IsStrictlySortedBy
ascend [] low = tt
ascend (o ∷ os) low = (below_places (place_in o) os (first_holds (below_all place_cmp (place_in o) (by_place os)) _ low), ascend os (second_holds (below_all place_cmp (place_in o) (by_place os)) _ low))

-- ---- the indexes of a report

module _ {I : Type 0} (keys : I → Stored → List (List ℕ)) (all : List I) (titles : List (List ℕ)) (o : Objects) (xs : List Shared) (are : fin.entries o ≡ by_place (map shared_of xs)) where
  -- the entries of the index by a function
  abbrev entries_by : I → List (List ℕ × List Place)
  entries_by b = fin.entries (index_of (keys b) (map shared_of xs))

  keys_at : (old new : List I) (b : I) (i : ℕ) → all ≡ old ++ b ∷ new → i ≡ length old → (s : Stored) → slice_index_or (keys_in keys all s) i [] ≡ keys b s
  keys_at old new b i listed same s =
      ap₂ (λ bs n. slice_index_or (map (λ c. keys c s) bs) n []) listed (same ∙ sym (length-map old (λ c. keys c s)))
      ∙ ap (λ ts. slice_index_or ts (length (map (λ c. keys c s) old)) []) (map-append (λ c. keys c s) old (b ∷ new))
      ∙ get_or-append_seam (map (λ c. keys c s) old) (keys b s) (map (λ c. keys c s) new) []

  one_copy : (s : IndexShot) (before after : List (List ℕ)) (old new : List I) (b : I) → titles ≡ before ++ string_bytes s.name ∷ after → all ≡ old ++ b ∷ new → length before ≡ length old → list_any (λ m. bytes_eq m (string_bytes s.name)) before ≡ false
      → ShowsIndex (keyed (keys_in keys all) o) titles s → shot_seen s ≡ (string_bytes s.name, entries_by b)
  one_copy s before after old new b named listed same apart shows =
      let number : position (λ n. bytes_eq n (string_bytes s.name)) titles ≡ Some (length before) = ap (position (λ n. bytes_eq n (string_bytes s.name))) named ∙ number_is before after (string_bytes s.name) apart in
      ap (λ es. (string_bytes s.name, es))
      (entries_are (keys b) s.keys.items xs shows.ascending shows.filled (ascend (map shared_of xs) (subst (λ es. T (is_sorted place_cmp es)) are (fin.entries_sorted o))) (λ q key.
      shows.members q key ∙ ap (λ n. is_under_number (keyed (keys_in keys all) o) n q (place_of key)) number
      ∙ under_at (keys b) q (keys_in keys all) (length before) (keys_at old new b (length before) listed same) o (map shared_of xs) are (place_of key)))

  all_copies : (before names : List (List ℕ)) (old new : List I) (ss : List IndexShot) → titles ≡ before ++ names → all ≡ old ++ new → length before ≡ length old → length names ≡ length new → are_distinct names ≡ true → AreApart before names
      → map (λ s. string_bytes s.name) ss ≡ names → All (ShowsIndex (keyed (keys_in keys all) o) titles) ss → map shot_seen ss ≡ zip names (map entries_by new)
  all_copies before [] old new [] titled listed same long distinct apart named shows = refl
  all_copies before [] old new (s ∷ ss) titled listed same long distinct apart named shows = absurd cc
  all_copies before (n ∷ names) old [] ss titled listed same long distinct apart named shows = absurd (omega (arith, long))
  all_copies before (n ∷ names) old (b ∷ new) [] titled listed same long distinct apart named shows = absurd cc
  all_copies before (n ∷ names) old (b ∷ new) (s ∷ ss) titled listed same long distinct apart named shows =
      let own : string_bytes s.name ≡ n = cc in
      let others : map (λ x. string_bytes x.name) ss ≡ names = cc in
      let parts = and_parts (not (list_any (λ m. bytes_eq m n) names)) (are_distinct names) distinct in
      let one : shot_seen s ≡ (string_bytes s.name, entries_by b) =
      one_copy s before names old new b (titled ∙ ap (λ x. before ++ x ∷ names) (sym own)) listed same (ap (λ x. list_any (λ m. bytes_eq m x) before) own ∙ apart.0) (All-head (ShowsIndex (keyed (keys_in keys all) o) titles) s ss shows) in
      let further : length (before ++ n ∷ []) ≡ length (old ++ b ∷ []) = length-append before (n ∷ []) ∙ ap (λ i. i + 1) same ∙ sym (length-append old (b ∷ [])) in
      let fewer : length names ≡ length new = omega (arith, long) in
      ap₂ (λ (x : List ℕ × List (List ℕ × List Place)) rest. x ∷ rest) (one ∙ ap (λ x. (x, entries_by b)) own)
      (all_copies (before ++ n ∷ []) names (old ++ b ∷ []) new ss (titled ∙ sym (append_assoc before (n ∷ []) names)) (listed ∙ sym (append_assoc old (b ∷ []) new)) further fewer parts.1 (apart_next before n names apart.1 (isnt _ parts.0)) others
      (All-tail (ShowsIndex (keyed (keys_in keys all) o) titles) s ss shows))

-- ---- reports

seconds : (os : List Stored) → map (λ e. e.1) (by_place os) ≡ os
seconds [] = refl
seconds (o ∷ os) = ap (λ rest. o ∷ rest) (seconds os)

module _ {I : Type 0} (keys : I → Stored → List (List ℕ)) (functions : List I) (names : List (List ℕ)) (task : Task) (machine : History) (long : length names ≡ length functions) (distinct : are_distinct names ≡ true) where
  one_state : (x : Report) (r : reported.Report) (lo : ℕ) → Shows keys functions names task.settings.label x r → IsRight task lo machine r.now → IsStateOf keys functions names task machine x
  one_state x r lo shows right =
      let state = right.objects in
      let all = state.all in
      let same : objects_in x ≡ all = shows.objects ∙ ap (map (λ e. e.1)) state.entries ∙ seconds all in
      let entries : fin.entries r.now.objects ≡ by_place (objects_in x) = state.entries ∙ ap by_place (sym same) in
      let kept : fin.from_entries {R = place_cmp} (by_place (objects_in x)) ≡ r.now.objects =
      fin.same_map place_total place_same (fin.from_entries (by_place (objects_in x))) r.now.objects (λ q. fin.get-from_entries place_total (by_place (objects_in x)) q ∙ sym (fin.get-entries r.now.objects q ∙ ap (find place_cmp q) entries)) in
      record {
        come = subst (λ n. n ≤ machine.current) (sym shows.revision) right.high;
        objects = subst (λ n. AreReadAs (wanted_by task) (fin.entries (selected_at task machine n)) (objects_in x)) (sym shows.revision)
            (subst (AreReadAs (wanted_by task) (fin.entries (selected_at task machine r.now.revision))) (sym same) state.read);
        indexes = all_copies keys functions names r.now.objects x.objects.items entries [] names [] functions x.indexes.items refl refl refl long distinct (all_apart names) shows.named shows.shots;
        counts = shows.counts ∙ ap (counts_of task.settings.label) (sym kept);
      }

  all_states : (lo : ℕ) (xs : List Report) (rs : List reported.Report) → AllShow keys functions names task.settings.label xs rs → AreOfHistory task lo machine rs → All (IsStateOf keys functions names task machine) xs
  all_states lo [] [] show are = All-nil (IsStateOf keys functions names task machine)
  all_states lo [] (r ∷ rs) show are = absurd show
  all_states lo (x ∷ xs) [] show are = absurd show
  all_states lo (x ∷ xs) (r ∷ rs) show are = All-cons (IsStateOf keys functions names task machine) x xs (one_state x r lo show.0 are.0) (all_states r.now.revision xs rs show.1 are.1)

  moments : (xs : List Report) (rs : List reported.Report) → AllShow keys functions names task.settings.label xs rs → map moment_in xs ≡ map moment_of rs
  moments [] [] show = refl
  moments [] (r ∷ rs) show = absurd show
  moments (x ∷ xs) [] show = absurd show
  moments (x ∷ xs) (r ∷ rs) show = ap₂ (λ (m : ℕ × ℕ) rest. m ∷ rest) (ap₂ (λ (a b : ℕ). (a, b)) show.0.event show.0.revision) (moments xs rs show.1)

  -- ---- revisions

  alone : (n : ℕ) → IsNonDecreasing (n ∷ [])
  alone n zero zero d low within = omega arith
  alone n i (suc j) d low within = absurd (omega (arith, within))
  alone n (suc i) zero d low within = absurd (omega (arith, low))

  onto : (lo n : ℕ) (ns : List ℕ) → lo ≤ n → IsNonDecreasing (n ∷ ns) → IsNonDecreasing (lo ∷ n ∷ ns)
  onto lo n ns below rest zero zero d low within = omega arith
  onto lo n ns below rest zero (suc j) d low within = let higher : n ≤ slice_index_or (n ∷ ns) j d = rest zero j d (omega arith) (omega (arith, within)) in omega (arith, below, higher)
  onto lo n ns below rest (suc i) zero d low within = absurd (omega (arith, low))
  onto lo n ns below rest (suc i) (suc j) d low within = rest i j d (omega (arith, low)) (omega (arith, within))

  revisions : (lo : ℕ) (xs : List Report) (rs : List reported.Report) → AllShow keys functions names task.settings.label xs rs → AreOfHistory task lo machine rs → IsNonDecreasing (lo ∷ map (λ x. x.revision) xs)
  revisions lo [] [] show are = alone lo
  revisions lo [] (r ∷ rs) show are = absurd show
  revisions lo (x ∷ xs) [] show are = absurd show
  revisions lo (x ∷ xs) (r ∷ rs) show are =
      let same : x.revision ≡ r.now.revision = show.0.revision in
      onto lo x.revision (map (λ y. y.revision) xs) (subst (λ n. lo ≤ n) (sym same) are.0.low) (subst (λ n. IsNonDecreasing (n ∷ map (λ y. y.revision) xs)) (sym same) (revisions r.now.revision xs rs show.1 are.1))

  never_fall : (lo : ℕ) (xs : List Report) (rs : List reported.Report) → AllShow keys functions names task.settings.label xs rs → AreOfHistory task lo machine rs → IsNonDecreasing (map (λ x. x.revision) xs)
  never_fall lo xs rs show are = λ i j d low within. revisions lo xs rs show are (suc i) (suc j) d (omega (arith, low)) (omega (arith, within))

-- ---- settings without a fault

passes : (n : ℕ) (b : Bool) (others : Option ℕ) → or_fault n b others ≡ None → (b ≡ true) × (others ≡ None)
passes n true others none = (refl, none)
passes n false others none = absurd cc

names_apart : (types : List ServedShape) (names : List (List ℕ)) (s : RunSettings) → settings_fault types names s ≡ None → are_distinct names ≡ true
names_apart types names s none =
    let fifth = or_fault 5 (is_namespace_or_all s.namespace) None in
    let fourth = or_fault 4 (are_distinct names) fifth in
    let third = or_fault 3 (is_some (slice_get types s.kind)) fourth in
    let second = or_fault 2 (is_ok (parse_selector s.selector)) third in
    (passes 4 (are_distinct names) fifth (passes 3 (is_some (slice_get types s.kind)) fourth (passes 2 (is_ok (parse_selector s.selector)) third (passes 1 (is_page_size s.page) second none).1).1).1).0

-- ---- the trace

pub trace_of : {I : Type 0} (keys : I → Stored → List (List ℕ)) (functions : List I) (names : List (List ℕ)) (types : List ServedShape) (settings : RunSettings) (events : List WorldEvent) (t : Trace) (task : Task) (end : World) (reports : List reported.Report)
    → length names ≡ length functions → settings_fault types names settings ≡ None → IsTask types task → task.settings ≡ settings → reported.Runs task 1 (start types) events end reports
    → Traces keys functions names task.settings.label end reports t → AreOfHistory task 1 end.hub.machine reports → IsTraceOf keys functions names types settings events t
trace_of keys functions names types settings events t task end reports long none lawful asked reaches shows are =
    let machine = end.hub.machine in
    let distinct = names_apart types names settings none in
    record {
      task = task;
      lawful = lawful;
      asked = asked;
      end = end;
      reports = reports;
      reaches = reaches;
      bytes = shows.written;
      ids = shows.requested;
      when = moments keys functions names task machine long distinct t.reports.items reports shows.reports;
      states = all_states keys functions names task machine long distinct 1 t.reports.items reports shows.reports are;
      never_falls = never_fall keys functions names task machine long distinct 1 t.reports.items reports shows.reports are;
    }
