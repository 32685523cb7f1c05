-- What revision a client has after lines of a watch that it took, and that it asks for the first page where it took one not.
use Rattle.std.proofs.Common.{◌≡◌, ◌⊎◌, ◌∙◌, inl, inr, ℕ, zero, suc, ◌≤◌, ◌&&◌, Bool, true, false, cond, List, [], ◌∷◌, length, map, take, Option, Some, None, Ok, Err, refl, sym, ap, subst, arith, true≢false}
use Rattle.std.specs.FinMap as fin
use Rattle.std.specs.List.{AllByRecursion}
use Rattle.std.specs.Prelude.{nat_le, nat_lt}
use Rattle.std.specs.Str.{is_utf8}
use Rattle.api_types.specs.TypesFile.{ServedShape}
use Rattle.history.specs.History.{History, IsHistory, Key, Object, last_revision}
use Rattle.history.specs.Seen.{Added, Deleted, Modified, SeenChange, SeenKind, reached, seen_changes}
use Rattle.history.proofs.Following.{next_seen}
use Rattle.history.proofs.Wholes.{whole_is}
use Rattle.indexer.specs.Objects.{Stored}
use Rattle.decoder.specs.Lines as reads
use Rattle.decoder.specs.Lines.{Line, line_in}
use Rattle.decoder.specs.Members.{Read}
use Rattle.decoder.specs.Wanted.{Wanted}
use Rattle.line_laws.specs.Shown.{taken}
use Rattle.line_laws.proofs.Said.{SaysLine, line_by}
use Rattle.verbs.specs.Machine.{IsMachine}
use Rattle.reflector.proofs.Reached.{was_awaiting_reply}
use Rattle.reflector.specs.Client.{Cache, Client, Notice, Objects, SyncPhase, first, max_objects, notice_of, place_in, streaming}
use Rattle.reflector.specs.Items.{Response, begun, line_or_unexpected, said_of_watch, unexpected}
use Rattle.reflector.specs.Run.{moved, receives, receives_all, relisting, with_item, with_line, with_watch}
use Rattle.wireclient.specs.Reply.{ReplyItem, head, line, malformed, max_line}
use Rattle.wire_laws.specs.Watched.{lines_sent}
use Rattle.liveness_laws.proofs.Unclosed.{awaits_unclosed}
use Rattle.world_laws.proofs.SeenLines.{IsIt, line_read, line_text}
use Rattle.world_laws.proofs.SeenTexts.{IsSeenText}
use Rattle.world_laws.specs.Tasks.{IsTask, Task, selection, wanted_by}

wrong : false ≡ true → ⊥
wrong e = absurd (true≢false (sym e))

-- ---- given up, or not

-- it reads its watch on, or asks for the first page next
abbrev pub ReadsOrRelists : Client → Type 0
ReadsOrRelists c = ((c.is_awaiting_reply ≡ true) × (c.sync ≡ streaming)) ⊎ ((c.is_awaiting_reply ≡ false) × (c.sync ≡ first))

checked_so : (b : Bool) (c : Client) (revision : ℕ) (objects : Objects) (notices : List Notice) → ReadsOrRelists (cond b (moved c revision objects notices) (relisting c))
checked_so true c revision objects notices = inl (refl, refl)
checked_so false c revision objects notices = inr (refl, refl)

line_so : (c : Client) (now : Cache) (l : Line) → ReadsOrRelists (with_line c now l)
line_so c now (reads.put o) =
    checked_so (nat_lt now.revision o.revision && nat_le (fin.len (fin.insert now.objects (place_in o) o)) max_objects) c o.revision (fin.insert now.objects (place_in o) o)
    (notice_of (fin.get now.objects (place_in o)) (Some o))
line_so c now (reads.deleted o) = checked_so (nat_lt now.revision o.revision) c o.revision (fin.remove now.objects (place_in o)) (notice_of (fin.get now.objects (place_in o)) None)
line_so c now (reads.bookmark q) = checked_so (nat_le now.revision q) c q now.objects []
line_so c now reads.error = inr (refl, refl)

said_so : (c : Client) (cache : Option Cache) (r : Read Line) → ReadsOrRelists (with_watch c cache (line_or_unexpected r))
said_so c None (Ok l) = inr (refl, refl)
said_so c (Some now) (Ok l) = line_so c now l
said_so c None (Err m) = inr (refl, refl)
said_so c (Some now) (Err m) = inr (refl, refl)

broken_so : (c : Client) (cache : Option Cache) → ReadsOrRelists (with_watch c cache unexpected)
broken_so c None = inr (refl, refl)
broken_so c (Some now) = inr (refl, refl)

module _ (wanted : Wanted) where
  -- what a client that awaits its watch makes of an item
  item_is : (c : Client) (x : ReplyItem) → c.is_awaiting_reply ≡ true → c.sync ≡ streaming → receives wanted c x ≡ with_watch c c.cache (said_of_watch wanted x)
  item_is c x awaits sync = ap (λ (b : Bool). cond b (with_item wanted c c.sync x) c) awaits ∙ ap (λ (s : SyncPhase). with_item wanted c s x) sync

  idle_is : (c : Client) (x : ReplyItem) → c.is_awaiting_reply ≡ false → receives wanted c x ≡ c
  idle_is c x silent = ap (λ (b : Bool). cond b (with_item wanted c c.sync x) c) silent

  receives_so : (c : Client) (x : ReplyItem) → ReadsOrRelists c → ReadsOrRelists (with_watch c c.cache (said_of_watch wanted x)) → ReadsOrRelists (receives wanted c x)
  receives_so c x (inl (awaits, sync)) then = subst ReadsOrRelists (sym (item_is c x awaits sync)) then
  receives_so c x (inr relists) then = subst ReadsOrRelists (sym (idle_is c x relists.0)) (inr relists)

  pub lines_so : (texts : List (List ℕ)) (c : Client) → ReadsOrRelists c → ReadsOrRelists (receives_all wanted c (lines_sent texts []))
  lines_so [] c is = is
  lines_so (text ∷ texts) c is = by_length (nat_lt (length text) max_line) (lines_so texts (receives wanted c (line text)) (receives_so c (line text) is (said_so c c.cache (line_in wanted text))))
    where
      by_length : (b : Bool) → ReadsOrRelists (receives_all wanted (receives wanted c (line text)) (lines_sent texts []))
          → ReadsOrRelists (receives_all wanted c (cond b (line text ∷ lines_sent texts []) (malformed ∷ [])))
      by_length true rest = rest
      by_length false rest = receives_so c malformed is (broken_so c c.cache)

  -- the head of a watch changes nothing
  begun_kept : (c : Client) (cache : Option Cache) → with_watch c cache begun ≡ c
  begun_kept c None = refl
  begun_kept c (Some now) = refl

  pub head_kept : (c : Client) → c.is_awaiting_reply ≡ true → c.sync ≡ streaming → receives_all wanted c (head 200 ∷ []) ≡ c
  head_kept c awaits sync = item_is c (head 200) awaits sync ∙ begun_kept c c.cache

  -- ---- revisions

  -- it keeps this revision
  abbrev pub IsAt : ℕ → Option Cache → Type 0
  IsAt r cache = (now : Cache) × (cache ≡ Some now) × (now.revision ≡ r)

  -- where the client takes the line it is at the revision
  abbrev Takes : Line → ℕ → Type 0
  Takes l q = (c : Client) (now : Cache) → (with_line c now l).is_awaiting_reply ≡ true → IsAt q (with_line c now l).cache

  checked_at : (b : Bool) (c : Client) (revision q : ℕ) (objects : Objects) (notices : List Notice) → revision ≡ q → (cond b (moved c revision objects notices) (relisting c)).is_awaiting_reply ≡ true
      → IsAt q (cond b (moved c revision objects notices) (relisting c)).cache
  checked_at true c revision q objects notices same awaits = (record { revision = revision; objects = objects }, refl, same)
  checked_at false c revision q objects notices same awaits = absurd (wrong awaits)

  put_takes : (o : Stored) (q : ℕ) → o.revision ≡ q → Takes (reads.put o) q
  put_takes o q same c now awaits =
      checked_at (nat_lt now.revision o.revision && nat_le (fin.len (fin.insert now.objects (place_in o) o)) max_objects) c o.revision q (fin.insert now.objects (place_in o) o)
      (notice_of (fin.get now.objects (place_in o)) (Some o)) same awaits

  deleted_takes : (o : Stored) (q : ℕ) → o.revision ≡ q → Takes (reads.deleted o) q
  deleted_takes o q same c now awaits =
      checked_at (nat_lt now.revision o.revision) c o.revision q (fin.remove now.objects (place_in o)) (notice_of (fin.get now.objects (place_in o)) None) same awaits

  bookmark_takes : (q : ℕ) → Takes (reads.bookmark q) q
  bookmark_takes q c now awaits = checked_at (nat_le now.revision q) c q q now.objects [] refl awaits

  change_takes : (kind : SeenKind) (k : Key) (o : Object) (x : Stored) → IsIt wanted kind k o x → Takes (taken kind x) o.revision
  change_takes Added k o x is = put_takes x o.revision is.of_revision
  change_takes Modified k o x is = put_takes x o.revision is.of_revision
  change_takes Deleted k o x is = deleted_takes x o.revision is.1

  unread : (c : Client) (cache : Option Cache) → (with_watch c cache unexpected).is_awaiting_reply ≡ true → ⊥
  unread c None awaits = wrong awaits
  unread c (Some now) awaits = wrong awaits

  said_at : (text : List ℕ) (l : Line) (q : ℕ) → Takes l q → line_in wanted text ≡ Ok l → (c : Client) (now : Cache) → (with_watch c (Some now) (line_or_unexpected (line_in wanted text))).is_awaiting_reply ≡ true
      → IsAt q (with_watch c (Some now) (line_or_unexpected (line_in wanted text))).cache
  said_at text l q takes is c now awaits =
      subst (λ (r : Read Line). IsAt q (with_watch c (Some now) (line_or_unexpected r)).cache) (sym is)
      (takes c now (subst (λ (r : Read Line). (with_watch c (Some now) (line_or_unexpected r)).is_awaiting_reply ≡ true) is awaits))

  -- one line, whose text is UTF-8 or isn't
  text_at : (text : List ℕ) (l : Line) (q : ℕ) → Takes l q → ((b : Bool) → is_utf8 text ≡ b → (line_in wanted text ≡ Ok l) ⊎ (line_or_unexpected (line_in wanted text) ≡ unexpected))
      → (c : Client) (now : Cache) → c.is_awaiting_reply ≡ true → c.sync ≡ streaming → c.cache ≡ Some now → (receives wanted c (line text)).is_awaiting_reply ≡ true → IsAt q (receives wanted c (line text)).cache
  text_at text l q takes reads_so c now awaited sync cached awaits =
      subst (λ (d : Client). IsAt q d.cache) (sym whole) (go (reads_so (is_utf8 text) refl) (ap (λ (d : Client). d.is_awaiting_reply) (sym whole) ∙ awaits))
    where
      whole : receives wanted c (line text) ≡ with_watch c (Some now) (line_or_unexpected (line_in wanted text))
      whole = item_is c (line text) awaited sync ∙ ap (λ (o : Option Cache). with_watch c o (line_or_unexpected (line_in wanted text))) cached

      go : (line_in wanted text ≡ Ok l) ⊎ (line_or_unexpected (line_in wanted text) ≡ unexpected) → (with_watch c (Some now) (line_or_unexpected (line_in wanted text))).is_awaiting_reply ≡ true
          → IsAt q (with_watch c (Some now) (line_or_unexpected (line_in wanted text))).cache
      go (inl is) awaits = said_at text l q takes is c now awaits
      go (inr broken) awaits = absurd (unread c (Some now) (ap (λ (r : Response). (with_watch c (Some now) r).is_awaiting_reply) (sym broken) ∙ awaits))

  broken_silences : (c : Client) → (receives_all wanted c (malformed ∷ [])).is_awaiting_reply ≡ true → ⊥
  broken_silences c awaits = true≢false (awaits_unclosed wanted c (malformed ∷ []) awaits)

  -- ---- a bookmark

  -- the line of a bookmark, which may be too long for a client
  pub bookmark_reaches : (text : List ℕ) (q : ℕ) → line_in wanted text ≡ Ok (reads.bookmark q) → (c : Client) (now : Cache) → c.sync ≡ streaming → c.cache ≡ Some now
      → (receives_all wanted c (lines_sent (text ∷ []) [])).is_awaiting_reply ≡ true → IsAt q (receives_all wanted c (lines_sent (text ∷ []) [])).cache
  bookmark_reaches text q is c now sync cached = by_length (nat_lt (length text) max_line)
    where
      by_length : (b : Bool) → (receives_all wanted c (cond b (line text ∷ []) (malformed ∷ []))).is_awaiting_reply ≡ true → IsAt q (receives_all wanted c (cond b (line text ∷ []) (malformed ∷ []))).cache
      by_length true awaits = text_at text (reads.bookmark q) q (bookmark_takes q) (λ b e. inl is) c now (was_awaiting_reply wanted c (line text ∷ []) awaits) sync cached awaits
      by_length false awaits = absurd (broken_silences c awaits)

-- ---- lines of changes

module _ (types : List ServedShape) (task : Task) (machine : History) (is : IsTask types task) (is_machine : IsMachine types machine) where
  abbrev as_wanted : Wanted
  as_wanted = wanted_by task

  history : IsHistory machine
  history = whole_is is_machine.first machine is_machine.whole

  change_reads : (x : SeenChange) → IsSeenText types (selection task) x → x.object.revision ≤ machine.current → (c : Client) (now : Cache) → c.is_awaiting_reply ≡ true → c.sync ≡ streaming → c.cache ≡ Some now
      → (receives as_wanted c (line (line_text x))).is_awaiting_reply ≡ true → IsAt as_wanted x.object.revision (receives as_wanted c (line (line_text x))).cache
  change_reads x text come c now awaited sync cached awaits =
      let top : machine.current ≤ last_revision = history.high in
      let read = line_read types task is x text (omega (arith, top, come)) in
      text_at as_wanted (line_text x) (taken x.kind read.stored) x.object.revision (change_takes as_wanted x.kind x.key x.object read.stored read.is_it)
      (λ b e. go read.stored read.says b e) c now awaited sync cached awaits
    where
      go : (o : Stored) → SaysLine as_wanted (line_text x) (taken x.kind o) → (b : Bool) → is_utf8 (line_text x) ≡ b → (line_in as_wanted (line_text x) ≡ Ok (taken x.kind o)) ⊎ (line_or_unexpected (line_in as_wanted (line_text x)) ≡ unexpected)
      go o says true e = inl (line_by as_wanted (line_text x) (taken x.kind o) says true e)
      go o says false e = inr (ap line_or_unexpected (line_by as_wanted (line_text x) (taken x.kind o) says false e))

  stays_streaming : (c : Client) (x : ReplyItem) → ReadsOrRelists (receives as_wanted c x) → (receives as_wanted c x).is_awaiting_reply ≡ true → (receives as_wanted c x).sync ≡ streaming
  stays_streaming c x (inl reads_on) awaits = reads_on.1
  stays_streaming c x (inr relists) awaits = absurd (wrong (sym relists.0 ∙ awaits))

  -- of the first line, and of the others
  first_reaches : (x : SeenChange) (xs : List SeenChange) → IsSeenText types (selection task) x → x.object.revision ≤ machine.current → (c : Client) (now : Cache) → c.sync ≡ streaming → c.cache ≡ Some now
      → ((d : Client) (then : Cache) → d.sync ≡ streaming → d.cache ≡ Some then → then.revision ≡ x.object.revision → (receives_all as_wanted d (lines_sent (map line_text xs) [])).is_awaiting_reply ≡ true
      → IsAt as_wanted (reached x.object.revision xs) (receives_all as_wanted d (lines_sent (map line_text xs) [])).cache)
      → (b : Bool) → (receives_all as_wanted c (cond b (line (line_text x) ∷ lines_sent (map line_text xs) []) (malformed ∷ []))).is_awaiting_reply ≡ true
      → IsAt as_wanted (reached x.object.revision xs) (receives_all as_wanted c (cond b (line (line_text x) ∷ lines_sent (map line_text xs) []) (malformed ∷ []))).cache
  first_reaches x xs text within c now sync cached rest true awaits =
      let d : Client = receives as_wanted c (line (line_text x)) in
      let asks : d.is_awaiting_reply ≡ true = was_awaiting_reply as_wanted d (lines_sent (map line_text xs) []) awaits in
      let asked : c.is_awaiting_reply ≡ true = was_awaiting_reply as_wanted c (line (line_text x) ∷ []) asks in
      let at = change_reads x text within c now asked sync cached asks in
      let so : ReadsOrRelists d = receives_so as_wanted c (line (line_text x)) (inl (asked, sync)) (said_so c c.cache (line_in as_wanted (line_text x))) in
      rest d at.0 (stays_streaming c (line (line_text x)) so asks) at.1 at.2 awaits
  first_reaches x xs text within c now sync cached rest false awaits = absurd (broken_silences as_wanted c awaits)

  -- a client that took all lines has the revision of the last change, or where there is none the one that it had
  pub lines_reach : (n p q : ℕ) (xs : List SeenChange) → p ≤ machine.current → seen_changes (selection task) machine.changes p machine.current ≡ xs → AllByRecursion (IsSeenText types (selection task)) xs
      → (c : Client) (now : Cache) → c.sync ≡ streaming → c.cache ≡ Some now → now.revision ≡ q → (receives_all as_wanted c (lines_sent (map line_text (take n xs)) [])).is_awaiting_reply ≡ true
      → IsAt as_wanted (reached q (take n xs)) (receives_all as_wanted c (lines_sent (map line_text (take n xs)) [])).cache
  lines_reach zero p q xs come seen texts c now sync cached same awaits = (now, cached, same)
  lines_reach (suc n) p q [] come seen texts c now sync cached same awaits = (now, cached, same)
  lines_reach (suc n) p q (x ∷ xs) come seen texts c now sync cached same awaits =
      let following = next_seen (selection task) machine.changes machine.current p x xs history.rising come seen in
      first_reaches x (take n xs) texts.0 following.within c now sync cached
      (λ d then streams kept at asks. lines_reach n x.object.revision x.object.revision xs following.within following.rest texts.1 d then streams kept at asks)
      (nat_lt (length (line_text x)) max_line) awaits
