-- What answers the client's watch, and what its turns tell.
use Rattle.std.proofs.Common.{◌≡◌, ◌⊎◌, inl, inr, ℕ, ◌*◌, ◌-◌, ◌<◌, ◌≤◌, Bool, true, false, cond, List, [], ◌∷◌, ◌++◌, length, map, take, Option, Some, None, Ok, refl, sym, ap, ap₂, subst, ◌∙◌, arith, ltb-false, ltb-true}
use Rattle.std.specs.Prelude.{◌&&◌, ◌==◌, decimal, nat_le, nat_lt, slice_get}
use Rattle.std.specs.FinMap as fin
use Rattle.std.proofs.lemmas.List.Elements.{All-cons, All-nil}
use Rattle.serde_json.specs.Written.{compact_text}
use Rattle.api_types.specs.TypesFile.{ServedShape}
use Rattle.history.specs.History.{History, IsHistory, Key, Object, last_revision, state_at}
use Rattle.history.specs.Seen.{SeenChange, Selection, put_all_seen, reached, seen_changes, selected}
use Rattle.history.proofs.Following.{IsPrefixSeen, between, prefix_seen}
use Rattle.history.proofs.Wholes.{whole_is}
use Rattle.selector.specs.Requirement.{Requirement}
use Rattle.decoder.specs.Lines.{Line, line_in}
use Rattle.decoder.specs.Lines as reads
use Rattle.decoder.specs.Members.{Read}
use Rattle.lists.specs.Labels.{selection_of}
use Rattle.lists.specs.declared.refusal.Refusal.TheVariants.{Expired}
use Rattle.watchline.specs.declared.event.EventType.TheVariants as event
use Rattle.watchline.specs.Lines.{added, bookmark_value, expired_message, expired_value, line_of}
use Rattle.watchline.specs.Watches.{InitialLeft, BookmarkTurn, changes_left, changes_sent, coming, entries_left, expiring, from_history, is_bookmark_due, moved, no_initial_left, objects_left, position_by, position_past, sending}
use Rattle.watchline.specs.Watches as cursors
use Rattle.watchline.proofs.Onward.{sends_passed, sent_low}
use Rattle.line_laws.specs.Shown.{shown}
use Rattle.line_laws.proofs.Feeds.{text_has_none}
use Rattle.line_laws.proofs.Said.{bookmark_fits, bookmark_read, error_read, expired_fits}
use Rattle.line_laws.proofs.SeenBodies.{all_taken}
use Rattle.line_laws.proofs.Sent.{left_stays, marked_line, unmarked}
use Rattle.api_request.specs.Calls.{Answer, Call, Plan}
use Rattle.api_validation.specs.Envelope.{api_version_of}
use Rattle.verbs.specs.Machine.{IsMachine}
use Rattle.verbs.specs.Step.{list_refusal, planned, refused}
use Rattle.verbs.specs.Watching.{bookmarked_as, bookmarked_in}
use Rattle.httpedge.specs.Watches.{Watch, has_timed_out, line_list, pumped, ticked, turned, unless_ended, with_cursor}
use Rattle.reflector.specs.FollowsLaws.{Server, IsWatchStep, IsWatchReply}
use Rattle.reflector.specs.Items as items
use Rattle.reflector.specs.Items.{line_or_unexpected}
use Rattle.wireclient.specs.LineLaws.{HasNoFeed}
use Rattle.wireclient.specs.Reads.{max_body}
use Rattle.wireclient.specs.Reply.{ReplyItem, end, malformed, max_line}
use Rattle.wireclient.specs.Reply as reply
use Rattle.wireclient.proofs.ReadBack.{length_reads, reply_read as reply_read_back}
use Rattle.wireclient.proofs.TooLong.{no_length, unframed_read}
use Rattle.wire_laws.specs.Listings.{watch_after, watch_plan}
use Rattle.wire_laws.proofs.LineTexts.{plain, with_its_feed}
use Rattle.wire_laws.proofs.Listings.{watch_expired, watch_opens}
use Rattle.wire_laws.proofs.AnyLengths.{IsSentOf, any_reply_read}
use Rattle.wire_laws.proofs.Written.{status_is}
use Rattle.world_laws.proofs.Leading.{lines_lead}
use Rattle.world_laws.proofs.Mirror.{mirrored, server_of}
use Rattle.world_laws.proofs.Passes.{IsTaskWatch, IsWatchCall, TurnComes, WatchOpens, WatchRefused, task_watch, watch_values}
use Rattle.world_laws.proofs.SeenLines.{line_text, plain_lines, with_feeds}
use Rattle.world_laws.proofs.SeenTexts.{IsSeenText, seen_are_texts}
use Rattle.world_laws.proofs.TaskObjects.{type_utf8, version_utf8, wants}
use Rattle.world_laws.specs.Tasks.{IsTask, Task, selected_at, selection, wanted_by}

-- ---- the call that opens it

module _ (types : List ServedShape) (task : Task) (machine : History) (r : ℕ) (call : Call) (begun : 1 ≤ r) (asks : IsWatchCall types task r call) where
  opens : machine.compacted ≤ r → WatchOpens types task machine r call
  opens low =
      let plan : planned types machine call ≡ watch_plan (watch_after task.settings.kind task.settings.namespace (watch_values task r) task_watch r) = watch_opens types machine call task.t task.settings.kind task.settings.namespace (watch_values task r) task_watch r asks begun low in
      record {
        status = ap (λ (p : Plan). p.answer.status) plan;
        watch = ap (λ (p : Plan). p.answer.watch) plan;
      }

  -- an answer other than 200 is no reason to go on
  denied : (code : ℕ) (others : List ReplyItem) → (code == 200) ≡ false → IsWatchReply (server_of task machine) (wanted_by task) r (reply.head code ∷ others) r
  denied code others other =
      subst (λ (b : Bool). IsWatchStep (server_of task machine) r (cond b items.begun items.unexpected) (λ q. IsWatchReply (server_of task machine) (wanted_by task) q others r)) (sym other) tt

  -- so it is however much is told of its body
  unfit_reply : (code : ℕ) (body : List ℕ) (items : List ReplyItem) → (code == 200) ≡ false → IsSentOf code body items → IsWatchReply (server_of task machine) (wanted_by task) r items r
  unfit_reply code body items other (inl is) = subst (λ (xs : List ReplyItem). IsWatchReply (server_of task machine) (wanted_by task) r xs r) (sym is) (by_length (nat_le (length body) max_body))
    where
      by_length : (b : Bool) → IsWatchReply (server_of task machine) (wanted_by task) r (cond b (reply.head code ∷ reply.whole body ∷ end ∷ []) (malformed ∷ [])) r
      by_length true = denied code (reply.whole body ∷ end ∷ []) other
      by_length false = tt
  unfit_reply code body items other (inr (k, less, is)) =
      subst (λ (xs : List ReplyItem). IsWatchReply (server_of task machine) (wanted_by task) r xs r) (sym is) (denied code (reply.whole (take k body) ∷ end ∷ []) other)

  refuses : r < machine.compacted → WatchRefused types task machine r call
  refuses past =
      let answer : Answer = (planned types machine call).answer in
      let plan : planned types machine call ≡ refused (list_refusal (Expired r machine.compacted)) = watch_expired types machine call task.t task.settings.kind task.settings.namespace (watch_values task r) task_watch r asks begun past in
      let sent = any_reply_read (record { reply = reply_read_back; counted = length_reads; none = unframed_read; uncounted = no_length }) answer.status None answer.body (status_is types machine call) (tt {0}) in
      record {
        unwatched = ap (λ (p : Plan). p.answer.watch) plan;
        items = sent.0;
        to = r;
        read = sent.1;
        watches = unfit_reply answer.status answer.body sent.0 (ap (λ (p : Plan). p.answer.status == 200) plan) sent.2;
      }

pub watch_begins : (types : List ServedShape) (task : Task) (machine : History) (r : ℕ) (call : Call) → IsTask types task → IsMachine types machine → 1 ≤ r → r ≤ machine.current → IsWatchCall types task r call
    → WatchOpens types task machine r call ⊎ WatchRefused types task machine r call
watch_begins types task machine r call is is_machine begun come asks = by_test (nat_lt r machine.compacted) refl
  where
    by_test : (b : Bool) → nat_lt r machine.compacted ≡ b → WatchOpens types task machine r call ⊎ WatchRefused types task machine r call
    by_test true past = inr (refuses types task machine r call begun asks (ltb-true r machine.compacted past))
    by_test false low = inl (opens types task machine r call begun asks (ltb-false r machine.compacted low))

-- ---- its turn at a pump

represents_above : (top r : ℕ) (b : Bool) → r ≤ position_by b top r
represents_above top r true = omega arith
represents_above top r false = omega arith

represents_within : (top r : ℕ) (b : Bool) → r ≤ top → position_by b top r ≤ top
represents_within top r true low = omega (arith, low)
represents_within top r false low = low

module _ (types : List ServedShape) (task : Task) (machine : History) (is : IsTask types task) (is_machine : IsMachine types machine) (w : Watch) (own : IsTaskWatch task w) (come : w.cursor.position ≤ machine.current) where
  abbrev p : ℕ
  p = w.cursor.position

  abbrev server : Server
  server = server_of task machine

  history : IsHistory machine
  history = whole_is is_machine.first machine is_machine.whole

  numbered : machine.current ≤ last_revision
  numbered = history.high

  -- what is seen after its position
  abbrev ahead : List SeenChange
  ahead = seen_changes (selection task) machine.changes p machine.current

  same_selection : cursors.wanted w.cursor ≡ selection task
  same_selection =
      ap₂ (λ (kind : ℕ) (namespace : Option (List ℕ)). selection_of kind namespace w.cursor.requirements) own.kind own.namespace
      ∙ ap (λ (requirements : List Requirement). selection_of task.settings.kind task.settings.namespace requirements) own.requirements

  none_before : objects_left (from_history machine) w.cursor ≡ []
  none_before = ap (λ l. entries_left w.cursor.kind l (fin.entries (selected (cursors.wanted w.cursor) (state_at machine.changes p)))) own.left

  changes_are : changes_left (from_history machine) w.cursor ≡ ahead
  changes_are = ap (λ (s : Selection). seen_changes s machine.changes p machine.current) same_selection

  coming_is : coming (from_history machine) w.cursor ≡ ahead
  coming_is = ap₂ (λ (es : List (Key × Object)) (xs : List SeenChange). map added es ++ xs) none_before changes_are

  -- it is still such a watch where its cursor has moved
  moved_own : (position sent : ℕ) (left : InitialLeft) → left ≡ no_initial_left → IsTaskWatch task (with_cursor w (moved w.cursor position sent left))
  moved_own position sent left none =
      record { kind = own.kind; namespace = own.namespace; requirements = own.requirements; bookmarks = own.bookmarks; left = none; endless = own.endless }

  module _ (max : ℕ) where
    sent_is : changes_sent (from_history machine) max w.cursor ≡ take max ahead
    sent_is =
        let whole : max - 0 ≡ max = omega arith in
        ap₂ (λ (es : List (Key × Object)) (xs : List SeenChange). take (max - length es) xs) none_before changes_are ∙ ap (λ n. take n ahead) whole

    abbrev last : ℕ
    last = reached p (take max ahead)

    abbrev to : ℕ
    to = position_past (from_history machine) max w.cursor

    to_is : to ≡ position_by (nat_lt (length ahead) max) machine.current last
    to_is = ap₂ (λ (xs ys : List SeenChange). position_by (nat_lt (length xs) max) machine.current (reached p ys)) coming_is sent_is

    prefix : IsPrefixSeen (selection task) machine.changes machine.current p max ahead
    prefix = prefix_seen (selection task) machine.changes machine.current max p ahead history.rising come refl

    above : last ≤ to
    above = subst (λ n. last ≤ n) (sym to_is) (represents_above machine.current last (nat_lt (length ahead) max))

    within : to ≤ machine.current
    within = subst (λ n. n ≤ machine.current) (sym to_is) (represents_within machine.current last (nat_lt (length ahead) max) prefix.high)

    -- behind the last line nothing is seen up to where it stands
    stays : machine.compacted ≤ p → selected_at task machine last ≡ selected_at task machine to
    stays low =
        let up : last ≤ to = above in
        let first : p ≤ last = prefix.low in
        let passed : seen_changes (selection task) machine.changes p to ≡ take max ahead =
        ap (λ (s : Selection). seen_changes s machine.changes p to) (sym same_selection)
        ∙ ap (λ (t : cursors.Turn). seen_changes (cursors.wanted w.cursor) machine.changes p t.next.position) (sym (sent_low machine max w.cursor low))
        ∙ sends_passed machine max w.cursor history low ∙ sent_is in
        sym prefix.reaches ∙ ap (put_all_seen (selected_at task machine p)) (sym passed)
        ∙ between (selection task) machine.changes machine.current p to history.rising (omega (arith, first, up))

    sends : machine.compacted ≤ p → TurnComes task machine p (turned w (sending (from_history machine) max w.cursor))
    sends low =
        let seen = seen_are_texts types (selection task) machine p machine.current is_machine in
        let sent : List SeenChange = take max ahead in
        record {
          texts = map line_text sent;
          plain = plain_lines types task sent (all_taken (IsSeenText types (selection task)) max ahead seen);
          lines = ap (λ (xs : List SeenChange). map line_of (take max xs)) coming_is ∙ with_feeds sent;
          to = to;
          watches = lines_lead types task machine is is_machine max p ahead [] to come refl seen (above, within, ap (mirrored (wanted_by task)) (stays low));
          next = (moved_own to _ _ (left_stays machine max w.cursor own.left), refl, within);
        }

  -- below the compacted number it ends with an error
  expires : TurnComes task machine p (turned w (expiring (from_history machine) w.cursor))
  expires =
      let low : machine.compacted ≤ machine.current = history.low in
      let value = expired_value (expired_message p machine.compacted) in
      let text : List ℕ = shown event.Error (compact_text value) in
      record {
        texts = text ∷ [];
        plain = All-cons HasNoFeed text [] (plain event.Error (compact_text value) (text_has_none value (expired_fits (expired_message p machine.compacted)).encodable)) (All-nil HasNoFeed);
        lines = ap (λ (l : List ℕ). l ∷ []) (with_its_feed event.Error (compact_text value));
        to = p;
        watches = by_length text (nat_lt (length text) max_line) (error_read (wanted_by task) p machine.compacted (omega (arith, come, numbered)) (omega (arith, low, numbered)));
        next = tt;
      }
    where
      by_length : (text : List ℕ) (b : Bool) → line_in (wanted_by task) text ≡ Ok reads.error → IsWatchReply server (wanted_by task) p (cond b (reply.line text ∷ end ∷ []) (malformed ∷ [])) p
      by_length text true says = subst (λ (l : Read Line). IsWatchStep server p (line_or_unexpected l) (λ q. IsWatchReply server (wanted_by task) q (end ∷ []) p)) (sym says) tt
      by_length text false says = tt

  -- ---- its turn at a tick

  abbrev TickBy : Bool → BookmarkTurn → Type 0
  TickBy over m = TurnComes task machine p (record { lines = line_list m.line; next = unless_ended over (with_cursor w m.next) })

  -- where a bookmark is due it tells where the watch stands
  marks : (is_due : Bool) → TickBy false (cond is_due (marked_line (api_version_of task.t) task.t.kind w.cursor) (unmarked w.cursor))
  marks true =
      let value = bookmark_value (api_version_of task.t) task.t.kind (decimal p) in
      let text : List ℕ = shown event.Bookmark (compact_text value) in
      record {
        texts = text ∷ [];
        plain = All-cons HasNoFeed text [] (plain event.Bookmark (compact_text value) (text_has_none value (bookmark_fits (api_version_of task.t) task.t.kind (decimal p)).encodable)) (All-nil HasNoFeed);
        lines = ap (λ (l : List ℕ). l ∷ []) (with_its_feed event.Bookmark (compact_text value));
        to = p;
        watches = by_length text (nat_lt (length text) max_line)
            (bookmark_read (wanted_by task) p (omega (arith, come, numbered)) (version_utf8 types task is) (type_utf8 types task is) (wants types task is).has_kind);
        next = (moved_own p p w.cursor.left own.left, refl, come);
      }
    where
      by_length : (text : List ℕ) (b : Bool) → line_in (wanted_by task) text ≡ Ok (reads.bookmark p) → IsWatchReply server (wanted_by task) p (cond b (reply.line text ∷ []) (malformed ∷ [])) p
      by_length text true says = subst (λ (l : Read Line). IsWatchStep server p (line_or_unexpected l) (λ q. IsWatchReply server (wanted_by task) q [] p)) (sym says) (omega arith, come, refl, (omega arith, come, refl))
      by_length text false says = tt
  marks false = record {
    texts = [];
    plain = All-nil HasNoFeed;
    lines = refl;
    to = p;
    watches = (omega arith, come, refl);
    next = (own, refl, come);
  }

  ticks : (ms : ℕ) → TurnComes task machine p (ticked types ms w)
  ticks ms =
      let never : has_timed_out ms w ≡ false = ap (λ t. nat_lt 0 t && nat_le (t * 1000) (ms - w.opened_at)) own.endless in
      let served : slice_get types w.cursor.kind ≡ Some task.t = ap (slice_get types) own.kind ∙ is.served in
      subst (λ (b : Bool). TickBy b (bookmarked_in types w.cursor)) (sym never) (subst (λ (o : Option ServedShape). TickBy false (bookmarked_as o w.cursor)) (sym served) (marks (is_bookmark_due w.cursor)))

pub pump_comes : (types : List ServedShape) (task : Task) (machine : History) (max : ℕ) (w : Watch) → IsTask types task → IsMachine types machine
    → IsTaskWatch task w → w.cursor.position ≤ machine.current → TurnComes task machine w.cursor.position (pumped machine max w)
pump_comes types task machine max w is is_machine own come = by_test (nat_lt w.cursor.position machine.compacted) refl
  where
    by_test : (b : Bool) → nat_lt w.cursor.position machine.compacted ≡ b
        → TurnComes task machine w.cursor.position (turned w (cond b (expiring (from_history machine) w.cursor) (sending (from_history machine) max w.cursor)))
    by_test true past = expires types task machine is is_machine w own come
    by_test false low = sends types task machine is is_machine w own come max (ltb-false w.cursor.position machine.compacted low)

pub tick_comes : (types : List ServedShape) (task : Task) (machine : History) (ms : ℕ) (w : Watch) → IsTask types task → IsMachine types machine
    → IsTaskWatch task w → w.cursor.position ≤ machine.current → TurnComes task machine w.cursor.position (ticked types ms w)
tick_comes types task machine ms w is is_machine own come = ticks types task machine is is_machine w own come ms
