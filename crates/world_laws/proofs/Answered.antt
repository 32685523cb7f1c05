-- The reply to the client's request answers what the client asks.
use Rattle.std.proofs.Common.{◌≡◌, ◌⊎◌, inl, inr, ℕ, ◌≤◌, false, List, [], ◌∷◌, ◌++◌, Option, Some, None, refl, sym, ap, subst, ◌∙◌, arith, true≢false, append-nil}
use Rattle.std.proofs.lemmas.List.Elements.{All-nil}
use Rattle.std.specs.Prelude.{option_map}
use Rattle.api_types.specs.TypesFile.{ServedShape}
use Rattle.history.specs.History.{History, last_revision}
use Rattle.api_request.specs.Calls.{Answer, Call, at_tick}
use Rattle.verbs.specs.Machine.{IsMachine}
use Rattle.api_request.specs.Reasons.{code_of}
use Rattle.verbs.specs.Step.{planned}
use Rattle.answers.specs.WatchFrom.{WatchFrom}
use Rattle.requests.proofs.Deciding.{asks_one}
use Rattle.requests.specs.Asks.{Asks, CallDecision}
use Rattle.requests.specs.Decision.{accepted}
use Rattle.requests.specs.Refusals.{as_denied, head_too_large, refuse}
use Rattle.requests.specs.Replies.{answer_bytes}
use Rattle.requests.specs.ReplyBytes.{watch_head}
use Rattle.httpedge.specs.Connections.{Connection, with_written}
use Rattle.httpedge.specs.Steps.{answer_phase, connection_after}
use Rattle.reflector.specs.Client as client
use Rattle.reflector.specs.Client.{Cache, Client, first, streaming, next}
use Rattle.reflector.specs.FollowsLaws.{IsReplyTo, Follows, IsSyncSound, IsCacheOf}
use Rattle.reflector.specs.Requests.{query_at, request_of}
use Rattle.wireclient.specs.LineLaws.{HasNoFeed, IsLine}
use Rattle.wireclient.specs.Reads.{Items}
use Rattle.wireclient.specs.Reply.{ReplyItem, head}
use Rattle.world_laws.proofs.Asking.{asks_first, asks_next, asks_watch}
use Rattle.world_laws.proofs.RunInvariant.{ReadInvariant}
use Rattle.world_laws.proofs.Mirror.{server_of}
use Rattle.world_laws.proofs.Pages.{first_page_comes, next_page_comes}
use Rattle.world_laws.proofs.Passes.{AsksFor, IsListCall, IsNextCall, IsWatchCall, WatchOpens, WatchRefused, request_with}
use Rattle.wire_laws.proofs.Listings.{lists_at, watches_at}
use Rattle.world_laws.proofs.Laws.{Laws}
use Rattle.world_laws.proofs.Sending.{refusal_comes}
use Rattle.world_laws.proofs.Turns.{watch_begins}
use Rattle.world_laws.specs.Tasks.{IsStillTask, Task, client_settings, wanted_by, with_shape}

-- what was written on the connection answers a client that asks so
pub record IsAnswered (task : Task) (h : History) (m : ℕ) (asks : client.SyncPhase) (cache : Option Cache) (c : Client) (unsent : List ℕ) (d : Connection) : Type 0 where
  pub items : List ReplyItem
  pub to : ℕ
  pub read : Items d.written items
  pub comes : IsReplyTo (server_of task h) (wanted_by task) m asks cache items to
  pub represents : ReadInvariant task h c unsent to items d.written d.phase

module _ (laws : Laws) (types : List ServedShape) (task : Task) (h : History) (m last_tick : ℕ) (c : Client) (unsent : List ℕ) (conn : Connection) (now whole : List ℕ) (asked : CallDecision) (is : IsStillTask types task)
    (is_machine : IsMachine types h) (begun : 1 ≤ m) (low : m ≤ h.current) (unwritten : conn.written ≡ []) where
  -- the task as its type is now
  abbrev task_now : Task
  task_now = with_shape task is.0

  abbrev Answers : client.SyncPhase → Option Cache → CallDecision → Type 0
  Answers asks cache asked = IsAnswered task h m asks cache c unsent (connection_after types h last_tick conn now asked)

  -- by the bytes of the reply
  first_bytes : (bytes : List ℕ) (items : List ReplyItem) → Items bytes items → Items (conn.written ++ bytes) items
  first_bytes bytes items read = subst (λ (l : List ℕ). Items (l ++ bytes) items) (sym unwritten) read

  -- the head was too long
  denied : (asks : client.SyncPhase) (cache : Option Cache) → Asks types whole (refuse head_too_large) → Answers asks cache (refuse head_too_large)
  denied asks cache too_long =
      let denial = laws.asked types whole (as_denied head_too_large) too_long in
      let status : ℕ = code_of (as_denied head_too_large).reason in
      record {
        items = head status ∷ denial.0;
        to = 0;
        read = first_bytes _ (head status ∷ denial.0) denial.1;
        comes = refusal_comes (server_of task h) (wanted_by task) m asks cache status denial.0 0 refl;
        represents = tt;
      }

  -- by the answer's watch
  abbrev AnswersBy : client.SyncPhase → Option Cache → Answer → Option WatchFrom → Type 0
  AnswersBy asks cache a watch = IsAnswered task h m asks cache c unsent (with_written conn (answer_bytes a watch) (answer_phase last_tick watch))

  plain_answer : (asks : client.SyncPhase) (cache : Option Cache) (call : Call) (items : List ReplyItem) (to : ℕ) → (planned types h (at_tick last_tick call)).answer.watch ≡ None
      → Items (answer_bytes (planned types h (at_tick last_tick call)).answer None) items
      → IsReplyTo (server_of task h) (wanted_by task) m asks cache items to → Answers asks cache (accepted call)
  plain_answer asks cache call items to unwatched read comes =
      subst (AnswersBy asks cache (planned types h (at_tick last_tick call)).answer) (sym unwatched) (record { items = items; to = to; read = first_bytes _ items read; comes = comes; represents = tt })

  watch_answer : (call : Call) (now : Cache) → c.sync ≡ streaming → now.revision ≤ h.current → WatchOpens types task_now h now.revision (at_tick last_tick call) → Answers streaming (Some now) (accepted call)
  watch_answer call now asks come opens =
      let a : Answer = (planned types h (at_tick last_tick call)).answer in
      let r : ℕ = now.revision in
      let is_head : conn.written ++ watch_head a.status ≡ watch_head 200 = ap (λ (l : List ℕ). l ++ watch_head a.status) unwritten ∙ ap watch_head opens.status in
      let is_read : Items (watch_head 200) (head 200 ∷ []) = subst (λ (l : List ℕ). Items l (head 200 ∷ [])) (append-nil (watch_head 200)) (laws.watch [] false (All-nil HasNoFeed)) in
      subst (AnswersBy streaming (Some now) a) (sym opens.watch) (record {
        items = head 200 ∷ [];
        to = r;
        read = subst (λ (l : List ℕ). Items l (head 200 ∷ [])) (sym is_head) is_read;
        comes = (omega arith, come, refl);
        represents = inl (record {
          own = record { kind = refl; namespace = refl; requirements = refl; bookmarks = refl; left = refl; endless = refl };
          position = refl;
          come = come;
          sync = asks;
          texts = [];
          lines = All-nil IsLine;
          is_written = is_head ∙ sym (append-nil (watch_head 200));
          are = refl;
        });
      })

  -- what the whole request asks is what was decided
  by_asked : (asks : client.SyncPhase) (cache : Option Cache) (IsSuch : Call → Type 0) → Asks types whole asked → AsksFor types whole IsSuch → ((call : Call) → IsSuch call → Answers asks cache (accepted call)) → Answers asks cache asked
  by_asked asks cache IsSuch one (inl too_long) answer = subst (Answers asks cache) (asks_one types whole (refuse head_too_large) asked too_long one) (denied asks cache too_long)
  by_asked asks cache IsSuch one (inr (call, other, such)) answer = subst (Answers asks cache) (asks_one types whole (accepted call) asked other one) (answer call such)

  answers_by : (asks : client.SyncPhase) (cache : Option Cache) → c.sync ≡ asks → IsCacheOf (server_of task h) m cache → IsSyncSound (server_of task h) m asks cache → Asks types whole asked
      → whole ≡ request_with task (query_at (client_settings task) asks (option_map (λ now. now.revision) cache)) → Answers asks cache asked
  answers_by first cache asks cached able one is_whole =
      by_asked first cache (IsListCall types task_now None) one (subst (λ (l : List ℕ). AsksFor types l (IsListCall types task_now None)) (sym is_whole) (asks_first types task_now is.1))
      (λ call such. let comes = first_page_comes types task_now h m (at_tick last_tick call) is.1 is_machine low (lists_at last_tick such) in plain_answer first cache call comes.items 0 comes.unwatched comes.read comes.lists)
  answers_by (next r token paged_list) cache asks cached able one is_whole =
      by_asked (next r token paged_list) cache (IsNextCall types task_now r paged_list) one
      (subst (λ (l : List ℕ). AsksFor types l (IsNextCall types task_now r paged_list)) (sym is_whole) (asks_next types task_now h r token paged_list is.1 is_machine able.1 able.2))
      (λ call such.
      let comes = next_page_comes types task_now h m r token paged_list (at_tick last_tick call) is.1 is_machine able.0 able.1 able.2 (such.0, such.1, lists_at last_tick such.2) in
      plain_answer (next r token paged_list) cache call comes.items 0 comes.unwatched comes.read comes.lists)
  answers_by streaming None asks cached able one is_whole = absurd (true≢false (sym able))
  answers_by streaming (Some now) asks cached able one is_whole =
      let same : now.revision ≡ m = cached.0 in
      let top : h.current ≤ last_revision = is_machine.whole.high in
      let come : now.revision ≤ h.current = omega (arith, same, low) in
      by_asked streaming (Some now) (IsWatchCall types task_now now.revision) one
      (subst (λ (l : List ℕ). AsksFor types l (IsWatchCall types task_now now.revision)) (sym is_whole) (asks_watch types task_now now.revision is.1 (omega (arith, come, top))))
      (λ call such. begins now asks come call (watch_begins types task_now h now.revision (at_tick last_tick call) is.1 is_machine (omega (arith, same, begun)) come (watches_at last_tick such)))
    where
      begins : (now : Cache) → c.sync ≡ streaming → now.revision ≤ h.current → (call : Call) → WatchOpens types task_now h now.revision (at_tick last_tick call) ⊎ WatchRefused types task_now h now.revision (at_tick last_tick call)
          → Answers streaming (Some now) (accepted call)
      begins now asks come call (inl opens) = watch_answer call now asks come opens
      begins now asks come call (inr refused) = plain_answer streaming (Some now) call refused.items refused.to refused.unwatched refused.read refused.watches

  pub answers : (xs : List ReplyItem) (p : ℕ) → Follows (server_of task h) (wanted_by task) m c xs p → Asks types whole asked → whole ≡ request_of (client_settings task) c
      → IsAnswered task h m c.sync c.cache c unsent (connection_after types h last_tick conn now asked)
  answers xs p follows one is_whole = answers_by c.sync c.cache refl follows.cache follows.sync one is_whole
