-- What answers a client's request for a page, first or next, of the list that stands now: one reply, and the machine stays.
use Rattle.std.proofs.Common.{◌≡◌, inl, inr, ℕ, ◌≤◌, cond, List, ◌∷◌, drop, Option, Some, None, Ok, Err, refl, sym, ap, subst, le-leb, zero-le}
use Rattle.std.proofs.lemmas.Bool.{le-ltb}
use Rattle.history.specs.History.{state_at}
use Rattle.params.specs.Values.{Token}
use Rattle.lists.specs.Body.{Collection, list_text}
use Rattle.lists.specs.Lists.{page_of}
use Rattle.lists.specs.Revision.{exactly, revision_by, revision_of}
use Rattle.lists.specs.declared.refusal.Refusal.TheVariants.{TooLarge}
use Rattle.api_request.specs.Calls.{Answer, Call, Plan, at_tick}
use Rattle.api_request.specs.Reasons.{code_of}
use Rattle.verbs.specs.Machine as machines
use Rattle.verbs.specs.Machine.{IsMachine}
use Rattle.verbs.specs.Step.{collection_of, planned}
use Rattle.requests.specs.Asks.{Asks, CallDecision}
use Rattle.requests.specs.Decision.{accepted}
use Rattle.requests.specs.Refusals.{as_denied, head_too_large, refuse}
use Rattle.requests.specs.Replies.{answer_bytes, answer_reply, refusal_reply}
use Rattle.httpedge.specs.Connections.{Connection, ended, with_written}
use Rattle.httpedge.specs.Steps as edge
use Rattle.reflector.specs.Client.{Cache, SyncPhase, first, next, streaming}
use Rattle.reflector.specs.FollowsLaws.{IsSyncSound}
use Rattle.reflector.specs.Requests.{query_at}
use Rattle.wireclient.specs.Reads.{Items}
use Rattle.wireclient.specs.Reply.{ReplyItem, head}
use Rattle.wireclient.proofs.ReadBack.{length_reads, reply_read as reply_read_back}
use Rattle.wireclient.proofs.TooLong.{no_length, unframed_read}
use Rattle.wire_laws.proofs.AnyLengths.{any_reply_read}
use Rattle.wire_laws.proofs.Listings.{lists_at, page_planned}
use Rattle.wire_laws.proofs.Written.{status_is}
use Rattle.wire_laws.specs.Listings.{page_plan}
use Rattle.liveness_laws.specs.Leading.{IsListPhase}
use Rattle.world_laws.proofs.Asking.{asks_first, asks_next}
use Rattle.world_laws.proofs.Laws.{Laws}
use Rattle.world_laws.proofs.Mirror.{server_of}
use Rattle.world_laws.proofs.Passes.{AsksFor, IsListCall, IsNextCall, request_with}
use Rattle.world_laws.specs.ListCalls.{page_values}
use Rattle.world_laws.specs.Tasks.{IsStillTask, Task, client_settings, with_shape}

-- what the bytes ask leaves the machine as it is, and is answered on the connection, which has ended then
pub record IsRepliedTo (s : edge.State) (c : Connection) (bytes : List ℕ) : Type 0 where
  pub decided : CallDecision
  pub asks : Asks s.types bytes decided
  pub b : ℕ
  pub bs : List ℕ
  pub answers : edge.connection_after s.types s.machine s.last_tick c bytes decided ≡ with_written c (b ∷ bs) ended
  pub still : edge.machine_after s.types s.machine s.last_tick decided ≡ s.machine
  pub items : List ReplyItem
  pub reads : Items (b ∷ bs) items

-- where its head is too long the reply says so
abbrev pub denied : Laws → (s : edge.State) (c : Connection) (bytes : List ℕ) → Asks s.types bytes (refuse head_too_large) → IsRepliedTo s c bytes
denied laws s c bytes too_long = record {
  decided = refuse head_too_large;
  asks = too_long;
  b = 72;
  bs = drop 1 (refusal_reply (as_denied head_too_large));
  answers = refl;
  still = refl;
  items = head (code_of (as_denied head_too_large).reason) ∷ (laws.asked s.types bytes (as_denied head_too_large) too_long).0;
  reads = (laws.asked s.types bytes (as_denied head_too_large) too_long).1;
}

module _ (laws : Laws) (task : Task) (s : edge.State) (still_is : IsStillTask s.types task) (is_machine : IsMachine s.types s.machine) (c : Connection) (bytes : List ℕ) where
  abbrev task_now : Task
  task_now = with_shape task still_is.0

  abbrev current : ℕ
  current = s.machine.current

  module _ (call : Call) (asks : Asks s.types bytes (accepted call)) (token : Option Token) (lists : IsListCall s.types task_now token call)
      (at : revision_of current s.machine.compacted (page_values task_now token) ≡ Ok current) where
    abbrev answer : Answer
    answer = (planned s.types s.machine (at_tick s.last_tick call)).answer

    abbrev of : Collection
    of = collection_of task_now.t task_now.settings.kind task_now.settings.namespace

    abbrev text : List ℕ
    text = list_text of current (page_of of (page_values task_now token) (state_at s.machine.changes current))

    plan_is : planned s.types s.machine (at_tick s.last_tick call) ≡ page_plan text
    plan_is = page_planned s.types s.machine (at_tick s.last_tick call) task_now.t task_now.settings.kind task_now.settings.namespace (page_values task_now token) (lists_at s.last_tick lists) current at

    listed : IsRepliedTo s c bytes
    listed =
        let read = any_reply_read (record { reply = reply_read_back; counted = length_reads; none = unframed_read; uncounted = no_length }) answer.status None answer.body (status_is s.types s.machine (at_tick s.last_tick call)) (tt {0}) in
        record {
          decided = accepted call;
          asks = asks;
          b = 72;
          bs = drop 1 (answer_reply answer);
          answers = ap (λ watch. with_written c (answer_bytes answer watch) (edge.answer_phase s.last_tick watch)) (ap (λ (p : Plan). p.answer.watch) plan_is);
          still = ap (λ (p : Plan). machines.after s.machine p.changes) plan_is;
          items = read.0;
          reads = read.1;
        }

  by_call : (IsSuch : Call → Type 0) → AsksFor s.types bytes IsSuch → ((call : Call) → Asks s.types bytes (accepted call) → IsSuch call → IsRepliedTo s c bytes) → IsRepliedTo s c bytes
  by_call IsSuch (inl too_long) lists = denied laws s c bytes too_long
  by_call IsSuch (inr (call, asks, such)) lists = lists call asks such

  -- a client that asks for a page of it
  pub replied_to : (m : ℕ) (sync : SyncPhase) (cache : Option Cache) → IsListPhase current sync → IsSyncSound (server_of task s.machine) m sync cache → (revision : Option ℕ)
      → bytes ≡ request_with task (query_at (client_settings task) sync revision) → IsRepliedTo s c bytes
  replied_to m first cache phase sound revision is =
      by_call (IsListCall s.types task_now None) (subst (λ (l : List ℕ). AsksFor s.types l (IsListCall s.types task_now None)) (sym is) (asks_first s.types task_now still_is.1))
      (λ call asks such. listed call asks None such (ap (λ b. cond b (Ok current) (Err (TooLarge 0 current))) (le-leb 0 current zero-le)))
  replied_to m (next r token paged) cache same sound revision is =
      by_call (IsNextCall s.types task_now r paged)
      (subst (λ (l : List ℕ). AsksFor s.types l (IsNextCall s.types task_now r paged)) (sym is) (asks_next s.types task_now s.machine r token paged still_is.1 is_machine sound.1 sound.2))
      (λ call asks such. listed call asks (Some (record { revision = r; namespace = such.0.namespace; name = such.0.name })) such.2 exact)
    where
      low : s.machine.compacted ≤ r
      low = subst (λ (n : ℕ). s.machine.compacted ≤ n) (sym same) is_machine.whole.low

      exact : revision_by current s.machine.compacted (exactly r) ≡ Ok current
      exact = rw (le-ltb r s.machine.compacted low, le-leb r current sound.1) (ap Ok same)
  replied_to m streaming cache phase sound revision is = absurd phase
