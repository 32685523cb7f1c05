-- What answers the client's request for a page of the list that stands now.
use Rattle.std.proofs.Common.{◌≡◌, ℕ, ◌≤◌, min, Bool, true, cond, List, [], ◌∷◌, drop, length, Option, Some, None, option_map, Ok, Err, IsUtf8, refl, sym, ap, subst, ◌∙◌, arith, le-leb, le_refl, ne_eqb, leb-true, zero-le}
use Rattle.std.proofs.lemmas.Bool.{and_parts, le-ltb}
use Rattle.std.proofs.lemmas.Str.{is_utf8-from_IsUtf8}
use Rattle.std.specs.FinMap as fin
use Rattle.std.specs.List.{AllByRecursion}
use Rattle.std.specs.Prelude.{nat_le}
use Rattle.schema.specs.Shape.{Shape}
use Rattle.history.specs.History.{Key, state_at}
use Rattle.history.specs.Seen.{left_after, limited, seen_page}
use Rattle.params.specs.Values.{Token}
use Rattle.lists.specs.Body.{continued_at, list_text}
use Rattle.lists.specs.Lists.{key_after, max_page, page_limit}
use Rattle.lists.specs.Revision.{exactly, revision_by, revision_of}
use Rattle.lists.specs.TokenLaws.{CanBeListed, token_after}
use Rattle.lists.specs.declared.refusal.Refusal.TheVariants.{TooLarge}
use Rattle.decoder.specs.declared.malformed.Malformed.TheVariants.{Json}
use Rattle.line_laws.specs.Listed.{IsReadAsPage, page_with}
use Rattle.api_request.specs.Calls.{Call, Plan, at_tick}
use Rattle.verbs.specs.Machine.{IsMachine, IsNamed, after}
use Rattle.verbs.specs.Step.{planned}
use Rattle.requests.specs.Asks.{Asks}
use Rattle.requests.specs.Decision.{accepted}
use Rattle.requests.specs.ReplyBytes.{reply}
use Rattle.httpedge.specs.Connections.{new_connection}
use Rattle.httpedge.specs.Steps as edge
use Rattle.wire.specs.Heads.{max_head}
use Rattle.wireclient.specs.Reads.{Items, max_body}
use Rattle.wire_laws.proofs.Listings.{lists_at}
use Rattle.wire_laws.specs.Listings.{page_plan}
use Rattle.liveness_laws.proofs.Asked.{asks_first, asks_next, page_is_low}
use Rattle.liveness_laws.proofs.Rounds.{Entries, IsBefore, PageComes}
use Rattle.liveness_laws.specs.BothEnds.{PagesAreAnswered}
use Rattle.liveness_laws.specs.Listable.{IsListable, collection, list_request, listed_now, page_now}
use Rattle.reflector.specs.Faults.{is_page_size}
use Rattle.world_laws.proofs.Mirrored.{AllRead, each_read}
use Rattle.world_laws.proofs.Parts.{all_first, last_has}
use Rattle.world_laws.proofs.TaskObjects.{named_at, selected_read}
use Rattle.world_laws.specs.ListCalls.{IsListCall, IsReadAsPageIfUtf8, page_values}
use Rattle.world_laws.specs.Tasks.{IsTask, Task, selection, wanted_by, with_shape}

-- a page has as many objects as were asked for
limit_is : (size : ℕ) → is_page_size size ≡ true → page_limit size ≡ Some size
limit_is size is =
    let high : size ≤ 500 = page_is_low size is in
    let low : 1 ≤ size = leb-true 1 size (and_parts (nat_le 1 size) (nat_le size 500) is).0 in
    let whole : min size max_page ≡ size = omega (arith, high) in
    ap (λ (b : Bool). cond b None (Some (min size max_page))) (ne_eqb size 0 (λ e. omega (arith, low, e))) ∙ ap Some whole

-- the key that a token is read as
same_key : (kind r : ℕ) (k : Key) → k.kind ≡ kind → key_after kind (token_after r k) ≡ k
same_key kind r k same = let f : ℕ → Key = λ n. record { kind = n; namespace = k.namespace; name = k.name } in ap f (sym same)

module _ (laws : PagesAreAnswered) (task : Task) (h : edge.State) (shape : Shape) (is : IsTask h.types (with_shape task shape)) (machine_is : IsMachine h.types h.machine) (listable : IsListable task h.machine) where
  abbrev current : ℕ
  current = h.machine.current

  abbrev size : ℕ
  size = task.settings.page

  abbrev entries : Entries
  entries = fin.entries (listed_now task h.machine)

  -- ---- by the call that is asked

  module _ (behind : Option Key) (token : Option Token) (call : Call) (asks : Asks h.types (list_request task (option_map (continued_at current) behind)) (accepted call))
      (lists : IsListCall h.types (with_shape task shape) token call) (same : option_map (key_after task.settings.kind) token ≡ behind)
      (revision : revision_of current h.machine.compacted (page_values (with_shape task shape) token) ≡ Ok current)
      (by_text : IsReadAsPageIfUtf8 (wanted_by task) (planned h.types h.machine (at_tick h.last_tick call)).answer.body current (seen_page (selection task) behind (page_limit size) (state_at h.machine.changes current))) where
    abbrev text : List ℕ
    text = list_text (collection task) current (page_now task h.machine behind)

    -- it is UTF-8, as the machine's texts are
    read : IsReadAsPage (wanted_by task) (planned h.types h.machine (at_tick h.last_tick call)).answer.body current (seen_page (selection task) behind (page_limit size) (state_at h.machine.changes current))
    read =
        let body : List ℕ = (planned h.types h.machine (at_tick h.last_tick call)).answer.body in
        let page = seen_page (selection task) behind (page_limit size) (state_at h.machine.changes current) in
        let utf8 : IsUtf8 body = laws.texts h.types (with_shape task shape) h.machine token current (at_tick h.last_tick call) is machine_is (lists_at h.last_tick lists) revision listable.unicode in (
          by_text.0,
          by_text.1 ∙ ap (λ (b : Bool). cond b (Ok (page_with current page.next by_text.0)) (Err Json)) (is_utf8-from_IsUtf8 body utf8),
          by_text.2,
        )

    plan_is : planned h.types h.machine (at_tick h.last_tick call) ≡ page_plan text
    plan_is =
        laws.planned_so h.types h.machine (at_tick h.last_tick call) (with_shape task shape).t task.settings.kind task.settings.namespace (page_values (with_shape task shape) token) current
        (lists_at h.last_tick lists) revision
        ∙ ap (λ (o : Option Key). page_plan (list_text (collection task) current (page_now task h.machine o))) same

    comes_by : PageComes task h behind
    comes_by =
        let low : length text ≤ max_body = listable.bodies behind in
        record {
          decided = accepted call;
          b = 72;
          bs = drop 1 (reply 200 None text);
          text = text;
          asks = asks;
          answers = ap (λ (p : Plan). edge.answered h.last_tick new_connection p.answer) plan_is;
          still = ap (λ (p : Plan). after h.machine p.changes) plan_is;
          reads = subst (Items (reply 200 None text)) (laws.short 200 text low) (laws.replies 200 None text (omega arith, omega arith) (tt {0}) (omega (arith, low)));
          page = subst (λ (o : Option ℕ). IsReadAsPage (wanted_by task) text current (limited o (left_after behind entries))) (limit_is size is.page)
              (subst (λ (p : Plan). IsReadAsPage (wanted_by task) p.answer.body current (limited (page_limit size) (left_after behind entries))) plan_is read);
        }

  -- ---- by where the page begins

  first_comes : PageComes task h None
  first_comes =
      let asked = asks_first laws.asks h.types (with_shape task shape) is listable.first_head in
      comes_by None None asked.0 asked.1 asked.2 refl (ap (λ (b : Bool). cond b (Ok current) (Err (TooLarge 0 current))) (le-leb 0 current zero-le))
      (laws.first h.types (with_shape task shape) h.machine (at_tick h.last_tick asked.0) is machine_is (lists_at h.last_tick asked.2))

  module _ (k : Key) (before : Entries) (is_before : IsBefore task h (Some k) before) where
    -- what holds of all entries holds of the last of these
    of_last : (P : Key → Type 0) → AllByRecursion (λ e. P e.0) entries → P k
    of_last P all = last_has P k before (all_first (λ e. P e.0) before is_before.0.rest (subst (AllByRecursion (λ e. P e.0)) is_before.0.is all)) is_before.1

    own_kind : k.kind ≡ task.settings.kind
    own_kind = of_last (λ q. q.kind ≡ task.settings.kind) (kinds entries (each_read (wanted_by task) task.settings.kind (listed_now task h.machine) (selected_read h.types (with_shape task shape) is h.machine machine_is current)))
      where
        kinds : (es : Entries) → AllRead (wanted_by task) task.settings.kind es → AllByRecursion (λ e. e.0.kind ≡ task.settings.kind) es
        kinds [] all = tt
        kinds (e ∷ es) all = (all.0.0, kinds es all.1)

    can_be_listed : CanBeListed current k
    can_be_listed =
        let named : IsNamed k = of_last IsNamed (named_at h.types (with_shape task shape) is h.machine machine_is current) in
        record { high = machine_is.whole.high; namespace = named.namespace; name = named.name }

    next_comes : PageComes task h (Some k)
    next_comes =
        let fits : length (list_request task (Some (continued_at current k))) ≤ max_head = of_last (λ q. length (list_request task (Some (continued_at current q))) ≤ max_head) listable.next_heads in
        let asked = asks_next laws.asks h.types (with_shape task shape) is current k can_be_listed fits in
        let low : h.machine.compacted ≤ current = machine_is.whole.low in
        let exact : revision_by current h.machine.compacted (exactly current) ≡ Ok current = rw (le-ltb current h.machine.compacted low, le-leb current current (le_refl current)) refl in
        comes_by (Some k) (Some (token_after current k)) asked.0 asked.1 asked.2 (ap Some (same_key task.settings.kind current k own_kind)) exact
        (laws.next h.types (with_shape task shape) h.machine current k (at_tick h.last_tick asked.0) is machine_is (lists_at h.last_tick asked.2) own_kind low (le_refl current))

  pub page_comes : (behind : Option Key) (before : Entries) → IsBefore task h behind before → PageComes task h behind
  page_comes None before is_before = first_comes
  page_comes (Some k) before is_before = next_comes k before is_before
