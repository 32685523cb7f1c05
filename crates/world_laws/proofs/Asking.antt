-- What the client's requests ask the server.
use Rattle.std.proofs.Common.{◌≡◌, ◌⊎◌, inl, inr, ℕ, ◌<◌, ◌≤◌, Bool, true, false, List, [], ◌∷◌, ◌++◌, All, length, Option, Some, None, codes, refl, sym, ap, subst, ◌∙◌, arith, leb-false, leb-true}
use Rattle.std.proofs.lemmas.Bool.{and_parts}
use Rattle.std.proofs.lemmas.List.Elements.{All-append, All-cons, All-nil, All-weaker}
use Rattle.std.specs.Prelude.{nat_le}
use Rattle.std.specs.declared.result.Result.TheVariants.{Ok}
use Rattle.form_urlencoded.specs.Form.{extend_pairs}
use Rattle.httparse.specs.Grammar.{IsToken, is_token_byte}
use Rattle.api_types.specs.TypesFile.{ServedShape}
use Rattle.history.specs.History.{History, Key, last_revision}
use Rattle.params.specs.Query.{Pairs}
use Rattle.lists.specs.Body.{continued_at}
use Rattle.lists.specs.TokenLaws.{next_pairs}
use Rattle.lists.proofs.Tokens.{query_is_read}
use Rattle.api_request.specs.declared.verb.Verb.TheVariants.{Get}
use Rattle.api_request.specs.Admit.{RequestInfo, admitted, method_named, path_admitted, place_admitted}
use Rattle.api_request.specs.Calls.{Call, Target, of_objects, collection_in}
use Rattle.verbs.specs.Machine.{IsMachine}
use Rattle.api_validation.specs.Parameters.{read_or_refused}
use Rattle.wire.specs.Heads.{max_head}
use Rattle.wire.proofs.Lines.{passes_each}
use Rattle.indexer.specs.Objects.{Stored}
use Rattle.requests.specs.Asks.{Asks}
use Rattle.requests.specs.Decision.{accepted, and_then, decided_by}
use Rattle.requests.specs.Refusals.{head_too_large, refuse}
use Rattle.wire_laws.specs.Printed.{IsPrinted, IsRequest, IsTooLong}
use Rattle.wire_laws.proofs.Asking.{bodiless_asks}
use Rattle.wire_laws.proofs.PrintedRequests.{too_long_says}
use Rattle.reflector.specs.Client.{place_in}
use Rattle.reflector.specs.FollowsLaws.{IsPart}
use Rattle.reflector.specs.Requests.{list_query, path_of, watch_query}
use Rattle.reflector.specs.Faults.{is_page_size}
use Rattle.world_laws.proofs.Mirror.{server_of}
use Rattle.world_laws.proofs.Mirrored.{key_at}
use Rattle.world_laws.proofs.Pages.{token_behind}
use Rattle.world_laws.proofs.Passes.{AsksFor, IsListCall, IsNextCall, IsWatchCall, request_with}
use Rattle.world_laws.proofs.Queries.{IsVisible, first_is_read, first_pairs, first_query, form_visible, next_query, visible_text, visible_uri, watch_is_read, watch_pairs, watch_query_is}
use Rattle.world_laws.proofs.Routed.{IsPathByte, path_bytes, path_reaches, resource_for, unasked}
use Rattle.world_laws.specs.Tasks.{IsTask, Task, client_settings, wanted_by}

get_is_token : IsToken (codes "GET")
unfolding is_token_byte
get_is_token = (omega arith, passes_each is_token_byte (codes "GET") refl)

-- a size of pages is small
page_is_low : (size : ℕ) → is_page_size size ≡ true → size ≤ last_revision
page_is_low size is = let low : size ≤ 500 = leb-true size 500 (and_parts (nat_le 1 size) (nat_le size 500) is).1 in omega (arith, low)

module _ (types : List ServedShape) (task : Task) (is : IsTask types task) where
  -- what is asked of: the objects of the type, in the namespace or in all
  abbrev target_is : Target
  target_is = of_objects task.settings.kind (collection_in task.settings.namespace) Get

  abbrev call_with : List ℕ → Call
  call_with query = record { target = target_is; query = query; body = None; agent = None; ticked = 0 }

  place : RequestInfo
  place = record { resource = resource_for task.settings.namespace; kind = task.settings.kind; namespace = task.settings.namespace; name = None }

  got : (namespace : Option (List ℕ)) → place_admitted (record { resource = resource_for namespace; kind = task.settings.kind; namespace = namespace; name = None }) (method_named (codes "GET")) None ≡ Ok (of_objects task.settings.kind (collection_in namespace) Get)
  got None = refl
  got (Some namespace) = refl

  is_admitted : admitted types (method_named (codes "GET")) (path_of (wanted_by task)) None ≡ Ok target_is
  is_admitted = ap (λ (o : Option RequestInfo). path_admitted types o (method_named (codes "GET")) (path_of (wanted_by task)) None) (path_reaches types task is) ∙ got task.settings.namespace

  target_visible : (query : List ℕ) → All IsVisible query → All IsVisible (path_of (wanted_by task) ++ 63 ∷ query)
  target_visible query all =
      All-append IsVisible (path_of (wanted_by task)) (63 ∷ query)
      (All-weaker IsPathByte IsVisible (λ b byte. record { above = byte.above; below = byte.below }) (path_of (wanted_by task)) (path_bytes types task is))
      (All-cons IsVisible 63 query (record { above = omega arith; below = omega arith }) all)

  is_request : (query : List ℕ) → All IsVisible query → IsRequest (codes "GET") (path_of (wanted_by task) ++ 63 ∷ query) None
  is_request query all =
      let visible = target_visible query all in
      let whole : List ℕ = path_of (wanted_by task) ++ 63 ∷ query in
      record { token = get_is_token; path = refl; visible = visible_uri whole visible; text = visible_text whole visible; media = tt }

  -- such a request asks the call of its query, or its head is too long
  asks_or_long : (query : List ℕ) → All IsVisible query → Asks types (request_with task query) (refuse head_too_large) ⊎ Asks types (request_with task query) (accepted (call_with query))
  asks_or_long query all = by_length (nat_le (length (request_with task query)) max_head) refl
    where
      by_length : (fits : Bool) → nat_le (length (request_with task query)) max_head ≡ fits
          → Asks types (request_with task query) (refuse head_too_large) ⊎ Asks types (request_with task query) (accepted (call_with query))
      by_length true fits =
          let small : length (request_with task query) ≤ max_head = leb-true (length (request_with task query)) max_head fits in
          let printed : IsPrinted (codes "GET") (path_of (wanted_by task) ++ 63 ∷ query) None = record { parts = is_request query all; fits = small } in
          inr (subst (Asks types (request_with task query))
          (ap (λ r. and_then (decided_by r) (λ target. accepted (record { target = target; query = query; body = None; agent = None; ticked = 0 }))) is_admitted)
          (bodiless_asks types (codes "GET") (path_of (wanted_by task)) query (unasked (path_of (wanted_by task)) (path_bytes types task is)) refl printed))
      by_length false long =
          let large : max_head < length (request_with task query) = leb-false (length (request_with task query)) max_head long in
          let too_long : IsTooLong (codes "GET") (path_of (wanted_by task) ++ 63 ∷ query) None = record { parts = is_request query all; long = large } in
          inl (refuse head_too_large, too_long_says (codes "GET") (path_of (wanted_by task) ++ 63 ∷ query) None too_long, refl)

  -- what is so of the call of its query, the request asks for
  asks_for : (query : List ℕ) (IsSuch : Call → Type 0) → All IsVisible query → IsSuch (call_with query) → AsksFor types (request_with task query) IsSuch
  asks_for query IsSuch all such = by_cases (asks_or_long query all)
    where
      by_cases : Asks types (request_with task query) (refuse head_too_large) ⊎ Asks types (request_with task query) (accepted (call_with query)) → AsksFor types (request_with task query) IsSuch
      by_cases (inl too_long) = inl too_long
      by_cases (inr asks) = inr (call_with query, asks, such)

pub asks_first : (types : List ServedShape) (task : Task) → IsTask types task → AsksFor types (request_with task (list_query (client_settings task) None)) (IsListCall types task None)
asks_first types task is =
    let labels : List ℕ = task.settings.selector in
    let page : ℕ = task.settings.page in
    subst (λ q. AsksFor types (request_with task q) (IsListCall types task None)) (sym (first_query (client_settings task)))
    (asks_for types task is (extend_pairs [] (first_pairs page labels)) (IsListCall types task None) (form_visible [] (first_pairs page labels) (All-nil IsVisible)) (record {
      served = is.served;
      gets = refl;
      says = ap read_or_refused (first_is_read page labels task.requirements (page_is_low page is.page) is.text is.selector);
      unwatched = refl;
    }))

pub asks_next : (types : List ServedShape) (task : Task) (machine : History) (r : ℕ) (token : List ℕ) (paged_list : List Stored) → IsTask types task → IsMachine types machine
    → r ≤ machine.current → IsPart (server_of task machine) r paged_list (Some token) → AsksFor types (request_with task (list_query (client_settings task) (Some token))) (IsNextCall types task r paged_list)
asks_next types task machine r token paged_list is is_machine come part =
    let behind = token_behind types task is machine is_machine r paged_list token come part in
    let o : Stored = behind.0 in
    let k : Key = key_at task.settings.kind (place_in o) in
    let labels : List ℕ = task.settings.selector in
    let page : ℕ = task.settings.page in
    let pairs : Pairs = next_pairs page (continued_at r k) labels in
    subst (λ q. AsksFor types (request_with task q) (IsNextCall types task r paged_list))
    (sym (ap (λ t. list_query (client_settings task) (Some t)) behind.2 ∙ next_query (client_settings task) (continued_at r k)))
    (asks_for types task is (extend_pairs [] pairs) (IsNextCall types task r paged_list) (form_visible [] pairs (All-nil IsVisible)) (
      o,
      behind.1,
      record {
        served = is.served;
        gets = refl;
        says = ap read_or_refused (query_is_read r page k labels task.requirements behind.3 (page_is_low page is.page) is.text is.selector);
        unwatched = refl;
      },
    ))

pub asks_watch : (types : List ServedShape) (task : Task) (r : ℕ) → IsTask types task → r ≤ last_revision → AsksFor types (request_with task (watch_query (client_settings task) r)) (IsWatchCall types task r)
asks_watch types task r is low =
    let labels : List ℕ = task.settings.selector in
    subst (λ q. AsksFor types (request_with task q) (IsWatchCall types task r)) (sym (watch_query_is (client_settings task) r))
    (asks_for types task is (extend_pairs [] (watch_pairs r labels)) (IsWatchCall types task r) (form_visible [] (watch_pairs r labels) (All-nil IsVisible)) (record {
      served = is.served;
      gets = refl;
      says = ap read_or_refused (watch_is_read r labels task.requirements low is.text is.selector);
      watches = refl;
      after = refl;
    }))
