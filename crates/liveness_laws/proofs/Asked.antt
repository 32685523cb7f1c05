-- The client's request for a page asks the call for that page, where its head is within the server's limit.
use Rattle.std.proofs.Common.{◌≡◌, ℕ, ◌≤◌, true, List, [], ◌∷◌, ◌++◌, All, length, Option, Some, None, codes, refl, sym, ap, subst, ◌∙◌, arith, leb-true}
use Rattle.std.proofs.lemmas.Bool.{and_parts}
use Rattle.std.proofs.lemmas.List.Elements.{All-append, All-cons, All-nil, All-weaker}
use Rattle.std.specs.Prelude.{nat_le}
use Rattle.std.specs.declared.result.Result.TheVariants.{Ok}
use Rattle.form_urlencoded.specs.Form.{extend_pairs}
use Rattle.httparse.specs.Grammar.{IsToken, is_token_byte}
use Rattle.api_types.specs.TypesFile.{ServedShape}
use Rattle.history.specs.History.{Key, last_revision}
use Rattle.params.specs.Query.{Pairs}
use Rattle.lists.specs.Body.{continued_at}
use Rattle.lists.specs.TokenLaws.{CanBeListed, next_pairs, token_after}
use Rattle.lists.proofs.Tokens.{query_is_read}
use Rattle.api_request.specs.declared.verb.Verb.TheVariants.{Get}
use Rattle.api_request.specs.Admit.{RequestInfo, admitted, method_named, path_admitted, place_admitted}
use Rattle.api_request.specs.Calls.{Call, Target, of_objects, collection_in}
use Rattle.api_validation.specs.Parameters.{read_or_refused}
use Rattle.wire.specs.Heads.{max_head}
use Rattle.wire.proofs.Lines.{passes_each}
use Rattle.requests.specs.Asks.{Asks}
use Rattle.requests.specs.Decision.{accepted, and_then, decided_by}
use Rattle.wireclient.specs.Request.{request}
use Rattle.wire_laws.specs.Printed.{IsPrinted, IsRequest}
use Rattle.reflector.specs.Faults.{is_page_size}
use Rattle.reflector.specs.Requests.{list_query, path_of}
use Rattle.liveness_laws.specs.BothEnds.{RequestsAsk}
use Rattle.liveness_laws.specs.Listable.{list_request}
use Rattle.world_laws.proofs.Queries.{IsVisible, first_is_read, first_pairs, first_query, form_visible, next_query, visible_text, visible_uri}
use Rattle.world_laws.proofs.Routed.{IsPathByte, path_bytes, path_reaches, resource_for, unasked}
use Rattle.world_laws.specs.ListCalls.{IsListCall}
use Rattle.world_laws.specs.Tasks.{IsTask, Task, client_settings, wanted_by}

get_is_token : IsToken (codes "GET")
unfolding is_token_byte
get_is_token = (omega arith, passes_each is_token_byte (codes "GET") refl)

-- a size of pages is small
pub page_is_low : (size : ℕ) → is_page_size size ≡ true → size ≤ 500
page_is_low size is = leb-true size 500 (and_parts (nat_le 1 size) (nat_le size 500) is).1

module _ (ask : RequestsAsk) (types : List ServedShape) (task : Task) (is : IsTask types task) where
  abbrev asked_of : Target
  asked_of = of_objects task.settings.kind (collection_in task.settings.namespace) Get

  abbrev pub call_with : List ℕ → Call
  call_with query = record { target = asked_of; query = query; body = None; agent = None; ticked = 0 }

  got : (namespace : Option (List ℕ))
      → place_admitted (record { resource = resource_for namespace; kind = task.settings.kind; namespace = namespace; name = None }) (method_named (codes "GET")) None ≡ Ok (of_objects task.settings.kind (collection_in namespace) Get)
  got None = refl
  got (Some namespace) = refl

  is_admitted : admitted types (method_named (codes "GET")) (path_of (wanted_by task)) None ≡ Ok asked_of
  is_admitted = ap (λ (o : Option RequestInfo). path_admitted types o (method_named (codes "GET")) (path_of (wanted_by task)) None) (path_reaches types task is) ∙ got task.settings.namespace

  visible : (query : List ℕ) → All IsVisible query → All IsVisible (path_of (wanted_by task) ++ 63 ∷ query)
  visible query all =
      All-append IsVisible (path_of (wanted_by task)) (63 ∷ query)
      (All-weaker IsPathByte IsVisible (λ b byte. record { above = byte.above; below = byte.below }) (path_of (wanted_by task)) (path_bytes types task is))
      (All-cons IsVisible 63 query (record { above = omega arith; below = omega arith }) all)

  is_request : (query : List ℕ) → All IsVisible query → IsRequest (codes "GET") (path_of (wanted_by task) ++ 63 ∷ query) None
  is_request query all =
      let whole : List ℕ = path_of (wanted_by task) ++ 63 ∷ query in
      let seen : All IsVisible whole = visible query all in
      record { token = get_is_token; path = refl; visible = visible_uri whole seen; text = visible_text whole seen; media = tt }

  asks_call : (query : List ℕ) → All IsVisible query → length (request (codes "GET") (path_of (wanted_by task) ++ 63 ∷ query) None) ≤ max_head
      → Asks types (request (codes "GET") (path_of (wanted_by task) ++ 63 ∷ query) None) (accepted (call_with query))
  asks_call query all fits =
      let small : length (request (codes "GET") (path_of (wanted_by task) ++ 63 ∷ query) None) ≤ max_head = fits in
      let printed : IsPrinted (codes "GET") (path_of (wanted_by task) ++ 63 ∷ query) None = record { parts = is_request query all; fits = small } in
      subst (Asks types (request (codes "GET") (path_of (wanted_by task) ++ 63 ∷ query) None))
      (ap (λ r. and_then (decided_by r) (λ target. accepted (record { target = target; query = query; body = None; agent = None; ticked = 0 }))) is_admitted)
      (ask types (codes "GET") (path_of (wanted_by task)) query (unasked (path_of (wanted_by task)) (path_bytes types task is)) refl printed)

  low : task.settings.page ≤ last_revision
  low = let few : task.settings.page ≤ 500 = page_is_low task.settings.page is.page in omega (arith, few)

  -- the first page
  pub asks_first : length (list_request task None) ≤ max_head → (call : Call) × Asks types (list_request task None) (accepted call) × IsListCall types task None call
  asks_first fits =
      let pairs : Pairs = first_pairs task.settings.page task.settings.selector in
      let query : List ℕ = extend_pairs [] pairs in
      let same : list_query (client_settings task) None ≡ query = first_query (client_settings task) in
      let bytes : List ℕ → List ℕ = λ q. request (codes "GET") (path_of (wanted_by task) ++ 63 ∷ q) None in (
        call_with query,
        subst (λ q. Asks types (bytes q) (accepted (call_with query))) (sym same)
            (asks_call query (form_visible [] pairs (All-nil IsVisible)) (subst (λ q. length (bytes q) ≤ max_head) same fits)),
        record {
          served = is.served;
          gets = refl;
          says = ap read_or_refused (first_is_read task.settings.page task.settings.selector task.requirements low is.text is.selector);
          unwatched = refl;
        },
      )

  -- the page behind a key that can be listed
  pub asks_next : (r : ℕ) (k : Key) → CanBeListed r k → length (list_request task (Some (continued_at r k))) ≤ max_head
      → (call : Call) × Asks types (list_request task (Some (continued_at r k))) (accepted call) × IsListCall types task (Some (token_after r k)) call
  asks_next r k can fits =
      let pairs : Pairs = next_pairs task.settings.page (continued_at r k) task.settings.selector in
      let query : List ℕ = extend_pairs [] pairs in
      let same : list_query (client_settings task) (Some (continued_at r k)) ≡ query = next_query (client_settings task) (continued_at r k) in
      let bytes : List ℕ → List ℕ = λ q. request (codes "GET") (path_of (wanted_by task) ++ 63 ∷ q) None in (
        call_with query,
        subst (λ q. Asks types (bytes q) (accepted (call_with query))) (sym same)
            (asks_call query (form_visible [] pairs (All-nil IsVisible)) (subst (λ q. length (bytes q) ≤ max_head) same fits)),
        record {
          served = is.served;
          gets = refl;
          says = ap read_or_refused (query_is_read r task.settings.page k task.settings.selector task.requirements can low is.text is.selector);
          unwatched = refl;
        },
      )
