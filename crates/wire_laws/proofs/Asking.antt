-- What a request that the client prints asks.
use Rattle.std.proofs.Common.{◌≡◌, ℕ, ◌≤◌, Bool, true, false, List, [], ◌∷◌, ◌++◌, length, Option, None, Some, refl, sym, ap, ◌∙◌}
use Rattle.std.specs.Prelude.{◌&&◌, if◌then◌else◌}
use Rattle.std.specs.List.{list_any}
use Rattle.serde_json.specs.Data.{Data}
use Rattle.api_types.specs.TypesFile.{ServedShape}
use Rattle.api_request.specs.Admit.{admitted, method_named}
use Rattle.api_request.specs.declared.method.Method.{Method}
use Rattle.api_request.specs.declared.method.Method.TheVariants.{Get, Post, Put, Patch, Delete}
use Rattle.requests.specs.Asks.{CallDecision, Asks}
use Rattle.requests.specs.Bodies.{body_in, checked_media, declared_body, deletes, max_body, may_have_body, needed_length, needs_body, optional_length, path_of, query_of, writes_by_body}
use Rattle.requests.specs.Decision.{Decision, accepted, and_then, decided_by}
use Rattle.requests.specs.Heads.{missing, Request}
use Rattle.std.specs.declared.result.Result.TheVariants.{Ok}
use Rattle.wireclient.specs.Request.{request}
use Rattle.wire_laws.specs.Printed.{IsPrinted, asked_with, asked_without, is_question, said_of}
use Rattle.wire_laws.proofs.PrintedRequests.{body_back, request_says}
use Rattle.wire_laws.proofs.Queries.{path_alone, path_back, query_alone, query_back}

-- a method that needs a body is not DELETE
no_delete : (method : List ℕ) → needs_body method ≡ true → may_have_body method ≡ false
no_delete method needs = go (method_named method) needs
  where
    go : (named : Option Method) → writes_by_body named ≡ true → deletes named ≡ false
    go None is = refl
    go (Some Get) is = refl
    go (Some Post) is = refl
    go (Some Put) is = refl
    go (Some Patch) is = refl
    go (Some Delete) is = absurd cc

media_checked : (method request_target media bytes : List ℕ) → needs_body method ≡ true → checked_media (said_of method request_target (Some (media, bytes))) ≡ Some media
media_checked method request_target media bytes needs = go (may_have_body method) _ (no_delete method needs)
  where
    go : (t other : Bool) → t ≡ false → (if t && other then None else Some media) ≡ Some media
    go true other is = absurd cc
    go false other is = refl

-- by its parts
abbrev asked_in : List ServedShape → List ℕ → List ℕ → Option (List ℕ) → List ℕ → Decision (Option Data) → CallDecision
asked_in types method path media query body =
    and_then (decided_by (admitted types (method_named method) path media)) (λ target. and_then body (λ value. accepted (record { target = target; query = query; body = value; agent = None; ticked = 0 })))

pub request_asks : (types : List ServedShape) (method path query media bytes : List ℕ) → list_any is_question path ≡ false → needs_body method ≡ true → length bytes ≤ max_body
    → IsPrinted method (path ++ 63 ∷ query) (Some (media, bytes)) → Asks types (request method (path ++ 63 ∷ query) (Some (media, bytes))) (asked_with types method path query media bytes)
request_asks types method path query media bytes plain needs small printed =
    let request_target = path ++ 63 ∷ query in
    let said : Request = said_of method request_target (Some (media, bytes)) in (
      accepted (said, bytes),
      request_says method request_target (Some (media, bytes)) printed,
      sym (
          ap (λ (p : List ℕ). asked_in types method p (checked_media said) (query_of request_target) (body_in said bytes)) (path_back path query plain)
          ∙ ap (λ (m : Option (List ℕ)). asked_in types method path m (query_of request_target) (body_in said bytes)) (media_checked method request_target media bytes needs)
          ∙ ap (λ (q : List ℕ). asked_in types method path (Some media) q (body_in said bytes)) (query_back path query plain)
          ∙ ap (λ (b : Decision (Option Data)). asked_in types method path (Some media) query b) (body_back method request_target media bytes needs small)
          ),
    )

-- ---- without a body

abbrev nothing : Option (List ℕ)
nothing = None

none_checked : (method request_target : List ℕ) → checked_media (said_of method request_target None) ≡ None
none_checked method request_target = go (may_have_body method) true
  where
    go : (t other : Bool) → (if t && other then nothing else nothing) ≡ nothing
    go true true = refl
    go true false = refl
    go false other = refl

no_body : (method request_target : List ℕ) → needs_body method ≡ false → body_in (said_of method request_target None) [] ≡ accepted None
no_body method request_target needs = go (needs_body method) (may_have_body method) needs
  where
    go : (needs may : Bool) → needs ≡ false
        → and_then (decided_by (if needs then needed_length missing else if may then optional_length missing else Ok None)) (λ n. declared_body n []) ≡ accepted None
    go true may is = absurd cc
    go false true is = refl
    go false false is = refl

-- a target whose path and query are these
asks_at : (types : List ServedShape) (method path query request_target : List ℕ) → path_of request_target ≡ path → query_of request_target ≡ query → needs_body method ≡ false
    → IsPrinted method request_target None → Asks types (request method request_target None) (asked_without types method path query)
asks_at types method path query request_target path_is query_is needs printed =
    let said : Request = said_of method request_target None in (
      accepted (said, []),
      request_says method request_target None printed,
      sym (
          ap (λ (p : List ℕ). asked_in types method p (checked_media said) (query_of request_target) (body_in said [])) path_is
          ∙ ap (λ (m : Option (List ℕ)). asked_in types method path m (query_of request_target) (body_in said [])) (none_checked method request_target)
          ∙ ap (λ (q : List ℕ). asked_in types method path None q (body_in said [])) query_is
          ∙ ap (λ (b : Decision (Option Data)). asked_in types method path None query b) (no_body method request_target needs)
          ),
    )

pub bodiless_asks : (types : List ServedShape) (method path query : List ℕ) → list_any is_question path ≡ false → needs_body method ≡ false → IsPrinted method (path ++ 63 ∷ query) None
    → Asks types (request method (path ++ 63 ∷ query) None) (asked_without types method path query)
bodiless_asks types method path query plain needs printed =
    asks_at types method path query (path ++ 63 ∷ query) (path_back path query plain) (query_back path query plain) needs printed

pub path_asks : (types : List ServedShape) (method path : List ℕ) → list_any is_question path ≡ false → needs_body method ≡ false → IsPrinted method path None
    → Asks types (request method path None) (asked_without types method path [])
path_asks types method path plain needs printed = asks_at types method path [] path (path_alone path plain) (query_alone path plain) needs printed
