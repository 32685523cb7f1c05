-- What is written of a call's answer, and what the API then stands for.
use Rattle.std.specs.Prelude.{◌≡◌, ℕ, List, Option}
use Rattle.api_types.specs.TypesFile.{ServedShape}
use Rattle.history.specs.History.{History}
use Rattle.answers.specs.WatchFrom.{WatchFrom}
use Rattle.api_request.specs.Calls.{Call}
use Rattle.verbs.specs.declared.api.Api.{Api}
use Rattle.verbs.specs.Machine.{after}
use Rattle.verbs.specs.Views.{ApiRepresents}
use Rattle.verbs.specs.Step.{planned}
use Rattle.requests.specs.Replies.{answer_bytes}

-- these bytes, this status and this watch answer the call, and the API then stands for the machine after it
abbrev pub Serves : List ServedShape → History → Call → List ℕ → ℕ → Option WatchFrom → Api → Type 0
Serves types m call bytes status watch api =
    (bytes ≡ answer_bytes (planned types m call).answer watch) × (status ≡ (planned types m call).answer.status) × (watch ≡ (planned types m call).answer.watch) × ApiRepresents api types (after m (planned types m call).changes)
