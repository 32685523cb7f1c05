use Rattle.std.proofs.Common.{sym, subst}
use Rattle.api_request.specs.Calls.{Denied}
use Rattle.api_request.specs.Reasons.{code_of}
use Rattle.requests.specs.Refusals.{too_many_connections}
use Rattle.wire_laws.proofs.Written.{IsReadable, asked_readable, code_is, refusal_readable}
use Rattle.wire_laws.proofs.PrintedReplies.{short_read}
use Rattle.wire_laws.proofs.replies.refusals_are_read.Goals as goal

pub returns-clause-asked : goal.returns-clause-asked
returns-clause-asked c = λ types bytes d asks.
    let is = asked_readable types bytes d asks in
    short_read c.replies_are_read.ensures.replies (code_of d.reason) d.allow _ (code_is d.reason) is.allow is.short

pub returns-clause-full : goal.returns-clause-full
returns-clause-full c = λ d same.
    let is = subst (λ (x : Denied). IsReadable x) (sym same) (refusal_readable too_many_connections) in
    short_read c.replies_are_read.ensures.replies (code_of d.reason) d.allow _ (code_is d.reason) is.allow is.short
