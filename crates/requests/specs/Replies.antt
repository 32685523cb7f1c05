-- What is written of a refusal and of a call's answer.
use Rattle.std.specs.Prelude.{ℕ, List, Option, Some, None}
use Rattle.serde_json.specs.Written.{compact_text}
use Rattle.api_request.specs.Calls.{Answer, Denied}
use Rattle.api_request.specs.Reasons.{code_of}
use Rattle.api_request.specs.Status.{status_value}
use Rattle.requests.specs.ReplyBytes.{reply, watch_head}
use Rattle.answers.specs.WatchFrom.{WatchFrom}

-- the reply of a refusal: its Status as compact JSON
abbrev pub refusal_reply : Denied → List ℕ
refusal_reply d = reply (code_of d.reason) d.allow (compact_text (status_value d.reason d.message))

-- the reply of a call's answer, whose body is a text
abbrev pub answer_reply : Answer → List ℕ
answer_reply a = reply a.status None a.body

-- what is written of an answer: its reply, or the head of the watch that it opens
abbrev pub answer_bytes : Answer → Option WatchFrom → List ℕ
answer_bytes a None = answer_reply a
answer_bytes a (Some from) = watch_head a.status
