-- When what all connections share stands for a machine: the API does, and the last turn is what a watch sends from that machine.
use Rattle.std.specs.Prelude.{◌≡◌, ℕ, List, length, Option, Some, IfSome}
use Rattle.api_types.specs.TypesFile.{ServedShape}
use Rattle.history.specs.History.{History}
use Rattle.verbs.specs.Views.{ApiRepresents}
use Rattle.watchline.specs.Watches.{Cursor, from_history, moved, pumped}
use Rattle.watchline.specs.declared.cursor.ResumePoint.{ResumePoint}
use Rattle.requests.specs.ReplyBytes.{chunks}
use Rattle.httpedge.specs.Effects.{lines_change}
use Rattle.httpedge.specs.declared.shared.CachedTurn.{CachedTurn}
use Rattle.httpedge.specs.declared.shared.Shared.{Shared}

-- a watch that stands as the turn's did sends these lines, its bytes are their chunks, and its change says so
pub record IsTurnFrom (m : History) (last : CachedTurn) : Type 0 where
  pub lines : List (List ℕ)
  pub sent : pumped (from_history m) last.max last.before
      ≡ record { lines = lines; ended = last.change.has_ended; next = moved last.before last.resume_point.position last.resume_point.sent last.before.left }
  pub bytes : last.bytes.items ≡ chunks lines last.change.has_ended
  pub did : last.change ≡ lines_change (chunks lines last.change.has_ended) (length lines) last.change.has_ended

-- a turn's end points, for private clauses: the cursor after it (`next`) and before it, the point that it was sent from and the one that it was sent to
pub record TurnSpan (there : Option ResumePoint) (next before : Cursor) (here : ResumePoint) : Type 0 where
  pub start : ResumePoint
  pub there_is : there ≡ Some start
  pub before_is : before ≡ moved next start.position start.sent next.left
  pub position : here.position ≡ next.position
  pub sent : here.sent ≡ next.sent

abbrev pub SharedRepresents : Shared → List ServedShape → History → Type 0
SharedRepresents shared types m = ApiRepresents shared.api types m × IfSome shared.last (IsTurnFrom m)
