use Rattle.std.proofs.Common.{◌≡◌, ℕ, List, ◌++◌, length, Option, sym, ap, subst, ◌∙◌}
use Rattle.std.proofs.lemmas.List.{length-map}
use Rattle.std.specs.Prelude.{IfSome, string_bytes}
use Rattle.watchline.specs.Views.{lines_in}
use Rattle.watchline.specs.declared.cursor.ResumePoint.{ResumePoint}
use Rattle.watchline.specs.Watches.{Cursor, Turn}
use Rattle.requests.specs.ReplyBytes.{chunks}
use Rattle.httpedge.specs.ConnectionViews.{left}
use Rattle.httpedge.specs.Effects.{lines_change}
use Rattle.httpedge.specs.SharedViews.{TurnSpan, SharedRepresents}
use Rattle.httpedge.specs.declared.shared.Shared.{Shared}
use Rattle.httpedge.proofs.Alike.{counted, is_last, turned}
use Rattle.httpedge.proofs.shared.Shared.pump_anew.Goals as goal
use Rattle.httpedge.proofs.shared.Shared.pump_anew.Goals.{in-Some, in_default}

bytes : (c : goal.After-drop-pumped-2) → c.in_ok-bytes.bytes.items ≡ chunks (lines_in c.in_ok-pumped.pumped.lines.items) c.in_ok-pumped.pumped.ended
bytes c = c.in_ok-bytes.ensures ∙ ap (λ ls. chunks (lines_in ls) c.in_ok-pumped.pumped.ended) c.deref.ensures.value

did : (c : goal.After-drop-pumped-2) → turned c.len.result c.len-2.result c.in_ok-pumped.pumped.ended
    ≡ lines_change (chunks (lines_in c.in_ok-pumped.pumped.lines.items) c.in_ok-pumped.pumped.ended) (length (lines_in c.in_ok-pumped.pumped.lines.items)) c.in_ok-pumped.pumped.ended
did c =
    let pumped = c.in_ok-pumped.pumped in
    counted c.len.result c.len-2.result c.in_ok-bytes.bytes.items (lines_in pumped.lines.items) pumped.ended (c.len.ensures ∙ c.in_ok-bytes.bytes.ok.0)
    (c.len-2.ensures ∙ pumped.lines.ok.0 ∙ sym (length-map pumped.lines.items string_bytes))
    ∙ ap (λ (b : List ℕ). lines_change b (length (lines_in pumped.lines.items)) pumped.ended) (bytes c)

pub returns-clause-ok : goal.returns-clause-ok
returns-clause-ok c = λ types m serves.
    let sent = c.in_ok-pumped.ensures.pumped types m serves.0 in (
      c.in_ok-add.ensures.ok ∙ ap (λ (b : List ℕ). left c.args.out.now ++ b) (c.deref-2.ensures.value ∙ bytes c ∙ ap (λ (t : Turn). chunks t.lines t.ended) sent),
      did c ∙ ap (λ (t : Turn). lines_change (chunks t.lines t.ended) (length t.lines) t.ended) sent,
      ap (λ (t : Turn). t.next) sent,
    )

pub returns-clause-serves : goal.returns-clause-serves
returns-clause-serves c = λ types m serves.
    let sent = c.in_ok-pumped.ensures.pumped types m serves.0 in
    let still = c.pump.ensures.same types m serves.0 in
    elim c.match-span_to_cache.branch [
      | in-Some w ↦ subst (λ (s : Shared). SharedRepresents s types m) (sym w.self-is)
          (w.keep.ensures types m (still, serves.1)
          (is_last m _ c.args.cursor.now c.pump.new.cursor c.resume_point-before.result c.in_ok-pumped.pumped sent c.resume_point-before.ensures.sent c.resume_point-before.ensures.some
          (subst (λ (o : Option (Cursor × ResumePoint)). IfSome o (λ p. TurnSpan c.resume_point-before.result c.pump.new.cursor p.0 p.1)) w.in-Some.is c.span_to_cache.ensures) (did c) (bytes c)))
      | in_default w ↦ subst (λ (s : Shared). SharedRepresents s types m) (sym w.self-is) (still, serves.1)
    ]
