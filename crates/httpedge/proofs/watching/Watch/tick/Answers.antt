use Rattle.std.proofs.Common.{rules, ◌≡◌, ℕ, true, List, ◌++◌, refl, sym, ap, subst, ◌∙◌}
use Rattle.std.specs.Prelude.{is_none, option_map, string_bytes}
use Rattle.httpedge.specs.declared.effect.Change.{Change}
use Rattle.httpedge.specs.ConnectionViews.{Turns, left, watch_of}
use Rattle.httpedge.specs.Watches.{line_list, ticked, with_cursor}
use Rattle.httpedge.proofs.Alike.{counted}
use Rattle.httpedge.proofs.Turning.{quiet_turns, tick_turns}
use Rattle.httpedge.proofs.watching.Watch.tick.Goals as goal

pub returns-then-not-has_ended-clause-ok : goal.returns-then-not-has_ended-clause-ok
returns-then-not-has_ended-clause-ok c = λ types m represents.
    let none : is_none c.in_ok-line.line ≡ true = search rules in
    subst (λ (change : Change). Turns (ticked types c.args.ms (watch_of c.args.self.now)) change (with_cursor (watch_of c.args.self.now) c.bookmark.new.cursor) (left c.args.out.now) (left c.args.out.now)) (sym c.none.ensures)
    (quiet_turns types c.args.ms (watch_of c.args.self.now) _ c.in_ok-line.line c.bookmark.new.cursor c.has_timed_out-has_ended.result (left c.args.out.now)
    (c.in_ok-line.ensures.bookmarked types m represents) refl c.has_timed_out-has_ended.ensures none c.if-not-has_ended.true)

pub returns-clause-ok : goal.returns-clause-ok
returns-clause-ok c = λ types m represents.
    tick_turns types c.args.ms (watch_of c.args.self.now) _ c.in_ok-line.line c.bookmark.new.cursor c.has_timed_out-has_ended.result (left c.args.out.now) (left c.add.new.self) c.in_ok-bytes.bytes.items _
    (c.in_ok-line.ensures.bookmarked types m represents) refl c.has_timed_out-has_ended.ensures c.in_ok-bytes.ensures
    (c.in_ok-add.ensures.ok ∙ ap (λ (b : List ℕ). left c.args.out.now ++ b) c.deref.ensures.value)
    (counted _ _ c.in_ok-bytes.bytes.items (line_list (option_map string_bytes c.in_ok-line.line)) _ (c.len.ensures ∙ c.in_ok-bytes.bytes.ok.0) c.line_count-lines.ensures)
