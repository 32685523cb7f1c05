-- Watches that stand alike have the same turn.
use Rattle.std.proofs.Common.{◌≡◌, ℕ, zero, suc, Bool, true, false, true≢false, cond, List, ◌++◌, length, Option, None, refl, sym, ap, ap₂, subst, ◌∙◌}
use Rattle.std.specs.Prelude.{nat_lt, is_some, IfSome}
use Rattle.history.specs.History.{History, Key, Object}
use Rattle.watchline.specs.Views.{lines_in, turn_of}
use Rattle.watchline.specs.Watches.{Cursor, InitialLeft, HistoryWindow, is_none_left, no_initial_left, initial_left_from, Turn, entries_left, expiring, from_history, initial_left_by_next, initial_left_after_count, moved, pumped, sending, with_bookmarks}
use Rattle.watchline.specs.declared.cursor.ResumePoint.{ResumePoint}
use Rattle.watchline.specs.declared.cursor.Pumped.{Pumped as ThePumped}
use Rattle.requests.specs.ReplyBytes.{chunks}
use Rattle.httpedge.specs.ConnectionViews.{Pumps}
use Rattle.httpedge.specs.Effects.{lines_change}
use Rattle.httpedge.specs.declared.effect.Change.{Change}
use Rattle.httpedge.specs.SharedViews.{TurnSpan, IsTurnFrom}
use Rattle.httpedge.specs.declared.shared.CachedTurn.{CachedTurn}

-- ---- bookmarks alone are told otherwise

abbrev with_next : Turn → Bool → Turn
with_next t bookmarks = record t { next = with_bookmarks t.next bookmarks }

by_side : (c bookmarks : Bool) (x y : Turn) → cond c (with_next x bookmarks) (with_next y bookmarks) ≡ with_next (cond c x y) bookmarks
by_side true bookmarks x y = refl
by_side false bookmarks x y = refl

pumped_alike : (s : HistoryWindow) (max : ℕ) (w : Cursor) (bookmarks : Bool) → pumped s max (with_bookmarks w bookmarks) ≡ with_next (pumped s max w) bookmarks
pumped_alike s max w bookmarks = by_side (nat_lt w.position s.compacted) bookmarks (expiring s w) (sending s max w)

abbrev turn_with : List (List ℕ) → Bool → Cursor → Turn
turn_with lines ended next = record { lines = lines; ended = ended; next = next }

-- ---- a watch without objects left has none left afterwards

abbrev Stays : Cursor → Cursor → Type 0
Stays w next = next ≡ moved w next.position next.sent w.left

from_isnt : (place : Option (List ℕ × List ℕ)) → initial_left_from place ≡ no_initial_left → ⊥
from_isnt place e = cc

either : (b : Bool) → initial_left_by_next (cond b None None) ≡ no_initial_left
either true = refl
either false = refl

none_past : (max kind : ℕ) (left : InitialLeft) (es : List (Key × Object)) → left ≡ no_initial_left → initial_left_after_count max (entries_left kind left es) left ≡ left
none_past zero kind left es none = refl
none_past (suc n) kind no_initial_left es none = either (nat_lt (suc n) 0)
none_past (suc n) kind (initial_left_from place) es none = absurd (from_isnt place none)

plain_stays : (s : HistoryWindow) (max : ℕ) (w : Cursor) → w.left ≡ no_initial_left → Stays w (pumped s max w).next
plain_stays s max w none = go (nat_lt w.position s.compacted)
  where
    go : (c : Bool) → Stays w (cond c (expiring s w) (sending s max w)).next
    go true = refl
    go false = ap (moved w (sending s max w).next.position (sending s max w).next.sent) (none_past max w.kind w.left _ none)

-- ---- the last turn

abbrev pub turned : ℕ → ℕ → Bool → Change
turned bytes lines has_ended = record { bytes = bytes; lines = lines; status = None; has_ended = has_ended }

-- a change by counts of bytes and lines
pub counted : (n k : ℕ) (bytes : List ℕ) (lines : List (List ℕ)) (has_ended : Bool) → n ≡ length bytes → k ≡ length lines → turned n k has_ended ≡ lines_change bytes (length lines) has_ended
counted n k bytes lines has_ended all each = ap₂ (λ (x y : ℕ). turned x y has_ended) all each

none_left_by : (left : InitialLeft) → is_none_left left ≡ true → left ≡ no_initial_left
none_left_by no_initial_left e = refl
none_left_by (initial_left_from place) e = absurd (true≢false (sym e))

-- what a watch told is the turn of its copy, moved to where it had told before
pub is_last : (m : History) (last : CachedTurn) (w next : Cursor) (there : Option ResumePoint) (p : ThePumped) → turn_of p next ≡ pumped (from_history m) last.max w
    → IfSome there (λ r. (r.position ≡ w.position) × (r.sent ≡ w.sent)) → is_some there ≡ is_none_left w.left → TurnSpan there next last.before last.resume_point
    → last.change ≡ lines_change (chunks (lines_in p.lines.items) p.ended) (length (lines_in p.lines.items)) p.ended → last.bytes.items ≡ chunks (lines_in p.lines.items) p.ended → IsTurnFrom m last
is_last m last w next there p sent stood some ends did bytes = record {
  lines = lines_in p.lines.items;
  sent = was ∙ ap₂ (turn_with (lines_in p.lines.items)) (sym ended)
      (subst (λ (x : Cursor). Stays x next) (sym is) stays ∙ ap₂ (λ (x y : ℕ). moved last.before x y last.before.left) (sym ends.position) (sym ends.sent));
  bytes = bytes ∙ ap (chunks (lines_in p.lines.items)) (sym ended);
  did = did ∙ ap (λ (b : Bool). lines_change (chunks (lines_in p.lines.items) b) (length (lines_in p.lines.items)) b) (sym ended);
}
  where
    ended : last.change.has_ended ≡ p.ended
    ended = ap (λ (x : Change). x.has_ended) did

    none : w.left ≡ no_initial_left
    none = none_left_by w.left (sym some ∙ ap is_some ends.there_is)

    stays : Stays w next
    stays = subst (Stays w) (ap (λ (t : Turn). t.next) (sym sent)) (plain_stays (from_history m) last.max w none)

    at : (ends.start.position ≡ w.position) × (ends.start.sent ≡ w.sent)
    at = subst (λ (o : Option ResumePoint). IfSome o (λ r. (r.position ≡ w.position) × (r.sent ≡ w.sent))) ends.there_is stood

    is : last.before ≡ w
    is = ends.before_is ∙ ap (λ (x : Cursor). moved x ends.start.position ends.start.sent x.left) stays ∙ ap₂ (λ (x y : ℕ). moved w x y w.left) at.0 at.1

    was : pumped (from_history m) last.max last.before ≡ turn_of p next
    was = ap (pumped (from_history m) last.max) is ∙ sym sent

-- a watch that stands alike has that turn
pub repeats : (m : History) (last : CachedTurn) (max : ℕ) (w : Cursor) (old new : List ℕ) → IsTurnFrom m last → max ≡ last.max → w ≡ with_bookmarks last.before w.bookmarks → new ≡ old ++ last.bytes.items
    → Pumps (pumped (from_history m) max w) last.change (moved w last.resume_point.position last.resume_point.sent w.left) old new
repeats m last max w old new is same alike written =
    subst (λ (t : Turn). Pumps t last.change (moved w last.resume_point.position last.resume_point.sent w.left) old new) (sym turn)
    (written ∙ ap (λ (b : List ℕ). old ++ b) is.bytes, is.did, ap (λ (x : Cursor). moved x last.resume_point.position last.resume_point.sent x.left) alike)
  where
    then : Turn
    then = turn_with is.lines last.change.has_ended (moved last.before last.resume_point.position last.resume_point.sent last.before.left)

    turn : pumped (from_history m) max w ≡ with_next then w.bookmarks
    turn = ap₂ (λ (n : ℕ) (x : Cursor). pumped (from_history m) n x) same alike ∙ pumped_alike (from_history m) last.max last.before w.bookmarks
        ∙ ap (λ (t : Turn). with_next t w.bookmarks) is.sent
