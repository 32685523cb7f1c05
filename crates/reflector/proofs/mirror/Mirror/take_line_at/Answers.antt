use Rattle.std.proofs.Common.{◌≡◌, Some, sym, subst}
use Rattle.std.specs.Prelude.{IfOk}
use Rattle.decoder.specs.Views.{line_seen}
use Rattle.reflector.specs.Run.{with_line}
use Rattle.reflector.specs.MirrorRepresentsViews.{MirrorRepresents}
use Rattle.reflector.specs.RelistReasons.{line_reason}
use Rattle.reflector.proofs.mirror.Mirror.take_line_at.Goals as goal

pub returns-in-Put-clause-taken : goal.returns-in-Put-clause-taken
returns-in-Put-clause-taken g c = λ cl cache st is same.
    subst (λ l. IfOk c.take_put.result (λ broken. MirrorRepresents g.I.IndexBy.keys c.take_put.new.self (with_line cl cache (line_seen l)) × (broken ≡ line_reason (Some cache) (line_seen l))))
    (sym c.in-Put.is) (c.take_put.ensures.taken cl cache st is same)

pub returns-in-Deleted-clause-taken : goal.returns-in-Deleted-clause-taken
returns-in-Deleted-clause-taken g c = λ cl cache st is same.
    subst (λ l. IfOk c.take_deleted.result (λ broken. MirrorRepresents g.I.IndexBy.keys c.take_deleted.new.self (with_line cl cache (line_seen l)) × (broken ≡ line_reason (Some cache) (line_seen l))))
    (sym c.in-Deleted.is) (c.take_deleted.ensures.taken cl cache st is same)

pub returns-in-Bookmark-clause-taken : goal.returns-in-Bookmark-clause-taken
returns-in-Bookmark-clause-taken g c = λ cl cache st is same.
    subst (λ l. MirrorRepresents g.I.IndexBy.keys c.take_bookmark.new.self (with_line cl cache (line_seen l)) × (c.take_bookmark.result ≡ line_reason (Some cache) (line_seen l))) (sym c.in-Bookmark.is)
    (c.take_bookmark.ensures.taken cl cache st is same)
