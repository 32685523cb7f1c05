use Rattle.std.proofs.Common.{◌∙◌, ap, ap₂, map, subst}
use Rattle.std.specs.Io.KnownBytes.{Appends}
use Rattle.reflector.specs.Views.{notice_seen}
use Rattle.mirroring.specs.Printing.{mirror_text}
use Rattle.mirroring.specs.Turns.{WritesPrefix}
use Rattle.mirroring.proofs.Texts.{ok_then, on_err, prefix_none}
use Rattle.mirroring.proofs.turning.tell.Goals as goal

pub returns-in_err-text-clause-prefix : goal.returns-in_err-text-clause-prefix
returns-in_err-text-clause-prefix g c = λ before d bytes items runs was. on_err _ _ (prefix_none _ _)

pub returns-clause-told : goal.returns-clause-told
returns-clause-told g c = λ before d bytes items runs was.
    let first = c.first_revision-first.ensures before d.cache was (c.revision.ensures d bytes items runs) in
    let notices = ap (map notice_seen) c.deref.ensures.value ∙ c.take_notices-notices.ensures.notices d bytes items runs in
    let text = c.as_str.ensures.value ∙ c.in_ok-text.ensures ∙ ap₂ mirror_text first notices in
    ok_then c.report.result _ _ _ c.map_err.ensures.variant (λ all. subst (Appends (g.W.Write.contents c.args.out.now) (g.W.Write.contents c.report.new.out)) text all) c.report.ensures.all

pub returns-clause-prefix : goal.returns-clause-prefix
returns-clause-prefix g c = λ before d bytes items runs was.
    let first = c.first_revision-first.ensures before d.cache was (c.revision.ensures d bytes items runs) in
    let notices = ap (map notice_seen) c.deref.ensures.value ∙ c.take_notices-notices.ensures.notices d bytes items runs in
    let text = c.as_str.ensures.value ∙ c.in_ok-text.ensures ∙ ap₂ mirror_text first notices in
    on_err _ _ (subst (WritesPrefix (g.W.Write.contents c.args.out.now) (g.W.Write.contents c.report.new.out)) text c.report.ensures.prefix)
