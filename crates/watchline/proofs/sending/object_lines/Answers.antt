use Rattle.std.proofs.Common.{◌∙◌, [], ap, map, string_bytes}
use Rattle.std.proofs.lemmas.List.{take_all}
use Rattle.history.specs.Read.{entry_of}
use Rattle.watchline.specs.Lines.{added, line_of}
use Rattle.watchline.specs.Views.{lines_in}
use Rattle.watchline.proofs.Putting.{map_twice, one_more}
use Rattle.watchline.proofs.sending.object_lines.Goals as goal

pub returns : goal.returns
returns c =
    c.loop-object.invariant ∙ ap (map (λ e. line_of (added (entry_of e)))) (take_all c.loop-object.object-index c.args.objects.now c.loop-object-test.false)
    ∙ map_twice line_of (λ e. added (entry_of e)) c.args.objects.now ∙ ap (map line_of) (map_twice added entry_of c.args.objects.now)

pub loop-object-preserved : goal.loop-object-preserved
loop-object-preserved c =
    ap lines_in c.in_ok-push.ensures.items
    ∙ one_more string_bytes (λ e. line_of (added (entry_of e))) [] c.loop-object.lines.items c.in_ok-object_line.field-0 c.args.objects.now c.loop-object.object-index c.object-item.result c.loop-object-test.true c.object-item.is
    c.in_ok-object_line.ensures c.loop-object.invariant
