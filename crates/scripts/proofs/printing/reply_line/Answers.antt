use Rattle.std.proofs.Common.{◌∙◌, [], ap, map}
use Rattle.std.specs.List.{flat_map}
use Rattle.std.proofs.lemmas.Result.{IfOk-weaker}
use Rattle.wireclient.specs.Views.{reply_item_of}
use Rattle.scripts.specs.Output.{words_of}
use Rattle.scripts.proofs.printing.reply_line.Goals as goal

pub returns-in-Ok : goal.returns-in-Ok
returns-in-Ok c =
    let items = map reply_item_of c.in-Ok.items.items in
    IfOk-weaker c.line_of.result _ _ (λ v e.
    (items, c.in-Ok.ensures.emitted [] [] c.new.ensures.represents c.new.ensures.nothing, e ∙ ap (λ parts. flat_map words_of (map reply_item_of parts)) c.deref.ensures.value))
    c.line_of.ensures
