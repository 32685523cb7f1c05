use Rattle.std.proofs.Common.{◌≡◌, subst, sym}
use Rattle.std.specs.Prelude.{IfOk}
use Rattle.wireclient.specs.Views.{reply_item_of}
use Rattle.decoder.specs.Lines.{line_in}
use Rattle.decoder.specs.Views.{wanted_of}
use Rattle.reflector.specs.ReceivedViews.{watch_relist_reason}
use Rattle.reflector.specs.RelistReasons.{text_reason, watch_item_reason}
use Rattle.reflector.proofs.response.watch_response.Goals as goal

pub returns-in-Line-clause-relist_reason : goal.returns-in-Line-clause-relist_reason
returns-in-Line-clause-relist_reason c = λ now.
    let wanted = wanted_of c.args.wanted.now in
    subst (λ x. IfOk c.line_response.result (λ n. watch_relist_reason now n ≡ watch_item_reason wanted now (reply_item_of x))) (sym c.in-Line.is)
    (subst (λ bytes. IfOk c.line_response.result (λ n. watch_relist_reason now n ≡ text_reason now (line_in wanted bytes))) c.deref.ensures.value (c.line_response.ensures.relist_reason now))
