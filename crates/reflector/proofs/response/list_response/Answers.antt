use Rattle.std.proofs.Common.{◌≡◌, subst, sym}
use Rattle.std.specs.Prelude.{IfOk}
use Rattle.wireclient.specs.Views.{reply_item_of}
use Rattle.decoder.specs.Pages.{page_in}
use Rattle.decoder.specs.Views.{wanted_of}
use Rattle.reflector.specs.ReceivedViews.{list_relist_reason}
use Rattle.reflector.specs.RelistReasons.{body_reason, list_item_reason}
use Rattle.reflector.proofs.response.list_response.Goals as goal

pub returns-in-Body-clause-relist_reason : goal.returns-in-Body-clause-relist_reason
returns-in-Body-clause-relist_reason c = λ rules.
    let wanted = wanted_of c.args.wanted.now in
    subst (λ x. IfOk c.page_response.result (λ n. list_relist_reason rules n ≡ list_item_reason wanted rules (reply_item_of x))) (sym c.in-Body.is)
    (subst (λ bytes. IfOk c.page_response.result (λ n. list_relist_reason rules n ≡ body_reason rules (page_in wanted bytes))) c.deref.ensures.value (c.page_response.ensures.relist_reason rules))
