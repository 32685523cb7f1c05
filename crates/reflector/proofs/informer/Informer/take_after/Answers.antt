use Rattle.std.proofs.Common.{◌≡◌, ◌++◌, ap, map, is_some, subst}
use Rattle.std.specs.Prelude.{IfSome, OnOk}
use Rattle.indexer.specs.Objects.{shared_of}
use Rattle.decoder.specs.Views.{page_seen}
use Rattle.reflector.specs.PagedListViews.{paged_list_of}
use Rattle.reflector.specs.InformerViews.{RepresentsExceptReader}
use Rattle.reflector.proofs.Relisted.{page_taken}
use Rattle.reflector.proofs.informer.Informer.take_after.Goals as goal

pub returns-clause-taken : goal.returns-clause-taken
returns-clause-taken g c = λ cl m.
    let is = c.in_ok-all.ensures in
    let there = ap is_some c.in-Some.is in
    page_taken cl (paged_list_of c.args.paged_list) (paged_list_of c.in-Some.all) (page_seen c.args.page) (is_some c.in_ok-all.field-0) is.fits there
    (subst (λ o. IfSome o (λ all. paged_list_of all ≡ paged_list_of c.args.paged_list ++ map shared_of c.args.page.objects.items)) c.in-Some.is is.all)
    (λ d t. OnOk c.keep_paged.result (RepresentsExceptReader g.I.IndexBy.keys c.keep_paged.new.self d t)) (c.keep_paged.ensures.taken cl m)
