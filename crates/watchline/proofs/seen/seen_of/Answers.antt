use Rattle.std.proofs.Common.{◌≡◌, ◌-◌, ℕ, Bool, true, false, List, Option, subst}
use Rattle.std.specs.Prelude.{IfOk, IfSome}
use Rattle.selector.specs.Fields.{NameDecides}
use Rattle.history.specs.Read.{change_of}
use Rattle.history.specs.Seen.{SeenChange}
use Rattle.history.specs.View.{state_in}
use Rattle.watchline.specs.Views.{seen_list}
use Rattle.watchline.proofs.InAll.{seen_as_all, seen_as_none}
use Rattle.watchline.proofs.seen.seen_of.Goals as goal

pub returns-in-Some-true-clause-seen : goal.returns-in-Some-true-clause-seen
returns-in-Some-true-clause-seen c =
    let change = change_of c.args.change in
    let decides = subst (λ (name : List ℕ). NameDecides c.args.selector.now name true) c.as_str.ensures.value
    (subst (λ (b : Bool). NameDecides c.args.selector.now c.as_str.result.now b) c.in-Some-true.field-0-test
    (subst (λ (o : Option Bool). IfSome o (NameDecides c.args.selector.now c.as_str.result.now)) c.in-Some-true.is c.decided_by_name.ensures)) in
    subst (λ (seen : List SeenChange). IfOk c.seen_in_all.result (λ o. seen_list o ≡ seen)) (seen_as_all c.args.selector.now (state_in c.args.store.now (c.args.change.revision - 1)) change decides) c.seen_in_all.ensures.seen

pub returns-in-Some-false-clause-seen : goal.returns-in-Some-false-clause-seen
returns-in-Some-false-clause-seen c =
    let change = change_of c.args.change in
    let decides = subst (λ (name : List ℕ). NameDecides c.args.selector.now name false) c.as_str.ensures.value
    (subst (λ (b : Bool). NameDecides c.args.selector.now c.as_str.result.now b) c.in-Some-false.field-0-test
    (subst (λ (o : Option Bool). IfSome o (NameDecides c.args.selector.now c.as_str.result.now)) c.in-Some-false.is c.decided_by_name.ensures)) in
    seen_as_none c.args.selector.now (state_in c.args.store.now (c.args.change.revision - 1)) change decides
