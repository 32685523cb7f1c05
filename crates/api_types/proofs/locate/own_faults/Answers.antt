use Rattle.std.proofs.Common.{◌≡◌, [], IfSome, subst}
use Rattle.serde_json.specs.Data.{object}
use Rattle.serde_json.specs.View.{members_view}
use Rattle.api_types.specs.FaultPlaces.{BreaksKnown}
use Rattle.api_types.proofs.FaultPlaces.{all_end, own_broken}
use Rattle.api_types.proofs.locate.own_faults.Goals as goal

pub returns-in_default : goal.returns-in_default
returns-in_default c = all_end c.args.depth (object (members_view c.args.schema.now.entries)) c.in_ok-found.found.items c.in_ok-found.ensures.ends

pub returns : goal.returns
returns c =
    let ms = members_view c.args.schema.now.entries in
    let breaks = subst (λ o. IfSome o (λ b. (b.part.steps.items ≡ []) × BreaksKnown b.fault c.args.depth (object ms))) c.in-Some.is c.in_ok-broken.ensures in
    own_broken c.args.depth ms c.in_ok-found.found.items c.push.new.self.items c.in-Some.broken c.in_ok-push.ensures.items c.in_ok-found.ensures.ends c.in_ok-found.ensures.known breaks.0 breaks.1
