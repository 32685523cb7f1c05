use Rattle.std.proofs.Common.{◌∙◌, ap, option_map}
use Rattle.std.specs.Option.{unwrap_or}
use Rattle.watchline.proofs.Batched.{reached_last}
use Rattle.watchline.proofs.seen.reached.Goals as goal

pub returns-in-Some : goal.returns-in-Some
returns-in-Some c = ap (λ o. unwrap_or (option_map (λ s. s.object.revision) o) c.args.from) c.in-Some.ensures.value ∙ reached_last c.args.from c.args.changes.now

pub returns-in-None : goal.returns-in-None
returns-in-None c = ap (λ o. unwrap_or (option_map (λ s. s.object.revision) o) c.args.from) c.in-None.ensures.value ∙ reached_last c.args.from c.args.changes.now
