use Rattle.std.proofs.Common.{Option, ℕ, ◌∙◌, ap}
use Rattle.std.specs.Prelude.{unwrap_or}
use Rattle.httpedge.specs.Connections.{id_after}
use Rattle.httpedge.proofs.NextIds.{after_is, is_highest}
use Rattle.httpedge.proofs.hub.Hub.next_id.Goals as goal

pub returns : goal.returns
returns c = λ s is.
    after_is c.unwrap_or.result c.checked_add.result c.checked_add.ensures
    ∙ ap id_after (c.unwrap_or.ensures ∙ ap (λ (h : Option ℕ). unwrap_or h 0) c.highest.ensures ∙ is_highest s.connections c.args.self.now.connections.highest is.0.highest_is)
