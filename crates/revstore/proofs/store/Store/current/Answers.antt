use Rattle.std.proofs.Common.{subst}
use Rattle.history.specs.View.{IsView}
use Rattle.history.proofs.Views.{sound_view}
use Rattle.revstore.proofs.store.Store.current.Goals as goal

pub returns-clause-sound : goal.returns-clause-sound
returns-clause-sound c = subst IsView c.self.view_is (sound_view c.self.inside.table c.self.invariant.0.is)
