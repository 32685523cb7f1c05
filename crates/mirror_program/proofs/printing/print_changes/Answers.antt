use Rattle.std.proofs.Common.{[], refl, inr}
use Rattle.reflector.specs.Client.{fresh}
use Rattle.reflector.specs.InformerViews.{settings_in}
use Rattle.mirroring.specs.Turns.{Answers}
use Rattle.mirror_program.proofs.Printed.{all_emitted, fewer_emitted, undialled_by}
use Rattle.mirror_program.proofs.printing.print_changes.Goals as goal

pub returns-in-Ok-clause-emitted : goal.returns-in-Ok-clause-emitted
returns-in-Ok-clause-emitted g c = (
  settings_in c.in_ok-informer.informer,
  c.in_ok-informer.ensures.settings,
  all_emitted _ (Answers (λ a q r b. g.D.Dial.dials a q r b) (λ r. g.D.Reader.Read.remaining r)) (λ a t b. g.D.Dial.learns a t b) (settings_in c.in_ok-informer.informer) c.args.options.now.turns c.args.dialer.now c.mirror.new.dialer _ _ _
      (c.in-Ok.ensures.emitted fresh ([], [], c.in_ok-informer.ensures.fresh) (refl, refl)),
)

pub returns-clause-prefix : goal.returns-clause-prefix
returns-clause-prefix g c = inr (
  settings_in c.in_ok-informer.informer,
  c.in_ok-informer.ensures.settings,
  c.in-Err.ensures.fault fresh ([], [], c.in_ok-informer.ensures.fresh) (refl, refl),
)

pub returns-clause-undialled : goal.returns-clause-undialled
returns-clause-undialled g c = λ six. (
  settings_in c.in_ok-informer.informer,
  c.in_ok-informer.ensures.settings,
  fewer_emitted _ (Answers (λ a q r b. g.D.Dial.dials a q r b) (λ r. g.D.Reader.Read.remaining r)) (λ a t b. g.D.Dial.learns a t b) (settings_in c.in_ok-informer.informer) c.args.options.now.turns c.args.dialer.now _ _ _
      (c.in-Err.ensures.undialled fresh ([], [], c.in_ok-informer.ensures.fresh) (refl, refl) (undialled_by _ _ c.ended_by.ensures six)),
)
