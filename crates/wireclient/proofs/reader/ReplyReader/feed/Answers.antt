use Rattle.std.proofs.Common.{ap, refl}
use Rattle.wireclient.specs.Views.{state_of}
use Rattle.wireclient.proofs.Leading.{feed_broken, feed_represents, feed_emits, feed_unbroken, unbroken}
use Rattle.wireclient.proofs.reader.ReplyReader.feed.Goals as goal

pub returns-in-Broken-clause-malformed : goal.returns-in-Broken-clause-malformed
returns-in-Broken-clause-malformed c = λ bytes before represents items. (
  λ e. feed_broken c.self.inside.is_dead (state_of c.self.inside.state) _ bytes before c.self.view_is c.if-self.false (ap state_of c.in-Broken.is) represents items,
  λ bad. refl,
)

pub returns-in-Ok-clause-represents : goal.returns-in-Ok-clause-represents
returns-in-Ok-clause-represents c = λ bytes represents.
    feed_represents c.self.inside.is_dead (state_of c.self.inside.state) _ (state_of c.replace-state.result) _ bytes c.args.piece.now _
    c.self.view_is c.if-self.false (ap state_of c.replace-state.ensures.value) c.in-Ok.ensures represents

pub returns-in-Ok-clause-emitted : goal.returns-in-Ok-clause-emitted
returns-in-Ok-clause-emitted c = λ bytes before represents items.
    feed_emits c.self.inside.is_dead (state_of c.self.inside.state) _ (state_of c.replace-state.result) _ bytes c.args.piece.now before _
    c.self.view_is c.if-self.false (ap state_of c.replace-state.ensures.value) c.in-Ok.ensures represents items

pub returns-in-Ok-clause-malformed : goal.returns-in-Ok-clause-malformed
returns-in-Ok-clause-malformed c = λ bytes before represents items. (
  λ e. absurd cc,
  λ bad. absurd (feed_unbroken c.self.inside.is_dead (state_of c.self.inside.state) _ bytes before c.self.view_is c.if-self.false (unbroken c.self.inside.state c.in_default.not-Broken) represents items bad),
)

pub returns-in-Err-clause-malformed : goal.returns-in-Err-clause-malformed
returns-in-Err-clause-malformed c = λ bytes before represents items. (
  λ e. absurd cc,
  λ bad. absurd (feed_unbroken c.self.inside.is_dead (state_of c.self.inside.state) _ bytes before c.self.view_is c.if-self.false (unbroken c.self.inside.state c.in_default.not-Broken) represents items bad),
)
