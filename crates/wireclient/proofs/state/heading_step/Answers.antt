use Rattle.std.proofs.Common.{arith, ◌∙◌, sym, subst, List, ℕ}
use Rattle.std.proofs.lemmas.Bool.{lt-leb}
use Rattle.wireclient.specs.Reads.{Checked}
use Rattle.wireclient.specs.Views.{state_of, check_of}
use Rattle.wireclient.proofs.Heads.{head_ended}
use Rattle.wireclient.proofs.state.heading_step.Goals as goal

pub returns-in-None : goal.returns-in-None
returns-in-None c =
    head_ended state_of c.begun.result c.args.bytes.items c.args.place c.args.byte (check_of c.check_head.result) _ _
    (lt-leb _ _ (omega (arith, c.if-len-ge-MAX_HEAD.false, c.len.ensures))) (sym c.place_after.ensures ∙ c.in-None.is)
    (subst (λ (bytes : List ℕ). Checked bytes (check_of c.check_head.result)) (c.deref.ensures.value ∙ c.in_ok-push.ensures.items) c.check_head.ensures)
    c.begun.ensures.state c.begun.ensures.emitted
