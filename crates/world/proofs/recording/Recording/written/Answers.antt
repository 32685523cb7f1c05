use Rattle.std.proofs.Common.{◌∙◌, ap, sym, subst, option_map}
use Rattle.std.specs.FinMap as fin
use Rattle.world.specs.Recording.{IsKept}
use Rattle.world.proofs.Kept.{written_gone}
use Rattle.world.proofs.recording.Recording.written.Goals as goal

pub returns-in-Some : goal.returns-in-Some
returns-in-Some c = λ s represents.
    let o = fin.get s.connections c.args.id in
    c.deref.ensures.value ∙ written_gone c.in-Some.written.now.items o (subst (λ kept. IsKept kept o) (ap (option_map (λ v. v.items)) (sym c.in-Some.ensures.value)) (represents.1 c.args.id))

pub returns-in-None : goal.returns-in-None
returns-in-None c = λ s represents.
    let o = fin.get s.connections c.args.id in
    c.out.ensures s represents.0
    ∙ c.all_is_out.ensures.one_written s.connections c.args.id (subst (λ kept. IsKept kept o) (ap (option_map (λ v. v.items)) (sym c.in-None.ensures.value)) (represents.1 c.args.id))
