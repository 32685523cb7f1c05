use Rattle.std.proofs.Common.{◌≡◌, ◌∙◌, ap, subst, lit<, List, ℕ, Ok}
use Rattle.std.specs.Prelude.{⊤}
use Rattle.std.proofs.lemmas.Iterator.Consumers.{map_from_collect}
use Rattle.std.proofs.lemmas.Iterator.Splits.{YieldsList-from_str_split}
use Rattle.server_program.specs.Creations.{CreatesAll, lines_of}
use Rattle.server_program.proofs.Creating.{texts}
use Rattle.server_program.proofs.creations.create_in.Goals as goal

pub returns-in-Ok : goal.returns-in-Ok
returns-in-Ok c = λ types m stands.
    let parted : texts c.deref.result.now ≡ lines_of c.args.text.now =
    ap texts c.deref.ensures.value ∙ map_from_collect {E = ⊤} (Ok c.in_ok-lines.lines) c.in_ok-lines.ensures.ran
    (YieldsList-from_str_split 10 c.args.text.now (lit< tt) c.split.ensures.text c.split.ensures.has_more c.split.ensures.pattern) in
    subst (λ (ls : List (List ℕ)). CreatesAll types m ls c.create_all.new.api) parted (c.in-Ok.ensures.ok types m stands)
