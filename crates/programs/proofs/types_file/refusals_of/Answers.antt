use Rattle.std.proofs.Common.{sym, ◌∙◌}
use Rattle.serde_json.specs.View.{view}
use Rattle.programs.proofs.Refusals.{all_refusals, some_left}
use Rattle.programs.proofs.types_file.refusals_of.Goals as goal

pub returns : goal.returns
returns c fails =
    let all = c.in_ok-all.all in
    all_refusals (λ v. v.items) (view c.args.file.now) all.items c.all_numbered.result (some_left all.items all.len all.ok.0 (sym c.is_empty.ensures ∙ c.if-is_empty.false)) c.in_ok-all.ensures.reported c.in_ok-all.ensures.places
    c.all_numbered.ensures
