use Rattle.std.proofs.Common.{Ok, ap, sym, ◌∙◌}
use Rattle.serde_json.specs.View.{items_view, view}
use Rattle.api_types.proofs.FaultPlaces.{in_file, none_listed}
use Rattle.api_types.proofs.locate.all_places.Goals as goal

pub returns-in-Ok-clause-places : goal.returns-in-Ok-clause-places
returns-in-Ok-clause-places c =
    in_file (λ v. v.items) (view c.args.file.now) (items_view c.deref.result.now) c.places_among.result (c.in-Ok.ensures.listed ∙ ap (λ vs. Ok (items_view vs)) (sym c.deref.ensures.value)) c.places_among.ensures.places

pub returns-in-Err-clause-reported : goal.returns-in-Err-clause-reported
returns-in-Err-clause-reported c = none_listed c.in-Err.field-0 (view c.args.file.now) c.new.result.items c.in-Err.ensures.form c.in-Err.ensures.listed c.new.ensures.items
