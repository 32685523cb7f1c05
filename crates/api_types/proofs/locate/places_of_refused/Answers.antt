use Rattle.std.proofs.Common.{sym, ◌∙◌}
use Rattle.serde_json.specs.View.{view}
use Rattle.api_types.specs.TypesFile.{type_of}
use Rattle.api_types.specs.declared.profile.Profile.TheVariants.{Plain}
use Rattle.api_types.proofs.FaultPlaces.{begun, fails_by, whole_first}
use Rattle.api_types.proofs.locate.places_of_refused.Goals as goal

pub returns : goal.returns
returns c refused =
    let t = view c.args.value.now in
    let reported = c.in_ok-located.field-0 in
    let (same, number, none) = c.in_ok-located.ensures in (
      begun c.args.own (type_of Plain t) reported c.in_ok-all.all.items c.insert.new.self.items refused c.in_ok-insert.ensures.items same,
      whole_first c.args.number t c.args.own reported c.in_ok-all.all.items c.insert.new.self.items c.in_ok-insert.ensures.items same number none (fails_by c.args.own (type_of Plain t) refused) (c.in_ok-all.ensures c.in_ok-broken.ensures),
    )

pub returns-then-begins_by : goal.returns-then-begins_by
returns-then-begins_by c refused =
    let begins = c.begins_by.ensures c.if-begins_by.true in
    (begun c.args.own (type_of Plain (view c.args.value.now)) begins.0 begins.1 c.in_ok-all.all.items refused (sym c.deref.ensures.value ∙ begins.2) begins.3, c.in_ok-all.ensures c.in_ok-broken.ensures)
