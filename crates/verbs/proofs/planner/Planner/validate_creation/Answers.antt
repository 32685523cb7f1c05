use Rattle.std.proofs.Common.{None}
use Rattle.params.specs.declared.params.Asked.TheVariants as asked
use Rattle.serde_json.specs.View.{view}
use Rattle.api_request.specs.declared.verb.Verb.TheVariants.{Create}
use Rattle.objects.specs.declared.manager.Subresource.TheVariants.{Main}
use Rattle.api_validation.specs.Envelope.{Expected}
use Rattle.verbs.specs.PlannerViews.{call_of_entry, type_of}
use Rattle.verbs.specs.Views.{intent_seen}
use Rattle.verbs.proofs.Contents.{intended_content}
use Rattle.verbs.proofs.planner.Planner.validate_creation.Goals as goal

pub returns-clause-content : goal.returns-clause-content
returns-clause-content c =
    let of : Expected = record { served = type_of c.args.self; namespace = c.args.namespace.now; name = None; verb = Create; subresource = Main } in
    intended_content of asked.Post (call_of_entry c.args.self).query (view c.in_ok-body.body.now) (intent_seen c.in_ok-intent.intent) c.requires.planner.1 c.in_ok-body.ensures.json c.in_ok-intent.ensures
