use Rattle.std.proofs.Common.{◌∙◌, ap₂, sym}
use Rattle.history.specs.Read.{key_of}
use Rattle.objects.specs.ObjectText.{Identity, object_text}
use Rattle.objects.specs.SystemMetadata.{Stamp}
use Rattle.objects.specs.Views.{state_of}
use Rattle.objects.proofs.Answered.{ok_map}
use Rattle.verbs.specs.PlannerViews.{type_of}
use Rattle.verbs.proofs.Said.{text_is}
use Rattle.verbs.proofs.planner.Planner.printed.Goals as goal

pub returns-clause-text : goal.returns-clause-text
returns-clause-text c =
    ok_map c.to_object_with_labels.result (λ t text. text ∙ ap₂ (λ (of : Identity) (v : Stamp). object_text (type_of c.args.self).shape of v (state_of c.args.owned.now)) (c.identity_of-identity.ensures (c.as_str.ensures.value ∙ c.in_ok-api_version.ensures)) c.plain-stamp.ensures
    ∙ sym (text_is (type_of c.args.self) (key_of c.args.key.now) c.args.revision (state_of c.args.owned.now)))
    (c.to_object_with_labels.ensures.text c.requires.shaped.1 c.requires.content)
