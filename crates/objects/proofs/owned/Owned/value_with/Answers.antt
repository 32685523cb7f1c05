use Rattle.std.proofs.Common.{◌∙◌, ap, ap₂, codes}
use Rattle.schema.specs.Shape.{shape}
use Rattle.serde_json.specs.Data.{Items, Members, put}
use Rattle.serde_json.specs.View.{view, members_view}
use Rattle.serde_json.proofs.Views.{view-Object}
use Rattle.std.specs.Option.{option_map}
use Rattle.objects.specs.ObjectText.{metadata_round}
use Rattle.objects.specs.Views.{identity_of, stamp_of, state_of}
use Rattle.objects.proofs.Objects.{envelope}
use Rattle.objects.proofs.owned.Owned.value_with.Goals as goal

pub returns : goal.returns
returns c = λ listed.
    view-Object c.put_text-2.new.members
    ∙ envelope (shape c.args.schema.now) (identity_of c.args.envelope.of) (stamp_of c.args.envelope.stamp) (state_of c.args.self.now) (option_map view c.in_ok-printed.printed)
    (members_view c.in_ok-metadata_members.metadata_members.entries) (members_view c.in_ok-metadata.metadata.entries) (members_view c.members_of-members.result.entries)
    (members_view c.put.new.map.entries) (members_view c.put_text.new.members.entries) (members_view c.put_text-2.new.members.entries)
    c.in_ok-printed.ensures c.in_ok-metadata_members.ensures (c.in_ok-metadata.ensures ∙ ap₂ (λ (items : Items) (ms : Members). metadata_round (identity_of c.args.envelope.of) (stamp_of c.args.envelope.stamp) items ms) listed c.in_ok-put_life.ensures) c.members_of-members.ensures
    (c.in_ok-put.ensures.ok ∙ ap (λ d. put (codes "metadata") d (members_view c.members_of-members.result.entries)) (view-Object c.in_ok-metadata.metadata)) c.in_ok-put_text.ensures c.in_ok-put_text-2.ensures
