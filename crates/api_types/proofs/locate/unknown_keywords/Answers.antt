use Rattle.std.proofs.Common.{string_bytes, sym, ap, ◌∙◌}
use Rattle.serde_json.specs.View.{members_view}
use Rattle.schema.specs.Among.{is_in}
use Rattle.api_types.specs.Keywords.{has_only, keywords}
use Rattle.api_types.proofs.FaultPlaces.{known_left}
use Rattle.api_types.proofs.locate.unknown_keywords.Goals as goal

pub loop-name-preserved : goal.loop-name-preserved
loop-name-preserved c = (
  c.loop-name.invariant.0,
  λ none.
      known_left (is_in keywords (string_bytes c.in-Some.name.now)) (has_only keywords (members_view c.next.new.self)) (has_only keywords (members_view c.args.schema.now.entries))
      (sym (c.is_in.ensures ∙ ap (is_in keywords) c.as_str.ensures.value) ∙ c.if-not-is_in.false)
      (sym (ap (λ es. has_only keywords (members_view es)) c.in-Some.ensures.steps) ∙ c.loop-name.invariant.1 none),
)
