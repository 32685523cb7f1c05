use Rattle.std.proofs.Common.{◌≡◌, map}
use Rattle.serde_json.specs.View.{members_view}
use Rattle.api_types.specs.Keywords.{has_only}
use Rattle.api_types.proofs.keywords.has_only.Given as goal

abbrev pub invariant-loop-name : goal.invariant-loop-name
invariant-loop-name l = has_only (map (λ n. n.now) l.names) (members_view l.name-iterator) ≡ has_only (map (λ n. n.now) l.names) (members_view l.members.entries)
