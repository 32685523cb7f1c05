use Rattle.std.proofs.Common.{ap, option_map}
use Rattle.std.specs.Prelude.{unwrap_or}
use Rattle.std.specs.BTreeMap.{is_at}
use Rattle.std.specs.Map.{lookup}
use Rattle.std.specs.Ordering.{nat_cmp}
use Rattle.world.specs.Extents.{extent_seen}
use Rattle.world.specs.Stepping.{extent_of}
use Rattle.world.proofs.server.Server.begin_notes.Goals as goal

pub returns-clause-serves : goal.returns-clause-serves
returns-clause-serves c = λ s serves. serves

pub returns-clause-notes : goal.returns-clause-notes
returns-clause-notes c = λ s q. ap (λ es. unwrap_or (option_map extent_seen (lookup (is_at (nat_cmp q)) es)) (extent_of s q)) c.new.ensures.empty
