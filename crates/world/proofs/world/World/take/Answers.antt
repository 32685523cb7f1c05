use Rattle.std.proofs.Common.{ℕ, List, refl, subst, sym}
use Rattle.indexer.specs.Objects.{Stored}
use Rattle.reflector.specs.Client.{Objects, kept}
use Rattle.world_laws.specs.Tasks.{Task}
use Rattle.world_laws.specs.World.{World}
use Rattle.world.specs.Extents.{AreNotesSince}
use Rattle.world.specs.Represents.{WorldRepresents, settled}
use Rattle.world.specs.Serving.{Serves}
use Rattle.world.specs.declared.server.Server.{Server}
use Rattle.world.specs.declared.world.World as worlds
use Rattle.world.proofs.world.World.take.Goals as goal

-- the same world with a server that is in the same state
served_by : {I : Type 0} (keys : I → Stored → List (List ℕ)) (task : Task) (o : Objects) (x : worlds.World I) (w : World) (server : Server) → Serves server w.hub → WorldRepresents keys task o x w
    → WorldRepresents keys task o (record x { server = server }) w
served_by keys task o x w server serves represents = record { hub = serves; requested = represents.requested; connection = represents.connection; client = represents.client; wanted = represents.wanted; reaches = represents.reaches; few = represents.few; counted = represents.counted; label = represents.label; place = represents.place }

pub returns-clause-steps : goal.returns-clause-steps
returns-clause-steps g c = λ task w represents.
    let noting = served_by (λ b s. g.I.IndexBy.keys b s) task (kept w.client.cache) c.args.self.now w c.begin_notes.new.self (c.begin_notes.ensures.serves w.hub represents.hub) represents in
    let mid = c.in_ok-refused.ensures.happens task w noting in
    let notes = mid.4 w.hub (c.begin_notes.ensures.notes w.hub) in
    (settled mid.0, (mid.0, mid.2, refl), c.in_ok-settle.ensures.settles task mid.1 mid.0 mid.3, subst (λ (server : Server). AreNotesSince w.hub server.noted mid.0.hub) (sym c.in_ok-settle.ensures.server) notes)

pub returns-clause-refused : goal.returns-clause-refused
returns-clause-refused g c = λ task w represents.
    c.in_ok-refused.ensures.refused task w (served_by (λ b s. g.I.IndexBy.keys b s) task (kept w.client.cache) c.args.self.now w c.begin_notes.new.self (c.begin_notes.ensures.serves w.hub represents.hub) represents)
