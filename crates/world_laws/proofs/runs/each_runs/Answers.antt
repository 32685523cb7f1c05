use Rattle.std.proofs.Common.{◌≡◌, map, take_all, subst, sym}
use Rattle.std.specs.Prelude.{IfSome}
use Rattle.std.specs.List.{AllByRecursion}
use Rattle.world_laws.specs.Reading.{bytes_in, client_reads, server_reads}
use Rattle.world_laws.proofs.EachRuns.{LeadsOn, one_more, only_run}
use Rattle.world_laws.proofs.runs.each_runs.Goals as goal

pub loop-server-preserved : goal.loop-server-preserved
loop-server-preserved c =
    let item = c.loop-server-item.result in
    let index = c.loop-server.server-index in
    let leads : LeadsOn (bytes_in item) = λ task w e server client.
    c.each_happens.ensures task w e
    (subst (λ bytes. IfSome (server_reads task w e) (λ read. read ≡ bytes)) (sym c.deref.ensures.value) server)
    (subst (λ bytes. IfSome (client_reads w e) (λ read. read ≡ bytes)) (sym c.deref-in-loop-server.ensures.value) client) in
    one_more c.args.read.now index item c.loop-server-test.true c.loop-server.invariant (subst (λ b. LeadsOn (bytes_in b)) c.loop-server-item.is leads)

pub returns : goal.returns
returns c =
    let all = subst (λ read. AllByRecursion LeadsOn (map bytes_in read)) (take_all c.loop-server.server-index c.args.read.now c.loop-server-test.false) c.loop-server.invariant in
    only_run c.one_world.ensures (map bytes_in c.args.read.now) all
