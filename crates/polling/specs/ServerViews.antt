-- What callers see of a server of many connections at once.
use Rattle.std.specs.Prelude.{ℕ, Bool}
use Rattle.httpedge.specs.declared.hub.Hub.{Hub}
use Rattle.polling.specs.declared.peer.Peer.{Peer}
use Rattle.polling.specs.declared.server.Server.{Server}

abbrev pub hub_of : Server → Hub
hub_of server = server.peers.hub

-- how many connections are over
abbrev pub over_of : Server → ℕ
over_of server = server.peers.closed

-- all was written and no more is sent: what still comes is read until the peer closes
abbrev pub lingers : {S : Type 0} → Peer S → Bool
lingers peer = peer.is_lingering
