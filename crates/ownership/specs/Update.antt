-- Update (Server-Side Apply, "Comparison with Client-Side Apply", "Using Server-Side Apply": an update owns what it changes).
use Rattle.std.specs.FinSet as set
use Rattle.pathmap.specs.Contents.{Content, PathSet, dom}
use Rattle.pathmap.specs.Beside.{changed}
use Rattle.objects.specs.Owners.{Manager, owned_by, taken_over}
use Rattle.objects.specs.State.{State}

-- the paths that were there and are no more
unfoldable pub removed : Content → Content → PathSet
removed live new = set.difference (dom live) (dom new)

-- the manager keeps what it owned and still stands, and owns what it changed; the others lose both
unfoldable pub updated : State → Content → Manager → State
updated live new m = record {
  content = new;
  owners = taken_over live.owners m (set.union (changed new live.content) (removed live.content new))
      (set.union (set.difference (owned_by live.owners m) (removed live.content new)) (changed new live.content));
}
