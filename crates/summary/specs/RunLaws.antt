-- Counts of what a client keeps, over a run of events: the waiting notices are taken now and then, and counted then;
-- at a restart, which forgets objects and notices, the counts begin anew.
use Rattle.std.specs.Prelude.{◌≡◌, ℕ, Bool, List, [], ◌∷◌, ⊤}
use Rattle.indexer.specs.Objects.{Stored}
use Rattle.decoder.specs.Wanted.{Wanted}
use Rattle.reflector.specs.Client.{kept}
use Rattle.reflector.specs.EventLaws.{Event, requested, writes, receives, cut, abandons, restart, takes, grows, ClientAndServer, after}
use Rattle.summary.specs.Counts.{how_many, counted_all}

-- how many pass the test by the notices that were taken, after an event
abbrev pub counted_at : (Stored → Bool) → ClientAndServer → ℕ → Event → ℕ
counted_at test b n (requested items to) = n
counted_at test b n (writes items to) = n
counted_at test b n (receives m) = n
counted_at test b n cut = n
counted_at test b n abandons = n
counted_at test b n restart = 0
counted_at test b n takes = counted_all test n b.client.notices
counted_at test b n (grows later) = n

-- after each event these, with the notices that wait, are how many of the kept objects pass it
abbrev pub AllCounted : (Stored → Bool) → Wanted → ClientAndServer → ℕ → List Event → Type 0
AllCounted test wanted b n [] = ⊤
AllCounted test wanted b n (e ∷ es) =
    (counted_all test (counted_at test b n e) (after wanted b e).client.notices ≡ how_many test (kept (after wanted b e).client.cache)) × AllCounted test wanted (after wanted b e) (counted_at test b n e) es
