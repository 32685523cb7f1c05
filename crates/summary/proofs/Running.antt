-- What is counted over a run of events is how many of the kept objects there are.
use Rattle.std.proofs.Common.{◌≡◌, ℕ, Bool, List, [], ◌∷◌, refl, sym, ap, ◌∙◌}
use Rattle.std.specs.FinMap as fin
use Rattle.indexer.specs.Objects.{Stored}
use Rattle.decoder.specs.Wanted.{Wanted}
use Rattle.reflector.specs.Client.{Objects, Client, kept}
use Rattle.reflector.specs.EventLaws.{Event, requested, writes, receives, cut, abandons, restart, takes, grows, ClientAndServer, start, after, taken_last, AllLead}
use Rattle.reflector.specs.FollowsLaws.{Server}
use Rattle.reflector.specs.ReplayLaws.{LeadFrom}
use Rattle.reflector.proofs.Leading.{run_leads}
use Rattle.summary.specs.Counts.{how_many, counted_all}
use Rattle.summary.specs.RunLaws.{counted_at, AllCounted}
use Rattle.summary.proofs.HowMany.{none_counted, notices_counted}

module _ (test : Stored → Bool) where
  pub waiting_counted : (n : ℕ) (o : Objects) (c : Client) → n ≡ how_many test o → LeadFrom o c → counted_all test n c.notices ≡ how_many test (kept c.cache)
  waiting_counted n o c is lead = ap (λ k. counted_all test k c.notices) is ∙ notices_counted test o c.notices lead.0 ∙ ap (how_many test) lead.1

  -- what was counted is how many there were when the notices were taken last
  counted_last : (e : Event) (b : ClientAndServer) (n : ℕ) (o : Objects) → n ≡ how_many test o → LeadFrom o b.client → counted_at test b n e ≡ how_many test (taken_last b o e)
  counted_last (requested items to) b n o is lead = is
  counted_last (writes items to) b n o is lead = is
  counted_last (receives m) b n o is lead = is
  counted_last cut b n o is lead = is
  counted_last abandons b n o is lead = is
  counted_last restart b n o is lead = sym (none_counted test)
  counted_last takes b n o is lead = waiting_counted n o b.client is lead
  counted_last (grows later) b n o is lead = is

  module _ (wanted : Wanted) where
    all_counted : (events : List Event) (b : ClientAndServer) (n : ℕ) (o : Objects) → n ≡ how_many test o → LeadFrom o b.client → AllLead wanted b o events → AllCounted test wanted b n events
    all_counted [] b n o is lead more = tt
    all_counted (e ∷ es) b n o is lead more =
        let now = counted_last e b n o is lead in (
          waiting_counted (counted_at test b n e) (taken_last b o e) (after wanted b e).client now more.0,
          all_counted es (after wanted b e) (counted_at test b n e) (taken_last b o e) now more.0 more.1,
        )

    pub run_counted : (server : Server) (events : List Event) → AllCounted test wanted (start server) 0 events
    run_counted server events = all_counted events (start server) 0 fin.empty (sym (none_counted test)) (tt, refl) (run_leads wanted server events)
