-- The notices that wait lead on, event by event.
use Rattle.std.proofs.Common.{List, [], ◌∷◌, take, refl}
use Rattle.std.specs.FinMap as fin
use Rattle.decoder.specs.Wanted.{Wanted}
use Rattle.reflector.specs.Client.{Objects}
use Rattle.reflector.specs.EventLaws.{Event, requested, writes, receives, cut, abandons, restart, takes, grows, ClientAndServer, start, after, taken_last, AllLead}
use Rattle.reflector.specs.FollowsLaws.{Server}
use Rattle.reflector.specs.ReplayLaws.{AllMatchTheirTexts, LeadFrom}
use Rattle.reflector.proofs.Exactly.{all_notify, still_lead, fresh_read, closed_read}

module _ (wanted : Wanted) where
  event_leads : (e : Event) (b : ClientAndServer) (o : Objects) → AllMatchTheirTexts wanted b.client → LeadFrom o b.client → AllMatchTheirTexts wanted (after wanted b e).client × LeadFrom (taken_last b o e) (after wanted b e).client
  event_leads (requested items to) b o read lead = (record { objects = read.objects; paged_list = read.paged_list }, lead)
  event_leads (writes items to) b o read lead = (read, lead)
  event_leads (receives n) b o read lead = ((all_notify wanted b.client (take n b.coming) read).has_read, still_lead wanted o b.client (take n b.coming) read lead)
  event_leads cut b o read lead = closed_read wanted o b.client read lead
  event_leads abandons b o read lead = (record { objects = read.objects; paged_list = tt }, lead)
  event_leads restart b o read lead = (fresh_read wanted, (tt, refl))
  event_leads takes b o read lead = (record { objects = read.objects; paged_list = read.paged_list }, (tt, refl))
  event_leads (grows later) b o read lead = (read, lead)

  all_lead : (events : List Event) (b : ClientAndServer) (o : Objects) → AllMatchTheirTexts wanted b.client → LeadFrom o b.client → AllLead wanted b o events
  all_lead [] b o read lead = tt
  all_lead (e ∷ es) b o read lead = let next = event_leads e b o read lead in (next.1, all_lead es (after wanted b e) (taken_last b o e) next.0 next.1)

  pub run_leads : (server : Server) (events : List Event) → AllLead wanted (start server) fin.empty events
  run_leads server events = all_lead events (start server) fin.empty (fresh_read wanted) (tt, refl)
