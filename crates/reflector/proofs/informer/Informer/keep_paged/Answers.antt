use Rattle.std.proofs.Common.{None, option_map, refl, string_bytes, subst, sym}
use Rattle.reflector.specs.PagedListViews.{paged_list_of}
use Rattle.reflector.specs.InformerViews.{RepresentsExceptReader}
use Rattle.reflector.specs.Run.{keep_paged}
use Rattle.reflector.proofs.informer.Informer.keep_paged.Goals as goal

pub returns-in-Some-clause-taken : goal.returns-in-Some-clause-taken
returns-in-Some-clause-taken g c = λ cl m.
    subst (λ t. RepresentsExceptReader g.I.IndexBy.keys c.ask_next.new.self (keep_paged cl c.args.revision (paged_list_of c.args.all) (option_map string_bytes t)) None) (sym c.in-Some.is)
    (c.ask_next.ensures.kept _ (record { objects = m.objects; revision = m.revision; notices = m.notices }) refl refl)

pub returns-in_ok-keep_list-in-None-clause-taken : goal.returns-in_ok-keep_list-in-None-clause-taken
returns-in_ok-keep_list-in-None-clause-taken g c = λ cl m.
    subst (λ t. RepresentsExceptReader g.I.IndexBy.keys c.ask_next-in-None.new.self (keep_paged cl c.args.revision (paged_list_of c.args.all) (option_map string_bytes t)) None) (sym c.in-None.is)
    (c.ask_next-in-None.ensures.kept _ (c.in_ok-keep_list-in-None.ensures.taken cl m) refl refl)
