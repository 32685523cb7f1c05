-- What a hub becomes where other types are served.
use Rattle.std.proofs.Common.{◌≡◌, false, List, Result, Ok, Err, None, refl, sym, ap, subst}
use Rattle.std.specs.Prelude.{IfSome}
use Rattle.std.specs.FinMap as fin
use Rattle.serde_json.specs.Data.{Data}
use Rattle.api_types.specs.TypesFile.{ServedShape}
use Rattle.verbs.specs.Retyping.{RetypeRefusal, retyped, retyping}
use Rattle.httpedge.specs.SharedViews.{SharedRepresents}
use Rattle.verbs.specs.Views.{IsFileFault, retype_refusal, reported_of_file}
use Rattle.httpedge.specs.declared.shared.Shared.{Shared}
use Rattle.verbs.specs.declared.fault.RetypeFault.{RetypeFault}
use Rattle.verbs.specs.declared.fault.RetypeFault.TheVariants as retype_fault
use Rattle.requests.specs.Decision.{undecided}
use Rattle.httpedge.specs.declared.fault.HubFault.{HubFault}
use Rattle.httpedge.specs.declared.hub.Hub.{Hub}
use Rattle.httpedge.specs.FaultViews.{retyping_fault_of}
use Rattle.httpedge.specs.ConnectionViews.{PartsRepresent}
use Rattle.httpedge.specs.HubViews.{StepsOrRefuses, HubRepresents, outcome_of, reported_fault}
use Rattle.httpedge.specs.HubViews as outcome
use Rattle.httpedge.specs.Effects.{Does}
use Rattle.httpedge.specs.declared.effect.Effect.TheVariants as effect
use Rattle.httpedge.specs.Steps.{State, refusal, retypes, unless_refused, unless_retyped, with_types}
use Rattle.httpedge.proofs.Effects.{no_effect, same_between}
use Rattle.httpedge.proofs.OtherTypes.{is_lawful, others_represent, types_last}

-- the others are served, and each connection is held by them
pub retypes_well : (s : State) (file : Data) (hub : Hub) (shared : Shared) → HubRepresents hub s
    → (others : List ServedShape) × (retyping s.types s.machine file ≡ Ok others) × SharedRepresents shared others (retyped s.types others s.machine)
    → (refusal s (retypes file) ≡ None) × (t : State) × Does s (retypes file) t effect.Nothing × (PartsRepresent shared hub.connections t × (hub.last_tick ≡ t.last_tick))
retypes_well s file hub shared is (others, got, represents) = (
  ap unless_retyped got,
  with_types s (Ok others),
  (
    undecided,
    refl,
    sym (ap (λ (r : Result (List ServedShape) RetypeRefusal). unless_refused (unless_retyped r) s (with_types s r)) got),
    no_effect s (with_types s (Ok others)) (retypes file) (λ q. same_between (fin.get s.connections q)),
  ),
  (
    others_represent s others (retyped s.types others s.machine) hub.shared shared hub.connections (types_last s.types others (is_lawful s.types others s.machine file got)) is.0 represents,
    is.1,
  ),
)

-- without memory nothing changes
runs_out_of_memory_still : (hub new : Hub) (file : Data) → new ≡ hub → StepsOrRefuses hub (retypes file) outcome.out_of_memory new
runs_out_of_memory_still hub new file same = λ s is. ((λ q. false), s, (refl, refl, refl), subst (λ (h : Hub). HubRepresents h s) (sym same) is)

-- by why they are refused
pub retypes_not : (A : Type 0) (hub new : Hub) (file : Data) (e : RetypeFault) (f : HubFault) → f ≡ retyping_fault_of e → new ≡ hub
    → ((s : State) → HubRepresents hub s → IfSome (retype_refusal e) (λ why. retyping s.types s.machine file ≡ Err why)) → StepsOrRefuses hub (retypes file) (outcome_of {A = A} (Err f)) new
retypes_not A hub new file e f reported same denied = subst (λ (g : HubFault). StepsOrRefuses hub (retypes file) (outcome_of {A = A} (Err g)) new) (sym reported) (go e denied)
  where
    go : (d : RetypeFault) → ((s : State) → HubRepresents hub s → IfSome (retype_refusal d) (λ why. retyping s.types s.machine file ≡ Err why))
        → StepsOrRefuses hub (retypes file) (outcome_of {A = A} (Err (retyping_fault_of d))) new
    go (retype_fault.NotTypes why) here = (same, λ s is. ap unless_retyped (here s is))
    go retype_fault.NotLawful here = (same, λ s is. ap unless_retyped (here s is))
    go retype_fault.TooFewRevisions here = (same, λ s is. ap unless_retyped (here s is))
    go (retype_fault.Failed f) here = runs_out_of_memory_still hub new file same

-- which fault of the file is told
pub file_reported : (file : Data) (e : RetypeFault) (f : HubFault) → f ≡ retyping_fault_of e → IfSome (reported_of_file e) (IsFileFault file) → IfSome (reported_fault f) (IsFileFault file)
file_reported file e f reported is = subst (λ (g : HubFault). IfSome (reported_fault g) (IsFileFault file)) (sym reported) (go e is)
  where
    go : (d : RetypeFault) → IfSome (reported_of_file d) (IsFileFault file) → IfSome (reported_fault (retyping_fault_of d)) (IsFileFault file)
    go (retype_fault.NotTypes why) here = here
    go retype_fault.NotLawful here = tt
    go retype_fault.TooFewRevisions here = tt
    go (retype_fault.Failed f) here = tt
