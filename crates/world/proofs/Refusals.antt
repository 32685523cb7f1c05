-- Why events can't happen.
use Rattle.std.proofs.Common.{◌≡◌, ◌∙◌, ℕ, Bool, true, false, cond, ◌&&◌, List, [], ◌∷◌, Option, Some, None, refl, sym, ap, subst, option_map}
use Rattle.std.specs.Prelude.{IfOk, IfSome, Result, Ok, Err, is_none, is_some, option_and_then}
use Rattle.httpedge.specs.Steps as edge
use Rattle.httpedge.specs.declared.fault.HubRefusal.{HubRefusal}
use Rattle.reflector.specs.Client.{Cache}
use Rattle.world_laws.specs.World.{ClientConnection, WorldEvent}
use Rattle.world.specs.Recording.{ReportsFile, ReportsRefusal}
use Rattle.world.specs.Stepping.{Refusal, Refuses, TellsFault, by_hub, hub_event, hub_refusal, if_carried, if_connected, if_due, if_some, if_synced, unless_by_peer, unless_no_id}
use Rattle.world.specs.declared.refusal.Refusal.TheVariants as refusal
use Rattle.world.specs.declared.refusal.Refusal as refusals

-- ---- by the hub

pub hub_refuses : (s : edge.State) (e : edge.Event) (why : HubRefusal) → ReportsRefusal s e (Some why) → Refuses (Some (refusal.Hub why)) (option_map by_hub (edge.refusal s e))
hub_refuses s e why reported = ap (option_map by_hub) reported

pub hub_takes : (s : edge.State) (e : edge.Event) → ReportsRefusal s e None → Refuses None (option_map by_hub (edge.refusal s e))
hub_takes s e reported = ap (option_map by_hub) reported

-- an event that isn't the hub's brings no types
pub no_file : {F : Type 0} (e : WorldEvent) (r : Result (Option refusals.Refusal) F) → hub_event e ≡ None → IfOk r (TellsFault e)
no_file e (Ok r) is = subst (λ (o : Option edge.Event). IfSome o (λ h. ReportsFile h (option_and_then hub_refusal r))) (sym is) tt
no_file e (Err f) is = tt

-- ---- by the client's connection

pub by_peer : (b : Bool) (why : Option Refusal) → b ≡ true → Refuses (Some refusal.ClientConnection) (unless_by_peer b why)
by_peer b why is = subst (λ x. Refuses (Some refusal.ClientConnection) (unless_by_peer x why)) (sym is) refl

pub not_by_peer : (b : Bool) (r : Option refusals.Refusal) (why : Option Refusal) → b ≡ false → Refuses r why → Refuses r (unless_by_peer b why)
not_by_peer b r why is refuses = subst (λ x. Refuses r (unless_by_peer x why)) (sym is) refuses

-- ---- ids

pub no_id_left : (o : Option ℕ) (why : Option Refusal) → o ≡ None → Refuses (Some refusal.NoId) (unless_no_id o why)
no_id_left o why is = subst (λ x. Refuses (Some refusal.NoId) (unless_no_id x why)) (sym is) refl

pub id_left : (o : Option ℕ) (id : ℕ) (r : Option refusals.Refusal) (why : Option Refusal) → o ≡ Some id → Refuses r why → Refuses r (unless_no_id o why)
id_left o id r why is refuses = subst (λ x. Refuses r (unless_no_id x why)) (sym is) refuses

-- ---- requests

pub none_due : (o : Option (List ℕ)) → o ≡ None → Refuses (Some refusal.NothingDue) (if_due o)
none_due o is = subst (λ x. Refuses (Some refusal.NothingDue) (if_due x)) (sym is) refl

pub some_due : (o : Option (List ℕ)) (bytes : List ℕ) → o ≡ Some bytes → Refuses None (if_due o)
some_due o bytes is = subst (λ x. Refuses None (if_due x)) (sym is) refl

-- ---- bytes

pub no_carrier : (f : ClientConnection → List ℕ) (o : Option ClientConnection) → o ≡ None → Refuses (Some refusal.NothingWaits) (if_carried f o)
no_carrier f o is = subst (λ x. Refuses (Some refusal.NothingWaits) (if_carried f x)) (sym is) refl

pub none_wait : (f : ClientConnection → List ℕ) (o : Option ClientConnection) (own : ClientConnection) → o ≡ Some own → f own ≡ [] → Refuses (Some refusal.NothingWaits) (if_carried f o)
none_wait f o own is none = subst (λ x. Refuses (Some refusal.NothingWaits) (if_carried f x)) (sym is) (subst (λ xs. Refuses (Some refusal.NothingWaits) (if_some xs)) (sym none) refl)

some_bytes : (xs : List ℕ) → (xs ≡ [] → ⊥) → Refuses None (if_some xs)
some_bytes [] filled = absurd (filled refl)
some_bytes (x ∷ xs) filled = refl

pub some_wait : (f : ClientConnection → List ℕ) (o : Option ClientConnection) (own : ClientConnection) (bytes : List ℕ) → o ≡ Some own → bytes ≡ f own → (bytes ≡ [] → ⊥) → Refuses None (if_carried f o)
some_wait f o own bytes is are filled = subst (λ x. Refuses None (if_carried f x)) (sym is) (some_bytes (f own) (λ none. filled (are ∙ none)))

-- ---- what the client has

pub unconnected_none : {A : Type 0} (f : A → ClientConnection) (own : Option A) (o : Option ClientConnection) → option_map f own ≡ o → is_some own ≡ false → Refuses (Some refusal.NoConnection) (if_connected o)
unconnected_none f None o is none = subst (λ x. Refuses (Some refusal.NoConnection) (if_connected x)) is refl
unconnected_none f (Some own) o is none = absurd cc

pub connected_some : {A : Type 0} (f : A → ClientConnection) (own : Option A) (o : Option ClientConnection) → option_map f own ≡ o → is_some own ≡ true → Refuses None (if_connected o)
connected_some f None o is some = absurd cc
connected_some f (Some own) o is some = subst (λ x. Refuses None (if_connected x)) is refl

-- a cache with its revision
pub unsynced : (o : Option Cache) (f : Cache → ℕ) (revision : Option ℕ) (why : Option Refusal) → revision ≡ option_map f o → is_some revision ≡ false → Refuses (Some refusal.NoRevision) (if_synced o why)
unsynced None f revision why is none = refl
unsynced (Some now) f revision why is none =
    let bad : true ≡ false = sym (ap is_some is) ∙ none in
    cc

pub synced : (o : Option Cache) (f : Cache → ℕ) (revision : Option ℕ) (r : Option refusals.Refusal) (why : Option Refusal) → revision ≡ option_map f o → is_some revision ≡ true → Refuses r why → Refuses r (if_synced o why)
synced None f revision r why is some refuses =
    let bad : false ≡ true = sym (ap is_some is) ∙ some in
    cc
synced (Some now) f revision r why is some refuses = refuses

-- ---- the connection that opens

pub opened_refused : (a : Bool) (next : Option ℕ) (r : refusals.Refusal) (why : Option Refusal) → Refuses (Some r) why → None ≡ cond (a && is_none why) next None
opened_refused true next r why refuses = ap (λ (o : Option Refusal). cond (is_none o) next None) refuses
opened_refused false next r why refuses = refl

pub opened_taken : (a : Bool) (next : Option ℕ) (why : Option Refusal) → Refuses None why → cond a next None ≡ cond (a && is_none why) next None
opened_taken true next why none = ap (λ (o : Option Refusal). cond (is_none o) next None) none
opened_taken false next why none = refl
