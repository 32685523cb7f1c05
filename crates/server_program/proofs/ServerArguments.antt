-- What a parse by the command of `ssa-server` gives.
use Rattle.std.proofs.Common.{◌≡◌, ◌∷◌, [], List, true, arith, codes, refl}
use Rattle.clap.specs.Words.{Text, is_simple}
use Rattle.clap.proofs.OnLiterals.{clap_on_literals}
use Rattle.programs.proofs.OptionValues.{IsOwn, differ}
use Rattle.server_program.specs.ServerCommand.{ssa_server}

pub is_plain : is_simple ssa_server ≡ true
unfolding clap_on_literals
is_plain = refl

pub types_own : IsOwn (codes "types")
types_own = ((λ e. absurd (omega arith)), (λ e. absurd (omega arith)), (λ e. absurd (omega arith)))

pub port_own : IsOwn (codes "port")
port_own = ((λ e. absurd (omega arith)), (λ e. absurd (omega arith)), (λ e. absurd (omega arith)))

pub keep_own : IsOwn (codes "keep")
keep_own = ((λ e. absurd (omega arith)), (λ e. absurd (omega arith)), (λ e. absurd (omega arith)))

pub pump_own : IsOwn (codes "pump")
pump_own = ((λ e. absurd (omega arith)), (λ e. absurd (omega arith)), (λ e. absurd (omega arith)))

pub serve_own : IsOwn (codes "serve")
serve_own = ((λ e. absurd (omega arith)), (λ e. absurd (omega arith)), (λ e. absurd (omega arith)))

pub concurrent_own : IsOwn (codes "concurrent")
concurrent_own = ((λ e. absurd (omega arith)), (λ e. absurd (omega arith)), (λ e. absurd (omega arith)))

pub patience_own : IsOwn (codes "patience")
patience_own = ((λ e. absurd (omega arith)), (λ e. absurd (omega arith)), (λ e. absurd (omega arith)))

pub disturb_own : IsOwn (codes "disturb")
disturb_own = ((λ e. absurd (omega arith)), (λ e. absurd (omega arith)), (λ e. absurd (omega arith)))

pub log_own : IsOwn (codes "log")
log_own = ((λ e. absurd (omega arith)), (λ e. absurd (omega arith)), (λ e. absurd (omega arith)))

pub record_own : IsOwn (codes "record")
record_own = ((λ e. absurd (omega arith)), (λ e. absurd (omega arith)), (λ e. absurd (omega arith)))

pub objects_own : IsOwn (codes "objects")
objects_own = ((λ e. absurd (omega arith)), (λ e. absurd (omega arith)), (λ e. absurd (omega arith)))

pub discovery_own : IsOwn (codes "discovery")
discovery_own = ((λ e. absurd (omega arith)), (λ e. absurd (omega arith)), (λ e. absurd (omega arith)))

abbrev pub names : List Text
names =
    codes "types" ∷ codes "port" ∷ codes "keep" ∷ codes "pump" ∷ codes "serve" ∷ codes "concurrent" ∷ codes "patience" ∷ codes "disturb" ∷ codes "log" ∷ codes "record" ∷ codes "objects" ∷ codes "discovery" ∷ []

pub names_are : {types port keep pump serve flag patience disturb log recorded objects discovery : Text} → types ≡ codes "types" → port ≡ codes "port" → keep ≡ codes "keep" → pump ≡ codes "pump"
    → serve ≡ codes "serve" → flag ≡ codes "concurrent" → patience ≡ codes "patience" → disturb ≡ codes "disturb"
    → log ≡ codes "log" → recorded ≡ codes "record" → objects ≡ codes "objects" → discovery ≡ codes "discovery"
    → types ∷ port ∷ keep ∷ pump ∷ serve ∷ flag ∷ patience ∷ disturb ∷ log ∷ recorded ∷ objects ∷ discovery ∷ [] ≡ names
names_are t p k u s f a i l r o d = rw (t, p, k, u, s, f, a, i, l, r, o, d) refl

pub names_differ : differ names ≡ true
unfolding clap_on_literals
names_differ = refl
