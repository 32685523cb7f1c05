-- What a parse by the command of `ssa-mirror` gives.
use Rattle.std.proofs.Common.{◌≡◌, ◌∙◌, ◌∷◌, [], List, Option, None, Some, true, ap, sym, arith, codes, refl, option_map, slice_index}
use Rattle.std.specs.Prelude.{unwrap_or}
use Rattle.std.specs.Borrow.{Bor}
use Rattle.clap.specs.Words.{Text, is_simple}
use Rattle.clap.proofs.OnLiterals.{clap_on_literals}
use Rattle.programs.proofs.OptionValues.{IsOwn, differ}
use Rattle.mirror_program.specs.MirrorCommand.{ssa_mirror}

pub is_plain : is_simple ssa_mirror ≡ true
unfolding clap_on_literals
is_plain = refl

pub types_own : IsOwn (codes "types")
types_own = ((λ e. absurd (omega arith)), (λ e. absurd (omega arith)), (λ e. absurd (omega arith)))

pub port_own : IsOwn (codes "port")
port_own = ((λ e. absurd (omega arith)), (λ e. absurd (omega arith)), (λ e. absurd (omega arith)))

pub type_own : IsOwn (codes "type")
type_own = ((λ e. absurd (omega arith)), (λ e. absurd (omega arith)), (λ e. absurd (omega arith)))

pub namespace_own : IsOwn (codes "namespace")
namespace_own = ((λ e. absurd (omega arith)), (λ e. absurd (omega arith)), (λ e. absurd (omega arith)))

pub selector_own : IsOwn (codes "selector")
selector_own = ((λ e. absurd (omega arith)), (λ e. absurd (omega arith)), (λ e. absurd (omega arith)))

pub page_own : IsOwn (codes "page")
page_own = ((λ e. absurd (omega arith)), (λ e. absurd (omega arith)), (λ e. absurd (omega arith)))

pub turns_own : IsOwn (codes "turns")
turns_own = ((λ e. absurd (omega arith)), (λ e. absurd (omega arith)), (λ e. absurd (omega arith)))

abbrev pub names : List Text
names = codes "types" ∷ codes "port" ∷ codes "type" ∷ codes "namespace" ∷ codes "selector" ∷ codes "page" ∷ codes "turns" ∷ []

pub names_are : {types port type_name namespace selector page turns : Text} → types ≡ codes "types" → port ≡ codes "port" → type_name ≡ codes "type" → namespace ≡ codes "namespace"
    → selector ≡ codes "selector" → page ≡ codes "page" → turns ≡ codes "turns"
    → types ∷ port ∷ type_name ∷ namespace ∷ selector ∷ page ∷ turns ∷ [] ≡ names
names_are a b c d e f g = rw (a, b, c, d, e, f, g) refl

pub names_differ : differ names ≡ true
unfolding clap_on_literals
names_differ = refl
