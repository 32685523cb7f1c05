use Rattle.std.proofs.Common.{Err, ap, subst, sym, ◌∙◌, List, ℕ}
use Rattle.api_types.specs.Served.{served}
use Rattle.history.specs.Read.{key_of}
use Rattle.objects.specs.ObjectText.{Identity}
use Rattle.objects.specs.ReadBack.{IsObjectText, IsReadBack}
use Rattle.objects.specs.Views.{identity_of as identity_seen, state_of, stored_stamp}
use Rattle.objects.specs.declared.fault.ObjectFault.{ObjectFault}
use Rattle.verbs.specs.Machine.{identity_of, decoded_state, decoded_system}
use Rattle.verbs.proofs.Said.{said_back, said_system}
use Rattle.verbs.proofs.existing.read_stored.Goals as goal

pub returns-in-Ok-clause-state : goal.returns-in-Ok-clause-state
returns-in-Ok-clause-state c =
    let t = served c.args.served.now in
    sym (said_back t.shape _ (stored_stamp c.in-Ok.read) (state_of c.in-Ok.read.owned) _ c.requires (c.in-Ok.ensures c.requires)) ∙ ap (decoded_state t.shape) c.as_str-2.ensures.value

pub returns-in-Ok-clause-system : goal.returns-in-Ok-clause-system
returns-in-Ok-clause-system c =
    let t = served c.args.served.now in
    sym (said_system t.shape _ (stored_stamp c.in-Ok.read) (state_of c.in-Ok.read.owned) _ c.requires (c.in-Ok.ensures c.requires)) ∙ ap (decoded_system t.shape) c.as_str-2.ensures.value

pub returns-in-Err-NotCanonical-clause-readable : goal.returns-in-Err-NotCanonical-clause-readable
returns-in-Err-NotCanonical-clause-readable c =
    let t = served c.args.served.now in
    let k = key_of c.args.key.now in
    let of = c.identity_of-identity.ensures (c.as_str.ensures.value ∙ c.in_ok-api_version.ensures) in
    let refused = subst (λ (e : ObjectFault). IsReadBack t.shape (identity_seen c.identity_of-identity.result) c.as_str-2.result.now (Err e)) c.in-Err-NotCanonical.field-0-is (c.in-Err-NotCanonical.ensures c.requires) in
    λ said same. refused said.0 said.1
    (subst (λ (i : Identity). IsObjectText t.shape i said.0 said.1 c.as_str-2.result.now) (sym of)
    (subst (λ (text : List ℕ). IsObjectText t.shape (identity_of t k) said.0 said.1 text) (sym c.as_str-2.ensures.value) said.2))
