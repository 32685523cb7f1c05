-- Lists of values in a body.
use Rattle.std.proofs.Common.{◌≡◌, false, List, [], ◌∷◌, length, ◌==◌, refl, true≢false, codes, ne_eqb, arith}
use Rattle.serde_json.specs.View.{items_view}
use Rattle.serde_json.specs.declared.value.Value.{Value}
use Rattle.api_request.specs.declared.reason.Reason.TheVariants.{BadRequest}
use Rattle.api_validation.specs.Envelope.{entries_validated}
use Rattle.api_request.specs.Validated.{refused_for}
use Rattle.api_validation.specs.Options.{is_no_list}

pub some_entries : (vs : List Value) → (length vs == 0) ≡ false → refused_for BadRequest (codes "metadata.managedFields must be empty") ≡ entries_validated (items_view vs)
some_entries [] e = absurd (true≢false e)
some_entries (v ∷ vs) e = refl

pub no_list : (vs : List Value) → (length vs == 0) ≡ is_no_list (items_view vs)
no_list [] = refl
no_list (v ∷ vs) = ne_eqb (length (v ∷ vs)) 0 (λ e. omega arith)
