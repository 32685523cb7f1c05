use Rattle.std.proofs.Common.{◌∙◌, ap, sym, subst, cond, None, Bool, List, ℕ}
use Rattle.std.specs.Prelude.{option_and_then}
use Rattle.std.specs.Str.{IsAscii}
use Rattle.matchit.specs.Params.{walk}
use Rattle.matchit.specs.Router.{RouteOf}
use Rattle.matchit.specs.Seek.{first}
use Rattle.api_types.specs.Served.{types_view}
use Rattle.api_request.specs.declared.resource.Resource.{Resource}
use Rattle.api_request.specs.Admit.{place_by, place_in, routes}
use Rattle.api_request.proofs.Ascii.{all_ascii, all_text}
use Rattle.api_request.proofs.Found.{found_all}
use Rattle.api_request.proofs.Places.{routes_ascii}
use Rattle.api_request.proofs.route.Routes.place.Goals as goal

pub place_in-requires : goal.place_in-requires
place_in-requires c =
    let p = c.in-Ok.found.params in
    let path = c.args.path.now in
    let found = ap (λ rs. first rs path) (sym c.args.self.now.table) ∙ c.in-Ok.ensures.found in
    all_text p.pattern.now p.text.now p.path.now p.names.now 0 0
    (found_all (λ (r : RouteOf Resource). IsAscii r.text) routes path _ routes_ascii found)
    (subst IsAscii (sym c.in-Ok.ensures.path) c.if-not-is_ascii.ensures.cases)

pub returns-in-Ok : goal.returns-in-Ok
returns-in-Ok c =
    let p = c.in-Ok.found.params in
    let path = c.args.path.now in
    let ts = types_view c.args.types.now in
    let found = ap (λ rs. first rs path) (sym c.args.self.now.table) ∙ c.in-Ok.ensures.found in
    c.place_in.ensures
    ∙ ap (λ (q : List ℕ). place_in ts c.in-Ok.found.value.now (walk p.pattern.now p.text.now q p.names.now 0 0)) c.in-Ok.ensures.path
    ∙ sym (ap (λ (b : Bool). cond b (option_and_then (place_by ts path) (first routes path)) None) (all_ascii path c.if-not-is_ascii.ensures.cases)
    ∙ ap (option_and_then (place_by ts path)) found)
