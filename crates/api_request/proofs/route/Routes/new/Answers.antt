use Rattle.matchit.proofs.OnLiterals.{matchit_on_literals}
use Rattle.std.proofs.Common.{◌≡◌, [], refl, sym, ap, subst, ◌∙◌}
use Rattle.matchit.specs.Route.{parse_route}
use Rattle.api_request.specs.Admit.{FitsIn, Rows, all_path, collection_path, object_path, routes, status_path, with_route}
use Rattle.api_request.specs.declared.resource.Resource.TheVariants.{AllNamespaces, Collection, Object, Status}
use Rattle.api_request.proofs.route.Routes.new.Goals as goal

pub add-requires : goal.add-requires
unfolding matchit_on_literals
add-requires c = subst (λ (r : Rows). FitsIn r (parse_route all_path)) (sym c.new-router.ensures) refl

pub add-requires-2 : goal.add-requires-2
unfolding matchit_on_literals
add-requires-2 c = subst (λ (r : Rows). FitsIn r (parse_route collection_path)) (sym (c.in_ok-add.ensures ∙ ap (with_route all_path AllNamespaces) c.new-router.ensures)) refl

pub add-requires-3 : goal.add-requires-3
unfolding matchit_on_literals
add-requires-3 c =
    subst (λ (r : Rows). FitsIn r (parse_route object_path))
    (sym (c.in_ok-add-2.ensures ∙ ap (with_route collection_path Collection) (c.in_ok-add.ensures ∙ ap (with_route all_path AllNamespaces) c.new-router.ensures))) refl

pub add-requires-4 : goal.add-requires-4
unfolding matchit_on_literals
add-requires-4 c =
    subst (λ (r : Rows). FitsIn r (parse_route status_path))
    (sym
    (c.in_ok-add-3.ensures
    ∙ ap (with_route object_path Object) (c.in_ok-add-2.ensures ∙ ap (with_route collection_path Collection) (c.in_ok-add.ensures ∙ ap (with_route all_path AllNamespaces) c.new-router.ensures))))
    refl

pub invariant_of-result : goal.invariant_of-result
unfolding routes
invariant_of-result c =
    let three = c.in_ok-add-3.ensures
    ∙ ap (with_route object_path Object) (c.in_ok-add-2.ensures ∙ ap (with_route collection_path Collection) (c.in_ok-add.ensures ∙ ap (with_route all_path AllNamespaces) c.new-router.ensures)) in
    record { table = c.in_ok-add-4.ensures ∙ ap (with_route status_path Status) three }
