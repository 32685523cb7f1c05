use Rattle.std.proofs.Common.{◌≡◌, Option, Some, None, is_some, refl, ap, sym, ◌∙◌}
use Rattle.std.specs.Option.{option_map}
use Rattle.std.specs.FinSet as set
use Rattle.pathmap.specs.Maps.{content, leaf_value}
use Rattle.pathmap.proofs.Sets.{contains-dom}
use Rattle.fieldset.proofs.fieldset.FieldSet.contains.Goals as goal

some_map : {X Y : Type 0} (f : X → Y) (o : Option X) → is_some o ≡ is_some (option_map f o)
some_map f None = refl
some_map f (Some x) = refl

pub returns : goal.returns
returns c =
    c.is_some.ensures ∙ some_map (λ h. leaf_value h.now) c.get.result ∙ ap is_some c.get.ensures ∙ sym (contains-dom (content c.self.inside.map) c.args.path.now) ∙ ap (λ s. set.contains s c.args.path.now) c.self.view_is
