use Rattle.std.proofs.Common.{List, ◌∙◌, ap, map, subst}
use Rattle.std.specs.Prelude.{IfSome}
use Rattle.selector.specs.Fields.{AsksFor}
use Rattle.selector.specs.Requirement.{Requirement}
use Rattle.selector.specs.Views.{requirement_of}
use Rattle.selector.proofs.selector.Selector.name.Goals as goal

pub returns : goal.returns
returns c = subst (λ (rs : List Requirement). IfSome c.name_in.result (λ n. AsksFor rs n.now)) (ap (map requirement_of) c.deref.ensures.value ∙ c.self.view_is) c.name_in.ensures
