use Rattle.std.proofs.Common.{ap₂, ◌∙◌, string_bytes}
use Rattle.std.specs.Ordering.{nat_cmp}
use Rattle.std.specs.Cmp.Lexicographic.{slice_cmp}
use Rattle.fieldpath.specs.Paths.{path_cmp}
use Rattle.fieldpath.proofs.Orders.{cmp-map}
use Rattle.fieldpath.proofs.path.PathOrd.cmp.Goals as goal

pub returns : goal.returns
returns c = c.cmp.ensures ∙ cmp-map (slice_cmp nat_cmp) string_bytes c.self.inside.texts.items c.other.inside.texts.items ∙ ap₂ path_cmp c.self.view_is c.other.view_is
