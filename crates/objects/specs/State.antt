-- An object: its content, and who owns which paths of it.
use Rattle.pathmap.specs.Contents.{Content}
use Rattle.objects.specs.Owners.{Owners}

pub record State : Type 0 where
  pub content : Content
  pub owners : Owners
