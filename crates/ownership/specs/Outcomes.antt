-- What a write does: it creates the object, changes its content or owners, or neither.
use Rattle.std.specs.Prelude.{if◌then◌else◌, Option, None, Some}
use Rattle.objects.specs.State.{State}
use Rattle.ownership.specs.Sameness.{same_state}
use Rattle.ownership.specs.declared.outcome.Outcome.{Outcome}
use Rattle.ownership.specs.declared.outcome.Outcome.TheVariants.{Created, Configured, Unchanged}

abbrev pub written_over : Option State → State → Outcome
written_over None s = Created
written_over (Some before) s = if same_state s before then Unchanged else Configured
