-- The plan of a write, and what is cached of it.
use Rattle.std.specs.Prelude.{IfSome}
use Rattle.api_types.specs.TypesFile.{ServedShape}
use Rattle.api_request.specs.Calls.{Plan}
use Rattle.verbs.specs.CachedStateViews.{IsCoherent}
use Rattle.api_request.specs.Views.{plan_of}
use Rattle.verbs.specs.declared.cached.WritePlan.{WritePlan}

abbrev pub plan_in : WritePlan → Plan
plan_in w = plan_of w.plan

-- what is cached is what the text says
abbrev pub CachesCoherently : ServedShape → WritePlan → Type 0
CachesCoherently t w = IfSome w.cached (IsCoherent t)
