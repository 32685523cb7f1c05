-- What the crate's values say, without where they lie in memory.
use Rattle.std.specs.Prelude.{◌≡◌, ℕ, List, map, option_map, string_bytes, String}
use Rattle.std.specs.declared.alloc.Global.{Global}
use Rattle.std.specs.declared.result.Result.{Result}
use Rattle.std.specs.declared.result.Result.TheVariants.{Ok, Err}
use Rattle.params.specs.declared.fault.ParamsFault.{ParamsFault}
use Rattle.params.specs.declared.fault.ParamsFault.TheVariants.{Bad, Memory}
use Rattle.params.specs.declared.params.Params.{Params}
use Rattle.params.specs.declared.params.Token as token
use Rattle.params.specs.declared.params.Watch as watch
use Rattle.params.specs.declared.parameter.Parameter.{Parameter}
use Rattle.params.specs.Query.{Pairs}
use Rattle.params.specs.Values.{Token, Watch, Values}

-- what a call answered, seen by view, is what reading gives, unless there was no memory
abbrev pub FailsWith : {B : Type 0} → ParamsFault → Result B Parameter → Type 0
FailsWith (Bad p) answer = answer ≡ Err p
FailsWith Memory answer = Unit {0}

abbrev pub Returns : {A B : Type 0} → (A → B) → Result A ParamsFault → Result B Parameter → Type 0
Returns view (Ok x) answer = answer ≡ Ok (view x)
Returns view (Err e) answer = FailsWith e answer

abbrev pub pairs_of : List (String Global × String Global) → Pairs
pairs_of pairs = map (λ p. (string_bytes p.0, string_bytes p.1)) pairs

abbrev pub token_view : token.Token → Token
token_view t = record { revision = t.revision; namespace = string_bytes t.namespace; name = string_bytes t.name }

-- a token's parts
abbrev pub place_of : ℕ → List ℕ → List ℕ → Token
place_of revision namespace name = record { revision = revision; namespace = namespace; name = name }

abbrev pub watch_view : watch.Watch → Watch
watch_view w = record { has_bookmarks = w.has_bookmarks; timeout = w.timeout }

abbrev pub values_of : Params → Values
values_of p = record {
  manager = string_bytes p.manager;
  is_forced = p.is_forced;
  version = p.version;
  version_match = p.version_match;
  limit = p.limit;
  token = option_map token_view p.token;
  selector = p.selector;
  watch = option_map watch_view p.watch;
}
