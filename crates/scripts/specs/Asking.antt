-- Lines of a pipe that ask of the client.
use Rattle.std.specs.Prelude.{ℕ, List, Option, Some, None, option_and_then, if◌then◌else◌, codes}
use Rattle.std.specs.Str.{bytes_eq, is_utf8}
use Rattle.serde_json.specs.Data.{Data}
use Rattle.serde_json.specs.Find.{as_object, as_str}
use Rattle.serde_json.specs.Read.{read as read_json}
use Rattle.scripts.specs.ScriptSteps.{only_member}
use Rattle.scripts.specs.declared.asking.Question as code
use Rattle.scripts.specs.declared.asking.Question.TheVariants as asked

-- what is asked: its next move to the server's revision, or its objects
pub data Question : Type 0 where
  asks_next : Question
  asks_objects : Question

abbrev pub question_seen : code.Question → Question
question_seen asked.Next = asks_next
question_seen asked.Objects = asks_objects

abbrev pub question_named : List ℕ → Option Question
question_named name =
    if bytes_eq name (codes "next") then Some asks_next
    else if bytes_eq name (codes "objects") then Some asks_objects
    else None

-- {"client":"next"}, {"client":"objects"}
abbrev pub asked_by : List ℕ → Data → Option Question
asked_by name d = if bytes_eq name (codes "client") then option_and_then question_named (as_str d) else None

abbrev pub asked_in : Data → Option Question
asked_in d = option_and_then (λ p. asked_by p.0 p.1) (option_and_then only_member (as_object d))

-- what a text asks, if it asks something
abbrev pub asked_of : List ℕ → Option Question
asked_of text = option_and_then asked_in (read_json text)

-- what a line asks; one that is no text asks nothing
abbrev pub asked_on : List ℕ → Option Question
asked_on line = if is_utf8 line then asked_of line else None
