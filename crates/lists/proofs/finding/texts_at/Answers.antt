use Rattle.std.proofs.Common.{◌≡◌, [], Some, sym, ap, ◌∙◌, arith}
use Rattle.json.specs.Json.{value}
use Rattle.serde_json.specs.Read.{max_depth}
use Rattle.lists.specs.Finding.{reads}
use Rattle.lists.proofs.Turns.{whole_read}
use Rattle.json.specs.Lex.{tokens}
use Rattle.lists.proofs.finding.texts_at.Goals as goal

pub returns : goal.returns
returns c =
    let f = c.in_ok-texts.ensures.found in
    let over : c.find.new.reader ≡ [] = grind arith in
    let e : reads max_depth (tokens c.args.text.now) ≡ Some (f.0, []) = ap (reads max_depth) (sym c.in_ok-reader.ensures.ok) ∙ f.1 ∙ ap (λ r. Some (f.0, r)) over in
    (f.0, whole_read (value max_depth (tokens c.args.text.now)) f.0 e, f.2)
