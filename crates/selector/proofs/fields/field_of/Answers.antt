use Rattle.std.proofs.Common.{Bool, cond, length, drop, None, option_map, sym, ap}
use Rattle.selector.specs.Fields.{about_name, name_asked, name_path}
use Rattle.selector.specs.Grammar.{sign_at}
use Rattle.selector.proofs.Beginnings.{lacks}
use Rattle.selector.proofs.Found.{at_none}
use Rattle.selector.proofs.fields.field_of.Goals as goal

pub returns-in_default : goal.returns-in_default
returns-in_default c =
    let text = c.args.text.now in
    let none = at_none c.strip_prefix.result _ _ c.in_default.is c.strip_prefix.ensures.cases in
    sym (ap (λ (b : Bool). cond b (option_map about_name (name_asked (sign_at (drop (length name_path) text)))) None) (lacks name_path text none))
