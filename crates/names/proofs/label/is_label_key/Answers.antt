use Rattle.std.proofs.Common.{lit<, None, eqb}
use Rattle.std.proofs.lemmas.Str.Pattern.{split_once_first}
use Rattle.names.proofs.Found.{list_any-none}
use Rattle.names.proofs.label.is_label_key.Goals as goal

pub returns-in-None : goal.returns-in-None
returns-in-None c =
    let none = list_any-none (λ b. eqb b 47) c.args.text.now (split_once_first 47 c.args.text.now None c.in-None.ensures.cases (lit< tt)) in
    rw none c.is_name-in-None.ensures
