use Rattle.std.proofs.Common.{◌≡◌, ◌∙◌, map, ap, sym}
use Rattle.std.specs.List.{list_all, list_any}
use Rattle.std.specs.Str.{bytes_eq}
use Rattle.selector.specs.Fields.{name_key, refuses}
use Rattle.selector.specs.Requirement.{Requirement}
use Rattle.selector.specs.Views.{requirement_of}
use Rattle.selector.proofs.Named.{refused, taken}
use Rattle.selector.proofs.selector.Selector.decided_by_name.Goals as goal

pub returns-then-refuse : goal.returns-then-refuse
returns-then-refuse c =
    let refuses_it = list_any (refuses c.args.name.now) in
    let one : c.refuse.result ≡ refuses_it c.args.self.now = c.refuse.ensures ∙ ap (λ rs. refuses_it (map requirement_of rs)) c.deref.ensures.value ∙ ap refuses_it c.self.view_is in
    refused c.args.self.now c.args.name.now (sym one ∙ c.if-refuse.true)

pub returns-then-all_ask_name : goal.returns-then-all_ask_name
returns-then-all_ask_name c =
    let refuses_it = list_any (refuses c.args.name.now) in
    let on_name = list_all (λ (r : Requirement). bytes_eq r.key name_key) in
    let one : c.refuse.result ≡ refuses_it c.args.self.now = c.refuse.ensures ∙ ap (λ rs. refuses_it (map requirement_of rs)) c.deref.ensures.value ∙ ap refuses_it c.self.view_is in
    let all : c.all_ask_name.result ≡ on_name c.args.self.now =
    c.all_ask_name.ensures ∙ ap (λ rs. on_name (map requirement_of rs)) c.deref-else-refuse.ensures.value ∙ ap on_name c.self.view_is in
    taken c.args.self.now c.args.name.now (sym one ∙ c.if-refuse.false) (sym all ∙ c.if-all_ask_name.true)
