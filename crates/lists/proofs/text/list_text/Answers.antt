use Rattle.std.proofs.Common.{◌∙◌, ap}
use Rattle.std.specs.Option.{option_map}
use Rattle.serde_json.specs.Written.{compact_text}
use Rattle.lists.specs.Body.{continued_at, metadata_of, with_commas}
use Rattle.lists.specs.Views.{collection_of, page_seen}
use Rattle.lists.proofs.Joining.{text_is, texts_in}
use Rattle.lists.proofs.text.list_text.Goals as goal

pub returns : goal.returns
returns c =
    let revision = c.args.revision in
    let page = page_seen c.args.page.now in
    let metadata = metadata_of revision (option_map (continued_at revision) page.next) in
    text_is (collection_of c.args.of) metadata (texts_in c.args.page.now.found.items) _ _ _ _ _ _ _ _ _ _ _ _
    (ap (λ es. with_commas (texts_in es)) c.deref.ensures.value)
    (c.as_str.ensures.value ∙ c.in_ok-kind.ensures)
    (c.as_str-2.ensures.value ∙ c.in_ok-metadata.ensures ∙ ap (λ n. compact_text (metadata_of revision (option_map (continued_at revision) n))) c.next_of.ensures)
    c.in_ok-text.ensures.ok c.in_ok-push_quoted.ensures c.in_ok-push_str.ensures.bytes c.in_ok-push_items.ensures c.in_ok-push_str-2.ensures.bytes c.in_ok-push_quoted-2.ensures
    c.in_ok-push_str-3.ensures.bytes c.in_ok-push_str-4.ensures.bytes c.in_ok-push_str-5.ensures.bytes
