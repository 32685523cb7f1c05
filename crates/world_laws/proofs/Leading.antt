-- Where the lines of a watch lead: from the client's objects at a revision to those at the revision where the watch then stands.
use Rattle.std.proofs.Common.{◌≡◌, ℕ, zero, suc, ◌<◌, ◌≤◌, Bool, true, false, cond, List, [], ◌∷◌, length, map, take, sym, ap, subst, ◌∙◌, eqb-true, arith, refl}
use Rattle.std.specs.Prelude.{◌==◌, nat_lt}
use Rattle.std.proofs.lemmas.Bool.{and_parts}
use Rattle.std.specs.FinMap as fin
use Rattle.std.specs.List.{AllByRecursion}
use Rattle.std.specs.Str.{is_utf8}
use Rattle.api_types.specs.TypesFile.{ServedShape}
use Rattle.history.specs.History.{History, IsHistory, Key, Object, last_revision}
use Rattle.history.specs.Page.{is_in_namespace}
use Rattle.history.specs.Seen.{Added, Deleted, IsNextSeen, Modified, SeenChange, SeenKind, by_kind, reached, seen_changes}
use Rattle.history.proofs.Following.{next_seen}
use Rattle.history.proofs.Wholes.{whole_is}
use Rattle.indexer.specs.Objects.{Stored}
use Rattle.decoder.specs.Lines.{Line, line_in}
use Rattle.decoder.specs.Members.{Read}
use Rattle.decoder.specs.Wanted.{Wanted}
use Rattle.line_laws.specs.Listed.{IsReadAs}
use Rattle.line_laws.specs.Shown.{taken}
use Rattle.line_laws.proofs.Said.{line_by}
use Rattle.verbs.specs.Machine.{IsMachine}
use Rattle.reflector.specs.Client.{place_in}
use Rattle.reflector.specs.FollowsLaws.{IsLineStep, Server, IsWatchStep, IsWatchReply}
use Rattle.reflector.specs.Items.{line_or_unexpected}
use Rattle.wireclient.specs.Reply.{ReplyItem, malformed, max_line}
use Rattle.wireclient.specs.Reply as reply
use Rattle.wire_laws.specs.Watched.{lines_sent}
use Rattle.world_laws.proofs.Mirror.{mirrored, server_of}
use Rattle.world_laws.proofs.Mirrored.{AreRead, mirrored-insert, mirrored-remove}
use Rattle.world_laws.proofs.SeenLines.{IsIt, IsReadLine, is_own, line_read, line_text}
use Rattle.world_laws.proofs.SeenTexts.{IsSeenText}
use Rattle.world_laws.proofs.TaskObjects.{selected_read}
use Rattle.world_laws.specs.Tasks.{IsTask, Task, selected_at, selection, wanted_by}

module _ (types : List ServedShape) (task : Task) (machine : History) (is : IsTask types task) (is_machine : IsMachine types machine) where
  abbrev server : Server
  server = server_of task machine

  abbrev wanted : Wanted
  wanted = wanted_by task

  history : IsHistory machine
  history = whole_is is_machine.first machine is_machine.whole

  are : (r : ℕ) → AreRead wanted task.settings.kind (selected_at task machine r)
  are r = selected_read types task is machine is_machine r

  -- ---- one line

  put_goes : (k : Key) (o : Object) (x : Stored) (p : ℕ) (others : ℕ → Type 0) → IsReadAs wanted k o x → k.kind ≡ task.settings.kind → p < o.revision → o.revision ≤ machine.current
      → fin.insert (selected_at task machine p) k o ≡ selected_at task machine o.revision → others o.revision
      → (p < x.revision) × (x.revision ≤ machine.current) × (fin.insert (server.at p) (place_in x) x ≡ server.at x.revision) × others x.revision
  put_goes k o x p others it own above within applies rest =
      subst (λ r. (p < r) × (r ≤ machine.current) × (fin.insert (server.at p) (place_in x) x ≡ server.at r) × others r) (sym it.of_revision)
      (above, within, sym (mirrored-insert wanted task.settings.kind (selected_at task machine p) (are p) k own o x it) ∙ ap (mirrored wanted) applies, rest)

  line_goes : (kind : SeenKind) (k : Key) (o : Object) (x : Stored) (p : ℕ) (others : ℕ → Type 0) → IsIt wanted kind k o x → k.kind ≡ task.settings.kind → p < o.revision → o.revision ≤ machine.current
      → by_kind kind (selected_at task machine p) k o ≡ selected_at task machine o.revision → others o.revision → IsLineStep server p (taken kind x) others
  line_goes Added k o x p others it own above within applies rest = put_goes k o x p others it own above within applies rest
  line_goes Modified k o x p others it own above within applies rest = put_goes k o x p others it own above within applies rest
  line_goes Deleted k o x p others it own above within applies rest =
      subst (λ r. (p < r) × (r ≤ machine.current) × (fin.remove (server.at p) (place_in x) ≡ server.at r) × others r) (sym it.1)
      (above, within, sym (mirrored-remove wanted task.settings.kind (selected_at task machine p) (are p) k own (place_in x) it.0) ∙ ap (mirrored wanted) applies, rest)

  -- ---- lines in turn

  -- what is seen first after p leads on, or its line is too long, or is no text to a client
  first_reaches : (x : SeenChange) (p q : ℕ) (xs : List SeenChange) (news : List ReplyItem) → IsNextSeen (selection task) machine.changes machine.current p x xs → IsSeenText types (selection task) x
      → IsWatchReply server wanted x.object.revision news q → IsWatchReply server wanted p (cond (nat_lt (length (line_text x)) max_line) (reply.line (line_text x) ∷ news) (malformed ∷ [])) q
  first_reaches x p q xs news next text others = by_length (nat_lt (length (line_text x)) max_line)
    where
      line : IsReadLine wanted x.kind x.key x.object
      line =
          let top : machine.current ≤ last_revision = history.high in
          let low : x.object.revision ≤ machine.current = next.within in
          line_read types task is x text (omega (arith, top, low))

      own : x.key.kind ≡ task.settings.kind
      own = eqb-true x.key.kind task.settings.kind (and_parts (x.key.kind == task.settings.kind) (is_in_namespace task.settings.namespace x.key) (is_own types task is x text)).0

      Goes : Read Line → Type 0
      Goes r = IsWatchStep server p (line_or_unexpected r) (λ n. IsWatchReply server wanted n news q)

      by_text : (b : Bool) → is_utf8 (line_text x) ≡ b → Goes (line_in wanted (line_text x))
      by_text true text =
          subst Goes (sym (line_by wanted (line_text x) (taken x.kind line.stored) line.says true text))
          (line_goes x.kind x.key x.object line.stored p (λ n. IsWatchReply server wanted n news q) line.is_it own next.above next.within next.applies others)
      by_text false text = subst Goes (sym (line_by wanted (line_text x) (taken x.kind line.stored) line.says false text)) tt

      by_length : (b : Bool) → IsWatchReply server wanted p (cond b (reply.line (line_text x) ∷ news) (malformed ∷ [])) q
      by_length true = by_text (is_utf8 (line_text x)) refl
      by_length false = tt

  pub lines_lead : (n p : ℕ) (xs : List SeenChange) (last : List ReplyItem) (q : ℕ) → p ≤ machine.current → seen_changes (selection task) machine.changes p machine.current ≡ xs
      → AllByRecursion (IsSeenText types (selection task)) xs → IsWatchReply server wanted (reached p (take n xs)) last q → IsWatchReply server wanted p (lines_sent (map line_text (take n xs)) last) q
  lines_lead zero p xs last q come seen texts others = others
  lines_lead (suc n) p [] last q come seen texts others = others
  lines_lead (suc n) p (x ∷ xs) last q come seen texts others =
      let next : IsNextSeen (selection task) machine.changes machine.current p x xs = next_seen (selection task) machine.changes machine.current p x xs history.rising come seen in
      first_reaches x p q xs (lines_sent (map line_text (take n xs)) last) next texts.0 (lines_lead n x.object.revision xs last q next.within next.rest texts.1 others)
