-- What a client makes of the page that it asked for.
use Rattle.std.proofs.Common.{◌≡◌, ℕ, true, cond, List, [], ◌∷◌, ◌++◌, Option, Some, None, Ok, refl, ap, ◌∙◌, sym, eq-eqb}
use Rattle.decoder.specs.Pages.{Page, page_in}
use Rattle.decoder.specs.Wanted.{Wanted}
use Rattle.indexer.specs.Objects.{Stored}
use Rattle.liveness_laws.proofs.Exchange.{asking}
use Rattle.reflector.specs.Client.{Cache, Client, Notice, SyncPhase, first, streaming, next}
use Rattle.reflector.specs.Items.{page_or_unexpected}
use Rattle.reflector.specs.Run.{relisting, ascends_within_limit, keep_paged, receives, receives_all, with_list, with_next, with_page}
use Rattle.wireclient.specs.Reply.{end, head, whole}

-- the client asks what comes behind these objects of the list at the revision
abbrev pub GoesFrom : ℕ → SyncPhase → List Stored → Type 0
GoesFrom r first paged = paged ≡ []
GoesFrom r (next q token others) paged = (q ≡ r) × (others ≡ paged)
GoesFrom r streaming paged = ⊥

module _ (wanted : Wanted) (cache : Option Cache) (notices : List Notice) where
  -- what ends a request isn't followed by anything
  ended : (c : Client) (r : ℕ) (all : List Stored) (token : Option (List ℕ)) → receives wanted (keep_paged c r all token) end ≡ keep_paged c r all token
  ended c r all None = refl
  ended c r all (Some token) = refl

  body_received : (sync : SyncPhase) (r : ℕ) (paged : List Stored) (body : List ℕ) (p : Page) → GoesFrom r sync paged → page_in wanted body ≡ Ok p → p.revision ≡ r → ascends_within_limit (paged ++ p.objects) ≡ true
      → receives wanted (asking cache sync true notices) (whole body) ≡ keep_paged (asking cache sync true notices) p.revision (paged ++ p.objects) p.token
  body_received first r paged body p from is same fits =
      let c : Client = asking cache first true notices in
      ap (λ read. with_list c (with_page c []) (page_or_unexpected read)) is
      ∙ ap (λ l. with_page c l p) (sym from)
      ∙ ap (λ b. cond b (keep_paged c p.revision (paged ++ p.objects) p.token) (relisting c)) fits
  body_received (next q token others) r paged body p from is same fits =
      let c : Client = asking cache (next q token others) true notices in
      ap (λ read. with_list c (with_next c q others) (page_or_unexpected read)) is
      ∙ ap (λ b. cond b (with_page c others p) (relisting c)) (eq-eqb _ _ (same ∙ sym from.0))
      ∙ ap (λ l. with_page c l p) from.1
      ∙ ap (λ b. cond b (keep_paged c p.revision (paged ++ p.objects) p.token) (relisting c)) fits
  body_received streaming r paged body p from is same fits = absurd from

  head_received : (sync : SyncPhase) → receives wanted (asking cache sync true notices) (head 200) ≡ asking cache sync true notices
  head_received first = refl
  head_received (next q token paged) = refl
  head_received streaming = refl

  -- of an answer of one page it keeps the list, or sets the objects aside until the next page
  pub page_received : (sync : SyncPhase) (r : ℕ) (paged : List Stored) (body : List ℕ) (p : Page) → GoesFrom r sync paged → page_in wanted body ≡ Ok p → p.revision ≡ r → ascends_within_limit (paged ++ p.objects) ≡ true
      → receives_all wanted (asking cache sync true notices) (head 200 ∷ whole body ∷ end ∷ []) ≡ keep_paged (asking cache sync true notices) p.revision (paged ++ p.objects) p.token
  page_received sync r paged body p from is same fits =
      ap (λ d. receives wanted (receives wanted d (whole body)) end) (head_received sync)
      ∙ ap (λ d. receives wanted d end) (body_received sync r paged body p from is same fits)
      ∙ ended (asking cache sync true notices) p.revision (paged ++ p.objects) p.token
