-- The items are a function of the bytes.
use Rattle.std.proofs.Common.{◌≡◌, ℕ, Bool, true, false, cond, leb, List, [], ◌∷◌, ◌++◌, length, map, Option, Some, None, refl, sym, ap, ap₂, subst, ◌∙◌}
use Rattle.httparse.specs.Grammar.{ResponseHead, status_code}
use Rattle.httparse.specs.Spans.{name_and_value}
use Rattle.httparse.proofs.GrammarLemmas.{response_unique}
use Rattle.wireclient.specs.Reads.{Checked, CheckedWhereEnded, CheckedAt, Items, Reaches, ReaderRepresents, framing_of, start}
use Rattle.wire.specs.declared.place.ScanState.{ScanState}
use Rattle.wire.specs.Heads.{max_head, place_after}
use Rattle.wireclient.specs.Reply.{Framing, HeadCheck, ReplyItem, State, heading, body, size, size_lf, data_in, data_cr, data_lf, last_cr, last_lf, ended, broken, Next, fails, headed, step}

pub framed_alike : (h k : ResponseHead) → h ≡ k → framing_of (map name_and_value h.fields) ≡ framing_of (map name_and_value k.fields)
framed_alike h k same = ap (λ (m : ResponseHead). framing_of (map name_and_value m.fields)) same

checked_once : (bytes : List ℕ) (j k : HeadCheck) → Checked bytes j → Checked bytes k → j ≡ k
checked_once bytes None None a b = refl
checked_once bytes None (Some (status, framing)) a b = absurd (let not = a b.0 b.1 b.2 in let is = b.4 in cc)
checked_once bytes (Some (status, framing)) None a b = absurd (let not = b a.0 a.1 a.2 in let is = a.4 in cc)
checked_once bytes (Some (s, f)) (Some (t, g)) a b =
    let same : a.0 ≡ b.0 = (response_unique bytes a.0 b.0 [] [] a.1 b.1).0 in
    let status : s ≡ t = a.3 ∙ ap status_code same ∙ sym b.3 in
    let framing : ◌≡◌ {A = Option Framing} (Some f) (Some g) = sym a.4 ∙ framed_alike a.0 b.0 same ∙ b.4 in
    let framed : f ≡ g = cc in
    ap₂ (λ (n : ℕ) (m : Framing). Some (n, m)) status framed

headed_once : (t : Bool) (bytes : List ℕ) (o : Option ScanState) (j k : HeadCheck) → CheckedWhereEnded t bytes o j → CheckedWhereEnded t bytes o k
    → cond t fails (headed j bytes o) ≡ cond t fails (headed k bytes o)
headed_once true bytes o j k a b = refl
headed_once false bytes (Some p) j k a b = refl
headed_once false bytes None j k a b = ap (λ (m : HeadCheck). headed m bytes None) (checked_once bytes j k a b)

stepped_once : (s : State) (b : ℕ) (j k : HeadCheck) → CheckedAt s b j → CheckedAt s b k → step j s b ≡ step k s b
stepped_once (heading bytes p) b j k x y = headed_once (leb max_head (length bytes)) (bytes ++ b ∷ []) (place_after p b) j k x y
stepped_once (body left bytes) b j k x y = refl
stepped_once (size count value text) b j k x y = refl
stepped_once (size_lf value text) b j k x y = refl
stepped_once (data_in left text) b j k x y = refl
stepped_once (data_cr text) b j k x y = refl
stepped_once (data_lf text) b j k x y = refl
stepped_once (last_cr text) b j k x y = refl
stepped_once (last_lf text) b j k x y = refl
stepped_once ended b j k x y = refl
stepped_once broken b j k x y = refl

pub reaches_once : (s t u : State) (bytes : List ℕ) (items others : List ReplyItem) → Reaches s bytes t items → Reaches s bytes u others → (items ≡ others) × (t ≡ u)
reaches_once s t u [] items others a b = (a.1 ∙ sym b.1, a.0 ∙ sym b.0)
reaches_once s t u (x ∷ bytes) items others a b =
    let next : step b.0 s x ≡ step a.0 s x = stepped_once s x b.0 a.0 b.2 a.2 in
    let rest : Reaches (step a.0 s x).0 bytes u b.1 = subst (λ (n : Next). Reaches n.0 bytes u b.1) next b.3 in
    let after = reaches_once (step a.0 s x).0 t u bytes a.1 b.1 a.3 rest in
    (a.4 ∙ ap₂ (λ (n : Next) (more : List ReplyItem). n.1 ++ more) (sym next) after.0 ∙ sym b.4, after.1)

pub items_once : (bytes : List ℕ) (items others : List ReplyItem) → Items bytes items → Items bytes others → items ≡ others
items_once bytes items others a b = (reaches_once start a.0 b.0 bytes items others a.1 b.1).0

pub represents_once : (bytes : List ℕ) (one other : Option State) → ReaderRepresents one bytes → ReaderRepresents other bytes → one ≡ other
represents_once bytes one other a b = a.2 ∙ ap (λ (s : State). Some s) (reaches_once start a.0 b.0 bytes a.1 b.1 a.3 b.3).1 ∙ sym b.2
