-- Bytes in which something is malformed, and what follows them.
use Rattle.std.proofs.Common.{◌≡◌, ℕ, true, false, List, [], ◌∷◌, ◌++◌, map, refl, sym, ap, ◌∙◌}
use Rattle.wireclient.specs.Reads.{Items, has_closed, has_malformed}
use Rattle.wireclient.specs.Reply.{ReplyItem, end, head, line, malformed, whole}

wrong : false ≡ true → ⊥
wrong e = cc

-- what is malformed is the last
closes : (items : List ReplyItem) → has_malformed items ≡ true → has_closed items ≡ true
closes [] is = absurd (wrong is)
closes (head code ∷ items) is = closes items is
closes (whole body ∷ items) is = closes items is
closes (line text ∷ items) is = closes items is
closes (end ∷ items) is = refl
closes (malformed ∷ items) is = refl

-- lines and an end aren't
lines_end : (lines : List (List ℕ)) → has_malformed (map line lines ++ end ∷ []) ≡ false
lines_end [] = refl
lines_end (text ∷ lines) = lines_end lines

-- what wireclient says of bytes that are read
pub record Readings : Type 0 where
  pub one : (bytes : List ℕ) (items others : List ReplyItem) → Items bytes items → Items bytes others → items ≡ others
  pub closed : (bytes more : List ℕ) (items : List ReplyItem) → Items bytes items → has_closed items ≡ true → Items (bytes ++ more) items

module _ (readings : Readings) (bytes more : List ℕ) (held : List ReplyItem) (hold : Items bytes held) (is : has_malformed held ≡ true) where
  pub stays : (items : List ReplyItem) → Items (bytes ++ more) items → items ≡ held
  stays items all = readings.one (bytes ++ more) items held all (readings.closed bytes more held hold (closes held is))

  none_of : (items : List ReplyItem) → has_malformed items ≡ false → Items (bytes ++ more) items → ⊥
  none_of items fine all = wrong (sym fine ∙ ap has_malformed (stays items all) ∙ is)

  pub no_reply : (code : ℕ) (body : List ℕ) → Items (bytes ++ more) (head code ∷ whole body ∷ end ∷ []) → ⊥
  no_reply code body = none_of (head code ∷ whole body ∷ end ∷ []) refl

  pub no_watch : (code : ℕ) (lines : List (List ℕ)) → Items (bytes ++ more) (head code ∷ (map line lines ++ end ∷ [])) → ⊥
  no_watch code lines = none_of (head code ∷ (map line lines ++ end ∷ [])) (lines_end lines)
