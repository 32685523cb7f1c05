-- Items of a watch that fit (Kubernetes API Concepts, "Efficient detection of changes", "Watch bookmarks").
use Rattle.std.specs.Prelude.{ℕ, List, [], ◌∷◌, ⊤}
use Rattle.wireclient.specs.Reply.{ReplyItem}
use Rattle.decoder.specs.Wanted.{Wanted}
use Rattle.decoder.specs.Lines.{put, deleted, bookmark, error}
use Rattle.reflector.specs.Items.{Response, begun, page, line, over, unexpected, said_of_watch}

-- the answer's head, or a line that tells a change or a bookmark
abbrev pub IsFitting : Response → Type 0
IsFitting begun = ⊤
IsFitting (line (put o)) = ⊤
IsFitting (line (deleted o)) = ⊤
IsFitting (line (bookmark q)) = ⊤
IsFitting (line error) = ⊥
IsFitting (page p) = ⊥
IsFitting over = ⊥
IsFitting unexpected = ⊥

abbrev pub AreFitting : Wanted → List ReplyItem → Type 0
AreFitting wanted [] = ⊤
AreFitting wanted (x ∷ xs) = IsFitting (said_of_watch wanted x) × AreFitting wanted xs

-- the revision that an item tells; one that tells none leaves it
abbrev pub revision_after : ℕ → Response → ℕ
revision_after r (line (put o)) = o.revision
revision_after r (line (deleted o)) = o.revision
revision_after r (line (bookmark q)) = q
revision_after r _ = r

-- the last revision that they tell
abbrev pub revision_after_all : Wanted → ℕ → List ReplyItem → ℕ
revision_after_all wanted r [] = r
revision_after_all wanted r (x ∷ xs) = revision_after_all wanted (revision_after r (said_of_watch wanted x)) xs
