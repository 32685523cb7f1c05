-- An epoch and a revision are told by their uid.
use Rattle.std.proofs.Common.{◌≡◌, ◌∙◌, ℕ, ◌/◌, ◌^◌, ◌≤◌, codes, length, refl, sym, arith, lit<}
use Rattle.std.proofs.lemmas.List.{append_cancel_right}
use Rattle.system_metadata.specs.Uids.{hex, uid}
use Rattle.system_metadata.proofs.LastDigits.{differ, length-last_digits, power, same_number, split_end}

length-hex : (count a b : ℕ) → length (hex count a) ≡ length (hex count b)
length-hex count a b = length-last_digits (codes "0123456789abcdef") count a ∙ sym (length-last_digits (codes "0123456789abcdef") count b)

same_hex : (count a b : ℕ) → a / power 16 count ≡ b / power 16 count → hex count a ≡ hex count b → a ≡ b
same_hex = same_number (codes "0123456789abcdef") (differ (codes "0123456789abcdef") refl) (lit< tt)

pub same_uid : (e r f s : ℕ) → e ≤ 253402207200 → f ≤ 253402207200 → r ≤ 9223372036854775807 → s ≤ 9223372036854775807 → uid e r ≡ uid f s → (e ≡ f) × (r ≡ s)
same_uid e r f s he hf hr hs same =
    let low = split_end _ _ (hex 12 r) (hex 12 s) (length-hex 12 r s) same in
    let mid = split_end _ _ (hex 3 (r / 16 ^ 12)) (hex 3 (s / 16 ^ 12)) (length-hex 3 (r / 16 ^ 12) (s / 16 ^ 12)) (append_cancel_right _ _ (codes "-") low.0) in
    let top = split_end _ _ (hex 3 (r / 16 ^ 15)) (hex 3 (s / 16 ^ 15)) (length-hex 3 (r / 16 ^ 15) (s / 16 ^ 15)) (append_cancel_right _ _ (codes "-8") mid.0) in
    let epoch = split_end _ _ (hex 4 e) (hex 4 f) (length-hex 4 e f) (append_cancel_right _ _ (codes "-8") top.0) in
    let high : e / 16 ^ 4 ≡ f / 16 ^ 4 = same_hex 8 (e / 16 ^ 4) (f / 16 ^ 4) (omega (arith, he, hf)) (append_cancel_right _ _ (codes "-") epoch.0) in
    let x : r / 16 ^ 15 ≡ s / 16 ^ 15 = same_hex 3 (r / 16 ^ 15) (s / 16 ^ 15) (omega (arith, hr, hs)) top.1 in
    let y : r / 16 ^ 12 ≡ s / 16 ^ 12 = same_hex 3 (r / 16 ^ 12) (s / 16 ^ 12) (omega (arith, x)) mid.1 in
    (same_hex 4 e f high epoch.1, same_hex 12 r s y low.1)
