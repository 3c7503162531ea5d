-- Three parts pasted one behind the other.
use Rattle.std.proofs.Common.{◌≡◌, ℕ, ◌+◌, List, ◌++◌, length, drop, sym, refl, ap, ◌∙◌, append_assoc, zero-add, arith, length-append}
use lib.Seq.{paste}
use Rattle.std.proofs.lemmas.List.Edits.{paste-paste, paste_all}

laid : (d h p s : List ℕ) → paste (paste (paste d 0 h (length h)) (length h) p (length p)) (length h + length p) s (length s) ≡ (h ++ (p ++ s)) ++ drop (length h + length p + length s) d
laid d h p s =
    let one = ap (λ n. paste (paste d 0 h (length h)) n p (length p)) (sym (zero-add (length h))) ∙ paste-paste d 0 h p (length h) (length p) refl refl (omega arith) in
    let long : length h + length p ≡ length (h ++ p) = simp length-append (omega arith) in
    let two = ap (λ n. paste (paste d 0 (h ++ p) (length h + length p)) n s (length s)) (sym (zero-add (length h + length p))) ∙ paste-paste d 0 (h ++ p) s (length h + length p) (length s) long refl (omega arith) in
    let all = paste_all d 0 ((h ++ p) ++ s) (length h + length p + length s) (simp length-append (omega arith)) in
    ap (λ l. paste l (length h + length p) s (length s)) one ∙ two ∙ all ∙ (λ i. append_assoc h p s i ++ drop (zero-add (length h + length p + length s) i) d)

pub size : (h p s : List ℕ) → length h + length p + length s ≡ length (h ++ (p ++ s))
size h p s = simp length-append (omega arith)

pub laid_all : (d h p s o₁ o₂ o₃ : List ℕ) → o₁ ≡ paste d 0 h (length h) → o₂ ≡ paste o₁ (length h) p (length p) → o₃ ≡ paste o₂ (length h + length p) s (length s) → o₃ ≡ (h ++ (p ++ s)) ++ drop (length (h ++ (p ++ s))) d
laid_all d h p s o₁ o₂ o₃ e₁ e₂ e₃ =
    e₃ ∙ ap (λ o. paste o (length h + length p) s (length s)) (e₂ ∙ ap (λ o. paste o (length h) p (length p)) e₁) ∙ laid d h p s ∙ ap (λ n. (h ++ (p ++ s)) ++ drop n d) (size h p s)
