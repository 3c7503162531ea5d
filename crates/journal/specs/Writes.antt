-- What keep and erase write, and all that they promise of the caller's bytes.
use Rattle.std.specs.Prelude.{◌≡◌, ℕ, ◌-◌, ◌*◌, cond, ◌&&◌, List, [], ◌∷◌, ◌++◌, length, is_ok, Some, None, Option, Result, nat_lt}
use Rattle.memory.specs.declared.Refusal.{Refusal}
use Rattle.memory.specs.Bytes.{over_from}
use Rattle.memory.specs.Memory.{known, keepable, keep_answer, keep_after, erase_answer, erase_after}
use Rattle.journal.specs.Slots.{slots, used, writes_left, journal_meaning}

-- the first four bytes of a slot: 1 to keep or 0 to erase, section, length, 0
abbrev pub header : ℕ → ℕ → ℕ → List ℕ
header kind s n = kind ∷ (s ∷ (n ∷ (0 ∷ [])))

-- the bytes that a write puts into its slot
abbrev pub entry : ℕ → ℕ → List ℕ → List ℕ
entry kind s b = header kind s (length b) ++ b

-- the bytes that keep one string, or that erase it where there is none
abbrev pub written : ℕ → Option (List ℕ) → List ℕ
written s None = entry 0 s []
written s (Some b) = entry 1 s b

-- the image with bytes written into the slot behind the last used one
abbrev pub appended : List ℕ → List ℕ → List ℕ
appended image w = over_from (64 * used image (slots image)) w image

-- the image after keep
abbrev pub keep_image : List ℕ → ℕ → List ℕ → List ℕ
keep_image image s b = cond (is_ok (keep_answer (journal_meaning image) s b)) (appended image (entry 1 s b)) image

-- the image after erase
abbrev pub erase_image : List ℕ → ℕ → List ℕ
erase_image image s = cond (is_ok (erase_answer (journal_meaning image) s)) (appended image (entry 0 s [])) image

-- keep's answer r, where the bytes were xs and are ys
pub record Keeps (xs ys : List ℕ) (s : ℕ) (b : List ℕ) (r : Result (Unit {0}) Refusal) : Type 0 where
  pub answer : r ≡ keep_answer (journal_meaning xs) s b
  pub after : journal_meaning ys ≡ keep_after (journal_meaning xs) s b
  pub image : ys ≡ keep_image xs s b
  pub accepts : is_ok r ≡ (keepable s b && nat_lt 0 (writes_left xs))
  pub writes : writes_left ys ≡ writes_left xs - cond (is_ok r) 1 0

-- the same of erase
pub record Erases (xs ys : List ℕ) (s : ℕ) (r : Result (Unit {0}) Refusal) : Type 0 where
  pub answer : r ≡ erase_answer (journal_meaning xs) s
  pub after : journal_meaning ys ≡ erase_after (journal_meaning xs) s
  pub image : ys ≡ erase_image xs s
  pub accepts : is_ok r ≡ (known s && nat_lt 0 (writes_left xs))
  pub writes : writes_left ys ≡ writes_left xs - cond (is_ok r) 1 0

-- the answer r to keeping one string, or to erasing it where there is none
abbrev pub Spends : List ℕ → List ℕ → ℕ → Option (List ℕ) → Result (Unit {0}) Refusal → Type 0
Spends xs ys s None r = Erases xs ys s r
Spends xs ys s (Some b) r = Keeps xs ys s b r
