-- The sheet's writer and the card's answer.
use Rattle.std.proofs.Common.{◌≡◌, ℕ, ◌<◌, ◌≤◌, cond, List, length, Ok, Err, Result, sym, ap, ◌∙◌, ⊎_elim}
use borrow.Author.Tests.{lt-leb}
use Rattle.std.proofs.lemmas.Bool.{le-leb, lt-ltb, le-ltb, cases_lt}
use Rattle.commands.specs.Settings.{Configuration}
use Rattle.sheets.specs.declared.refusal.Refusal.{Refusal}
use Rattle.sheets.specs.declared.refusal.Refusal.TheVariants.{OutputTooShort}
use Rattle.sheets.specs.Sheet.{sheet_text, sheet_written, number}
use Rattle.rule.specs.Calls.{over}
use Rattle.card.specs.Wholes.{sheet_answer}

abbrev pub sheet_numbers : Result ℕ Refusal → Result ℕ ℕ
sheet_numbers (Ok n) = Ok n
sheet_numbers (Err e) = Err (number e)

pub sheet_told : (c d : Configuration) (r : Result ℕ Refusal) (out after : List ℕ) → c ≡ d → (r, after) ≡ sheet_written c out → (sheet_numbers r, after) ≡ sheet_answer d out
sheet_told c d r out after same e =
    ap (λ p. (sheet_numbers p.0, p.1)) e
    ∙ ⊎_elim
    (λ (short : length out < 96). (λ i. numbers (cond (lt-leb 96 (length out) short i) written none)) ∙ sym (λ i. cond (lt-ltb (length out) 96 short i) (Err 6, out) (Ok (length (sheet_text c)), over (sheet_text c) out)))
    (λ (room : 96 ≤ length out). (λ i. numbers (cond (le-leb 96 (length out) room i) written none)) ∙ sym (λ i. cond (le-ltb (length out) 96 room i) (Err 6, out) (Ok (length (sheet_text c)), over (sheet_text c) out)))
    (cases_lt (length out) 96)
    ∙ ap (λ x. sheet_answer x out) same
  where
    numbers : Result ℕ Refusal × List ℕ → Result ℕ ℕ × List ℕ
    numbers p = (sheet_numbers p.0, p.1)

    written : Result ℕ Refusal × List ℕ
    written = (Ok (length (sheet_text c)), over (sheet_text c) out)

    none : Result ℕ Refusal × List ℕ
    none = (Err OutputTooShort, out)
