-- What the calls answer and leave where no cause of a refusal holds.
use Rattle.std.proofs.Common.{◌≡◌, ℕ, ◌+◌, ◌-◌, ◌≤◌, ◌++◌, append_assoc, true, List, length, take, drop, Some, None, Ok, Option, sym, refl, ap, ◌∙◌, ap₂, arith}
use Rattle.std.specs.Option.{option_map}
use Rattle.std.proofs.lemmas.List.{take-append-drop, drop-take, drop-drop}
use Rattle.std.proofs.lemmas.Bool.{le-ltb}
use Rattle.memory.specs.Memory.{Meaning, Fitting, known, changed, with_string, keep_answer, keep_after, erase_answer, erase_after, read_answer, read_out}

module _ (m : Meaning) (s : ℕ) (k : known s ≡ true) (paid : m.price ≤ m.left) where
  pub erase_done : (erase_answer m s ≡ Ok tt) × (erase_after m s ≡ changed m s None)
  erase_done = let p = le-ltb m.left m.price paid in rw (k, p) (refl, refl)

  pub keep_done : (b : List ℕ) → length b ≤ 56 → (keep_answer m s b ≡ Ok tt) × (keep_after m s b ≡ changed m s (Some b))
  keep_done b short = let p = le-ltb m.left m.price paid in let q = le-ltb 56 (length b) short in rw (k, p, q) (refl, refl)

pub read_done : (m : Meaning) (s : ℕ) → known s ≡ true → (out : List ℕ) → 56 ≤ length out → (read_answer m s (length out) ≡ Ok (option_map length (m.string s))) × (read_out m s out ≡ with_string (m.string s) out)
read_done m s k out room = let p = le-ltb (length out) 56 room in rw (k, p) (refl, refl)

-- a string over the first 56 bytes, with the others behind them, is the string over them all
pub with_string-front : (o : Option (List ℕ)) (out : List ℕ) → Fitting o → with_string o (take 56 out) ++ drop 56 out ≡ with_string o out
with_string-front None out f = take-append-drop 56 out
with_string-front (Some b) out f =
    let k : ℕ = 56 - length b in
    let whole : length b + k ≡ 56 = omega arith in
    let rest : List ℕ = drop (length b) out in
    let front : drop (length b) (take 56 out) ≡ take k rest = ap (λ n. drop (length b) (take n out)) (sym whole) ∙ drop-take (length b) k out in
    let back : drop 56 out ≡ drop k rest = ap (λ n. drop n out) (sym whole) ∙ sym (drop-drop k (length b) out) in
    append_assoc b _ _ ∙ ap (λ z. b ++ z) (ap₂ (λ x y. x ++ y) front back ∙ take-append-drop k rest)
