-- Digits, one after another.
use Rattle.std.proofs.Common.{◌≡◌, ℕ, zero, suc, ◌+◌, ◌-◌, ◌*◌, ◌/◌, ◌%◌, ◌^◌, ◌<◌, List, ◌∷◌, ◌++◌, length, take, drop, decimal, fold, sym, refl, ap, ◌∙◌, ap₂, mod-lt, pow-suc, div-add-mod', arith, length-append}
use native.Mathlib.Nat.{pow-zero}
use Rattle.std.proofs.lemmas.Fmt.{decimal_injective}
use Rattle.std.proofs.lemmas.List.{take_at, drop_at}
use Rattle.std.proofs.lemmas.List.Sums.{fold_push}
use Rattle.texts.specs.Decimals.{padded}
use Rattle.texts.proofs.Cuts.{length_padded}
use Rattle.bodies.specs.Decimals.{pointed}

-- the number that digits write
abbrev read : List ℕ → ℕ
read ds = fold (λ n c. n * 10 + (c - 48)) 0 ds

read_padded : (width n : ℕ) → n < 10 ^ width → read (padded width n) ≡ n
unfolding padded
read_padded zero n h = omega (arith, pow-zero 10)
read_padded (suc width) n h =
    let less : n / 10 < 10 ^ width = omega (arith, pow-suc 10 width) in
    let last = fold_push (λ m c. m * 10 + (c - 48)) 0 (padded width (n / 10)) (48 + n % 10) in
    omega (arith, last, read_padded width (n / 10) less)

-- parts of one length at the front of equal texts are equal, and so is the rest
pub same_front : (a b s t : List ℕ) → length a ≡ length b → a ++ s ≡ b ++ t → (a ≡ b) × (s ≡ t)
same_front a b s t n e = (
  sym (take_at a s (length a) refl) ∙ ap (take (length a)) e ∙ take_at b t (length a) (sym n),
  sym (drop_at a s (length a) refl) ∙ ap (drop (length a)) e ∙ drop_at b t (length a) (sym n),
)

-- a number in so many digits can be read back, and what follows it
pub padded_front : (width m n : ℕ) (s t : List ℕ) → m < 10 ^ width → n < 10 ^ width → padded width m ++ s ≡ padded width n ++ t → (m ≡ n) × (s ≡ t)
padded_front width m n s t hm hn e =
    let p = same_front (padded width m) (padded width n) s t (length_padded width m ∙ sym (length_padded width n)) e in
    (sym (read_padded width m hm) ∙ ap read p.0 ∙ read_padded width n hn, p.1)

pub padded_same : (width m n : ℕ) → m < 10 ^ width → n < 10 ^ width → padded width m ≡ padded width n → m ≡ n
padded_same width m n hm hn e = sym (read_padded width m hm) ∙ ap read e ∙ read_padded width n hn

-- a number with decimals can be read back
pub pointed_same : (places m n : ℕ) → 0 < 10 ^ places → m / 10 ^ places < 2 ^ 64 → n / 10 ^ places < 2 ^ 64 → pointed places m ≡ pointed places n → m ≡ n
unfolding pointed
pointed_same places m n h hm hn e =
    let unit = 10 ^ places in
    let ends : length (46 ∷ padded places (m % unit)) ≡ length (46 ∷ padded places (n % unit)) = ap suc (length_padded places (m % unit) ∙ sym (length_padded places (n % unit))) in
    let long = simp length-append at (ap length e) in
    let wholes : length (decimal (m / unit)) ≡ length (decimal (n / unit)) = omega arith in
    let p = same_front (decimal (m / unit)) (decimal (n / unit)) (46 ∷ padded places (m % unit)) (46 ∷ padded places (n % unit)) wholes e in
    let whole : m / unit ≡ n / unit = decimal_injective (m / unit) (n / unit) hm hn p.0 in
    let rest : m % unit ≡ n % unit = padded_same places (m % unit) (n % unit) (mod-lt m h) (mod-lt n h) (ap (drop 1) p.1) in
    sym (div-add-mod' m unit) ∙ ap₂ (λ q r. q * unit + r) whole rest ∙ div-add-mod' n unit
