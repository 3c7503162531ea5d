-- What a write into one place leaves of the five.
use Rattle.std.proofs.Common.{◌≡◌, ℕ, ◌+◌, ◌<◌, ◌≤◌, true, cond, ◌&&◌, eqb, leb, ◌⊎◌, List, length, get_or, take, drop, set, Some, None, Option, sym, refl, ap, ◌∙◌, subst, inl, inr, ⊎_elim, add-zero, arith}
use mathlib.Core.Path.{fun_ext}
use Rattle.std.specs.Map.{update}
use Rattle.std.proofs.lemmas.Bool.{le-leb, cases_eq, eq-eqb, ne_eqb, cond-true, cond-false, cases_Bool}
use Rattle.std.proofs.lemmas.Bool.Decides.{nat_tests}
use Rattle.std.proofs.lemmas.List.{get_or-set_same, get_or-set_other, length-set, take_at, drop-take, take-take, drop-drop}
use Rattle.memory.specs.Bytes.{part}
use Rattle.memory.specs.Memory.{known, changed}
use Rattle.memory.proofs.Bytes.{get_or-part, same_part, length-over_from, get_or-over_from, drop-over_from}
use Rattle.battery.specs.Places.{start, string_in, filled, battery_string, battery_meaning}

-- two places lie apart
starts_apart : (q s : ℕ) → known q ≡ true → known s ≡ true → (q ≡ s → ⊥) → (start q + 64 ≤ start s) ⊎ (start s + 64 ≤ start q)
starts_apart q s kq ks ne = grind (arith, nat_tests)

-- every place lies within the image
pub start_within : (s : ℕ) → known s ≡ true → start s + 64 ≤ 320
start_within s k = grind (arith, nat_tests)

-- a change of one place is a change of its section alone
placed : (xs ys : List ℕ) (s : ℕ) (v : Option (List ℕ)) → known s ≡ true → string_in (part ys (start s)) ≡ v → ((a : ℕ) → (a + 64 ≤ start s) ⊎ (start s + 64 ≤ a) → part ys a ≡ part xs a) → battery_meaning ys ≡ changed (battery_meaning xs) s v
placed xs ys s v k here apart =
    let at_s : battery_string ys s ≡ update eqb (battery_string xs) s v s = cond-true (known s) _ _ k ∙ here ∙ sym (cond-true (eqb s s) v _ (eq-eqb s s refl)) in
    let kept : (q : ℕ) → (q ≡ s → ⊥) → battery_string ys q ≡ battery_string xs q = λ q ne. ⊎_elim
    (λ kq. cond-true (known q) _ _ kq ∙ ap string_in (apart (start q) (starts_apart q s kq k ne)) ∙ sym (cond-true (known q) _ _ kq))
    (λ kq. cond-false (known q) _ _ kq ∙ sym (cond-false (known q) _ _ kq)) (cases_Bool (known q)) in
    let all : (q : ℕ) → battery_string ys q ≡ update eqb (battery_string xs) s v q = λ q. ⊎_elim
    (λ e. subst (λ x. battery_string ys x ≡ update eqb (battery_string xs) s v x) (sym e) at_s)
    (λ ne. kept q ne ∙ sym (cond-false (eqb s q) v _ (ne_eqb s q (λ e. ne (sym e))))) (cases_eq q s) in
    ap (λ f. record { string = f; left = 0; price = 0 }) (fun_ext all)

pub erased : (xs : List ℕ) (s : ℕ) → known s ≡ true → 320 ≤ length xs → battery_meaning (set xs (start s) 0) ≡ changed (battery_meaning xs) s None
erased xs s k long =
    let w = start_within s k in
    let ys : List ℕ = set xs (start s) 0 in
    let z : get_or (part ys (start s)) 0 0 ≡ 0 = get_or-part ys (start s) 0 (omega arith) ∙ ap (λ i. get_or ys i 0) (add-zero (start s)) ∙ get_or-set_same xs (start s) 0 0 (omega arith) in
    placed xs ys s None k (ap (λ b. cond (eqb b 1 && leb (get_or (part ys (start s)) 1 0) 56) (Some (take (get_or (part ys (start s)) 1 0) (drop 4 (part ys (start s))))) None) z)
    (λ a h. same_part xs ys a (length-set xs (start s) 0) (λ i l m. get_or-set_other xs (start s) i 0 0 (⊎_elim (λ (g : a + 64 ≤ start s) (e : i ≡ start s). omega arith) (λ (g : start s + 64 ≤ a) (e : i ≡ start s). omega arith) h)))

-- a string written into the place that starts at a
module _ (xs : List ℕ) (a : ℕ) (b : List ℕ) (long : a + 64 ≤ length xs) (few : length b ≤ 56) where
  size : length (set (set xs a 1) (a + 1) (length b)) ≡ length xs
  size = simp length-set

  pub filled_long : length (filled a b xs) ≡ length xs
  filled_long = let z = size in length-over_from (a + 4) b (set (set xs a 1) (a + 1) (length b)) (omega arith) ∙ size

  pub filled_out : (i : ℕ) → (i < a) ⊎ (a + 64 ≤ i) → get_or (filled a b xs) i 0 ≡ get_or xs i 0
  filled_out i out =
      let z = size in
      let away : (i < a + 4) ⊎ (a + 4 + length b ≤ i) = ⊎_elim (λ (g : i < a). inl (omega arith)) (λ (g : a + 64 ≤ i). inr (omega arith)) out in
      let n1 : i ≡ a → ⊥ = λ e. ⊎_elim (λ (g : i < a). omega arith) (λ (g : a + 64 ≤ i). omega arith) out in
      let n2 : i ≡ a + 1 → ⊥ = λ e. ⊎_elim (λ (g : i < a). omega arith) (λ (g : a + 64 ≤ i). omega arith) out in
      get_or-over_from (a + 4) b (set (set xs a 1) (a + 1) (length b)) (omega arith) i away ∙ get_or-set_other (set xs a 1) (a + 1) i (length b) 0 n2 ∙ get_or-set_other xs a i 1 0 n1

  pub filled_string : string_in (part (filled a b xs) a) ≡ Some b
  filled_string =
      let z = size in
      let ys : List ℕ = filled a b xs in
      let zs : List ℕ = set (set xs a 1) (a + 1) (length b) in
      let n : a ≡ a + 1 → ⊥ = λ e. omega arith in
      let s1 = length-set xs a 1 in
      let one : get_or (part ys a) 0 0 ≡ 1 = get_or-part ys a 0 (omega arith) ∙ ap (λ i. get_or ys i 0) (add-zero a) ∙ get_or-over_from (a + 4) b zs (omega arith) a (inl (omega arith)) ∙ get_or-set_other (set xs a 1) (a + 1) a (length b) 0 n ∙ get_or-set_same xs a 1 0 (omega arith) in
      let len : get_or (part ys a) 1 0 ≡ length b = get_or-part ys a 1 (omega arith) ∙ get_or-over_from (a + 4) b zs (omega arith) (a + 1) (inl (omega arith)) ∙ get_or-set_same (set xs a 1) (a + 1) (length b) 0 (omega arith) in
      let got : take (length b) (drop 4 (part ys a)) ≡ b = ap (take (length b)) (drop-take 4 60 (drop a ys)) ∙ take-take (length b) 60 (drop 4 (drop a ys)) (omega arith) ∙ ap (take (length b)) (drop-drop 4 a ys ∙ drop-over_from (a + 4) b zs (omega arith)) ∙ take_at b (drop (length b) (drop (a + 4) zs)) (length b) refl in
      let l = le-leb (length b) 56 few in
      rw (one, len, l, got)

pub kept : (xs : List ℕ) (s : ℕ) (b : List ℕ) → known s ≡ true → 320 ≤ length xs → length b ≤ 56 → battery_meaning (filled (start s) b xs) ≡ changed (battery_meaning xs) s (Some b)
kept xs s b k long few =
    let w = start_within s k in
    let fits : start s + 64 ≤ length xs = omega arith in
    placed xs (filled (start s) b xs) s (Some b) k (filled_string xs (start s) b fits few) (λ x h. same_part xs (filled (start s) b xs) x (filled_long xs (start s) b fits few) (λ i l m.
    filled_out xs (start s) b fits few i (⊎_elim (λ (g : x + 64 ≤ start s). inl (omega arith)) (λ (g : start s + 64 ≤ x). inr (omega arith)) h)))
