-- What a write into the slot behind the last used one leaves of the meaning.
use Rattle.std.proofs.Common.{◌≡◌, ℕ, zero, suc, ◌+◌, ◌-◌, ◌*◌, ◌/◌, ◌<◌, ◌≤◌, min, true, false, cond, ◌&&◌, eqb, List, [], ◌∷◌, ◌++◌, length, get_or, take, drop, Some, None, Option, sym, refl, ap, ◌∙◌, ap₂, inl, inr, ⊎_elim, add-zero, add-suc, arith}
use mathlib.Core.Path.{fun_ext}
use Rattle.std.specs.Map.{update}
use Rattle.std.proofs.lemmas.List.{take-take, take_at}
use Rattle.std.proofs.lemmas.Bool.{cond-true, cond-false, le-leb, eqb-true, eq-eqb, ne_eqb, cases_eq, cases_lt}
use Rattle.memory.specs.Bytes.{over}
use Rattle.memory.specs.Memory.{known, changed}
use Rattle.memory.proofs.Bytes.{same_part, length-over_from, get_or-over_from, drop-over_from}
use Rattle.journal.specs.Slots.{slots, slot, free, well_formed, names, content, latest, used, journal_meaning}
use Rattle.journal.specs.Writes.{entry, appended}
use Rattle.journal.proofs.Search.{used_more, latest_more, free_after}

-- a test of two numbers may be turned round
eqb_turned : (m n : ℕ) → eqb m n ≡ eqb n m
eqb_turned m n = ⊎_elim (λ e. eq-eqb m n e ∙ sym (eq-eqb n m (sym e))) (λ ne. ne_eqb m n ne ∙ sym (ne_eqb n m (λ e. ne (sym e)))) (cases_eq m n)

-- a free slot names no section
free_nameless : (p : List ℕ) (s : ℕ) → free p ≡ true → names p s ≡ false
free_nameless p s f = let e : get_or p 0 0 ≡ 255 = eqb-true _ _ f in rw e

-- free slots past the first m
module _ (xs : List ℕ) (m : ℕ) where
  used_past : (k : ℕ) → ((j : ℕ) → m ≤ j → j < m + k → free (slot xs j) ≡ true) → used xs (m + k) ≡ used xs m
  used_past zero h = rw add-zero
  used_past (suc k) h = rw add-suc (cond-true _ _ _ (h (m + k) (omega arith) (omega arith)) ∙ used_past k (λ j l u. h j l (omega arith)))

  latest_past : (s k : ℕ) → ((j : ℕ) → m ≤ j → j < m + k → free (slot xs j) ≡ true) → latest xs s (m + k) ≡ latest xs s m
  latest_past s zero h = rw add-zero
  latest_past s (suc k) h = rw add-suc (cond-false _ (content (slot xs (m + k))) _ (free_nameless (slot xs (m + k)) s (h (m + k) (omega arith) (omega arith))) ∙ latest_past s k (λ j l u. h j l (omega arith)))

-- the same slots say the same
latest_same : (xs ys : List ℕ) (s n : ℕ) → ((j : ℕ) → j < n → slot ys j ≡ slot xs j) → latest ys s n ≡ latest xs s n
latest_same xs ys s zero h = refl
latest_same xs ys s (suc n) h = ap₂ (λ p o. cond (names p s) (content p) o) (h n (omega arith)) (latest_same xs ys s n (λ j l. h j (omega arith)))

-- a write of w into the slot behind the last used one
module _ (xs w : List ℕ) (small : length w ≤ 64) (room : used xs (slots xs) < slots xs) where
  fits : 64 * used xs (slots xs) + length w ≤ length xs
  fits = omega arith

  same_length : length (appended xs w) ≡ length xs
  same_length = length-over_from (64 * used xs (slots xs)) w xs fits

  same_slots : slots (appended xs w) ≡ slots xs
  same_slots = ap (λ n. min n 65536 / 64) same_length

  slot_other : (j : ℕ) → (j ≡ used xs (slots xs) → ⊥) → slot (appended xs w) j ≡ slot xs j
  slot_other j ne = same_part xs (appended xs w) (64 * j) same_length (λ i l m.
      get_or-over_from (64 * used xs (slots xs)) w xs fits i (⊎_elim
      (λ (g : j < used xs (slots xs)). inl (omega arith)) (λ (g : used xs (slots xs) ≤ j). inr (omega arith)) (cases_lt j (used xs (slots xs)))))

  slot_here : slot (appended xs w) (used xs (slots xs)) ≡ take 64 (over w (drop (64 * used xs (slots xs)) xs))
  slot_here = ap (take 64) (drop-over_from (64 * used xs (slots xs)) w xs fits)

  -- the meaning after it, where the slot is then a well-formed one of section s
  names_alone : (s : ℕ) (v : Option (List ℕ)) (p : List ℕ) → slot (appended xs w) (used xs (slots xs)) ≡ p → well_formed p ≡ true → get_or p 1 0 ≡ s → content p ≡ v → free p ≡ false → journal_meaning (appended xs w) ≡ changed (journal_meaning xs) s v
  names_alone s v p here f names-s says busy =
      let ys : List ℕ = appended xs w in
      let u : ℕ = used xs (slots xs) in
      let n : ℕ = slots xs in
      let k : ℕ = n - (u + 1) in
      let whole : u + 1 + k ≡ n = omega arith in
      let before : u + (n - u) ≡ n = omega arith in
      let was_free : (j : ℕ) → u ≤ j → j < u + (n - u) → free (slot xs j) ≡ true = λ j l h. free_after xs n j l (omega arith) in
      let still_free : (j : ℕ) → u + 1 ≤ j → j < u + 1 + k → free (slot ys j) ≡ true = λ j l h. ap free (slot_other j (λ e. omega arith)) ∙ free_after xs n j (omega arith) (omega arith) in
      let strings : (q : ℕ) → latest ys q (slots ys) ≡ update eqb (λ q. latest xs q n) s v q = λ q.
      let older : latest ys q u ≡ latest xs q n = latest_same xs ys q u (λ j l. slot_other j (λ e. omega arith)) ∙ sym (latest_past xs u q (n - u) was_free) ∙ ap (latest xs q) before in
      let named : names (slot ys u) q ≡ eqb q s = ap (λ z. names z q) here ∙ ap₂ (λ x y. x && eqb q y) f names-s in
      ap (latest ys q) (same_slots ∙ sym whole) ∙ latest_past ys (u + 1) q k still_free ∙ latest_more ys q u
      ∙ ap (λ t. cond t (content (slot ys u)) (latest ys q u)) named ∙ ap₂ (λ x y. cond (eqb q s) x y) (ap content here ∙ says) older ∙ ap (λ b. cond b v (latest xs q n)) (eqb_turned q s) in
      let now_used : used ys (slots ys) ≡ u + 1 = ap (used ys) (same_slots ∙ sym whole) ∙ used_past ys (u + 1) k still_free ∙ used_more ys u ∙ cond-false _ _ _ (ap free here ∙ busy) in
      let lefts : slots ys - used ys (slots ys) ≡ n - u - 1 = ap₂ (λ x y. x - y) same_slots now_used ∙ omega arith in
      ap₂ (λ f l. record { string = f; left = l; price = 1 }) (fun_ext strings) lefts

module _ (xs : List ℕ) (s : ℕ) (k : known s ≡ true) (room : used xs (slots xs) < slots xs) where
  pub kept : (b : List ℕ) → length b ≤ 56 → journal_meaning (appended xs (entry 1 s b)) ≡ changed (journal_meaning xs) s (Some b)
  kept b few =
      let rest : List ℕ = drop (length (entry 1 s b)) (drop (64 * used xs (slots xs)) xs) in
      let l = le-leb (length b) 56 few in
      let got : take (length b) (take 60 (b ++ rest)) ≡ b = take-take (length b) 60 (b ++ rest) (omega arith) ∙ take_at b rest (length b) refl in
      names_alone xs (entry 1 s b) (omega arith) room s (Some b) (1 ∷ (s ∷ (length b ∷ (0 ∷ take 60 (b ++ rest))))) (slot_here xs (entry 1 s b) (omega arith) room) (rw (l, k)) refl (ap Some got) refl

  pub erased : journal_meaning (appended xs (entry 0 s [])) ≡ changed (journal_meaning xs) s None
  erased =
      let rest : List ℕ = drop 4 (drop (64 * used xs (slots xs)) xs) in
      names_alone xs (entry 0 s []) (omega arith) room s None (0 ∷ (s ∷ (0 ∷ (0 ∷ take 60 rest)))) (slot_here xs (entry 0 s []) (omega arith) room) (rw k) refl refl refl
