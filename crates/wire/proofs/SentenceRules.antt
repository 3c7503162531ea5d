-- The rules of a sentence.
use Rattle.std.proofs.Common.{◌≡◌, ℕ, ◌+◌, ◌-◌, ◌/◌, ◌%◌, ◌<◌, ◌≤◌, Bool, true, false, cond, ◌&&◌, eqb, ltb, List, [], ◌∷◌, ◌++◌, length, get_or, take, drop, sym, refl, ap, ◌∙◌, subst, ⊎_elim, arith, length-append, length-drop, length-take}
use lib.Seq.{take-append-add}
use Rattle.std.specs.List.{prefix_len}
use Rattle.std.proofs.lemmas.List.{take-append-le, drop-append-le, length-take-le}
use Rattle.std.proofs.lemmas.Bool.{lt-ltb, le-ltb, ltb-true, eqb-true, and_parts, cases_lt}
use Rattle.wire.specs.Sentences.{is_body, checksum, hex_digit}
use Rattle.wire.specs.Items.{sentence_item}
use Rattle.wire.specs.Tries.{Try, good, unfinished, failed, is_digit, star_of, body_to, digits_stand, from_lf, from_cr, from_low, from_high, from_star, ended, sentence_try}
use Rattle.wire.proofs.Rules.{same_byte, Stays, Fits, Few, judged_stays, stays_self, stays_ended, judged_has, either_has}

leading_step : (b : Bool) (m n k : ℕ) → (m < k → n ≡ m) → cond b (1 + m) 0 < 1 + k → cond b (1 + n) 0 ≡ cond b (1 + m) 0
leading_step true m n k ih h = ap (λ x. 1 + x) (ih (omega arith))
leading_step false m n k ih h = refl

-- a run that ends within a list ends there with more behind it
leading_append : (p : ℕ → Bool) (xs ys : List ℕ) → prefix_len p xs < length xs → prefix_len p (xs ++ ys) ≡ prefix_len p xs
leading_append p [] ys h = absurd (omega arith)
leading_append p (x ∷ xs) ys h = leading_step (p x) (prefix_len p xs) (prefix_len p (xs ++ ys)) (length xs) (λ k. leading_append p xs ys k) (omega arith)

module _ (bs more : List ℕ) where
  same_body : (n : ℕ) → n + 4 < length bs → body_to (bs ++ more) n ≡ body_to bs n
  same_body n h =
      let one : 1 ≤ length bs = omega arith in
      let room : n - 1 ≤ length (drop 1 bs) = simp length-drop (omega arith) in
      ap (take (n - 1)) (drop-append-le 1 bs more one) ∙ take-append-le (n - 1) (drop 1 bs) more room

  star_stays : (n : ℕ) → Stays (from_star bs n) (from_star (bs ++ more) n)
  star_stays n =
      judged_stays bs more n n _ _ _ _ (λ h0. (
        refl,
        ap (λ b. eqb b 0x2a) (same_byte bs more n h0),
        judged_stays bs more (n + 1) (n + 1) _ _ _ _ (λ h1. (
          refl,
          ap is_digit (same_byte bs more (n + 1) h1),
          judged_stays bs more (n + 2) (n + 2) _ _ _ _ (λ h2. (
            refl,
            ap is_digit (same_byte bs more (n + 2) h2),
            judged_stays bs more (n + 3) (n + 3) _ _ _ _ (λ h3. (
              refl,
              ap (λ b. eqb b 0x0d) (same_byte bs more (n + 3) h3),
              judged_stays bs more (n + 4) (n + 4) _ _ _ _ (λ h4. (
                refl,
                λ i. eqb (same_byte bs more (n + 4) h4 i) 0x0a && (eqb (same_byte bs more (n + 1) h1 i) (hex_digit (checksum (same_body n h4 i) / 16)) && eqb (same_byte bs more (n + 2) h2 i) (hex_digit (checksum (same_body n h4 i) % 16))),
                ap (λ p. good (sentence_item p)) (same_body n h4),
              )),
            )),
          )),
        )),
      ))

  shape_stays : 0 < length bs → Stays (from_star bs (star_of bs)) (from_star (bs ++ more) (star_of (bs ++ more)))
  shape_stays some =
      ⊎_elim
      (λ (inside : star_of bs < length bs).
      let one : 1 ≤ length bs = omega arith in
      let run : prefix_len is_body (drop 1 bs ++ more) ≡ prefix_len is_body (drop 1 bs) = leading_append is_body (drop 1 bs) more (simp length-drop (omega arith)) in
      let e : star_of (bs ++ more) ≡ star_of bs = ap (λ l. 1 + prefix_len is_body l) (drop-append-le 1 bs more one) ∙ ap (λ n. 1 + n) run in
      subst (λ n. Stays (from_star bs (star_of bs)) (from_star (bs ++ more) n)) (sym e) (star_stays (star_of bs)))
      (λ past. let f : ltb (star_of bs) (length bs) ≡ false = le-ltb _ _ past in rw f tt)
      (cases_lt (star_of bs) (length bs))

pub cut_more : (bs more : List ℕ) (n : ℕ) → length bs ≤ n → take n (bs ++ more) ≡ bs ++ take (n - length bs) more
cut_more bs more n h = let e : n ≡ length bs + (n - length bs) = omega arith in ap (λ k. take k (bs ++ more)) e ∙ take-append-add bs more (n - length bs)

abbrev pub shape : List ℕ → Try
shape bs = from_star bs (star_of bs)

pub sentence_stays : (bs more : List ℕ) → 0 < length bs → Stays (sentence_try bs) (sentence_try (bs ++ more))
sentence_stays bs more some =
    ⊎_elim
    (λ (small : length bs < 82).
    let s : ltb (length bs) 82 ≡ true = lt-ltb _ _ small in
    ⊎_elim
    (λ (also : length (bs ++ more) < 82). let t : ltb (length (bs ++ more)) 82 ≡ true = lt-ltb _ _ also in rw (s, t) (shape_stays bs more some))
    (λ (large : 82 ≤ length (bs ++ more)).
    let t : ltb (length (bs ++ more)) 82 ≡ false = le-ltb _ _ large in
    let e = cut_more bs more 82 (omega arith) in
    rw (s, t) (subst (λ xs. Stays (shape bs) (ended (shape xs))) (sym e) (stays_ended (shape bs) (shape (bs ++ take (82 - length bs) more)) (shape_stays bs (take (82 - length bs) more) some))))
    (cases_lt (length (bs ++ more)) 82))
    (λ (large : 82 ≤ length bs).
    let s : ltb (length bs) 82 ≡ false = le-ltb _ _ large in
    let t : ltb (length (bs ++ more)) 82 ≡ false = le-ltb _ _ (simp length-append (omega arith)) in
    let e : take 82 (bs ++ more) ≡ take 82 bs = take-append-le 82 bs more large in
    rw (s, t) (subst (λ xs. Stays (ended (shape (take 82 bs))) (ended (shape xs))) (sym e) (stays_self (ended (shape (take 82 bs))))))
    (cases_lt (length bs) 82)

-- what a sentence with its star at a place keeps
pub record Whole (bs : List ℕ) (n : ℕ) : Type 0 where
  pub star : get_or bs n 0 ≡ 0x2a
  pub cr : get_or bs (n + 3) 0 ≡ 0x0d
  pub lf : get_or bs (n + 4) 0 ≡ 0x0a
  pub all : n + 4 < length bs
  pub digits : digits_stand bs n ≡ true

-- what holds of the try where its rules are kept holds of it
module _ (P : Try → Type 0) (failing : P failed) (bs : List ℕ) (n : ℕ) where
  pub star_has : P unfinished → (Whole bs n → P (good (sentence_item (body_to bs n)))) → P (from_star bs n)
  star_has short whole =
      judged_has P failing bs n (eqb (get_or bs n 0) 0x2a) (from_high bs n) (λ _. short) (λ _ star.
      judged_has P failing bs (n + 1) (is_digit (get_or bs (n + 1) 0)) (from_low bs n) (λ _. short) (λ _ _.
      judged_has P failing bs (n + 2) (is_digit (get_or bs (n + 2) 0)) (from_cr bs n) (λ _. short) (λ _ _.
      judged_has P failing bs (n + 3) (eqb (get_or bs (n + 3) 0) 0x0d) (from_lf bs n) (λ _. short) (λ _ cr.
      judged_has P failing bs (n + 4) (eqb (get_or bs (n + 4) 0) 0x0a && digits_stand bs n) (good (sentence_item (body_to bs n))) (λ _. short) (λ all both.
      let two = and_parts (eqb (get_or bs (n + 4) 0) 0x0a) (digits_stand bs n) both in
      whole (record { star = eqb-true (get_or bs n 0) 0x2a star; cr = eqb-true (get_or bs (n + 3) 0) 0x0d cr; lf = eqb-true (get_or bs (n + 4) 0) 0x0a two.0; all = all; digits = two.1 }))))))

shape_fits : (bs : List ℕ) → Fits (shape bs) (length bs)
shape_fits bs = star_has (λ t. Fits t (length bs)) tt bs (star_of bs) tt (λ w.
    let long : length (body_to bs (star_of bs)) ≡ star_of bs - 1 = length-take-le (star_of bs - 1) (drop 1 bs) (simp length-drop (omega (arith, w.all))) in
    omega (arith, w.all))

fits_ended : (t : Try) (n : ℕ) → Fits t n → Fits (ended t) n
fits_ended (good x) n h = h
fits_ended unfinished n h = tt
fits_ended failed n h = tt

fits_more : (t : Try) (m n : ℕ) → m ≤ n → Fits t m → Fits t n
fits_more (good x) m n h f = omega (arith, f)
fits_more unfinished m n h f = tt
fits_more failed m n h f = tt

pub sentence_fits : (bs : List ℕ) → Fits (sentence_try bs) (length bs)
sentence_fits bs =
    either_has (λ t. Fits t (length bs)) (ltb (length bs) 82) (shape bs) (ended (shape (take 82 bs))) (λ _. shape_fits bs)
    (λ _. let cut : length (take 82 bs) ≤ length bs = simp length-take (omega arith) in fits_more (ended (shape (take 82 bs))) (length (take 82 bs)) (length bs) cut (fits_ended (shape (take 82 bs)) (length (take 82 bs)) (shape_fits (take 82 bs))))

few_small : (t : Try) (n : ℕ) → n ≤ 81 → Few t n
few_small (good x) n h = tt
few_small unfinished n h = h
few_small failed n h = tt

few_ended : (t : Try) (n : ℕ) → Few (ended t) n
few_ended (good x) n = tt
few_ended unfinished n = tt
few_ended failed n = tt

pub sentence_few : (bs : List ℕ) → Few (sentence_try bs) (length bs)
sentence_few bs =
    either_has (λ t. Few t (length bs)) (ltb (length bs) 82) (shape bs) (ended (shape (take 82 bs))) (λ yes. let less = ltb-true (length bs) 82 yes in few_small (shape bs) (length bs) (omega arith))
    (λ _. few_ended (shape (take 82 bs)) (length bs))
