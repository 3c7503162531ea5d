-- A good sentence's bytes are its written form, and the written form is judged good.
use Rattle.std.proofs.Common.{◌≡◌, ℕ, ◌+◌, ◌-◌, ◌/◌, ◌%◌, ◌^◌, ◌<◌, ◌≤◌, Bool, true, false, cond, not, ◌&&◌, eqb, ltb, leb, List, [], ◌∷◌, ◌++◌, length, get_or, take, drop, fold, sym, refl, ap, ◌∙◌, subst, ⊎_elim, append_assoc, one-add, arith, length-append, length-drop, length-take}
use lib.Bits.{bit_xor, xor_lt}
use Rattle.std.specs.List.{prefix_len}
use Rattle.std.proofs.lemmas.List.{get_or-append-add, take-append-drop, drop-drop, drop_more, length-take-le, take_at}
use Rattle.std.proofs.lemmas.Bool.{le-leb, lt-ltb, le-ltb, ltb-true, eq-eqb, eqb-true, leb-true, and_from, and_parts, or_left, or_right, cases_lt, cases_Bool}
use Rattle.wire.specs.Sentences.{is_body, lawful_body, checksum, hex_digit, ending, sentence}
use Rattle.wire.specs.Items.{sentence_item, form}
use Rattle.wire.specs.Tries.{Try, good, unfinished, failed, is_digit, star_of, body_to, digits_stand, from_lf, from_cr, from_low, from_high, from_star, ended, sentence_try}
use Rattle.wire.specs.Laws.{Begins}
use Rattle.wire.proofs.Rules.{either_has}
use Rattle.wire.proofs.SentenceRules.{shape, Whole, star_has, cut_more}
use Rattle.wire.proofs.FrameForms.{Fronts}

front_step : (p : ℕ → Bool) (x m : ℕ) (xs : List ℕ) (b : Bool) → p x ≡ b → prefix_len p (take m xs) ≡ m → prefix_len p (take (cond b (1 + m) 0) (x ∷ xs)) ≡ cond b (1 + m) 0
front_step p x m xs true e ih = rw (one-add, e) (ap (λ n. 1 + n) ih ∙ one-add m)
front_step p x m xs false e ih = refl

-- the run at the front of a list is a run
leading_front : (p : ℕ → Bool) (xs : List ℕ) → prefix_len p (take (prefix_len p xs) xs) ≡ prefix_len p xs
leading_front p [] = refl
leading_front p (x ∷ xs) = front_step p x (prefix_len p xs) xs (p x) refl (leading_front p xs)

stop_step : (b : Bool) (m k : ℕ) → cond b (1 + m) 0 ≡ 1 + k → (b ≡ true) × (m ≡ k)
stop_step true m k e = (refl, omega arith)
stop_step false m k e = absurd (omega arith)

-- a run stops at what does not belong to it
leading_stop : (p : ℕ → Bool) (xs : List ℕ) (y : ℕ) (ys : List ℕ) → prefix_len p xs ≡ length xs → p y ≡ false → prefix_len p (xs ++ y ∷ ys) ≡ length xs
leading_stop p [] y ys e stop = rw stop
leading_stop p (x ∷ xs) y ys e stop =
    let s = stop_step (p x) (prefix_len p xs) (length xs) (e ∙ omega arith) in
    let px = s.0 in
    rw px (ap (λ n. 1 + n) (leading_stop p xs y ys s.1 stop) ∙ omega arith)

module _ (bs : List ℕ) (lead : get_or bs 0 0 ≡ 0x24) (small : length bs ≤ 82) (w : Whole bs (star_of bs)) where
  whole_front : Begins bs 0 (sentence_item (body_to bs (star_of bs)))
  whole_front =
      let n = star_of bs in
      let all = w.all in
      let body = body_to bs n in
      let run : n - 1 ≡ prefix_len is_body (drop 1 bs) = omega arith in
      let long : length body ≡ n - 1 = length-take-le (n - 1) (drop 1 bs) (simp length-drop (omega arith)) in
      let lawful : prefix_len is_body body ≡ length body = ap (λ k. prefix_len is_body (take k (drop 1 bs))) run ∙ leading_front is_body (drop 1 bs) ∙ omega arith in
      let digits = and_parts (eqb (get_or bs (n + 1) 0) (hex_digit (checksum body / 16))) (eqb (get_or bs (n + 2) 0) (hex_digit (checksum body % 16))) w.digits in
      let e0 = drop_more bs n 0 (omega arith) ∙ ap (λ x. x ∷ drop (n + 1) bs) w.star in
      let e1 = drop_more bs (n + 1) 0 (omega arith) ∙ ap (λ x. x ∷ drop (n + 1 + 1) bs) (eqb-true _ _ digits.0) in
      let two : n + 1 + 1 ≡ n + 2 = omega arith in
      let e2 = ap (λ k. drop k bs) two ∙ drop_more bs (n + 2) 0 (omega arith) ∙ ap (λ x. x ∷ drop (n + 2 + 1) bs) (eqb-true _ _ digits.1) in
      let three : n + 2 + 1 ≡ n + 3 = omega arith in
      let e3 = ap (λ k. drop k bs) three ∙ drop_more bs (n + 3) 0 (omega arith) ∙ ap (λ x. x ∷ drop (n + 3 + 1) bs) w.cr in
      let four : n + 3 + 1 ≡ n + 4 = omega arith in
      let e4 = ap (λ k. drop k bs) four ∙ drop_more bs (n + 4) 0 (omega arith) ∙ ap (λ x. x ∷ drop (n + 4 + 1) bs) w.lf in
      let tail = drop (n + 4 + 1) bs in
      let high = hex_digit (checksum body / 16) in
      let low = hex_digit (checksum body % 16) in
      let end : drop n bs ≡ ending body ++ tail = e0 ∙ ap (λ l. 0x2a ∷ l) (e1 ∙ ap (λ l. high ∷ l) (e2 ∙ ap (λ l. low ∷ l) (e3 ∙ ap (λ l. 0x0d ∷ l) e4))) in
      let back : 1 + (n - 1) ≡ n = omega arith in
      let after : drop 1 bs ≡ body ++ (ending body ++ tail) = sym (take-append-drop (n - 1) (drop 1 bs)) ∙ ap (λ l. body ++ l) (drop-drop (n - 1) 1 bs ∙ ap (λ k. drop k bs) back ∙ end) in
      let first = drop_more bs 0 0 (omega arith) ∙ ap (λ x. x ∷ drop 1 bs) lead in
      record {
        lawful = and_from _ _ (le-leb _ _ (omega arith)) (eq-eqb _ _ lawful);
        behind = tail;
        stands = first ∙ ap (λ l. 0x24 ∷ l) (after ∙ sym (append_assoc body (ending body) tail));
      }

shape_fronts : (bs : List ℕ) → get_or bs 0 0 ≡ 0x24 → length bs ≤ 82 → Fronts bs (shape bs)
shape_fronts bs lead small = star_has (Fronts bs) tt bs (star_of bs) tt (λ w. whole_front bs lead small w)

fronts_ended : (bs more : List ℕ) (t : Try) → Fronts bs t → Fronts (bs ++ more) (ended t)
fronts_ended bs more (good x) f = record { lawful = f.lawful; behind = f.behind ++ more; stands = ap (λ l. l ++ more) f.stands ∙ append_assoc (form x) f.behind more }
fronts_ended bs more unfinished f = tt
fronts_ended bs more failed f = tt

get_or-cut : (bs : List ℕ) → get_or (take 82 bs) 0 0 ≡ get_or bs 0 0
get_or-cut [] = refl
get_or-cut (b ∷ bs) = refl

-- a good sentence's bytes are its written form
pub sentence_fronts : (bs : List ℕ) → get_or bs 0 0 ≡ 0x24 → Fronts bs (sentence_try bs)
sentence_fronts bs lead =
    either_has (Fronts bs) (ltb (length bs) 82) (shape bs) (ended (shape (take 82 bs)))
    (λ yes. let less = ltb-true (length bs) 82 yes in shape_fronts bs lead (omega arith))
    (λ _. subst (λ l. Fronts l (ended (shape (take 82 bs)))) (take-append-drop 82 bs) (fronts_ended (take 82 bs) (drop 82 bs) (shape (take 82 bs)) (shape_fronts (take 82 bs) (get_or-cut bs ∙ lead) (simp length-take (omega arith)))))

digit_is : (n : ℕ) → n < 16 → is_digit (hex_digit n) ≡ true
digit_is n h =
    ⊎_elim
    (λ (less : n < 10). let t : ltb n 10 ≡ true = lt-ltb _ _ less in rw t (or_left _ _ (and_from _ _ (le-leb 0x30 (0x30 + n) (omega arith)) (le-leb (0x30 + n) 0x39 (omega arith)))))
    (λ (more : 10 ≤ n). let t : ltb n 10 ≡ false = le-ltb _ _ more in rw t (or_right _ _ (and_from _ _ (le-leb 0x41 (0x37 + n) (omega arith)) (le-leb (0x37 + n) 0x46 (omega arith)))))
    (cases_lt n 10)

body_small : (b : ℕ) → is_body b ≡ true → b < 2 ^ 7
body_small b h = let p = and_parts (leb 0x20 b) (leb b 0x7e && (not (eqb b 0x24) && not (eqb b 0x2a))) h in let q = and_parts (leb b 0x7e) (not (eqb b 0x24) && not (eqb b 0x2a)) p.1 in omega (arith, leb-true b 0x7e q.0)

sum_small : (a : ℕ) (body : List ℕ) → a < 2 ^ 7 → prefix_len is_body body ≡ length body → fold bit_xor a body < 2 ^ 7
sum_small a [] h run = h
sum_small a (b ∷ body) h run =
    let s = stop_step (is_body b) (prefix_len is_body body) (length body) (run ∙ omega arith) in
    sum_small (bit_xor a b) body (xor_lt 7 a b h (body_small b s.0)) s.1

shape_back : (body rest : List ℕ) → lawful_body body ≡ true → shape (sentence body ++ rest) ≡ good (sentence_item body)
shape_back body rest ok =
    let run : prefix_len is_body body ≡ length body = eqb-true _ _ (and_parts (leb (length body) 76) (eqb (prefix_len is_body body) (length body)) ok).1 in
    let sum : checksum body < 2 ^ 7 = sum_small 0 body (omega arith) run in
    let bs = sentence body ++ rest in
    let tail = ending body ++ rest in
    let front = 0x24 ∷ body in
    let regroup : bs ≡ front ++ tail = ap (λ l. 0x24 ∷ l) (append_assoc body (ending body) rest) in
    let n = 1 + length body in
    let star : star_of bs ≡ n = ap (λ l. 1 + prefix_len is_body l) (append_assoc body (ending body) rest) ∙ ap (λ k. 1 + k) (leading_stop is_body body 0x2a (drop 1 tail) run refl) in
    let at : (k : ℕ) → get_or bs (n + k) 0 ≡ get_or tail k 0 =
    λ k. let e : n + k ≡ length front + k = omega arith in ap (λ l. get_or l (n + k) 0) regroup ∙ ap (λ m. get_or (front ++ tail) m 0) e ∙ get_or-append-add front tail k 0 in
    let zero : n ≡ n + 0 = omega arith in
    let part : body_to bs n ≡ body = let e : n - 1 ≡ length body = omega arith in ap (λ k. take k (drop 1 bs)) e ∙ ap (take (length body)) (append_assoc body (ending body) rest) ∙ take_at body tail (length body) refl in
    let size : length bs ≡ length body + 6 + length rest = simp length-append (omega arith) in
    let l0 : ltb n (length bs) ≡ true = lt-ltb _ _ (omega arith) in
    let l1 : ltb (n + 1) (length bs) ≡ true = lt-ltb _ _ (omega arith) in
    let l2 : ltb (n + 2) (length bs) ≡ true = lt-ltb _ _ (omega arith) in
    let l3 : ltb (n + 3) (length bs) ≡ true = lt-ltb _ _ (omega arith) in
    let l4 : ltb (n + 4) (length bs) ≡ true = lt-ltb _ _ (omega arith) in
    let high : checksum body / 16 < 16 = omega arith in
    let low : checksum body % 16 < 16 = omega arith in
    let o0 : eqb (get_or bs n 0) 0x2a ≡ true = eq-eqb _ _ (ap (λ k. get_or bs k 0) zero ∙ at 0) in
    let o1 : is_digit (get_or bs (n + 1) 0) ≡ true = ap is_digit (at 1) ∙ digit_is (checksum body / 16) high in
    let o2 : is_digit (get_or bs (n + 2) 0) ≡ true = ap is_digit (at 2) ∙ digit_is (checksum body % 16) low in
    let o3 : eqb (get_or bs (n + 3) 0) 0x0d ≡ true = eq-eqb _ _ (at 3) in
    let d1 : eqb (get_or bs (n + 1) 0) (hex_digit (checksum (body_to bs n) / 16)) ≡ true = eq-eqb _ _ (at 1 ∙ ap (λ b. hex_digit (checksum b / 16)) (sym part)) in
    let d2 : eqb (get_or bs (n + 2) 0) (hex_digit (checksum (body_to bs n) % 16)) ≡ true = eq-eqb _ _ (at 2 ∙ ap (λ b. hex_digit (checksum b % 16)) (sym part)) in
    let o4 : (eqb (get_or bs (n + 4) 0) 0x0a && digits_stand bs n) ≡ true = and_from _ _ (eq-eqb _ _ (at 4)) (and_from _ _ d1 d2) in
    let s4 : from_lf bs n ≡ good (sentence_item (body_to bs n)) = (λ i. cond (l4 i) (cond (o4 i) (good (sentence_item (body_to bs n))) failed) unfinished) in
    let s3 : from_cr bs n ≡ from_lf bs n = (λ i. cond (l3 i) (cond (o3 i) (from_lf bs n) failed) unfinished) in
    let s2 : from_low bs n ≡ from_cr bs n = (λ i. cond (l2 i) (cond (o2 i) (from_cr bs n) failed) unfinished) in
    let s1 : from_high bs n ≡ from_low bs n = (λ i. cond (l1 i) (cond (o1 i) (from_low bs n) failed) unfinished) in
    let s0 : from_star bs n ≡ from_high bs n = (λ i. cond (l0 i) (cond (o0 i) (from_high bs n) failed) unfinished) in
    ap (from_star bs) star ∙ s0 ∙ s1 ∙ s2 ∙ s3 ∙ s4 ∙ ap (λ b. good (sentence_item b)) part

-- the written form is judged good, with any bytes behind it
pub sentence_back : (body rest : List ℕ) → lawful_body body ≡ true → sentence_try (sentence body ++ rest) ≡ good (sentence_item body)
sentence_back body rest ok =
    let most : length body ≤ 76 = leb-true _ _ (and_parts (leb (length body) 76) (eqb (prefix_len is_body body) (length body)) ok).0 in
    let bs = sentence body ++ rest in
    let size : length (sentence body) ≤ 82 = simp length-append (omega arith) in
    ⊎_elim
    (λ small. cond_path small (shape bs) (ended (shape (take 82 bs))) ∙ shape_back body rest ok)
    (λ large. cond_path large (shape bs) (ended (shape (take 82 bs))) ∙ ap (λ l. ended (shape l)) (cut_more (sentence body) rest 82 size) ∙ ap ended (shape_back body (take (82 - length (sentence body)) rest) ok))
    (cases_Bool (ltb (length bs) 82))
  where
    cond_path : {b c : Bool} → b ≡ c → (s t : Try) → cond b s t ≡ cond c s t
    cond_path e s t = ap (λ b. cond b s t) e
