-- A good frame's bytes are its written form, and the written form is judged good.
use Rattle.std.proofs.Common.{◌≡◌, ℕ, ◌+◌, ◌/◌, ◌%◌, ◌^◌, ◌<◌, ◌≤◌, true, cond, eqb, ltb, leb, List, [], ◌∷◌, ◌++◌, length, get_or, take, drop, sym, refl, ap, ◌∙◌, append_assoc, arith, length-append, length-drop}
use Rattle.std.proofs.lemmas.List.{get_or-append-add, take-append-drop, drop-drop, drop_more, length-take-le, take_at}
use Rattle.std.proofs.lemmas.Bool.{lt-ltb, eq-eqb, eqb-true, leb-true, and_from, and_parts}
use Rattle.numbers.specs.Bytes.{bytes4}
use Rattle.wire.specs.Frames.{frame_sum, frame, header, lawful_length}
use Rattle.wire.specs.Items.{frame_item}
use Rattle.wire.specs.Tries.{Try, good, unfinished, failed, stand, length_of, payload_of, sum_stands, whole_frame, frame_from_sum, frame_from_length, frame_try}
use Rattle.wire.specs.Laws.{Begins}
use Rattle.wire.proofs.FrameRules.{frame_has}

-- the written form of a good item stands at the front
abbrev pub Fronts : List ℕ → Try → Type 0
Fronts bs (good x) = Begins bs 0 x
Fronts bs unfinished = Unit {0}
Fronts bs failed = Unit {0}

-- four bytes that stand at a place
four_stand : (bs : List ℕ) (n a b c d : ℕ) → n + 4 ≤ length bs → stand bs n (a ∷ b ∷ c ∷ d ∷ []) ≡ true → drop n bs ≡ a ∷ b ∷ c ∷ d ∷ drop (n + 4) bs
four_stand bs n a b c d room ok =
    let p = and_parts (eqb (get_or bs n 0) a) (stand bs (n + 1) (b ∷ c ∷ d ∷ [])) ok in
    let q = and_parts (eqb (get_or bs (n + 1) 0) b) (stand bs (n + 1 + 1) (c ∷ d ∷ [])) p.1 in
    let r = and_parts (eqb (get_or bs (n + 1 + 1) 0) c) (stand bs (n + 1 + 1 + 1) (d ∷ [])) q.1 in
    let s = and_parts (eqb (get_or bs (n + 1 + 1 + 1) 0) d) true r.1 in
    let e0 = drop_more bs n 0 (omega arith) ∙ ap (λ x. x ∷ drop (n + 1) bs) (eqb-true _ a p.0) in
    let e1 = drop_more bs (n + 1) 0 (omega arith) ∙ ap (λ x. x ∷ drop (n + 1 + 1) bs) (eqb-true _ b q.0) in
    let e2 = drop_more bs (n + 1 + 1) 0 (omega arith) ∙ ap (λ x. x ∷ drop (n + 1 + 1 + 1) bs) (eqb-true _ c r.0) in
    let e3 = drop_more bs (n + 1 + 1 + 1) 0 (omega arith) ∙ ap (λ x. x ∷ drop (n + 1 + 1 + 1 + 1) bs) (eqb-true _ d s.0) in
    let z : n + 1 + 1 + 1 + 1 ≡ n + 4 = omega arith in
    e0 ∙ ap (λ l. a ∷ l) (e1 ∙ ap (λ l. b ∷ l) (e2 ∙ ap (λ l. c ∷ l) (e3 ∙ ap (λ k. d ∷ drop k bs) z)))

module _ (bs : List ℕ) (lead : get_or bs 0 0 ≡ 0xba) (second : get_or bs 1 0 ≡ 0xce) (ok : lawful_length (length_of bs) ≡ true) (all : length_of bs + 9 < length bs) (sum : sum_stands bs ≡ true) where
  len : ℕ
  len = length_of bs

  whole_front : Begins bs 0 (frame_item (get_or bs 4 0) (get_or bs 5 0) (payload_of bs))
  unfolding len
  whole_front =
      let most = leb-true len 64 (and_parts (eqb (len % 4) 0) (leb len 64) ok).1 in
      let p = payload_of bs in
      let long : length p ≡ len = length-take-le len (drop 6 bs) (simp length-drop (omega arith)) in
      let tail = drop (len + 6 + 4) bs in
      let s = frame_sum (get_or bs 4 0) (get_or bs 5 0) p in
      let sums = four_stand bs (len + 6) (s % 256) (s / 2 ^ 8 % 256) (s / 2 ^ 16 % 256) (s / 2 ^ 24 % 256) (omega arith) sum in
      let swap : 6 + len ≡ len + 6 = omega arith in
      let after : drop 6 bs ≡ p ++ (bytes4 s ++ tail) = sym (take-append-drop len (drop 6 bs)) ∙ ap (λ l. p ++ l) (drop-drop len 6 bs ∙ ap (λ k. drop k bs) swap ∙ sums) in
      let e0 = drop_more bs 0 0 (omega arith) ∙ ap (λ x. x ∷ drop 1 bs) lead in
      let e1 = drop_more bs 1 0 (omega arith) ∙ ap (λ x. x ∷ drop 2 bs) second in
      let two : get_or bs 2 0 ≡ length p % 256 = omega arith in
      let three : get_or bs 3 0 ≡ length p / 2 ^ 8 % 256 = omega arith in
      let e2 = drop_more bs 2 0 (omega arith) ∙ ap (λ x. x ∷ drop 3 bs) two in
      let e3 = drop_more bs 3 0 (omega arith) ∙ ap (λ x. x ∷ drop 4 bs) three in
      let e4 = drop_more bs 4 0 (omega arith) in
      let e5 = drop_more bs 5 0 (omega arith) in
      let shape = e0 ∙ ap (λ l. 0xba ∷ l) (e1 ∙ ap (λ l. 0xce ∷ l) (e2 ∙ ap (λ l. length p % 256 ∷ l) (e3 ∙ ap (λ l. length p / 2 ^ 8 % 256 ∷ l) (e4 ∙ ap (λ l. get_or bs 4 0 ∷ l) (e5 ∙ ap (λ l. get_or bs 5 0 ∷ l) after))))) in
      record {
        lawful = ap lawful_length long ∙ ok;
        behind = tail;
        stands = shape ∙ ap (λ l. header (get_or bs 4 0) (get_or bs 5 0) (length p) ++ l) (sym (append_assoc p (bytes4 s) tail));
      }

-- a good frame's bytes are its written form
pub frame_fronts : (bs : List ℕ) → get_or bs 0 0 ≡ 0xba → Fronts bs (frame_try bs)
frame_fronts bs lead = frame_has (Fronts bs) tt bs (λ _. tt) (λ second ok all sum. whole_front bs lead second ok all sum)

-- the written form is judged good, with any bytes behind it
pub frame_back : (class id : ℕ) (p rest : List ℕ) → lawful_length (length p) ≡ true → frame_try (frame class id p ++ rest) ≡ good (frame_item class id p)
frame_back class id p rest ok =
    let most : length p ≤ 64 = leb-true (length p) 64 (and_parts (eqb (length p % 4) 0) (leb (length p) 64) ok).1 in
    let s = frame_sum class id p in
    let tail = bytes4 s ++ rest in
    let front = header class id (length p) ++ p in
    let bs = frame class id p ++ rest in
    let regroup : bs ≡ front ++ tail = ap (λ l. header class id (length p) ++ l) (append_assoc p (bytes4 s) rest) in
    let len : length_of bs ≡ length p = omega arith in
    let size : length bs ≡ length p + 10 + length rest = simp length-append (omega arith) in
    let at : (n k : ℕ) → n ≡ length p + 6 + k → get_or bs n 0 ≡ get_or tail k 0 =
    λ n k is. let e : n ≡ length front + k = is ∙ omega arith in ap (λ l. get_or l n 0) regroup ∙ ap (λ m. get_or (front ++ tail) m 0) e ∙ get_or-append-add front tail k 0 in
    let part : payload_of bs ≡ p = ap (λ k. take k (drop 6 bs)) len ∙ ap (take (length p)) (append_assoc p (bytes4 s) rest) ∙ take_at p tail (length p) refl in
    let sums : stand bs (length p + 6) (bytes4 s) ≡ true =
    and_from _ _ (eq-eqb _ _ (at (length p + 6) 0 (omega arith)))
    (and_from _ _ (eq-eqb _ _ (at (length p + 6 + 1) 1 (omega arith)))
    (and_from _ _ (eq-eqb _ _ (at (length p + 6 + 1 + 1) 2 (omega arith)))
    (and_from _ _ (eq-eqb _ _ (at (length p + 6 + 1 + 1 + 1) 3 (omega arith))) refl))) in
    let sum : sum_stands bs ≡ true = (λ i. stand bs (len i + 6) (bytes4 (frame_sum class id (part i)))) ∙ sums in
    let one : ltb 1 (length bs) ≡ true = lt-ltb _ _ (omega arith) in
    let three : ltb 3 (length bs) ≡ true = lt-ltb _ _ (omega arith) in
    let l : lawful_length (length_of bs) ≡ true = ap lawful_length len ∙ ok in
    let whole : ltb (length_of bs + 9) (length bs) ≡ true = lt-ltb _ _ (omega arith) in
    let final : frame_from_sum bs ≡ good (frame_item class id (payload_of bs)) = (λ i. cond (whole i) (cond (sum i) (whole_frame bs) failed) unfinished) in
    let middle : frame_from_length bs ≡ frame_from_sum bs = (λ i. cond (three i) (cond (l i) (frame_from_sum bs) failed) unfinished) in
    let first : frame_try bs ≡ frame_from_length bs = (λ i. cond (one i) (frame_from_length bs) unfinished) in
    first ∙ middle ∙ final ∙ ap (λ q. good (frame_item class id q)) part
