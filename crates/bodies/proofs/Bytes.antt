-- The bytes of the fields lie from - to Z, so they are body bytes and no commas.
use Rattle.std.proofs.Common.{◌≡◌, ℕ, zero, suc, ◌+◌, ◌/◌, ◌%◌, ◌^◌, ◌<◌, ◌≤◌, Bool, true, cond, ◌&&◌, eqb, leb, List, [], ◌∷◌, ◌++◌, length, drop, codes, decimal, refl, ap, arith, length-append}
use Rattle.std.specs.List.{prefix_len, AllByRecursion as All}
use Rattle.std.proofs.lemmas.Fmt.{decimal_by_steps}
use Rattle.std.proofs.ByRecursion.{All-append, All-push, All-weaker}
use Rattle.std.proofs.lemmas.Bool.{and_parts, and_from, leb-true, le-leb, eq-eqb, cond_both}
use Rattle.std.proofs.lemmas.Bool.Decides.{nat_tests}
use Rattle.wire.specs.Sentences.{is_body, lawful_body, ending, sentence}
use Rattle.wire.specs.Items.{sentence_item}
use Rattle.wire.proofs.Backs.{back}
use Rattle.texts.specs.Decimals.{padded}
use Rattle.bodies.specs.Decimals.{pointed}
use Rattle.bodies.specs.Bodies.{body_of, sender, address}
use Rattle.bodies.specs.Laws.{GoodSentence}
use Rattle.bodies.proofs.Numbers.{same_front}
use Rattle.bodies.proofs.Commas.{Free, same_fields}

abbrev pub Inner : ℕ → Type 0
Inner b = (45 ≤ b) × (b ≤ 90)

abbrev inner : List ℕ → Bool
inner [] = true
inner (b ∷ bs) = (leb 45 b && leb b 90) && inner bs

-- of a text that is written out, `refl` shows it
pub inner_text : (text : List ℕ) → inner text ≡ true → All Inner text
inner_text [] e = tt
inner_text (b ∷ bs) e =
    let p = and_parts (leb 45 b && leb b 90) (inner bs) e in
    let q = and_parts (leb 45 b) (leb b 90) p.0 in
    ((leb-true 45 b q.0, leb-true b 90 q.1), inner_text bs p.1)

pub inner_digit : (n : ℕ) → Inner (48 + n % 10)
inner_digit n = (omega arith, omega arith)

pub inner_padded : (width n : ℕ) → All Inner (padded width n)
unfolding padded
inner_padded zero n = tt
inner_padded (suc width) n = All-push Inner (padded width (n / 10)) (48 + n % 10) (inner_padded width (n / 10)) (inner_digit n)

pub inner_decimal : (n : ℕ) → n < 2 ^ 64 → All Inner (decimal n)
inner_decimal = decimal_by_steps (λ n ds. All Inner ds) (λ n h. ((omega arith, omega arith), tt)) (λ n ds h ih. All-push Inner ds (48 + n % 10) ih (inner_digit n))

pub inner_pointed : (places n : ℕ) → n / 10 ^ places < 2 ^ 64 → All Inner (pointed places n)
unfolding pointed
inner_pointed places n h = All-append Inner (decimal (n / 10 ^ places)) (46 ∷ padded places (n % 10 ^ places)) (inner_decimal (n / 10 ^ places) h) ((omega arith, omega arith), inner_padded places (n % 10 ^ places))

pub inner_free : (text : List ℕ) → All Inner text → Free 44 text
inner_free text h = All-weaker Inner (λ b. b ≡ 44 → ⊥) (λ b k e. omega arith) text h

pub all_free : (fs : List (List ℕ)) → All (All Inner) fs → All (Free 44) fs
all_free fs h = All-weaker (All Inner) (Free 44) inner_free fs h

abbrev Body : ℕ → Type 0
Body b = is_body b ≡ true

inner_body : (b : ℕ) → Inner b → Body b
inner_body b h = grind (arith, nat_tests)

body_fields : (start : List ℕ) (fs : List (List ℕ)) → All Body start → All (All Inner) fs → All Body (body_of start fs)
body_fields start [] h k = h
body_fields start (f ∷ fs) h k =
    body_fields (start ++ (44 ∷ f)) fs (All-append Body start (44 ∷ f) h (refl, All-weaker Inner Body inner_body f k.0)) k.1

leading_body : (text : List ℕ) → All Body text → prefix_len is_body text ≡ length text
leading_body [] h = refl
leading_body (b ∷ bs) h = rw (h.0, leading_body bs h.1) (omega arith)

inner_sender : (systems : ℕ) → All Inner (sender systems)
inner_sender s =
    cond_both (eqb s 1) (codes "GP") (cond (eqb s 2) (codes "BD") (cond (eqb s 4) (codes "GL") (codes "GN"))) (All Inner) (λ _. inner_text (codes "GP") refl)
    (λ _. cond_both (eqb s 2) (codes "BD") (cond (eqb s 4) (codes "GL") (codes "GN")) (All Inner) (λ _. inner_text (codes "BD") refl)
    (λ _. cond_both (eqb s 4) (codes "GL") (codes "GN") (All Inner) (λ _. inner_text (codes "GL") refl) (λ _. inner_text (codes "GN") refl)))

inner_address : (systems : ℕ) (name : List ℕ) → All Inner name → All Inner (address systems name)
inner_address s name h = All-append Inner (sender s) name (inner_sender s) h

pub good_body : (systems : ℕ) (name : List ℕ) (fs : List (List ℕ)) → All Inner name → All (All Inner) fs → length (body_of (address systems name) fs) ≤ 76 → GoodSentence (body_of (address systems name) fs)
good_body s name fs h k short =
    let body : List ℕ = body_of (address s name) fs in
    let run = leading_body body (body_fields (address s name) fs (All-weaker Inner Body inner_body (address s name) (inner_address s name h)) k) in
    let fine : lawful_body body ≡ true = and_from (leb (length body) 76) (eqb (prefix_len is_body body) (length body)) (le-leb (length body) 76 short) (eq-eqb (prefix_len is_body body) (length body) run) in
    record {
      lawful = fine;
      size = omega (arith, length-append body (ending body));
      back = λ behind end. back (sentence_item body) behind end fine;
    }

-- equal sentences have equal bodies
same_body : (a b : List ℕ) → sentence a ≡ sentence b → a ≡ b
same_body a b e =
    let n : length a ≡ length b = omega (arith, ap length e, length-append a (ending a), length-append b (ending b)) in
    (same_front a b (ending a) (ending b) n (ap (drop 1) e)).0

pub same_told : (s t : ℕ) (name : List ℕ) (fs gs : List (List ℕ)) → All Inner name → All (All Inner) fs → All (All Inner) gs → sentence (body_of (address s name) fs) ≡ sentence (body_of (address t name) gs) → fs ≡ gs
same_told s t name fs gs h hf hg e =
    same_fields (address s name) (address t name) fs gs (inner_free (address s name) (inner_address s name h)) (inner_free (address t name) (inner_address t name h)) (all_free fs hf) (all_free gs hg) (same_body (body_of (address s name) fs) (body_of (address t name) gs) e)
