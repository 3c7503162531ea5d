-- Fields of decimal digits.
use Rattle.std.proofs.Common.{◌≡◌, ℕ, ◌+◌, ◌*◌, ◌^◌, ◌<◌, ◌≤◌, Bool, true, false, cond, ◌&&◌, eqb, leb, List, length, get_or, take, drop, Some, None, sym, refl, ap, ◌∙◌, ap₂, pow-suc, add-one, arith}
use Rattle.std.specs.List.{prefix_len}
use Rattle.std.proofs.lemmas.List.{take_all}
use Rattle.std.proofs.lemmas.List.Sums.{prefix_len-drop_yes, prefix_len-drop_no, prefix_len-drop_all, fold_more}
use Rattle.std.proofs.lemmas.Bool.{le-leb, eq-eqb, ne_eqb, leb-true, eqb-false, and_parts, and_right, cond-false}
use Rattle.commands.specs.Fields.{is_decimal, digit_value, digit_of, number_of, up_to_five_digits}

-- what is known of a test from the option that it made
pub failed : {A : Type 0} (t : Bool) (x : A) → None ≡ cond t (Some x) None → t ≡ false
failed true x e = let z : ◌≡◌ {A = ℕ} 0 1 = cc in absurd (omega arith)
failed false x e = refl

pub passed : {A : Type 0} (t : Bool) (x y : A) → Some y ≡ cond t (Some x) None → (t ≡ true) × (y ≡ x)
passed true x y e = (refl, cc)
passed false x y e = let z : ◌≡◌ {A = ℕ} 0 1 = cc in absurd (omega arith)

pub some_there : (n : ℕ) → false ≡ eqb n 0 → 1 ≤ n
some_there n e = let h = eqb-false n 0 (sym e) in omega arith

-- the number so far, after one digit more, at a byte that is none, and at the end
module _ (field : List ℕ) (i : ℕ) (so_far : i + prefix_len is_decimal (drop i field) ≡ prefix_len is_decimal field) where
  pub one_more : (n d : ℕ) → i < length field → n < 10 ^ i → n ≡ number_of (take i field) → Some d ≡ digit_of (get_or field i 0) →
      (n * 10 + d < 10 ^ (i + 1)) × (n * 10 + d ≡ number_of (take (i + 1) field)) × (i + 1 + prefix_len is_decimal (drop (i + 1) field) ≡ prefix_len is_decimal field)
  one_more n d within small number e =
      let b : ℕ = get_or field i 0 in
      let p = passed (is_decimal b) (digit_value b) d e in
      let high = leb-true b 0x39 (and_parts (leb 0x30 b) (leb b 0x39) p.0).1 in
      let w : 10 ^ (i + 1) ≡ 10 ^ i * 10 = ap (λ k. 10 ^ k) (add-one i) ∙ pow-suc 10 i in
      let f : number_of (take (i + 1) field) ≡ number_of (take i field) * 10 + digit_value b = fold_more (λ n b. n * 10 + digit_value b) 0 field i 0 within in
      let l = prefix_len-drop_yes is_decimal field i 0 within p.0 in
      (omega arith, ap₂ (λ x y. x * 10 + y) number p.1 ∙ sym f, omega arith)

  pub stopped : i < length field → None ≡ digit_of (get_or field i 0) → None ≡ up_to_five_digits field
  stopped within e =
      let b : ℕ = get_or field i 0 in
      let l = prefix_len-drop_no is_decimal field i 0 within (failed (is_decimal b) (digit_value b) e) in
      let n = ne_eqb (prefix_len is_decimal field) (length field) (omega arith) in
      sym (cond-false (leb 1 (length field) && (leb (length field) 5 && eqb (prefix_len is_decimal field) (length field))) (Some (number_of field)) None
      (and_right (leb 1 (length field)) (leb (length field) 5 && eqb (prefix_len is_decimal field) (length field)) (and_right (leb (length field) 5) (eqb (prefix_len is_decimal field) (length field)) n)))

  pub all_read : (n : ℕ) → length field ≤ i → i ≤ length field → 1 ≤ length field → length field ≤ 5 → n ≡ number_of (take i field) → Some n ≡ up_to_five_digits field
  all_read n past within low high number =
      let l = prefix_len-drop_all is_decimal field i past in
      let a = le-leb 1 (length field) low in
      let b = le-leb (length field) 5 high in
      let d = eq-eqb (prefix_len is_decimal field) (length field) (omega arith) in
      let e : up_to_five_digits field ≡ Some (number_of field) = rw (a, b, d) in
      ap Some (number ∙ ap number_of (take_all i field past)) ∙ sym e
