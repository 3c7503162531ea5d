-- What keep and erase answer and leave, from what an append answers and leaves.
use Rattle.std.proofs.Common.{◌≡◌, ℕ, ◌<◌, ◌≤◌, Bool, true, false, cond, ltb, List, [], length, is_ok, Some, None, Option, Ok, Err, Result, sym, ap, ◌∙◌, subst, ⊎_elim, arith}
use Rattle.std.specs.Option.{IfSome}
use Rattle.std.proofs.lemmas.Bool.{cases_Bool, ltb-false, ltb-true, le-ltb, le-leb, lt-ltb}
use Rattle.memory.specs.declared.Refusal.{Refusal}
use Rattle.memory.specs.declared.Refusal.TheVariants.{NoWritesLeft}
use Rattle.memory.specs.Memory.{known, refuse}
use Rattle.memory.proofs.Done.{keep_done, erase_done}
use Rattle.journal.specs.Slots.{slots, used, writes_left, journal_meaning}
use Rattle.journal.specs.Writes.{entry, written, appended, Keeps, Erases, Spends}
use Rattle.journal.proofs.Writes.{kept, erased}

-- an append is either refused and leaves everything, or done
module _ (xs ys w : List ℕ) (r : Result (Unit {0}) Refusal)
    (answer : r ≡ refuse (ltb (writes_left xs) 1) NoWritesLeft (Ok tt)) (after : ys ≡ cond (is_ok r) (appended xs w) xs) where
  by_room : (P : Result (Unit {0}) Refusal → List ℕ → Type 0) → (ltb (writes_left xs) 1 ≡ true → P (Err NoWritesLeft) xs) → (used xs (slots xs) < slots xs → P (Ok tt) (appended xs w)) → P r ys
  by_room P full room =
      let Q : Bool → Type 0 = λ t. P (cond t (Err NoWritesLeft) (Ok tt)) (cond (is_ok (cond t (Err NoWritesLeft) (Ok tt))) (appended xs w) xs) in
      let decided : Q (ltb (writes_left xs) 1) = ⊎_elim
      (λ t. subst Q (sym t) (full t)) (λ f. subst Q (sym f) (room (let l = ltb-false (writes_left xs) 1 f in omega arith))) (cases_Bool (ltb (writes_left xs) 1)) in
      let at_r : P r (cond (is_ok r) (appended xs w) xs) = subst (λ z. P z (cond (is_ok z) (appended xs w) xs)) (sym answer) decided in
      subst (λ z. P r z) (sym after) at_r

module _ (xs ys : List ℕ) (s : ℕ) (r : Result (Unit {0}) Refusal) (k : known s ≡ true)
    (answer : r ≡ refuse (ltb (writes_left xs) 1) NoWritesLeft (Ok tt)) where
  none_left : ltb (writes_left xs) 1 ≡ true → ltb 0 (writes_left xs) ≡ false
  none_left t = let l = ltb-true (writes_left xs) 1 t in le-ltb 0 (writes_left xs) (omega arith)

  some_left : used xs (slots xs) < slots xs → ltb 0 (writes_left xs) ≡ true
  some_left room = lt-ltb 0 (writes_left xs) (omega arith)

  pub keeps : (b : List ℕ) → length b ≤ 56 → ys ≡ cond (is_ok r) (appended xs (entry 1 s b)) xs → Keeps xs ys s b r
  keeps b few after =
      let q = le-ltb 56 (length b) few in
      let q2 = le-leb (length b) 56 few in
      by_room xs ys (entry 1 s b) r answer after (λ z zs. Keeps xs zs s b z)
      (λ t. let e = none_left t in record { answer = rw (k, q, t); after = rw (k, q, t); image = rw (k, q, t); accepts = rw (k, q2, e); writes = omega arith })
      (λ room.
      let d = keep_done (journal_meaning xs) s k (omega arith) b few in
      let e = some_left room in
      let m = kept xs s k room b few in
      record { answer = sym d.0; after = m ∙ sym d.1; image = sym (ap (λ z. cond (is_ok z) (appended xs (entry 1 s b)) xs) d.0); accepts = rw (k, q2, e); writes = ap (λ x. x.left) m })

  pub erases : ys ≡ cond (is_ok r) (appended xs (entry 0 s [])) xs → Erases xs ys s r
  erases after = by_room xs ys (entry 0 s []) r answer after (λ z zs. Erases xs zs s z)
      (λ t. let e = none_left t in record { answer = rw (k, t); after = rw (k, t); image = rw (k, t); accepts = rw (k, e); writes = omega arith })
      (λ room.
      let d = erase_done (journal_meaning xs) s k (omega arith) in
      let e = some_left room in
      let m = erased xs s k room in
      record { answer = sym d.0; after = m ∙ sym d.1; image = sym (ap (λ z. cond (is_ok z) (appended xs (entry 0 s [])) xs) d.0); accepts = rw (k, e); writes = ap (λ x. x.left) m })

  pub spends : (o : Option (List ℕ)) → IfSome o (λ b. length b ≤ 56) → ys ≡ cond (is_ok r) (appended xs (written s o)) xs → Spends xs ys s o r
  spends None few after = erases after
  spends (Some b) few after = keeps b few after
