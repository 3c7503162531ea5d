-- Frames and sentences that were written one behind the other, read back.
use Rattle.std.proofs.Common.{◌≡◌, ℕ, ◌+◌, true, List, [], ◌∷◌, ◌++◌, map, length, drop, sym, refl, ap, ◌∙◌, append_assoc, arith}
use Rattle.std.proofs.lemmas.List.{drop_at}
use Rattle.wire.specs.declared.reading.Ending.{Ending}
use Rattle.wire.specs.Items.{Item, form, lawful_item}
use Rattle.wire.specs.Reading.{Placed, reading, found_from, unread_from}
use Rattle.wire.specs.Laws.{moved}
use Rattle.wire.proofs.Backs.{back}
use Rattle.wire.proofs.Cutting.{shift}
use Rattle.rule.specs.Saying.{written, AllLawful}
use Rattle.rule.specs.Calls.{items, ReadsBack}

pub written_append : (xs ys : List Item) → written (xs ++ ys) ≡ written xs ++ written ys
written_append [] ys = refl
written_append (x ∷ xs) ys = ap (λ l. form x ++ l) (written_append xs ys) ∙ sym (append_assoc (form x) (written xs) (written ys))

-- places make no difference to what is found
pub items_moved : (n : ℕ) (ps : List Placed) → map (λ p. p.item) (map (moved n) ps) ≡ map (λ p. p.item) ps
items_moved n [] = refl
items_moved n (p ∷ ps) = ap (λ l. p.item ∷ l) (items_moved n ps)

pub items_anywhere : (e : Ending) (at : ℕ) (bytes : List ℕ) → map (λ p. p.item) (found_from e at 0 bytes) ≡ items e bytes
items_anywhere e at bytes =
    let z : at + 0 ≡ at = omega arith in
    ap (λ n. map (λ p. p.item) (found_from e n 0 bytes)) (sym z) ∙ ap (map (λ p. p.item)) (shift e at 0 0 bytes) ∙ items_moved at (found_from e 0 0 bytes)

module _ (x : Item) (behind : List ℕ) (e : Ending) (lawful : lawful_item x ≡ true) where
  after : drop (length (form x)) (form x ++ behind) ≡ behind
  after = drop_at (form x) behind (length (form x)) refl

  first_item : items e (form x ++ behind) ≡ x ∷ items e behind
  first_item = ap (map (λ p. p.item)) (back x behind e lawful).found ∙ ap (λ l. x ∷ map (λ p. p.item) (found_from e (length (form x)) 0 l)) after ∙ ap (λ l. x ∷ l) (items_anywhere e (length (form x)) behind)

  first_rest : (reading e (form x ++ behind) 0).unread ≡ (reading e behind 0).unread
  first_rest = (back x behind e lawful).unread ∙ ap (unread_from e 0) after

pub reads_back : (xs : List Item) → AllLawful xs → ReadsBack xs
reads_back [] l = record { found = λ e. refl; all = λ e. refl }
reads_back (x ∷ xs) l =
    let more = reads_back xs l.1 in
    record {
      found = λ e. first_item x (written xs) e l.0 ∙ ap (λ r. x ∷ r) (more.found e);
      all = λ e. first_rest x (written xs) e l.0 ∙ more.all e;
    }

pub lawful_append : (xs ys : List Item) → AllLawful xs → AllLawful ys → AllLawful (xs ++ ys)
lawful_append [] ys k l = l
lawful_append (x ∷ xs) ys k l = (k.0, lawful_append xs ys k.1 l)
