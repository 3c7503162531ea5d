-- What is written is read back, whatever follows it.
use Rattle.std.proofs.Common.{◌≡◌, ℕ, ◌+◌, true, List, ◌∷◌, ◌++◌, length, sym, refl, ap, ◌∙◌, arith, length-append}
use Rattle.wire.specs.declared.reading.Ending.{Ending}
use Rattle.wire.specs.Items.{Item, form, size, lawful_item}
use Rattle.wire.specs.Tries.{good}
use Rattle.wire.specs.Reading.{reading}
use Rattle.wire.specs.Laws.{Back}
use Rattle.wire.proofs.Judgement.{sizes, begins_good}
use Rattle.wire.proofs.Steps.{onward_is, some_size}

pub back : (x : Item) (behind : List ℕ) (ending : Ending) → lawful_item x ≡ true → Back x behind ending
back x behind ending ok =
    let w = form x ++ behind in
    let some = some_size x in
    let is = begins_good ending w 0 x (record { lawful = ok; behind = behind; stands = refl }) in
    let long = length-append (form x) behind in
    let place : 0 + size x ≡ length (form x) = omega (arith, sizes x) in
    let here = onward_is ending w 0 (omega arith) (good x) (sym is) in
    record {
      found = ap (λ r. r.found) here ∙ ap (λ n. record { at = 0; item = x } ∷ (reading ending w n).found) place;
      unread = ap (λ r. r.unread) here ∙ ap (λ n. (reading ending w n).unread) place;
    }
