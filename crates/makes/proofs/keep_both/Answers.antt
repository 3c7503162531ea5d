use Rattle.std.proofs.Common.{◌≡◌, true, eqb, ltb, leb, length, Some, Err, refl, ap, ◌∙◌, arith}
use Rattle.std.proofs.lemmas.Bool.{and_parts, leb-true, le-ltb, lt-ltb, eq-eqb, cond-true}
use Rattle.memory.specs.declared.Refusal.TheVariants.{NoWritesLeft}
use Rattle.memory.specs.Memory.{known, keep_answer}
use Rattle.memory.proofs.Done.{keep_done}
use Rattle.battery.specs.Places.{battery_meaning, battery_string}
use Rattle.journal.specs.Slots.{writes_left, journal_meaning}
use Rattle.journal.specs.Writes.{keep_image}
use Rattle.makes.proofs.keep_both.Goals as goal

pub returns-clause-full : goal.returns-clause-full
returns-clause-full c ok none =
    let held = c.args.battery.now.image in
    let xs = c.args.image.now in
    let s = c.args.section in
    let b = c.args.bytes.now in
    let parts = and_parts (known s) (leb (length b) 56) ok in
    let k = parts.0 in
    let few = leb-true (length b) 56 parts.1 in
    let q = le-ltb 56 (length b) few in
    let t : ltb (writes_left xs) 1 ≡ true = lt-ltb (writes_left xs) 1 (omega arith) in
    let d = keep_done (battery_meaning held) s k (omega arith) b few in
    let by = c.offer.ensures in
    let no : keep_answer (journal_meaning xs) s b ≡ Err NoWritesLeft = rw (k, q, t) in
    let stays : keep_image xs s b ≡ xs = rw (k, q, t) in
    record {
      done = by.answer ∙ d.0;
      kept = ap (λ m. m.string s) (by.after ∙ d.1) ∙ cond-true (eqb s s) (Some b) (battery_string held s) (eq-eqb s s refl);
      refused = by.journal.answer ∙ no;
      same = by.journal.image ∙ stays;
    }
