use Rattle.std.proofs.Common.{◌≡◌, ◌++◌, true, drop, sym, ap, ◌∙◌, arith}
use Rattle.std.proofs.lemmas.Bool.Decides.{nat_tests}
use Rattle.memory.specs.Memory.{known, with_string}
use Rattle.memory.proofs.Done.{read_done, with_string-front}
use Rattle.journal.specs.Limits.{journal_limits}
use Rattle.journal.specs.Slots.{slots, latest, journal_meaning}
use Rattle.journal.proofs.slots.read_section.Goals as goal

pub returns-clause-copied : goal.returns-clause-copied
returns-clause-copied c =
    let xs = c.args.image.now in
    let s = c.args.section in
    let out = c.args.out.now in
    let k : known s ≡ true = grind (arith, nat_tests) in
    let room = rw (c.ok_or.ensures.ok_part, c.in_ok-room.was) at c.first_chunk_mut.ensures.cases in
    let string = latest xs s (slots xs) in
    ap (λ z. z ++ drop 56 out) (c.copy_latest.ensures.copied ∙ ap (with_string string) room.same) ∙ with_string-front string out ((journal_limits xs).short s)
    ∙ sym (read_done (journal_meaning xs) s k out room.enough).1
