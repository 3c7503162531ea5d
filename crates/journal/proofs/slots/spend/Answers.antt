use Rattle.std.specs.Option.{option_map}
use Rattle.journal.proofs.Appends.{spends}
use Rattle.journal.proofs.slots.spend.Goals as goal

pub returns : goal.returns
returns c =
    let a = c.append.ensures in
    spends c.args.image.now c.append.new.image c.args.section c.append.result c.requires a.answer (option_map (λ s. s.bytes.now) c.args.string) a.fits a.after
