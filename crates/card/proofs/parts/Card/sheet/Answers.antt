use Rattle.std.proofs.Common.{sym, ap, ◌∙◌}
use Rattle.inforce.specs.Has.{settings_of}
use Rattle.card.proofs.Sheets.{sheet_told, sheet_numbers}
use Rattle.card.proofs.parts.Card.sheet.Goals as goal

pub returns : goal.returns
returns g c b h k =
    let same = ap settings_of c.settings.ensures ∙ k.follows.settings in
    let after = c.write_sheet.new.out in
    ap (λ r. (sheet_numbers r, after)) (sym c.in_ok-write_sheet.was) ∙ sheet_told _ _ c.write_sheet.result c.args.output.now after same c.write_sheet.ensures
