use Rattle.std.proofs.Common.{◌≡◌, ℕ, List, length, take, drop, refl, sym, ap, ◌∙◌, ap₂}
use Rattle.std.proofs.lemmas.List.{take_at}
use Rattle.settings.specs.Strings.{kept_string, read_back}
use Rattle.settings.specs.Values.{values}
use Rattle.settings.proofs.Law.{back}
use Rattle.settings.proofs.values.Settings.kept_string.Goals as goal

pub returns-in-Pulse-clause-back : goal.returns-in-Pulse-clause-back
returns-in-Pulse-clause-back c =
    let s = c.args.self.now in
    let string : List ℕ = c.string.result in
    let e = c.put-in-Pulse.ensures in
    let got : take c.put-in-Pulse.result c.put-in-Pulse.new.out ≡ kept_string (values s) c.args.section =
    ap₂ take e.size e.out ∙ take_at string (drop (length string) c.args.out.now) (length string) refl ∙ c.string.ensures ∙ ap (kept_string (values s)) (sym c.in-Pulse.is) in
    ap (read_back (values s) c.args.section) got ∙ back s c.args.section
