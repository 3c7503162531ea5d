use Rattle.std.proofs.Common.{◌≡◌, true, set, sym, ap, ◌∙◌, arith, rules}
use Rattle.std.proofs.lemmas.Bool.Decides.{nat_tests}
use Rattle.memory.specs.Memory.{known}
use Rattle.memory.proofs.Done.{erase_done}
use Rattle.battery.specs.Places.{start, battery_meaning}
use Rattle.battery.proofs.Places.{erased}
use Rattle.battery.proofs.BatterySettingsMemory.erase.Goals as goal

pub returns-clause-after : goal.returns-clause-after
returns-clause-after c =
    let xs = c.args.self.now.image in
    let s = c.args.section in
    let k : known s ≡ true = grind (arith, nat_tests) in
    let a : c.in_ok-at.at ≡ start s = grind (arith, nat_tests) in
    let written : c.clear.new.image ≡ set xs (start s) 0 = c.clear.ensures ∙ ap (λ i. set xs i 0) a in
    ap battery_meaning written ∙ erased xs s k (search rules) ∙ sym (erase_done (battery_meaning xs) s k (omega arith)).1
