use Rattle.std.proofs.Common.{◌≡◌, ◌≤◌, true, length, sym, ap, ◌∙◌, ap₂, arith, rules}
use Rattle.std.proofs.lemmas.Bool.Decides.{nat_tests}
use Rattle.memory.specs.Memory.{known}
use Rattle.memory.proofs.Done.{keep_done}
use Rattle.battery.specs.Places.{start, filled, battery_meaning}
use Rattle.battery.proofs.Places.{kept}
use Rattle.battery.proofs.BatterySettingsMemory.keep.Goals as goal

pub returns-clause-after : goal.returns-clause-after
returns-clause-after c =
    let xs = c.args.self.now.image in
    let s = c.args.section in
    let b = c.args.bytes.now in
    let k : known s ≡ true = grind (arith, nat_tests) in
    let a : c.in_ok-at.at ≡ start s = grind (arith, nat_tests) in
    let same = rw c.in_ok-string.was at c.try_from.ensures in
    let few : length b ≤ 56 = rw same at c.in_ok-string.string.short in
    let written : c.fill.new.image ≡ filled (start s) b xs = c.fill.ensures ∙ ap₂ (λ i w. filled i w xs) a same in
    ap battery_meaning written ∙ kept xs s b k (search rules) few ∙ sym (keep_done (battery_meaning xs) s k (omega arith) b few).1
