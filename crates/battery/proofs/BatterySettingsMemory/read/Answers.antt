use Rattle.std.proofs.Common.{◌≡◌, ◌+◌, ◌-◌, ◌++◌, true, length, take, drop, Ok, sym, ap, ◌∙◌, ap₂, arith}
use Rattle.std.specs.Option.{option_map}
use Rattle.std.proofs.lemmas.Bool.{cond-true}
use Rattle.std.proofs.lemmas.Bool.Decides.{nat_tests}
use Rattle.memory.specs.Memory.{known, with_string}
use Rattle.memory.proofs.Done.{read_done, with_string-front}
use Rattle.battery.specs.Limits.{battery_limits}
use Rattle.battery.specs.Places.{start, string_in, battery_string, battery_meaning}
use Rattle.battery.proofs.BatterySettingsMemory.read.Goals as goal

pub returns : goal.returns
returns c =
    let xs = c.args.self.now.image in
    let s = c.args.section in
    let out = c.args.out.now in
    let at = c.in_ok-start.start in
    let k : known s ≡ true = grind (arith, nat_tests) in
    let a : at ≡ start s = grind (arith, nat_tests) in
    let n : at + 64 - at ≡ 64 = omega arith in
    let is : string_in (take (at + 64 - at) (drop at xs)) ≡ battery_string xs s = ap₂ (λ i j. string_in (take i (drop j xs))) n a ∙ sym (cond-true (known s) _ _ k) in
    let room = rw (c.ok_or.ensures.ok_part, c.in_ok-room.was) at c.first_chunk_mut.ensures.cases in
    let d = read_done (battery_meaning xs) s k out room.enough in
    record {
      answer = ap Ok (c.copy.ensures.size ∙ ap (option_map length) is) ∙ sym d.0;
      copied = ap (λ z. z ++ drop 56 out) (c.copy.ensures.copied ∙ ap₂ with_string is room.same) ∙ with_string-front (battery_string xs s) out ((battery_limits xs).short s) ∙ sym d.1;
    }
