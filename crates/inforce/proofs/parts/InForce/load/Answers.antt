use Rattle.std.proofs.Common.{◌≡◌, take, ap, ◌∙◌, arith}
use Rattle.settings.specs.declared.names.Message.{Message}
use Rattle.inforce.specs.Has.{state_of, settings_of, count_of, strings_of}
use Rattle.inforce.proofs.Five.{all, settings_after, count_after, loaded_all}
use Rattle.inforce.proofs.parts.InForce.load.Goals as goal

pub returns-clause-after : goal.returns-clause-after
returns-clause-after g c =
    let meaning = g.M.SettingsMemory.meaning in
    let before = c.args.self.now in
    let after = c.loop-section.self in
    let x = c.args.sections in
    let v = state_of meaning before in
    let kept = c.loop-section.invariant.0 in
    let five : c.loop-section.section-index ≡ 5 = omega arith in
    let settings = c.loop-section.invariant.1 ∙ ap (λ n. settings_after x v.string v.settings (take n all)) five in
    let count : (m : Message) → count_of after.settings m ≡ count_after x v.count all m = λ m. c.loop-section.invariant.2 m ∙ ap (λ n. count_after x v.count (take n all) m) five in
    (λ i. record { settings = settings_of after.settings; count = count_of after.settings; string = strings_of (meaning (kept i)); left = (meaning (kept i)).left; price = (meaning (kept i)).price })
    ∙ loaded_all x v (settings_of after.settings) (count_of after.settings) settings count
