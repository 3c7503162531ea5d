use Rattle.std.proofs.Common.{◌≡◌, ℕ, ◌-◌, ◌*◌, ◌<◌, get_or, take, sym, ap, ◌∙◌, arith}
use Rattle.std.proofs.lemmas.List.Sums.{fold_more, sum_by_more, sum_by-drop_more}
use Rattle.settings.specs.declared.names.Section.{Section}
use Rattle.settings.specs.declared.names.Section.TheVariants.{Port}
use Rattle.commands.specs.Commands.{names_section}
use Rattle.rule.specs.Events.{one_if, Strings}
use Rattle.inforce.specs.Has.{state_of, settings_of, count_of, strings_of}
use Rattle.inforce.specs.Sections.{with_filed}
use Rattle.inforce.proofs.Five.{all, strings_after, cost_of, written_all}
use Rattle.inforce.proofs.parts.InForce.write.Goals as goal

pub loop-section-preserved : goal.loop-section-preserved
loop-section-preserved g c =
    let meaning = g.M.SettingsMemory.meaning in
    let before = meaning c.args.self.now.memory in
    let x = c.args.sections in
    let w = c.args.writing in
    let p = before.price in
    let i = c.loop-section.section-index in
    let less : i < 5 = omega arith in
    let s = get_or all i Port in
    let inv = c.loop-section.invariant in
    let one = one_if (names_section x s) in
    let cost : Section → ℕ = λ s. one_if (names_section x s) * p in
    let more = sum_by_more cost all i Port less in
    let rest = sum_by-drop_more cost all i Port less in
    let files : Strings → Section → Strings = λ h s. with_filed w (settings_of c.args.self.now.settings) x s h in
    let paid = c.write_one.ensures.left ∙ ap (λ q. (meaning c.loop-section.self.memory).left - one * q) inv.3 in (
      inv.0,
      λ t. c.write_one.ensures.strings t ∙ (λ j. with_filed w (settings_of (inv.0 j)) x s (λ u. inv.1 u j) t) ∙ ap (λ h. h t) (sym (fold_more files (strings_of before) all i Port less)),
      omega (arith, paid, inv.2, more),
      c.write_one.ensures.price ∙ inv.3,
      omega (arith, inv.4, more, rest),
    )

pub returns-clause-after : goal.returns-clause-after
returns-clause-after g c =
    let meaning = g.M.SettingsMemory.meaning in
    let before = c.args.self.now in
    let after = c.loop-section.self in
    let now = meaning after.memory in
    let x = c.args.sections in
    let w = c.args.writing in
    let v = state_of meaning before in
    let inv = c.loop-section.invariant in
    let five : c.loop-section.section-index ≡ 5 = omega arith in
    let strings : (t : Section) → strings_of now t ≡ strings_after w v.settings x v.string all t = λ t. inv.1 t ∙ ap (λ n. strings_after w v.settings x v.string (take n all) t) five in
    let left = inv.2 ∙ ap (λ n. v.left - cost_of x v.price (take n all)) five in
    (λ i. record { settings = settings_of (inv.0 i); count = count_of (inv.0 i); string = strings_of now; left = now.left; price = now.price })
    ∙ written_all x v w (strings_of now) now.left now.price strings left inv.3
