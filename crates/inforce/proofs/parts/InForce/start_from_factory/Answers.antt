use Rattle.std.proofs.Common.{◌≡◌, true, cond, [], Ok, sym, ap, ◌∙◌}
use Rattle.commands.specs.declared.command.Outcome.TheVariants.{Done, TurnedDown}
use Rattle.rule.specs.Events.{cleared, factoried}
use Rattle.rule.specs.Judging.{affords}
use Rattle.rule.specs.Steps.{stepped}
use Rattle.inforce.specs.Has.{state_of}
use Rattle.inforce.proofs.Obeys.{factory_step}
use Rattle.inforce.proofs.parts.InForce.start_from_factory.Goals as goal

pub returns : goal.returns
returns g c =
    let v = state_of g.M.SettingsMemory.meaning c.args.self.now in
    let w = state_of g.M.SettingsMemory.meaning c.write.new.self in
    let pays : affords v [] 5 ≡ true = sym c.affords.ensures ∙ c.if-not-affords.false in
    record {
      answer = ap (λ t. Ok (cond t Done TurnedDown)) (sym pays);
      after = factory_step v w c.factory-self.result (c.write.ensures.after ∙ ap (λ x. stepped v (cleared x)) c.all.ensures) c.factory-self.ensures.values c.factory-self.ensures.counts ∙ ap (λ t. cond t (stepped v factoried) v) (sym pays);
    }
