use Rattle.std.proofs.Common.{◌∷◌, sym, ap, ◌∙◌, subst}
use Rattle.rule.specs.Events.{powered, loaded}
use Rattle.rule.specs.Words.{Follows}
use Rattle.rule.specs.Steps.{stepped}
use Rattle.rule.proofs.Steps.{follows_event}
use Rattle.inforce.specs.Has.{state_of}
use Rattle.inforce.proofs.parts.InForce.power.Goals as goal

pub returns : goal.returns
returns g c b h f =
    let v = state_of g.M.SettingsMemory.meaning c.args.self.now in
    subst (Follows b (powered ∷ h)) (sym (c.load.ensures.after ∙ ap (λ x. stepped v (loaded x)) c.all.ensures)) (follows_event f powered)
