use Rattle.inforce.proofs.Sets.{set_step}
use Rattle.inforce.proofs.parts.InForce.set.Goals as goal

pub returns : goal.returns
returns g c = set_step c.args.self.now.settings c.set.new.self c.args.setting _ _ _ c.set.ensures.values c.set.ensures.counts
