use Rattle.std.proofs.Common.{is_ok, ap}
use Rattle.inforce.proofs.Obeys.{obeyed}
use Rattle.inforce.proofs.parts.InForce.obey.Goals as goal

pub returns-in-Ok : goal.returns-in-Ok
returns-in-Ok g c = record {
  done = ap is_ok c.act.ensures.answer;
  obeyed = λ b h f. obeyed f _ _ _ _ c.in-Ok.is c.act.ensures.answer c.act.ensures.after;
}
