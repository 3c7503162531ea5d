use Rattle.std.proofs.Common.{[], ◌∷◌, get_or, sym, refl, ap, ◌∙◌, subst}
use Rattle.settings.specs.Names.{place}
use Rattle.commands.specs.Settings.{configuration}
use Rattle.rule.specs.Events.{built, loaded}
use Rattle.rule.specs.Words.{Follows, found}
use Rattle.rule.specs.Steps.{stepped}
use Rattle.rule.proofs.Steps.{follows_event, residue_zero}
use Rattle.inforce.specs.Has.{state_of}
use Rattle.inforce.proofs.Loads.{none_counted}
use Rattle.inforce.proofs.parts.InForce.build.Goals as goal

pub returns : goal.returns
returns g c =
    let m = g.M.SettingsMemory.meaning c.args.memory in
    let v = state_of g.M.SettingsMemory.meaning (record { memory = c.args.memory; settings = c.factory.result }) in
    let new : Follows (found m) [] v = record {
      settings = ap configuration c.factory.ensures.values;
      count = λ k. ap (λ l. get_or l (place k) 0) c.factory.ensures.counts ∙ none_counted k [] ∙ residue_zero _;
      string = λ s. refl;
      left = refl;
      price = refl;
    } in
    subst (Follows (found m) (built ∷ [])) (sym (c.load.ensures.after ∙ ap (λ x. stepped v (loaded x)) c.all.ensures)) (follows_event new built)
