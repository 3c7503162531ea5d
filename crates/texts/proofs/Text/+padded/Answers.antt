use Rattle.std.proofs.Common.{◌+◌, ◌-◌, ◌/◌, ◌%◌, [], ◌∷◌, arith, length-append}
use Rattle.texts.specs.Decimals.{padded}
use Rattle.texts.proofs.Cuts.{grew_cut, length_cut, whole_of, padded_more, length_padded}
use Rattle.texts.proofs.Text.+padded.Goals as goal

pub returns : goal.returns
returns g t c =
    let start = c.args.self.now in
    let long = length_padded c.args.width c.args.n in
    let cut = grew_cut _ start (padded (c.args.width - 1) (c.args.n / 10)) ((48 + c.args.n % 10) ∷ []) c.padded.ensures.cut c.push.ensures.cut (padded_more c.args.width c.args.n (omega arith)) in
    record {
      cut = cut;
      len = omega (arith, length_cut _ start (padded c.args.width c.args.n) cut, long);
      whole = λ fits. whole_of _ _ cut (omega (arith, fits, length-append start (padded c.args.width c.args.n), long));
    }
