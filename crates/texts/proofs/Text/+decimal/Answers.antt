use Rattle.std.proofs.Common.{◌+◌, ◌/◌, ◌%◌, ◌^◌, ◌<◌, [], ◌∷◌, decimal, sym, arith, length-append}
use Rattle.std.proofs.lemmas.Fmt.{decimal_step}
use Rattle.texts.proofs.Cuts.{grew_cut, length_cut, whole_of}
use Rattle.texts.proofs.Text.+decimal.Goals as goal

pub returns : goal.returns
returns g t c =
    let small : c.args.n < 2 ^ 64 = omega arith in
    let cut = grew_cut _ c.args.self.now (decimal (c.args.n / 10)) ((48 + c.args.n % 10) ∷ []) c.decimal.ensures.cut c.push-2.ensures.cut (sym (decimal_step c.args.n c.if-n-lt10.false small)) in
    record {
      cut = cut;
      len = length_cut _ c.args.self.now (decimal c.args.n) cut;
      whole = λ fits. whole_of _ _ cut (omega (arith, fits, length-append c.args.self.now (decimal c.args.n)));
    }
