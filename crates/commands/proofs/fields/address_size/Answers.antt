use Rattle.std.proofs.Common.{rules, tests, ◌≡◌, ℕ, ◌≤◌, length, cond, ltb, Some, None, ap, ◌∙◌, arith}
use Rattle.std.specs.Option.{unwrap_or}
use Rattle.std.specs.List.{position_or_len}
use Rattle.std.proofs.lemmas.Iterator.{YieldsList-from_slice}
use Rattle.std.proofs.lemmas.Iterator.Search.{position_from_yields_List}
use Rattle.std.proofs.lemmas.List.Sums.{prefix_len-le-length}
use Rattle.commands.specs.Fields.{is_comma}
use Rattle.commands.proofs.fields.address_size.Goals as goal

or_all : (n all : ℕ) → n ≤ all → unwrap_or (cond (ltb n all) (Some n) None) all ≡ n
or_all n all within = grind arith

pub returns-clause-size : goal.returns-clause-size
returns-clause-size c =
    let body = c.args.body.now in
    let n : ℕ = position_or_len is_comma body in
    let found : c.position.result ≡ cond (ltb n (length body)) (Some n) None =
    position_from_yields_List is_comma _ _ c.position.result c.position.ensures.ran (YieldsList-from_slice body cc) (λ x b q k. search (rules, tests)) in
    c.unwrap_or.ensures ∙ ap (λ o. unwrap_or o (length body)) found ∙ or_all n (length body) (prefix_len-le-length _ body)
