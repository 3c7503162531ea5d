use Rattle.std.proofs.Common.{length, sym, ap, ◌∙◌, arith}
use Rattle.std.proofs.lemmas.List.{drop_all}
use Rattle.listen.specs.Listing.{bytes_of}
use Rattle.listen.proofs.list.Goals as goal

pub returns-in-End : goal.returns-in-End
returns-in-End c =
    let end = c.in-End.ensures.reads in
    let bs = c.args.bytes.now in
    let found = ap (λ r. bytes_of r.found) end in
    record {
      within = omega arith;
      unread = drop_all (length bs) bs (omega arith) ∙ sym (ap (λ r. r.unread) end) ∙ c.loop-at.invariant.3;
      few = omega arith;
      good = omega (arith, found, c.loop-at.invariant.2);
    }
