use Rattle.std.proofs.Common.{rules, codes, arith}
use Rattle.commands.proofs.Heeded.{by_name}
use Rattle.commands.proofs.sentences.request_by.Goals as goal

pub returns-in-PCAS00 : goal.returns-in-PCAS00
returns-in-PCAS00 c = by_name c.args.address.now (codes "PCAS00") c.args.rest.now _ _ (omega arith) (search rules) c.save_all.ensures c.ok_or.ensures.value

pub returns-in-PCAS01 : goal.returns-in-PCAS01
returns-in-PCAS01 c = by_name c.args.address.now (codes "PCAS01") c.args.rest.now _ _ (omega arith) (search rules) c.set_baud.ensures c.ok_or-in-PCAS01.ensures.value

pub returns-in-PCAS02 : goal.returns-in-PCAS02
returns-in-PCAS02 c = by_name c.args.address.now (codes "PCAS02") c.args.rest.now _ _ (omega arith) (search rules) c.set_interval.ensures c.ok_or-in-PCAS02.ensures.value

pub returns-in-PCAS03 : goal.returns-in-PCAS03
returns-in-PCAS03 c = by_name c.args.address.now (codes "PCAS03") c.args.rest.now _ _ (omega arith) (search rules) c.set_rates.ensures c.ok_or-in-PCAS03.ensures.value

pub returns-in-PCAS04 : goal.returns-in-PCAS04
returns-in-PCAS04 c = by_name c.args.address.now (codes "PCAS04") c.args.rest.now _ _ (omega arith) (search rules) c.set_systems.ensures c.ok_or-in-PCAS04.ensures.value

pub returns-in-PCAS10 : goal.returns-in-PCAS10
returns-in-PCAS10 c = by_name c.args.address.now (codes "PCAS10") c.args.rest.now _ _ (omega arith) (search rules) c.restart.ensures c.ok_or-in-PCAS10.ensures.value
