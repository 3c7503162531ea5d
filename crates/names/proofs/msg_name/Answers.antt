use Rattle.std.proofs.Common.{sym, ap}
use Rattle.names.specs.Names.{msg_name}
use Rattle.names.proofs.msg_name.Goals as goal

pub returns-in-0 : goal.returns-in-0
returns-in-0 c = sym (ap msg_name c.in-0.is)

pub returns-in-1 : goal.returns-in-1
returns-in-1 c = sym (ap msg_name c.in-1.is)

pub returns-in-2 : goal.returns-in-2
returns-in-2 c = sym (ap msg_name c.in-2.is)

pub returns-in-5 : goal.returns-in-5
returns-in-5 c = sym (ap msg_name c.in-5.is)

pub returns-in-6 : goal.returns-in-6
returns-in-6 c = sym (ap msg_name c.in-6.is)

pub returns-in-7 : goal.returns-in-7
returns-in-7 c = sym (ap msg_name c.in-7.is)

pub returns-in-8 : goal.returns-in-8
returns-in-8 c = sym (ap msg_name c.in-8.is)
