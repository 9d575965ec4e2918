use Rattle.rx_hoist_extraction.proofs.Signatures.{signature_names, declared_names, declared_once, enum_names, enum_once}
use Rattle.rx_hoist_extraction.proofs.laws.own_lifetimes.Goals as goal

pub returns-clause-signature : goal.returns-clause-signature
returns-clause-signature c = signature_names

pub returns-clause-declared : goal.returns-clause-declared
returns-clause-declared c = declared_names

pub returns-clause-once : goal.returns-clause-once
returns-clause-once c = declared_once

pub returns-clause-exits : goal.returns-clause-exits
returns-clause-exits c = enum_names

pub returns-clause-exits_once : goal.returns-clause-exits_once
returns-clause-exits_once c = enum_once
