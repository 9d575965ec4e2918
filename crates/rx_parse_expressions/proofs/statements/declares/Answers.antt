use Rattle.std.proofs.Common.{sym}
use Rattle.rx_parse_expressions.proofs.Declares.{declares_bind, declares_wild, declares_int, declares_bool, declares_tuple, declares_variant, declares_make}
use Rattle.rx_parse_expressions.proofs.statements.declares.Goals as goal

pub returns-in-Bind : goal.returns-in-Bind
returns-in-Bind c = sym (declares_bind c.args.read.now.tree c.args.read.now.height _ _ c.in-Bind.is)

pub returns-in-Wild : goal.returns-in-Wild
returns-in-Wild c = sym (declares_wild c.args.read.now.tree c.args.read.now.height c.in-Wild.is)

pub returns-in-Int : goal.returns-in-Int
returns-in-Int c = sym (declares_int c.args.read.now.tree c.args.read.now.height _ _ _ c.in-Int.is)

pub returns-in-Bool : goal.returns-in-Bool
returns-in-Bool c = sym (declares_bool c.args.read.now.tree c.args.read.now.height _ c.in-Bool.is)

pub returns-in-Tuple : goal.returns-in-Tuple
returns-in-Tuple c = sym (declares_tuple c.args.read.now.tree c.args.read.now.height _ c.in-Tuple.is)

pub returns-in-Variant : goal.returns-in-Variant
returns-in-Variant c = sym (declares_variant c.args.read.now.tree c.args.read.now.height _ _ _ c.in-Variant.is)

pub returns-in-Make : goal.returns-in-Make
returns-in-Make c = sym (declares_make c.args.read.now.tree c.args.read.now.height _ _ c.in-Make.is)
