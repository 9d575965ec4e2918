-- What the new function's body ends with, by its form.
use Rattle.std.specs.Prelude.{Option, Some, None}
use Rattle.rx_typed.specs.Tree as tree
use Rattle.rx_typed.specs.Tree.{Exp, Body}
use Rattle.rx_engine_alike.specs.Likeness.{and_then}
use Rattle.rx_engine_alike.specs.Read.{as_ends}

-- what an expression returns
abbrev pub given_of : Exp → Option Exp
given_of (tree.give m e) = Some e
given_of _ = None

-- what a block without statements returns
abbrev pub ends_given_of : Body → Option Exp
ends_given_of b = and_then (as_ends b) given_of
