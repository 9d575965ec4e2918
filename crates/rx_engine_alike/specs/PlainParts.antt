-- Parts of blocks, as those of the code stand for them; and parts of definitions that have a function each.
use Rattle.std.specs.Prelude.{ℕ, nat_eq, Bool, false, ◌&&◌, List, map}
use Rattle.rx_typed.specs.Tree as tree
use Rattle.rx_typed.specs.Tree.{Making, Exp, Operands, Body}
use Rattle.rx_typed.specs.PlainTree.{plain-Expr, plain-Stmt, nested_of}
use Rattle.rx_engine_alike.specs.Giving.{takes_all}
use Rattle.rx_engine_alike.specs.declared.parts.Part.{Part}
use Rattle.rx_engine_alike.specs.declared.parts.Bound.{Bound}

-- a block: its statements, each round the rest, and its tail
abbrev pub plain-Part : Part → Body
plain-Part p = nested_of (map plain-Stmt p.stmts.now) (plain-Expr p.tail.now)

abbrev pub plain-Bound : Bound → ℕ × Exp × Exp
plain-Bound b = (b.variable, plain-Expr b.value.now, plain-Expr b.given.now)

-- ---- what is made of operands

-- a tuple of the values of these
abbrev pub makes_tuple : Making → List ℕ → Operands → Bool
makes_tuple tree.tuple qs es = takes_all 0 qs es
makes_tuple _ qs es = false

-- the variant with them
abbrev pub makes_variant : ℕ → Making → List ℕ → Operands → Bool
makes_variant v (tree.variant_of i u) qs es = nat_eq v u && takes_all 0 qs es
makes_variant v _ qs es = false
