-- The statement that a statement of the code stands for. (Rust Reference, "Statements".)
use Rattle.std.specs.Prelude.{ℕ, ◌==◌, Bool, false, List, [], ◌∷◌, None}
use Rattle.rx_typed.specs.Tree.{Mark, Exp, unit, give, Body, ends}
use Rattle.rx_typed.specs.declared.tree.Stmt.{Stmt}
use Rattle.rx_typed.specs.PlainTree.{plain-Stmt}
use Rattle.rx_exits_plan.specs.Blocks.{Statement, does, statements}

-- a mark of this node without a value
abbrev pub mark_at : ℕ → Mark
mark_at n = record { node = n; typ = None }

abbrev pub first_of : List Statement → Statement
first_of [] = does (unit (mark_at 0))
first_of (s ∷ ss) = s

-- the statement that stands in front of a body
abbrev pub stated : (Body → Body) → Statement
stated f = first_of (statements (f (ends (unit (mark_at 0)))))

abbrev pub plain-Statement : Stmt → Statement
plain-Statement s = stated (plain-Stmt s)

-- a `return` at this node
abbrev pub gives_at : ℕ → Exp → Bool
gives_at n (give m e) = m.node == n
gives_at n e = false
