-- Where a run begins in the new function, as what the code finds stands for it.
use Rattle.std.specs.Prelude.{ℕ, List, ◌∷◌, Option, Some, None, map}
use Rattle.rx_typed.specs.Tree as tree
use Rattle.rx_typed.specs.Tree.{Exp, Operands, Parameter, Body}
use Rattle.rx_typed.specs.PlainTree.{plain-Operand, plain-Param, operands_of}
use Rattle.rx_modes_policy.specs.declared.uses.Mode.{Mode}
use Rattle.rx_engine_simulation.specs.Sights.{Renaming}
use Rattle.rx_engine_alike.specs.Likeness.{if_so, and_then}
use Rattle.rx_engine_alike.specs.PlainSights.{plain-Renaming}
use Rattle.rx_engine_extracted.specs.Told.{Told}
use Rattle.rx_engine_extracted.specs.Entering as entering
use Rattle.rx_engine_extracted.specs.Entering.{given_to, with_locals_of, with_absent, specials_stay}
use Rattle.rx_engine_alike.specs.PlainParts.{plain-Part}
use Rattle.rx_engine_extracted.specs.declared.entering.Given.{Given}
use Rattle.rx_engine_extracted.specs.declared.entering.Begun.{Begun}

abbrev pub begun_in : Renaming → Body → entering.Begun
begun_in R b = record { inside = R; rest = b }

abbrev pub plain-Begun : Begun → entering.Begun
plain-Begun b = begun_in (plain-Renaming b.inside.items) (plain-Part b.rest)

-- ---- params, one by one

-- the first of the modes, of what is given, and of the params; and what is left of them
pub record Next : Type 0 where
  pub mode : Mode
  pub given : Exp
  pub variable : ℕ
  pub modes : List Mode
  pub operands : Operands
  pub params : List Parameter

abbrev pub next_given : List Mode → Operands → List Parameter → Option Next
next_given (m ∷ ms) (tree.operand_and i e es) (p ∷ ps) = Some (record { mode = m; given = e; variable = p.variable; modes = ms; operands = es; params = ps })
next_given _ _ _ = None

abbrev pub next_with : Mode → Exp → ℕ → Given → Next
next_with m e y g = record { mode = m; given = e; variable = y; modes = g.modes.now; operands = operands_of (map plain-Operand g.operands.now); params = map plain-Param g.params.now }

abbrev pub given_by : Renaming → List ℕ → Renaming → List ℕ → Given → Option Renaming
given_by R cold Rp xs g = given_to R cold Rp xs g.modes.now (operands_of (map plain-Operand g.operands.now)) (map plain-Param g.params.now)

-- behind the params: the variables without a value, and those that are nowhere
abbrev pub with_others : Told → Renaming → Renaming → Body → Option entering.Begun
with_others T R Rp b = and_then (with_locals_of R Rp T.plan.locals b) (λ B. and_then (with_absent T.beyond R B.inside) (λ Ra. if_so (specials_stay R Ra) (Some (begun_in Ra B.rest))))
