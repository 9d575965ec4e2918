-- What private functions tell of a run and its plan.
use Rattle.std.specs.Prelude.{◌≡◌, ℕ, List, map, Bool, true, false}
use Rattle.rx_typed.specs.Types.{Typ, tuple_of, no_shape}
use Rattle.rx_lower_walks.specs.Walks.{Among}
use Rattle.rx_exits_plan.specs.Asked.{Asked, IsParam, IsLocal}
use Rattle.rx_exits_plan.specs.Exits as plan
use Rattle.rx_exits_plan.specs.Exits.{at_end}
use Rattle.rx_exits_plan.specs.Occurrences.{those, is_direct, is_named_behind}
use Rattle.rx_exits_plan.specs.Plan.{Chosen, variables_of, foreign_of, offered}
use Rattle.rx_exits_plan.specs.declared.plan.ExitOuts.{ExitOuts}
use Rattle.rx_exits_plan.specs.PlainPlan.{plain-Exit, outs_in, IsExitPlan}
use Rattle.rx_exits.specs.Living.{IsLiving}
use Rattle.rx_exits_plan.specs.PlainSyntax.{plain-Jump}
use Rattle.rx_exits.specs.Choosing.{AllHandOut}
use Rattle.rx_exits.specs.declared.facts.Facts.{Facts}
use Rattle.rx_exits.specs.declared.planning.Planned.{Planned}

-- the variables of the run, its jumps, and what is in scope behind it
pub record IsFacts (A : Asked) (f : Facts) : Type 0 where
  pub all : f.variables.all ≡ variables_of A
  pub foreign : f.variables.foreign ≡ foreign_of A
  pub direct : f.variables.direct ≡ those (is_direct A.run A.home.body) (variables_of A)
  pub behind : f.variables.behind ≡ those (is_named_behind A.run A.home.body) (variables_of A)
  pub jumps : map plain-Jump f.jumps ≡ plan.jumps A.run A.home
  pub end : f.end ≡ (at_end A.run A.home).scope

-- an exit that is listed more than once hands out the same each time
abbrev pub OutsAgree : List ExitOuts → Type 0
OutsAgree es = (e : ExitOuts) → Among e es → outs_in es (plain-Exit e.exit) ≡ e.outs

-- the params and the locals
pub record IsEntry (A : Asked) (ps ls : List ℕ) : Type 0 where
  pub params : Chosen (IsParam A) (foreign_of A) ps
  pub locals : Chosen (IsLocal A) (foreign_of A) ls

-- and the exits with what they hand out
pub record IsGiven (A : Asked) (es : List ExitOuts) (ps ls : List ℕ) : Type 0 where
  pub entry : IsEntry A ps ls
  pub exits : map (λ (e : ExitOuts). plain-Exit e.exit) es ≡ plan.exits A.run A.home
  pub outs : AllHandOut A ps (offered A ls) es

pub record IsPlanned (A : Asked) (p : Planned) : Type 0 where
  pub plan : IsExitPlan A p.plan
  pub living : IsLiving A p.plan.params p.living
  pub agree : OutsAgree p.plan.exits

abbrev pub is_unit : Typ → Bool
is_unit (tuple_of no_shape) = true
is_unit t = false
