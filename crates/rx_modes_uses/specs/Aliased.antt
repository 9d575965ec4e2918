-- When a run is refused because a variable that may be changed, and of whose own storage there is a reference somewhere, would get another
-- storage: its value is handed in or out. (Rust Reference, "Moved and copied types"; REM, OOPSLA 2023.)
use Rattle.std.specs.Prelude.{ℕ, Bool, List}
use Rattle.rx_lower_walks.specs.Walks.{Among}
use Rattle.rx_exits_plan.specs.Points.{Exit}
use Rattle.rx_exits_plan.specs.Asked.{Asked}
use Rattle.rx_exits_plan.specs.Plan.{Plan, variables_of}
use Rattle.rx_modes_uses.specs.First.{First}
use Rattle.rx_modes_uses.specs.Paths.{OwnPath}
use Rattle.rx_modes_uses.specs.Deeds as deeds
use Rattle.rx_modes_uses.specs.Deeds.{Done}
use Rattle.rx_modes_uses.specs.Outside.{in_run, in_function}
use Rattle.rx_modes_uses.specs.Uses.{IsDeclaredMut}

pub data GetsOther (A : Asked) (k : Plan) (x : ℕ) : Type 0 where
  -- a param that the run moves, in whole or in part, is passed by value
  moved : Among x k.params → Done deeds.moved (OwnPath x) (in_run A) → GetsOther A k x
  local : Among x k.locals → GetsOther A k x
  out : (e : Exit) → Among e k.exits → Among x (k.outs e) → GetsOther A k x
  redeclared : Among x k.redeclared → GetsOther A k x

pub record IsAliased (A : Asked) (muts : List Bool) (k : Plan) (x : ℕ) : Type 0 where
  pub declared_mut : IsDeclaredMut muts x
  pub borrowed : Done deeds.borrowed (OwnPath x) (in_function A)
  pub gets_other : GetsOther A k x

-- the first such variable, in the order of first occurrence in the run
abbrev pub Aliased : Asked → List Bool → Plan → ℕ → Type 0
Aliased A muts k x = First (IsAliased A muts k) (variables_of A) x
