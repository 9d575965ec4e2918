-- What is done with a variable by a run and by the rest of its function: the ten truth values by which a new function can take it.
-- (REM, OOPSLA 2023, "Extract method", the analysis of ownership; Rust Reference, "Moved and copied types", "Mutability".)
use Rattle.std.specs.Prelude.{◌≡◌, ℕ, Bool, true, List, Some, slice_get}
use Rattle.std.specs.Bool.{Decides}
use Rattle.rx_typed.specs.Types.{Typ, reference, copies}
use Rattle.rx_typed.specs.Tree.{own}
use Rattle.rx_lower_walks.specs.Actions.{Action}
use Rattle.rx_lower_walks.specs.Walks.{Among}
use Rattle.rx_facts_tables.specs.Setting.{AllSet}
use Rattle.rx_exits_plan.specs.Points.{Exit, enters}
use Rattle.rx_exits_plan.specs.Asked.{Asked, ComesTo, IsLiveAt}
use Rattle.rx_exits_plan.specs.Plan.{Plan}
use Rattle.rx_modes_policy.specs.declared.uses.Uses.{Uses}
use Rattle.rx_modes_uses.specs.Paths.{OwnPath, PathBehind}
use Rattle.rx_modes_uses.specs.Deeds as deeds
use Rattle.rx_modes_uses.specs.Deeds.{Done}
use Rattle.rx_modes_uses.specs.Outside.{in_run, outside_run}

abbrev pub VariableHasType : Asked → ℕ → Typ → Type 0
VariableHasType A x t = slice_get A.frame.types x ≡ Some (Some t)

abbrev pub IsCopy : Asked → ℕ → Type 0
IsCopy A x = (t : Typ) × VariableHasType A x t × (copies A.frame.declared t ≡ true)

abbrev pub IsMutableReference : Asked → ℕ → Type 0
IsMutableReference A x = (t : Typ) × VariableHasType A x (reference true t)

-- a truth value for each variable of the function says whether it is declared `mut`
abbrev pub IsDeclaredMut : List Bool → ℕ → Type 0
IsDeclaredMut muts x = slice_get muts x ≡ Some true

-- on from some exit, where a walk that enters the run again uses its params
abbrev pub IsLiveOut : Asked → Plan → ℕ → Type 0
IsLiveOut A k x = (e : Exit) × Among e k.exits × IsLiveAt A k.params e x

-- on some walk that enters the run
abbrev pub IsSetIn : Asked → ℕ → Type 0
IsSetIn A x = (w : List Action) × ComesTo A enters w × AllSet A.frame w (own x)

pub record IsUses (A : Asked) (muts : List Bool) (k : Plan) (x : ℕ) (u : Uses) : Type 0 where
  -- its type is Copy, is `&mut T`
  pub copy : Decides u.copy (IsCopy A x)
  pub mut_ref : Decides u.mut_ref (IsMutableReference A x)
  -- the run moves it, or a part of its own storage; changes, or shares, some of its own storage; changes something behind it
  pub moved : Decides u.moved (Done deeds.moved (OwnPath x) (in_run A))
  pub written : Decides u.written (Done deeds.changed (OwnPath x) (in_run A))
  pub lent : Decides u.lent (Done deeds.shared (OwnPath x) (in_run A))
  pub through : Decides u.through (Done deeds.changed (PathBehind x) (in_run A))
  -- the rest of the function borrows some of its own storage mutably
  pub mut_out : Decides u.mut_out (Done deeds.borrowed_mutably (OwnPath x) (outside_run A))
  pub declared_mut : Decides u.declared_mut (IsDeclaredMut muts x)
  pub live_out : Decides u.live_out (IsLiveOut A k x)
  pub set_in : Decides u.set_in (IsSetIn A x)
