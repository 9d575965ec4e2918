-- What becomes of a variable where actions of the new program stand in place of actions of the text: a call in place of a run. (REM:
-- "Adventures in refactoring Rust: extract function", OOPSLA 2023.)
use Rattle.std.specs.Prelude.{◌≡◌, ℕ, true, false, List, [], ◌∷◌, ◌++◌}
use Rattle.rx_core.specs.declared.types.Step.{Step}
use Rattle.rx_typed.specs.Tree.{variable, Temporary, own}
use Rattle.rx_lower_walks.specs.Actions.{Act, Declare, Dead, Read, Write, Action, does}
use Rattle.rx_lower_walks.specs.Walks.{IsWalk, Among}
use Rattle.rx_facts_tables.specs.Along.{after, ahead}
use Rattle.rx_facts_tables.specs.Setting.{is_behind, AllSet}
use Rattle.rx_facts_tables.specs.Wholes.{assigns, begins, was_assigned}
use Rattle.rx_facts_tables.specs.Live.{living}
use Rattle.rx_engine_initial.specs.Variables.{Kept, as_itself, by_reference, Sides, KnownVariables, standing_in}
use Rattle.rx_engine_initial.specs.Copies.{IsOther}

-- an action that neither begins, ends, writes nor moves a variable
abbrev pub LeavesBe : Act → ℕ → Type 0
LeavesBe (Declare z) x = z ≡ x → ⊥
LeavesBe (Dead z) x = z ≡ x → ⊥
LeavesBe (Read true p d) x = IsOther p.root x
LeavesBe (Write p t ss) x = IsOther p.root x
LeavesBe _ x = Unit {0}

abbrev pub AllLeave : List Action → ℕ → Type 0
AllLeave us x = (a : Action) → Among a us → LeavesBe a.act x

-- behind these actions no walk of the text goes on to a use of it
abbrev pub NotLive : Sides → List Action → ℕ → Type 0
NotLive S w y = (ws : List Action) → IsWalk S.text (w ++ ws) → ahead (living (variable y)) ws ≡ false

-- the text does `u` behind `w`, the new program `us` in place of it; with what was in scope in front
pub data Fate (S : Sides) (R : KnownVariables S) (w us u : List Action) (x y : ℕ) : Type 0 where
  -- neither does anything to it
  untouched : Among (as_itself x y) R.variables → AllLeave us x → AllLeave u y → Fate S R w us u x y
  -- it is lent or copied: it was all there in front, and is used there before it is written as a whole
  lent : Among (as_itself x y) R.variables → AllLeave us x → AllSet S.frame_there w (own y) → ((qs : List Step) → is_behind qs ≡ false → after (standing_in y qs) w false ≡ true)
      → ((ws : List Action) → ahead (living (variable y)) (u ++ ws) ≡ true) → was_assigned (w ++ u) y ≡ true → Fate S R w us u x y
  -- it is handed out: written, and not touched behind that
  handed_out : (before behind : List Action) (n : ℕ) (t : Temporary) (ss : List Step) → us ≡ before ++ does n (Write (own x) t ss) ∷ behind → AllLeave behind x
      → was_assigned (w ++ u) y ≡ true → Fate S R w us u x y
  -- nothing needs it; it is not assigned here, nor does it begin there
  needless : Among (as_itself x y) R.variables → NotLive S (w ++ u) y → ((a : Action) → Among a us → (assigns x a.act ≡ false) × (begins x a.act ≡ false))
      → ((a : Action) → Among a u → begins y a.act ≡ false) → Fate S R w us u x y
  -- nothing needs it, and it begins again here
  begins_again : NotLive S (w ++ u) y → (before behind : List Action) (n : ℕ) → us ≡ before ++ does n (Declare x) ∷ behind → AllLeave behind x → Fate S R w us u x y

-- of all that is in scope behind
pub record Fates (S : Sides) (R T : KnownVariables S) (w us u : List Action) : Type 0 where
  pub fates : (x y : ℕ) → Among (as_itself x y) T.variables → Fate S R w us u x y
  pub references : (x : ℕ) → Among (by_reference x) T.variables → Among (by_reference x) R.variables × AllLeave us x
