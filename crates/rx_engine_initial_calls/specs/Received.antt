-- What the caller does where it calls, action by action. Of what the call gives: a variable begins and is written, what it holds is taken from it and is
-- assigned to a variable outside, a variable begins again or ends. (REM: "Adventures in refactoring Rust: extract function", OOPSLA 2023; Rust
-- Reference, "let statements", "Assignment expressions".)
use Rattle.std.specs.Prelude.{◌≡◌, ℕ, List, [], ◌∷◌, ◌++◌}
use Rattle.rx_core.specs.declared.types.Step.{Step}
use Rattle.rx_typed.specs.Tree.{Temporary, own}
use Rattle.rx_lower_walks.specs.Actions.{Act, Declare, Dead, Write, Action, does}
use Rattle.rx_lower_walks.specs.Walks.{Among}
use Rattle.rx_facts_tables.specs.Initialised.{IsFixed}
use Rattle.rx_exits_plan.specs.Points.{Exit}
use Rattle.rx_exits_plan.specs.Plan.{Plan}
use Rattle.rx_engine_initial.specs.Variables.{as_itself, Sides, KnownVariables}
use Rattle.rx_engine_initial.specs.Copies.{IsEasy}
use Rattle.rx_engine_initial.specs.Handing.{Takes, Handing}
use Rattle.rx_engine_initial.specs.Planned.{AllFor}
use Rattle.rx_engine_initial.specs.Entered.{IsNewHere}

-- A variable outside that may be assigned: it is declared `mut`, or it is for a local of the plan that the exit hands out.
pub data MayTake (S : Sides) (k : Plan) (e : Exit) (x y : ℕ) : Type 0 where
  is_mutable : (IsFixed S.muts x → ⊥) → MayTake S k e x y
  is_local : Among y k.locals → Among y (k.outs e) → MayTake S k e x y

-- those of a list without a variable
abbrev pub LeftOf : ℕ → List ℕ → List ℕ → Type 0
LeftOf x hs gs = (z : ℕ) → Among z gs → Among z hs × (x ≡ z → ⊥)

-- by the variables that hold what was received, and those outside that were assigned
pub data Receives (S : Sides) (k : Plan) (e : Exit) (R : KnownVariables S) : List ℕ → List ℕ → List Action → Type 0 where
  no_more : {hs xs : List ℕ} → Receives S k e R hs xs []
  receives_one : {m n x : ℕ} {t : Temporary} {ss : List Step} {hs xs : List ℕ} {us : List Action} → IsNewHere R.variables x → Receives S k e R (x ∷ hs) xs us
      → Receives S k e R hs xs (does m (Declare x) ∷ does n (Write (own x) t ss) ∷ us)
  takes_one : {n x : ℕ} {a : Act} {hs gs xs : List ℕ} {us : List Action} → Takes x a → Among x hs → LeftOf x hs gs → Receives S k e R gs xs us → Receives S k e R hs xs (does n a ∷ us)
  assigns_one : {n x : ℕ} {t : Temporary} {hs xs : List ℕ} {us : List Action} (y : ℕ) → Among (as_itself x y) R.variables → MayTake S k e x y → (Among x xs → ⊥)
      → Receives S k e R hs (x ∷ xs) us → Receives S k e R hs xs (does n (Write (own x) t []) ∷ us)
  begins_one : {m x : ℕ} {hs gs xs : List ℕ} {us : List Action} → IsNewHere R.variables x → LeftOf x hs gs → Receives S k e R gs xs us → Receives S k e R hs xs (does m (Declare x) ∷ us)
  ends_one : {m x : ℕ} {hs gs xs : List ℕ} {us : List Action} → IsNewHere R.variables x → LeftOf x hs gs → Receives S k e R gs xs us → Receives S k e R hs xs (does m (Dead x) ∷ us)
  does_one : {n : ℕ} {a : Act} {hs xs : List ℕ} {us : List Action} → IsEasy [] a → Receives S k e R hs xs us → Receives S k e R hs xs (does n a ∷ us)

-- one way through: params are taken, each variable once, the call is made, and what it gives is received
pub record IsWay (S : Sides) (k : Plan) (e : Exit) (R : KnownVariables S) (us : List Action) : Type 0 where
  pub taken : List ℕ
  pub arguments : List Action
  pub takes : Handing taken arguments
  pub for_params : AllFor R taken k.params
  -- the call is the first of these
  pub received : List Action
  pub receives : Receives S k e R [] [] received
  pub is : us ≡ arguments ++ received
