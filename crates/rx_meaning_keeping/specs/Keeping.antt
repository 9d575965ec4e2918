-- What each action keeps: what is asked of an invariant, over any way to act, so that each run keeps it.
use Rattle.std.specs.Prelude.{◌≡◌, ℕ, suc, false, List, [], ◌∷◌, ◌++◌, Some, None}
use Rattle.rx_typed.specs.Tree.{Temporary, Arms, no_arm, arm_and, Function}
use Rattle.rx_lower_walks.specs.Matching.{PartTest, tests}
use Rattle.rx_lower_walks.specs.Actions.{Call, Action, does, Subject, test_of}
use Rattle.rx_lower_walks.specs.Orders.{breaks, continues, returns, order_function}
use Rattle.rx_lower_walks.specs.Walks.{Among, IsWalk, Walk, Out}
use Rattle.rx_lower_walks.specs.Walks as walk
use Rattle.rx_meaning.specs.Endings.{Ending, running, wrong, mistyped, missing_function, missing_arm, missing_value}
use Rattle.rx_meaning.specs.Values.{Value, truth, unit_value, element, new_frame, State, with_turns}
use Rattle.rx_meaning.specs.Results as results
use Rattle.rx_meaning.specs.Results.{Done, gives}
use Rattle.rx_meaning.specs.Acting.{Acting}
use Rattle.rx_meaning.specs.Expressions.{Functions}
use Rattle.rx_meaning_keeping.specs.Pending.{Pending, Paired, holds, pushes, ids, Unheld, Thin, holding, Fits, arguments, AsMany}
use Rattle.rx_meaning_keeping.specs.Units.{IsUnitOf}
use Rattle.rx_meaning_keeping.specs.RightOperands.{IsRightOf}
use Rattle.rx_meaning_keeping.specs.Using.{Does, Gives}

-- An invariant is of the actions told so far in an activation, the state, and what is pending.
abbrev pub Invariant : Type 1
Invariant = List Action → State → Pending → Type 0

-- behind an action: it gave what such an action gives, and the invariant is kept; or it ended the run so
abbrev pub Kept : {E : Type 0} → (Ending → Type 0) → Invariant → List Action → Action → State → (Value → Pending) → Done E → Type 0
Kept Ok I w a s K1 (gives t v s1) = Gives a.act s v s1 × I (w ++ a ∷ []) s1 (K1 v)
Kept Ok I w a s K1 (results.ends t e) = Ok e

-- what is asked in one activation, of whose walks the lists so begin, of whose temporaries these get the unit, and of whose right
-- operands these go on
pub record Law {E : Type 0} (A : Acting E) (Ok : Ending → Type 0) (Is : List Action → Type 0) (Us Rs : Temporary → Type 0) (I : Invariant) : Type 0 where
  -- fewer may be pending
  pub drops : (w : List Action) (s : State) (K K' : Pending) → Thin K K' → I w s K' → I w s K
  -- the unit comes into one of these by no action
  pub units : (w : List Action) (s : State) (d : Temporary) (K : Pending) → Us d → Unheld d (ids K) → I w s K → I w s (holds d unit_value K)
  pub turns : (w : List Action) (s : State) (n : ℕ) (K : Pending) → s.turns ≡ suc n → I w s K → I w (with_turns s n) K
  pub performs : (w : List Action) (a : Action) (vs : List Value) (s : State) (K : Pending) (K1 : Value → Pending) → Does Rs a.act vs K K1
      → Is (w ++ a ∷ []) → I w s K → Kept Ok I w a s K1 (A.perform a vs s)

-- ---- where a run can go no further

-- a way out of a body that gives nothing
abbrev pub IsNoAnswer : Out → Type 0
IsNoAnswer walk.on = Unit {0}
IsNoAnswer (walk.leaves (breaks n l)) = Unit {0}
IsNoAnswer (walk.leaves (continues n l)) = Unit {0}
IsNoAnswer _ = ⊥

-- a test of an arm fails, in this state; one of each arm
abbrev pub ArmFails : {E : Type 0} → Acting E → Subject → List Value → State → List PartTest → Type 0
ArmFails {E = E} A S vs s ts = (t : PartTest) × Among t ts × (u : List E) × (A.perform (test_of S t) vs s ≡ gives u (truth false) s)

abbrev pub AllFail : {E : Type 0} → Acting E → Subject → List Value → State → Arms → Type 0
AllFail A S vs s no_arm = Unit {0}
AllFail A S vs s (arm_and p e rest) = ArmFails A S vs s (tests [] p) × AllFail A S vs s rest

abbrev pub IsFunction : Functions → ℕ → Function → Type 0
IsFunction P f F = element P f ≡ Some (Some F)

-- ---- calls

-- a call in a function, behind its action and before the callee is entered
pub record Calling {W : Type 0} (P : Functions) (I : ℕ → W → Invariant) (f : ℕ) (F : Function) (k : W) (w : List Action) (n g : ℕ) (ts : List Temporary) (d : Temporary) (vs : List Value) (s : State) (K : Pending) : Type 0 where
  pub caller : IsFunction P f F
  pub fills : Unheld d (ids K)
  pub arguments : Paired ts vs
  pub begins : IsWalk F (w ++ does n (Call g ts d) ∷ [])
  pub kept : I f k (w ++ does n (Call g ts d) ∷ []) s (pushes ts vs K)

-- What is asked of the invariants of a program's functions. Each has a world, which is what a call finds round it; a call makes
-- a new one: its invariant holds at its start, and where it gives a value the caller's holds again.
pub record Laws {E : Type 0} (A : Acting E) (Ok : Ending → Type 0) (P : Functions) (C : ℕ → Subject → Arms → Type 0) (W : Type 0) (I : ℕ → W → Invariant) : Type 0 where
  pub steps : (f : ℕ) (F : Function) → IsFunction P f F → (k : W) → Law A Ok (IsWalk F) (IsUnitOf F) (IsRightOf F) (I f k)
  pub enters : (f : ℕ) (F : Function) (k : W) (w : List Action) (n g : ℕ) (ts : List Temporary) (d : Temporary) (vs : List Value) (s : State) (K : Pending)
      → Calling P I f F k w n g ts d vs s K → (G : Function) → IsFunction P g G
      → (k' : W) × I g k' [] (record s { frame = new_frame g }) (arguments G.params vs)
      × ((o : List Action) (m : ℕ) (s1 : State) (v : Value) → Walk (order_function G) o (walk.leaves (returns m)) → I g k' o s1 ((None, v) ∷ [])
      → I f k (w ++ does n (Call g ts d) ∷ []) (record s1 { frame = s.frame }) (holds d v K))
  -- ends that are no action's: no turn is left; what is called is no function, or takes another number; all arms have failed;
  -- a body gives nothing
  pub runs_on : Ok running
  pub no_callee : (f : ℕ) (F : Function) (k : W) (w : List Action) (n g : ℕ) (ts : List Temporary) (d : Temporary) (vs : List Value) (s : State) (K : Pending)
      → Calling P I f F k w n g ts d vs s K → ((G : Function) → IsFunction P g G → ⊥) → Ok (wrong missing_function)
  pub not_as_many : (f : ℕ) (F : Function) (k : W) (w : List Action) (n g : ℕ) (ts : List Temporary) (d : Temporary) (vs : List Value) (s : State) (K : Pending)
      → Calling P I f F k w n g ts d vs s K → (G : Function) → IsFunction P g G → (AsMany G.params vs → ⊥) → Ok (wrong mistyped)
  pub no_arm_left : (f : ℕ) (F : Function) → IsFunction P f F → (k : W) (S : Subject) (l : Arms) (w : List Action) (vs : List Value) (s : State) (K : Pending)
      → C f S l → Fits S vs → I f k w s (holding S vs K) → AllFail A S vs s l → Ok (wrong missing_arm)
  pub no_answer : (f : ℕ) (F : Function) → IsFunction P f F → (o : List Action) (x : Out) → Walk (order_function F) o x → IsNoAnswer x → Ok (wrong missing_value)
