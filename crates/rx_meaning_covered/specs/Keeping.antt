-- What is asked of an invariant so that each run keeps it, where an action is asked only where its places lead through variants that
-- are there: in an arm, behind its tests (as `Laws` of rx_meaning_keeping, which asks it of each action wherever a walk has it).
use Rattle.std.specs.Prelude.{◌≡◌, ℕ, suc, List, [], ◌∷◌, ◌++◌, None}
use Rattle.rx_core.specs.declared.types.Step.{Step}
use Rattle.rx_typed.specs.Tree.{Temporary, Pattern, Scrutinee, Arms, Function}
use Rattle.rx_lower_walks.specs.Matching.{tests, bindings}
use Rattle.rx_lower_walks.specs.Actions.{Call, Action, does, Subject, subject, part}
use Rattle.rx_lower_walks.specs.Orders.{returns, order_function, order_scrutinee}
use Rattle.rx_lower_walks.specs.Walks.{IsWalk, Walk, Out}
use Rattle.rx_lower_walks.specs.Walks as walk
use Rattle.rx_meaning.specs.Endings.{Ending, running, wrong, mistyped, missing_function, missing_arm, missing_value}
use Rattle.rx_meaning.specs.Values.{Value, unit_value, new_frame, State, with_turns}
use Rattle.rx_meaning.specs.Results.{gives}
use Rattle.rx_meaning.specs.Acting.{Acting}
use Rattle.rx_meaning.specs.Expressions.{Functions}
use Rattle.rx_meaning_keeping.specs.Pending.{Pending, holds, ids, Unheld, Thin, holding, Fits, arguments, AsMany}
use Rattle.rx_meaning_keeping.specs.Units.{IsUnitOf, GoesOn}
use Rattle.rx_meaning_keeping.specs.RightOperands.{IsRightOf}
use Rattle.rx_meaning_keeping.specs.Using.{Does}
use Rattle.rx_meaning_keeping.specs.Keeping.{Invariant, Kept, AllFail, IsFunction, Calling, IsNoAnswer}
use Rattle.rx_meaning_covered.specs.Ways.{Leads, Stands}
use Rattle.rx_meaning_covered.specs.Arms.{InTurn, AllLead, IsOfBinding, HasArm}

-- in one activation
pub record Law {E : Type 0} (A : Acting E) (Ok : Ending → Type 0) (Is : List Action → Type 0) (Us Rs : Temporary → Type 0) (I : Invariant) (C : Scrutinee → Arms → Type 0) (L : Scrutinee → Pattern → Type 0) : Type 0 where
  pub drops : (w : List Action) (s : State) (K K' : Pending) → Thin K K' → I w s K' → I w s K
  pub units : (w : List Action) (s : State) (d : Temporary) (K : Pending) → Us d → Unheld d (ids K) → I w s K → I w s (holds d unit_value K)
  pub turns : (w : List Action) (s : State) (n : ℕ) (K : Pending) → s.turns ≡ suc n → I w s K → I w (with_turns s n) K
  pub performs : (w : List Action) (a : Action) (vs : List Value) (s : State) (K : Pending) (K1 : Value → Pending) → Does Rs a.act vs K K1 → Stands a.act vs s
      → Is (w ++ a ∷ []) → I w s K → Kept Ok I w a s K1 (A.perform a vs s)
  -- behind an action of a binding, what led through the variants of what is matched still does
  pub carries : (S : Subject) (us : List Value) (ss : List Step) (w : List Action) (a : Action) (vs : List Value) (s : State) (K : Pending) (K1 : Value → Pending) (t : List E) (v : Value) (s1 : State)
      → Does Rs a.act vs K K1 → IsOfBinding S a.act → I w s K → A.perform a vs s ≡ gives t v s1 → Leads (part S ss) us s → Leads (part S ss) us s1
  -- an arm of a choice; a `let`; where all arms have failed
  pub in_arm : (c : Scrutinee) (l : Arms) (p : Pattern) (w : List Action) (vs : List Value) (s : State) (K : Pending) → C c l → GoesOn (order_scrutinee c) → HasArm p l → Fits (subject c) vs → I w s (holding (subject c) vs K)
      → InTurn A (subject c) vs s (tests [] p) (AllLead (subject c) vs s (bindings [] p))
  pub in_let : (c : Scrutinee) (p : Pattern) (w : List Action) (vs : List Value) (s : State) (K : Pending) → L c p → GoesOn (order_scrutinee c) → Fits (subject c) vs → I w s (holding (subject c) vs K)
      → AllLead (subject c) vs s (bindings [] p)
  pub no_arm_left : (c : Scrutinee) (l : Arms) (w : List Action) (vs : List Value) (s : State) (K : Pending) → C c l → GoesOn (order_scrutinee c) → Fits (subject c) vs → I w s (holding (subject c) vs K)
      → AllFail A (subject c) vs s l → Ok (wrong missing_arm)

-- of the invariants of a program's functions, each with a world
pub record Laws {E : Type 0} (A : Acting E) (Ok : Ending → Type 0) (P : Functions) (C : ℕ → Scrutinee → Arms → Type 0) (L : ℕ → Scrutinee → Pattern → Type 0) (W : Type 0) (I : ℕ → W → Invariant) : Type 0 where
  pub steps : (f : ℕ) (F : Function) → IsFunction P f F → (k : W) → Law A Ok (IsWalk F) (IsUnitOf F) (IsRightOf F) (I f k) (C f) (L f)
  pub enters : (f : ℕ) (F : Function) (k : W) (w : List Action) (n g : ℕ) (ts : List Temporary) (d : Temporary) (vs : List Value) (s : State) (K : Pending)
      → Calling P I f F k w n g ts d vs s K → (G : Function) → IsFunction P g G
      → (k' : W) × I g k' [] (record s { frame = new_frame g }) (arguments G.params vs)
      × ((o : List Action) (m : ℕ) (s1 : State) (v : Value) → Walk (order_function G) o (walk.leaves (returns m)) → I g k' o s1 ((None, v) ∷ [])
      → I f k (w ++ does n (Call g ts d) ∷ []) (record s1 { frame = s.frame }) (holds d v K))
  pub runs_on : Ok running
  pub no_callee : (f : ℕ) (F : Function) (k : W) (w : List Action) (n g : ℕ) (ts : List Temporary) (d : Temporary) (vs : List Value) (s : State) (K : Pending)
      → Calling P I f F k w n g ts d vs s K → ((G : Function) → IsFunction P g G → ⊥) → Ok (wrong missing_function)
  pub not_as_many : (f : ℕ) (F : Function) (k : W) (w : List Action) (n g : ℕ) (ts : List Temporary) (d : Temporary) (vs : List Value) (s : State) (K : Pending)
      → Calling P I f F k w n g ts d vs s K → (G : Function) → IsFunction P g G → (AsMany G.params vs → ⊥) → Ok (wrong mistyped)
  pub no_answer : (f : ℕ) (F : Function) → IsFunction P f F → (o : List Action) (x : Out) → Walk (order_function F) o x → IsNoAnswer x → Ok (wrong missing_value)
