-- What a run reaches: in each activation the actions told so far, the state, and what is pending; and why a run ends. It is the
-- least of all that the start of an activation has and each action keeps, so what each action keeps is so wherever a run comes.
use Rattle.std.specs.Prelude.{◌≡◌, ℕ, suc, ℤ, List, [], ◌∷◌, ◌++◌, None}
use Rattle.rx_typed.specs.Tree.{Temporary, Arms, Function, temporary_of}
use Rattle.rx_lower_walks.specs.Actions.{Call, Action, does, Subject}
use Rattle.rx_lower_walks.specs.Orders.{returns, order_function}
use Rattle.rx_lower_walks.specs.Walks.{IsWalk, Walk, Out}
use Rattle.rx_lower_walks.specs.Walks as walk
use Rattle.rx_meaning.specs.Endings.{Ending, running, wrong, mistyped, missing_function, missing_arm, missing_value}
use Rattle.rx_meaning.specs.Values.{Value, unit_value, new_frame, State, with_turns}
use Rattle.rx_meaning.specs.Results as results
use Rattle.rx_meaning.specs.Results.{Result, gives}
use Rattle.rx_meaning.specs.Acting.{Acting}
use Rattle.rx_meaning.specs.Telling.{Told}
use Rattle.rx_meaning.specs.Expressions.{Functions}
use Rattle.rx_meaning.specs.Programs.{Program, begins}
use Rattle.rx_meaning_keeping.specs.Pending.{Pending, Paired, holds, landing, pushes, ids, Unheld, Thin, holding, Fits, arguments, AsMany}
use Rattle.rx_meaning_keeping.specs.Units.{IsUnitOf}
use Rattle.rx_meaning_keeping.specs.RightOperands.{IsRightOf}
use Rattle.rx_meaning_keeping.specs.Using.{Does, Gives}
use Rattle.rx_meaning_keeping.specs.Choices.{HasChoice}
use Rattle.rx_meaning_keeping.specs.Keeping.{IsFunction, IsNoAnswer, AllFail}
use Rattle.rx_meaning_keeping.specs.Following.{Follows}

-- a way to act in which tests change nothing and give truth values, and writes and prints give the unit
abbrev pub Behaves : {E : Type 0} → Acting E → Type 0
Behaves {E = E} A = (a : Action) (vs : List Value) (s : State) (t : List E) (v : Value) (s1 : State) → A.perform a vs s ≡ gives t v s1 → Gives a.act s v s1

-- what the activation of this function reaches, by these arguments and from this state
pub data Reached {E : Type 0} (A : Acting E) (P : Functions) : ℕ → List Value → State → List Action → State → Pending → Type 0 where
  starts : {f : ℕ} {vs : List Value} {s : State} (F : Function) → IsFunction P f F → Reached A P f vs s [] s (arguments F.params vs)
  performs : {f : ℕ} {vs : List Value} {s0 : State} (w : List Action) (s : State) (K : Pending) (F : Function) (a : Action) (us : List Value) (K1 : Value → Pending) (t : List E) (u : Value) (s1 : State)
      → IsFunction P f F → Does (IsRightOf F) a.act us K K1 → IsWalk F (w ++ a ∷ []) → Reached A P f vs s0 w s K → A.perform a us s ≡ gives t u s1 → Reached A P f vs s0 (w ++ a ∷ []) s1 (K1 u)
  -- a call that has come back: the callee has reached an end that gives this value
  comes_back : {f : ℕ} {vs : List Value} {s0 : State} (w : List Action) (s : State) (K : Pending) (F G : Function) (n g : ℕ) (ts : List Temporary) (d : Temporary) (us : List Value) (o : List Action) (m : ℕ) (s1 : State) (v : Value)
      → IsFunction P f F → Unheld d (ids K) → Paired ts us → IsWalk F (w ++ does n (Call g ts d) ∷ []) → Reached A P f vs s0 (w ++ does n (Call g ts d) ∷ []) s (pushes ts us K)
      → IsFunction P g G → Walk (order_function G) o (walk.leaves (returns m)) → Reached A P g us (record s { frame = new_frame g }) o s1 ((None, v) ∷ [])
      → Reached A P f vs s0 (w ++ does n (Call g ts d) ∷ []) (record s1 { frame = s.frame }) (holds d v K)
  -- without an action: a turn, the unit in a temporary, and temporaries that are not used any more
  takes_turn : {f : ℕ} {vs : List Value} {s0 : State} {w : List Action} (s : State) {K : Pending} (n : ℕ) → s.turns ≡ suc n → Reached A P f vs s0 w s K → Reached A P f vs s0 w (with_turns s n) K
  gets_unit : {f : ℕ} {vs : List Value} {s0 : State} {w : List Action} {s : State} {K : Pending} (d : Temporary) (F : Function) → IsFunction P f F → IsUnitOf F d → Unheld d (ids K) → Reached A P f vs s0 w s K → Reached A P f vs s0 w s (holds d unit_value K)
  lets_go : {f : ℕ} {vs : List Value} {s0 : State} {w : List Action} {s : State} {K K' : Pending} → Thin K K' → Reached A P f vs s0 w s K' → Reached A P f vs s0 w s K

-- the activations of a run that starts with this one
pub data Active {E : Type 0} (A : Acting E) (P : Functions) (f0 : ℕ) (vs0 : List Value) (s0 : State) : ℕ → List Value → State → Type 0 where
  first : Active A P f0 vs0 s0 f0 vs0 s0
  called : (f : ℕ) (vs : List Value) (s1 : State) (w : List Action) (s : State) (K : Pending) (F G : Function) (n g : ℕ) (ts : List Temporary) (d : Temporary) (us : List Value)
      → Active A P f0 vs0 s0 f vs s1 → IsFunction P f F → Unheld d (ids K) → Paired ts us → IsWalk F (w ++ does n (Call g ts d) ∷ []) → Reached A P f vs s1 (w ++ does n (Call g ts d) ∷ []) s (pushes ts us K)
      → IsFunction P g G → Active A P f0 vs0 s0 g us (record s { frame = new_frame g })

-- why a run ends so
pub data Ends {E : Type 0} (A : Acting E) (P : Functions) (f0 : ℕ) (vs0 : List Value) (s0 : State) : Ending → Type 0 where
  by_action : (f : ℕ) (vs : List Value) (s1 : State) (w : List Action) (s : State) (K : Pending) {e : Ending} (F : Function) (a : Action) (us : List Value) (K1 : Value → Pending) (t : List E)
      → Active A P f0 vs0 s0 f vs s1 → Reached A P f vs s1 w s K → IsFunction P f F → Does (IsRightOf F) a.act us K K1 → IsWalk F (w ++ a ∷ []) → A.perform a us s ≡ results.ends t e → Ends A P f0 vs0 s0 e
  without_turns : Ends A P f0 vs0 s0 running
  -- a call of no function, or of one that takes another number of arguments
  at_no_function : (f : ℕ) (vs : List Value) (s1 : State) (w : List Action) (s : State) (K : Pending) (F : Function) (n g : ℕ) (ts : List Temporary) (d : Temporary) (us : List Value)
      → Active A P f0 vs0 s0 f vs s1 → Reached A P f vs s1 (w ++ does n (Call g ts d) ∷ []) s (pushes ts us K) → IsFunction P f F → Paired ts us → IsWalk F (w ++ does n (Call g ts d) ∷ [])
      → ((G : Function) → IsFunction P g G → ⊥) → Ends A P f0 vs0 s0 (wrong missing_function)
  at_other_number : (f : ℕ) (vs : List Value) (s1 : State) (w : List Action) (s : State) (K : Pending) (F G : Function) (n g : ℕ) (ts : List Temporary) (d : Temporary) (us : List Value)
      → Active A P f0 vs0 s0 f vs s1 → Reached A P f vs s1 (w ++ does n (Call g ts d) ∷ []) s (pushes ts us K) → IsFunction P f F → Paired ts us → IsWalk F (w ++ does n (Call g ts d) ∷ [])
      → IsFunction P g G → (AsMany G.params us → ⊥) → Ends A P f0 vs0 s0 (wrong mistyped)
  starts_with_other_number : (F : Function) → IsFunction P f0 F → (AsMany F.params vs0 → ⊥) → Ends A P f0 vs0 s0 (wrong mistyped)
  -- all arms of a choice have failed
  at_no_arm : (f : ℕ) (vs : List Value) (s1 : State) (w : List Action) (s : State) (K : Pending) (F : Function) (S : Subject) (l : Arms) (us : List Value)
      → Active A P f0 vs0 s0 f vs s1 → Reached A P f vs s1 w s (holding S us K) → IsFunction P f F → HasChoice S l F.body → Fits S us → AllFail A S us s l → Ends A P f0 vs0 s0 (wrong missing_arm)
  -- a body that gives nothing
  at_no_value : (f : ℕ) (F : Function) (o : List Action) (x : Out) → IsFunction P f F → Walk (order_function F) o x → IsNoAnswer x → Ends A P f0 vs0 s0 (wrong missing_value)

-- what an activation does: what it tells is a walk, and behind it a state is reached; it ends for these reasons alone
abbrev pub Traced : {E : Type 0} → Acting E → Functions → ℕ → Function → List Value → State → Result (Told E) Value → Type 0
Traced A P f F vs s r = Follows (Ends A P f vs s) (λ w v s1. Reached A P f vs s w s1 (holds (temporary_of F.body) v [])) (λ w x v s1. Reached A P f vs s w s1 (landing x v [])) (order_function F) [] r

-- the state in which `main` starts, with so many turns left
abbrev pub starting : Program → List ℤ → ℕ → State
starting P given m = record (begins given m) { frame = new_frame P.main }
