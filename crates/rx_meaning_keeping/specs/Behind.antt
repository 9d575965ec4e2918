-- Where a run looks at what lacks a value: the action that ended it goes behind a reference.
use Rattle.std.specs.Prelude.{◌≡◌, ℕ, Bool, true, false, List, [], ◌∷◌, ◌++◌}
use Rattle.rx_typed.specs.Tree.{Function}
use Rattle.rx_lower_walks.specs.Actions.{Act, Read, Write, Borrow, Test, Action}
use Rattle.rx_lower_walks.specs.Walks.{IsWalk}
use Rattle.rx_meaning.specs.Endings.{Ending, wrong, lacks}
use Rattle.rx_meaning.specs.Values.{Value, State}
use Rattle.rx_meaning.specs.Results as results
use Rattle.rx_meaning.specs.Results.{Result, on, jumps, stops}
use Rattle.rx_meaning.specs.Acting.{Acting}
use Rattle.rx_meaning.specs.Expressions.{Functions}
use Rattle.rx_facts_tables.specs.Setting.{is_behind}
use Rattle.rx_meaning_keeping.specs.Pending.{Pending}
use Rattle.rx_meaning_keeping.specs.RightOperands.{IsRightOf}
use Rattle.rx_meaning_keeping.specs.Using.{Does}
use Rattle.rx_meaning_keeping.specs.Keeping.{IsFunction}
use Rattle.rx_meaning_keeping.specs.Reaching.{Reached, Active}

-- whether an action reads, borrows, tests or writes behind a reference
abbrev pub goes_behind : Act → Bool
goes_behind (Read m p d) = is_behind p.steps
goes_behind (Borrow k p d) = is_behind p.steps
goes_behind (Test p c) = is_behind p.steps
goes_behind (Write p t ss) = is_behind p.steps
goes_behind _ = false

-- in an activation of the run such an action is performed where it was reached, and ends the run for a lack
pub data LacksBehind {E : Type 0} (A : Acting E) (P : Functions) (f0 : ℕ) (vs0 : List Value) (s0 : State) : Type 0 where
  behind : (f : ℕ) (vs : List Value) (s1 : State) (w : List Action) (s : State) (K : Pending) (F : Function) (a : Action) (us : List Value) (K1 : Value → Pending) (t : List E)
      → Active A P f0 vs0 s0 f vs s1 → Reached A P f vs s1 w s K → IsFunction P f F → Does (IsRightOf F) a.act us K K1 → IsWalk F (w ++ a ∷ []) → A.perform a us s ≡ results.ends t (wrong lacks)
      → goes_behind a.act ≡ true → LacksBehind A P f0 vs0 s0

-- no function of a program has such an action
abbrev pub NeverBehind : Functions → Type 0
NeverBehind P = (f : ℕ) (F : Function) → IsFunction P f F → (w : List Action) (a : Action) → IsWalk F (w ++ a ∷ []) → goes_behind a.act ≡ false

-- ---- runs that are the same, but for the memory that they leave

pub data SameRun {E : Type 0} : Result E Value → Result E Value → Type 0 where
  same_on : {w : List E} {v : Value} {s s' : State} → SameRun (on w v s) (on w v s')
  same_jump : {w : List E} {x : _} {v : Value} {s s' : State} → SameRun (jumps w x v s) (jumps w x v s')
  same_stop : {w : List E} {e : Ending} → SameRun (stops w e) (stops w e)

-- the same, unless the first has ended for a lack
pub data SameButLacks {E : Type 0} : Result E Value → Result E Value → Type 0 where
  same : {r q : Result E Value} → SameRun r q → SameButLacks r q
  has_lacked : {w : List E} {q : Result E Value} → SameButLacks (stops w (wrong lacks)) q
