-- The walks of a function: the lists of actions that it may take, and how each ends.
use Rattle.std.specs.Prelude.{◌≡◌, ℕ, List, [], ◌∷◌, ◌++◌}
use Rattle.rx_typed.specs.Tree.{Function}
use Rattle.rx_lower_walks.specs.Actions.{Act, Dead, Action, does}
use Rattle.rx_lower_walks.specs.Orders.{Exit, breaks, continues, returns, exit_node, Order, order_function}
use Rattle.rx_lower_walks.specs.Orders as order

-- how a walk of a part ends
pub data Out : Type 0 where
  on : Out
  leaves : Exit → Out
  -- a test of an arm has failed: the next arm comes
  fails : Out
  -- it goes no further
  stopped : Out

abbrev pub IsAway : Out → Type 0
IsAway on = ⊥
IsAway _ = Unit {0}

abbrev pub DoesNotFail : Out → Type 0
DoesNotFail fails = ⊥
DoesNotFail _ = Unit {0}

-- how a pass of a loop ends, after which another may come
pub data Passed (l : ℕ) : Out → Type 0 where
  by_end : Passed l on
  by_continue : {n k : ℕ} → k ≡ l → Passed l (leaves (continues n k))

-- how its last pass ends, and how the loop does then
pub data Left (l : ℕ) : Out → Out → Type 0 where
  by_break : {n k : ℕ} → k ≡ l → Left l (leaves (breaks n k)) on
  by_outer_break : {n k : ℕ} → (k ≡ l → ⊥) → Left l (leaves (breaks n k)) (leaves (breaks n k))
  by_outer_continue : {n k : ℕ} → (k ≡ l → ⊥) → Left l (leaves (continues n k)) (leaves (continues n k))
  by_return : {n : ℕ} → Left l (leaves (returns n)) (leaves (returns n))
  by_stop : Left l stopped stopped

pub data Walk : Order → List Action → Out → Type 0 where
  -- a part may stop before it begins, and behind what it did
  rests : {s : Order} → Walk s [] stopped
  stops : {s : Order} {us : List Action} {o : Out} → Walk s us o → Walk s us stopped
  nothing : Walk order.nothing [] on
  acts : {a : Action} → Walk (order.act a) (a ∷ []) on
  both : {s t : Order} {us vs : List Action} {o : Out} → Walk s us on → Walk t vs o → Walk (order.then s t) (us ++ vs) o
  first : {s t : Order} {us : List Action} {o : Out} → IsAway o → Walk s us o → Walk (order.then s t) us o
  one : {s t : Order} {us : List Action} {o : Out} → Walk s us o → Walk (order.or s t) us o
  other : {s t : Order} {us : List Action} {o : Out} → Walk t us o → Walk (order.or s t) us o
  leave : {x : Exit} → Walk (order.leave x) [] (leaves x)
  fail : Walk order.fail [] fails
  holds : {s t : Order} {us : List Action} {o : Out} → DoesNotFail o → Walk s us o → Walk (order.otherwise s t) us o
  next : {s t : Order} {us vs : List Action} {o : Out} → Walk s us fails → Walk t vs o → Walk (order.otherwise s t) (us ++ vs) o
  -- at the end of a block or of an arm, and at a jump out of it
  ends : {s : Order} {n x : ℕ} {us : List Action} → Walk s us on → Walk (order.ending n x s) (us ++ does n (Dead x) ∷ []) on
  jumps : {s : Order} {n x : ℕ} {us : List Action} {j : Exit} → Walk s us (leaves j)
      → Walk (order.ending n x s) (us ++ does (exit_node j) (Dead x) ∷ []) (leaves j)
  halts : {s : Order} {n x : ℕ} {us : List Action} → Walk s us stopped → Walk (order.ending n x s) us stopped
  -- the last pass of a loop; a pass, and those behind it
  last : {s : Order} {l : ℕ} {us : List Action} {o p : Out} → Walk s us o → Left l o p → Walk (order.passes l s) us p
  more : {s : Order} {l : ℕ} {us vs : List Action} {o p : Out} → Walk s us o → Passed l o → Walk (order.passes l s) vs p
      → Walk (order.passes l s) (us ++ vs) p

-- the walks of a function: those of its body, and all that begin one
abbrev pub IsWalk : Function → List Action → Type 0
IsWalk f w = (rest : List Action) × (o : Out) × Walk (order_function f) (w ++ rest) o

-- an action that some walk holds
abbrev pub IsSite : Function → Action → Type 0
IsSite f a = (before : List Action) × IsWalk f (before ++ a ∷ [])

-- one that some walk holds directly behind another
abbrev pub Follows : Function → Action → Action → Type 0
Follows f a b = (before : List Action) × IsWalk f (before ++ a ∷ b ∷ [])

-- the actions of a part, whether or not some walk holds them; Deads are not among them
abbrev pub actions_in : Order → List Action
actions_in order.nothing = []
actions_in order.nowhere = []
actions_in (order.act a) = a ∷ []
actions_in (order.then s t) = actions_in s ++ actions_in t
actions_in (order.or s t) = actions_in s ++ actions_in t
actions_in (order.leave x) = []
actions_in order.fail = []
actions_in (order.otherwise s t) = actions_in s ++ actions_in t
actions_in (order.ending n x s) = actions_in s
actions_in (order.passes l s) = actions_in s

pub data Among {A : Type 0} (a : A) : List A → Type 0 where
  here : {l : List A} → Among a (a ∷ l)
  there : {b : A} {l : List A} → Among a l → Among a (b ∷ l)

abbrev pub EndsVariable : Act → Type 0
EndsVariable (Dead x) = Unit {0}
EndsVariable _ = ⊥
