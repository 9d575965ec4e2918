-- What a new function does where it is left: it takes the variables that the exit hands out, makes of them what it gives, and returns.
-- (REM: "Adventures in refactoring Rust: extract function", OOPSLA 2023; Rust Reference, "Return expressions".)
use Rattle.std.specs.Prelude.{◌≡◌, ℕ, Bool, List, [], ◌∷◌, ◌++◌}
use Rattle.rx_core.specs.declared.types.Step.TheVariants as step
use Rattle.rx_typed.specs.Tree.{Temporary, own}
use Rattle.rx_lower_walks.specs.Actions.{Act, Read, Borrow, Give, Action, does}
use Rattle.rx_lower_walks.specs.Orders.{returns, Order}
use Rattle.rx_lower_walks.specs.Orders as order
use Rattle.rx_lower_walks.specs.Walks.{Among}
use Rattle.rx_facts_tables.specs.Wholes.{placed}
use Rattle.rx_engine_initial.specs.Copies.{IsEasy}

-- a variable is read, or borrowed, or the reference that it holds is asked for again
pub data Takes (x : ℕ) : Act → Type 0 where
  by_read : {v : Bool} {d : Temporary} → Takes x (Read v (own x) d)
  by_borrow : {k : Bool} {d : Temporary} → Takes x (Borrow k (own x) d)
  by_reborrow : {k m : Bool} {d : Temporary} → Takes x (Borrow k (placed x (step.Deref m ∷ [])) d)

-- these variables are taken, each once, and nothing else is done to any
pub data Handing : List ℕ → List Action → Type 0 where
  none_taken : Handing [] []
  takes_one : {n x : ℕ} {a : Act} {xs : List ℕ} {us : List Action} → Takes x a → (Among x xs → ⊥) → Handing xs us → Handing (x ∷ xs) (does n a ∷ us)
  does_one : {n : ℕ} {a : Act} {xs : List ℕ} {us : List Action} → IsEasy [] a → Handing xs us → Handing xs (does n a ∷ us)

-- an order without a choice, and what it does
pub data Straight : Order → List Action → Type 0 where
  no_action : Straight order.nothing []
  one_action : {a : Action} → Straight (order.act a) (a ∷ [])
  in_sequence : {s t : Order} {us vs : List Action} → Straight s us → Straight t vs → Straight (order.then s t) (us ++ vs)

abbrev pub in_front : Order → Order → Order
in_front s t = order.then s t

-- what is given then is given back to the caller
abbrev pub giving : Order → ℕ → Temporary → Order
giving s n t = order.then s (order.then (order.act (does n (Give t))) (order.leave (returns n)))
