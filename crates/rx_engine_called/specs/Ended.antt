-- A variable that ends with a part of an order, and an action that stands in front of jumps out of a loop alone, as a mark of such an exit
-- does (Rust Reference, "Destructors", "Drop scopes"; "break expressions").
use Rattle.std.specs.Prelude.{◌≡◌, ℕ, false, List, [], ◌∷◌, ◌++◌, ◌⊎◌}
use Rattle.rx_lower_walks.specs.Actions.{Action}
use Rattle.rx_lower_walks.specs.Orders.{breaks, continues, Exit, Order, returns}
use Rattle.rx_lower_walks.specs.Orders as order
use Rattle.rx_lower_walks.specs.Walks.{actions_in, Among, EndsVariable, Out, stopped}
use Rattle.rx_facts_tables.specs.Along.{after}
use Rattle.rx_facts_tables.specs.Wholes.{regains, standing}

-- the action is none of the part's
abbrev pub HasNot : Action → Order → Type 0
HasNot m s = (a : Action) → Among a (actions_in s) → a ≡ m → ⊥

-- it is written only where it ends with a part, or just in front of one
pub data Ends (x : ℕ) : Order → Type 0 where
  in_scope : {n : ℕ} {s : Order} → Ends x (order.ending n x s)
  begun : {a : Action} {n : ℕ} {s : Order} → Ends x (order.then (order.act a) (order.ending n x s))
  e_nothing : Ends x order.nothing
  e_nowhere : Ends x order.nowhere
  e_act : {a : Action} → regains x [] a.act ≡ false → Ends x (order.act a)
  e_then : {s t : Order} → Ends x s → Ends x t → Ends x (order.then s t)
  e_or : {s t : Order} → Ends x s → Ends x t → Ends x (order.or s t)
  e_leave : {j : Exit} → Ends x (order.leave j)
  e_fail : Ends x order.fail
  e_otherwise : {s t : Order} → Ends x s → Ends x t → Ends x (order.otherwise s t)
  e_ending : {n y : ℕ} {s : Order} → Ends x s → Ends x (order.ending n y s)
  e_passes : {l : ℕ} {s : Order} → Ends x s → Ends x (order.passes l s)

abbrev pub IsOf : ℕ → Exit → Type 0
IsOf l (breaks n k) = k ≡ l
IsOf l (continues n k) = k ≡ l
IsOf l (returns n) = ⊥

-- the action stands only directly in front of jumps out of this loop, in whose passes the part is
pub data Leaving (m : Action) (l : ℕ) : Order → Type 0 where
  l_jump : {j : Exit} → IsOf l j → Leaving m l (order.then (order.then order.nothing (order.act m)) (order.leave j))
  l_free : {s : Order} → HasNot m s → Leaving m l s
  l_nothing : Leaving m l order.nothing
  l_nowhere : Leaving m l order.nowhere
  l_act : {a : Action} → (a ≡ m → ⊥) → Leaving m l (order.act a)
  l_then : {s t : Order} → Leaving m l s → Leaving m l t → Leaving m l (order.then s t)
  l_or : {s t : Order} → Leaving m l s → Leaving m l t → Leaving m l (order.or s t)
  l_leave : {j : Exit} → Leaving m l (order.leave j)
  l_fail : Leaving m l order.fail
  l_otherwise : {s t : Order} → Leaving m l s → Leaving m l t → Leaving m l (order.otherwise s t)
  l_ending : {n y : ℕ} {s : Order} → Leaving m l s → Leaving m l (order.ending n y s)
  l_passes : {k : ℕ} {s : Order} → (k ≡ l → ⊥) → Leaving m l s → Leaving m l (order.passes k s)

-- it stands so in the passes of this loop alone, and the variable ends with parts of each of them
pub data Inside (x : ℕ) (m : Action) (l : ℕ) : Order → Type 0 where
  i_loop : {s : Order} → Ends x s → Leaving m l s → Inside x m l (order.passes l s)
  i_free : {s : Order} → HasNot m s → Inside x m l s
  i_nothing : Inside x m l order.nothing
  i_nowhere : Inside x m l order.nowhere
  i_act : {a : Action} → (a ≡ m → ⊥) → Inside x m l (order.act a)
  i_then : {s t : Order} → Ends x s → Inside x m l s → Inside x m l t → Inside x m l (order.then s t)
  i_or : {s t : Order} → Inside x m l s → Inside x m l t → Inside x m l (order.or s t)
  i_leave : {j : Exit} → Inside x m l (order.leave j)
  i_fail : Inside x m l order.fail
  i_otherwise : {s t : Order} → Ends x s → Inside x m l s → Inside x m l t → Inside x m l (order.otherwise s t)
  i_ending : {n y : ℕ} {s : Order} → Inside x m l s → Inside x m l (order.ending n y s)
  i_passes : {k : ℕ} {s : Order} → Ends x s → Inside x m l s → Inside x m l (order.passes k s)

-- variables end, and nothing else is done
abbrev pub AllEnd : List Action → Type 0
AllEnd [] = Unit {0}
AllEnd (a ∷ us) = EndsVariable a.act × AllEnd us

abbrev pub IsStopped : Out → Type 0
IsStopped stopped = Unit {0}
IsStopped _ = ⊥

-- behind the action variables end, and then the variable is not there as a whole, unless the walk stops before
pub record EndsBehind (x : ℕ) (m : Action) (front rest : List Action) (o : Out) : Type 0 where
  pub ending : List Action
  pub others : List Action
  pub whole : rest ≡ ending ++ others
  pub all_end : AllEnd ending
  pub lost : ((others ≡ []) × IsStopped o) ⊎ (after (standing x []) (front ++ m ∷ ending) false ≡ false)
