-- Whether actions call a function, by the number of its item.
use Rattle.std.specs.Prelude.{◌≡◌, ℕ, List}
use Rattle.rx_lower_walks.specs.Actions.{Act, Call, Action}
use Rattle.rx_lower_walks.specs.Walks.{Among}
use Rattle.rx_lower_walks.specs.Text.{actions_of}
use Rattle.rx_typeck_typed.specs.declared.typed.TypedFn.{TypedFn}
use Rattle.rx_facts.specs.Functions.{sites_of}

abbrev pub Calls : ℕ → Act → Type 0
Calls i (Call f ts d) = f ≡ i
Calls i _ = ⊥

-- none of these actions does
abbrev pub NeverCalls : ℕ → List Action → Type 0
NeverCalls i us = (a : Action) → Among a us → Calls i a.act → ⊥

-- a function that isn't called in its own body
abbrev pub CallsNotItself : TypedFn → Type 0
CallsNotItself f = NeverCalls f.item (actions_of (sites_of f))
