-- What tests, bindings, new variables and parameters do to the state. None of them prints or jumps, so each is a function:
-- none where it is Wrong.
use Rattle.std.specs.Prelude.{ℕ, Bool, true, false, List, [], ◌∷◌, ◌++◌, length, Option, Some, None}
use Rattle.rx_core.specs.declared.types.Step.{Step}
use Rattle.rx_typed.specs.Tree.{Pattern, Exp, Arms, no_arm, arm_and, Mode, by_value, by_reference, Parameter, under}
use Rattle.rx_lower_walks.specs.Matching.{PartTest, Binding, tests}
use Rattle.rx_lower_walks.specs.Actions.{Subject, in_place, in_temporary, part}
use Rattle.rx_meaning.specs.Values.{Value, and_then, get, State, with_variable}
use Rattle.rx_meaning.specs.Places.{spot, found, whole_value, reference_to}
use Rattle.rx_meaning.specs.Acting.{checked}

-- ---- arms

-- the second counts where the first holds
abbrev pub both : Option Bool → Option Bool → Option Bool
both None b = None
both (Some true) b = b
both (Some false) b = Some false

abbrev pub holds : Subject → List Value → PartTest → State → Option Bool
holds S vs t s = and_then (found (part S t.steps) vs s) (λ f. checked t.check f.1)

abbrev pub all_hold : Subject → List Value → List PartTest → State → Option Bool
all_hold S vs [] s = Some true
all_hold S vs (t ∷ ts) s = both (holds S vs t s) (all_hold S vs ts s)

abbrev pub if_holds : {A : Type 0} → Option Bool → Option A → Option A → Option A
if_holds None a b = None
if_holds (Some true) a b = a
if_holds (Some false) a b = b

-- the first arm whose tests hold
abbrev pub first_arm : Subject → List Value → Arms → State → Option (Pattern × Exp)
first_arm S vs no_arm s = None
first_arm S vs (arm_and p e rest) s = if_holds (all_hold S vs (tests [] p) s) (Some (p, e)) (first_arm S vs rest s)

-- ---- variables

-- a new slot for the variable, with a value
abbrev pub with_value : ℕ → Value → State → State
with_value x v s = record s {
  memory = s.memory ++ v ∷ [];
  frame = record { item = s.frame.item; slots = (x, length s.memory) ∷ s.frame.slots };
}

-- what a binding takes: a reference to the part, the value there, or the part of what is held
abbrev pub takes : Mode → Subject → List Step → List Value → State → Option Value
takes (by_reference k) S ss vs s = and_then (spot (part S ss) vs s) (λ at. reference_to k at)
takes (by_value m) (in_place p) ss vs s = and_then (found (under p ss) vs s) (λ f. whole_value f)
takes (by_value m) (in_temporary t) ss (v ∷ []) s = get ss v
takes (by_value m) (in_temporary t) ss _ s = None

-- bindings from left to right
abbrev pub bind_all : Subject → List Value → List Binding → State → Option State
bind_all S vs [] s = Some s
bind_all S vs (b ∷ bs) s = and_then (takes b.mode S b.steps vs s) (λ u. bind_all S vs bs (with_value b.variable u s))

abbrev pub declare_all : List ℕ → State → State
declare_all [] s = s
declare_all (x ∷ xs) s = declare_all xs (with_variable x s)

-- parameters with their arguments
abbrev pub fill_all : List Parameter → List Value → State → Option State
fill_all [] [] s = Some s
fill_all (p ∷ ps) (v ∷ vs) s = fill_all ps vs (with_value p.variable v s)
fill_all _ _ s = None
