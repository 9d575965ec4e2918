-- What each action does: the one way from the meaning to memory, input and output.
use Rattle.std.specs.Prelude.{ℕ, ℤ, pos, Bool, nat_eq, List, [], ◌∷◌, Option, Some, None}
use Rattle.rx_core.specs.declared.types.Kind.{Kind}
use Rattle.rx_typed.specs.Tree.{whole_number}
use Rattle.rx_typed.specs.Tree as tree
use Rattle.rx_lower_walks.specs.Matching.{Check, has_tag, equals}
use Rattle.rx_lower_walks.specs.Actions.{Act, Declare, Dead, Read, Write, Borrow, Test, Call, Build, Input, Print, Give, Action}
use Rattle.rx_meaning.specs.Endings.{trapped, wrong, lacks, astray, mistyped}
use Rattle.rx_meaning.specs.Straying.{why_no_part, why_not_found, why_not_written, why_not_checked}
use Rattle.rx_meaning.specs.Values.{Value, number, truth, tagged, unit_value, get, State, with_memory, with_variable}
use Rattle.rx_meaning.specs.Results.{Done, gives, ends, or_ends, Result, result_of}
use Rattle.rx_meaning.specs.Places.{spot, found, whole_value, reference_to, after_write}
use Rattle.rx_meaning.specs.Operators as operators
use Rattle.rx_meaning.specs.Operators.{Computed, same_number, same_truth, make, shown}

-- How a run acts: what an action does, with the values of the temporaries that it uses; and what is told of what a called
-- function told.
pub record Acting (E : Type 0) : Type 0 where
  pub perform : Action → List Value → State → Done E
  pub inner : List E → List E

abbrev pub performed : {E : Type 0} → Acting E → Action → List Value → State → Result E Value
performed A a vs s = result_of (A.perform a vs s)

-- ---- the plain way, which tells the bytes that are printed

-- whether a refutable part holds
abbrev pub checked : Check → Value → Option Bool
checked (has_tag i) (tagged j vs) = Some (nat_eq i j)
checked (equals (whole_number k z)) (number j y) = Some (same_number z y)
checked (equals (tree.truth b)) (truth c) = Some (same_truth b c)
checked _ _ = None

abbrev pub computed : Computed → State → Done ℕ
computed (operators.gives v) s = gives [] v s
computed (operators.traps t) s = ends [] (trapped t)
computed operators.senseless s = ends [] (wrong mistyped)

-- the next number, and 0 past the end
abbrev pub next_input : List ℤ → State → Done ℕ
next_input [] s = gives [] (number Kind.I64 (pos 0)) s
next_input (z ∷ zs) s = gives [] (number Kind.I64 z) (record s { input = zs })

-- Each clause in which something lacks is Wrong, and says the cause.
abbrev pub does_plainly : Act → List Value → State → Done ℕ
does_plainly (Declare x) vs s = gives [] unit_value (with_variable x s)
does_plainly (Dead x) vs s = gives [] unit_value s
does_plainly (Read moves p d) vs s = or_ends (why_not_found p vs s) (found p vs s) (λ f. or_ends lacks (whole_value f) (λ v. gives [] v s))
does_plainly (Write p t ss) (v ∷ []) s = or_ends (why_no_part ss v) (get ss v) (λ u. or_ends (why_not_found p [] s) (spot p [] s) (λ at.
    or_ends (why_not_written s.memory at) (after_write u s.memory at) (λ M. gives [] unit_value (with_memory s M))))
-- A reference is made whatever stands at the place, also nothing; only what is followed on the way there is looked at.
does_plainly (Borrow k p d) vs s = or_ends (why_not_found p vs s) (spot p vs s) (λ at. or_ends astray (reference_to k at) (λ v. gives [] v s))
does_plainly (Test p c) vs s = or_ends (why_not_found p vs s) (found p vs s) (λ f. or_ends (why_not_checked f.1) (checked c f.1) (λ b. gives [] (truth b) s))
does_plainly (Call f ts d) vs s = gives [] unit_value s
does_plainly (Build w js ts d) vs s = computed (make w js vs) s
does_plainly (Input d) vs s = next_input s.input s
does_plainly (Print t) (v ∷ []) s = or_ends (why_not_checked v) (shown v) (λ bytes. gives bytes unit_value s)
does_plainly (Give t) (v ∷ []) s = gives [] v s
does_plainly _ vs s = ends [] (wrong mistyped)

abbrev pub plainly : Acting ℕ
plainly = record { perform = λ a vs s. does_plainly a.act vs s; inner = λ w. w }
