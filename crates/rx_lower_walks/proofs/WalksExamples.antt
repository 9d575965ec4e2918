-- Walks of functions, computed from the choices made on the way, against lists of actions written by hand. (Of each node's
-- number `Programs` has the text: nodes are counted in its order, the function's item being 0.)
use Rattle.std.specs.Prelude.{◌≡◌, refl, ℕ, ℤ, pos, negsuc, true, false, List, [], ◌∷◌}
use Rattle.rx_core.specs.declared.types.Kind.{Kind}
use Rattle.rx_core.specs.declared.types.Step.{Step}
use Rattle.rx_core.specs.declared.types.Step.TheVariants as step
use Rattle.rx_tree.specs.declared.tree.BinaryOp.{BinaryOp}
use Rattle.rx_typed.specs.Tree.{Temporary, Place, truth, whole_number, constant, negation, operation, own, temporary_place, under, temporary_at}
use Rattle.rx_lower_walks.specs.Matching.{has_tag, equals}
use Rattle.rx_lower_walks.specs.Actions.{Action, Declare, Dead, Read, Write, Borrow, Test, Call, Build, Input, Print, Give, does}
use Rattle.rx_lower_walks.specs.Orders.{returns, order_function}
use Rattle.rx_lower_walks.specs.Walks.{leaves, stopped}
use Rattle.rx_lower_walks.proofs.WalksChoices.{walked, way}
use Rattle.rx_lower_walks.proofs.Programs.{product_main, half_half, gate_main, steps_main}
use Rattle.rx_lower_walks.proofs.ProgramsOfTypes.{shapes_size}

abbrev temporary : ℕ → Temporary
temporary n = temporary_at n 0

-- an integer literal, an operator, a variable as a value, a new variable with its value
abbrev literal : ℕ → Kind → ℤ → Action
literal n k z = does n (Build (constant (whole_number k z)) [] [] (temporary n))

abbrev operator : ℕ → BinaryOp → ℕ → ℕ → Action
operator n o a b = does n (Build (operation o) (0 ∷ 1 ∷ []) (temporary a ∷ temporary b ∷ []) (temporary n))

abbrev copied : ℕ → ℕ → ℕ → Action
copied n x d = does n (Read false (own x) (temporary d))

abbrev begins : ℕ → ℕ → Action
begins n x = does n (Declare x)

abbrev gets : ℕ → ℕ → ℕ → Action
gets n x d = does n (Write (own x) (temporary d) [])

abbrev holds : ℕ → ℕ → Action
holds n d = does n (Test (temporary_place (temporary d)) (equals (truth true)))

abbrev pub product_actions : List Action
product_actions =
    literal 4 Kind.I64 (pos 2) ∷ begins 3 0 ∷ gets 3 0 4
    ∷ literal 7 Kind.I64 (pos 3) ∷ begins 6 1 ∷ gets 6 1 7
    ∷ copied 11 0 11 ∷ copied 12 1 12 ∷ operator 10 BinaryOp.Mul 11 12 ∷ begins 9 2 ∷ gets 9 2 10
    ∷ copied 15 2 15 ∷ does 14 (Print (temporary 15))
    ∷ does 1 (Give (temporary 1)) ∷ does 1 (Dead 2) ∷ does 1 (Dead 1) ∷ does 1 (Dead 0) ∷ []

product_walk : walked 1 (order_function product_main) [] ≡ way product_actions (leaves (returns 1)) []
product_walk = refl

-- parameters; the block's value goes to the block's temporary, and its variable ends before the sum is made
abbrev pub half_actions : List Action
half_actions =
    begins 1 0 ∷ gets 1 0 1 ∷ begins 2 1 ∷ gets 2 1 2
    ∷ copied 8 0 8 ∷ literal 13 Kind.I64 (pos 1) ∷ begins 12 3 ∷ gets 12 3 13
    ∷ copied 16 1 16 ∷ holds 15 16
    ∷ copied 21 3 10 ∷ does 10 (Dead 3) ∷ operator 7 BinaryOp.Add 8 10 ∷ begins 6 2 ∷ gets 6 2 7
    ∷ copied 22 2 22 ∷ does 4 (Give (temporary 22)) ∷ does 4 (Dead 2) ∷ does 4 (Dead 1) ∷ does 4 (Dead 0) ∷ []

half_goes_on : walked 1 (order_function half_half) (false ∷ []) ≡ way half_actions (leaves (returns 4)) []
half_goes_on = refl

-- a jump out of an operand: the variables declared so far end at the jump
abbrev pub half_returning : List Action
half_returning =
    begins 1 0 ∷ gets 1 0 1 ∷ begins 2 1 ∷ gets 2 1 2
    ∷ copied 8 0 8 ∷ literal 13 Kind.I64 (pos 1) ∷ begins 12 3 ∷ gets 12 3 13
    ∷ copied 16 1 16 ∷ holds 15 16
    ∷ copied 20 0 20 ∷ does 19 (Give (temporary 20)) ∷ does 19 (Dead 3) ∷ does 19 (Dead 1) ∷ does 19 (Dead 0) ∷ []

half_returns : walked 1 (order_function half_half) (true ∷ []) ≡ way half_returning (leaves (returns 19)) []
half_returns = refl

-- a pass that continues, and one that breaks
abbrev pub gate_actions : List Action
gate_actions =
    literal 4 Kind.I64 (pos 0) ∷ begins 3 0 ∷ gets 3 0 4
    ∷ does 10 (Input (temporary 10)) ∷ begins 9 1 ∷ gets 9 1 10
    ∷ copied 14 1 14 ∷ literal 15 Kind.I64 (pos 0) ∷ operator 13 BinaryOp.Eq 14 15 ∷ holds 12 13
    ∷ copied 22 1 22 ∷ literal 23 Kind.I64 (pos 0) ∷ operator 21 BinaryOp.Lt 22 23 ∷ holds 20 21 ∷ does 26 (Dead 1)
    ∷ does 10 (Input (temporary 10)) ∷ begins 9 1 ∷ gets 9 1 10
    ∷ copied 14 1 14 ∷ literal 15 Kind.I64 (pos 0) ∷ operator 13 BinaryOp.Eq 14 15 ∷ holds 12 13 ∷ does 18 (Dead 1)
    ∷ copied 35 0 35 ∷ does 34 (Print (temporary 35)) ∷ does 1 (Give (temporary 1)) ∷ does 1 (Dead 0) ∷ []

gate_walk : walked 9 (order_function gate_main) (false ∷ true ∷ true ∷ []) ≡ way gate_actions (leaves (returns 1)) []
gate_walk = refl

-- `while let` and `if let`: the binding takes its part from the scrutinee's temporary
abbrev pub steps_actions : List Action
steps_actions =
    literal 4 Kind.I64 (pos 0) ∷ begins 3 0 ∷ gets 3 0 4
    ∷ does 9 (Call 2 [] (temporary 9)) ∷ does 7 (Test (temporary_place (temporary 9)) (has_tag 0))
    ∷ begins 8 1 ∷ does 8 (Write (own 1) (temporary 9) (step.Variant 0 ∷ step.Field 0 ∷ []))
    ∷ does 13 (Test (own 1) (equals (whole_number Kind.I64 (pos 13)))) ∷ does 17 (Dead 1)
    ∷ copied 26 0 26 ∷ does 25 (Print (temporary 26)) ∷ does 1 (Give (temporary 1)) ∷ does 1 (Dead 0) ∷ []

steps_walk : walked 9 (order_function steps_main) (true ∷ true ∷ []) ≡ way steps_actions (leaves (returns 1)) []
steps_walk = refl

-- the parts of a shape behind the parameter's reference
abbrev inside : List Step → Place
inside ss = under (own 0) (step.Deref true ∷ ss)

-- tests of three arms, of which the third holds; bindings behind a reference are borrows
abbrev pub size_actions : List Action
size_actions =
    begins 1 0 ∷ gets 1 0 1
    ∷ does 7 (Test (inside []) (has_tag 1))
    ∷ does 10 (Test (inside (step.Variant 1 ∷ step.Field 1 ∷ step.Field 0 ∷ [])) (equals (truth true)))
    ∷ does 29 (Test (inside []) (has_tag 1))
    ∷ does 30 (Test (inside (step.Variant 1 ∷ step.Field 0 ∷ [])) (equals (whole_number Kind.I64 (negsuc 0))))
    ∷ does 33 (Test (inside []) (has_tag 1))
    ∷ does 34 (Borrow true (inside (step.Variant 1 ∷ step.Field 0 ∷ [])) (temporary 34)) ∷ begins 34 3 ∷ gets 34 3 34
    ∷ does 36 (Borrow true (inside (step.Variant 1 ∷ step.Field 1 ∷ step.Field 0 ∷ [])) (temporary 36)) ∷ begins 36 4 ∷ gets 36 4 36
    ∷ does 44 (Build (constant (truth true)) [] [] (temporary 44)) ∷ does 41 (Write (under (own 4) (step.Deref true ∷ [])) (temporary 44) [])
    ∷ does 46 (Read false (under (own 3) (step.Deref true ∷ [])) (temporary 46)) ∷ does 45 (Build negation (0 ∷ []) (temporary 46 ∷ []) (temporary 5))
    ∷ does 39 (Dead 4) ∷ does 39 (Dead 3)
    ∷ does 4 (Give (temporary 5)) ∷ does 4 (Dead 0) ∷ []

size_walk : walked 1 (order_function shapes_size) (true ∷ false ∷ true ∷ false ∷ true ∷ []) ≡ way size_actions (leaves (returns 4)) []
size_walk = refl

-- from the last arm no test that fails leads on
size_stops : walked 1 (order_function shapes_size) (false ∷ false ∷ false ∷ false ∷ []) ≡ way
    (begins 1 0 ∷ gets 1 0 1
    ∷ does 7 (Test (inside []) (has_tag 1)) ∷ does 29 (Test (inside []) (has_tag 1))
    ∷ does 33 (Test (inside []) (has_tag 1)) ∷ does 48 (Test (inside []) (has_tag 0)) ∷ [])
    stopped []
size_stops = refl
