-- The graphs of functions, computed, against lists of sites written by hand. (Of each node's number `rx_lower_walks` has the text:
-- nodes are counted in its order, the function's item being 0.)
use Rattle.std.specs.Prelude.{◌≡◌, refl, ℕ, ℤ, pos, negsuc, true, false, List, [], ◌∷◌}
use Rattle.rx_core.specs.declared.types.Kind.{Kind}
use Rattle.rx_core.specs.declared.types.Step.{Step}
use Rattle.rx_core.specs.declared.types.Step.TheVariants as step
use Rattle.rx_tree.specs.declared.tree.BinaryOp.{BinaryOp}
use Rattle.rx_typed.specs.Tree.{Temporary, Place, truth, whole_number, constant, negation, operation, own, temporary_place, under, temporary_at}
use Rattle.rx_lower_walks.specs.Matching.{has_tag, equals}
use Rattle.rx_lower_walks.specs.Actions.{Action, Declare, Dead, Read, Write, Borrow, Test, Call, Build, Input, Print, Give, does}
use Rattle.rx_lower_walks.specs.Orders.{breaks, returns, Order}
use Rattle.rx_lower_walks.specs.Orders as order
use Rattle.rx_lower_walks.proofs.Programs.{product_main, half_half, gate_main, steps_main}
use Rattle.rx_lower_walks.proofs.ProgramsOfTypes.{shapes_size}
use Rattle.rx_lower_walks.specs.Graph.{Site}
use Rattle.rx_lower_walks.specs.Pieces.{graph_of, graph}

abbrev temporary : ℕ → Temporary
temporary n = temporary_at n 0

-- an integer literal, an operator, a variable as a value, a new variable with its value
abbrev literal : ℕ → Kind → ℤ → Action
literal n k z = does n (Build (constant (whole_number k z)) [] [] (temporary n))

abbrev operator : ℕ → BinaryOp → ℕ → ℕ → Action
operator n o a b = does n (Build (operation o) (0 ∷ 1 ∷ []) (temporary a ∷ temporary b ∷ []) (temporary n))

abbrev copied : ℕ → ℕ → ℕ → Action
copied n x d = does n (Read false (own x) (temporary d))

abbrev begins : ℕ → ℕ → Action
begins n x = does n (Declare x)

abbrev gets : ℕ → ℕ → ℕ → Action
gets n x d = does n (Write (own x) (temporary d) [])

abbrev holds : ℕ → ℕ → Action
holds n d = does n (Test (temporary_place (temporary d)) (equals (truth true)))

abbrev dies : ℕ → ℕ → Action
dies n x = does n (Dead x)

-- a site that another follows, one that two may follow, one that none follows
abbrev to : ℕ → Action → Site
to p a = record { action = a; next = p ∷ [] }

abbrev fork : ℕ → ℕ → Action → Site
fork p q a = record { action = a; next = p ∷ q ∷ [] }

abbrev last : Action → Site
last a = record { action = a; next = [] }

abbrev pub product_sites : List Site
product_sites =
    to 1 (literal 4 Kind.I64 (pos 2))
    ∷ to 2 (begins 3 0)
    ∷ to 3 (gets 3 0 4)
    ∷ to 4 (literal 7 Kind.I64 (pos 3))
    ∷ to 5 (begins 6 1)
    ∷ to 6 (gets 6 1 7)
    ∷ to 7 (copied 11 0 11)
    ∷ to 8 (copied 12 1 12)
    ∷ to 9 (operator 10 BinaryOp.Mul 11 12)
    ∷ to 10 (begins 9 2)
    ∷ to 11 (gets 9 2 10)
    ∷ to 12 (copied 15 2 15)
    ∷ to 13 (does 14 (Print (temporary 15)))
    ∷ to 14 (does 1 (Give (temporary 1)))
    ∷ to 15 (dies 1 2)
    ∷ to 16 (dies 1 1)
    ∷ last (dies 1 0)
    ∷ []

product_graph : graph product_main ≡ product_sites
product_graph = refl

-- a `return` out of an operand ends the variables declared so far, at its node
abbrev pub half_sites : List Site
half_sites =
    to 1 (begins 1 0)
    ∷ to 2 (gets 1 0 1)
    ∷ to 3 (begins 2 1)
    ∷ to 4 (gets 2 1 2)
    ∷ to 5 (copied 8 0 8)
    ∷ to 6 (literal 13 Kind.I64 (pos 1))
    ∷ to 7 (begins 12 3)
    ∷ to 8 (gets 12 3 13)
    ∷ to 9 (copied 16 1 16)
    ∷ fork 10 15 (holds 15 16)
    ∷ to 11 (copied 20 0 20)
    ∷ to 12 (does 19 (Give (temporary 20)))
    ∷ to 13 (dies 19 3)
    ∷ to 14 (dies 19 1)
    ∷ last (dies 19 0)
    ∷ to 16 (copied 21 3 10)
    ∷ to 17 (dies 10 3)
    ∷ to 18 (operator 7 BinaryOp.Add 8 10)
    ∷ to 19 (begins 6 2)
    ∷ to 20 (gets 6 2 7)
    ∷ to 21 (copied 22 2 22)
    ∷ to 22 (does 4 (Give (temporary 22)))
    ∷ to 23 (dies 4 2)
    ∷ to 24 (dies 4 1)
    ∷ last (dies 4 0)
    ∷ []

half_graph : graph half_half ≡ half_sites
half_graph = refl

-- `break` leads behind the loop, `continue` and the end of a pass to its first site; each ends the variable of the pass
abbrev pub gate_sites : List Site
gate_sites =
    to 1 (literal 4 Kind.I64 (pos 0))
    ∷ to 2 (begins 3 0)
    ∷ to 3 (gets 3 0 4)
    ∷ to 4 (does 10 (Input (temporary 10)))
    ∷ to 5 (begins 9 1)
    ∷ to 6 (gets 9 1 10)
    ∷ to 7 (copied 14 1 14)
    ∷ to 8 (literal 15 Kind.I64 (pos 0))
    ∷ to 9 (operator 13 BinaryOp.Eq 14 15)
    ∷ fork 10 11 (holds 12 13)
    ∷ to 21 (dies 18 1)
    ∷ to 12 (copied 22 1 22)
    ∷ to 13 (literal 23 Kind.I64 (pos 0))
    ∷ to 14 (operator 21 BinaryOp.Lt 22 23)
    ∷ fork 15 16 (holds 20 21)
    ∷ to 3 (dies 26 1)
    ∷ to 17 (copied 31 0 31)
    ∷ to 18 (copied 32 1 32)
    ∷ to 19 (operator 30 BinaryOp.Add 31 32)
    ∷ to 20 (does 28 (Write (own 0) (temporary 30) []))
    ∷ to 3 (dies 7 1)
    ∷ to 22 (copied 35 0 35)
    ∷ to 23 (does 34 (Print (temporary 35)))
    ∷ to 24 (does 1 (Give (temporary 1)))
    ∷ last (dies 1 0)
    ∷ []

gate_graph : graph gate_main ≡ gate_sites
gate_graph = refl

-- `while let`: where its test fails no site stands for the jump out of the loop
abbrev pub steps_sites : List Site
steps_sites =
    to 1 (literal 4 Kind.I64 (pos 0))
    ∷ to 2 (begins 3 0)
    ∷ to 3 (gets 3 0 4)
    ∷ to 4 (does 9 (Call 2 [] (temporary 9)))
    ∷ fork 5 14 (does 7 (Test (temporary_place (temporary 9)) (has_tag 0)))
    ∷ to 6 (begins 8 1)
    ∷ to 7 (does 8 (Write (own 1) (temporary 9) (step.Variant 0 ∷ step.Field 0 ∷ [])))
    ∷ fork 8 9 (does 13 (Test (own 1) (equals (whole_number Kind.I64 (pos 13)))))
    ∷ to 14 (dies 17 1)
    ∷ to 10 (copied 22 0 22)
    ∷ to 11 (copied 23 1 23)
    ∷ to 12 (operator 21 BinaryOp.Add 22 23)
    ∷ to 13 (does 19 (Write (own 0) (temporary 21) []))
    ∷ to 3 (dies 10 1)
    ∷ to 15 (copied 26 0 26)
    ∷ to 16 (does 25 (Print (temporary 26)))
    ∷ to 17 (does 1 (Give (temporary 1)))
    ∷ last (dies 1 0)
    ∷ []

steps_graph : graph steps_main ≡ steps_sites
steps_graph = refl

-- the parts of a shape behind the parameter's reference; what a variable's reference leads to
abbrev inside : List Step → Place
inside ss = under (own 0) (step.Deref true ∷ ss)

abbrev target : ℕ → Place
target x = under (own x) (step.Deref true ∷ [])

abbrev width : List Step
width = step.Variant 1 ∷ step.Field 0 ∷ []

abbrev height : List Step
height = step.Variant 1 ∷ step.Field 1 ∷ step.Field 1 ∷ []

abbrev flag : List Step
flag = step.Variant 1 ∷ step.Field 1 ∷ step.Field 0 ∷ []

-- each test that fails leads to the next arm, but from the last arm no failed test leads on
abbrev pub size_sites : List Site
size_sites =
    to 1 (begins 1 0)
    ∷ to 2 (gets 1 0 1)
    ∷ fork 3 21 (does 7 (Test (inside []) (has_tag 1)))
    ∷ fork 4 21 (does 10 (Test (inside flag) (equals (truth true))))
    ∷ to 5 (does 8 (Borrow true (inside width) (temporary 8)))
    ∷ to 6 (begins 8 1)
    ∷ to 7 (gets 8 1 8)
    ∷ to 8 (does 11 (Borrow true (inside height) (temporary 11)))
    ∷ to 9 (begins 11 2)
    ∷ to 10 (gets 11 2 11)
    ∷ to 11 (literal 18 Kind.U8 (pos 1))
    ∷ to 12 (does 15 (Read false (target 2) (temporary_at 15 1)))
    ∷ to 13 (does 15 (Build (operation BinaryOp.Add) [] (temporary_at 15 1 ∷ temporary 18 ∷ []) (temporary_at 15 2)))
    ∷ to 14 (does 15 (Write (target 2) (temporary_at 15 2) []))
    ∷ to 15 (does 24 (Read false (target 1) (temporary 24)))
    ∷ to 16 (literal 26 Kind.I64 (pos 1))
    ∷ to 17 (operator 23 BinaryOp.Add 24 26)
    ∷ to 18 (does 20 (Write (target 1) (temporary 23) []))
    ∷ to 19 (does 27 (Read false (target 1) (temporary 5)))
    ∷ to 20 (dies 13 2)
    ∷ to 39 (dies 13 1)
    ∷ fork 22 24 (does 29 (Test (inside []) (has_tag 1)))
    ∷ fork 23 24 (does 30 (Test (inside width) (equals (whole_number Kind.I64 (negsuc 0)))))
    ∷ to 39 (does 32 (Build (constant (whole_number Kind.I64 (pos 0))) [] [] (temporary 5)))
    ∷ fork 25 37 (does 33 (Test (inside []) (has_tag 1)))
    ∷ to 26 (does 34 (Borrow true (inside width) (temporary 34)))
    ∷ to 27 (begins 34 3)
    ∷ to 28 (gets 34 3 34)
    ∷ to 29 (does 36 (Borrow true (inside flag) (temporary 36)))
    ∷ to 30 (begins 36 4)
    ∷ to 31 (gets 36 4 36)
    ∷ to 32 (does 44 (Build (constant (truth true)) [] [] (temporary 44)))
    ∷ to 33 (does 41 (Write (target 4) (temporary 44) []))
    ∷ to 34 (does 46 (Read false (target 3) (temporary 46)))
    ∷ to 35 (does 45 (Build negation (0 ∷ []) (temporary 46 ∷ []) (temporary 5)))
    ∷ to 36 (dies 39 4)
    ∷ to 39 (dies 39 3)
    ∷ to 38 (does 48 (Test (inside []) (has_tag 0)))
    ∷ to 39 (does 49 (Build (constant (whole_number Kind.I64 (pos 7))) [] [] (temporary 5)))
    ∷ to 40 (does 4 (Give (temporary 5)))
    ∷ last (dies 4 0)
    ∷ []

size_graph : graph shapes_size ≡ size_sites
size_graph = refl

-- ---- small orders

-- a loop without an action has no site, nor has what stands behind it or behind a jump
endless : graph_of (order.then (order.passes 0 order.nothing) (order.act (begins 1 0))) ≡ []
endless = refl

behind_a_jump : graph_of (order.then (order.leave (returns 1)) (order.act (begins 2 0))) ≡ []
behind_a_jump = refl

-- two ways that meet have one successor
abbrev forked : Order → Order → Order
forked s t = order.then (order.act (holds 1 2)) (order.then (order.or s t) (order.act (begins 3 0)))

ways_meet : graph_of (forked order.nothing order.nothing) ≡ to 1 (holds 1 2) ∷ last (begins 3 0) ∷ []
ways_meet = refl

-- the way of success comes first, and a way into an endless loop is none
success_first : graph_of (forked (order.act (begins 4 1)) order.nothing) ≡ fork 1 2 (holds 1 2) ∷ to 2 (begins 4 1) ∷ last (begins 3 0) ∷ []
success_first = refl

failure_second : graph_of (forked order.nothing (order.act (begins 4 1))) ≡ fork 2 1 (holds 1 2) ∷ to 2 (begins 4 1) ∷ last (begins 3 0) ∷ []
failure_second = refl

into_an_endless_loop : graph_of (forked (order.passes 0 order.nothing) order.nothing) ≡ to 1 (holds 1 2) ∷ last (begins 3 0) ∷ []
into_an_endless_loop = refl

-- a jump out of two loops ends the variables of both
out_of_two : graph_of (order.passes 0 (order.ending 5 0 (order.passes 1 (order.ending 6 1 (order.then (order.act (begins 2 0)) (order.leave (breaks 7 0)))))))
    ≡ to 1 (begins 2 0) ∷ to 2 (dies 7 1) ∷ last (dies 7 0) ∷ []
out_of_two = refl
