-- What patterns and new variables do (Rust Reference, "Patterns", "Binding modes", "let statements", "Drop scopes").
use Rattle.std.specs.Prelude.{ℕ, true, false, List, [], ◌∷◌, Option, Some, None}
use Rattle.rx_lower_walks.specs.Matching.{PartTest, Binding}
use Rattle.rx_lower_walks.specs.Actions.{Act, Declare, Dead, does, Subject, test_of, taken, declared, written}
use Rattle.rx_lower_walks.specs.Orders.{exit_node}
use Rattle.rx_meaning.specs.Endings.{wrong}
use Rattle.rx_meaning.specs.Straying.{why_not_checked}
use Rattle.rx_meaning.specs.Values.{Value, truth, State}
use Rattle.rx_meaning.specs.Results.{Result, on, jumps, stops, after, bind}
use Rattle.rx_meaning.specs.Acting.{Acting, performed}

-- goes one way or the other, by what a test gave
unfoldable pub decided : {E : Type 0} → Value → (State → Result E Value) → (State → Result E Value) → State → Result E Value
decided (truth true) go other s = go s
decided (truth false) go other s = other s
decided v go other s = stops [] (wrong (why_not_checked v))

-- the tests of an arm, from left to right: goes on where all hold, and else to the next arm
unfoldable pub tested : {E : Type 0} → Acting E → Subject → List Value → List PartTest → (State → Result E Value) → (State → Result E Value)
    → State → Result E Value
tested A S vs [] go next s = go s
tested A S vs (t ∷ ts) go next s = bind (performed A (test_of S t) vs s) (λ v s1. decided v (λ s2. tested A S vs ts go next s2) next s1)

-- a variable ends where the part does, at this node; or at that of a jump out of it
unfoldable pub closed : {E : Type 0} → Acting E → ℕ → ℕ → Result E Value → Result E Value
closed A n x (on w v s) = after w (bind (performed A (does n (Dead x)) [] s) (λ u s1. on [] v s1))
closed A n x (jumps w j v s) = after w (bind (performed A (does (exit_node j) (Dead x)) [] s) (λ u s1. jumps [] j v s1))
closed A n x (stops w e) = stops w e

-- what a binding reads or borrows; else it takes from what is held
unfoldable pub took : {E : Type 0} → Acting E → ℕ → Option Act → List Value → State → Result E (List Value)
took A n None vs s = on [] vs s
took A n (Some a) vs s = bind (performed A (does n a) vs s) (λ v s1. on [] (v ∷ []) s1)

-- the bindings of a pattern, from left to right, in a part that ends at this node
unfoldable pub bound : {E : Type 0} → Acting E → Subject → List Value → List Binding → ℕ → (State → Result E Value) → State → Result E Value
bound A S vs [] n go s = go s
bound A S vs (b ∷ bs) n go s =
    bind (took A b.node (taken S b) vs s) (λ ws s1. bind (performed A (declared b) [] s1) (λ u s2. bind (performed A (written S b) ws s2) (λ w s3.
    closed A n b.variable (bound A S vs bs n go s3))))

-- variables without a value, of the statement at a node
unfoldable pub begun : {E : Type 0} → Acting E → ℕ → List ℕ → ℕ → (State → Result E Value) → State → Result E Value
begun A i [] n go s = go s
begun A i (x ∷ xs) n go s = bind (performed A (does i (Declare x)) [] s) (λ u s1. closed A n x (begun A i xs n go s1))
