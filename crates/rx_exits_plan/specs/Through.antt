-- Statements of a block that a walk goes through: each goes on, one behind the other. (Rust Reference, "Block expressions", "Statements".)
use Rattle.std.specs.Prelude.{ℕ, List, [], ◌∷◌, ◌++◌, Option, Some, None}
use Rattle.rx_typed.specs.Tree.{Pattern, Exp, Scrutinee, temporary_of}
use Rattle.rx_lower_walks.specs.Matching.{Binding, bindings}
use Rattle.rx_lower_walks.specs.Actions.{Act, Declare, Action, does, Subject, subject, taken, declared, written}
use Rattle.rx_lower_walks.specs.Orders.{order, order_scrutinee}
use Rattle.rx_lower_walks.specs.Walks.{on, Walk, actions_in}
use Rattle.rx_exits_plan.specs.Blocks.{Statement, begins, binds}
use Rattle.rx_exits_plan.specs.Blocks as statement

-- `let P;`
abbrev pub all_begun : ℕ → List ℕ → List Action
all_begun s [] = []
all_begun s (x ∷ xs) = does s (Declare x) ∷ all_begun s xs

-- what a pattern does that is known to match
abbrev pub is_taken : ℕ → Option Act → List Action
is_taken n None = []
is_taken n (Some a) = does n a ∷ []

abbrev pub all_bound : Subject → List Binding → List Action
all_bound S [] = []
all_bound S (b ∷ bs) = is_taken b.node (taken S b) ++ (declared b ∷ written S b ∷ all_bound S bs)

pub data Through : List Statement → List Action → Type 0 where
  no_more : Through [] []
  does_one : {e : Exp} {ss : List Statement} {us vs : List Action} → Walk (order e (temporary_of e)) us on → Through ss vs
      → Through (statement.does e ∷ ss) (us ++ vs)
  begins_one : {s : ℕ} {xs : List ℕ} {ss : List Statement} {vs : List Action} → Through ss vs → Through (begins s xs ∷ ss) (all_begun s xs ++ vs)
  binds_one : {s : ℕ} {p : Pattern} {c : Scrutinee} {ss : List Statement} {us vs : List Action} → Walk (order_scrutinee c) us on → Through ss vs
      → Through (binds s p c ∷ ss) (us ++ (all_bound (subject c) (bindings [] p) ++ vs))

-- the actions of statements, whether or not some walk holds them; Deads are not among them
abbrev pub actions_of : List Statement → List Action
actions_of [] = []
actions_of (statement.does e ∷ ss) = actions_in (order e (temporary_of e)) ++ actions_of ss
actions_of (begins s xs ∷ ss) = all_begun s xs ++ actions_of ss
actions_of (binds s p c ∷ ss) = actions_in (order_scrutinee c) ++ (all_bound (subject c) (bindings [] p) ++ actions_of ss)
