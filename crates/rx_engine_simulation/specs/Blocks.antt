-- Statements of a block in front of others, and what a walk does in them (Rust Reference, "Statements", "let statements").
use Rattle.std.specs.Prelude.{ℕ, List, [], ◌∷◌, ◌++◌}
use Rattle.rx_typed.specs.Tree as tree
use Rattle.rx_typed.specs.Tree.{Pattern, Exp, Scrutinee, Body, temporary_of}
use Rattle.rx_lower_walks.specs.Matching.{Binding, bindings}
use Rattle.rx_lower_walks.specs.Actions.{Declare, Action, Subject, does, taken, declared, written, subject}
use Rattle.rx_lower_walks.specs.Orders.{order, order_scrutinee, perhaps}
use Rattle.rx_lower_walks.specs.Walks.{on, Walk}

pub data Stretch : Type 0 where
  done : Stretch
  does_then : Exp → Stretch → Stretch
  declares_then : ℕ → List ℕ → Stretch → Stretch
  lets_then : ℕ → Pattern → Scrutinee → Stretch → Stretch

abbrev pub before : Stretch → Body → Body
before done b = b
before (does_then e r) b = tree.runs e (before r b)
before (declares_then n xs r) b = tree.declares n xs (before r b)
before (lets_then n q c r) b = tree.lets n q c (before r b)

-- variables without a value, by their statements' nodes
abbrev pub with_locals : List (ℕ × ℕ) → Body → Body
with_locals [] b = b
with_locals (l ∷ ls) b = tree.declares l.0 (l.1 ∷ []) (with_locals ls b)

-- ---- what a walk through all of them does

abbrev pub declared_all : ℕ → List ℕ → List Action
declared_all n [] = []
declared_all n (x ∷ xs) = does n (Declare x) ∷ declared_all n xs

pub data Binds (S : Subject) : List Binding → List Action → Type 0 where
  binds_none : Binds S [] []
  binds_and : {b : Binding} {bs : List Binding} {u w : List Action} → Walk (perhaps b.node (taken S b)) u on → Binds S bs w → Binds S (b ∷ bs) (u ++ declared b ∷ written S b ∷ w)

pub data Through : Stretch → List Action → Type 0 where
  through_none : Through done []
  through_run : {e : Exp} {r : Stretch} {u w : List Action} → Walk (order e (temporary_of e)) u on → Through r w → Through (does_then e r) (u ++ w)
  through_declaration : {n : ℕ} {xs : List ℕ} {r : Stretch} {w : List Action} → Through r w → Through (declares_then n xs r) (declared_all n xs ++ w)
  through_let : {n : ℕ} {q : Pattern} {c : Scrutinee} {r : Stretch} {u v w : List Action} → Walk (order_scrutinee c) u on → Binds (subject c) (bindings [] q) v → Through r w → Through (lets_then n q c r) (u ++ (v ++ w))
