-- The value of a variable at a node that keeps its type: it is taken, where references are read.
use Rattle.std.proofs.Common.{◌≡◌, ℕ, false, refl, subst}
use Rattle.rx_typed.specs.declared.nodes.Node.{Node}
use Rattle.rx_typed.specs.declared.nodes.Use.{Use}
use Rattle.rx_typed.specs.Named as named
use Rattle.rx_typed.specs.Tree as tree
use Rattle.rx_typed.specs.Tree.{Exp, own}
use Rattle.rx_typed.specs.Elaborated.{Assigned, Coercion, coercion_at, mark, operands, passed_as, read_as, value}
use Rattle.rx_engine_simulation.specs.Packing.{Takes, takes_read}
use Rattle.rx_engine_simulation.specs.Rereads.{Rereads, is_read, same_read}
use Rattle.rx_engine_made_trees.specs.Nodes.{KeepsItsType}
use Rattle.rx_engine_made_trees.proofs.Nodes.{NotShared, stays_plain, stays_unique, not_shared}

-- it is so, where references are read
pub data Reread (P : Exp → Type 0) (e : Exp) : Type 0 where
  reread : (z : Exp) → Rereads e z → P z → Reread P e

take_as : (T : Assigned) (n : Node) (q : ℕ) (c : Coercion) → NotShared c → Reread (λ z. Takes q z) (read_as T n c (own q))
take_as T n q c stays_plain = reread (read_as T n c (own q)) same_read takes_read
take_as T n q c stays_unique = reread (tree.read (mark T n) false (own q)) is_read takes_read

pub variable_taken : (T : Assigned) (n : Node) (u : Use) (o : ℕ) → u.number ≡ o → KeepsItsType T n → Reread (λ z. Takes o z) (value T (named.var n u))
variable_taken T n u o i k = subst (λ o. Reread (λ z. Takes o z) (value T (named.var n u))) i (take_as T n u.number (coercion_at T n) (not_shared T n k))

-- a value that is none of a place
stays_as : (T : Assigned) (n : Node) (c : Coercion) (e : Exp) → NotShared c → passed_as T n c e ≡ e
stays_as T n c e stays_plain = refl
stays_as T n c e stays_unique = refl

pub call_is : (T : Assigned) (n : Node) (g : ℕ) (es : named.Exps) → KeepsItsType T n → value T (named.call n g es) ≡ tree.call (mark T n) g (operands T 0 es)
call_is T n g es k = stays_as T n (coercion_at T n) (tree.call (mark T n) g (operands T 0 es)) (not_shared T n k)
