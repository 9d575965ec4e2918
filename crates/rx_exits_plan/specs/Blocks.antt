-- A block as a list of statements and its tail (Rust Reference, "Block expressions"), and the variables that statements declare.
use Rattle.std.specs.Prelude.{ℕ, ◌==◌, if◌then◌else◌, List, [], ◌∷◌, ◌++◌, map}
use Rattle.rx_typed.specs.Tree.{Pattern, Exp, give, Scrutinee, Body, ends, runs, declares, lets}
use Rattle.rx_lower_walks.specs.Matching.{Binding, bindings}

pub data Statement : Type 0 where
  -- `e;`
  does : Exp → Statement
  -- `let P;`: its node, the variables from left to right
  begins : ℕ → List ℕ → Statement
  -- `let P = e;`: its node
  binds : ℕ → Pattern → Scrutinee → Statement

abbrev pub statements : Body → List Statement
statements (ends e) = []
statements (runs e b) = does e ∷ statements b
statements (declares s xs b) = begins s xs ∷ statements b
statements (lets s p c b) = binds s p c ∷ statements b

abbrev pub tail : Body → Exp
tail (ends e) = e
tail (runs e b) = tail b
tail (declares s xs b) = tail b
tail (lets s p c b) = tail b

-- statements in front of a body
abbrev pub before : List Statement → Body → Body
before [] b = b
before (does e ∷ ss) b = runs e (before ss b)
before (begins s xs ∷ ss) b = declares s xs (before ss b)
before (binds s p c ∷ ss) b = lets s p c (before ss b)

-- The body of a function gives its tail to the caller: that `give` stands at the block's own node and is none of the text.
abbrev pub written_tail : ℕ → Exp → Exp
written_tail n (give m e) = if m.node == n then e else give m e
written_tail n e = e

-- ---- variables, in the order of the text

abbrev pub bound : Pattern → List ℕ
bound p = map (λ (b : Binding). b.variable) (bindings [] p)

abbrev pub declared_by : Statement → List ℕ
declared_by (does e) = []
declared_by (begins s xs) = xs
declared_by (binds s p c) = bound p

abbrev pub declared_by_all : List Statement → List ℕ
declared_by_all [] = []
declared_by_all (s ∷ ss) = declared_by s ++ declared_by_all ss
