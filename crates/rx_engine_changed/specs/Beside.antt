-- Nodes of two functions that are numbered side by side (Rust Reference, "Expressions", "Statements"): which correspond, in the order in which
-- they are made, and where each has nodes of its own; numberings of one in the other by which they do.
use Rattle.std.specs.Prelude.{◌≡◌, ◌≤◌, ◌<◌, ℕ, Bool, true, List, ◌∷◌, None}
use Rattle.rx_core.specs.declared.types.Span.{Span}
use Rattle.rx_typed.specs.declared.nodes.Node.{Node}
use Rattle.rx_typed.specs.Named.{Else, Statements}
use Rattle.rx_engine_names.specs.Renaming.{Renaming}
use Rattle.rx_engine_blocks.specs.Renumbering.{Renumbering}
use Rattle.rx_engine_blocks.specs.Along.{PartialInverse}

-- what stands in one for statements of the other; or for the last statements and the tail of a block with this node, behind statements that
-- diverge or not. What stands there has its own nodes from the first number on, before the second
pub data Instead : Type 0 where
  for_a_run : Statements → Statements → ℕ → ℕ → Instead
  for_an_end : Node → Span → Bool → Statements → Else → Statements → Else → ℕ → ℕ → Instead

abbrev pub first_own : Instead → ℕ
first_own (for_a_run run call n m) = n
first_own (for_an_end k s d run o call o' n m) = n

abbrev pub behind_own : Instead → ℕ
behind_own (for_a_run run call n m) = m
behind_own (for_an_end k s d run o call o' n m) = m

pub data Piece : Type 0 where
  -- two nodes correspond
  paired : ℕ → ℕ → Piece
  -- the first has its own from the first number on, before the second; the other from the third on, before the fourth
  unpaired : ℕ → ℕ → ℕ → ℕ → Piece
  -- what stands there
  replaced : Instead → Piece

-- Pieces, the newest first, that were made from these numbers on, behind others, until the next nodes have these numbers.
pub data Grows (made : List Piece) (a a' : ℕ) : List Piece → ℕ → ℕ → Type 0 where
  stays : {b b' : ℕ} → a ≤ b → a' ≤ b' → Grows made a a' made b b'
  and_pair : {now : List Piece} {n n' b b' : ℕ} → Grows made a a' now n n' → n < b → n' < b' → Grows made a a' (paired n n' ∷ now) b b'
  and_own : {now : List Piece} {n m n' m' b b' : ℕ} → Grows made a a' now n n' → n ≤ m → n' ≤ m' → m ≤ b → m' ≤ b' → Grows made a a' (unpaired n m n' m' ∷ now) b b'
  and_instead : {now : List Piece} {i : Instead} {n n' b b' : ℕ} → Grows made a a' now n n' → n ≤ b → n' ≤ first_own i → first_own i ≤ behind_own i → behind_own i ≤ b' → Grows made a a' (replaced i ∷ now) b b'

pub data IsPiece (p : Piece) : List Piece → Type 0 where
  newest : {ps : List Piece} → IsPiece p (p ∷ ps)
  older : {o : Piece} {ps : List Piece} → IsPiece p ps → IsPiece p (o ∷ ps)

-- pieces that were made behind others
pub data Later (made : List Piece) : List Piece → Type 0 where
  no_later : Later made made
  one_later : {o : Piece} {ps : List Piece} → Later made ps → Later made (o ∷ ps)

-- a numbering of the first in the other, which can be undone there for what corresponds; and what stands in the other for a part
pub record Numbers : Type 0 where
  pub by : Renumbering
  pub back : PartialInverse by
  pub loops : ℕ → ℕ
  pub instead : Instead

abbrev pub Corresponds : Numbers → Piece → Type 0
Corresponds q (paired n n') = q.by.nodes n ≡ n'
Corresponds q (unpaired n m n' m') = (k : ℕ) → n' ≤ k → k < m' → q.back.node k ≡ None
Corresponds q (replaced i) = (q.instead ≡ i) × ((k : ℕ) → first_own i ≤ k → k < behind_own i → q.back.node k ≡ None)

abbrev pub AllCorrespond : Numbers → List Piece → Type 0
AllCorrespond q ps = (p : Piece) → IsPiece p ps → Corresponds q p

-- by which variables, loops and items correspond that do
pub record Follows (R : Renaming) (q : Numbers) : Type 0 where
  pub variables : (n m : ℕ) → R.variable n m ≡ true → q.by.variables n ≡ m
  pub loops : (n m : ℕ) → R.loop n m ≡ true → q.loops n ≡ m
  pub items : (n : ℕ) → q.by.items n ≡ R.item n

-- no variable corresponds to two, and no loop
pub record IsOneToOne (R : Renaming) : Type 0 where
  pub variables_on : (n m k : ℕ) → R.variable n m ≡ true → R.variable n k ≡ true → m ≡ k
  pub variables_back : (n m k : ℕ) → R.variable n k ≡ true → R.variable m k ≡ true → n ≡ m
  pub loops_on : (n m k : ℕ) → R.loop n m ≡ true → R.loop n k ≡ true → m ≡ k
  pub loops_back : (n m k : ℕ) → R.loop n k ≡ true → R.loop m k ≡ true → n ≡ m
