-- Numberings by what was made side by side (Rust Reference, "Expressions", "Scopes", "Loop labels"): the pairs among pieces of nodes; the renaming
-- in which what was made corresponds and nothing else; a numbering in which all of this corresponds.
use Rattle.std.specs.Prelude.{◌≡◌, ℕ, Bool, true, false, ◌==◌, ◌&&◌, ◌||◌, List, [], ◌∷◌, Some}
use Rattle.rx_resolve_names.specs.Meant.{number}
use Rattle.rx_engine_names.specs.Apart.{Few}
use Rattle.rx_engine_names.specs.Renaming.{Made, Pairs, Renaming}
use Rattle.rx_engine_typing.specs.Corresponding.{StayApart}
use Rattle.rx_engine_changed.specs.Beside.{Piece, paired, unpaired, replaced, Instead, IsPiece, Numbers, AllCorrespond, Follows}

abbrev pub node_pairs : List Piece → Pairs
node_pairs [] = []
node_pairs (paired n n' ∷ ps) = (n, n') ∷ node_pairs ps
node_pairs (unpaired n m n' m' ∷ ps) = node_pairs ps
node_pairs (replaced i ∷ ps) = node_pairs ps

-- as it is declared, and as it is named
abbrev pub has_pair : Pairs → ℕ → ℕ → Bool
has_pair [] n m = false
has_pair (p ∷ ps) n m = ((n == p.0) && (m == p.1)) || (((n == number p.0) && (m == number p.1)) || has_pair ps n m)

abbrev pub least : (ℕ → ℕ) → Made → Renaming
least items M = record { variable = has_pair M.variables; loop = has_pair M.loops; item = items }

-- nothing else stands for a part
abbrev pub OneInstead : Instead → List Piece → Type 0
OneInstead i ps = (j : Instead) → IsPiece (replaced j) ps → i ≡ j

pub record Chosen (R : Renaming) (pieces : List Piece) : Type 0 where
  pub numbers : Numbers
  pub follows : Follows R numbers
  pub correspond : AllCorrespond numbers pieces
  pub variables_apart : StayApart numbers.by.variables
  pub loops_apart : StayApart numbers.loops
  -- a variable that comes back from a number of the second corresponds
  pub comes_back : (x y : ℕ) → numbers.back.variable y ≡ Some x → Few y → R.variable x y ≡ true
