-- The variables that a run names and declares, in the order of the text; a declaration is an occurrence too. They are read off the
-- tree: `let _ = x;` names x, though it does nothing. (Rust Reference, "Scopes"; "Path expressions".)
use Rattle.std.specs.Prelude.{ℕ, ◌==◌, Bool, false, not, ◌||◌, if◌then◌else◌, List, [], ◌∷◌, ◌++◌, map, Option, Some, None}
use Rattle.rx_typed.specs.Tree.{Root, variable, temporary, Place, Exp, read, borrow, share, build, unit, lazily, assign, update, call, input, print, block, choose, loop, jump, give, Operands, no_operand, operand_and, Scrutinee, at_place, of_value, Arms, no_arm, arm_and, Body, ends, runs, declares, lets}
use Rattle.rx_exits_plan.specs.Blocks.{Statement, does, begins, binds, bound, declared_by_all, tail}
use Rattle.rx_exits_plan.specs.Runs.{Run, inside, behind, last_value}

pub data Occurrence : Type 0 where
  names : ℕ → Occurrence
  declared : ℕ → Occurrence

abbrev pub named_root : Root → List Occurrence
named_root (variable x) = names x ∷ []
named_root (temporary t) = []

abbrev pub named_place : Place → List Occurrence
named_place p = named_root p.root

abbrev pub all_declared : List ℕ → List Occurrence
all_declared xs = map declared xs

-- the place of `=` stands in front of its right side, the pattern of a `let` in front of what it is matched with
abbrev mutual
  pub occurrences : Exp → List Occurrence
  occurrences (read m v p) = named_place p
  occurrences (borrow m k p) = named_place p
  occurrences (share m e) = occurrences e
  occurrences (build m w es) = occurrences_in es
  occurrences (unit m) = []
  occurrences (lazily m b e f) = occurrences e ++ occurrences f
  occurrences (assign m p e) = named_place p ++ occurrences e
  occurrences (update m o p e) = named_place p ++ occurrences e
  occurrences (call m f es) = occurrences_in es
  occurrences (input m) = []
  occurrences (print m e) = occurrences e
  occurrences (block m b) = occurrences_of b
  occurrences (choose m s l) = occurrences_matched s ++ occurrences_armed l
  occurrences (loop m l e) = occurrences e
  occurrences (jump m l k) = []
  occurrences (give m e) = occurrences e

  pub occurrences_in : Operands → List Occurrence
  occurrences_in no_operand = []
  occurrences_in (operand_and i e es) = occurrences e ++ occurrences_in es

  pub occurrences_matched : Scrutinee → List Occurrence
  occurrences_matched (at_place m p) = named_place p
  occurrences_matched (of_value e) = occurrences e

  pub occurrences_armed : Arms → List Occurrence
  occurrences_armed no_arm = []
  occurrences_armed (arm_and p e l) = all_declared (bound p) ++ (occurrences e ++ occurrences_armed l)

  pub occurrences_of : Body → List Occurrence
  occurrences_of (ends e) = occurrences e
  occurrences_of (runs e b) = occurrences e ++ occurrences_of b
  occurrences_of (declares s xs b) = all_declared xs ++ occurrences_of b
  occurrences_of (lets s p c b) = all_declared (bound p) ++ (occurrences_matched c ++ occurrences_of b)

abbrev pub in_statement : Statement → List Occurrence
in_statement (does e) = occurrences e
in_statement (begins s xs) = all_declared xs
in_statement (binds s p c) = all_declared (bound p) ++ occurrences_matched c

abbrev pub in_statements : List Statement → List Occurrence
in_statements [] = []
in_statements (s ∷ ss) = in_statement s ++ in_statements ss

abbrev pub in_value : Option Exp → List Occurrence
in_value None = []
in_value (Some e) = occurrences e

-- ---- of a run

abbrev pub in_run : Run → Body → List Occurrence
in_run r b = in_statements (inside r b) ++ in_value (last_value r b)

abbrev pub the_variable : Occurrence → ℕ
the_variable (names x) = x
the_variable (declared x) = x

abbrev pub variables_among : List Occurrence → List ℕ
variables_among os = map the_variable os

abbrev pub declared_among : List Occurrence → List ℕ
declared_among [] = []
declared_among (names x ∷ os) = declared_among os
declared_among (declared x ∷ os) = x ∷ declared_among os

abbrev pub has_number : ℕ → List ℕ → Bool
has_number x [] = false
has_number x (y ∷ ys) = (x == y) || has_number x ys

-- each once, where it comes first
abbrev pub drops : ℕ → List ℕ → List ℕ
drops x [] = []
drops x (y ∷ ys) = if y == x then drops x ys else y ∷ drops x ys

abbrev pub firsts : List ℕ → List ℕ
firsts [] = []
firsts (x ∷ xs) = x ∷ drops x (firsts xs)

-- the variables of a run, in the order of their first occurrence
abbrev pub variables_of_run : Run → Body → List ℕ
variables_of_run r b = firsts (variables_among (in_run r b))

abbrev pub is_declared_in_run : Run → Body → ℕ → Bool
is_declared_in_run r b x = has_number x (declared_among (in_run r b))

abbrev pub those : (ℕ → Bool) → List ℕ → List ℕ
those f [] = []
those f (x ∷ xs) = if f x then x ∷ those f xs else those f xs

-- those that are declared outside
abbrev pub foreign : Run → Body → List ℕ
foreign r b = those (λ x. not (is_declared_in_run r b x)) (variables_of_run r b)

-- those that a direct statement of the run declares
abbrev pub is_direct : Run → Body → ℕ → Bool
is_direct r b x = has_number x (declared_by_all (inside r b))

-- those that are named behind the run, where the block has no tail of the run
abbrev pub is_named_behind : Run → Body → ℕ → Bool
is_named_behind r b x = has_number x (variables_among (in_statements (behind r b) ++ (if r.tail then [] else occurrences (tail b))))
