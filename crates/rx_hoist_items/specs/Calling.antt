-- What is done with what the call hands out, by the names of a row (REM, "Extract function").
use Rattle.std.specs.Prelude.{ℕ, suc, if◌then◌else◌, true, false, List, [], ◌∷◌, ◌++◌, length, map, Option}
use Rattle.rx_core.specs.declared.types.Span.{Span}
use Rattle.rx_tree.specs.declared.tree.Ident.{Ident}
use Rattle.rx_tree.specs.Plain as plain
use Rattle.rx_tree.specs.Plain.{PatternTree, Expression, OptionalExpression, Statement}
use Rattle.rx_hoist_extraction.specs.Names.{Names}
use Rattle.rx_hoist_extraction.specs.Run.{Parts, block_of}
use Rattle.rx_hoist_extraction.specs.Plan.{Leaving, Plan, Variable}
use Rattle.rx_hoist_extraction.specs.Values.{Value, result_of, held_by, values_of}
use Rattle.rx_hoist_extraction.specs.Made.{as_patterns, assignment, binding, done, let_value}
use Rattle.rx_hoist_extraction.specs.Call.{arm_pattern, arm_value, fresh_from, is_own}
use Rattle.rx_hoist_made.specs.Rows.{nth_name}

abbrev pub block_of_statements : Span → List Statement → Expression
block_of_statements s ss = plain.block s (block_of s (record { statements = ss; tail = plain.absent }))

abbrev pub named_arm : Plan → Span → List (Option Ident) → Leaving → Names → PatternTree × Expression
named_arm pl s labels x names = (arm_pattern pl s x.exit names, arm_value s labels x.exit x.outs names)

abbrev pub arm : Plan → Span → List (Option Ident) → Leaving → PatternTree × Expression
arm pl s labels x = named_arm pl s labels x (fresh_from pl 0 (length (values_of pl x)))

-- ---- several values, the value of number i under the name of number i

abbrev pub received : Span → Names → (ℕ → List ℕ) → ℕ → Value → PatternTree
received s own r i (result_of t) = binding s (r i) false
received s own r i (held_by v) = if is_own own v then binding s v.name v.mutable else binding s (r i) false

abbrev pub all_received : Span → Names → (ℕ → List ℕ) → ℕ → List Value → List PatternTree
all_received s own r i [] = []
all_received s own r i (h ∷ hs) = received s own r i h ∷ all_received s own r (suc i) hs

abbrev pub put_back : Span → Names → (ℕ → List ℕ) → ℕ → Value → List Statement
put_back s own r i (result_of t) = []
put_back s own r i (held_by v) = if is_own own v then [] else assignment s v.name (plain.var s (r i)) ∷ []

abbrev pub all_put_back : Span → Names → (ℕ → List ℕ) → ℕ → List Value → List Statement
all_put_back s own r i [] = []
all_put_back s own r i (h ∷ hs) = put_back s own r i h ++ all_put_back s own r (suc i) hs

abbrev pub first_as_tail : Span → (ℕ → List ℕ) → List Value → OptionalExpression
first_as_tail s r (result_of t ∷ hs) = plain.present (plain.var s (r 0))
first_as_tail s r _ = plain.absent

abbrev pub more_handed : Span → Names → Names → Expression → List Value → Parts
more_handed s own names c hs = record {
  statements = let_value s (plain.tuple_pattern s (as_patterns (all_received s own (nth_name names) 0 hs))) c
      ∷ all_put_back s own (nth_name names) 0 hs;
  tail = first_as_tail s (nth_name names) hs;
}

-- ---- at most one value

abbrev pub held_value : Variable → Value
held_value v = held_by v

abbrev pub one_received : Span → Names → Expression → Variable → Statement
one_received s own c v = if is_own own v then let_value s (binding s v.name v.mutable) c else assignment s v.name c

abbrev pub few_handed : Span → Names → Expression → List Value → Parts
few_handed s own c (result_of t ∷ hs) = record { statements = []; tail = plain.present c }
few_handed s own c (held_by v ∷ hs) = record { statements = one_received s own c v ∷ []; tail = plain.absent }
few_handed s own c [] = record { statements = done s c ∷ []; tail = plain.absent }
