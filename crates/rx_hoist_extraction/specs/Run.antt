-- A run, the statements that become a function of their own, by numbers, and what stands round it (REM, "Extract function";
-- Rust Reference, "Block expressions", "Loop labels"). A block's parts are its statements and then its tail; a run is some of
-- them that stand side by side.
use Rattle.std.specs.Prelude.{ℕ, suc, ◌+◌, ◌-◌, nat_le, Bool, true, false, ◌==◌, ◌&&◌, List, [], ◌∷◌, ◌++◌, length, take, drop, Option, Some, None, slice_get}
use Rattle.rx_core.specs.declared.types.Span.{Span}
use Rattle.rx_tree.specs.declared.tree.Ident.{Ident}
use Rattle.rx_tree.specs.Plain as plain
use Rattle.rx_tree.specs.Plain.{OptionalExpression, Body, Statement, Statements, Function}
use Rattle.rx_tree.specs.Erase.{nowhere}
use Rattle.rx_tree.specs.Lists.{listed, statements, tail}
use Rattle.rx_tree.specs.Positions.{NodeTree, a_block, an_expression, children, descend}
use Rattle.rx_resolve_names.specs.Meant.{Around, a_loop}

pub record Run : Type 0 where
  -- the number of its function's item
  pub item : ℕ
  -- the way to its block: numbers of children, from the function's body on
  pub way : List ℕ
  -- the numbers of its first and last part, counted from 0
  pub first : ℕ
  pub last : ℕ
  -- from its first token to its last
  pub span : Span

-- ---- some statements and maybe a tail

pub record Parts : Type 0 where
  pub statements : List Statement
  pub tail : OptionalExpression

abbrev pub as_statements : List Statement → Statements
as_statements [] = plain.no_statement
as_statements (a ∷ ss) = plain.statement_and a (as_statements ss)

abbrev pub block_of : Span → Parts → Body
block_of s p = plain.body s (as_statements p.statements) p.tail

abbrev pub in_front : {A : Type 0} → Run → List A → List A
in_front r l = take r.first l

abbrev pub chosen : {A : Type 0} → Run → List A → List A
chosen r l = take (r.last + 1 - r.first) (drop r.first l)

abbrev pub behind : {A : Type 0} → Run → List A → List A
behind r l = drop (r.last + 1) l

-- whether the run goes on past a block's statements
abbrev pub goes_past : Run → List Statement → Bool
goes_past r ss = nat_le (length ss) r.last

abbrev pub tail_if : Bool → OptionalExpression → OptionalExpression
tail_if false o = plain.absent
tail_if true o = o

-- ---- the run in its function

-- nothing is selected where the way leads to no block
abbrev pub as_block : Option NodeTree → Body
as_block (Some (a_block b)) = b
as_block _ = plain.body nowhere plain.no_statement plain.absent

abbrev pub run_block : Run → Function → Body
run_block r f = as_block (descend (Some (a_block f.body)) r.way)

abbrev pub chosen_parts : Run → Body → Parts
chosen_parts r b = record { statements = chosen r (statements b); tail = tail_if (goes_past r (statements b)) (tail b) }

abbrev pub run_parts : Run → Function → Parts
run_parts r f = chosen_parts r (run_block r f)

-- other parts in place of the run
abbrev pub rest_tail : Bool → OptionalExpression → OptionalExpression → OptionalExpression
rest_tail false old new = old
rest_tail true old new = new

abbrev pub with_parts : Run → Parts → Body → Body
with_parts r p (plain.body s ss o) = block_of s (record {
  statements = in_front r (listed ss) ++ (p.statements ++ behind r (listed ss));
  tail = rest_tail (goes_past r (listed ss)) o p.tail;
})

-- a block is known by its place in the text
abbrev pub same_place : Span → Span → Bool
same_place s t = (s.start == t.start) && (s.end == t.end)

-- ---- the loops round a run, the innermost first

abbrev pub label_of : NodeTree → List (Option Ident)
label_of (an_expression (plain.loop s l b)) = l ∷ []
label_of (an_expression (plain.while s l c b)) = l ∷ []
label_of (an_expression (plain.while_let s l p e b)) = l ∷ []
label_of _ = []

-- the labels of those on a way from a node, and of those round the node
abbrev pub labels_on : Option NodeTree → List ℕ → List (Option Ident) → List (Option Ident)
labels_on None ks ls = ls
labels_on (Some n) [] ls = ls
labels_on (Some n) (k ∷ ks) ls = labels_on (slice_get (children n) k) ks (label_of n ++ ls)

abbrev pub labels_round : Run → Function → List (Option Ident)
labels_round r f = labels_on (Some (a_block f.body)) r.way []

-- loops with numbers from one on
abbrev pub numbered : ℕ → List (Option Ident) → List Around
numbered k [] = []
numbered k (l ∷ ls) = a_loop l k ∷ numbered (suc k) ls

-- what stands round a run: loop k, 0 the innermost, has the number k + 1, so that the run's own loops may have the number 0
abbrev pub loops_round : Run → Function → List Around
loops_round r f = numbered 1 (labels_round r f)
