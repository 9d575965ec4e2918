-- What stands in place of the run: the call of the new function, and what is done with what it hands out (REM, "Extract
-- function"; Rust Reference, "Call expressions", "Match expressions").
use Rattle.std.specs.Prelude.{ℕ, zero, suc, Bool, true, false, if◌then◌else◌, List, [], ◌∷◌, ◌++◌, map, length, Option, Some, None}
use Rattle.rx_core.specs.declared.types.Span.{Span}
use Rattle.rx_tree.specs.declared.tree.Ident.{Ident}
use Rattle.rx_tree.specs.Plain as plain
use Rattle.rx_tree.specs.Plain.{PatternTree, Expression, OptionalExpression, Arms, Statement, ProgramTree}
use Rattle.rx_tree.specs.Lists.{nth}
use Rattle.rx_hoist_extraction.specs.Names.{Names, is_among, declared_by}
use Rattle.rx_hoist_extraction.specs.Run.{Parts, block_of}
use Rattle.rx_hoist_extraction.specs.Plan.{Exit, to_next, to_break, to_continue, to_return, Mode, by_shared, by_mut, Variable, Param, Leaving, Plan, has_enum, enum_name, exit_name}
use Rattle.rx_hoist_extraction.specs.Values.{Value, result_of, held_by, values_of, next_values}
use Rattle.rx_hoist_extraction.specs.Fresh.{fresh_variable}
use Rattle.rx_hoist_extraction.specs.Made.{ident, binding, as_expressions, as_patterns, joined, variant_pattern, done, assignment, let_value}
use Rattle.rx_hoist_extraction.specs.NewBody.{declared}

-- ---- the call

abbrev pub argument : Span → Mode → List ℕ → Expression
argument r by_shared x = plain.borrow r false (plain.var r x)
argument r by_mut x = plain.borrow r true (plain.var r x)
argument r _ x = plain.var r x

abbrev pub arguments : Span → List Param → List Expression
arguments r ps = map (λ (p : Param). argument r p.mode p.variable.name) ps

abbrev pub bare_call : Plan → Span → Expression
bare_call pl r = plain.call r (ident r pl.name) (as_expressions (arguments r pl.params))

-- ---- jumps: one to the innermost loop has no label, one further out that of its loop

abbrev pub made_label : Span → Option (Option Ident) → Option Ident
made_label r (Some (Some l)) = Some (ident r l.name)
made_label r _ = None

abbrev pub jump_label : Span → List (Option Ident) → ℕ → Option Ident
jump_label r labels zero = None
jump_label r labels (suc k) = made_label r (nth labels (suc k))

-- `x = out_0;` for each out
abbrev pub assigned : Span → List Variable → Names → List Statement
assigned r (v ∷ vs) (x ∷ xs) = assignment r v.name (plain.var r x) ∷ assigned r vs xs
assigned r _ _ = []

-- the jump alone, or behind the assignments
abbrev pub jump_behind : Span → List Statement → Expression → Expression
jump_behind r [] jump = jump
jump_behind r (a ∷ ss) jump = plain.block r (block_of r (record { statements = (a ∷ ss) ++ done r jump ∷ []; tail = plain.absent }))

-- ---- the arms, in the order of the exits

-- so many fresh variables, from number i on
abbrev pub fresh_from : Plan → ℕ → ℕ → Names
fresh_from pl i zero = []
fresh_from pl i (suc many) = fresh_variable pl.identifiers i ∷ fresh_from pl (suc i) many

abbrev pub value_or_unit : Span → OptionalExpression → Expression
value_or_unit r plain.absent = plain.block r (plain.body r plain.no_statement plain.absent)
value_or_unit r (plain.present e) = e

abbrev pub arm_value : Span → List (Option Ident) → Exit → List Variable → Names → Expression
arm_value r labels to_next vs xs = value_or_unit r (joined r (map (plain.var r) xs))
arm_value r labels (to_break k) vs xs = jump_behind r (assigned r vs xs) (plain.break r (jump_label r labels k))
arm_value r labels (to_continue k) vs xs = jump_behind r (assigned r vs xs) (plain.continue r (jump_label r labels k))
arm_value r labels to_return vs xs = plain.return r (joined r (map (plain.var r) xs))

abbrev pub arm_pattern : Plan → Span → Exit → Names → PatternTree
arm_pattern pl r x xs = variant_pattern r (enum_name pl) (exit_name x) (map (λ x. binding r x false) xs)

abbrev pub arms : Plan → Span → List (Option Ident) → List Leaving → Arms
arms pl r labels [] = plain.no_arm
arms pl r labels (x ∷ xs) = let outs = fresh_from pl 0 (length (values_of pl x)) in
    plain.arm_and (arm_pattern pl r x.exit outs) (arm_value r labels x.exit x.outs outs) (arms pl r labels xs)

-- the call; with an enum the match on it
abbrev pub whole_call : Plan → Span → List (Option Ident) → Expression
whole_call pl r labels = if has_enum pl.exits then plain.match r (bare_call pl r) (arms pl r labels pl.exits) else bare_call pl r

-- ---- what is handed out. `own` are the names that direct statements of the run declare; a variable that one of them declares is
-- declared by the call, another is assigned

abbrev pub is_own : Names → Variable → Bool
is_own own v = is_among v.name own

-- one value
abbrev pub one_handed : Span → Names → Expression → Value → Parts
one_handed r own c (result_of t) = record { statements = []; tail = plain.present c }
one_handed r own c (held_by v) = record {
  statements = (if is_own own v then let_value r (binding r v.name v.mutable) c else assignment r v.name c) ∷ [];
  tail = plain.absent;
}

-- several values: what is bound to value i, and what is done behind
abbrev pub received : Plan → Span → Names → ℕ → Value → PatternTree
received pl r own i (result_of t) = binding r (fresh_variable pl.identifiers i) false
received pl r own i (held_by v) = if is_own own v then binding r v.name v.mutable else binding r (fresh_variable pl.identifiers i) false

abbrev pub all_received : Plan → Span → Names → ℕ → List Value → List PatternTree
all_received pl r own i [] = []
all_received pl r own i (h ∷ hs) = received pl r own i h ∷ all_received pl r own (suc i) hs

abbrev pub put_back : Plan → Span → Names → ℕ → Value → List Statement
put_back pl r own i (result_of t) = []
put_back pl r own i (held_by v) = if is_own own v then [] else assignment r v.name (plain.var r (fresh_variable pl.identifiers i)) ∷ []

abbrev pub all_put_back : Plan → Span → Names → ℕ → List Value → List Statement
all_put_back pl r own i [] = []
all_put_back pl r own i (h ∷ hs) = put_back pl r own i h ++ all_put_back pl r own (suc i) hs

-- the run's value is the first of them
abbrev pub first_as_tail : Plan → Span → List Value → OptionalExpression
first_as_tail pl r (result_of t ∷ hs) = plain.present (plain.var r (fresh_variable pl.identifiers 0))
first_as_tail pl r _ = plain.absent

abbrev pub more_handed : Plan → Span → Names → Expression → List Value → Parts
more_handed pl r own c hs = record {
  statements = let_value r (plain.tuple_pattern r (as_patterns (all_received pl r own 0 hs))) c ∷ all_put_back pl r own 0 hs;
  tail = first_as_tail pl r hs;
}

abbrev pub handed : Plan → Span → Names → Expression → List Value → Parts
handed pl r own c [] = record { statements = done r c ∷ []; tail = plain.absent }
handed pl r own c (h ∷ []) = one_handed r own c h
handed pl r own c (h ∷ i ∷ hs) = more_handed pl r own c (h ∷ i ∷ hs)

-- ---- the whole: then the redeclared variables

abbrev pub in_front_of_tail : Parts → List Statement → Parts
in_front_of_tail p ss = record { statements = p.statements ++ ss; tail = p.tail }

-- `labels` are those of the loops round the run
abbrev pub replacement : ProgramTree → Plan → Span → List (Option Ident) → Parts → Parts
replacement P pl r labels p = in_front_of_tail
    (handed pl r (declared_by p.statements) (whole_call pl r labels) (next_values pl))
    (declared P r pl.redeclared)
