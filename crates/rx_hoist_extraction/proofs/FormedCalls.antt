-- What stands in place of the run is formed: the call, its arms, and what is done with what is handed out. Each of its statements has
-- its `;`.
use Rattle.std.proofs.Common.{◌≡◌, ℕ, zero, suc, ◌+◌, ◌≤◌, ◌^◌, Bool, true, false, List, [], ◌∷◌, ◌++◌, length, map, Option, Some, None, refl, arith}
use Rattle.std.specs.Prelude.{if◌then◌else◌}
use Rattle.rx_core.specs.declared.types.Span.{Span}
use Rattle.rx_tree.specs.declared.tree.Ident.{Ident}
use Rattle.rx_tree.specs.Lists.{Every, nth}
use Rattle.rx_tree.specs.Plain as plain
use Rattle.rx_tree.specs.Plain.{PatternTree, Expression, OptionalExpression, Arms, Body, Statement, ProgramTree}
use Rattle.rx_typed.specs.Types.{Typ}
use Rattle.rx_tree.proofs.NodesLaws.{every_both}
use Rattle.rx_print_spelling.specs.Formed.{Spells, MaybeLasting, SomeArm, FormedPattern, FormedPatterns, Formed, FormedOptional, FormedArms}
use Rattle.rx_hoist_extraction.specs.Names.{Names, declared_by}
use Rattle.rx_hoist_extraction.specs.Run.{Parts}
use Rattle.rx_hoist_extraction.specs.Plan.{Exit, to_next, to_break, to_continue, to_return, Mode, by_value, by_reborrow, by_view, by_shared, by_mut, Variable, Param, Leaving, Plan, has_enum, has_exit, outs_of}
use Rattle.rx_hoist_extraction.specs.Values.{Value, result_of, held_by, variables_held, result_if_any, values_at, values_of, next_values}
use Rattle.rx_hoist_extraction.specs.Fresh.{fresh_variable}
use Rattle.rx_hoist_extraction.specs.Made.{binding, as_patterns, joined, done, assignment, let_value}
use Rattle.rx_hoist_extraction.specs.NewBody.{declared}
use Rattle.rx_hoist_extraction.specs.Call.{argument, arguments, bare_call, made_label, jump_label, assigned, jump_behind, fresh_from, value_or_unit, arm_value, arms, whole_call, is_own, one_handed, received, all_received, put_back, all_put_back, first_as_tail, handed, replacement}
use Rattle.rx_hoist_extraction.specs.FormedPlan.{VariableSpells, FormedPlan}
use Rattle.rx_hoist_extraction.proofs.MadeNames.{exit_is_identifier, exit_name_spells, variable_is_identifier}
use Rattle.rx_hoist_extraction.proofs.FormedSignatures.{outs_spell}
use Rattle.rx_hoist_extraction.proofs.FormedBodies.{listed_formed, joined_formed, Closed, closed_formed, declared_closed, Follows}

-- ---- the call

argument_formed : (s : Span) (m : Mode) (x : List ℕ) → Spells x → Formed (argument s m x)
argument_formed s by_value x h = h
argument_formed s by_reborrow x h = h
argument_formed s by_view x h = h
argument_formed s by_shared x h = h
argument_formed s by_mut x h = h

arguments_formed : (P : ProgramTree) (s : Span) (ps : List Param) → Every (λ (x : Param). VariableSpells P x.variable) ps → Every Formed (arguments s ps)
arguments_formed P s [] h = tt
arguments_formed P s (p ∷ ps) h = (argument_formed s p.mode p.variable.name h.0.0, arguments_formed P s ps h.1)

call_formed : (P : ProgramTree) (pl : Plan) → FormedPlan P pl → (s : Span) → Formed (bare_call pl s)
call_formed P pl F s = (F.name, listed_formed (arguments s pl.params) (arguments_formed P s pl.params F.params))

-- ---- jumps

label_at : (s : Span) (labels : List (Option Ident)) (n : ℕ) → Every MaybeLasting labels → MaybeLasting (made_label s (nth labels n))
label_at s [] n h = tt
label_at s (None ∷ labels) zero h = tt
label_at s (Some l ∷ labels) zero h = h.0
label_at s (l ∷ labels) (suc n) h = label_at s labels n h.1

jump_lasting : (s : Span) (labels : List (Option Ident)) (k : ℕ) → Every MaybeLasting labels → MaybeLasting (jump_label s labels k)
jump_lasting s labels zero h = tt
jump_lasting s labels (suc k) h = label_at s labels (suc k) h

assigned_closed : (P : ProgramTree) (s : Span) (vs : List Variable) (xs : Names) → Every (VariableSpells P) vs → Every Spells xs → Every Closed (assigned s vs xs)
assigned_closed P s [] xs h g = tt
assigned_closed P s (v ∷ vs) [] h g = tt
assigned_closed P s (v ∷ vs) (x ∷ xs) h g = (((tt, (h.0.0, g.0)), refl), assigned_closed P s vs xs h.1 g.1)

jump_formed : (s : Span) (ss : List Statement) (jump : Expression) → Every Closed ss → Formed jump → Formed (jump_behind s ss jump)
jump_formed s [] jump h g = g
jump_formed s (a ∷ ss) jump h g = (closed_formed (a ∷ ss) (done s jump ∷ []) plain.absent h ((tt, g), tt, tt), tt)

-- ---- arms

fresh_spell : (pl : Plan) (i many : ℕ) → length pl.identifiers + (i + many) ≤ 2 ^ 64 → Every Spells (fresh_from pl i many)
fresh_spell pl i zero b = tt
fresh_spell pl i (suc many) b = (variable_is_identifier pl.identifiers i (omega arith), fresh_spell pl (suc i) many (omega arith))

variables_formed : (s : Span) (xs : Names) → Every Spells xs → Every Formed (map (plain.var s) xs)
variables_formed s [] h = tt
variables_formed s (x ∷ xs) h = (h.0, variables_formed s xs h.1)

bindings_formed : (s : Span) (xs : Names) → Every Spells xs → FormedPatterns (as_patterns (map (λ x. binding s x false) xs))
bindings_formed s [] h = tt
bindings_formed s (x ∷ xs) h = (h.0, bindings_formed s xs h.1)

value_formed : (s : Span) (o : OptionalExpression) → FormedOptional o → Formed (value_or_unit s o)
value_formed s plain.absent h = (tt, tt)
value_formed s (plain.present e) h = h

arm_formed : (P : ProgramTree) (s : Span) (labels : List (Option Ident)) → Every MaybeLasting labels → (x : Exit) (vs : List Variable) (xs : Names) → Every (VariableSpells P) vs
    → Every Spells xs → Formed (arm_value s labels x vs xs)
arm_formed P s labels l to_next vs xs h g = value_formed s (joined s (map (plain.var s) xs)) (joined_formed s (map (plain.var s) xs) (variables_formed s xs g))
arm_formed P s labels l (to_break k) vs xs h g = jump_formed s (assigned s vs xs) (plain.break s (jump_label s labels k)) (assigned_closed P s vs xs h g) (jump_lasting s labels k l)
arm_formed P s labels l (to_continue k) vs xs h g = jump_formed s (assigned s vs xs) (plain.continue s (jump_label s labels k)) (assigned_closed P s vs xs h g) (jump_lasting s labels k l)
arm_formed P s labels l to_return vs xs h g = joined_formed s (map (plain.var s) xs) (variables_formed s xs g)

arms_formed : (P : ProgramTree) (pl : Plan) → FormedPlan P pl → (s : Span) (labels : List (Option Ident)) → Every MaybeLasting labels → (xs : List Leaving)
    → Every (λ (x : Leaving). Every (VariableSpells P) x.outs) xs → Every (λ (x : Leaving). length pl.identifiers + length (values_of pl x) ≤ 2 ^ 64) xs
    → FormedArms (arms pl s labels xs)
arms_formed P pl F s labels l [] h b = tt
arms_formed P pl F s labels l (x ∷ xs) h b = let outs = fresh_from pl 0 (length (values_of pl x)) in
    let few = b.0 in
    let spell = fresh_spell pl 0 (length (values_of pl x)) (omega (arith, few)) in
    ((exit_is_identifier pl F.name, exit_name_spells x.exit, bindings_formed s outs spell), arm_formed P s labels l x.exit x.outs outs h.0 spell, arms_formed P pl F s labels l xs h.1 b.1)

some_arm : (pl : Plan) (s : Span) (labels : List (Option Ident)) (xs : List Leaving) → has_enum xs ≡ true → SomeArm (arms pl s labels xs)
some_arm pl s labels [] e = absurd cc
some_arm pl s labels (x ∷ xs) e = tt

whole_formed : (P : ProgramTree) (pl : Plan) → FormedPlan P pl → (s : Span) (labels : List (Option Ident)) → Every MaybeLasting labels → Formed (whole_call pl s labels)
whole_formed P pl F s labels l = by (has_enum pl.exits) refl
  where
    by : (b : Bool) → has_enum pl.exits ≡ b → Formed (if b then plain.match s (bare_call pl s) (arms pl s labels pl.exits) else bare_call pl s)
    by true e = (call_formed P pl F s, some_arm pl s labels pl.exits e, arms_formed P pl F s labels l pl.exits F.exits F.fresh_variables)
    by false e = call_formed P pl F s

-- ---- what is handed out

-- the variables among the values
abbrev ValueSpells : ProgramTree → Value → Type 0
ValueSpells P (result_of t) = Unit {0}
ValueSpells P (held_by v) = VariableSpells P v

held_values : (P : ProgramTree) (vs : List Variable) → Every (VariableSpells P) vs → Every (ValueSpells P) (variables_held vs)
held_values P [] h = tt
held_values P (v ∷ vs) h = (h.0, held_values P vs h.1)

values_at_next : (P : ProgramTree) (pl : Plan) → FormedPlan P pl → Every (ValueSpells P) (next_values pl)
values_at_next P pl F = by (has_exit to_next pl.exits)
  where
    outs : Every (ValueSpells P) (variables_held (outs_of to_next pl.exits))
    outs = held_values P (outs_of to_next pl.exits) (outs_spell P to_next pl.exits F.exits)

    both : (t : Option Typ) → Every (ValueSpells P) (values_at (record pl { value = t }) to_next (outs_of to_next pl.exits))
    both None = outs
    both (Some t) = (tt, outs)

    by : (b : Bool) → Every (ValueSpells P) (if b then values_at pl to_next (outs_of to_next pl.exits) else [])
    by true = both pl.value
    by false = tt

abbrev Handed : Parts → Type 0
Handed p = Every Closed p.statements × FormedOptional p.tail × Follows p.statements p.tail

one_formed : (P : ProgramTree) (s : Span) (own : Names) (c : Expression) (v : Value) → Formed c → ValueSpells P v → Handed (one_handed s own c v)
one_formed P s own c (result_of t) f h = (tt, f, tt)
one_formed P s own c (held_by v) f h = by (is_own own v)
  where
    by : (b : Bool) → Handed (record { statements = (if b then let_value s (binding s v.name v.mutable) c else assignment s v.name c) ∷ []; tail = plain.absent })
    by true = ((((tt, h.0, tt, f), refl), tt), tt, tt)
    by false = ((((tt, (h.0, f)), refl), tt), tt, tt)

received_formed : (P : ProgramTree) (pl : Plan) (s : Span) (own : Names) (i : ℕ) (v : Value) → length pl.identifiers + suc i ≤ 2 ^ 64 → ValueSpells P v
    → FormedPattern (received pl s own i v)
received_formed P pl s own i (result_of t) b h = variable_is_identifier pl.identifiers i b
received_formed P pl s own i (held_by v) b h = by (is_own own v)
  where
    by : (c : Bool) → FormedPattern (if c then binding s v.name v.mutable else binding s (fresh_variable pl.identifiers i) false)
    by true = h.0
    by false = variable_is_identifier pl.identifiers i b

all_received_formed : (P : ProgramTree) (pl : Plan) (s : Span) (own : Names) (i : ℕ) (vs : List Value) → length pl.identifiers + (i + length vs) ≤ 2 ^ 64 → Every (ValueSpells P) vs
    → FormedPatterns (as_patterns (all_received pl s own i vs))
all_received_formed P pl s own i [] b h = tt
all_received_formed P pl s own i (v ∷ vs) b h = (received_formed P pl s own i v (omega arith) h.0, all_received_formed P pl s own (suc i) vs (omega arith) h.1)

put_back_closed : (P : ProgramTree) (pl : Plan) (s : Span) (own : Names) (i : ℕ) (v : Value) → length pl.identifiers + suc i ≤ 2 ^ 64 → ValueSpells P v
    → Every Closed (put_back pl s own i v)
put_back_closed P pl s own i (result_of t) b h = tt
put_back_closed P pl s own i (held_by v) b h = by (is_own own v)
  where
    by : (c : Bool) → Every Closed (if c then [] else assignment s v.name (plain.var s (fresh_variable pl.identifiers i)) ∷ [])
    by true = tt
    by false = (((tt, (h.0, variable_is_identifier pl.identifiers i b)), refl), tt)

all_put_back_closed : (P : ProgramTree) (pl : Plan) (s : Span) (own : Names) (i : ℕ) (vs : List Value) → length pl.identifiers + (i + length vs) ≤ 2 ^ 64 → Every (ValueSpells P) vs
    → Every Closed (all_put_back pl s own i vs)
all_put_back_closed P pl s own i [] b h = tt
all_put_back_closed P pl s own i (v ∷ vs) b h = every_both Closed (put_back pl s own i v) (all_put_back pl s own (suc i) vs)
    (put_back_closed P pl s own i v (omega arith) h.0) (all_put_back_closed P pl s own (suc i) vs (omega arith) h.1)

first_formed : (pl : Plan) (s : Span) (vs : List Value) → length pl.identifiers + 1 ≤ 2 ^ 64 → FormedOptional (first_as_tail pl s vs)
first_formed pl s [] b = tt
first_formed pl s (result_of t ∷ vs) b = variable_is_identifier pl.identifiers 0 b
first_formed pl s (held_by v ∷ vs) b = tt

handed_formed : (P : ProgramTree) (pl : Plan) → FormedPlan P pl → (s : Span) (own : Names) (c : Expression) → Formed c → (vs : List Value)
    → length pl.identifiers + length vs ≤ 2 ^ 64 → Every (ValueSpells P) vs → Handed (handed pl s own c vs)
handed_formed P pl F s own c f [] b h = ((((tt, f), refl), tt), tt, tt)
handed_formed P pl F s own c f (v ∷ []) b h = one_formed P s own c v f h.0
handed_formed P pl F s own c f (v ∷ w ∷ vs) b h = (
  (((tt, all_received_formed P pl s own 0 (v ∷ w ∷ vs) (omega arith) h, tt, f), refl), all_put_back_closed P pl s own 0 (v ∷ w ∷ vs) (omega arith) h),
  first_formed pl s (v ∷ w ∷ vs) F.fresh_variable,
  tt,
)

-- ---- with the redeclared variables

pub still_follows : (xs ys : List Statement) (y : OptionalExpression) → Follows xs y → Follows (xs ++ ys) y
still_follows [] [] y h = h
still_follows [] (b ∷ ys) y h = tt
still_follows (a ∷ xs) ys y h = tt

pub replacement_formed : (P : ProgramTree) (pl : Plan) → FormedPlan P pl → (s : Span) (labels : List (Option Ident)) → Every MaybeLasting labels → (p : Parts)
    → Every Closed (replacement P pl s labels p).statements × FormedOptional (replacement P pl s labels p).tail
    × Follows (replacement P pl s labels p).statements (replacement P pl s labels p).tail
replacement_formed P pl F s labels l p = let c = whole_call pl s labels in
    let own = declared_by p.statements in
    let h = handed_formed P pl F s own c (whole_formed P pl F s labels l) (next_values pl) F.fresh_handed (values_at_next P pl F) in
    let parts = handed pl s own c (next_values pl) in (
      every_both Closed parts.statements (declared P s pl.redeclared) h.0 (declared_closed P s pl.redeclared F.redeclared),
      h.1,
      still_follows parts.statements (declared P s pl.redeclared) parts.tail h.2,
    )

-- without a value of the run there is a statement

some_statement : (pl : Plan) (s : Span) (own : Names) (c : Expression) (vs : List Variable) → Follows (handed pl s own c (variables_held vs)).statements plain.absent
some_statement pl s own c [] = tt
some_statement pl s own c (v ∷ []) = tt
some_statement pl s own c (v ∷ w ∷ vs) = tt

pub call_is_statement : (P : ProgramTree) (pl : Plan) (s : Span) (labels : List (Option Ident)) (p : Parts) → pl.value ≡ None → Follows (replacement P pl s labels p).statements plain.absent
call_is_statement P pl s labels p e = still_follows (handed pl s (declared_by p.statements) (whole_call pl s labels) (next_values pl)).statements (declared P s pl.redeclared) plain.absent
    (by (has_exit to_next pl.exits) pl.value e)
  where
    by : (b : Bool) (t : Option Typ) → t ≡ None
        → Follows (handed pl s (declared_by p.statements) (whole_call pl s labels) (if b then result_if_any t ++ variables_held (outs_of to_next pl.exits) else [])).statements plain.absent
    by true None q = some_statement pl s (declared_by p.statements) (whole_call pl s labels) (outs_of to_next pl.exits)
    by true (Some t) q = absurd cc
    by false t q = tt
