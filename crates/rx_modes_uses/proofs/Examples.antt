-- Uses and modes of variables of small runs: computed, against what was written by hand; and two mistakes that they show. (A run stands in
-- brackets; its plan is the one that is computed for it.)
use Rattle.std.proofs.Common.{◌≡◌, refl, sym, ap, inl, ℕ, ◌==◌, Bool, true, false, ◌||◌, true≢false, if◌then◌else◌, List, [], ◌∷◌, Option, Some, None}
use Rattle.rx_core.specs.declared.types.Step.TheVariants as step
use Rattle.rx_tree.specs.declared.tree.BinaryOp.{BinaryOp}
use Rattle.rx_typed.specs.Types.{Typ, tuple_of, no_shape, shape_and, reference, named, unit_shape}
use Rattle.rx_typed.specs.Tree.{variable, Place, any, bind, exactly, parts, behind, part_and, no_part, by_value, by_reference, truth, operation, struct, Exp, read, borrow, build, assign, input, block, choose, loop, give, no_operand, operand_and, of_value, at_place, no_arm, arm_and, Body, ends, runs, lets, Function, own, under}
use Rattle.rx_lower_walks.specs.Actions.{Act, Dead}
use Rattle.rx_lower_walks.specs.Walks.{here}
use Rattle.rx_facts_tables.specs.Along.{Switch}
use Rattle.rx_facts_tables.specs.Live.{living}
use Rattle.rx_exits_plan.specs.Points.{Exit, next, returns, leaves}
use Rattle.rx_exits_plan.specs.Asked.{Asked}
use Rattle.rx_exits_plan.specs.Plan.{Plan}
use Rattle.rx_exits_plan.proofs.Computing.{planned, shown}
use Rattle.rx_exits_plan.proofs.Examples.{int, at, num, yes, copy, move, part, show, less, eat, done, when, braces, leave, let_be, whole, last, asked, of_block, number}
use Rattle.rx_exits_plan.proofs.Examples as tree
use Rattle.rx_modes_policy.specs.declared.uses.Mode.{Mode}
use Rattle.rx_modes_policy.specs.declared.uses.Mode.TheVariants as mode
use Rattle.rx_modes_policy.specs.declared.uses.Uses.{Uses}
use Rattle.rx_modes_policy.specs.declared.choices.ModeChoice.{ModeChoice}
use Rattle.rx_modes_policy.specs.Allowed.{allowed_by, one, two, none, IsMember, first_of, last_of}
use Rattle.rx_modes_uses.specs.Deeds as deeds
use Rattle.rx_modes_uses.specs.First.{this, later}
use Rattle.rx_modes_uses.specs.Outside.{in_run, in_function}
use Rattle.rx_modes_uses.specs.Uses.{IsUses}
use Rattle.rx_modes_uses.specs.Modes.{PassedIn, IsModes}
use Rattle.rx_modes_uses.specs.Modes as modes
use Rattle.rx_modes_uses.specs.NotMut.{NotMut}
use Rattle.rx_modes_uses.specs.Aliased.{moved, IsAliased, Aliased}
use Rattle.rx_modes_uses.proofs.Deciding.{is_mut, told, own_done}
use Rattle.rx_modes_uses.proofs.Table.{none_has_none, value_is_not_shared}
use Rattle.rx_modes_uses.proofs.Computing.{row_of, behind_mark, graph_of, out_told, computed, computed_are_uses}
use Rattle.rx_modes_uses.proofs.Entering.{set_along}

-- ---- what is looked at: the truth values that are true, and the modes

pub data Field : Type 0 where
  Copy : Field
  MutRef : Field
  Moved : Field
  Written : Field
  Lent : Field
  Through : Field
  MutOut : Field
  DeclaredMut : Field
  LiveOut : Field
  SetIn : Field

abbrev where_true : Bool → Field → List Field → List Field
where_true b f fs = if b then f ∷ fs else fs

abbrev holding : Uses → List Field
holding u =
    where_true u.copy Copy (where_true u.mut_ref MutRef (where_true u.moved Moved (where_true u.written Written (where_true u.lent Lent
    (where_true u.through Through (where_true u.mut_out MutOut (where_true u.declared_mut DeclaredMut (where_true u.live_out LiveOut (where_true u.set_in SetIn [])))))))))

pub record Seen : Type 0 where
  pub fields : List Field
  pub modes : ModeChoice

abbrev seen : Asked → List Bool → Plan → ℕ → Seen
seen A muts k x = let u = computed A muts k x in record { fields = holding u; modes = allowed_by u }

abbrev sees : List Field → ModeChoice → Seen
sees fs ms = record { fields = fs; modes = ms }

-- ---- short forms

abbrev plus : Exp → Exp → Exp
plus a b = build (at 93 (Some int)) (operation BinaryOp.Add) (operand_and 0 a (operand_and 1 b no_operand))

abbrev times : Exp → Exp → Exp
times a b = build (at 93 (Some int)) (operation BinaryOp.Mul) (operand_and 0 a (operand_and 1 b no_operand))

-- what a variable holds, a field of it, what it refers to
abbrev field : ℕ → ℕ → Exp
field x i = read (at 97 (Some int)) false (part x i)

abbrev target : ℕ → Place
target x = under (own x) (step.Deref true ∷ [])

abbrev put : Place → Exp → Exp
put p e = assign (at 95 (Some unit_shape)) p e

abbrev lend : Bool → ℕ → Exp
lend k x = borrow (at 88 None) k (own x)

-- with a parameter, its variable being 0
abbrev of_one : Body → Function
of_one b = record { params = record { node = 2; variable = 0 } ∷ []; body = block (at 1 (Some unit_shape)) b }

-- a struct that isn't Copy, `&mut i64`
abbrev tag : Option Typ
tag = Some (named 0)

abbrev changing : Option Typ
changing = Some (reference true int)

abbrev handed : List ℕ → Exit → List ℕ
handed xs next = xs
handed xs _ = []

-- by the exits, the params and what the end hands out
abbrev plan : List Exit → List ℕ → List ℕ → Plan
plan es ps xs = record { exits = es; params = ps; locals = []; outs = λ e. handed xs e; value = None; redeclared = []; loose = [] }

-- ---- `let k = 7; [ let d = k + 1; ] println!(d);`
abbrev added : Asked
added = asked (whole (let_be 0 num (let_be 1 (plus (copy 0) num) (runs (show (copy 1)) last)))) (of_block 1 1 1 false) (number ∷ number ∷ [])

abbrev added_plan : Plan
added_plan = plan (next ∷ []) (0 ∷ []) (1 ∷ [])

added_planned : shown (planned added) ≡ shown added_plan
added_planned = refl

added_k : seen added (false ∷ false ∷ []) added_plan 0 ≡ sees (Copy ∷ SetIn ∷ []) (two mode.Value mode.Shared)
added_k = refl

-- the rounds suffice, and it is set where the run is entered, so these are the uses; the policies take the first mode and the last
added_in : (choice : Uses → Mode) → PassedIn added (false ∷ false ∷ []) added_plan choice 0 (choice (computed added (false ∷ false ∷ []) added_plan 0))
added_in choice = record {
  uses = computed added (false ∷ false ∷ []) added_plan 0;
  are_uses = computed_are_uses added (false ∷ false ∷ []) added_plan 0 refl (set_along added 0 (0 ∷ 1 ∷ 2 ∷ []) (0 ∷ 1 ∷ 2 ∷ 3 ∷ []) refl refl refl);
  some = (mode.Value, inl refl);
  chosen = refl;
}

added_by_copy : IsModes added (false ∷ false ∷ []) added_plan (λ u. first_of (allowed_by u)) (mode.Value ∷ [])
added_by_copy = modes.with (added_in (λ u. first_of (allowed_by u))) modes.no_more

added_by_reference : IsModes added (false ∷ false ∷ []) added_plan (λ u. last_of (allowed_by u)) (mode.Shared ∷ [])
added_by_reference = modes.with (added_in (λ u. last_of (allowed_by u))) modes.no_more

-- ---- `let mut sum = 0; let mut n = next(); while n != 0 { [ sum = sum + n * n; ] n = next(); } println!(sum);`
abbrev gathered : Asked
gathered = asked (whole (let_be 0 num (let_be 1 (input (at 20 (Some int))) (runs (loop (at 9 (Some unit_shape)) 0
    (choose (at 8 (Some unit_shape)) (of_value (less (copy 1) num)) (arm_and (exactly 8 (truth true)) (braces 10
    (runs (tree.set 0 (plus (copy 0) (times (copy 1) (copy 1)))) (runs (tree.set 1 (input (at 21 (Some int)))) (ends done))))
    (arm_and any (leave 12 0) no_arm)))) (runs (show (copy 0)) last))))) (of_block 10 0 1 false) (number ∷ number ∷ [])

abbrev gathered_plan : Plan
gathered_plan = plan (next ∷ []) (0 ∷ 1 ∷ []) []

gathered_planned : shown (planned gathered) ≡ shown gathered_plan
gathered_planned = refl

gathered_sum : seen gathered (true ∷ true ∷ []) gathered_plan 0 ≡ sees (Copy ∷ Written ∷ DeclaredMut ∷ LiveOut ∷ SetIn ∷ []) (one mode.Mut)
gathered_sum = refl

gathered_n : seen gathered (true ∷ true ∷ []) gathered_plan 1 ≡ sees (Copy ∷ DeclaredMut ∷ SetIn ∷ []) (two mode.Value mode.Shared)
gathered_n = refl

gathered_uses : IsUses gathered (true ∷ true ∷ []) gathered_plan 0 (computed gathered (true ∷ true ∷ []) gathered_plan 0)
gathered_uses =
    computed_are_uses gathered (true ∷ true ∷ []) gathered_plan 0 refl
    (set_along gathered 0 (0 ∷ 1 ∷ 2 ∷ 3 ∷ 4 ∷ 5 ∷ 6 ∷ 7 ∷ 8 ∷ 9 ∷ []) (0 ∷ 1 ∷ 2 ∷ 3 ∷ 4 ∷ 5 ∷ 6 ∷ 7 ∷ 8 ∷ 9 ∷ 10 ∷ []) refl refl refl)

-- ---- `let mut x = 1; let r = &mut x; *r = 5; [ println!(x); ]`
abbrev lent_outside : Asked
lent_outside = asked (whole (let_be 0 num (let_be 1 (lend true 0) (runs (put (target 1) num) (runs (show (copy 0)) last))))) (of_block 1 3 1 false) (number ∷ changing ∷ [])

abbrev of_x : Plan
of_x = plan (next ∷ []) (0 ∷ []) []

lent_outside_planned : shown (planned lent_outside) ≡ shown of_x
lent_outside_planned = refl

lent_outside_x : seen lent_outside (true ∷ false ∷ []) of_x 0 ≡ sees (Copy ∷ MutOut ∷ DeclaredMut ∷ SetIn ∷ []) (one mode.Shared)
lent_outside_x = refl

-- a mistake: what is Copy is passed by value, whoever has a reference to it
abbrev copies_are_values : Uses → Mode
copies_are_values u = if u.copy then mode.Value else first_of (allowed_by u)

a_copy_may_be_no_value : ¬ (IsMember (copies_are_values (computed lent_outside (true ∷ false ∷ []) of_x 0)) (allowed_by (computed lent_outside (true ∷ false ∷ []) of_x 0)))
a_copy_may_be_no_value h = value_is_not_shared h

-- ---- `let mut s = ..; show(&s); s.n = 5; [ let k = eat(s); ] println!(k);`
abbrev taken : Asked
taken = asked (whole (let_be 0 num (runs (eat (lend false 0)) (runs (put (part 0 0) num) (let_be 1 (eat (move 0)) (runs (show (copy 1)) last)))))) (of_block 1 3 1 false) (tag ∷ number ∷ [])

abbrev taken_plan : Plan
taken_plan = plan (next ∷ []) (0 ∷ []) (1 ∷ [])

taken_planned : shown (planned taken) ≡ shown taken_plan
taken_planned = refl

taken_s : seen taken (true ∷ false ∷ []) taken_plan 0 ≡ sees (Moved ∷ DeclaredMut ∷ SetIn ∷ []) (one mode.Value)
taken_s = refl

-- the run names `k` first, which is not declared `mut`
taken_aliased : Aliased taken (true ∷ false ∷ []) taken_plan 0
taken_aliased = later not_k (this (record {
  declared_mut = refl;
  borrowed = (own_done deeds.borrowed 0 (in_function taken)).0 refl;
  gets_other = moved here ((own_done deeds.moved 0 (in_run taken)).0 refl);
}))
  where
    not_k : ¬ (IsAliased taken (true ∷ false ∷ []) taken_plan 1)
    not_k h = true≢false (sym (ap is_mut h.declared_mut))

-- ---- `let mut x = 1; let w = W { r: &mut x }; [ *w.r = 2; ] println!(*w.r);`
abbrev far : Place
far = under (own 1) (step.Field 0 ∷ step.Deref true ∷ [])

abbrev put_far : Asked
put_far = asked (whole (let_be 0 num (let_be 1 (build (at 55 tag) (struct 0) (operand_and 0 (lend true 0) no_operand))
    (runs (put far num) (runs (show (read (at 56 (Some int)) false far)) last))))) (of_block 1 2 1 false) (number ∷ tag ∷ [])

abbrev put_far_plan : Plan
put_far_plan = plan (next ∷ []) (1 ∷ []) []

put_far_planned : shown (planned put_far) ≡ shown put_far_plan
put_far_planned = refl

put_far_w : seen put_far (true ∷ false ∷ []) put_far_plan 1 ≡ sees (Through ∷ LiveOut ∷ SetIn ∷ []) none
put_far_w = refl

put_far_refused : NotMut put_far (true ∷ false ∷ []) put_far_plan 1
put_far_refused = this (record {
  uses = computed put_far (true ∷ false ∷ []) put_far_plan 1;
  are_uses = computed_are_uses put_far (true ∷ false ∷ []) put_far_plan 1 refl (set_along put_far 1 (0 ∷ 1 ∷ 2 ∷ 3 ∷ 4 ∷ 5 ∷ 6 ∷ []) (0 ∷ 1 ∷ 2 ∷ 3 ∷ 4 ∷ 5 ∷ 6 ∷ 7 ∷ []) refl refl refl);
  none = none_has_none;
})

-- ---- `let s = ..; [ if s.n < 1 { eat(s); return; } ] println!(s.n);`
abbrev early : Asked
early = asked (whole (let_be 0 num (runs (when (less (field 0 0) num) (braces 11 (runs (eat (move 0)) (runs (give (at 13 None) done) (ends done)))))
    (runs (show (field 0 0)) last)))) (of_block 1 1 1 false) (tag ∷ [])

abbrev early_plan : Plan
early_plan = plan (next ∷ returns ∷ []) (0 ∷ []) (0 ∷ [])

early_planned : shown (planned early) ≡ shown early_plan
early_planned = refl

early_s : seen early (false ∷ []) early_plan 0 ≡ sees (Moved ∷ LiveOut ∷ SetIn ∷ []) none
early_s = refl

early_refused : NotMut early (false ∷ []) early_plan 0
early_refused = this (record {
  uses = computed early (false ∷ []) early_plan 0;
  are_uses = computed_are_uses early (false ∷ []) early_plan 0 refl (set_along early 0 (0 ∷ 1 ∷ 2 ∷ []) (0 ∷ 1 ∷ 2 ∷ 3 ∷ []) refl refl refl);
  none = none_has_none;
})

-- ---- `let mut s = ..; let v = { [ s = advance(s); s.n ] }; println!(s.n);`
abbrev with_value : Asked
with_value = asked (whole (let_be 0 num (let_be 1 (block (at 30 (Some int)) (runs (tree.set 0 (eat (move 0))) (ends (field 0 0)))) (runs (show (field 0 0)) last))))
    (of_block 30 0 1 true) (tag ∷ number ∷ [])

abbrev with_value_plan : Plan
with_value_plan = plan (next ∷ []) (0 ∷ []) (0 ∷ [])

with_value_planned : shown (planned with_value) ≡ shown with_value_plan
with_value_planned = refl

with_value_s : seen with_value (true ∷ false ∷ []) with_value_plan 0 ≡ sees (Moved ∷ Written ∷ DeclaredMut ∷ LiveOut ∷ SetIn ∷ []) (one mode.Value)
with_value_s = refl

-- ---- fields and parts: read, moved
--     let p = ..; [ let s = p.x * p.x; ] println!(s); println!(p.x);
abbrev norm : Asked
norm = asked (whole (let_be 0 num (let_be 1 (times (field 0 0) (field 0 0)) (runs (show (copy 1)) (runs (show (field 0 0)) last))))) (of_block 1 1 1 false) (tag ∷ number ∷ [])

norm_planned : shown (planned norm) ≡ shown (plan (next ∷ []) (0 ∷ []) (1 ∷ []))
norm_planned = refl

norm_p : seen norm (false ∷ false ∷ []) (plan (next ∷ []) (0 ∷ []) (1 ∷ [])) 0 ≡ sees (LiveOut ∷ SetIn ∷ []) (one mode.Shared)
norm_p = refl

--     let p = ..; [ eat(p.0); ]
abbrev eaten_part : Asked
eaten_part = asked (whole (let_be 0 num (runs (eat (read (at 44 tag) true (part 0 0))) last))) (of_block 1 1 1 false) (Some (tuple_of (shape_and (named 0) (shape_and (named 0) no_shape))) ∷ [])

eaten_part_planned : shown (planned eaten_part) ≡ shown of_x
eaten_part_planned = refl

eaten_part_p : seen eaten_part (false ∷ []) of_x 0 ≡ sees (Moved ∷ SetIn ∷ []) (one mode.Value)
eaten_part_p = refl

-- ---- behind a reference
--     fn f(x: &mut i64) { [ *x = 1; ] println!(*x); }; the same with `mut x`; with `let r = &x;` in the run
abbrev show_target : Exp
show_target = show (read (at 97 (Some int)) false (target 0))

abbrev put_behind : Asked
put_behind = asked (of_one (runs (put (target 0) num) (runs show_target last))) (of_block 1 0 1 false) (changing ∷ [])

put_behind_planned : shown (planned put_behind) ≡ shown of_x
put_behind_planned = refl

put_behind_x : seen put_behind (false ∷ []) of_x 0 ≡ sees (MutRef ∷ Through ∷ LiveOut ∷ SetIn ∷ []) (one mode.Reborrow)
put_behind_x = refl

put_behind_mut_x : seen put_behind (true ∷ []) of_x 0 ≡ sees (MutRef ∷ Through ∷ DeclaredMut ∷ LiveOut ∷ SetIn ∷ []) (two mode.Reborrow mode.Mut)
put_behind_mut_x = refl

abbrev put_and_lent : Asked
put_and_lent = asked (of_one (runs (put (target 0) num) (runs (eat (lend false 0)) last))) (of_block 1 0 2 false) (changing ∷ [])

put_and_lent_planned : shown (planned put_and_lent) ≡ shown of_x
put_and_lent_planned = refl

put_and_lent_x : seen put_and_lent (true ∷ []) of_x 0 ≡ sees (MutRef ∷ Lent ∷ Through ∷ DeclaredMut ∷ SetIn ∷ []) (one mode.Mut)
put_and_lent_x = refl

--     fn f(x: &mut i64) { [ println!(*x); ] }
abbrev seen_behind : Asked
seen_behind = asked (of_one (runs show_target last)) (of_block 1 0 1 false) (changing ∷ [])

seen_behind_planned : shown (planned seen_behind) ≡ shown of_x
seen_behind_planned = refl

seen_behind_x : seen seen_behind (false ∷ []) of_x 0 ≡ sees (MutRef ∷ SetIn ∷ []) (two mode.View mode.Shared)
seen_behind_x = refl

-- ---- patterns: `[ let (a, b) = x; ]` where `x` is a pair, a mutable or a shared reference to one
abbrev pair : Typ
pair = tuple_of (shape_and int (shape_and int no_shape))

abbrev taken_apart : Bool → Typ → Asked
taken_apart k t = asked (of_one (lets 41 (behind k (parts (part_and 0 (bind 43 1 (by_reference k)) (part_and 1 (bind 44 2 (by_reference k)) no_part))))
    (at_place (at 42 None) (own 0)) last)) (of_block 1 0 1 false) (Some t ∷ Some (reference k int) ∷ Some (reference k int) ∷ [])

taken_apart_planned : shown (planned (taken_apart true (reference true pair))) ≡ shown of_x
taken_apart_planned = refl

looked_apart_planned : shown (planned (taken_apart false (reference false pair))) ≡ shown of_x
looked_apart_planned = refl

bound_mutably : seen (taken_apart true (reference true pair)) (false ∷ false ∷ false ∷ []) of_x 0 ≡ sees (MutRef ∷ Through ∷ SetIn ∷ []) (one mode.Reborrow)
bound_mutably = refl

bound_shared : seen (taken_apart false (reference false pair)) (false ∷ false ∷ false ∷ []) of_x 0 ≡ sees (Copy ∷ SetIn ∷ []) (two mode.Value mode.Shared)
bound_shared = refl

abbrev moved_apart : Asked
moved_apart = asked (of_one (lets 41 (parts (part_and 0 (bind 43 1 (by_value true)) (part_and 1 (bind 44 2 (by_value false)) no_part)))
    (at_place (at 42 None) (own 0)) last)) (of_block 1 0 1 false) (Some (tuple_of (shape_and (named 0) (shape_and int no_shape))) ∷ tag ∷ number ∷ [])

moved_apart_planned : shown (planned moved_apart) ≡ shown of_x
moved_apart_planned = refl

bound_by_value : seen moved_apart (false ∷ false ∷ false ∷ []) of_x 0 ≡ sees (Moved ∷ SetIn ∷ []) (one mode.Value)
bound_by_value = refl

-- ---- an action that no walk holds counts: `let x = ..; loop { [ if true { return; eat(x); } ] }`
abbrev never_eaten : Asked
never_eaten = asked (whole (let_be 0 num (runs (loop (at 9 None) 0 (braces 10 (runs (when yes (braces 11 (runs (give (at 13 None) done) (runs (eat (move 0)) (ends done))))) (ends done)))) last)))
    (of_block 10 0 1 false) (tag ∷ [])

abbrev never_eaten_plan : Plan
never_eaten_plan = plan (next ∷ returns ∷ []) (0 ∷ []) (0 ∷ [])

never_eaten_planned : shown (planned never_eaten) ≡ shown never_eaten_plan
never_eaten_planned = refl

never_eaten_x : seen never_eaten (false ∷ []) never_eaten_plan 0 ≡ sees (Moved ∷ LiveOut ∷ SetIn ∷ []) none
never_eaten_x = refl

-- ---- the end of a variable is no use of it: `let x = ..; [ eat(x); ]`
abbrev eaten : Asked
eaten = asked (whole (let_be 0 num (runs (eat (move 0)) last))) (of_block 1 1 1 false) (tag ∷ [])

eaten_planned : shown (planned eaten) ≡ shown of_x
eaten_planned = refl

eaten_x : seen eaten (false ∷ []) of_x 0 ≡ sees (Moved ∷ SetIn ∷ []) (one mode.Value)
eaten_x = refl

-- a mistake: it counts, so the variable is live behind the run, and would have no mode
abbrev ends_variable : ℕ → Act → Bool
ends_variable x (Dead y) = y == x
ends_variable x _ = false

abbrev living_or_ending : ℕ → Switch
living_or_ending x = record { gives = λ a. (living (variable x)).gives a || ends_variable x a.act; kills = (living (variable x)).kills }

would_be_live : behind_mark (leaves next) (graph_of eaten (0 ∷ [])) (row_of (living_or_ending 0) (graph_of eaten (0 ∷ []))) ≡ true
would_be_live = refl

would_have_none : allowed_by (told eaten (false ∷ []) 0 true true) ≡ none
would_have_none = refl

the_end_is_no_use : (set : Bool) → ¬ (IsUses eaten (false ∷ []) of_x 0 (told eaten (false ∷ []) 0 true set))
the_end_is_no_use set h = true≢false (sym ((out_told eaten (0 ∷ []) 0 refl (next ∷ [])).1 (h.live_out.0 refl)))
