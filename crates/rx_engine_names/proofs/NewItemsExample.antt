-- What is asked of a plan can be met: an example with an enum of exits, a variable that each exit hands out, and a jump. The names in its
-- extraction are computed too.
use Rattle.std.proofs.Common.{◌≡◌, ◌≢◌, ℕ, arith, true, false, List, [], ◌∷◌, Option, Some, None, Result, Ok, Err, refl, sym, ◌∙◌, subst, is_ok, codes, bytes_eq}
use Rattle.std.specs.Fmt.{digits}
use Rattle.std.proofs.lemmas.Slice.Eq.{bytes_eq-Decides}
use Rattle.rx_tree.specs.Lists.{nth}
use Rattle.rx_tree.specs.Plain as plain
use Rattle.rx_tree.specs.Plain.{Function, ItemTree}
use Rattle.rx_tree.specs.Erase.{nowhere}
use Rattle.rx_resolve_names.specs.Scopes.{Variables}
use Rattle.rx_resolve_names.specs.declared.resolved.ItemNames.{ItemNames}
use Rattle.rx_resolve_names.specs.Meant.{Around, a_loop}
use Rattle.rx_resolve_names.specs.Steps.{Inside}
use Rattle.rx_resolve_names.specs.Names.{in_optional, in_statements, Scoped}
use Rattle.rx_resolve_names.specs.Items.{in_items, in_program}
use Rattle.rx_hoist_extraction.specs.Names.{behind_all}
use Rattle.rx_hoist_extraction.specs.Run.{Parts, as_statements, run_parts}
use Rattle.rx_hoist_extraction.specs.Plan.{Plan, to_break}
use Rattle.rx_hoist_extraction.specs.Made.{ident}
use Rattle.rx_hoist_extraction.specs.Extraction.{extraction, new_items}
use Rattle.rx_hoist_extraction.proofs.Trees.{made}
use Rattle.rx_hoist_extraction.proofs.ExitOuts.{advance, advance_run, advance_plan}
use Rattle.rx_engine_names.specs.NewNames.{AreFree}
use Rattle.rx_engine_names.specs.Moves.{Moves, HandsOut, rounds}
use Rattle.rx_engine_names.specs.Within.{OptionalWithin, StatementsWithin}
use Rattle.rx_engine_names.specs.NewFunction.{moves_by}
use Rattle.rx_engine_names.specs.NewPlan.{PlanNames, run_claims}
use Rattle.rx_engine_names.proofs.SideBySide.{the_same}
use Rattle.rx_engine_names.proofs.NewPrograms.{new_items_resolve}

-- with the identifiers that matter
abbrev the_plan : Plan
the_plan = record advance_plan { identifiers = codes "s" ∷ codes "k" ∷ [] }

-- `s` and `k`, in the loop
abbrev the_scope : Variables
the_scope = record { name = codes "k"; number = 1 } ∷ record { name = codes "s"; number = 0 } ∷ []

abbrev the_loops : List Around
the_loops = a_loop None 0 ∷ []

abbrev the_moves : Moves
the_moves = moves_by the_plan made the_loops the_scope 4

unequal : (x y : List ℕ) → bytes_eq x y ≡ false → x ≢ y
unequal x y h e = let g : bytes_eq x y ≡ true = (bytes_eq-Decides x y).1 e in let c : true ≡ false = sym g ∙ h in cc

names_are_free : AreFree advance the_plan
names_are_free = record {
  function = (tt, (tt, (unequal (codes "step") (codes "advance") refl, (unequal (codes "step") (codes "main") refl, tt))));
  exits = λ h. (unequal (codes "Exit_step") (codes "rt") refl, (unequal (codes "Exit_step") (codes "State") refl, (tt, (tt, tt))));
}

-- the function of the run
abbrev function_of : Option ItemTree → Function
function_of (Some (plain.function_item s f)) = f
function_of _ = record { name = ident nowhere []; lifetimes = []; params = []; result = None; body = plain.body nowhere plain.no_statement plain.absent }

abbrev main_function : Function
main_function = function_of (nth advance 3)

abbrev the_run : Parts
the_run = run_parts advance_run main_function

plan_is_named : PlanNames advance the_moves the_run
plan_is_named = record {
  types = record { params = (refl, (tt, tt)); locals = tt; outs = ((refl, tt), ((refl, tt), tt)); value = tt; result = tt };
  apart = (refl, (refl, tt));
  meant = ((0, refl), ((1, refl), tt));
  exits_apart = (refl, (refl, tt));
  reached = λ t e. absurd (cc);
  handed = ((refl, refl, refl), tt);
  lifetimes = tt;
  fresh_lifetimes = omega arith;
  fresh_variable = omega arith;
}

-- the only jump leaves by the exit of the loop round the run
jump_hands_out : (k : ℕ) → ◌≡◌ {A = Option ℕ} (Some 0) (Some k) → HandsOut the_moves [] (to_break k)
jump_hands_out k e = let h : 0 ≡ k = cc in subst (λ (j : ℕ). HandsOut the_moves [] (to_break j)) h (refl, ((refl, refl, refl), tt))

run_is_within : StatementsWithin (run_claims the_moves) [] (rounds the_moves) (as_statements the_run.statements)
run_is_within = ((refl, ((λ e. refl), (refl, (refl, tt)))), tt)

tail_is_within : OptionalWithin (run_claims the_moves) (behind_all [] (as_statements the_run.statements)) (rounds the_moves) the_run.tail
tail_is_within = ((refl, tt), (tt, (jump_hands_out, tt), tt), tt)

abbrev before : ItemNames
before = record { vars = []; lifetimes = []; loops = []; names = [] }

-- the scope and the tables of what resolves
abbrev scoped : {E : Type 0} → Result Scoped E → Scoped
scoped (Ok r) = r
scoped (Err e) = record { scope = []; tables = before }

-- what resolves, where it does
result_of : {A E : Type 0} (r : Result A E) → is_ok r ≡ true → (a : A) × (r ≡ Ok a)
result_of (Ok a) e = (a, refl)
result_of (Err x) e = absurd (cc)

abbrev inside_main : Inside
inside_main = record { program = advance; item = 3; lifetimes = [] }

names : (ts : List ItemNames) × (in_program advance ≡ Ok ts)
names = result_of (in_program advance) refl

run_resolves : (r : Scoped) × (in_statements inside_main the_scope the_loops [] 1 (as_statements the_run.statements) before ≡ Ok r)
run_resolves = result_of (in_statements inside_main the_scope the_loops [] 1 (as_statements the_run.statements) before) refl

tail_resolves : (r : Scoped) → in_statements inside_main the_scope the_loops [] 1 (as_statements the_run.statements) before ≡ Ok r → (t : ItemNames) × (in_optional inside_main r.scope the_loops [] the_run.tail r.tables ≡ Ok t)
tail_resolves r e = subst (λ (z : Scoped). (t : ItemNames) × (in_optional inside_main z.scope the_loops [] the_run.tail z.tables ≡ Ok t)) (the_same (scoped (in_statements inside_main the_scope the_loops [] 1 (as_statements the_run.statements) before)) r (refl ∙ e))
    (result_of (in_optional inside_main (scoped (in_statements inside_main the_scope the_loops [] 1 (as_statements the_run.statements) before)).scope the_loops [] the_run.tail (scoped (in_statements inside_main the_scope the_loops [] 1 (as_statements the_run.statements) before)).tables) refl)

-- the new items of the extraction have meanings
pub new_items_are_named : (ns : List ItemNames) × (in_items (extraction advance advance_run the_plan []) 4 (new_items advance advance_run the_plan [] main_function) ≡ Ok ns)
new_items_are_named =
    let t = tail_resolves run_resolves.0 run_resolves.1 in
    new_items_resolve advance advance_run the_plan [] nowhere main_function refl names_are_free the_loops the_scope refl plan_is_named names.0 names.1 3 [] [] 1 before run_resolves.0 run_resolves.1 [] t.0 t.1 run_is_within tail_is_within

-- and so have all of its names, as is computed
pub all_are_named : is_ok (in_program (extraction advance advance_run the_plan [])) ≡ true
unfolding digits
all_are_named = refl
