-- Each step leaves the run as it is, and makes what is left before the next turn smaller.
use Rattle.std.proofs.Common.{◌≡◌, ◌<◌, ◌≤◌, ℕ, zero, suc, ◌+◌, ℤ, nat_eq, Bool, true, false, List, [], ◌∷◌, Option, None, Some, if◌then◌else◌, refl, sym, ap, subst, ◌∙◌, arith}
use Rattle.std.proofs.lemmas.List.{append-nil}
use Rattle.rx_tree.specs.declared.tree.BinaryOp.{BinaryOp}
use Rattle.rx_typed.specs.Tree.{Mark, Place, Exp, read, borrow, share, build, unit, lazily, assign, update, call, input, print, block, choose, loop, jump, give, Operands, no_operand, operand_and, Scrutinee, at_place, of_value, Arms, no_arm, arm_and, Body, runs, declares, lets, Pattern, Function, operation}
use Rattle.rx_typed.specs.Tree as tree
use Rattle.rx_lower_walks.specs.Matching.{equals, tests, bindings}
use Rattle.rx_lower_walks.specs.Actions.{Build, Write, Subject}
use Rattle.rx_lower_walks.specs.Orders.{Exit, breaks, continues, returns}
use Rattle.rx_meaning.specs.Endings.{Cause, Ending, trapped, running as still_running, wrong, lacks, mistyped, missing_function, missing_value, end_of}
use Rattle.rx_meaning.specs.Values.{Value, truth, unit_value, and_then, element, Frame, new_frame, State, with_turns}
use Rattle.rx_meaning.specs.Results.{Result, on, jumps, stops, after, bind, Done, or_ends, result_of}
use Rattle.rx_meaning.specs.Results as results
use Rattle.rx_meaning.specs.Places.{Spot, found, whole_value}
use Rattle.rx_meaning.specs.Operators.{Computed, operate}
use Rattle.rx_meaning.specs.Operators as operators
use Rattle.rx_meaning.specs.Straying.{why_not_found, why_not_checked}
use Rattle.rx_meaning.specs.Acting.{checked, computed, does_plainly, plainly}
use Rattle.rx_meaning.specs.Patterns.{decided}
use Rattle.rx_meaning.specs.Expressions.{Functions, turn_at, take_turn, passed, returned}
use Rattle.rx_meaning.specs.Expressions as expressions
use Rattle.rx_meaning.specs.Programs.{Program, outcome_of}
use Rattle.rx_meaning.specs.Programs as programs
use Rattle.rx_meaning.proofs.Sequences.{after_nothing}
use Rattle.rx_machine_running.specs.Running.{Meaning, bound, value, body, level}
use Rattle.rx_machine_running.specs.Running as running
use Rattle.rx_machine_running.proofs.Runs.{run_is}
use Rattle.rx_machine_frames.specs.Frames.{Work, makes, calls, Hole, operand, shares, first_of, second_of, assigns, updates, prints, gives_back, scrutinee, statement, initialiser, Next, goes_into, part, gives, performs, finishes, runs_body, tries, binds, begins, loops, leaves, decides, modifies, does_next, opened_operands, opened_choice, opened_let, opened, opened_body, filled, Around, hole, pass, call_from, resume, unwind}
use Rattle.rx_machine_frames.specs.Choosing.{all_hold, if_holds, first_arm, bind_all, declare_all, fill_all}
use Rattle.rx_machine_frames.specs.Stepping.{Config, config, Led, goes, or_wrong, given, behind_pass, out_of_call, left, done, decided_by, modified, step, entered, with_turn, called, turn, means}
use Rattle.rx_machine_frames.specs.Sizes.{size, size_operands, size_scrutinee, size_arms, size_body, hole_size, next_size, sizes, config_size}
use Rattle.rx_machine_frames.specs.Laws.{Keeps, Lessens}
use Rattle.rx_machine_frames.proofs.Steps.{opened_is, opened_body_is, filled_is}
use Rattle.rx_machine_frames.proofs.Unwinding.{unwind_after, pass_begins, pass_again}
use Rattle.rx_machine_frames.proofs.Calls.{call_begins}
use Rattle.rx_machine_frames.proofs.ChoosingLemmas.{or_stops, arms_is, bound_is, begun_is, arguments_is}

-- ---- an end ends all

pub unwind_stops : (P : Functions) (below : Meaning) (K : List Around) (w : List ℕ) (e : Ending) → unwind P below K (stops w e) ≡ stops w e
unfolding unwind bind passed returned
unwind_stops P below [] w e = refl
unwind_stops P below (hole h ∷ K) w e = unwind_stops P below K w e
unwind_stops P below (pass m l i ∷ K) w e = unwind_stops P below K w e
unwind_stops P below (call_from F ∷ K) w e = unwind_stops P below K w e

stops_there : (P : Functions) (below : Meaning) (K : List Around) (w : List ℕ) (e : Ending) → outcome_of (unwind P below K (stops w e)) ≡ record { printed = w; end = end_of e }
stops_there P below K w e = ap outcome_of (unwind_stops P below K w e)

-- ---- what is left stays

-- what is left, with nothing printed on the way
on_the_way : (P : Functions) (n : ℕ) (c d : Config) → means P n c ≡ means P n d → Keeps P n c (goes [] d)
on_the_way P n c d e = e ∙ sym (after_nothing (means P n d))

-- what an act gave
done_keeps : (P : Functions) (n : ℕ) (c : Config) (K : List Around) (d : Done ℕ) → means P n c ≡ unwind P (level P n) K (result_of d) → Keeps P n c (done K d)
unfolding means result_of after
done_keeps P n c K (results.gives w v s) e = e ∙ ap (λ l. unwind P (level P n) K (on l v s)) (sym (append-nil w)) ∙ unwind_after P (level P n) K w (on [] v s)
done_keeps P n c K (results.ends w r) e = ap outcome_of e ∙ stops_there P (level P n) K w r

-- what goes on from what is there
option_keeps : {A : Type 0} (P : Functions) (n : ℕ) (c : Config) (K : List Around) (d : Cause) (o : Option A) (go : A → Led) (more : A → Result ℕ Value)
    → means P n c ≡ unwind P (level P n) K (or_stops d o more) → ((a : A) → means P n c ≡ unwind P (level P n) K (more a) → Keeps P n c (go a)) → Keeps P n c (or_wrong o go)
option_keeps P n c K d None go more e h = ap outcome_of e ∙ stops_there P (level P n) K [] (wrong d)
option_keeps P n c K d (Some a) go more e h = h a e

given_keeps : (P : Functions) (n : ℕ) (K : List Around) (v : Value) (s : State) → s.turns < n → Keeps P n (config K (gives v) s) (given K v s)
unfolding means unwind bind passed returned
given_keeps P n [] v s l = refl
given_keeps P n (hole h ∷ K) v s l = on_the_way P n (config (hole h ∷ K) (gives v) s) (config K (filled h v) s) (ap (unwind P (level P n) K) (after_nothing _ ∙ filled_is P (level P n) h v s))
given_keeps P n (pass m i e ∷ K) v s l = on_the_way P n (config (pass m i e ∷ K) (gives v) s) (config K (loops m i e) s) (ap (unwind P (level P n) K) (after_nothing _ ∙ pass_again P n m i e s l))
given_keeps P n (call_from F ∷ K) v s l = stops_there P (level P n) K [] (wrong missing_value)

pass_keeps : (P : Functions) (n : ℕ) (m : Mark) (l : ℕ) (e : Exp) (K : List Around) (x : Exit) (v : Value) (s : State) → s.turns < n
    → Keeps P n (config (pass m l e ∷ K) (leaves x v) s) (goes [] (config K (behind_pass m l e x v) s))
unfolding means unwind passed
pass_keeps P n m l e K (breaks i k) v s lt = on_the_way P n (config (pass m l e ∷ K) (leaves (breaks i k) v) s) (config K (if nat_eq k l then gives unit_value else leaves (breaks i k) v) s) (by (nat_eq k l))
  where
    by : (b : Bool) → unwind P (level P n) K (if b then on [] unit_value s else jumps [] (breaks i k) v s) ≡ unwind P (level P n) K (does_next P (level P n) (if b then gives unit_value else leaves (breaks i k) v) s)
    by true = refl
    by false = refl
pass_keeps P n m l e K (continues i k) v s lt = on_the_way P n (config (pass m l e ∷ K) (leaves (continues i k) v) s) (config K (if nat_eq k l then loops m l e else leaves (continues i k) v) s) (by (nat_eq k l))
  where
    by : (b : Bool) → unwind P (level P n) K (if b then after [] (level P n (loop m l e) s) else jumps [] (continues i k) v s) ≡ unwind P (level P n) K (does_next P (level P n) (if b then loops m l e else leaves (continues i k) v) s)
    by true = ap (unwind P (level P n) K) (after_nothing _ ∙ pass_again P n m l e s lt)
    by false = refl
pass_keeps P n m l e K (returns i) v s lt = on_the_way P n (config (pass m l e ∷ K) (leaves (returns i) v) s) (config K (leaves (returns i) v) s) refl

call_keeps : (P : Functions) (n : ℕ) (F : Frame) (K : List Around) (x : Exit) (v : Value) (s : State) → Keeps P n (config (call_from F ∷ K) (leaves x v) s) (out_of_call F K x v s)
unfolding means unwind returned
call_keeps P n F K (returns i) v s = on_the_way P n (config (call_from F ∷ K) (leaves (returns i) v) s) (config K (gives v) (record s { frame = F })) refl
call_keeps P n F K (breaks i k) v s = stops_there P (level P n) K [] (wrong missing_value)
call_keeps P n F K (continues i k) v s = stops_there P (level P n) K [] (wrong missing_value)

left_keeps : (P : Functions) (n : ℕ) (K : List Around) (x : Exit) (v : Value) (s : State) → s.turns < n → Keeps P n (config K (leaves x v) s) (left K x v s)
unfolding means unwind bind
left_keeps P n [] x v s l = refl
left_keeps P n (hole h ∷ K) x v s l = on_the_way P n (config (hole h ∷ K) (leaves x v) s) (config K (leaves x v) s) refl
left_keeps P n (pass m i e ∷ K) x v s l = pass_keeps P n m i e K x v s l
left_keeps P n (call_from F ∷ K) x v s l = call_keeps P n F K x v s

decides_keep : (P : Functions) (n : ℕ) (K : List Around) (b : Bool) (v : Value) (f : Exp) (s : State) → Keeps P n (config K (decides b v f) s) (decided_by K (checked (equals (tree.truth b)) v) v f s)
unfolding means bind decided result_of
decides_keep P n K b v f s = by (checked (equals (tree.truth b)) v) refl
  where
    test : Option Bool → Result ℕ Value
    test o = bind (result_of (or_ends (why_not_checked v) o (λ t. results.gives [] (truth t) s))) (λ t s1.
        bind (decided t (λ s2. value P (level P n) f s2) (λ s2. on [] v s2) s1) (λ w s3. running.acts (Build tree.lazy [] [] running.nowhere) (w ∷ []) s3))

    by : (o : Option Bool) → test (checked (equals (tree.truth b)) v) ≡ test o → Keeps P n (config K (decides b v f) s) (decided_by K o v f s)
    by None e = ap (λ r. outcome_of (unwind P (level P n) K r)) e ∙ stops_there P (level P n) K [] (wrong (why_not_checked v))
    by (Some true) e = on_the_way P n (config K (decides b v f) s) (config K (part second_of f) s) (ap (unwind P (level P n) K) (e ∙ after_nothing _))
    by (Some false) e = on_the_way P n (config K (decides b v f) s) (config K (gives v) s) (ap (unwind P (level P n) K) (e ∙ after_nothing _ ∙ after_nothing _))

modifies_keep : (P : Functions) (n : ℕ) (K : List Around) (o : BinaryOp) (p : Place) (v : Value) (s : State) → Keeps P n (config K (modifies o p v) s) (step K (modifies o p v) s)
unfolding means bind result_of
modifies_keep P n K o p v s = by_found (found p [] s) refl
  where
    write : Value → State → Result ℕ Value
    write w s2 = does_next P (level P n) (performs (Write p running.nowhere []) (w ∷ [])) s2

    make : Computed → Result ℕ Value
    make c = bind (result_of (computed c s)) (λ w s2. write w s2)

    rest : Value → State → Result ℕ Value
    rest u s1 = bind (running.acts (Build (operation o) [] [] running.nowhere) (u ∷ v ∷ []) s1) (λ w s2. write w s2)

    go : Value → Led
    go u = modified K p (operate o u v) s

    by_made : (u : Value) (c : Computed) → means P n (config K (modifies o p v) s) ≡ unwind P (level P n) K (make c) → Keeps P n (config K (modifies o p v) s) (modified K p c s)
    by_made u (operators.gives w) e = on_the_way P n (config K (modifies o p v) s) (config K (performs (Write p running.nowhere []) (w ∷ [])) s) (e ∙ ap (unwind P (level P n) K) (after_nothing _))
    by_made u (operators.traps t) e = ap outcome_of e ∙ stops_there P (level P n) K [] (trapped t)
    by_made u operators.senseless e = ap outcome_of e ∙ stops_there P (level P n) K [] (wrong mistyped)

    by_whole : (w : Option Value) → means P n (config K (modifies o p v) s) ≡ unwind P (level P n) K (bind (result_of (or_ends lacks w (λ u. results.gives [] u s))) rest) → Keeps P n (config K (modifies o p v) s) (or_wrong w go)
    by_whole None e = ap outcome_of e ∙ stops_there P (level P n) K [] (wrong lacks)
    by_whole (Some u) e = by_made u (operate o u v) (e ∙ ap (unwind P (level P n) K) (after_nothing _))

    by_found : (f : Option (Spot × Value)) → found p [] s ≡ f → Keeps P n (config K (modifies o p v) s) (or_wrong (and_then f (λ f. whole_value f)) go)
    by_found None e = ap (λ f. outcome_of (unwind P (level P n) K (bind (result_of (or_ends (why_not_found p [] s) f (λ f. or_ends lacks (whole_value f) (λ u. results.gives [] u s)))) rest))) e ∙ stops_there P (level P n) K [] (wrong (why_not_found p [] s))
    by_found (Some f) e = by_whole (whole_value f) (ap (λ f. unwind P (level P n) K (bind (result_of (or_ends (why_not_found p [] s) f (λ f. or_ends lacks (whole_value f) (λ u. results.gives [] u s)))) rest)) e)

pub step_keeps : (P : Functions) (n : ℕ) (K : List Around) (x : Next) (s : State) → s.turns < n → Keeps P n (config K x s) (step K x s)
unfolding means unwind value
step_keeps P n K (goes_into e) s l = on_the_way P n (config K (goes_into e) s) (config K (opened e) s) (ap (unwind P (level P n) K) (opened_is P (level P n) e s))
step_keeps P n K (part h e) s l = on_the_way P n (config K (part h e) s) (config (hole h ∷ K) (opened e) s) (ap (λ r. unwind P (level P n) K (bind r (λ v s1. resume P (level P n) h v s1))) (opened_is P (level P n) e s))
step_keeps P n K (gives v) s l = given_keeps P n K v s l
step_keeps P n K (performs a vs) s l = done_keeps P n (config K (performs a vs) s) K (does_plainly a vs s) refl
step_keeps P n K (finishes (makes w js) vs) s l = done_keeps P n (config K (finishes (makes w js) vs) s) K (does_plainly (Build w js [] running.nowhere) vs s) refl
step_keeps P n K (finishes (calls f) vs) s l = tt
step_keeps P n K (runs_body b) s l = on_the_way P n (config K (runs_body b) s) (config K (opened_body b) s) (ap (unwind P (level P n) K) (opened_body_is P (level P n) b s))
step_keeps P n K (tries S vs a) s l =
    let all = arms_is P (level P n) S vs a s in
    option_keeps P n (config K (tries S vs a) s) K all.0 (first_arm S vs a s) _ _ (ap (unwind P (level P n) K) all.1) (λ c e.
    let these = bound_is S vs (bindings [] c.0) (λ s1. value P (level P n) c.1 s1) s in
    option_keeps P n (config K (tries S vs a) s) K these.0 (bind_all S vs (bindings [] c.0) s) _ _ (e ∙ ap (unwind P (level P n) K) these.1) (λ s1 i. on_the_way P n (config K (tries S vs a) s) (config K (goes_into c.1) s1) i))
step_keeps P n K (binds S vs p b) s l =
    let these = bound_is S vs (bindings [] p) (λ s1. body P (level P n) b s1) s in
    option_keeps P n (config K (binds S vs p b) s) K these.0 (bind_all S vs (bindings [] p) s) _ _ (ap (unwind P (level P n) K) these.1) (λ s1 i. on_the_way P n (config K (binds S vs p b) s) (config K (runs_body b) s1) i)
step_keeps P n K (begins xs b) s l = on_the_way P n (config K (begins xs b) s) (config K (runs_body b) (declare_all xs s)) (ap (unwind P (level P n) K) (begun_is xs _ s))
step_keeps P n K (loops m i e) s l = tt
step_keeps P n K (leaves x v) s l = left_keeps P n K x v s l
step_keeps P n K (decides b v f) s l = decides_keep P n K b v f s
step_keeps P n K (modifies o p v) s l = modifies_keep P n K o p v s

-- ---- turns

entered_keeps : (P : Functions) (n : ℕ) (c : Config) (K : List Around) (i : ℕ) (g : Function) (vs : List Value) (s : State) → s.turns < n
    → means P n c ≡ unwind P (level P n) K (running.entered (level P n) i g vs s) → Keeps P n c (entered K i g vs s)
unfolding means unwind
entered_keeps P n c K i g vs s l e =
    let all = arguments_is g.params vs (λ s1. value P (level P n) g.body s1) (record s { frame = new_frame i }) in
    option_keeps P n c (call_from s.frame ∷ K) all.0 (fill_all g.params vs (record s { frame = new_frame i })) _ (λ s1. value P (level P n) g.body s1)
    (e ∙ ap (unwind P (level P n) K) (call_begins P n i g vs s l) ∙ ap (λ r. unwind P (level P n) K (returned plainly s.frame r)) all.1)
    (λ s1 h. on_the_way P n c (config (call_from s.frame ∷ K) (goes_into g.body) s1) h)

-- what takes a turn
turn_keeps_by : (P : Functions) (n : ℕ) (c : Config) (K : List Around) (t : ℕ) (s : State) (more : State → Result ℕ Value) (go : State → Led) → t ≤ n
    → means P n c ≡ unwind P (level P n) K (turn_at t s more) → ((s1 : State) → s1.turns < n → means P n c ≡ unwind P (level P n) K (more s1) → Keeps P n c (go s1)) → Keeps P n c (with_turn t s go)
turn_keeps_by P n c K zero s more go l e h = ap outcome_of e ∙ stops_there P (level P n) K [] still_running
turn_keeps_by P n c K (suc t) s more go l e h = h (with_turns s t) (omega (arith, l)) e

pub turn_keeps : (P : Functions) (n : ℕ) (K : List Around) (x : Next) (s : State) → s.turns ≤ n → Keeps P n (config K x s) (turn P K x s)
unfolding means unwind take_turn
turn_keeps P n K (finishes (calls f) vs) s l = by (element P f) refl
  where
    by : (o : Option (Option Function)) → element P f ≡ o → Keeps P n (config K (finishes (calls f) vs) s) (called K f o vs s)
    by None e = ap (λ o. outcome_of (unwind P (level P n) K (expressions.found o (λ g. take_turn s (λ s1. running.entered (level P n) f g vs s1))))) e ∙ stops_there P (level P n) K [] (wrong missing_function)
    by (Some None) e = ap (λ o. outcome_of (unwind P (level P n) K (expressions.found o (λ g. take_turn s (λ s1. running.entered (level P n) f g vs s1))))) e ∙ stops_there P (level P n) K [] (wrong missing_function)
    by (Some (Some g)) e = turn_keeps_by P n (config K (finishes (calls f) vs) s) K s.turns s _ _ l (ap (λ o. unwind P (level P n) K (expressions.found o (λ g. take_turn s (λ s1. running.entered (level P n) f g vs s1)))) e)
        (λ s1 k h. entered_keeps P n (config K (finishes (calls f) vs) s) K f g vs s1 k h)
turn_keeps P n K (loops m i b) s l =
    turn_keeps_by P n (config K (loops m i b) s) K s.turns s _ _ l refl (λ s1 k h. on_the_way P n (config K (loops m i b) s) (config (pass m i b ∷ K) (goes_into b) s1) (h ∙ ap (unwind P (level P n) K) (pass_begins P n m i b s1 k)))
turn_keeps P n K (finishes (makes w js) vs) s l = tt
turn_keeps P n K (goes_into e) s l = tt
turn_keeps P n K (part h e) s l = tt
turn_keeps P n K (gives v) s l = tt
turn_keeps P n K (performs a vs) s l = tt
turn_keeps P n K (runs_body b) s l = tt
turn_keeps P n K (tries S vs a) s l = tt
turn_keeps P n K (binds S vs p b) s l = tt
turn_keeps P n K (begins xs b) s l = tt
turn_keeps P n K (leaves x v) s l = tt
turn_keeps P n K (decides b v f) s l = tt
turn_keeps P n K (modifies o p v) s l = tt

-- ---- less is left to do

operands_size : (w : Work) (es : Operands) → next_size (opened_operands w es) ≡ size_operands es
unfolding next_size hole_size size
operands_size w no_operand = refl
operands_size w (operand_and i e es) = refl

choice_size : (c : Scrutinee) (l : Arms) → next_size (opened_choice c l) ≡ size_scrutinee c + size_arms l
unfolding next_size hole_size size
choice_size (at_place m p) l = refl
choice_size (of_value e) l = omega arith

let_size : (c : Scrutinee) (p : Pattern) (b : Body) → next_size (opened_let c p b) ≡ 1 + size_body b + size_scrutinee c
unfolding next_size hole_size size
let_size (at_place m q) p b = omega arith
let_size (of_value e) p b = omega arith

opened_size : (e : Exp) → next_size (opened e) ≡ size e
unfolding next_size hole_size size
opened_size (read m moves p) = refl
opened_size (build m w es) = operands_size (makes w (tree.fields_of es)) es
opened_size (unit m) = refl
opened_size (block m b) = refl
opened_size (borrow m k p) = refl
opened_size (share m e) = omega arith
opened_size (lazily m b e f) = omega arith
opened_size (assign m p e) = omega arith
opened_size (update m o p e) = omega arith
opened_size (call m f es) = operands_size (calls f) es
opened_size (input m) = refl
opened_size (print m e) = omega arith
opened_size (loop m l e) = refl
opened_size (jump m l again) = refl
opened_size (choose m c l) = choice_size c l
opened_size (give m e) = omega arith

body_size : (b : Body) → next_size (opened_body b) ≡ size_body b
unfolding next_size hole_size size
body_size (tree.ends e) = refl
body_size (runs e rest) = omega arith
body_size (declares i xs rest) = refl
body_size (lets i p c rest) = let_size c p rest

filled_size : (h : Hole) (v : Value) → next_size (filled h v) < 1 + hole_size h
unfolding next_size hole_size size
filled_size (operand w vs no_operand) v = omega arith
filled_size (operand w vs (operand_and i e es)) v = omega arith
filled_size shares v = omega arith
filled_size (first_of b f) v = omega arith
filled_size second_of v = omega arith
filled_size (assigns p) v = omega arith
filled_size (updates o p) v = omega arith
filled_size prints v = omega arith
filled_size (gives_back n) v = omega arith
filled_size (scrutinee S l) v = omega arith
filled_size (statement b) v = omega arith
filled_size (initialiser S p b) v = omega arith

hole_counts : (h : Hole) → 0 < hole_size h
unfolding hole_size size
hole_counts (operand w vs no_operand) = omega arith
hole_counts (operand w vs (operand_and i e es)) = omega arith
hole_counts shares = omega arith
hole_counts (first_of b f) = omega arith
hole_counts second_of = omega arith
hole_counts (assigns p) = omega arith
hole_counts (updates o p) = omega arith
hole_counts prints = omega arith
hole_counts (gives_back n) = omega arith
hole_counts (scrutinee S l) = omega arith
hole_counts (statement b) = omega arith
hole_counts (initialiser S p b) = omega arith

arm_size : (S : Subject) (vs : List Value) (l : Arms) (s : State) (a : Pattern × Exp) → first_arm S vs l s ≡ Some a → size a.1 < size_arms l
unfolding size
arm_size S vs no_arm s a e = cc
arm_size S vs (arm_and p b rest) s a e = by (all_hold S vs (tests [] p) s) (λ h. arm_size S vs rest s a h) e
  where
    by : (o : Option Bool) → (first_arm S vs rest s ≡ Some a → size a.1 < size_arms rest) → if_holds o (Some (p, b)) (first_arm S vs rest s) ≡ Some a → size a.1 < size_arms (arm_and p b rest)
    by None h e = cc
    by (Some true) h e = let k : (p, b) ≡ a = cc in subst (λ (c : Pattern × Exp). size c.1 < size_arms (arm_and p b rest)) k (omega arith)
    by (Some false) h e = let k = h e in omega (arith, k)

done_less : (c : Config) (K : List Around) (d : Done ℕ) → sizes K + 1 < config_size c → Lessens c (done K d)
unfolding next_size
done_less c K (results.gives w v s) l = l
done_less c K (results.ends w e) l = tt

-- what goes on from what is there
option_less : {A : Type 0} (c : Config) (o : Option A) (go : A → Led) → ((a : A) → o ≡ Some a → Lessens c (go a)) → Lessens c (or_wrong o go)
option_less c None go h = tt
option_less c (Some a) go h = h a refl

pub step_less : (K : List Around) (x : Next) (s : State) → Lessens (config K x s) (step K x s)
unfolding next_size hole_size size
step_less K (goes_into e) s = let k = opened_size e in omega (arith, k)
step_less K (part h e) s = let k = opened_size e in omega (arith, k)
step_less [] (gives v) s = tt
step_less (hole h ∷ K) (gives v) s = let k = filled_size h v in omega (arith, k)
step_less (pass m l e ∷ K) (gives v) s = omega arith
step_less (call_from F ∷ K) (gives v) s = tt
step_less K (performs a vs) s = done_less (config K (performs a vs) s) K (does_plainly a vs s) (omega arith)
step_less K (finishes (makes w js) vs) s = done_less (config K (finishes (makes w js) vs) s) K (does_plainly (Build w js [] running.nowhere) vs s) (omega arith)
step_less K (finishes (calls f) vs) s = tt
step_less K (runs_body b) s = let k = body_size b in omega (arith, k)
step_less K (tries S vs l) s =
    option_less (config K (tries S vs l) s) (first_arm S vs l s) _ (λ a e. option_less (config K (tries S vs l) s) (bind_all S vs (bindings [] a.0) s) (λ s1. goes [] (config K (goes_into a.1) s1)) (λ s1 i.
    let k = arm_size S vs l s a e in omega (arith, k)))
step_less K (binds S vs p b) s = option_less (config K (binds S vs p b) s) (bind_all S vs (bindings [] p) s) (λ s1. goes [] (config K (runs_body b) s1)) (λ s1 i. omega arith)
step_less K (begins xs b) s = omega arith
step_less K (loops m l e) s = tt
step_less [] (leaves x v) s = tt
step_less (hole h ∷ K) (leaves x v) s = let k = hole_counts h in omega (arith, k)
step_less (pass m l e ∷ K) (leaves (breaks i k) v) s = by (nat_eq k l)
  where
    by : (b : Bool) → sizes K + next_size (if b then gives unit_value else leaves (breaks i k) v) < 1 + sizes K + 1
    by true = omega arith
    by false = omega arith
step_less (pass m l e ∷ K) (leaves (continues i k) v) s = by (nat_eq k l)
  where
    by : (b : Bool) → sizes K + next_size (if b then loops m l e else leaves (continues i k) v) < 1 + sizes K + 1
    by true = omega arith
    by false = omega arith
step_less (pass m l e ∷ K) (leaves (returns i) v) s = omega arith
step_less (call_from F ∷ K) (leaves (returns i) v) s = omega arith
step_less (call_from F ∷ K) (leaves (breaks i k) v) s = tt
step_less (call_from F ∷ K) (leaves (continues i k) v) s = tt
step_less K (decides b v f) s = by (checked (equals (tree.truth b)) v)
  where
    by : (o : Option Bool) → Lessens (config K (decides b v f) s) (decided_by K o v f s)
    by None = tt
    by (Some true) = omega arith
    by (Some false) = omega arith
step_less K (modifies o p v) s = option_less (config K (modifies o p v) s) (and_then (found p [] s) (λ f. whole_value f)) (λ u. modified K p (operate o u v) s) (λ u e. by (operate o u v))
  where
    by : (c : Computed) → Lessens (config K (modifies o p v) s) (modified K p c s)
    by (operators.gives w) = omega arith
    by (operators.traps t) = tt
    by operators.senseless = tt

pub run_begins : (P : Program) (given : List ℤ) (n : ℕ) → programs.run P given n ≡ outcome_of (means P.functions n (config [] (finishes (calls P.main) []) (programs.begins given n)))
unfolding means unwind
run_begins P given n = run_is P given n
