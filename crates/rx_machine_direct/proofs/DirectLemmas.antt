-- What is given at once is what the expression gives, and what is left of it is all that it does.
use Rattle.std.proofs.Common.{◌≡◌, ◌<◌, ◌≤◌, ℕ, ◌+◌, List, [], ◌∷◌, map, length, Bool, true, false, Option, Some, None, if◌then◌else◌, refl, sym, ap, subst, ◌∙◌, arith}
use Rattle.rx_core.specs.declared.types.Step.{Step}
use Rattle.rx_tree.specs.declared.tree.BinaryOp.{BinaryOp}
use Rattle.rx_typed.specs.Tree.{Mark, Place, Root, variable, temporary, Temporary, temporary_of, Pattern, constant, negation, inversion, operation, lazy, tuple, struct, variant_of, Making, Exp, read, borrow, share, build, unit, lazily, assign, update, call, input, print, block, choose, loop, jump, give, Operands, no_operand, operand_and, Scrutinee, of_value, Arms, no_arm, arm_and, Body, ends, runs, declares, lets, fields_of}
use Rattle.rx_typed.specs.Tree as tree
use Rattle.rx_lower_walks.specs.Matching.{equals}
use Rattle.rx_lower_walks.specs.Actions.{Read, Write, Build, in_temporary}
use Rattle.rx_meaning.specs.Values as values
use Rattle.rx_meaning.specs.Values.{Value, number, truth, whole, tagged, pointer, lacking, unit_value, and_then, element, slot_of, Frame, State, with_memory}
use Rattle.rx_meaning.specs.Endings.{lacks}
use Rattle.rx_meaning.specs.Straying.{why_not_found, why_not_written, why_not_checked}
use Rattle.rx_meaning.specs.Results.{Result, on, bind, after, gives, or_ends, result_of}
use Rattle.rx_meaning.specs.Places as places
use Rattle.rx_meaning.specs.Places.{Spot, in_slot, whole_value, after_write}
use Rattle.rx_meaning.specs.Operators as operators
use Rattle.rx_meaning.specs.Operators.{Computed, compute, operate, make, value_of}
use Rattle.rx_meaning.specs.Acting.{computed, checked}
use Rattle.rx_meaning.specs.Patterns.{decided, tested}
use Rattle.rx_meaning.specs.Expressions.{Functions}
use Rattle.rx_machine_running.specs.Running.{Meaning, nowhere, acts, bound, value, body}
use Rattle.rx_machine_running.specs.Running as running
use Rattle.rx_machine_frames.specs.Sizes.{size, size_arms, size_body}
use Rattle.rx_meaning.proofs.Sequences.{after_nothing, bind_on}
use Rattle.rx_machine_direct.specs.Direct.{recorded, scalar, in_memory, at_place, given, operated, direct, built, stored_in, stored, assigned, fits, if_fits, both, picked}
use Rattle.rx_typed.specs.declared.tree.Stmt.{Stmt}
use Rattle.rx_typed.specs.PlainTree.{plain-Stmt, nested_of}
use Rattle.rx_machine_direct.specs.PlainReached.{Wrote, Chooses, Runs, Passes}
use Rattle.rx_machine_direct.specs.Reaching.{Reach, into, statements, gave, Shows, reach_size, Comes, ComesBody}

-- ---- options

then_is : {A B : Type 0} (o : Option A) (go : A → Option B) (b : B) → and_then o go ≡ Some b → (a : A) × (o ≡ Some a) × (go a ≡ Some b)
then_is None go b e = cc
then_is (Some a) go b e = (a, refl, e)

some_is : {A : Type 0} (a b : A) → Some a ≡ Some b → a ≡ b
some_is a b e = cc

-- ---- scalars

-- a scalar stands there, and has a value
scalar_is : (v w : Value) → scalar v ≡ Some w → (v ≡ w) × (values.is_set v ≡ true)
scalar_is (number k z) w e = (some_is (number k z) w e, refl)
scalar_is (truth b) w e = (some_is (truth b) w e, refl)
scalar_is (whole vs) w e = cc
scalar_is (tagged i vs) w e = cc
scalar_is (pointer i p m) w e = cc
scalar_is (lacking l) w e = cc

stands : (M : List Value) (o : Option ℕ) (v : Value) → in_memory M o ≡ Some v → (i : ℕ) × (o ≡ Some i) × (element M i ≡ Some v) × (values.is_set v ≡ true)
stands M None v e = cc
stands M (Some i) v e =
    let a : (u : Value) × (element M i ≡ Some u) × (scalar u ≡ Some v) = then_is (element M i) scalar v e in
    let b : (a.0 ≡ v) × (values.is_set a.0 ≡ true) = scalar_is a.0 v a.2 in
    (i, refl, a.1 ∙ ap (λ (u : Value). Some u) b.0, subst (λ u. values.is_set u ≡ true) b.0 b.1)

spot_is : (x i : ℕ) (s : State) → slot_of s.frame.slots x ≡ Some i → places.spot (record { root = variable x; steps = [] }) [] s ≡ Some (in_slot i [] true)
spot_is x i s e = ap (λ (o : Option ℕ). and_then (and_then o (λ i. Some (in_slot i [] true))) (λ at. places.follow s.memory [] at)) e

found_is : (x i : ℕ) (v : Value) (s : State) → slot_of s.frame.slots x ≡ Some i → element s.memory i ≡ Some v
    → places.found (record { root = variable x; steps = [] }) [] s ≡ Some (in_slot i [] true, v)
found_is x i v s e h =
    ap (λ (o : Option Spot). and_then o (λ at. and_then (places.content s.memory at) (λ v. Some (at, v)))) (spot_is x i s e)
    ∙ ap (λ (o : Option Value). and_then (and_then o (λ v. values.get [] v)) (λ v. Some (in_slot i [] true, v))) h

read_is : (T : List (Option ℕ)) (M : List Value) (r : Root) (ss : List Step) (moves : Bool) (v : Value) (s : State) → at_place T M r ss ≡ Some v → Shows T M s
    → acts (Read moves (record { root = r; steps = ss }) nowhere) [] s ≡ on [] v s
unfolding result_of
read_is T M (variable x) [] moves v s e h =
    let a : (i : ℕ) × (recorded T x ≡ Some i) × (element M i ≡ Some v) × (values.is_set v ≡ true) = stands M (recorded T x) v e in
    ap (λ (o : Option (Spot × Value)). result_of (or_ends (why_not_found (record { root = variable x; steps = [] }) [] s) o (λ f. or_ends lacks (whole_value f) (λ v. gives [] v s)))) (found_is x a.0 v s (h.1 x ∙ a.1) (ap (λ N. element N a.0) h.0 ∙ a.2))
    ∙ ap (λ b. result_of (or_ends lacks (if b then Some v else None) (λ v. gives [] v s))) a.3
read_is T M (variable x) (st ∷ ss) moves v s e h = cc
read_is T M (temporary t) ss moves v s e h = cc

given_is : (c : Computed) (v : Value) → given c ≡ Some v → c ≡ operators.gives v
given_is (operators.gives u) v e = ap (λ u. operators.gives u) (some_is u v e)
given_is (operators.traps t) v e = cc
given_is operators.senseless v e = cc

operated_is : (o : BinaryOp) (u v w : Value) → operated o u v ≡ Some w → operate o u v ≡ operators.gives w
operated_is o (number k x) (number j y) w e = given_is (compute o k x y) w e
operated_is o (number k x) (truth b) w e = cc
operated_is o (number k x) (whole vs) w e = cc
operated_is o (number k x) (tagged i vs) w e = cc
operated_is o (number k x) (pointer i p m) w e = cc
operated_is o (number k x) (lacking l) w e = cc
operated_is o (truth b) v w e = cc
operated_is o (whole vs) v w e = cc
operated_is o (tagged i vs) v w e = cc
operated_is o (pointer i p m) v w e = cc
operated_is o (lacking l) v w e = cc

-- what an operator makes of two values that were given
made_is : (o : BinaryOp) (js : List ℕ) (u v w : Value) (s : State) → operated o u v ≡ Some w → acts (Build (operation o) js [] nowhere) (u ∷ v ∷ []) s ≡ on [] w s
unfolding result_of
made_is o js u v w s e = ap (λ c. result_of (computed c s)) (operated_is o u v w e)

constant_made : (c : tree.Constant) (v : Value) (s : State) → value_of c ≡ v → acts (Build (constant c) [] [] nowhere) [] s ≡ on [] v s
unfolding result_of
constant_made c v s e = ap (λ u. on [] u s) e

two_values : (P : Functions) (below : Meaning) (i : ℕ) (e : Exp) (j : ℕ) (f : Exp) (u v : Value) (s : State) → value P below e s ≡ on [] u s → value P below f s ≡ on [] v s
    → running.values P below (operand_and i e (operand_and j f no_operand)) s ≡ on [] (u ∷ v ∷ []) s
unfolding value bind after
two_values P below i e j f u v s he hf =
    ap (λ r. bind r (λ v s1. bind (running.values P below (operand_and j f no_operand) s1) (λ vs s2. on [] (v ∷ vs) s2))) he
    ∙ bind_on u s (λ v s1. bind (running.values P below (operand_and j f no_operand) s1) (λ vs s2. on [] (v ∷ vs) s2))
    ∙ ap (λ r. bind (bind r (λ v s1. bind (running.values P below no_operand s1) (λ vs s2. on [] (v ∷ vs) s2))) (λ vs s2. on [] (u ∷ vs) s2)) hf

mutual
  unfolding direct value

  pub direct_is : (T : List (Option ℕ)) (M : List Value) (e : Exp) (v : Value) → direct T M e ≡ Some v → (P : Functions) (below : Meaning) (s : State) → Shows T M s → value P below e s ≡ on [] v s
  direct_is T M (read m moves p) v d P below s h = read_is T M p.root p.steps moves v s d h
  direct_is T M (build m w es) v d P below s h = built_is T M w es v d P below s h
  direct_is T M (borrow m k p) v d P below s h = cc
  direct_is T M (share m e) v d P below s h = cc
  direct_is T M (unit m) v d P below s h = cc
  direct_is T M (lazily m b e f) v d P below s h = cc
  direct_is T M (assign m p e) v d P below s h = cc
  direct_is T M (update m o p e) v d P below s h = cc
  direct_is T M (call m f es) v d P below s h = cc
  direct_is T M (input m) v d P below s h = cc
  direct_is T M (print m e) v d P below s h = cc
  direct_is T M (block m b) v d P below s h = cc
  direct_is T M (choose m c l) v d P below s h = cc
  direct_is T M (loop m l e) v d P below s h = cc
  direct_is T M (jump m l k) v d P below s h = cc
  direct_is T M (give m e) v d P below s h = cc

  built_is : (T : List (Option ℕ)) (M : List Value) (w : Making) (es : Operands) (v : Value) → built T M w es ≡ Some v → (P : Functions) (below : Meaning) (s : State) → Shows T M s
      → bind (running.values P below es s) (λ vs s1. acts (Build w (fields_of es) [] nowhere) vs s1) ≡ on [] v s
  built_is T M (constant c) no_operand v d P below s h = bind_on [] s (λ vs s1. acts (Build (constant c) [] [] nowhere) vs s1) ∙ constant_made c v s (some_is (value_of c) v d)
  built_is T M (constant c) (operand_and i e es) v d P below s h = cc
  built_is T M (operation o) no_operand v d P below s h = cc
  built_is T M (operation o) (operand_and i e no_operand) v d P below s h = cc
  built_is T M (operation o) (operand_and i e (operand_and j f no_operand)) v d P below s h =
      let a : (u : Value) × (direct T M e ≡ Some u) × (and_then (direct T M f) (λ w. operated o u w) ≡ Some v) = then_is (direct T M e) (λ u. and_then (direct T M f) (λ w. operated o u w)) v d in
      let b : (w : Value) × (direct T M f ≡ Some w) × (operated o a.0 w ≡ Some v) = then_is (direct T M f) (λ w. operated o a.0 w) v a.2 in
      ap (λ r. bind r (λ vs s1. acts (Build (operation o) (i ∷ j ∷ []) [] nowhere) vs s1))
      (two_values P below i e j f a.0 b.0 s (direct_is T M e a.0 a.1 P below s h) (direct_is T M f b.0 b.1 P below s h))
      ∙ bind_on (a.0 ∷ b.0 ∷ []) s (λ vs s1. acts (Build (operation o) (i ∷ j ∷ []) [] nowhere) vs s1)
      ∙ made_is o (i ∷ j ∷ []) a.0 b.0 v s b.2
  built_is T M (operation o) (operand_and i e (operand_and j f (operand_and k g es))) v d P below s h = cc
  built_is T M negation es v d P below s h = cc
  built_is T M inversion es v d P below s h = cc
  built_is T M lazy es v d P below s h = cc
  built_is T M tuple es v d P below s h = cc
  built_is T M (struct i) es v d P below s h = cc
  built_is T M (variant_of i j) es v d P below s h = cc

-- ---- assignments

stored_is : (T : List (Option ℕ)) (M : List Value) (r : Root) (ss : List Step) (v : Value) (N : List Value) (s : State) → stored T M r ss v ≡ Some N → Shows T M s
    → acts (Write (record { root = r; steps = ss }) nowhere []) (v ∷ []) s ≡ on [] unit_value (with_memory s N)
unfolding result_of
stored_is T M (variable x) [] v N s e h = by (recorded T x) refl e
  where
    by : (o : Option ℕ) → recorded T x ≡ o → stored_in M o v ≡ Some N → acts (Write (record { root = variable x; steps = [] }) nowhere []) (v ∷ []) s ≡ on [] unit_value (with_memory s N)
    by None k e = cc
    by (Some i) k e =
        ap (λ (o : Option Spot). result_of (or_ends (why_not_found (record { root = variable x; steps = [] }) [] s) o (λ at. or_ends (why_not_written s.memory at) (after_write v s.memory at) (λ M. gives [] unit_value (with_memory s M))))) (spot_is x i s (h.1 x ∙ k))
        ∙ ap (λ (o : Option (List Value)). result_of (or_ends (why_not_written s.memory (in_slot i [] true)) o (λ M. gives [] unit_value (with_memory s M)))) (ap (λ M. after_write v M (in_slot i [] true)) h.0 ∙ e)
stored_is T M (variable x) (st ∷ ss) v N s e h = cc
stored_is T M (temporary t) ss v N s e h = cc

assign_is : (T : List (Option ℕ)) (M : List Value) (m : Mark) (p : Place) (e : Exp) (N : List Value) → assigned T M (assign m p e) ≡ Some N → (P : Functions) (below : Meaning) (s : State) → Shows T M s
    → value P below (assign m p e) s ≡ on [] unit_value (with_memory s N)
unfolding value
assign_is T M m p e N d P below s h =
    let a : (v : Value) × (direct T M e ≡ Some v) × (stored T M p.root p.steps v ≡ Some N) = then_is (direct T M e) (λ v. stored T M p.root p.steps v) N d in
    ap (λ r. bind r (λ v s1. acts (Write p nowhere []) (v ∷ []) s1)) (direct_is T M e a.0 a.1 P below s h)
    ∙ bind_on a.0 s (λ v s1. acts (Write p nowhere []) (v ∷ []) s1)
    ∙ stored_is T M p.root p.steps a.0 N s a.2 h

update_is : (T : List (Option ℕ)) (M : List Value) (m : Mark) (o : BinaryOp) (p : Place) (e : Exp) (N : List Value) → assigned T M (update m o p e) ≡ Some N → (P : Functions) (below : Meaning) (s : State) → Shows T M s
    → value P below (update m o p e) s ≡ on [] unit_value (with_memory s N)
unfolding value
update_is T M m o p e N d P below s h =
    let c : (w : Value) × (both o (at_place T M p.root p.steps) (direct T M e) ≡ Some w) × (stored T M p.root p.steps w ≡ Some N)
    = then_is (both o (at_place T M p.root p.steps) (direct T M e)) (λ w. stored T M p.root p.steps w) N d in
    let b : (u : Value) × (at_place T M p.root p.steps ≡ Some u) × (and_then (direct T M e) (λ v. operated o u v) ≡ Some c.0)
    = then_is (at_place T M p.root p.steps) (λ u. and_then (direct T M e) (λ v. operated o u v)) c.0 c.1 in
    let a : (v : Value) × (direct T M e ≡ Some v) × (operated o b.0 v ≡ Some c.0) = then_is (direct T M e) (λ v. operated o b.0 v) c.0 b.2 in
    let write : Value → State → Result ℕ Value = λ w s3. acts (Write p nowhere []) (w ∷ []) s3 in
    let make : Value → Value → State → Result ℕ Value = λ v u s2. bind (acts (Build (operation o) [] [] nowhere) (u ∷ v ∷ []) s2) write in
    let look : Value → State → Result ℕ Value = λ v s1. bind (acts (Read false p nowhere) [] s1) (make v) in
    ap (λ r. bind r look) (direct_is T M e a.0 a.1 P below s h)
    ∙ bind_on a.0 s look
    ∙ ap (λ r. bind r (make a.0)) (read_is T M p.root p.steps false b.0 s b.1 h)
    ∙ bind_on b.0 s (make a.0)
    ∙ ap (λ r. bind r write) (made_is o [] b.0 a.0 c.0 s a.2)
    ∙ bind_on c.0 s write
    ∙ stored_is T M p.root p.steps c.0 N s c.2 h

pub assigned_is : (T : List (Option ℕ)) (M : List Value) (e : Exp) (N : List Value) → assigned T M e ≡ Some N → (P : Functions) (below : Meaning) (s : State) → Shows T M s
    → value P below e s ≡ on [] unit_value (with_memory s N)
assigned_is T M (assign m p e) N d P below s h = assign_is T M m p e N d P below s h
assigned_is T M (update m o p e) N d P below s h = update_is T M m o p e N d P below s h
assigned_is T M (read m moves p) N d P below s h = cc
assigned_is T M (build m w es) N d P below s h = cc
assigned_is T M (borrow m k p) N d P below s h = cc
assigned_is T M (share m e) N d P below s h = cc
assigned_is T M (unit m) N d P below s h = cc
assigned_is T M (lazily m b e f) N d P below s h = cc
assigned_is T M (call m f es) N d P below s h = cc
assigned_is T M (input m) N d P below s h = cc
assigned_is T M (print m e) N d P below s h = cc
assigned_is T M (block m b) N d P below s h = cc
assigned_is T M (choose m c l) N d P below s h = cc
assigned_is T M (loop m l e) N d P below s h = cc
assigned_is T M (jump m l k) N d P below s h = cc
assigned_is T M (give m e) N d P below s h = cc

-- ---- arms

pub picked_is : (v : Value) (l : Arms) (e : Exp) (t : Temporary) → picked v l ≡ Some e → (P : Functions) (below : Meaning) (s : State) → running.arms P below (in_temporary t) (v ∷ []) l s ≡ value P below e s
unfolding value tested bound bind decided result_of
picked_is v no_arm e t d P below s = cc
picked_is v (arm_and tree.any f rest) e t d P below s = ap (λ g. value P below g s) (some_is f e d)
picked_is v (arm_and (tree.exactly n c) f rest) e t d P below s = by (checked (equals c) v) d (λ q. picked_is v rest e t q P below s)
  where
    arm : Option Bool → Result ℕ Value
    arm o = bind (result_of (or_ends (why_not_checked v) o (λ b. gives [] (truth b) s))) (λ u s1. decided u (λ s2. value P below f s2) (λ s2. running.arms P below (in_temporary t) (v ∷ []) rest s2) s1)

    by : (o : Option Bool) → if_fits o f (picked v rest) ≡ Some e → (picked v rest ≡ Some e → running.arms P below (in_temporary t) (v ∷ []) rest s ≡ value P below e s) → arm o ≡ value P below e s
    by None d k = cc
    by (Some true) d k = after_nothing (value P below f s) ∙ ap (λ g. value P below g s) (some_is f e d)
    by (Some false) d k = after_nothing (running.arms P below (in_temporary t) (v ∷ []) rest s) ∙ k d
picked_is v (arm_and (tree.bind n x m) f rest) e t d P below s = cc
picked_is v (arm_and (tree.parts ps) f rest) e t d P below s = cc
picked_is v (arm_and (tree.variant n i b j ps) f rest) e t d P below s = cc
picked_is v (arm_and (tree.behind m p) f rest) e t d P below s = cc

choice_is : (v : Value) (m : Mark) (c : Exp) (l : Arms) (e : Exp) → picked v l ≡ Some e → (P : Functions) (below : Meaning) (s : State) → value P below c s ≡ on [] v s → value P below (choose m (of_value c) l) s ≡ value P below e s
unfolding value
choice_is v m c l e d P below s h =
    ap (λ r. bind (bind r (λ v s1. on [] (v ∷ []) s1)) (λ vs s1. running.arms P below (in_temporary (temporary_of c)) vs l s1)) h
    ∙ ap (λ r. bind r (λ vs s1. running.arms P below (in_temporary (temporary_of c)) vs l s1)) (bind_on v s (λ v s1. on [] (v ∷ []) s1))
    ∙ bind_on (v ∷ []) s (λ vs s1. running.arms P below (in_temporary (temporary_of c)) vs l s1)
    ∙ picked_is v l e (temporary_of c) d P below s

-- ---- sizes

-- only a loop has none
direct_size : (T : List (Option ℕ)) (M : List Value) (e : Exp) (v : Value) → direct T M e ≡ Some v → 1 ≤ size e
unfolding direct size
direct_size T M (read m moves p) v d = omega arith
direct_size T M (build m w no_operand) v d = omega arith
direct_size T M (build m w (operand_and i e es)) v d = omega arith
direct_size T M (borrow m k p) v d = omega arith
direct_size T M (share m e) v d = omega arith
direct_size T M (unit m) v d = omega arith
direct_size T M (lazily m b e f) v d = omega arith
direct_size T M (assign m p e) v d = omega arith
direct_size T M (update m o p e) v d = omega arith
direct_size T M (call m f no_operand) v d = omega arith
direct_size T M (call m f (operand_and i e es)) v d = omega arith
direct_size T M (input m) v d = omega arith
direct_size T M (print m e) v d = omega arith
direct_size T M (block m b) v d = omega arith
direct_size T M (choose m c l) v d = cc
direct_size T M (loop m l e) v d = cc
direct_size T M (jump m l k) v d = omega arith
direct_size T M (give m e) v d = omega arith

assigned_size : (T : List (Option ℕ)) (M : List Value) (e : Exp) (N : List Value) → assigned T M e ≡ Some N → 1 ≤ size e
unfolding size
assigned_size T M (assign m p e) N d = omega arith
assigned_size T M (update m o p e) N d = omega arith
assigned_size T M (read m moves p) N d = cc
assigned_size T M (build m w es) N d = cc
assigned_size T M (borrow m k p) N d = cc
assigned_size T M (share m e) N d = cc
assigned_size T M (unit m) N d = cc
assigned_size T M (lazily m b e f) N d = cc
assigned_size T M (call m f es) N d = cc
assigned_size T M (input m) N d = cc
assigned_size T M (print m e) N d = cc
assigned_size T M (block m b) N d = cc
assigned_size T M (choose m c l) N d = cc
assigned_size T M (loop m l e) N d = cc
assigned_size T M (jump m l k) N d = cc
assigned_size T M (give m e) N d = cc

picked_size : (v : Value) (l : Arms) (e : Exp) → picked v l ≡ Some e → size e ≤ size_arms l
unfolding size
picked_size v no_arm e d = cc
picked_size v (arm_and p f rest) e d = by (fits v p) d (λ k. picked_size v rest e k)
  where
    by : (o : Option Bool) → if_fits o f (picked v rest) ≡ Some e → (picked v rest ≡ Some e → size e ≤ size_arms rest) → size e ≤ 1 + size f + size_arms rest
    by None d k = cc
    by (Some true) d k = let h : size f ≡ size e = ap size (some_is f e d) in omega (arith, h)
    by (Some false) d k = let h : size e ≤ size_arms rest = k d in omega (arith, h)

unit_size : (m : Mark) → 1 ≤ size (unit m)
unfolding size
unit_size m = omega arith

unit_gives : (P : Functions) (below : Meaning) (m : Mark) (s : State) → value P below (unit m) s ≡ on [] unit_value s
unfolding value
unit_gives P below m s = refl

-- ---- how far an expression comes

same_memory : (s : State) (M : List Value) → s.memory ≡ M → s ≡ with_memory s M
same_memory s M e = subst (λ N. s ≡ with_memory s N) e refl

-- after a write
shows_after : (T : List (Option ℕ)) (M N : List Value) (s : State) → Shows T M s → Shows T N (with_memory s N)
shows_after T M N s h = (refl, h.1)

pub comes_self : (T : List (Option ℕ)) (M : List Value) (e : Exp) → Comes T M e M (into e)
comes_self T M e = (λ P below s h. ap (value P below e) (same_memory s M h.0), omega arith)

pub comes_direct : (T : List (Option ℕ)) (M : List Value) (e : Exp) (v : Value) → direct T M e ≡ Some v → Comes T M e M (gave v)
comes_direct T M e v d = (λ P below s h. direct_is T M e v d P below s h ∙ ap (λ s. on [] v s) (same_memory s M h.0), direct_size T M e v d)

pub comes_unit : (T : List (Option ℕ)) (M : List Value) (m : Mark) → Comes T M (unit m) M (gave unit_value)
comes_unit T M m = (λ P below s h. unit_gives P below m s ∙ ap (λ s. on [] unit_value s) (same_memory s M h.0), unit_size m)

pub comes_assigned : (T : List (Option ℕ)) (M : List Value) (e : Exp) (N : List Value) → assigned T M e ≡ Some N → Comes T M e N (gave unit_value)
comes_assigned T M e N d = (λ P below s h. assigned_is T M e N d P below s h, assigned_size T M e N d)

pub comes_choice : (T : List (Option ℕ)) (M : List Value) (m : Mark) (c : Exp) (l : Arms) (v : Value) (e : Exp) (N : List Value) (r : Reach) → direct T M c ≡ Some v → picked v l ≡ Some e → Comes T M e N r
    → Comes T M (choose m (of_value c) l) N r
unfolding size
comes_choice T M m c l v e N r d k h =
    let a : size e ≤ size_arms l = picked_size v l e k in
    let b : reach_size r ≤ size e = h.1 in
    (λ P below s w. choice_is v m c l e k P below s (direct_is T M c v d P below s w) ∙ h.0 P below s w, omega (arith, a, b))

pub comes_behind : (T : List (Option ℕ)) (M : List Value) (m : Mark) (b : Body) (N : List Value) (e : Exp) (L : List Value) (r : Reach) → ComesBody T M b N (ends e) → Comes T N e L r → Comes T M (block m b) L r
unfolding value size
comes_behind T M m b N e L r g h =
    let x : 1 + size e ≤ size_body b = g.1 in
    let y : reach_size r ≤ size e = h.1 in
    (λ P below s w. g.0 P below s w ∙ h.0 P below (with_memory s N) (shows_after T M N s w), omega (arith, x, y))

pub comes_statements : (T : List (Option ℕ)) (M : List Value) (m : Mark) (b : Body) (N : List Value) (c : Body) → ComesBody T M b N c → Comes T M (block m b) N (statements c)
unfolding value size
comes_statements T M m b N c g = let x : size_body c ≤ size_body b = g.1 in (λ P below s w. g.0 P below s w, omega (arith, x))

pub body_begins : (T : List (Option ℕ)) (M : List Value) (b : Body) → ComesBody T M b M b
body_begins T M b = (λ P below s h. ap (body P below b) (same_memory s M h.0), omega arith)

pub body_goes_on : (T : List (Option ℕ)) (M : List Value) (b : Body) (N : List Value) (e : Exp) (rest : Body) (L : List Value) → ComesBody T M b N (runs e rest) → assigned T N e ≡ Some L → ComesBody T M b L rest
unfolding value size
body_goes_on T M b N e rest L g d =
    let x : 2 + size_body rest + size e ≤ size_body b = g.1 in (
      λ P below s w.
          g.0 P below s w
          ∙ ap (λ r. bind r (λ v s1. body P below rest s1)) (assigned_is T N e L d P below (with_memory s N) (shows_after T M N s w))
          ∙ bind_on unit_value (with_memory s L) (λ v s1. body P below rest s1),
      omega (arith, x),
    )

-- ---- one form after another

pub comes_on : (T : List (Option ℕ)) (M : List Value) (e : Exp) (N : List Value) (f : Exp) (L : List Value) (r : Reach) → Comes T M e N (into f) → Comes T N f L r → Comes T M e L r
comes_on T M e N f L r g h =
    let x : size f ≤ size e = g.1 in
    let y : reach_size r ≤ size f = h.1 in
    (λ P below s w. g.0 P below s w ∙ h.0 P below (with_memory s N) (shows_after T M N s w), omega (arith, x, y))

-- a choice goes on with the body of an arm
pub chosen_comes : (T : List (Option ℕ)) (M : List Value) (m : Mark) (c : Scrutinee) (l : Arms) (e : Exp) → Chooses T M c l e → Comes T M (choose m c l) M (into e) × (size e < size (choose m c l))
unfolding size
chosen_comes T M m c l e h =
    let v : Value = h.1 in
    let d : direct T M h.0 ≡ Some v = h.3 in
    let k : picked v l ≡ Some e = h.4 in
    let a : size e ≤ size_arms l = picked_size v l e k in
    subst (λ x. Comes T M (choose m x l) M (into e) × (size e < size (choose m x l))) (sym h.2)
    (comes_choice T M m h.0 l v e M (into e) d k (comes_self T M e), omega (arith, a))

-- a block goes on with its last expression
pub last_comes : (T : List (Option ℕ)) (M : List Value) (m : Mark) (b : Body) (N : List Value) (e : Exp) → ComesBody T M b N (ends e) → Comes T M (block m b) N (into e) × (size e < size (block m b))
unfolding size
last_comes T M m b N e g =
    let x : 1 + size e ≤ size_body b = g.1 in
    (comes_behind T M m b N e N (into e) g (comes_self T N e), omega (arith, x))

-- a statement that was done
pub passes_on : (T : List (Option ℕ)) (M : List Value) (b : Body) (N : List Value) (fs : List (Body → Body)) (L : List Value) (gs : List (Body → Body)) (last : Exp) → ComesBody T M b N (nested_of fs last) → Passes T N fs L gs
    → ComesBody T M b L (nested_of gs last)
passes_on T M b N fs L gs last g h = body_goes_on T M b N h.0 (nested_of gs last) L (subst (λ c. ComesBody T M b N c) (h.2 last) g) h.1

-- where no statement is left
pub last_of : (T : List (Option ℕ)) (M : List Value) (m : Mark) (b : Body) (N : List Value) (ss : List Stmt) (e : Exp) → length ss ≡ 0 → ComesBody T M b N (nested_of (map plain-Stmt ss) e)
    → Comes T M (block m b) N (into e) × (size e < size (block m b))
last_of T M m b N [] e l g = last_comes T M m b N e g
last_of T M m b N (s ∷ ss) e l g = absurd (omega (arith, l))

pub runs_is : (T : List (Option ℕ)) (M : List Value) (e : Exp) (N : List Value) (b : Bool) (f : Body → Body) → ((rest : Body) → f rest ≡ runs e rest) → Wrote (assigned T M e) M N b → Runs T M f N b
runs_is T M e N true f h w = (e, w, h)
runs_is T M e N false f h w = w
