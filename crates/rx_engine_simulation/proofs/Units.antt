-- What is said to give the unit gives it in each run; and what returns the unit alone returns it.
use Rattle.std.proofs.Common.{◌≡◌, ℕ, zero, suc, Bool, true, false, nat_eq, List, [], ◌∷◌, Option, Some, None, refl, sym, subst, if◌then◌else◌}
use Rattle.rx_typed.specs.Tree as tree
use Rattle.rx_typed.specs.Tree.{Mark, Exp, Operands, Scrutinee, Arms, Body, Function, Temporary, Parameter, mark_of, temporary_of}
use Rattle.rx_lower_walks.specs.Matching.{PartTest, Binding, tests, bindings}
use Rattle.rx_lower_walks.specs.Actions.{Act, Declare, Dead, Read, Write, Build, Print, Give, Action, Subject, does, at_mark, test_of, taken, declared, written, subject}
use Rattle.rx_lower_walks.specs.Orders.{Exit, breaks, continues, returns, exit_node, declared_parameter, written_parameter}
use Rattle.rx_meaning.specs.Endings.{Cause}
use Rattle.rx_meaning.specs.Straying.{why_no_part, why_not_found, why_not_written, why_not_checked}
use Rattle.rx_meaning.specs.Places.{spot, after_write}
use Rattle.rx_meaning.specs.Operators.{shown}
use Rattle.rx_meaning.specs.Values.{Value, number, truth, whole, tagged, pointer, lacking, unit_value, get, element, Frame, State, with_memory}
use Rattle.rx_meaning.specs.Results as results
use Rattle.rx_meaning.specs.Results.{Result, on, jumps, stops, Done, or_ends, after, bind, result_of}
use Rattle.rx_meaning.specs.Acting.{performed, does_plainly}
use Rattle.rx_meaning.specs.Patterns.{decided, tested, closed, took, bound, begun}
use Rattle.rx_meaning.specs.Expressions.{Functions, take_turn, turn_at, passed, returned, with_arguments, found, value, values, matched, arms, body, below_level}
use Rattle.rx_engine_simulation.specs.Units.{GivesUnit, of_unit, of_assignment, of_update, of_print, of_call, of_block, of_choice, of_loop, of_jump, of_return, of_passed, AllGiveUnit, no_arm_gives, each_gives, EndsInUnit, tail_gives, behind_run, behind_declaration, behind_let, ReturnsUnit, in_read, in_borrow, in_share, in_build, in_unit, in_lazy, in_assignment, in_update, in_call, in_input, in_print, in_block, in_choice, in_loop, in_jump, in_return, AllReturnUnit, no_operand_returns, operands_return, MatchedReturnsUnit, in_place, in_value, ArmsReturnUnit, no_arm_returns, arms_return, BodyReturnsUnit, tail_returns, run_returns, declaration_returns, let_returns, UnitFunctions}
use Rattle.rx_engine_simulation.specs.Passed.{let_pass, passage}
use Rattle.rx_engine_simulation.proofs.Told.{Told, did, noted, followed}
use Rattle.rx_engine_simulation.proofs.Passed.{pass_goes}

abbrev OnUnit : Result (Told ℕ) Value → Type 0
OnUnit (on o v s) = v ≡ unit_value
OnUnit _ = Unit {0}

abbrev RetUnit : {A : Type 0} → Result (Told ℕ) A → Type 0
RetUnit (jumps o (returns n) v s) = v ≡ unit_value
RetUnit _ = Unit {0}

-- ---- one part behind another

on_after : (w : List (Told ℕ)) (r : Result (Told ℕ) Value) → OnUnit r → OnUnit (after w r)
unfolding after
on_after w (on o v s) k = k
on_after w (jumps o x v s) k = tt
on_after w (stops o e) k = tt

ret_after : {A : Type 0} (w : List (Told ℕ)) (r : Result (Told ℕ) A) → RetUnit r → RetUnit (after w r)
unfolding after
ret_after w (on o v s) k = tt
ret_after w (jumps o (returns n) v s) k = k
ret_after w (jumps o (breaks n l) v s) k = tt
ret_after w (jumps o (continues n l) v s) k = tt
ret_after w (stops o e) k = tt

on_bind : {A : Type 0} (r : Result (Told ℕ) A) (go : A → State → Result (Told ℕ) Value) → ((a : A) (s : State) → OnUnit (go a s)) → OnUnit (bind r go)
unfolding bind
on_bind (on o v s) go k = on_after o (go v s) (k v s)
on_bind (jumps o x v s) go k = tt
on_bind (stops o e) go k = tt

on_told : (a : Action) (r : Result (Told ℕ) Value) → OnUnit r → OnUnit (bind r (λ v s1. on (did a ∷ []) v s1))
unfolding bind after
on_told a (on o v s) k = k
on_told a (jumps o x v s) k = tt
on_told a (stops o e) k = tt

ret_bind : {A B : Type 0} (r : Result (Told ℕ) A) (go : A → State → Result (Told ℕ) B) → RetUnit r → ((a : A) (s : State) → RetUnit (go a s)) → RetUnit (bind r go)
unfolding bind
ret_bind (on o v s) go k l = ret_after o (go v s) (l v s)
ret_bind (jumps o (returns n) v s) go k l = k
ret_bind (jumps o (breaks n i) v s) go k l = tt
ret_bind (jumps o (continues n i) v s) go k l = tt
ret_bind (stops o e) go k l = tt

ret_act : (a : Action) (vs : List Value) (s : State) → RetUnit (performed followed a vs s)
unfolding result_of noted
ret_act a vs s = by (does_plainly a.act vs s)
  where
    by : (d : Done ℕ) → RetUnit (result_of (noted a d))
    by (results.gives w v s) = tt
    by (results.ends w e) = tt

abbrev DoneUnit : Done ℕ → Type 0
DoneUnit (results.gives w v s) = v ≡ unit_value
DoneUnit (results.ends w e) = Unit {0}

done_or : {A : Type 0} (c : Cause) (o : Option A) (f : A → Done ℕ) → ((a : A) → DoneUnit (f a)) → DoneUnit (or_ends c o f)
done_or c None f k = tt
done_or c (Some a) f k = k a

noted_unit : (a : Action) (d : Done ℕ) → DoneUnit d → OnUnit (result_of (noted a d))
unfolding result_of noted
noted_unit a (results.gives w v s) k = k
noted_unit a (results.ends w e) k = tt

write_done : (p : tree.Place) (t : Temporary) (vs : List Value) (s : State) → DoneUnit (does_plainly (Write p t []) vs s)
write_done p t [] s = tt
write_done p t (v ∷ []) s =
    done_or (why_no_part [] v) (get [] v) (λ u. or_ends (why_not_found p [] s) (spot p [] s) (λ at. or_ends (why_not_written s.memory at) (after_write u s.memory at) (λ M. results.gives [] unit_value (with_memory s M)))) (λ u.
    done_or (why_not_found p [] s) (spot p [] s) (λ at. or_ends (why_not_written s.memory at) (after_write u s.memory at) (λ M. results.gives [] unit_value (with_memory s M))) (λ at.
    done_or (why_not_written s.memory at) (after_write u s.memory at) (λ M. results.gives [] unit_value (with_memory s M)) (λ M. refl)))
write_done p t (v ∷ w ∷ vs) s = tt

write_on : (m : Mark) (p : tree.Place) (t : Temporary) (vs : List Value) (s : State) → OnUnit (performed followed (at_mark m (Write p t [])) vs s)
write_on m p t vs s = noted_unit (at_mark m (Write p t [])) (does_plainly (Write p t []) vs s) (write_done p t vs s)

print_done : (t : Temporary) (vs : List Value) (s : State) → DoneUnit (does_plainly (Print t) vs s)
print_done t [] s = tt
print_done t (v ∷ []) s = done_or (why_not_checked v) (shown v) (λ bytes. results.gives bytes unit_value s) (λ b. refl)
print_done t (v ∷ w ∷ vs) s = tt

print_on : (m : Mark) (t : Temporary) (vs : List Value) (s : State) → OnUnit (performed followed (at_mark m (Print t)) vs s)
print_on m t vs s = noted_unit (at_mark m (Print t)) (does_plainly (Print t) vs s) (print_done t vs s)

-- ---- scopes, patterns, turns, calls

on_closed : (n x : ℕ) (r : Result (Told ℕ) Value) → OnUnit r → OnUnit (closed followed n x r)
unfolding closed
on_closed n x (on w v s) k = on_after w _ (on_bind _ _ (λ u s1. k))
on_closed n x (jumps w j v s) k = on_after w _ (on_bind _ _ (λ u s1. tt))
on_closed n x (stops w e) k = tt

later_jump : (w : List (Told ℕ)) (x : Exit) (v : Value) (s s1 : State) → RetUnit {A = Value} (jumps w x v s) → RetUnit {A = Value} (jumps [] x v s1)
later_jump w (returns n) v s s1 k = k
later_jump w (breaks n l) v s s1 k = tt
later_jump w (continues n l) v s s1 k = tt

ret_closed : (n x : ℕ) (r : Result (Told ℕ) Value) → RetUnit r → RetUnit (closed followed n x r)
unfolding closed
ret_closed n x (on w v s) k = ret_after w _ (ret_bind _ _ (ret_act (does n (Dead x)) [] s) (λ u s1. tt))
ret_closed n x (jumps w j v s) k = ret_after w _ (ret_bind _ _ (ret_act (does (exit_node j) (Dead x)) [] s) (λ u s1. later_jump w j v s s1 k))
ret_closed n x (stops w e) k = tt

on_decided : (v : Value) (go other : State → Result (Told ℕ) Value) (s : State) → ((s : State) → OnUnit (go s)) → ((s : State) → OnUnit (other s)) → OnUnit (decided v go other s)
unfolding decided
on_decided (truth true) go other s k l = k s
on_decided (truth false) go other s k l = l s
on_decided (number a z) go other s k l = tt
on_decided (whole vs) go other s k l = tt
on_decided (tagged i vs) go other s k l = tt
on_decided (pointer i ss m) go other s k l = tt
on_decided (lacking a) go other s k l = tt

ret_decided : (v : Value) (go other : State → Result (Told ℕ) Value) (s : State) → ((s : State) → RetUnit (go s)) → ((s : State) → RetUnit (other s)) → RetUnit (decided v go other s)
unfolding decided
ret_decided (truth true) go other s k l = k s
ret_decided (truth false) go other s k l = l s
ret_decided (number a z) go other s k l = tt
ret_decided (whole vs) go other s k l = tt
ret_decided (tagged i vs) go other s k l = tt
ret_decided (pointer i ss m) go other s k l = tt
ret_decided (lacking a) go other s k l = tt

on_tested : (S : Subject) (vs : List Value) (ts : List PartTest) (go next : State → Result (Told ℕ) Value) (s : State) → ((s : State) → OnUnit (go s)) → ((s : State) → OnUnit (next s)) → OnUnit (tested followed S vs ts go next s)
unfolding tested
on_tested S vs [] go next s k l = k s
on_tested S vs (t ∷ ts) go next s k l = on_bind _ _ (λ v s1. on_decided v _ _ s1 (λ s2. on_tested S vs ts go next s2 k l) l)

ret_tested : (S : Subject) (vs : List Value) (ts : List PartTest) (go next : State → Result (Told ℕ) Value) (s : State) → ((s : State) → RetUnit (go s)) → ((s : State) → RetUnit (next s)) → RetUnit (tested followed S vs ts go next s)
unfolding tested
ret_tested S vs [] go next s k l = k s
ret_tested S vs (t ∷ ts) go next s k l = ret_bind _ _ (ret_act (test_of S t) vs s) (λ v s1. ret_decided v _ _ s1 (λ s2. ret_tested S vs ts go next s2 k l) l)

on_bound_all : (S : Subject) (vs : List Value) (bs : List Binding) (n : ℕ) (go : State → Result (Told ℕ) Value) (s : State) → ((s : State) → OnUnit (go s)) → OnUnit (bound followed S vs bs n go s)
unfolding bound
on_bound_all S vs [] n go s k = k s
on_bound_all S vs (b ∷ bs) n go s k = on_bind _ _ (λ ws s1. on_bind _ _ (λ u s2. on_bind _ _ (λ w s3. on_closed n b.variable _ (on_bound_all S vs bs n go s3 k))))

ret_took : (n : ℕ) (o : Option Act) (vs : List Value) (s : State) → RetUnit (took followed n o vs s)
unfolding took
ret_took n None vs s = tt
ret_took n (Some a) vs s = ret_bind _ _ (ret_act (does n a) vs s) (λ v s1. tt)

ret_bound : (S : Subject) (vs : List Value) (bs : List Binding) (n : ℕ) (go : State → Result (Told ℕ) Value) (s : State) → ((s : State) → RetUnit (go s)) → RetUnit (bound followed S vs bs n go s)
unfolding bound
ret_bound S vs [] n go s k = k s
ret_bound S vs (b ∷ bs) n go s k =
    ret_bind _ _ (ret_took b.node (taken S b) vs s) (λ ws s1. ret_bind _ _ (ret_act (declared b) [] s1) (λ u s2. ret_bind _ _ (ret_act (written S b) ws s2) (λ w s3. ret_closed n b.variable _ (ret_bound S vs bs n go s3 k))))

on_begun : (i : ℕ) (xs : List ℕ) (n : ℕ) (go : State → Result (Told ℕ) Value) (s : State) → ((s : State) → OnUnit (go s)) → OnUnit (begun followed i xs n go s)
unfolding begun
on_begun i [] n go s k = k s
on_begun i (x ∷ xs) n go s k = on_bind _ _ (λ u s1. on_closed n x _ (on_begun i xs n go s1 k))

ret_begun : (i : ℕ) (xs : List ℕ) (n : ℕ) (go : State → Result (Told ℕ) Value) (s : State) → ((s : State) → RetUnit (go s)) → RetUnit (begun followed i xs n go s)
unfolding begun
ret_begun i [] n go s k = k s
ret_begun i (x ∷ xs) n go s k = ret_bind _ _ (ret_act (does i (Declare x)) [] s) (λ u s1. ret_closed n x _ (ret_begun i xs n go s1 k))

on_turn : (s : State) (go : State → Result (Told ℕ) Value) → ((s : State) → OnUnit (go s)) → OnUnit (take_turn s go)
unfolding take_turn
on_turn s go k = by s.turns
  where
    by : (n : ℕ) → OnUnit (turn_at n s go)
    by zero = tt
    by (suc n) = k _

ret_turn : (s : State) (go : State → Result (Told ℕ) Value) → ((s : State) → RetUnit (go s)) → RetUnit (take_turn s go)
unfolding take_turn
ret_turn s go k = by s.turns
  where
    by : (n : ℕ) → RetUnit (turn_at n s go)
    by zero = tt
    by (suc n) = k _

on_if : (b : Bool) (w : List (Told ℕ)) (x : Exit) (v : Value) (s : State) → OnUnit (if b then on w unit_value s else jumps w x v s)
on_if true w x v s = refl
on_if false w x v s = tt

on_again : (b : Bool) (w : List (Told ℕ)) (x : Exit) (v : Value) (s : State) (again : State → Result (Told ℕ) Value) → ((s : State) → OnUnit (again s)) → OnUnit (if b then after w (again s) else jumps w x v s)
on_again true w x v s again k = on_after w (again s) (k s)
on_again false w x v s again k = tt

on_passed : (l : ℕ) (r : Result (Told ℕ) Value) (again : State → Result (Told ℕ) Value) → ((s : State) → OnUnit (again s)) → OnUnit (passed l r again)
unfolding passed
on_passed l (on w v s) again k = on_after w (again s) (k s)
on_passed l (jumps w (breaks n i) v s) again k = on_if (nat_eq i l) w (breaks n i) v s
on_passed l (jumps w (continues n i) v s) again k = on_again (nat_eq i l) w (continues n i) v s again k
on_passed l (jumps w (returns n) v s) again k = tt
on_passed l (stops w e) again k = tt

ret_if : (b : Bool) (w : List (Told ℕ)) (n i : ℕ) (v : Value) (s : State) → RetUnit {A = Value} (if b then on w unit_value s else jumps w (breaks n i) v s)
ret_if true w n i v s = tt
ret_if false w n i v s = tt

ret_again : (b : Bool) (w : List (Told ℕ)) (n i : ℕ) (v : Value) (s : State) (again : State → Result (Told ℕ) Value) → ((s : State) → RetUnit (again s)) → RetUnit (if b then after w (again s) else jumps w (continues n i) v s)
ret_again true w n i v s again k = ret_after w (again s) (k s)
ret_again false w n i v s again k = tt

ret_passed : (l : ℕ) (r : Result (Told ℕ) Value) (again : State → Result (Told ℕ) Value) → RetUnit r → ((s : State) → RetUnit (again s)) → RetUnit (passed l r again)
unfolding passed
ret_passed l (on w v s) again q k = ret_after w (again s) (k s)
ret_passed l (jumps w (breaks n i) v s) again q k = ret_if (nat_eq i l) w n i v s
ret_passed l (jumps w (continues n i) v s) again q k = ret_again (nat_eq i l) w n i v s again k
ret_passed l (jumps w (returns n) v s) again q k = q
ret_passed l (stops w e) again q k = tt

on_returned : (F : Frame) (r : Result (Told ℕ) Value) → RetUnit r → OnUnit (returned followed F r)
unfolding returned
on_returned F (on w v s) k = tt
on_returned F (jumps w (returns n) v s) k = k
on_returned F (jumps w (breaks n l) v s) k = tt
on_returned F (jumps w (continues n l) v s) k = tt
on_returned F (stops w e) k = tt

ret_returned : (F : Frame) (r : Result (Told ℕ) Value) → RetUnit (returned followed F r)
unfolding returned
ret_returned F (on w v s) = tt
ret_returned F (jumps w (returns n) v s) = tt
ret_returned F (jumps w (breaks n l) v s) = tt
ret_returned F (jumps w (continues n l) v s) = tt
ret_returned F (stops w e) = tt

ret_arguments : (ps : List Parameter) (n : ℕ) (vs : List Value) (go : State → Result (Told ℕ) Value) (s : State) → ((s : State) → RetUnit (go s)) → RetUnit (with_arguments followed ps n vs go s)
unfolding with_arguments
ret_arguments [] n [] go s k = k s
ret_arguments [] n (v ∷ vs) go s k = tt
ret_arguments (p ∷ ps) n [] go s k = tt
ret_arguments (p ∷ ps) n (v ∷ vs) go s k =
    ret_bind _ _ (ret_act (declared_parameter p) [] s) (λ u s1. ret_bind _ _ (ret_act (written_parameter p) (v ∷ []) s1) (λ w s2. ret_closed n p.variable _ (ret_arguments ps n vs go s2 k)))

on_found : (o : Option (Option Function)) (go : Function → Result (Told ℕ) Value) → ((g : Function) → o ≡ Some (Some g) → OnUnit (go g)) → OnUnit (found o go)
on_found None go k = tt
on_found (Some None) go k = tt
on_found (Some (Some g)) go k = k g refl

ret_found : (o : Option (Option Function)) (go : Function → Result (Told ℕ) Value) → ((g : Function) → RetUnit (go g)) → RetUnit (found o go)
ret_found None go k = tt
ret_found (Some None) go k = tt
ret_found (Some (Some g)) go k = k g

-- what is given is returned
ret_gave : (w : Mark) (t : Temporary) (s : State) → RetUnit {A = Value} (bind {B = Value} (performed followed (at_mark w (Give t)) (unit_value ∷ []) s) (λ u s2. jumps [] (returns w.node) u s2))
unfolding bind after result_of noted
ret_gave w t s = refl

returned_unit : (r : Result (Told ℕ) Value) (go : Value → State → Result (Told ℕ) Value) → OnUnit r → RetUnit r → ((s : State) → RetUnit (go unit_value s)) → RetUnit (bind r go)
unfolding bind
returned_unit (on o v s) go k l f = ret_after o (go v s) (subst (λ v. RetUnit (go v s)) (sym k) (f s))
returned_unit (jumps o (returns n) v s) go k l f = l
returned_unit (jumps o (breaks n i) v s) go k l f = tt
returned_unit (jumps o (continues n i) v s) go k l f = tt
returned_unit (stops o e) go k l f = tt

-- ---- by the levels, then by the form

module _ (P : Functions) (U : List ℕ) (units : UnitFunctions P U) where
  record Below (m : ℕ) : Type 0 where
    gives_below : (e : Exp) → GivesUnit U e → (t : Temporary) (s : State) → OnUnit (below_level followed P m e t s)
    returns_below : (e : Exp) → ReturnsUnit U e → (t : Temporary) (s : State) → RetUnit (below_level followed P m e t s)

  module _ (m : ℕ) (below : Below m) where
    mutual
      unfolding value

      gives_on : {e : Exp} → GivesUnit U e → (t : Temporary) (s : State) → OnUnit (value followed P (below_level followed P m) e t s)
      gives_on of_unit t s = refl
      gives_on (of_assignment {m = w} {p = p} {e = e}) t s = on_bind _ _ (λ v s1. write_on w p (temporary_of e) (v ∷ []) s1)
      gives_on (of_update {m = w} {p = p} {e = e}) t s = on_bind _ _ (λ v s1. on_bind _ _ (λ u s2. on_bind _ _ (λ x s3. write_on w p (tree.temporary_at w.node 2) (x ∷ []) s3)))
      gives_on (of_print {m = w} {e = e}) t s = on_bind _ _ (λ v s1. print_on w (temporary_of e) (v ∷ []) s1)
      gives_on (of_call {m = w} {f = f} i) t s =
          on_bind _ _ (λ vs s1. on_bind _ _ (λ u s2. on_found (element P f) _ (λ g is. on_turn s2 _ (λ s3. on_returned s3.frame _
          (ret_arguments g.params (mark_of g.body).node vs _ _ (λ s4. below.returns_below g.body (units f i g is) (temporary_of g.body) s4))))))
      gives_on (of_block {m = w} k) t s = body_on k w.node t s
      gives_on (of_choice {c = c} {l = l} k) t s = on_bind _ _ (λ vs s1. arms_on k (subject c) vs t s1)
      gives_on (of_loop {m = w} {l = l} {e = e}) t s = on_turn s _ (λ s1. on_passed l _ _ (λ s2. below.gives_below (tree.loop w l e) of_loop t s2))
      gives_on of_jump t s = tt
      gives_on of_return t s = on_bind _ _ (λ v s1. on_bind _ _ (λ w s2. tt))
      gives_on (of_passed {e = e} k) t s = subst OnUnit (sym (pass_goes P (below_level followed P m) e t s)) (on_told (passage e t) (value followed P (below_level followed P m) e (temporary_of e) s) (gives_on k (temporary_of e) s))

      arms_on : {l : Arms} → AllGiveUnit U l → (S : Subject) (vs : List Value) (t : Temporary) (s : State) → OnUnit (arms followed P (below_level followed P m) S vs l t s)
      arms_on no_arm_gives S vs t s = tt
      arms_on (each_gives {q = q} {e = e} k ks) S vs t s = on_tested S vs (tests [] q) _ _ s (λ s1. on_bound_all S vs (bindings [] q) (mark_of e).node _ s1 (λ s2. gives_on k t s2)) (λ s1. arms_on ks S vs t s1)

      body_on : {b : Body} → EndsInUnit U b → (n : ℕ) (t : Temporary) (s : State) → OnUnit (body followed P (below_level followed P m) b n t s)
      body_on (tail_gives k) n t s = gives_on k t s
      body_on (behind_run k) n t s = on_bind _ _ (λ v s1. body_on k n t s1)
      body_on (behind_declaration {n = i} {xs = xs} k) n t s = on_begun i xs n _ s (λ s1. body_on k n t s1)
      body_on (behind_let {q = q} {c = c} k) n t s = on_bind _ _ (λ vs s1. on_bound_all (subject c) vs (bindings [] q) n _ s1 (λ s2. body_on k n t s2))

    mutual
      unfolding value

      returns_on : {e : Exp} → ReturnsUnit U e → (t : Temporary) (s : State) → RetUnit (value followed P (below_level followed P m) e t s)
      returns_on in_read t s = ret_act _ [] s
      returns_on in_borrow t s = ret_act _ [] s
      returns_on (in_share k) t s = ret_bind _ _ (returns_on k _ s) (λ v s1. ret_act _ (v ∷ []) s1)
      returns_on (in_build k) t s = ret_bind _ _ (all_return k s) (λ vs s1. ret_act _ vs s1)
      returns_on in_unit t s = tt
      returns_on (in_lazy {m = w} {e = e} {f = f} k l) t s =
          ret_bind _ _ (returns_on k (temporary_of e) s) (λ v s1. ret_bind _ _ (ret_act _ (v ∷ []) s1) (λ u s2.
          ret_bind _ _ (ret_decided u (λ s3. value followed P (below_level followed P m) f (temporary_of f) s3) (λ s3. on [] v s3) s2 (λ s3. returns_on l (temporary_of f) s3) (λ s3. tt)) (λ x s4.
          ret_act (at_mark w (Build tree.lazy [] (temporary_of e ∷ temporary_of f ∷ []) t)) (x ∷ []) s4)))
      returns_on (in_assignment k) t s = ret_bind _ _ (returns_on k _ s) (λ v s1. ret_act _ (v ∷ []) s1)
      returns_on (in_update {m = w} {o = o} {p = p} {e = e} k) t s =
          ret_bind _ _ (returns_on k (temporary_of e) s) (λ v s1. ret_bind _ _ (ret_act (at_mark w (Read false p (tree.temporary_at w.node 1))) [] s1) (λ u s2.
          ret_bind _ _ (ret_act (at_mark w (Build (tree.operation o) [] (tree.temporary_at w.node 1 ∷ temporary_of e ∷ []) (tree.temporary_at w.node 2))) (u ∷ v ∷ []) s2) (λ x s3.
          ret_act (at_mark w (Write p (tree.temporary_at w.node 2) [])) (x ∷ []) s3)))
      returns_on (in_call {f = f} k) t s = ret_bind _ _ (all_return k s) (λ vs s1. ret_bind _ _ (ret_act _ vs s1) (λ u s2. ret_found (element P f) _ (λ g. ret_turn s2 _ (λ s3. ret_returned s3.frame _))))
      returns_on in_input t s = ret_act _ [] s
      returns_on (in_print k) t s = ret_bind _ _ (returns_on k _ s) (λ v s1. ret_act _ (v ∷ []) s1)
      returns_on (in_block {m = w} k) t s = body_return k w.node t s
      returns_on (in_choice {c = c} k l) t s = ret_bind _ _ (matched_return k s) (λ vs s1. arms_return_on l (subject c) vs t s1)
      returns_on (in_loop {m = w} {l = l} {e = e} k) t s = ret_turn s _ (λ s1. ret_passed l _ _ (below.returns_below e k (temporary_of e) s1) (λ s2. below.returns_below (tree.loop w l e) (in_loop k) t s2))
      returns_on (in_jump {again = true}) t s = tt
      returns_on (in_jump {again = false}) t s = tt
      returns_on (in_return {m = w} {e = e} g k) t s = returned_unit (value followed P (below_level followed P m) e (temporary_of e) s) _ (gives_on g (temporary_of e) s) (returns_on k (temporary_of e) s) (λ s1. ret_gave w (temporary_of e) s1)

      all_return : {es : Operands} → AllReturnUnit U es → (s : State) → RetUnit (values followed P (below_level followed P m) es s)
      all_return no_operand_returns s = tt
      all_return (operands_return k l) s = ret_bind _ _ (returns_on k _ s) (λ v s1. ret_bind _ _ (all_return l s1) (λ vs s2. tt))

      matched_return : {c : Scrutinee} → MatchedReturnsUnit U c → (s : State) → RetUnit (matched followed P (below_level followed P m) c s)
      matched_return in_place s = tt
      matched_return (in_value k) s = ret_bind _ _ (returns_on k _ s) (λ v s1. tt)

      arms_return_on : {l : Arms} → ArmsReturnUnit U l → (S : Subject) (vs : List Value) (t : Temporary) (s : State) → RetUnit (arms followed P (below_level followed P m) S vs l t s)
      arms_return_on no_arm_returns S vs t s = tt
      arms_return_on (arms_return {q = q} {e = e} k ks) S vs t s = ret_tested S vs (tests [] q) _ _ s (λ s1. ret_bound S vs (bindings [] q) (mark_of e).node _ s1 (λ s2. returns_on k t s2)) (λ s1. arms_return_on ks S vs t s1)

      body_return : {b : Body} → BodyReturnsUnit U b → (n : ℕ) (t : Temporary) (s : State) → RetUnit (body followed P (below_level followed P m) b n t s)
      body_return (tail_returns k) n t s = returns_on k t s
      body_return (run_returns k l) n t s = ret_bind _ _ (returns_on k _ s) (λ v s1. body_return l n t s1)
      body_return (declaration_returns {n = i} {xs = xs} k) n t s = ret_begun i xs n _ s (λ s1. body_return k n t s1)
      body_return (let_returns {q = q} {c = c} k l) n t s = ret_bind _ _ (matched_return k s) (λ vs s1. ret_bound (subject c) vs (bindings [] q) n _ s1 (λ s2. body_return l n t s2))

  below_all : (m : ℕ) → Below m
  unfolding below_level
  below_all zero = record { gives_below = λ e k t s. tt; returns_below = λ e k t s. tt }
  below_all (suc m) = record { gives_below = λ e k t s. gives_on m (below_all m) k t s; returns_below = λ e k t s. returns_on m (below_all m) k t s }

  on_given : (r : Result (Told ℕ) Value) (o : List (Told ℕ)) (v : Value) (s1 : State) → r ≡ on o v s1 → OnUnit r → v ≡ unit_value
  on_given r o v s1 e k = subst OnUnit e k

  pub unit_given : (m : ℕ) {e : Exp} → GivesUnit U e → (t : Temporary) (s : State) (o : List (Told ℕ)) (v : Value) (s1 : State) → value followed P (below_level followed P m) e t s ≡ on o v s1 → v ≡ unit_value
  unit_given m k t s o v s1 e = on_given _ o v s1 e (gives_on m (below_all m) k t s)
