-- So of the run's statements, one behind another, with what the new function is given in front, and what it gives at their end.
use Rattle.std.proofs.Common.{◌≡◌, ◌≢◌, ℕ, suc, Bool, true, false, if◌then◌else◌, List, [], ◌∷◌, map, Option, Some, None, refl, sym, ◌∙◌, subst, ap, eqb-true}
use Rattle.rx_typed.specs.Tree as tree
use Rattle.rx_typed.specs.Tree.{Mark, Temporary, Parameter, Operands, Exp, Body, Function, own, mark_of, temporary_of}
use Rattle.rx_typed_declarations.specs.Sizes.{Sized}
use Rattle.rx_lower_walks.specs.Matching.{bindings}
use Rattle.rx_lower_walks.specs.Actions.{Read, Action, at_mark, subject}
use Rattle.rx_lower_walks.specs.Orders.{Order, beginning, order, order_body, order_function}
use Rattle.rx_lower_walks.specs.Walks.{stopped, stops, acts, both, first, Among, here, there}
use Rattle.rx_lower_walks.specs.Walks as walk
use Rattle.rx_facts_tables.specs.Initialised.{Initialised}
use Rattle.rx_exits_plan.specs.Blocks as block
use Rattle.rx_exits_plan.specs.Points.{Exit, next, breaks, continues, returns, jump_exit, same_exit, Point, enters, leaves}
use Rattle.rx_exits_plan.specs.Marked.{at_point, mark, shown, using, entering}
use Rattle.rx_exits_plan.specs.Asked.{Asked}
use Rattle.rx_exits_plan.specs.Plan.{Plan}
use Rattle.rx_modes_policy.specs.declared.uses.Mode.{Mode}
use Rattle.rx_meaning_keeping.proofs.Parts.{parted}
use Rattle.rx_engine_simulation.specs.Turns.{Allowance}
use Rattle.rx_engine_simulation.specs.Sights.{Sight, Renaming, sight_of}
use Rattle.rx_engine_simulation.specs.Places.{IsDirect}
use Rattle.rx_engine_simulation.specs.Jumps.{Pack, as_return, Jumping, loop_of}
use Rattle.rx_engine_simulation.specs.Blocks.{Stretch, before, with_locals}
use Rattle.rx_engine_simulation.specs.Packing.{Way, Gives}
use Rattle.rx_engine_simulation.specs.Passing.{inner_jumps}
use Rattle.rx_engine_simulation.specs.Statements.{body_of}
use Rattle.rx_engine_related.specs.AboutRun.{special_of}
use Rattle.rx_engine_related.specs.ByForm.{by_form, IsItself}
use Rattle.rx_engine_related.specs.Given.{EntersWith}
use Rattle.rx_engine_related.specs.Had.{Had}
use Rattle.rx_engine_related.specs.Moved.{Moved, moved_all, moved_statement, moved_declaration, moved_let, moved_read, moved_look}
use Rattle.rx_engine_related.specs.Leaving.{HaveThere, place_from, variant_for, pack_if, returning_if, jumps_of}
use Rattle.rx_engine_initial.specs.Matching.{Matches, is_only_old}
use Rattle.rx_engine_initial.specs.Variables.{Sides, LikeVariable, KnownVariables}
use Rattle.rx_engine_initial.specs.Copies.{LeavesAll, world}
use Rattle.rx_engine_initial.specs.Handing.{no_action, one_action, in_sequence}
use Rattle.rx_engine_initial.specs.Planned.{IsTextOf, MeetsMark}
use Rattle.rx_engine_initial.proofs.PassedOver.{passed_over}
use Rattle.rx_engine_initial.proofs.Uses.{some_is, none_is}
use Rattle.rx_engine_initial_forms.specs.Binders.{AlikeBindings}
use Rattle.rx_engine_initial_forms.specs.Alike as alike
use Rattle.rx_engine_initial_forms.specs.Alike.{AlikeBody}
use Rattle.rx_engine_initial_forms.specs.Agreeing.{Agrees}
use Rattle.rx_engine_initial_forms.specs.Following.{AgreesOnLoops}
use Rattle.rx_engine_initial_forms.proofs.Begun.{declared_alike, bindings_alike}
use Rattle.rx_engine_initial_forms.proofs.Forms.{body_matches}
use Rattle.rx_engine_initial_forms.proofs.Following.{declared_loops, bound_loops, same_loops}
use Rattle.rx_engine_initial_related.specs.AlsoMarked.{AlsoMarkedStretch, done_too, does_too, begins_too, binds_too}
use Rattle.rx_engine_initial_related.specs.Moving.{LeavesBy, StretchMoves}
use Rattle.rx_engine_initial_related.proofs.NewExits.{new_exit_matches}
use Rattle.rx_engine_initial_related.proofs.EntryScope.{entry_matches}
use Rattle.rx_engine_initial_related.proofs.MovedTrees.{moved, moved_matched, subjects_same}

-- ---- the jumps of the new function

not_so : {A : Type 0} → false ≡ true → A
not_so q = absurd (cc)

next_goes_on : next ≢ returns
next_goes_on q = cc

no_loop : {A : Type 0} {c : ℕ × ℕ} → Among c [] → A
no_loop i = elim i [ ]

pub loops_agree : {S : Sides} (J : Jumping) (T : KnownVariables S) → J.loops ≡ [] → T.loops ≡ [] → AgreesOnLoops S J T
loops_agree J T e f = record {
  known = λ l k h. none_is (subst (λ ls. loop_of ls l ≡ Some k) e h);
  no_others = λ l k i. no_loop (subst (λ ls. Among (k, l) ls) f i);
}

exit_there : (i : ℕ) (e : Exit) (xs : List Exit) {v : ℕ} → ((x : Exit) → same_exit e x ≡ true → x ≡ e) → place_from i e xs ≡ Some v → Among e xs
exit_there i e [] f h = none_is h
exit_there i e (x ∷ xs) {v} f h = by (same_exit e x) refl h (λ q. exit_there (suc i) e xs f q)
  where
    by : (b : Bool) → same_exit e x ≡ b → (if b then Some i else place_from (suc i) e xs) ≡ Some v → (place_from (suc i) e xs ≡ Some v → Among e xs) → Among e (x ∷ xs)
    by true q p rest = subst (λ y. Among e (y ∷ xs)) (sym (f x q)) here
    by false q p rest = there (rest p)

same_end : (x : Exit) → same_exit next x ≡ true → x ≡ next
same_end next e = refl
same_end (breaks n) e = not_so e
same_end (continues n) e = not_so e
same_end returns e = not_so e

-- an end with a variant is an exit
pub next_there : (k : Plan) {v : ℕ} → variant_for k next ≡ Some v → Among next k.exits
next_there k h = exit_there 0 next k.exits same_end h

pack_is : (xs : List ℕ) (o : Option ℕ) (p : Pack) → pack_if xs o ≡ Some p → (v : ℕ) × (o ≡ Some v) × (p.outs ≡ xs)
pack_is xs None p h = none_is h
pack_is xs (Some v) p h = (v, refl, ap (λ (q : Pack). q.outs) (sym (some_is h)))

same_jump : (l : ℕ) (again : Bool) (x : Exit) → same_exit (jump_exit l again) x ≡ true → x ≡ jump_exit l again
same_jump l true (continues n) e = ap (λ v. continues v) (sym (eqb-true l n e))
same_jump l false (breaks n) e = ap (λ v. breaks v) (sym (eqb-true l n e))
same_jump l true next e = not_so e
same_jump l true (breaks n) e = not_so e
same_jump l true returns e = not_so e
same_jump l false next e = not_so e
same_jump l false (continues n) e = not_so e
same_jump l false returns e = not_so e

no_such_return : (unit : Bool) (o : Option ℕ) → returning_if unit o ≡ as_return → ⊥
no_such_return unit None q = cc
no_such_return true (Some v) q = cc
no_such_return false (Some v) q = cc

-- those of a new function with variants are
pub jumps_leave : (A : Asked) (muts : List Bool) (k : Plan) (unit : Bool) → LeavesBy k (jumps_of A muts k unit)
jumps_leave A muts k unit = record {
  exits = λ l again p h. let z = pack_is (k.outs (jump_exit l again)) (variant_for k (jump_exit l again)) p h in exit_there 0 (jump_exit l again) k.exits (same_jump l again) z.1;
  outs = λ l again p h. (pack_is (k.outs (jump_exit l again)) (variant_for k (jump_exit l again)) p h).2;
  no_return = no_such_return unit (variant_for k returns);
}

-- so are those of one without
pub none_leave : (k : Plan) → LeavesBy k inner_jumps
none_leave k = record { exits = λ l again p h. none_is h; outs = λ l again p h. none_is h; no_return = λ q. cc }

-- ---- marks and reads in front

nothing_among : {A B : Type 0} (a : A) → Among a [] → B
nothing_among a i = elim i [ ]

pub enters_met : (S : Sides) (xs : List ℕ) (b : Body) (n : ℕ) (t : Temporary) → MeetsMark S enters (order_body (block.before (entering xs) b) n t)
enters_met S xs b n t w r = r (shown enters ∷ []) stopped (first tt (stops (both {us = []} {vs = shown enters ∷ []} walk.nothing acts)))

end_met : (S : Sides) (p : Point) (b : Body) (n : ℕ) (t : Temporary) → MeetsMark S p (order_body (tree.runs (mark p) b) n t)
end_met S p b n t w r = r (shown p ∷ []) stopped (first tt (stops (both {us = []} {vs = shown p ∷ []} walk.nothing acts)))

module _ (S : Sides) (sized : Sized S.frame.declared S.frame.sizes) (sized_there : Sized S.frame_there.declared S.frame_there.sizes) (T : KnownVariables S) where
  reads_passed : (s : Order) (xs : List ℕ) (b : Body) (n : ℕ) (t : Temporary) → Matches (world S) T s (order_body b n t) → Matches (world S) T s (order_body (block.before (map using xs) b) n t)
  reads_passed s [] b n t h = h
  reads_passed s (x ∷ xs) b n t h = is_only_old (passed_over S (parted S.frame sized) (parted S.frame_there sized_there) T (order (tree.read (at_point enters) false (own x)) (temporary_of (tree.read (at_point enters) false (own x)))) (at_mark (at_point enters) (Read false (own x) (temporary_of (tree.read (at_point enters) false (own x)))) ∷ []) one_action (λ a i. of_read a i)) (reads_passed s xs b n t h)
    where
      of_read : (a : Action) → Among a (at_mark (at_point enters) (Read false (own x) (temporary_of (tree.read (at_point enters) false (own x)))) ∷ []) → LeavesAll T.variables a.act
      of_read _ here = λ y z j. tt
      of_read a (there i) = nothing_among a i

  pub entered_passed : (s : Order) (xs : List ℕ) (b : Body) (n : ℕ) (t : Temporary) → Matches (world S) T s (order_body b n t) → Matches (world S) T s (order_body (block.before (entering xs) b) n t)
  entered_passed s xs b n t h = is_only_old (passed_over S (parted S.frame sized) (parted S.frame_there sized_there) T (order (mark enters) (temporary_of (mark enters))) (shown enters ∷ []) (in_sequence no_action one_action) (λ a i. of_mark a i)) (reads_passed s xs b n t h)
    where
      of_mark : (a : Action) → Among a (shown enters ∷ []) → LeavesAll T.variables a.act
      of_mark _ here = λ y z j. tt
      of_mark a (there i) = nothing_among a i

-- ---- statements

module _ (S : Sides) (A : Asked) (k : Plan) (had : Had A S.muts_there k) (self : IsItself (Some (Some A.function))) (sized : Sized S.frame.declared S.frame.sizes) (sized_there : Sized S.frame_there.declared S.frame_there.sizes) (text : IsTextOf S A k) where
  pub moved_stretch : {items : ℕ → ℕ} {gain : Allowance} {U : List ℕ} {special : List ℕ} {J : Jumping} {N M : Renaming} {r r' : Stretch} (m : Moved items gain U special J N r r' M) → StretchMoves S m → LeavesBy k J → {x : Stretch} → AlsoMarkedStretch r x
      → (R : KnownVariables S) → Agrees S N R → AgreesOnLoops S J R → (b b' : Body) → ((T : KnownVariables S) → Agrees S M T → AgreesOnLoops S J T → AlikeBody S T b' b) → AlikeBody S R (before r' b') (before x b)
  moved_stretch moved_all s v done_too R g j b b' f = f R g j
  moved_stretch (moved_statement l m) s v (does_too u w) R g j b b' f = alike.runs_on (moved S A k had self sized sized_there text l s.0 v u R g j) (moved_stretch m s.1 v w R g j b b' f)
  moved_stretch {special = special} {J = J} (moved_declaration d m) s v (begins_too w) R g j b b' f =
      let z = declared_alike S (by_form special) d s.0 R g in alike.declares_all z.1 (moved_stretch m s.1 v w z.0 z.2 (same_loops S J R z.0 (declared_loops S z.1) j) b b' f)
  moved_stretch {special = special} {J = J} (moved_let {q = p} {q' = p'} {c = c} {c' = c'} l d m) s v (binds_too u w) R g j b b' f =
      let z = bindings_alike S (by_form special) d s.1 R g in
      alike.lets_in (moved_matched S A k had self sized sized_there text l s.0 v u R g j) (subst (λ X. AlikeBindings S (subject c') X R (bindings [] p') (bindings [] p) z.0) (subjects_same u) z.1)
      (moved_stretch m s.2 v w z.0 z.2 (same_loops S J R z.0 (bound_loops S z.1) j) b b' f)
  moved_stretch (moved_read m) s v w R g j b b' f = absurd s
  moved_stretch (moved_look x h a m) s v w R g j b b' f = absurd s

  -- the new function, from where the run is entered, in front of statements of the text that what it does is alike
  pub entered_function_matches : Initialised S.frame_there S.muts_there S.text
      → {again : Bool} {modes : List Mode} {R Ra : Renaming} {es : Operands} {ps : List Parameter} {ls : List (ℕ × ℕ)} → EntersWith again k modes R es ps ls Ra → ((x : ℕ) (e : Sight) → sight_of Ra x ≡ Some e → IsDirect e.how → LikeVariable S e.to x)
      → (J : Jumping) → J.loops ≡ [] → (b' b : Body) → ((T : KnownVariables S) → Agrees S Ra T → AgreesOnLoops S J T → AlikeBody S T b' b) → (T : KnownVariables S) → T.variables ≡ [] → T.loops ≡ []
      → (f : Function) (mb : Mark) → f.params ≡ ps → f.body ≡ tree.block mb (with_locals ls b') → (n : ℕ) (t : Temporary) → Matches (world S) T (order_function f) (order_body (block.before (entering k.params) b) n t)
  entered_function_matches initialised {ps = ps} {ls = ls} given types J none b' b h T nothing no_loops f mb params body n t =
      let z = entry_matches S A k had.plan had.accepted text sized sized_there initialised given types T nothing (order_body (block.before (entering k.params) b) n t) (enters_met S k.params b n t) in
      subst (λ p. Matches (world S) T (beginning p (mark_of f.body).node (order f.body (temporary_of f.body))) (order_body (block.before (entering k.params) b) n t)) (sym params)
      (subst (λ c. Matches (world S) T (beginning ps (mark_of c).node (order c (temporary_of c))) (order_body (block.before (entering k.params) b) n t)) (sym body)
      (z.3 mb.node mb.node b' (temporary_of (tree.block mb (with_locals ls b')))
      (entered_passed S sized sized_there z.0 (order_body b' mb.node (temporary_of (tree.block mb (with_locals ls b')))) k.params b n t
      (body_matches S (h z.0 z.1 (loops_agree J z.0 none (z.2 ∙ no_loops))) mb.node n (temporary_of (tree.block mb (with_locals ls b'))) t))))

  -- so where it gives what the run's end hands out
  pub gives_what_is_handed_out : Among next k.exits → {items : ℕ → ℕ} {gain : Allowance} {U : List ℕ} {J : Jumping} {Ra Rb : Renaming} {r r' : Stretch} (m : Moved items gain U (special_of A S.muts_there k) J Ra r r' Rb) → StretchMoves S m → LeavesBy k J → {x : Stretch} → AlsoMarkedStretch r x
      → {w : Way} {zs : List ℕ} {g : Exp} → HaveThere Rb (k.outs next) zs → Gives w zs g → (mg : Mark) (rest : Body) (T : KnownVariables S) → Agrees S Ra T → AgreesOnLoops S J T
      → AlikeBody S T (before r' (tree.ends (tree.give mg g))) (before x (tree.runs (mark (leaves next)) rest))
  gives_what_is_handed_out nexts m s v u {g = g} have gives mg rest T a j = moved_stretch m s v u T a j (tree.runs (mark (leaves next)) rest) (tree.ends (tree.give mg g))
      (λ Q a j. alike.is_opened_body (λ i c d e. new_exit_matches A k S had self next nexts next_goes_on sized text _ Q a have gives (order_body (tree.runs (mark (leaves next)) rest) c e) (end_met S (leaves next) rest c e) mg d))

  pub new_function_matches : Initialised S.frame_there S.muts_there S.text → Among next k.exits
      → {again : Bool} {modes : List Mode} {R Ra Rb : Renaming} {es : Operands} {ps : List Parameter} {ls : List (ℕ × ℕ)} → EntersWith again k modes R es ps ls Ra → ((x : ℕ) (e : Sight) → sight_of Ra x ≡ Some e → IsDirect e.how → LikeVariable S e.to x)
      → {items : ℕ → ℕ} {gain : Allowance} {U : List ℕ} {J : Jumping} {r r' : Stretch} (m : Moved items gain U (special_of A S.muts_there k) J Ra r r' Rb) → StretchMoves S m → LeavesBy k J → J.loops ≡ [] → {x : Stretch} → AlsoMarkedStretch r x
      → {w : Way} {zs : List ℕ} {g : Exp} → HaveThere Rb (k.outs next) zs → Gives w zs g → (T : KnownVariables S) → T.variables ≡ [] → T.loops ≡ [] → (f : Function) (mb mg : Mark) → f.params ≡ ps → f.body ≡ body_of mb ls r' (tree.ends (tree.give mg g))
      → (rest : Body) (n : ℕ) (t : Temporary) → Matches (world S) T (order_function f) (order_body (block.before (entering k.params) (before x (tree.runs (mark (leaves next)) rest))) n t)
  new_function_matches initialised nexts given types {J = J} {r' = r'} m s v none {x = x} u {g = g} have gives T nothing no_loops f mb mg params body rest n t =
      entered_function_matches initialised given types J none (before r' (tree.ends (tree.give mg g))) (before x (tree.runs (mark (leaves next)) rest)) (λ Q a j. gives_what_is_handed_out nexts m s v u have gives mg rest Q a j) T nothing no_loops f mb params body n t
