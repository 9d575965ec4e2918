-- A new function that ends otherwise than by giving what is handed out: its tail is the last statement of the run, or its end is not come to.
use Rattle.std.proofs.Common.{◌≡◌, ℕ, Bool, List, [], ◌∷◌, ◌++◌, map, Some, refl, sym, subst, ap}
use Rattle.rx_typed.specs.Tree as tree
use Rattle.rx_typed.specs.Tree.{Mark, Temporary, Parameter, Operands, Exp, Body, Function, temporary_of}
use Rattle.rx_typed_declarations.specs.Sizes.{Sized}
use Rattle.rx_lower_walks.specs.Matching.{bindings}
use Rattle.rx_lower_walks.specs.Actions.{Give, Action, does, subject}
use Rattle.rx_lower_walks.specs.Orders.{Order, order_body}
use Rattle.rx_lower_walks.specs.Orders as orders
use Rattle.rx_lower_walks.specs.Walks as walk
use Rattle.rx_lower_walks.specs.Walks.{both, Among}
use Rattle.rx_facts_tables.specs.Initialised.{Initialised}
use Rattle.rx_exits_plan.specs.Points.{next, leaves}
use Rattle.rx_exits_plan.specs.Runs.{inside}
use Rattle.rx_exits_plan.specs.Changed.{changed_statement}
use Rattle.rx_exits_plan.specs.Marked.{mark}
use Rattle.rx_exits_plan.specs.Asked.{Asked}
use Rattle.rx_exits_plan.specs.Plan.{Plan}
use Rattle.rx_exits_plan.specs.Unreachable.{At, Unreachable}
use Rattle.rx_modes_policy.specs.declared.uses.Mode.{Mode}
use Rattle.rx_meaning_keeping.proofs.Parts.{parted}
use Rattle.rx_engine_simulation.specs.Turns.{Allowance}
use Rattle.rx_engine_simulation.specs.Sights.{Sight, Renaming, sight_of}
use Rattle.rx_engine_simulation.specs.Jumps.{Jumping}
use Rattle.rx_engine_simulation.specs.Blocks.{Stretch, done, does_then, declares_then, lets_then, before}
use Rattle.rx_engine_simulation.specs.Packing.{Way, no_way, Gives, gives_unit, gives_empty, gives_one, gives_tuple, gives_variant}
use Rattle.rx_engine_simulation.specs.Places.{IsDirect}
use Rattle.rx_engine_simulation.specs.Statements.{body_of}
use Rattle.rx_engine_simulation.specs.Endings.{Last, none_left}
use Rattle.rx_engine_related.specs.AboutRun.{special_of}
use Rattle.rx_engine_related.specs.ByForm.{by_form, IsItself}
use Rattle.rx_engine_related.specs.Had.{Had}
use Rattle.rx_engine_related.specs.Given.{EntersWith}
use Rattle.rx_engine_related.specs.Leaving.{HaveThere}
use Rattle.rx_engine_related.specs.Running.{passing}
use Rattle.rx_engine_related.specs.Never.{NeverPassed, does_never, does_later, declares_later, lets_never, lets_later, NeverEnds, first_never}
use Rattle.rx_engine_related.specs.Moved.{Moved, moved_all, moved_statement, moved_declaration, moved_let, moved_read, moved_look, Ended, gives_outs, gives_last, gives_never, gives_left}
use Rattle.rx_engine_related.proofs.Never.{never_on, matched_never}
use Rattle.rx_engine_initial.specs.Matching.{Good, IsGone, is_then, is_gone}
use Rattle.rx_engine_initial.specs.Variables.{Sides, LikeVariable, KnownVariables}
use Rattle.rx_engine_initial.specs.Copies.{easy_give, world}
use Rattle.rx_engine_initial.specs.Planned.{IsTextOf}
use Rattle.rx_engine_initial.specs.Handing.{no_action}
use Rattle.rx_engine_initial.proofs.Handing.{easy_in_order, good_front}
use Rattle.rx_engine_initial.proofs.Known.{keeps}
use Rattle.rx_engine_initial.proofs.Straight.{giving_given, given_ended, given_front}
use Rattle.rx_engine_initial_forms.specs.Binders.{AlikeBindings}
use Rattle.rx_engine_initial_forms.specs.Alike as alike
use Rattle.rx_engine_initial_forms.specs.Alike.{AlikeExp, AlikeBody}
use Rattle.rx_engine_initial_forms.specs.Agreeing.{Agrees}
use Rattle.rx_engine_initial_forms.specs.Following.{AgreesOnLoops}
use Rattle.rx_engine_initial_forms.proofs.Begun.{declared_alike, bindings_alike}
use Rattle.rx_engine_initial_forms.proofs.Forms.{exp_matches, matched_matches}
use Rattle.rx_engine_initial_forms.proofs.Following.{declared_loops, bound_loops, same_loops}
use Rattle.rx_engine_initial_related.specs.AlsoMarked.{AlsoMarkedStretch, done_too, does_too, begins_too, binds_too}
use Rattle.rx_engine_initial_related.specs.Moving.{LeavesBy, StretchMoves, stretch_of}
use Rattle.rx_engine_initial_related.specs.Ending.{left_of, with_left, EndMoves}
use Rattle.rx_engine_initial_related.proofs.MovedTrees.{moved, moved_matched, subjects_same}
use Rattle.rx_engine_initial_related.proofs.MovedRuns.{moved_stretch, gives_what_is_handed_out}
use Rattle.rx_engine_initial_calls.proofs.Reaching.{within, rest_of}
use Rattle.rx_engine_initial_related.proofs.NeverMarked.{never_marked, matched_marked}
use Rattle.rx_engine_initial_related.proofs.NeverOn.{never_then}
use Rattle.rx_engine_initial_related.proofs.NewFunctions.{stretch_marked, entered_function_initialised}

is_come_to : {w : Way} {zs : List ℕ} {g : Exp} → Gives w zs g → w ≡ no_way → ⊥
is_come_to gives_unit q = cc
is_come_to gives_empty q = cc
is_come_to (gives_one t) q = cc
is_come_to (gives_tuple t) q = cc
is_come_to (gives_variant t) q = cc

passed_never : {r : Stretch} → NeverEnds none_left r → NeverPassed r
passed_never (first_never n) = n

-- the text's first statements with all their marks, and what is left behind them
record Parted (r : Stretch) (l : Last) (x : Stretch) : Type 0 where
  first : Stretch
  last : Stretch
  is : (b : Body) → before x b ≡ before first (before last b)
  first_too : AlsoMarkedStretch r first
  last_too : AlsoMarkedStretch (left_of l) last

parts : (r : Stretch) (l : Last) {x : Stretch} → AlsoMarkedStretch (with_left r l) x → Parted r l x
parts done l {x = x} u = record { first = done; last = x; is = λ b. refl; first_too = done_too; last_too = u }
parts (does_then e r) l (does_too {f = f} u v) = let z = parts r l v in
    record { first = does_then f z.first; last = z.last; is = λ b. ap (λ c. tree.runs f c) (z.is b); first_too = does_too u z.first_too; last_too = z.last_too }
parts (declares_then n xs r) l (begins_too v) = let z = parts r l v in
    record { first = declares_then n xs z.first; last = z.last; is = λ b. ap (λ c. tree.declares n xs c) (z.is b); first_too = begins_too z.first_too; last_too = z.last_too }
parts (lets_then n p c r) l (binds_too {d = d} u v) = let z = parts r l v in
    record { first = lets_then n p d z.first; last = z.last; is = λ b. ap (λ c. tree.lets n p d c) (z.is b); first_too = binds_too u z.first_too; last_too = z.last_too }

module _ (S : Sides) (A : Asked) (k : Plan) (had : Had A S.muts_there k) (self : IsItself (Some (Some A.function))) (sized : Sized S.frame.declared S.frame.sizes) (sized_there : Sized S.frame_there.declared S.frame_there.sizes) (text : IsTextOf S A k) where
  -- what only gives, in place of anything
  giving : (T : KnownVariables S) (n : ℕ) (t : Temporary) (q : Order) → IsGone (world S) T (orders.then (orders.act (does n (Give t))) (orders.leave (orders.returns n))) q
  giving T n t q = record {
    ended = λ us o h. given_ended (giving_given no_action n t us o (both {us = []} {vs = us} walk.nothing h));
    good = λ us w vs o H r h. by us vs (given_front (giving_given no_action n t vs o (both {us = []} {vs = vs} walk.nothing h)));
  }
    where
      by : (us vs : List Action) → ((ws : List Action) × (vs ++ ws ≡ does n (Give t) ∷ [])) → Good (world S) us vs
      by us vs (ws, e) = good_front S (parted S.frame sized) us vs ws (subst (λ l. Good (world S) us l) (sym e) (easy_in_order S (parted S.frame sized) us n easy_give, tt))

  -- the last statement is the function's tail
  last_is_given : {T : KnownVariables S} {e x : Exp} → AlikeExp S T e x → (mg : Mark) (rest : Body) → AlikeBody S T (tree.ends (tree.give mg e)) (tree.runs x rest)
  last_is_given {T = T} {e = e} {x = x} h mg rest = alike.is_opened_body (λ i c d t. is_then (exp_matches S h (temporary_of e) (temporary_of x)) (is_gone (giving T mg.node (temporary_of e) (order_body rest c t))))

  -- some statement never goes on
  module _ (initialised : Initialised S.frame_there S.muts_there S.text) where
    stretch_never : {items : ℕ → ℕ} {gain : Allowance} {U : List ℕ} {special : List ℕ} {J : Jumping} {N M : Renaming} {r r' : Stretch} (m : Moved items gain U special J N r r' M) → StretchMoves S m → LeavesBy k J → {x : Stretch} → AlsoMarkedStretch r x → NeverPassed r
        → (R : KnownVariables S) → Agrees S N R → AgreesOnLoops S J R → (b b' : Body) → AlikeBody S R (before r' b') (before x b)
    stretch_never moved_all s v done_too n R g j b b' = elim n [ ]
    stretch_never (moved_statement {e' = e'} {r' = r'} l m) s v (does_too {f = x} {q = q} u w) (does_never n) R g j b b' =
        alike.is_opened_body (λ i c d t. never_then (world S) (keeps S (parted S.frame sized) (parted S.frame_there sized_there) initialised) R (order_body (before r' b') i d) (order_body (before q b) c t)
        (λ ws y. never_on (never_marked u n) (temporary_of x) y) (exp_matches S (moved S A k had self sized sized_there text l s.0 v u R g j) (temporary_of e') (temporary_of x)))
    stretch_never (moved_statement l m) s v (does_too u w) (does_later n) R g j b b' = alike.runs_on (moved S A k had self sized sized_there text l s.0 v u R g j) (stretch_never m s.1 v w n R g j b b')
    stretch_never {special = special} {J = J} (moved_declaration d m) s v (begins_too w) (declares_later n) R g j b b' =
        let z = declared_alike S (by_form special) d s.0 R g in alike.declares_all z.1 (stretch_never m s.1 v w n z.0 z.2 (same_loops S J R z.0 (declared_loops S z.1) j) b b')
    stretch_never (moved_let {q' = p'} {c' = c'} {r' = r'} l d m) s v (binds_too {p = p} {d = x} {q = q} u w) (lets_never n) R g j b b' =
        alike.is_opened_body (λ i c e t. never_then (world S) (keeps S (parted S.frame sized) (parted S.frame_there sized_there) initialised) R
        (orders.binding (subject c') (bindings [] p') i (order_body (before r' b') i e)) (orders.binding (subject x) (bindings [] p) c (order_body (before q b) c t))
        (λ ws y. matched_never (matched_marked u n) y) (matched_matches S (moved_matched S A k had self sized sized_there text l s.0 v u R g j)))
    stretch_never {special = special} {J = J} (moved_let {q = p} {q' = p'} {c = c} {c' = c'} l d m) s v (binds_too u w) (lets_later n) R g j b b' =
        let z = bindings_alike S (by_form special) d s.1 R g in
        alike.lets_in (moved_matched S A k had self sized sized_there text l s.0 v u R g j) (subst (λ X. AlikeBindings S (subject c') X R (bindings [] p') (bindings [] p) z.0) (subjects_same u) z.1)
        (stretch_never m s.2 v w n z.0 z.2 (same_loops S J R z.0 (bound_loops S z.1) j) b b')
    stretch_never (moved_read m) s v w n R g j b b' = absurd s
    stretch_never (moved_look x h a m) s v w n R g j b b' = absurd s

    -- what is left is alike the function's end
    pub end_alike : {items : ℕ → ℕ} {gain : Allowance} {U : List ℕ} {J : Jumping} {Ra Rb : Renaming} {r r' : Stretch} {l : Last} {w : Way} {xs : List ℕ} {end : Body} (m : Moved items gain U (special_of A S.muts_there k) J Ra r r' Rb) → StretchMoves S m → LeavesBy k J
        → (d : Ended items gain U (special_of A S.muts_there k) J Rb l w xs end) → EndMoves S d → xs ≡ k.outs next → ((w ≡ no_way → ⊥) → Among next k.exits) → (w ≡ no_way → NeverEnds l r) → {x : Stretch} → AlsoMarkedStretch r x → {y : Stretch} → AlsoMarkedStretch (left_of l) y
        → (rest : Body) (T : KnownVariables S) → Agrees S Ra T → AgreesOnLoops S J T → AlikeBody S T (before r' end) (before x (before y (tree.runs (mark (leaves next)) rest)))
    end_alike {Rb = Rb} m s v (gives_outs {zs = zs} {m = mg} have gives) e q nexts never u done_too rest T a j =
        gives_what_is_handed_out S A k had self sized sized_there text (nexts (λ h. is_come_to gives h)) m s v u (subst (λ l. HaveThere Rb l zs) q have) gives mg rest T a j
    end_alike m s v (gives_last {e' = f} {m = mg} l) e q nexts never u (does_too {f = x} y done_too) rest T a j =
        moved_stretch S A k had self sized sized_there text m s v u T a j (tree.runs x (tree.runs (mark (leaves next)) rest)) (tree.ends (tree.give mg f))
        (λ Q a j. last_is_given (moved S A k had self sized sized_there text l e v y Q a j) mg (tree.runs (mark (leaves next)) rest))
    end_alike m s v (gives_left {e' = f} {m = mg} l) e q nexts never u (does_too {f = x} y done_too) rest T a j =
        moved_stretch S A k had self sized sized_there text m s v u T a j (tree.runs x (tree.runs (mark (leaves next)) rest)) (tree.ends (tree.give mg f))
        (λ Q a j. last_is_given (moved S A k had self sized sized_there text l e v y Q a j) mg (tree.runs (mark (leaves next)) rest))
    end_alike m s v (gives_never {m = mg} {g = g}) e q nexts never u done_too rest T a j =
        stretch_never m s v u (passed_never (never refl)) T a j (tree.runs (mark (leaves next)) rest) (tree.ends (tree.give mg g))

-- so the new function is initialised, however it ends
pub ended_function_initialised : (S : Sides) (A : Asked) (k : Plan) → Had A S.muts_there k → IsItself (Some (Some A.function)) → ((q : At) → Unreachable A q → ⊥) → Sized S.frame.declared S.frame.sizes → Sized S.frame_there.declared S.frame_there.sizes
    → IsTextOf S A k → Initialised S.frame_there S.muts_there S.text
    → {again : Bool} {modes : List Mode} {R Ra Rb : Renaming} {es : Operands} {ps : List Parameter} {ls : List (ℕ × ℕ)} → EntersWith again k modes R es ps ls Ra → ((x : ℕ) (e : Sight) → sight_of Ra x ≡ Some e → IsDirect e.how → LikeVariable S e.to x)
    → {items : ℕ → ℕ} {gain : Allowance} {U : List ℕ} {J : Jumping} {r r' : Stretch} {l : Last} → stretch_of (map (changed_statement (passing A.home.around.loops)) (inside A.run A.home.body)) ≡ with_left r l
    → (m : Moved items gain U (special_of A S.muts_there k) J Ra r r' Rb) → StretchMoves S m → LeavesBy k J → J.loops ≡ [] → {w : Way} {end : Body} (d : Ended items gain U (special_of A S.muts_there k) J Rb l w (k.outs next) end) → EndMoves S d
    → ((w ≡ no_way → ⊥) → Among next k.exits) → (w ≡ no_way → NeverEnds l r) → (f : Function) (mb : Mark) → f.params ≡ ps → f.body ≡ body_of mb ls r' end → Initialised S.frame S.muts f
ended_function_initialised S A k had self reached sized sized_there text initialised given types {J = J} {r = r} {r' = r'} {l = l} all m s v none {end = end} d e nexts never f mb params body =
    let z = parts r l (subst (λ x. AlsoMarkedStretch x (stretch_of (within A))) all (stretch_marked A.home.around.loops (inside A.run A.home.body))) in
    entered_function_initialised S A k had self reached sized sized_there text initialised given types J none (before r' end)
    (λ T a j. subst (λ b. AlikeBody S T (before r' end) b) (sym (z.is (tree.runs (mark (leaves next)) (rest_of A))))
    (end_alike S A k had self sized sized_there text initialised m s v d e refl nexts never z.first_too z.last_too (rest_of A) T a j)) f mb params body
