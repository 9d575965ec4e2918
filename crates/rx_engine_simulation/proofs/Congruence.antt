-- Whole parts do alike: by induction on the levels of the answer, then on what makes the parts alike. What an opening does is a
-- premise, which may use that calls do alike, at this level of the answer and at those below.
use Rattle.std.proofs.Common.{◌≡◌, ℕ, zero, suc, ◌+◌, ◌<◌, ◌≤◌, Bool, true, false, List, [], ◌∷◌, length, Option, Some, None, refl, sym, ap, subst, arith, le_refl, nat_eq, eqb-true}
use Rattle.std.proofs.lemmas.Bool.{eqb-false}
use Rattle.rx_core.specs.declared.types.Step.TheVariants as step
use Rattle.rx_typed.specs.Tree as tree
use Rattle.rx_typed.specs.Tree.{Temporary, Mark, Exp, Operands, Scrutinee, Arms, Body, Function, own, mark_of, temporary_at, temporary_of, temporaries_of, fields_of, temporary_place, under, operation, lazy}
use Rattle.rx_lower_walks.specs.Matching.{equals, bindings}
use Rattle.rx_lower_walks.specs.Actions.{Action, Test, Build, at_mark, subject}
use Rattle.rx_lower_walks.specs.Orders as orders
use Rattle.rx_lower_walks.specs.Orders.{order, order_all, order_scrutinee, order_arms, order_body, binding}
use Rattle.rx_meaning.specs.Endings.{wrong, missing_function}
use Rattle.rx_meaning.specs.Values.{Value, pointer, element, State, with_turns}
use Rattle.rx_meaning.specs.Results.{Result, stops}
use Rattle.rx_meaning.specs.Acting.{performed, plainly}
use Rattle.rx_meaning.specs.Expressions.{Functions, found, take_turn, entered, value, values, matched, arms, body, below_level}
use Rattle.rx_meaning.specs.Telling.{told_by}
use Rattle.rx_engine_simulation.proofs.Told.{Told, followed, onto}
use Rattle.rx_engine_simulation.proofs.Positions.{first_at, next_at, one_at, arm_at, next_arm_at, pass_at, later_at, below_walk, value_walk, act_walk, matched_walk}
use Rattle.rx_engine_simulation.proofs.Values.{Pair, Given, AllGiven, none_given, more_given, given_more, all_more, wholes, no_values, sized}
use Rattle.rx_engine_simulation.proofs.States.{Direction, Allowance, gain, Turns, weaken, Facts, viewed, Sight, sight, Renaming, sight_of, Frozen, IsViewed, StatesAlike}
use Rattle.rx_engine_simulation.proofs.Results.{Jumping, in_loop, stays_break, stays_continue, gives_back, both_on, both_jump, both_stop, DoAlike, alike_bind, alike_bind_at}
use Rattle.rx_engine_simulation.proofs.Spots.{no_steps, derefs, of_temporary}
use Rattle.rx_engine_simulation.proofs.Acts.{read_alike, test_alike, call_alike, input_alike, print_alike, give_alike, build_alike}
use Rattle.rx_engine_simulation.proofs.Borrows.{borrow_alike}
use Rattle.rx_engine_simulation.proofs.Writes.{write_alike}
use Rattle.rx_engine_simulation.proofs.Keeping.{states_turns}
use Rattle.rx_engine_simulation.proofs.Parts.{Ready, go_on, less, stay, decided_alike, turn_alike, passed_alike}
use Rattle.rx_engine_simulation.proofs.Patterns.{begun_alike, bound_alike, tested_alike, arguments_alike}
use Rattle.rx_engine_simulation.proofs.Calls.{whole_jumps, Kept, Kept', in_item, states_enter, returned_alike}
use Rattle.rx_engine_simulation.proofs.Histories.{activation_history}
use Rattle.rx_engine_simulation.proofs.Views.{view_alike, place_body_is}
use Rattle.rx_engine_simulation.proofs.Behind.{behind_body_is}
use Rattle.rx_engine_simulation.specs.Openings.{Openings, no_openings}
use Rattle.rx_engine_simulation.specs.Like.{LikeExp, opens, LikeAll, LikeMatched, LikeArms, LikeBody, opens_in, reads, borrows, views, shares, builds, builds_structs, builds_variants, units, lazies, assigns, updates, calls, inputs, prints, blocks, chooses, loops, stays, gives, no_operands, operands_and, at_places, of_values, no_arms, arms_and, ends_in, runs_on, declares_all, lets_in, reads_place, looks_behind}
use Rattle.rx_engine_simulation.specs.Programs.{LikeFunction, LikeFunctions, LikeEntry, functions, neither, IsNone, begins, facts_of}

abbrev facts_in : {items : ℕ → ℕ} {O : Openings} {i : Allowance} {g g' : Function} → LikeFunction items O i g g' → Facts
facts_in {g = g} l = facts_of g l.about l.untouched

abbrev pub Known : Frozen → Renaming → Type 0
Known Z R = (x i : ℕ) → Z.anchored x i → (e : Sight) × (sight_of R x ≡ Some e)

-- operands' values, one for each
abbrev pub Operanded : Operands → List Pair → List Value → List Value → Type 0
Operanded es j vs vs' = AllGiven j vs vs' × (length (fields_of es) ≡ length vs)

found_none : {E : Type 0} (o : Option (Option Function)) (go : Function → Result E Value) → IsNone o → found o go ≡ stops [] (wrong missing_function)
found_none None go h = refl
found_none (Some None) go h = refl
found_none (Some (Some g)) go h = absurd h

module _ (items : ℕ → ℕ) (P Q : Functions) (d : Direction) where
  -- what an expression does in the text, at a level, and in the answer
  abbrev in_text : ℕ → Exp → Temporary → State → Result (Told ℕ) Value
  in_text m e t s = value followed P (below_level followed P m) e t s

  abbrev in_answer : ℕ → Exp → Temporary → State → Result ℕ Value
  in_answer n e t s = value plainly Q (below_level plainly Q n) e t s

  -- calls do alike, with the answer at this level
  pub record CallsAlike (n : ℕ) : Type 1 where
    pub call_all : (V : Facts) (m c f : ℕ) (J : Jumping) (R : Renaming) (Z Z' : Frozen) (vs vs' : List Value) (h : List Action) (j : List Pair) (s s' : State) → AllGiven j vs vs' → Ready V d R Z Z' c m n h j s s'
        → DoAlike V d R Z Z' J Given c h j s s' (found (element P f) (λ g. take_turn s (λ s3. entered followed (below_level followed P m) f g vs s3)))
        (found (element Q (items f)) (λ g. take_turn s' (λ s3. entered plainly (below_level plainly Q n) (items f) g vs' s3)))

  abbrev pub CallsUpTo : ℕ → Type 1
  CallsUpTo n = (i : ℕ) → i ≤ n → CallsAlike i

  module _ (O : Openings) where
    -- what is put in place of special parts does alike where what stands in it does; both from where the text's history has come to
    pub record OpensAlike : Type 1 where
      pub expression : (n : ℕ) → CallsUpTo n → {V : Facts} {a : ℕ} {J : Jumping} {R : Renaming} {e : Exp} {f f' : Exp → Exp} → O.expression V a J R e f f' → (Z Z' : Frozen) (m b c : ℕ) → c ≤ b → (e' : Exp)
          → ((t t' : Temporary) (h : List Action) (j : List Pair) (s s' : State) → Ready V d R Z Z' b m n h j s s' → V.Comes (order e t) h → DoAlike V d R Z Z' J Given c h j s s' (in_text m e t s) (in_answer n e' t' s'))
          → (t t' : Temporary) (h : List Action) (j : List Pair) (s s' : State) → Ready V d R Z Z' (a + b) m n h j s s' → V.Comes (order (f e) t) h → DoAlike V d R Z Z' J Given c h j s s' (in_text m (f e) t s) (in_answer n (f' e') t' s')
      pub statements : (n : ℕ) → CallsUpTo n → {V : Facts} {a : ℕ} {J : Jumping} {R Ra : Renaming} {e : Body} {f f' : Body → Body} → O.statements V a J R Ra e f f' → (Z Z' : Frozen) (m b c : ℕ) → c ≤ b → (e' : Body) (i i' : ℕ) (t t' : Temporary)
          → ((h : List Action) (j : List Pair) (s s' : State) → Ready V d Ra Z Z' b m n h j s s' → V.Comes (order_body e i t) h
          → DoAlike V d Ra Z Z' J Given c h j s s' (body followed P (below_level followed P m) e i t s) (body plainly Q (below_level plainly Q n) e' i' t' s'))
          → (h : List Action) (j : List Pair) (s s' : State) → Ready V d R Z Z' (a + b) m n h j s s' → V.Comes (order_body (f e) i t) h
          → DoAlike V d R Z Z' J Given c h j s s' (body followed P (below_level followed P m) (f e) i t s) (body plainly Q (below_level plainly Q n) (f' e') i' t' s')

    -- all parts do alike where the answer is at level n, and the text at any
    pub record AllAlike (n : ℕ) : Type 1 where
      pub exp_all : (V : Facts) (m k c : ℕ) (J : Jumping) (R : Renaming) (Z Z' : Frozen) (e e' : Exp) → LikeExp items O (gain d) V k J R e e' → (t t' : Temporary) (h : List Action) (j : List Pair) (s s' : State) → Ready V d R Z Z' (k + c) m n h j s s' → V.Comes (order e t) h
          → DoAlike V d R Z Z' J Given c h j s s' (in_text m e t s) (in_answer n e' t' s')

    abbrev pub AllBelow : ℕ → Type 1
    AllBelow zero = Unit {1}
    AllBelow (suc n) = AllAlike n

    below_alike : (V : Facts) (m n k c : ℕ) (J : Jumping) (R : Renaming) (Z Z' : Frozen) (e e' : Exp) → AllBelow n → LikeExp items O (gain d) V k J R e e' → (t t' : Temporary) (h : List Action) (j : List Pair) (s s' : State) → s.turns < m → s'.turns < n
        → StatesAlike V R Z Z' h j s s' → Known Z R → Turns d (k + c) s.turns s'.turns → V.Comes (order e t) h → DoAlike V d R Z Z' J Given c h j s s' (below_level followed P m e t s) (below_level plainly Q n e' t' s')
    unfolding below_level
    below_alike V zero n k c J R Z Z' e e' all l t t' h j s s' lo lo' i kn u at = absurd (omega arith)
    below_alike V (suc m) zero k c J R Z Z' e e' all l t t' h j s s' lo lo' i kn u at = absurd (omega arith)
    below_alike V (suc m) (suc n) k c J R Z Z' e e' all l t t' h j s s' lo lo' i kn u at = all.exp_all V m k c J R Z Z' e e' l t t' h j s s' (record { inv = i; turns = u; low = omega arith; low' = omega arith; known = kn }) at

    -- a function's activation, from a call
    entered_alike : (V : Facts) (m n c f f' : ℕ) (J : Jumping) (R : Renaming) (Z Z' : Frozen) (g g' : Function) → AllBelow n → LikeFunction items O (gain d) g g' → (vs vs' : List Value) (h : List Action) (j : List Pair) (s s' : State) → AllGiven j vs vs'
        → s.turns < m → s'.turns < n → StatesAlike V R Z Z' h j s s' → Turns d ((gain d).turns + c) s.turns s'.turns
        → DoAlike V d R Z Z' J Given c h j s s' (entered followed (below_level followed P m) f g vs s) (entered plainly (below_level plainly Q n) f' g' vs' s')
    entered_alike V m n c f f' J R Z Z' g g' all l vs vs' h j s s' given lo lo' i u good =
        returned_alike V R Z Z' h j s s' i (facts_in l) d J c f f' _ _
        (arguments_alike (facts_in l) d (Kept R Z Z' s s') (Kept' R Z Z' s s') whole_jumps ((gain d).turns + c) c s.turns s'.turns (omega arith) l.params (mark_of g.body).node (mark_of g'.body).node (order g.body (temporary_of g.body)) _ _
        (λ h1 j1 t t' r at. below_alike (facts_in l) m n (gain d).turns c whole_jumps l.inside (Kept R Z Z' s s') (Kept' R Z Z' s s') g.body g'.body all l.body (temporary_of g.body) (temporary_of g'.body) h1 j1 t t' (omega (arith, r.low)) (omega (arith, r.low')) r.inv r.known r.turns at)
        vs vs' [] j (in_item s f) (in_item s' f') given (record { inv = states_enter V R Z Z' h j s s' i (facts_in l) f f'; turns = u; low = le_refl _; low' = le_refl _; known = λ x i e. absurd e }) begins (activation_history P m g vs (in_item s f)))

    entry_alike : (n : ℕ) → AllBelow n → (V : Facts) (m c f f' : ℕ) (J : Jumping) (R : Renaming) (Z Z' : Frozen) (o o' : Option (Option Function)) → LikeEntry items O (gain d) o o' → (vs vs' : List Value) (h : List Action) (j : List Pair) (s s' : State) → AllGiven j vs vs' → Ready V d R Z Z' c m n h j s s'
        → DoAlike V d R Z Z' J Given c h j s s' (found o (λ g. take_turn s (λ s3. entered followed (below_level followed P m) f g vs s3))) (found o' (λ g. take_turn s' (λ s3. entered plainly (below_level plainly Q n) f' g vs' s3)))
    entry_alike n all V m c f f' J R Z Z' o o' (functions {g = g} {g' = g'} l) vs vs' h j s s' given r =
        turn_alike V d R Z Z' J Given c h j s s' _ _ r.turns (λ u u' lo lo' k.
        entered_alike V m n c f f' J R Z Z' g g' all l vs vs' h j (with_turns s u) (with_turns s' u') given (omega (arith, r.low)) (omega (arith, r.low')) (states_turns V R Z Z' h j s s' u u' r.inv) k)
    entry_alike n all V m c f f' J R Z Z' o o' (neither a b) vs vs' h j s s' given r =
        subst (λ q. DoAlike V d R Z Z' J Given c h j s s' q (found o' (λ g. take_turn s' (λ s3. entered plainly (below_level plainly Q n) f' g vs' s3)))) (sym (found_none o _ a))
        (subst (λ q. DoAlike V d R Z Z' J Given c h j s s' (stops [] (wrong missing_function)) q) (sym (found_none o' _ b)) (λ good. both_stop refl refl))

    pub calls_at : LikeFunctions items O (gain d) P Q → (n : ℕ) → AllBelow n → CallsAlike n
    calls_at like n all = record { call_all = λ V m c f J R Z Z' vs vs' h j s s' given r. entry_alike n all V m c f (items f) J R Z Z' (element P f) (element Q (items f)) (like f) vs vs' h j s s' given r }

    module _ (open_alike : OpensAlike) (n : ℕ) (calls_alike : CallsUpTo n) (all : AllBelow n) where
      fields_same : {V : Facts} {k : ℕ} {J : Jumping} {R : Renaming} {es es' : Operands} → LikeAll items O (gain d) V k J R es es' → fields_of es ≡ fields_of es'
      fields_same no_operands = refl
      fields_same (operands_and {n = i} a b le l ls) = ap (λ js. i ∷ js) (fields_same ls)

      mutual
        unfolding value

        exp_alike : {V : Facts} {k : ℕ} {J : Jumping} {R : Renaming} {e e' : Exp} → LikeExp items O (gain d) V k J R e e' → (Z Z' : Frozen) (m c : ℕ) (t t' : Temporary) (h : List Action) (j : List Pair) (s s' : State) → Ready V d R Z Z' (k + c) m n h j s s' → V.Comes (order e t) h
            → DoAlike V d R Z Z' J Given c h j s s' (value followed P (below_level followed P m) e t s) (value plainly Q (below_level plainly Q n) e' t' s')
        exp_alike {V} {k} {J} {R} (reads {m = w} {m' = w'} {v = v} {v' = v'} {p = p} {p' = p'} l) Z Z' m c t t' h j s s' r at =
            let q = less V d R Z Z' c (omega arith) r in read_alike V d R Z Z' J c h j s s' q.inv q.turns w.node w'.node v v' p p' t t' [] [] l none_given
        exp_alike {V} {k} {J} {R} (borrows {m = w} {m' = w'} {b = b} {p = p} {p' = p'} l) Z Z' m c t t' h j s s' r at =
            let q = less V d R Z Z' c (omega arith) r in borrow_alike V d R Z Z' J c h j s s' q.inv q.turns w.node w'.node b p p' t t' [] [] l none_given
        exp_alike {V} {k} {J} {R} (views {x = x} {y = y} {m = w} {m' = w'} {n = b} {moves = b'} seen) Z Z' m c t t' h j s s' r at =
            let q = less V d R Z Z' c (omega arith) r in view_alike V d R Z Z' J c h j s s' q.inv q.turns Q (below_level plainly Q n) w.node w' b' b x y t t' seen
        exp_alike {V} {k} {J} {R} (shares {m = w} {m' = w'} l) Z Z' m c t t' h j s s' r at =
            alike_bind V d R Z Z' J Given Given c c h j s s' _ _ _ _ (le_refl c) (exp_alike l Z Z' m c _ _ h j s s' r (first_at V at)) (λ h1 j1 v v' u u' g z.
            borrow_alike V d R Z Z' J c h1 j1 u u' z.inv z.turns w.node w'.node false (under (temporary_place (temporary_at w.node 1)) (step.Deref true ∷ [])) (under (temporary_place (temporary_at w'.node 1)) (step.Deref true ∷ [])) t t' (v ∷ []) (v' ∷ []) (of_temporary (derefs no_steps)) (more_given g none_given))
        exp_alike {V} {k} {J} {R} (builds {m = w} {m' = w'} {w = b} {es = es} {es' = es'} f ls) Z Z' m c t t' h j s s' r at =
            alike_bind V d R Z Z' J (Operanded es) Given c c h j s s' _ _ _ _ (le_refl c) (all_alike ls Z Z' m c h j s s' r (first_at V at)) (λ h1 j1 vs vs' u u' g z.
            subst (λ js. DoAlike V d R Z Z' J Given c h1 j1 u u' (performed followed (at_mark w (Build b (fields_of es) (temporaries_of es) t)) vs u) (performed plainly (at_mark w' (Build b js (temporaries_of es') t')) vs' u')) (fields_same ls)
            (build_alike V d R Z Z' J c h1 j1 u u' z.inv z.turns w.node w'.node b (fields_of es) (temporaries_of es) (temporaries_of es') t t' vs vs' g.0 (sized b (fields_of es) vs g.1) f))
        exp_alike {V} {k} {J} {R} (builds_structs {n = i} {n' = i'} {m = w} {m' = w'} {es = es} {es' = es'} f ls) Z Z' m c t t' h j s s' r at =
            alike_bind V d R Z Z' J (Operanded es) Given c c h j s s' _ _ _ _ (le_refl c) (all_alike ls Z Z' m c h j s s' r (first_at V at)) (λ h1 j1 vs vs' u u' g z.
            subst (λ js. DoAlike V d R Z Z' J Given c h1 j1 u u' (performed followed (at_mark w (Build (tree.struct i) (fields_of es) (temporaries_of es) t)) vs u) (performed plainly (at_mark w' (Build (tree.struct i') js (temporaries_of es') t')) vs' u')) (fields_same ls)
            (build_alike V d R Z Z' J c h1 j1 u u' z.inv z.turns w.node w'.node (tree.struct i) (fields_of es) (temporaries_of es) (temporaries_of es') t t' vs vs' g.0 (sized (tree.struct i) (fields_of es) vs g.1) f))
        exp_alike {V} {k} {J} {R} (builds_variants {n = i} {n' = i'} {v = v} {m = w} {m' = w'} {es = es} {es' = es'} f ls) Z Z' m c t t' h j s s' r at =
            alike_bind V d R Z Z' J (Operanded es) Given c c h j s s' _ _ _ _ (le_refl c) (all_alike ls Z Z' m c h j s s' r (first_at V at)) (λ h1 j1 vs vs' u u' g z.
            subst (λ js. DoAlike V d R Z Z' J Given c h1 j1 u u' (performed followed (at_mark w (Build (tree.variant_of i v) (fields_of es) (temporaries_of es) t)) vs u) (performed plainly (at_mark w' (Build (tree.variant_of i' v) js (temporaries_of es') t')) vs' u')) (fields_same ls)
            (build_alike V d R Z Z' J c h1 j1 u u' z.inv z.turns w.node w'.node (tree.variant_of i v) (fields_of es) (temporaries_of es) (temporaries_of es') t t' vs vs' g.0 (sized (tree.variant_of i v) (fields_of es) vs g.1) f))
        exp_alike {V} {k} {J} {R} units Z Z' m c t t' h j s s' r at = λ good. both_on j refl (wholes no_values, refl) (stay V d R Z Z' (less V d R Z Z' c (omega arith) r))
        exp_alike {V} {k} {J} {R} (lazies {m = w} {m' = w'} {b = b} {e = e} {f = f} {e' = e'} {f' = f'} i i2 le la lb) Z Z' m c t t' h j s s' r at =
            alike_bind_at V d R Z Z' J Given Given (i2 + c) c h j s s' _ _ _ _ (omega arith) (order e (temporary_of e)) (value_walk P m e s) (exp_alike la Z Z' m (i2 + c) _ _ h j s s' (less V d R Z Z' (i + (i2 + c)) (omega arith) r) (first_at V at)) (λ h1 j1 v v' u u' k1 g z.
            let r1 = go_on V d R Z Z' r z in
            alike_bind_at V d R Z Z' J Given Given (i2 + c) c h1 j1 u u' _ _ _ _ (omega arith) (orders.act (at_mark w (Test (temporary_place (temporary_of e)) (equals (tree.truth b))))) (act_walk (at_mark w (Test (temporary_place (temporary_of e)) (equals (tree.truth b)))) (v ∷ []) u) (test_alike V d R Z Z' J (i2 + c) h1 j1 u u' z.inv z.turns w.node w'.node (equals (tree.truth b)) (temporary_place (temporary_of e)) (temporary_place (temporary_of e')) (v ∷ []) (v' ∷ []) (of_temporary no_steps) (more_given g none_given)) (λ h2 j2 x x' u2 u2' k2 g2 z2.
            let r2 = go_on V d R Z Z' r1 z2 in
            alike_bind V d R Z Z' J Given Given c c h2 j2 u2 u2' _ _ _ _ (le_refl c) (decided_alike V d R Z Z' J Given c h2 j2 u2 u2' x x' _ _ _ _ g2.0 (exp_alike lb Z Z' m c _ _ h2 j2 u2 u2' r2 (one_at V (first_at V (next_at V (next_at V at k1) k2)))) (λ good. both_on j2 refl (given_more z2.grown.more g) (stay V d R Z Z' (less V d R Z Z' c (omega arith) r2)))) (λ h3 j3 y y' u3 u3' g3 z3.
            build_alike V d R Z Z' J c h3 j3 u3 u3' z3.inv z3.turns w.node w'.node lazy [] (temporary_of e ∷ temporary_of f ∷ []) (temporary_of e' ∷ temporary_of f' ∷ []) t t' (y ∷ []) (y' ∷ []) (more_given g3 none_given) tt tt)))
        exp_alike {V} {k} {J} {R} (assigns {m = w} {m' = w'} {p = p} {p' = p'} {e = e} {e' = e'} l la) Z Z' m c t t' h j s s' r at =
            alike_bind V d R Z Z' J Given Given c c h j s s' _ _ _ _ (le_refl c) (exp_alike la Z Z' m c _ _ h j s s' r (first_at V at)) (λ h1 j1 v v' u u' g z.
            write_alike V d R Z Z' J c h1 j1 u u' z.inv z.turns w.node w'.node (temporary_of e) (temporary_of e') [] [] p p' l no_steps v v' g)
        exp_alike {V} {k} {J} {R} (updates {m = w} {m' = w'} {o = o} {p = p} {p' = p'} {e = e} {e' = e'} lr lw la) Z Z' m c t t' h j s s' r at =
            alike_bind V d R Z Z' J Given Given c c h j s s' _ _ _ _ (le_refl c) (exp_alike la Z Z' m c _ _ h j s s' r (first_at V at)) (λ h1 j1 v v' u u' g z.
            alike_bind V d R Z Z' J Given Given c c h1 j1 u u' _ _ _ _ (le_refl c) (read_alike V d R Z Z' J c h1 j1 u u' z.inv z.turns w.node w'.node false false p p' (temporary_at w.node 1) (temporary_at w'.node 1) [] [] lr none_given) (λ h2 j2 x x' u2 u2' g2 z2.
            alike_bind V d R Z Z' J Given Given c c h2 j2 u2 u2' _ _ _ _ (le_refl c) (build_alike V d R Z Z' J c h2 j2 u2 u2' z2.inv z2.turns w.node w'.node (operation o) [] (temporary_at w.node 1 ∷ temporary_of e ∷ []) (temporary_at w'.node 1 ∷ temporary_of e' ∷ []) (temporary_at w.node 2) (temporary_at w'.node 2) (x ∷ v ∷ []) (x' ∷ v' ∷ []) (more_given g2 (more_given (given_more z2.grown.more g) none_given)) tt tt) (λ h3 j3 y y' u3 u3' g3 z3.
            write_alike V d R Z Z' J c h3 j3 u3 u3' z3.inv z3.turns w.node w'.node (temporary_at w.node 2) (temporary_at w'.node 2) [] [] p p' lw no_steps y y' g3)))
        exp_alike {V} {k} {J} {R} (calls {f = f} {m = w} {m' = w'} {es = es} {es' = es'} ls) Z Z' m c t t' h j s s' r at =
            alike_bind V d R Z Z' J (Operanded es) Given c c h j s s' _ _ _ _ (le_refl c) (all_alike ls Z Z' m c h j s s' r (first_at V at)) (λ h1 j1 vs vs' u u' q z.
            let r1 = go_on V d R Z Z' r z in
            alike_bind V d R Z Z' J Given Given c c h1 j1 u u' _ _ _ _ (le_refl c) (call_alike V d R Z Z' J c h1 j1 u u' z.inv z.turns w.node w'.node f (items f) (temporaries_of es) (temporaries_of es') t t' vs vs') (λ h2 j2 x x' u2 u2' g2 z2.
            (calls_alike n (le_refl n)).call_all V m c f J R Z Z' vs vs' h2 j2 u2 u2' (all_more z2.grown.more q.0) (go_on V d R Z Z' r1 z2)))
        exp_alike {V} {k} {J} {R} (inputs {m = w} {m' = w'}) Z Z' m c t t' h j s s' r at =
            let q = less V d R Z Z' c (omega arith) r in input_alike V d R Z Z' J c h j s s' q.inv q.turns w.node w'.node t t'
        exp_alike {V} {k} {J} {R} (prints {m = w} {m' = w'} {e = e} {e' = e'} la) Z Z' m c t t' h j s s' r at =
            alike_bind V d R Z Z' J Given Given c c h j s s' _ _ _ _ (le_refl c) (exp_alike la Z Z' m c _ _ h j s s' r (first_at V at)) (λ h1 j1 v v' u u' g z.
            print_alike V d R Z Z' J c h1 j1 u u' z.inv z.turns w.node w'.node (temporary_of e) (temporary_of e') v v' g)
        exp_alike {V} {k} {J} {R} (blocks {m = w} {m' = w'} lb) Z Z' m c t t' h j s s' r at = body_alike lb Z Z' m c w.node w'.node t t' h j s s' r at
        exp_alike {V} {k} {J} {R} (chooses {c = sc} {c' = sc'} i i2 le lc la) Z Z' m c t t' h j s s' r at =
            alike_bind_at V d R Z Z' J AllGiven Given (i2 + c) c h j s s' _ _ _ _ (omega arith) (order_scrutinee sc) (matched_walk P m sc s) (matched_alike lc Z Z' m (i2 + c) h j s s' (less V d R Z Z' (i + (i2 + c)) (omega arith) r) (first_at V at)) (λ h1 j1 vs vs' u u' k1 g z.
            arms_alike la Z Z' m c vs vs' t t' h1 j1 u u' g (go_on V d R Z Z' r z) (next_at V at k1))
        exp_alike {V} {k} {J} {R} (loops {l = l} {l' = l'} {m = w} {m' = w'} {e = e} {e' = e'} apart none none' la) Z Z' m c t t' h j s s' r at =
            let q = less V d R Z Z' c (omega arith) r in
            turn_alike V d R Z Z' J Given c h j s s' _ _ q.turns (λ u u' lo lo' k.
            passed_alike V d R Z Z' J c l l' h j (with_turns s u) (with_turns s' u') _ _ _ _ apart none none'
            (below_alike V m n (gain d).turns c (in_loop J l l') R Z Z' e e' all la (temporary_of e) (temporary_of e') h j (with_turns s u) (with_turns s' u') (omega (arith, r.low)) (omega (arith, r.low')) (states_turns V R Z Z' h j s s' u u' r.inv) r.known k (pass_at V at))
            (λ j1 x x' p z. below_alike V m n 0 c J R Z Z' (tree.loop w l e) (tree.loop w' l' e') all (loops apart none none' la) t t' (onto (told_by (below_level followed P m e (temporary_of e) (with_turns s u))) h) j1 x x' (omega (arith, r.low, z.grown.fewer)) (omega (arith, r.low', z.grown.fewer')) z.inv r.known (weaken d c (0 + c) _ _ (omega arith) z.turns)
            (later_at V at (told_by (below_level followed P m e (temporary_of e) (with_turns s u))) (below_walk P m e (with_turns s u)) p)))
        exp_alike {V} {k} {J} {R} (stays {again = true} f) Z Z' m c t t' h j s s' r at = λ good. both_jump j refl (stays_continue f) (stay V d R Z Z' (less V d R Z Z' c (omega arith) r))
        exp_alike {V} {k} {J} {R} (stays {again = false} f) Z Z' m c t t' h j s s' r at = λ good. both_jump j refl (stays_break f) (stay V d R Z Z' (less V d R Z Z' c (omega arith) r))
        exp_alike {V} {k} {J} {R} (opens {e = e} {e' = e'} a i le o l) Z Z' m c t t' h j s s' r at =
            open_alike.expression n calls_alike o Z Z' m (i + c) c (omega arith) e' (λ t t' h j s s' r at. exp_alike l Z Z' m c t t' h j s s' r at) t t' h j s s' (less V d R Z Z' (a + (i + c)) (omega arith) r) at
        exp_alike {V} {k} {J} {R} (gives {m = w} {m' = w'} {e = e} {e' = e'} f la) Z Z' m c t t' h j s s' r at =
            alike_bind V d R Z Z' J Given Given c c h j s s' _ _ _ _ (le_refl c) (exp_alike la Z Z' m c _ _ h j s s' r (first_at V at)) (λ h1 j1 v v' u u' g z.
            alike_bind V d R Z Z' J Given Given c c h1 j1 u u' _ _ _ _ (le_refl c) (give_alike V d R Z Z' J c h1 j1 u u' z.inv z.turns w.node w'.node (temporary_of e) (temporary_of e') v v' g) (λ h2 j2 x x' u2 u2' g2 z2.
            λ good. both_jump j2 refl (gives_back f g2) (stay V d R Z Z' (go_on V d R Z Z' (go_on V d R Z Z' r z) z2))))

        all_alike : {V : Facts} {k : ℕ} {J : Jumping} {R : Renaming} {es es' : Operands} → LikeAll items O (gain d) V k J R es es' → (Z Z' : Frozen) (m c : ℕ) (h : List Action) (j : List Pair) (s s' : State) → Ready V d R Z Z' (k + c) m n h j s s' → V.Comes (order_all es) h
            → DoAlike V d R Z Z' J (Operanded es) c h j s s' (values followed P (below_level followed P m) es s) (values plainly Q (below_level plainly Q n) es' s')
        all_alike {V} {k} {J} {R} no_operands Z Z' m c h j s s' r at = λ good. both_on j refl (none_given, refl) (stay V d R Z Z' (less V d R Z Z' c (omega arith) r))
        all_alike {V} {k} {J} {R} (operands_and {n = i0} {e = e} {es = es} i i2 le la ls) Z Z' m c h j s s' r at =
            alike_bind_at V d R Z Z' J Given (Operanded (tree.operand_and i0 e es)) (i2 + c) c h j s s' _ _ _ _ (omega arith) (order e (temporary_of e)) (value_walk P m e s) (exp_alike la Z Z' m (i2 + c) _ _ h j s s' (less V d R Z Z' (i + (i2 + c)) (omega arith) r) (first_at V at)) (λ h1 j1 v v' u u' k1 g z.
            alike_bind V d R Z Z' J (Operanded es) (Operanded (tree.operand_and i0 e es)) c c h1 j1 u u' _ _ _ _ (le_refl c) (all_alike ls Z Z' m c h1 j1 u u' (go_on V d R Z Z' r z) (next_at V at k1)) (λ h2 j2 vs vs' u2 u2' q z2.
            λ good. both_on j2 refl (more_given (given_more z2.grown.more g) q.0, ap suc q.1) (stay V d R Z Z' (go_on V d R Z Z' (go_on V d R Z Z' r z) z2))))

        matched_alike : {V : Facts} {k : ℕ} {J : Jumping} {R : Renaming} {a b : Scrutinee} → LikeMatched items O (gain d) V k J R a b → (Z Z' : Frozen) (m c : ℕ) (h : List Action) (j : List Pair) (s s' : State) → Ready V d R Z Z' (k + c) m n h j s s' → V.Comes (order_scrutinee a) h
            → DoAlike V d R Z Z' J AllGiven c h j s s' (matched followed P (below_level followed P m) a s) (matched plainly Q (below_level plainly Q n) b s')
        matched_alike {V} {k} {J} {R} at_places Z Z' m c h j s s' r at = λ good. both_on j refl none_given (stay V d R Z Z' (less V d R Z Z' c (omega arith) r))
        matched_alike {V} {k} {J} {R} (of_values la) Z Z' m c h j s s' r at =
            alike_bind V d R Z Z' J Given AllGiven c c h j s s' _ _ _ _ (le_refl c) (exp_alike la Z Z' m c _ _ h j s s' r at) (λ h1 j1 v v' u u' g z.
            λ good. both_on j1 refl (more_given g none_given) (stay V d R Z Z' (go_on V d R Z Z' r z)))

        arms_alike : {V : Facts} {k : ℕ} {J : Jumping} {R : Renaming} {a b : Scrutinee} {l l' : Arms} → LikeArms items O (gain d) V k J R a b l l' → (Z Z' : Frozen) (m c : ℕ) (vs vs' : List Value) (t t' : Temporary) (h : List Action) (j : List Pair) (s s' : State) → AllGiven j vs vs' → Ready V d R Z Z' (k + c) m n h j s s' → V.Comes (order_arms (subject a) l t) h
            → DoAlike V d R Z Z' J Given c h j s s' (arms followed P (below_level followed P m) (subject a) vs l t s) (arms plainly Q (below_level plainly Q n) (subject b) vs' l' t' s')
        arms_alike {V} {k} {J} {R} no_arms Z Z' m c vs vs' t t' h j s s' g r at = λ good. both_stop refl refl
        arms_alike {V} {k} {J} {R} {a} (arms_and {q = q} {e = e} {e' = e'} Ra lt lb la ls) Z Z' m c vs vs' t t' h j s s' g r at =
            tested_alike V d Z Z' J (k + c) c m n (omega arith) lt (binding (subject a) (bindings [] q) (mark_of e).node (order e t)) _ _ _ _ vs vs' h j s s' g r (arm_at V at)
            (λ h1 j1 u u' f r1 at1. bound_alike V d Z Z' J (k + c) c m n (omega arith) lb (mark_of e).node (mark_of e').node (order e t) _ _ (λ h2 j2 x x' r2 at2. exp_alike la Z Z' m c t t' h2 j2 x x' r2 at2) vs vs' h1 j1 u u' (all_more f g) r1 at1)
            (λ h1 j1 u u' f r1 x. arms_alike ls Z Z' m c vs vs' t t' h1 j1 u u' (all_more f g) r1 (next_arm_at V at x))

        body_alike : {V : Facts} {k : ℕ} {J : Jumping} {R : Renaming} {b b' : Body} → LikeBody items O (gain d) V k J R b b' → (Z Z' : Frozen) (m c i i' : ℕ) (t t' : Temporary) (h : List Action) (j : List Pair) (s s' : State) → Ready V d R Z Z' (k + c) m n h j s s' → V.Comes (order_body b i t) h
            → DoAlike V d R Z Z' J Given c h j s s' (body followed P (below_level followed P m) b i t s) (body plainly Q (below_level plainly Q n) b' i' t' s')
        body_alike {V} {k} {J} {R} (ends_in la) Z Z' m c i i' t t' h j s s' r at = exp_alike la Z Z' m c t t' h j s s' r at
        body_alike {V} {k} {J} {R} (runs_on {e = e} a b le la lb) Z Z' m c i i' t t' h j s s' r at =
            alike_bind_at V d R Z Z' J Given Given (b + c) c h j s s' _ _ _ _ (omega arith) (order e (temporary_of e)) (value_walk P m e s) (exp_alike la Z Z' m (b + c) _ _ h j s s' (less V d R Z Z' (a + (b + c)) (omega arith) r) (first_at V at)) (λ h1 j1 v v' u u' k1 g z.
            body_alike lb Z Z' m c i i' t t' h1 j1 u u' (go_on V d R Z Z' r z) (next_at V at k1))
        body_alike {V} {k} {J} {R} (declares_all {s = n0} {s' = n0'} {b = b0} Ra ld lb) Z Z' m c i i' t t' h j s s' r at =
            begun_alike V d Z Z' J (k + c) c m n (omega arith) ld n0 n0' i i' (order_body b0 i t) _ _ (λ h1 j1 u u' r1 at1. body_alike lb Z Z' m c i i' t t' h1 j1 u u' r1 at1) h j s s' r at
        body_alike {V} {k} {J} {R} (opens_in {b = b} {b' = b'} a i0 le o l) Z Z' m c i i' t t' h j s s' r at =
            open_alike.statements n calls_alike o Z Z' m (i0 + c) c (omega arith) b' i i' t t' (λ h j s s' r at. body_alike l Z Z' m c i i' t t' h j s s' r at) h j s s' (less V d R Z Z' (a + (i0 + c)) (omega arith) r) at
        body_alike {V} {k} {J} {R} {b} (reads_place {s' = n0'} {n = kb} {z = z} {y = y} {m = w} {m' = w'} {v = v} {w = mv} {b' = b0'} l) Z Z' m c i i' t t' h j s s' r at =
            subst (λ q. DoAlike V d R Z Z' J Given c h j s s' (body followed P (below_level followed P m) b i t s) q) (sym (place_body_is Q (below_level plainly Q n) kb z y v b0' i' t' n0' w w' mv s')) (body_alike l Z Z' m c i i' t t' h j s s' r at)
        body_alike {V} {k} {J} {R} {b} (looks_behind {s' = n0'} {y = y} {m = w} {m' = w'} {w = mv} {q' = q'} {b' = b0'} x seen behind l) Z Z' m c i i' t t' h j s s' r at =
            let e : IsViewed Z Z' j s.frame s'.frame x y = r.inv.binds x (sight y viewed) seen in
            subst (λ q. DoAlike V d R Z Z' J Given c h j s s' (body followed P (below_level followed P m) b i t s) q) (sym (behind_body_is Q (below_level plainly Q n) n0' q' w w' mv y e.right (pointer e.target.right e.steps false) b0' i' t' s' behind e.at_answer (r.inv.paired.frozen' e.right (pointer e.target.right e.steps false) e.held') refl))
            (body_alike l Z Z' m c i i' t t' h j s s' r at)
        body_alike {V} {k} {J} {R} (lets_in {c = sc} {b = b0} Ra a b le lc lp lb) Z Z' m c i i' t t' h j s s' r at =
            alike_bind_at V d R Z Z' J AllGiven Given (b + c) c h j s s' _ _ _ _ (omega arith) (order_scrutinee sc) (matched_walk P m sc s) (matched_alike lc Z Z' m (b + c) h j s s' (less V d R Z Z' (a + (b + c)) (omega arith) r) (first_at V at)) (λ h1 j1 vs vs' u u' k1 g z.
            bound_alike V d Z Z' J (b + c) c m n (omega arith) lp i i' (order_body b0 i t) _ _ (λ h2 j2 x x' r2 at2. body_alike lb Z Z' m c i i' t t' h2 j2 x x' r2 at2) vs vs' h1 j1 u u' g (go_on V d R Z Z' r z) (next_at V at k1))

    one_level : OpensAlike → (n : ℕ) → CallsUpTo n → AllBelow n → AllAlike n
    one_level open_alike n calls_alike all = record { exp_all = λ V m k c J R Z Z' e e' l t t' h j s s' r at. exp_alike open_alike n calls_alike all l Z Z' m c t t' h j s s' r at }

    -- where calls do alike
    pub level_alike : OpensAlike → (n : ℕ) → CallsUpTo n → AllAlike n
    level_alike open_alike zero calls_alike = one_level open_alike zero calls_alike tt
    level_alike open_alike (suc n) calls_alike = one_level open_alike (suc n) calls_alike (level_alike open_alike n (λ i le. calls_alike i (omega arith)))

    -- and where functions are alike, all calls do
    pub calls_up_to : LikeFunctions items O (gain d) P Q → OpensAlike → (n : ℕ) → CallsUpTo n
    calls_up_to like open_alike zero i le = subst CallsAlike (sym (none_less i le)) (calls_at like zero tt)
      where
        none_less : (i : ℕ) → i ≤ 0 → i ≡ 0
        none_less i le = omega arith
    calls_up_to like open_alike (suc n) i le = by (calls_up_to like open_alike n) (nat_eq i (suc n)) refl
      where
        by : CallsUpTo n → (b : Bool) → nat_eq i (suc n) ≡ b → CallsAlike i
        by low true e = subst CallsAlike (sym (eqb-true i (suc n) e)) (calls_at like (suc n) (level_alike open_alike n low))
        by low false e = low i (omega (arith, eqb-false i (suc n) e))

-- without an opening, nothing is asked
pub nothing_opens : (items : ℕ → ℕ) (P Q : Functions) (d : Direction) → OpensAlike items P Q d no_openings
nothing_opens items P Q d = record { expression = λ n k o. absurd o; statements = λ n k o. absurd o }
