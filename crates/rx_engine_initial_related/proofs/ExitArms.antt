-- What the arm of each exit does: at the run's end it gives what is handed out and goes on; of a jump it puts back what is handed out, and
-- jumps; of a return it returns.
use Rattle.std.proofs.Common.{◌≡◌, ℕ, Bool, true, false, nat_eq, List, [], ◌∷◌, ◌++◌, Some, refl, sym, ◌∙◌, subst, ap, true≢false}
use Rattle.rx_core.specs.declared.types.Step.TheVariants as step
use Rattle.rx_typed.specs.Tree as tree
use Rattle.rx_typed.specs.Tree.{Temporary, Exp, Arms, Body, Subpatterns, mark_of, temporary_of}
use Rattle.rx_lower_walks.specs.Matching.{Binding, bindings_in, tests_in}
use Rattle.rx_lower_walks.specs.Actions.{Give, Action, at_mark}
use Rattle.rx_lower_walks.specs.Actions.{in_temporary as subject_in}
use Rattle.rx_lower_walks.specs.Orders.{order, order_body}
use Rattle.rx_lower_walks.specs.Orders as orders
use Rattle.rx_lower_walks.specs.Walks.{Out, on, leaves, Among}
use Rattle.rx_exits_plan.specs.Blocks.{Statement, before}
use Rattle.rx_exits_plan.specs.Points.{Exit, next, breaks, continues, returns, jump_exit}
use Rattle.rx_exits_plan.specs.Asked.{Asked}
use Rattle.rx_exits_plan.specs.Plan.{Plan, IsPlan}
use Rattle.rx_engine_simulation.specs.Sights.{special, Sight, sight, Renaming, sight_of}
use Rattle.rx_engine_simulation.specs.Arrivals.{Within}
use Rattle.rx_engine_simulation.specs.Jumps.{Jumping, loop_of}
use Rattle.rx_engine_simulation.specs.Packing as packing
use Rattle.rx_engine_simulation.specs.Packing.{bare, Gives, gives_one, Picks, picks_here, picks_later, AreNew}
use Rattle.rx_engine_simulation.specs.Variants.{JumpsBehind, jumps_alone, jumps_last, UnitArm, unit_arm, ValueArm, value_arm, ReturnsOn}
use Rattle.rx_engine_simulation.specs.Handing.{Receiving}
use Rattle.rx_engine_related.specs.Premises.{NotHanded}
use Rattle.rx_engine_related.specs.Leaving.{variant_for, pack_if, returning_if, BackArm, back_arm, ArmsOf}
use Rattle.rx_engine_initial.specs.Variables.{Sides, KnownVariables}
use Rattle.rx_engine_initial.specs.Copies.{easy_give}
use Rattle.rx_engine_initial.proofs.Tracing.{nil_right, joined}
use Rattle.rx_engine_initial.proofs.Uses.{none_is}
use Rattle.rx_engine_initial.proofs.Ways.{same_self}
use Rattle.rx_engine_initial_calls.specs.Received.{Receives, does_one}
use Rattle.rx_engine_initial_forms.specs.Agreeing.{Agrees}
use Rattle.rx_engine_initial_forms.specs.Following.{AgreesOnLoops}
use Rattle.rx_engine_initial_related.specs.CallerAsked.{CallerAsked}
use Rattle.rx_engine_initial_related.proofs.Scope.{AllSlots, scope_injective}
use Rattle.rx_engine_initial_related.proofs.Acts.{Done, done_none, done_one}
use Rattle.rx_engine_initial_related.proofs.Coming.{Came, came_further, comes_both}
use Rattle.rx_engine_initial_related.proofs.Receiving.{Got, got, none_before}
use Rattle.rx_engine_initial_related.proofs.PuttingBack.{Back, put_back}
use Rattle.rx_engine_initial_related.proofs.Becoming.{may}
use Rattle.rx_engine_initial_related.proofs.Singles.{Single, single_then, single_act, single_leave, single_away, straight_single, bound_single, deads}
use Rattle.rx_engine_initial_related.proofs.ArmsTook.{Says}
use Rattle.rx_engine_initial_related.proofs.Giving.{nothing_tested, LeavesAll, leaves_both, ends_then, only_ends, deads_end, deads_leave, Parts, parts_of, Given, given_of}

-- the first arm of a variant is one
not_that : {A : Type 0} (v : ℕ) → nat_eq v v ≡ false → A
not_that v e = absurd (true≢false (sym (same_self v) ∙ e))

picks_at : {l : Arms} {v w : ℕ} {ps qs : Subpatterns} {e f : Exp} → Picks l v ps e → Picks l w qs f → v ≡ w → (ps ≡ qs) × (e ≡ f)
picks_at picks_here picks_here q = (refl, refl)
picks_at {v = v} picks_here (picks_later n p) q = not_that v (subst (λ u. nat_eq v u ≡ false) (sym q) n)
picks_at {w = w} (picks_later n p) picks_here q = not_that w (subst (λ u. nat_eq w u ≡ false) q n)
picks_at (picks_later n p) (picks_later m o) q = picks_at p o q

pub picks_same : {l : Arms} {v : ℕ} {ps qs : Subpatterns} {e f : Exp} → Picks l v ps e → Picks l v qs f → (ps ≡ qs) × (e ≡ f)
picks_same p q = picks_at p q refl

-- statements that declare nothing, in front of what has one whole walk
done_single : {ss : List Statement} {us : List Action} → Done ss us → (b : Body) (n : ℕ) (d : Temporary) {l : List Action} {o : Out} → Single (order_body b n d) l o → Single (order_body (before ss b) n d) (us ++ l) o
done_single done_none b n d f = f
done_single (done_one {e = e} {ss = ss} {us = us} {vs = vs} s a) b n d {l = l} {o = o} f =
    subst (λ m. Single (orders.then (order e (temporary_of e)) (order_body (before ss b) n d)) m o) (sym (joined us vs l)) (single_then (order e (temporary_of e)) (order_body (before ss b) n d) (straight_single s) (done_single a b n d f))

not_runs : {A : Type 0} {e f : Exp} {d : Body} → tree.ends e ≡ tree.runs f d → A
not_runs p = absurd (cc)

nothing_done : {ss : List Statement} {us : List Action} → Done ss us → (e : Exp) → tree.ends e ≡ before ss (tree.ends e) → us ≡ []
nothing_done done_none e q = refl
nothing_done (done_one s a) e q = not_runs q

-- what puts variables back, and jumps
jump_single : {ss : List Statement} {us : List Action} {f : Body → Body} {e v : Exp} {j : orders.Exit} → Done ss us → ((b : Body) → f b ≡ before ss b) → JumpsBehind f e v → ((d : Temporary) → Single (order e d) [] (leaves j)) → (d : Temporary)
    → Single (order v d) us (leaves j)
jump_single {e = e} {j = j} done is jumps_alone h d = subst (λ l. Single (order e d) l (leaves j)) (sym (nothing_done done e (is (tree.ends e)))) (h d)
jump_single {us = us} {f = f} {e = e} {j = j} done is (jumps_last {m = m} mu) h d =
    subst (λ l. Single (order_body (f (tree.runs e (tree.ends (tree.unit mu)))) m.node d) l (leaves j)) (nil_right us)
    (subst (λ b. Single (order_body b m.node d) (us ++ []) (leaves j)) (sym (is (tree.runs e (tree.ends (tree.unit mu)))))
    (done_single done (tree.runs e (tree.ends (tree.unit mu))) m.node d (single_away (order e (temporary_of e)) (order (tree.unit mu) d) (h (temporary_of e)))))

module _ (S : Sides) (A : Asked) (k : Plan) (plan : IsPlan A k) (R : Renaming) (K : KnownVariables S) (g : Agrees S R K) (all : AllSlots R) (Rn : Renaming) (asked : CallerAsked S A k R Rn)
    (J : Jumping) (loops : AgreesOnLoops S J K) where
  pub data ArmDoes : Exit → List Action → Out → Type 0 where
    goes_on : {l : List Action} → LeavesAll R l → ((rest : List Action) → ((hs : List ℕ) → Receives S k next K hs [] rest) → Receives S k next K [] [] (l ++ rest)) → ArmDoes next l on
    jumps_on : {l : List Action} (n d m : ℕ) (again : Bool) → Among (jump_exit n again) k.exits → Among (d, n) K.loops → Receives S k (jump_exit n again) K [] [] l → (Rs : Renaming) → Within Rs R → NotHanded A S.muts_there k (jump_exit n again) Rs
        → ((x : ℕ) (s : Sight) → sight_of R x ≡ Some s → Came k (jump_exit n again) [] Rs l x s) → ArmDoes (jump_exit n again) l (leaves (orders.exit m d again))
    returns_on : {l : List Action} (m : ℕ) → Receives S k returns K [] [] l → ArmDoes returns l (leaves (orders.returns m))

  module _ (t d : Temporary) (l : Arms) (unit : Bool) (arms : ArmsOf A S.muts_there k unit J R l) where
    abbrev Said : ℕ → Subpatterns → Exp → Exit → Type 0
    Said v ps e x = Says t ArmDoes d v ps e x

    pub said_of : (v : ℕ) (x : Exit) {ps qs : Subpatterns} {e f : Exp} → (ps ≡ qs) × (e ≡ f) → Said v ps e x → Said v qs f x
    said_of v x {qs = qs} {e = e} (p, q) z = subst (λ w. Said v qs w x) q (subst (λ w. Said v w e x) p z)

    abbrev bindings_of : ℕ → Subpatterns → List Binding
    bindings_of v ps = bindings_in (step.Variant v ∷ []) ps

    abbrev ends_of : ℕ → Subpatterns → Exp → Out → List Action
    ends_of v ps e o = deads (mark_of e).node (bindings_in (step.Variant v ∷ []) ps) o

    -- ---- at the run's end

    end_of_parts : (v : ℕ) (ps : Subpatterns) (e : Exp) (qs : List ℕ) → tests_in (step.Variant v ∷ []) ps ≡ [] → Parts S k next R K g all t (step.Variant v ∷ []) ps qs → Given S k next R K g all qs e d → Said v ps e next
    end_of_parts v ps e qs none parts given = record {
      all = parts.actions ++ (given.actions ++ ends_of v ps e on);
      out = on;
      is = goes_on (leaves_both R parts.actions (given.actions ++ ends_of v ps e on) parts.leave
          (leaves_both R given.actions (ends_of v ps e on) given.leave (deads_leave S k next R K g all (mark_of e).node (bindings_of v ps) on parts.new)))
          (λ rest f. subst (λ u. Receives S k next K [] [] u) (sym (joined parts.actions (given.actions ++ ends_of v ps e on) rest ∙ ap (λ u. parts.actions ++ u) (joined given.actions (ends_of v ps e on) rest)))
          (parts.receives (given.actions ++ (ends_of v ps e on ++ rest)) [] [] (λ gs a c. given.receives (ends_of v ps e on ++ rest) [] gs a
          (λ hs. ends_then S k next R K g all rest [] (deads_end S k next R K g all (mark_of e).node (bindings_of v ps) on parts.new) f hs))));
      single = bound_single (subject_in t) (bindings_of v ps) (mark_of e).node (order e d) parts.bound (straight_single given.straight);
      no_tests = none;
    }

    pub end_says : (v : ℕ) (ps : Subpatterns) (e : Exp) (qs : List ℕ) → packing.Receives 0 qs ps → AreNew R qs → Gives bare qs e → Said v ps e next
    end_says v ps e qs recv new gives =
        end_of_parts v ps e qs (nothing_tested recv (step.Variant v ∷ [])) (parts_of S k next R K g all recv new t (step.Variant v ∷ [])) (given_of S k next R K g all gives new d)

    -- ---- at a jump

    module _ (n : ℕ) (again : Bool) (i : Among (jump_exit n again) k.exits) (m c : ℕ) (led : loop_of J.loops n ≡ Some c) (v : ℕ) (ps : Subpatterns) (e : Exp) (Rs Rr Rd : Renaming) (within : Within Rs R) (wider : Within R Rd) (qs : List ℕ)
        (recv : Receiving R Rs (k.outs (jump_exit n again)) qs Rr) (none : tests_in (step.Variant v ∷ []) ps ≡ [])
        (parts : Got S k (jump_exit n again) [] R K g all t (step.Variant v ∷ []) ps Rs Rr (k.outs (jump_exit n again)) qs) (f : Body → Body)
        (back : Back S A S.muts_there k (jump_exit n again) [] R K g all (may S A k plan R K g all Rn asked (jump_exit n again) i) Rr Rd (k.outs (jump_exit n again)) qs f) where
      abbrev jumped : Out
      jumped = leaves (orders.exit m c again)

      abbrev jump_ends : List Action
      jump_ends = ends_of v ps e jumped

      abbrev jump_acts : List Action
      jump_acts = parts.actions ++ (back.actions ++ jump_ends)

      not_handed : NotHanded A S.muts_there k (jump_exit n again) Rs
      not_handed x y h = (arms.all_special x y (within x (sight y special) h), λ o. none_is (sym (none_before recv x o) ∙ h))

      came : (x : ℕ) (s : Sight) → sight_of R x ≡ Some s → Came k (jump_exit n again) [] Rs jump_acts x s
      came x s h = subst (λ u. Came k (jump_exit n again) [] Rs u x s) (joined parts.actions back.actions jump_ends)
          (came_further k (jump_exit n again) [] Rs (parts.actions ++ back.actions) jump_ends x s (deads_leave S k (jump_exit n again) R K g all (mark_of e).node (bindings_of v ps) jumped parts.new x s h)
          (comes_both k (jump_exit n again) [] Rs Rr Rd parts.actions back.actions parts.comes back.comes x s (wider x s h)))

      received : Receives S k (jump_exit n again) K [] [] jump_acts
      received = parts.receives (back.actions ++ jump_ends) [] [] (λ gs a b. back.receives jump_ends
          (λ hs ys. only_ends S k (jump_exit n again) K (deads_end S k (jump_exit n again) R K g all (mark_of e).node (bindings_of v ps) jumped parts.new) hs ys) gs [] a (λ y j. elim j [ ]))

      jump_of : Single (order e d) back.actions jumped → Said v ps e (jump_exit n again)
      jump_of single = record {
        all = jump_acts;
        out = jumped;
        is = jumps_on n c m again i (loops.known n c led) received Rs within not_handed came;
        single = bound_single (subject_in t) (bindings_of v ps) (mark_of e).node (order e d) parts.bound single;
        no_tests = none;
      }

    back_says : (n : ℕ) (again : Bool) → Among (jump_exit n again) k.exits → (v : ℕ) (mj : tree.Mark) (c : ℕ) → loop_of J.loops n ≡ Some c
        → BackArm A S.muts_there k R l (record { variant = v; outs = k.outs (jump_exit n again) }) (tree.jump mj c again) → (ps : Subpatterns) (e : Exp) → Picks l v ps e → Said v ps e (jump_exit n again)
    back_says n again i v mj c led (back_arm {qs = qs} {ps = qp} {e = w} {f = f} Rs Rr Rd special_all within recv parts picks put wider jumps) ps e here_picks =
        said_of v (jump_exit n again) (picks_same picks here_picks)
        (jump_of n again i mj.node c led v qp w Rs Rr Rd within wider qs recv (nothing_tested parts (step.Variant v ∷ [])) made f back (jump_single back.acts back.is jumps (λ z. single_leave (orders.exit mj.node c again)) d))
      where
        made : Got S k (jump_exit n again) [] R K g all t (step.Variant v ∷ []) qp Rs Rr (k.outs (jump_exit n again)) qs
        made = got S k (jump_exit n again) [] R K g all recv parts t (step.Variant v ∷ []) (λ x z a b p q r. scope_injective S R K g all x z a b (within x a p) (within z b q) r) (λ x j. j)

        back : Back S A S.muts_there k (jump_exit n again) [] R K g all (may S A k plan R K g all Rn asked (jump_exit n again) i) Rr Rd (k.outs (jump_exit n again)) qs f
        back = put_back S A S.muts_there k (jump_exit n again) [] R K g all (may S A k plan R K g all Rn asked (jump_exit n again) i) put made.injective made.held (λ x j. j)

    pub jump_says : (n : ℕ) (again : Bool) → Among (jump_exit n again) k.exits → (v : ℕ) → variant_for k (jump_exit n again) ≡ Some v → (ps : Subpatterns) (e : Exp) → Picks l v ps e → Said v ps e (jump_exit n again)
    jump_says n again i v h ps e picks =
        let z = arms.jumps n again (record { variant = v; outs = k.outs (jump_exit n again) }) (ap (λ o. pack_if (k.outs (jump_exit n again)) o) h) in
        back_says n again i v z.0 z.1 z.2 z.3 ps e picks

    -- ---- at a return

    returned : (v : ℕ) (ps : Subpatterns) (m : tree.Mark) (w : Exp) (qs : List ℕ) → tests_in (step.Variant v ∷ []) ps ≡ [] → Parts S k returns R K g all t (step.Variant v ∷ []) ps qs → Given S k returns R K g all qs w (temporary_of w) → Said v ps (tree.give m w) returns
    returned v ps m w qs none parts given = record {
      all = parts.actions ++ ((given.actions ++ at_mark m (Give (temporary_of w)) ∷ []) ++ ends_of v ps (tree.give m w) (leaves (orders.returns m.node)));
      out = leaves (orders.returns m.node);
      is = returns_on m.node (parts.receives ((given.actions ++ at_mark m (Give (temporary_of w)) ∷ []) ++ ends_of v ps (tree.give m w) (leaves (orders.returns m.node))) [] [] (λ gs a c.
          subst (λ u. Receives S k returns K gs [] u) (sym (joined given.actions (at_mark m (Give (temporary_of w)) ∷ []) (ends_of v ps (tree.give m w) (leaves (orders.returns m.node)))))
          (given.receives (at_mark m (Give (temporary_of w)) ∷ ends_of v ps (tree.give m w) (leaves (orders.returns m.node))) [] gs a
          (λ hs. does_one easy_give (only_ends S k returns K (deads_end S k returns R K g all m.node (bindings_of v ps) (leaves (orders.returns m.node)) parts.new) hs [])))));
      single = bound_single (subject_in t) (bindings_of v ps) m.node (order (tree.give m w) d) parts.bound
          (single_then (order w (temporary_of w)) (orders.then (orders.act (at_mark m (Give (temporary_of w)))) (orders.leave (orders.returns m.node))) (straight_single given.straight)
          (single_then (orders.act (at_mark m (Give (temporary_of w)))) (orders.leave (orders.returns m.node)) (single_act (at_mark m (Give (temporary_of w)))) (single_leave (orders.returns m.node))));
      no_tests = none;
    }

    unit_says : (v : ℕ) → UnitArm l v → (ps : Subpatterns) (e : Exp) → Picks l v ps e → Said v ps e returns
    unit_says v (unit_arm {mg = mg} {e = w} gives picks) ps e here_picks =
        said_of v returns (picks_same picks here_picks) (returned v tree.no_part mg w [] refl (parts_of S k returns R K g all (packing.receives_none {i = 0}) tt t (step.Variant v ∷ [])) (given_of S k returns R K g all gives tt (temporary_of w)))

    value_says : (v : ℕ) → ValueArm R l v → (ps : Subpatterns) (e : Exp) → Picks l v ps e → Said v ps e returns
    value_says v (value_arm {q = q} {ps = qp} {mg = mg} {e = w} new recv takes picks) ps e here_picks =
        said_of v returns (picks_same picks here_picks)
        (returned v qp mg w (q ∷ []) (nothing_tested recv (step.Variant v ∷ [])) (parts_of S k returns R K g all recv (new, (λ j. j), tt) t (step.Variant v ∷ [])) (given_of S k returns R K g all (gives_one takes) (new, (λ j. j), tt) (temporary_of w)))

    pub return_says : (b : Bool) (v : ℕ) → ReturnsOn J R l (returning_if b (Some v)) → (ps : Subpatterns) (e : Exp) → Picks l v ps e → Said v ps e returns
    return_says true v z ps e picks = unit_says v z.1 ps e picks
    return_says false v z ps e picks = value_says v z.1 ps e picks

    -- ---- at each exit

    pub arms_say : ((v : ℕ) → Among next k.exits → variant_for k next ≡ Some v → (ps : Subpatterns) (e : Exp) → Picks l v ps e → Said v ps e next)
        → (x : Exit) (v : ℕ) (ps : Subpatterns) (e : Exp) → Among x k.exits → variant_for k x ≡ Some v → Picks l v ps e → Said v ps e x
    arms_say at_end next v ps e i h picks = at_end v i h ps e picks
    arms_say at_end (breaks n) v ps e i h picks = jump_says n false i v h ps e picks
    arms_say at_end (continues n) v ps e i h picks = jump_says n true i v h ps e picks
    arms_say at_end returns v ps e i h picks = return_says unit v (subst (λ o. ReturnsOn J R l (returning_if unit o)) h arms.return) ps e picks
