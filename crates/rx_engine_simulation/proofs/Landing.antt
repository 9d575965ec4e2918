-- The new function is left, at its end or by a jump that a variant tells: the caller has what is handed to it, the match of a result takes
-- its arm, and a jump's arm puts variables back and jumps as the text does.
use Rattle.std.proofs.Common.{◌≡◌, ℕ, suc, ◌≤◌, Bool, true, false, List, [], ◌∷◌, length, Some, None, refl, sym, ap, ◌∙◌, subst, arith, inl, inr}
use Rattle.std.proofs.lemmas.List.{append-nil}
use Rattle.rx_typed.specs.Tree as tree
use Rattle.rx_typed.specs.Tree.{Mark, Exp, Arms, Body, Temporary, Operands, own, temporary_of}
use Rattle.rx_lower_walks.specs.Actions.{Action, in_temporary}
use Rattle.rx_lower_walks.specs.Orders.{Exit, breaks, continues, returns, exit}
use Rattle.rx_meaning.specs.Values.{Value, Values, tagged, unit_value, no_value, value_and, is_set, are_set, State}
use Rattle.rx_meaning.specs.Results.{Result, on, jumps, stops, bind, after}
use Rattle.rx_meaning.specs.Acting.{plainly}
use Rattle.rx_meaning.specs.Expressions.{Functions, Meaning, arms, value, body, below_level}
use Rattle.rx_meaning.proofs.Sequences.{after_nothing, bind_on, bind_bind, bind_same}
use Rattle.rx_engine_simulation.specs.Arrivals.{IsUnlent, Within, Specials}
use Rattle.rx_engine_simulation.specs.Packing.{Way, bare, no_way, receives_none, AreNew, gives_one}
use Rattle.rx_engine_simulation.specs.Handing.{Receiving, received_none, received_and}
use Rattle.rx_engine_simulation.specs.Passing.{inner_jumps}
use Rattle.rx_engine_simulation.specs.Variants.{JumpsBehind, jumps_alone, jumps_last, JumpArm, jump_arm, ValueArm, value_arm, UnitArm, unit_arm, ReturnsOn, JumpOn}
use Rattle.rx_engine_simulation.specs.Statements.{Calling, calls_alone, matches, matches_jumps}
use Rattle.rx_engine_simulation.proofs.Values.{Pair, In, wholes, no_values, Given, set_same}
use Rattle.rx_engine_simulation.proofs.States.{Direction, weaken, Facts, Living, Borrowed, special, Sight, sight, Renaming, sight_of, Frozen, IsSpecial, StatesAlike, Grown, grown_trans, Turns}
use Rattle.rx_engine_simulation.proofs.Results.{AllDead, Pack, Returning, as_return, with_value, with_unit, no_return, Jumping, loop_of, Outs, LikeExit, stays_break, stays_continue, gives_back, packs_break, packs_continue, packs_value, packs_unit, both_jump, DoAlike}
use Rattle.rx_engine_simulation.proofs.Parts.{Ready}
use Rattle.rx_engine_simulation.proofs.Entry.{IsCold, Zt, Going}
use Rattle.rx_engine_simulation.proofs.Leaving.{with_memory_in, old_right, states_leave, grown_leave}
use Rattle.rx_engine_simulation.proofs.Contexts.{AllExits, older}
use Rattle.rx_engine_simulation.proofs.Locals.{give_is, back_is, called_back, back_context}
use Rattle.rx_engine_simulation.proofs.Packing.{packed, holds_none, gives_is, Beside, beside_none, beside_and, with_all, new_apart, all_held, arms_are}
use Rattle.rx_engine_simulation.proofs.Handing.{states_within, states_beside_all, grown_all, turns_all, all_new, received_new, received_apart, Standing, AllFit, none_fit, fit_and, fit_beside, fit_outs, receive, Homes, homes_on, put_back}

none_some : {A : Type 0} {a : A} → None ≡ Some a → ⊥
none_some e = cc

-- ---- what the call, or the match of it, computes to

abbrev pub opened : {V : Facts} {J Ji : Jumping} {R : Renaming} {block : Body} {called e : Exp} {w : Way} {k : ℕ} → Functions → Meaning ℕ → Calling V J R block called Ji w k e → Temporary → Temporary → Value → State → Result ℕ Value
opened Q low calls_alone tc dt u s = on [] u s
opened Q low (matches {l = l} on_both picks receives new gives many) tc dt u s = arms plainly Q low (in_temporary tc) (u ∷ []) l dt s
opened Q low (matches_jumps {l = l} on_both) tc dt u s = arms plainly Q low (in_temporary tc) (u ∷ []) l dt s

-- the temporary of the call
abbrev pub called_to : {V : Facts} {J Ji : Jumping} {R : Renaming} {block : Body} {called e : Exp} {w : Way} {k : ℕ} → Calling V J R block called Ji w k e → Temporary → Temporary
called_to calls_alone t = t
called_to {called = called} (matches on_both picks receives new gives many) t = temporary_of called
called_to {called = called} (matches_jumps on_both) t = temporary_of called

return_same : (r : Result ℕ Value) → bind r (λ u s1. on [] u s1) ≡ r
unfolding bind after
return_same (on w v s) = ap (λ l. on l v s) (append-nil w)
return_same (jumps w x v s) = refl
return_same (stops w e) = refl

match_is : (Q : Functions) (low : Meaning ℕ) (m : Mark) (called : Exp) (l : Arms) (t : Temporary) (s : State) → value plainly Q low (tree.choose m (tree.of_value called) l) t s ≡ bind (value plainly Q low called (temporary_of called) s) (λ u s1. arms plainly Q low (in_temporary (temporary_of called)) (u ∷ []) l t s1)
unfolding value
match_is Q low m called l t s = bind_bind (value plainly Q low called (temporary_of called) s) _ _ ∙ bind_same (value plainly Q low called (temporary_of called) s) _ _ _ refl (λ u s1. bind_on (u ∷ []) s1 _)

pub calling_is : {V : Facts} {J Ji : Jumping} {R : Renaming} {block : Body} {called e : Exp} {w : Way} {k : ℕ} (Q : Functions) (low : Meaning ℕ) → (C : Calling V J R block called Ji w k e) → (t : Temporary) (s : State)
    → value plainly Q low e t s ≡ bind (value plainly Q low called (called_to C t) s) (λ u s1. opened Q low C (temporary_of called) t u s1)
calling_is {called = called} Q low calls_alone t s = sym (return_same (value plainly Q low called t s))
calling_is {called = called} Q low (matches {m = m} {l = l} on_both picks receives new gives many) t s = match_is Q low m called l t s
calling_is {called = called} Q low (matches_jumps {m = m} {l = l} on_both) t s = match_is Q low m called l t s

-- ---- values in a row

abbrev pub AllSet : List Value → Type 0
AllSet [] = Unit {0}
AllSet (v ∷ vs) = (is_set v ≡ true) × AllSet vs

pub beside_set : (qs : List ℕ) (vs : List Value) → AllSet vs → length qs ≡ length vs → Beside qs vs
beside_set [] [] set e = beside_none
beside_set [] (v ∷ vs) set e = absurd (omega arith)
beside_set (q ∷ qs) [] set e = absurd (omega arith)
beside_set (q ∷ qs) (v ∷ vs) set e = beside_and set.0 (beside_set qs vs set.1 (omega arith))

pub fits_set : (V : Facts) (Z : Frozen) (h : List Action) (j : List Pair) (t : State) {xs : List ℕ} {ws : List Value} → AllFit V Z h j t xs ws → AllSet ws × (length ws ≡ length xs)
fits_set V Z h j t none_fit = (tt, refl)
fits_set V Z h j t (fit_and f fs) = let a = fits_set V Z h j t fs in ((f.set, a.0), ap suc a.1)

new_within : (R Rs : Renaming) → Within Rs R → (qs : List ℕ) → AreNew R qs → AreNew Rs qs
new_within R Rs within [] n = tt
new_within R Rs within (q ∷ qs) n = (λ x e f g. n.0 x e (within x e f) g, n.1, new_within R Rs within qs n.2)

received_none_of : {R Rc Ra : Renaming} {xs os : List ℕ} → Receiving R Rc xs os Ra → (x : ℕ) (e : Sight) → sight_of Rc x ≡ Some e → In x xs → ⊥
received_none_of received_none x e seen i = i
received_none_of {Rc = Rc} (received_and {x = u} none new new_c r) x e seen (inl f) = none_some (sym none ∙ ap (λ z. sight_of Rc z) (sym f) ∙ seen)
received_none_of {Rc = Rc} (received_and {x = u} {o = p} none new new_c r) x e seen (inr i) = received_none_of r x e (older Rc u x (sight p special) e none seen) i

-- ---- the caller's state

module _ (P Q : Functions) (V : Facts) (d : Direction) (R : Renaming) (Z Z' : Frozen) (J : Jumping) (Cold : ℕ → Type 0) (h : List Action) (j : List Pair) (s s' : State) (inv : StatesAlike V R Z Z' h j s s') (cold : (x : ℕ) → Cold x → IsCold R x) (known : (x i : ℕ) → Z.anchored x i → (e : Sight) × (sight_of R x ≡ Some e))
    (Rf : Renaming) (Zf : Frozen) (sf : State) (going : Going V R Z Z' Cold h j s s' inv cold Rf Zf sf) (fewer : sf.turns ≤ s'.turns) (c c1 m n n' : ℕ) (le : c ≤ c1) (below : n' ≤ n) (block : Body) (unlent : (x : ℕ) → IsUnlent V block x → Borrowed h x → ⊥) where
  abbrev pub Zs : Frozen
  Zs = Zt V R Z Z' Cold h j s s' inv cold

  abbrev pub low : Meaning ℕ
  low = below_level plainly Q n

  -- the caller is left with values of these variables, of those that were the new function's
  pub record Landed (Ri Rs : Renaming) (xs : List ℕ) (ws : List Value) (h1 : List Action) (j1 : List Pair) (t left : State) : Type 0 where
    pub states : StatesAlike V Rs Z Z' h1 j1 t left
    pub grown : Grown j s s' j1 t left
    pub turns : Turns d c1 t.turns left.turns
    pub low_text : t.turns ≤ m
    pub low_answer : left.turns ≤ n
    pub fits : AllFit V Z h1 j1 t xs ws
    pub stands : (x z : ℕ) → sight_of Ri x ≡ Some (sight z special) → Standing V Z h1 j1 t x
    pub homes : Homes Q low V Z Z' R block h1 j1 t left.frame

  module _ (Ri Rs : Renaming) (sp : Specials R Ri) (within : Within Rs R) (h1 : List Action) (j1 : List Pair) (t t' : State) (r : Ready V d Ri Zs Zf c1 m n' h1 j1 t t') (g : Grown j s sf j1 t t') where
    pub stands_at : (x z : ℕ) → sight_of Ri x ≡ Some (sight z special) → Standing V Z h1 j1 t x
    stands_at x z seen =
        let b : IsSpecial V Zs Zf h1 j1 t.frame t'.frame t.memory t'.memory x z = r.inv.binds x (sight z special) seen in
        record { left = b.left; at_text = b.at_text; is_one = b.is_one; thawed = λ v q. b.thawed v (inl q); touched = b.touched }

    home_at : Homes Q low V Z Z' R block h1 j1 t s'.frame
    home_at x y seen u =
        let b : IsSpecial V Z Z' h j s.frame s'.frame s.memory s'.memory x y = inv.binds x (sight y special) seen in
        record {
          slot = b.right;
          at = b.at_answer;
          thawed = b.thawed';
          apart = λ q k e. let l = inv.framed'.below y b.right b.at_answer in
              let o = old_right V R Z Z' Cold h j s s' inv cold known Rf Ri Zf sf going sp h1 j1 t t' r.inv g q k (omega arith) in
              unlent x u (b.touched q o (b.touched' q o e)).1;
        }

    pub land : ((x y : ℕ) → sight_of Rs x ≡ Some (sight y special) → Living V x h1 → ⊥) → {xs : List ℕ} {ws : List Value} → AllFit V Z h1 j1 t xs ws → Landed Ri Rs xs ws h1 j1 t (with_memory_in t' s'.frame t'.memory)
    land dead fits = record {
      states = states_leave V R Z Z' Cold h j s s' inv cold known Rf Ri Zf sf going sp h1 j1 t t' r.inv g Rs within t'.memory (λ n. ⊥) refl (λ n f. refl) (λ q m e. e) (λ i v z e. e) (λ u v seen b l. absurd (dead u v seen l));
      grown = grown_leave V R Z Z' Cold h j s s' inv cold known Rf Ri Zf sf going sp h1 j1 t t' r.inv g Rs within t'.memory (λ n. ⊥) refl (λ n f. refl) (λ q m e. e) (λ i v z e. e) (λ u v seen b l. absurd (dead u v seen l)) fewer;
      turns = r.turns;
      low_text = r.low;
      low_answer = omega (arith, r.low', below);
      fits = fits;
      stands = stands_at;
      homes = home_at;
    }

  -- with further variables of the answer
  pub land_beside : {Ri Rs : Renaming} {xs qs : List ℕ} {ws vs : List Value} {h1 : List Action} {j1 : List Pair} {t left : State} → Within Rs R → Beside qs vs → AreNew R qs → Landed Ri Rs xs ws h1 j1 t left → Landed Ri Rs xs ws h1 j1 t (with_all qs vs left)
  land_beside {Ri} {Rs} {xs} {qs} {ws} {vs} {h1} {j1} {t} {left} within b new l =
      let same : (with_all qs vs left).turns ≡ left.turns = turns_all b left in
      record {
        states = states_beside_all V Rs Z Z' h1 j1 t b (new_within R Rs within qs new) left l.states;
        grown = grown_trans j j1 j1 s s' t left t (with_all qs vs left) l.grown (grown_all b j1 t left);
        turns = subst (λ u. Turns d c1 t.turns u) (sym same) l.turns;
        low_text = l.low_text;
        low_answer = omega (arith, same, l.low_answer);
        fits = l.fits;
        stands = l.stands;
        homes = homes_on Q low V Z Z' R block h1 j1 t b (all_new R qs new) left l.homes;
      }

  -- ---- jumps out of the function

  module _ (Ji : Jumping) (tc dt : Temporary) (l : Arms) (on_both : JumpOn V J Ji R block l) (used : Value → State → Result ℕ Value) where
    abbrev pub hand_arms : Value → State → Result ℕ Value
    hand_arms u s1 = bind (arms plainly Q low (in_temporary tc) (u ∷ []) l dt s1) used

    leaves_as : (x : Exit) (v u : Value) (k : ℕ) (t' end : State) → arms plainly Q low (in_temporary tc) (u ∷ []) l dt (record t' { frame = s'.frame }) ≡ jumps [] x v end → called_back s'.frame hand_arms (jumps [] (returns k) u t') ≡ jumps [] x v end
    unfolding bind
    leaves_as x v u k t' end e = back_is s'.frame hand_arms k u t' ∙ after_nothing _ ∙ ap (λ r. bind r used) e

    jump_is : (mj : Mark) (k : ℕ) (again : Bool) (t : Temporary) (s : State) → value plainly Q low (tree.jump mj k again) t s ≡ jumps [] (exit mj.node k again) unit_value s
    unfolding value
    jump_is mj k again t s = refl

    end_of : (e : Exp) (i : ℕ) (t : Temporary) (s : State) → body plainly Q low (tree.ends e) i t s ≡ value plainly Q low e t s
    unfolding value
    end_of e i t s = refl

    block_of : (w : Mark) (b : Body) (t : Temporary) (s : State) → value plainly Q low (tree.block w b) t s ≡ body plainly Q low b w.node t s
    unfolding value
    block_of w b t s = refl

    run_jump : (mj : Mark) (k : ℕ) (again : Bool) (b : Body) (i : ℕ) (t : Temporary) (s : State) → body plainly Q low (tree.runs (tree.jump mj k again) b) i t s ≡ jumps [] (exit mj.node k again) unit_value s
    unfolding value bind
    run_jump mj k again b i t s = refl

    jumps_then : {f : Body → Body} {e : Exp} (mj : Mark) (k : ℕ) (again : Bool) → JumpsBehind f (tree.jump mj k again) e → (start end : State) → ((b : Body) (i : ℕ) (t : Temporary) → body plainly Q low (f b) i t start ≡ body plainly Q low b i t end)
        → value plainly Q low e dt start ≡ jumps [] (exit mj.node k again) unit_value end
    jumps_then mj k again jumps_alone start end is = sym (end_of (tree.jump mj k again) 0 dt start) ∙ is (tree.ends (tree.jump mj k again)) 0 dt ∙ end_of (tree.jump mj k again) 0 dt end ∙ jump_is mj k again dt end
    jumps_then {f} mj k again (jumps_last {m = w} mu) start end is =
        block_of w (f (tree.runs (tree.jump mj k again) (tree.ends (tree.unit mu)))) dt start ∙ is (tree.runs (tree.jump mj k again) (tree.ends (tree.unit mu))) w.node dt ∙ run_jump mj k again (tree.ends (tree.unit mu)) w.node dt end

    jump_exit : (Ri : Renaming) → Specials R Ri → (again : Bool) (p : Pack) (us : Values) (n1 k : ℕ) (h1 : List Action) (j1 : List Pair) (t t' : State) (x : Exit) → ((m i : ℕ) → loop_of J.loops k ≡ Some i → LikeExit V J h1 j1 t x unit_value (exit m i again) unit_value) → Ji.leaving k again ≡ Some p
        → Outs j1 t p.outs us → are_set us ≡ true → AllDead V Ji p.outs h1 → Ready V d Ri Zs Zf c1 m n' h1 j1 t t' → Grown j s sf j1 t t' → (mj : Mark) (i : ℕ) → loop_of J.loops k ≡ Some i → JumpArm V R block l p (tree.jump mj i again)
        → DoAlike V d R Z Z' J Given c h1 j s s' (jumps [] x unit_value t) (called_back s'.frame hand_arms (jumps [] (returns n1) (tagged p.variant us) t'))
    jump_exit Ri sp again p us n1 k h1 j1 t t' x like e outs set dead r g mj i loop (jump_arm {qs = qs} {e = e1} {f = f} Rs Rr Rd elsewhere within receiving receives picks putting all_back behind) =
        let fit = fit_outs V Z h1 j1 t outs set (λ x i. let a = elsewhere x i in let b = sp x a.0 a.1 in stands_at Ri Rs sp within h1 j1 t t' r g x b.0 b.1) in
        let landed = land Ri Rs sp within h1 j1 t t' r g (λ x y seen l. dead x (on_both.all_dead x y (within x (sight y special) seen)) (received_none_of receiving x (sight y special) seen) l) fit.fits in
        let left = with_memory_in t' s'.frame t'.memory in
        let b = fit_beside V Z h1 j1 t fit.fits receiving in
        let mid = with_all qs fit.ws left in
        let put = put_back Q low V Z Z' R block h1 j1 t putting fit.fits mid (all_held b (received_apart receiving) left) (received_new receiving) (receive Q low V Z Z' R block h1 j1 t receiving fit.fits left landed.states) (homes_on Q low V Z Z' R block h1 j1 t b (received_new receiving) left landed.homes) in
        let end = put.settled.at_end in
        let same : end.turns ≡ t'.turns = put.settled.turns ∙ turns_all b left in
        let is : called_back s'.frame hand_arms (jumps [] (returns n1) (tagged p.variant us) t') ≡ jumps [] (exit mj.node i again) unit_value end
        = leaves_as (exit mj.node i again) unit_value (tagged p.variant us) n1 t' end
        (ap (λ us. arms plainly Q low (in_temporary tc) (tagged p.variant us ∷ []) l dt left) fit.same ∙ arms_are Q low tc picks receives b dt left ∙ jumps_then mj i again behind mid end put.settled.is) in
        subst (λ q. DoAlike V d R Z Z' J Given c h1 j s s' (jumps [] x unit_value t) q) (sym is)
        (λ good. both_jump j1 refl (like mj.node i loop) (record {
          inv = states_within V Rd R Z Z' h1 j1 t end all_back put.settled.states;
          grown = grown_trans j j1 j1 s s' t left t end landed.grown (grown_trans j1 j1 j1 t left t mid t end (grown_all b j1 t left) put.settled.grown);
          turns = subst (λ u. Turns d c t.turns u) (sym same) (weaken d c1 c t.turns t'.turns le r.turns);
        }))

    returns_none : (w : Returning) → w ≡ as_return → ReturnsOn J R l w → ⊥
    returns_none as_return e k = k
    returns_none no_return e k = absurd (cc)
    returns_none (with_value v) e k = absurd (cc)
    returns_none (with_unit v) e k = absurd (cc)

    unit_exit : (Ri : Renaming) → Specials R Ri → (n0 n1 v : ℕ) (u : Value) (h1 : List Action) (j1 : List Pair) (t t' : State) → J.returning ≡ as_return → UnitArm l v → u ≡ unit_value → AllDead V Ji [] h1 → Ready V d Ri Zs Zf c1 m n' h1 j1 t t' → Grown j s sf j1 t t'
        → DoAlike V d R Z Z' J Given c h1 j s s' (jumps [] (returns n0) u t) (called_back s'.frame hand_arms (jumps [] (returns n1) (tagged v no_value) t'))
    unit_exit Ri sp n0 n1 v u h1 j1 t t' returning (unit_arm {mg = mg} {e = e} gives picks) f dead r g =
        let landed = land Ri R sp (λ x e f. f) h1 j1 t t' r g (λ x y seen l. dead x (on_both.all_dead x y seen) (λ i. i) l) none_fit in
        let left = with_memory_in t' s'.frame t'.memory in
        let is : called_back s'.frame hand_arms (jumps [] (returns n1) (tagged v no_value) t') ≡ jumps [] (returns mg.node) unit_value left
        = leaves_as (returns mg.node) unit_value (tagged v no_value) n1 t' left (arms_are Q low tc picks receives_none beside_none dt left ∙ give_is Q low mg e dt unit_value left (gives_is Q low gives holds_none (temporary_of e))) in
        subst (λ u. DoAlike V d R Z Z' J Given c h1 j s s' (jumps [] (returns n0) u t) (called_back s'.frame hand_arms (jumps [] (returns n1) (tagged v no_value) t'))) (sym f)
        (subst (λ q. DoAlike V d R Z Z' J Given c h1 j s s' (jumps [] (returns n0) unit_value t) q) (sym is)
        (λ good. both_jump j1 refl (gives_back returning (wholes no_values, refl)) (record { inv = landed.states; grown = landed.grown; turns = weaken d c1 c t.turns t'.turns le r.turns })))

    value_exit : (Ri : Renaming) → Specials R Ri → (n0 n1 k : ℕ) (v w : Value) (h1 : List Action) (j1 : List Pair) (t t' : State) → J.returning ≡ as_return → ValueArm R l k → Given j1 v w → AllDead V Ji [] h1 → Ready V d Ri Zs Zf c1 m n' h1 j1 t t' → Grown j s sf j1 t t'
        → DoAlike V d R Z Z' J Given c h1 j s s' (jumps [] (returns n0) v t) (called_back s'.frame hand_arms (jumps [] (returns n1) (tagged k (value_and w no_value)) t'))
    value_exit Ri sp n0 n1 k v w h1 j1 t t' returning (value_arm {q = q} {mg = mg} {e = e} new receives takes picks) given dead r g =
        let landed = land Ri R sp (λ x e f. f) h1 j1 t t' r g (λ x y seen l. dead x (on_both.all_dead x y seen) (λ i. i) l) none_fit in
        let left = with_memory_in t' s'.frame t'.memory in
        let set : is_set w ≡ true = sym (set_same given.0) ∙ given.1 in
        let b : Beside (q ∷ []) (w ∷ []) = beside_and set beside_none in
        let end = with_all (q ∷ []) (w ∷ []) left in
        let then_landed = land_beside (λ x e f. f) b (new, (λ i. i), tt) landed in
        let is : called_back s'.frame hand_arms (jumps [] (returns n1) (tagged k (value_and w no_value)) t') ≡ jumps [] (returns mg.node) w end
        = leaves_as (returns mg.node) w (tagged k (value_and w no_value)) n1 t' end (arms_are Q low tc picks receives b dt left ∙ give_is Q low mg e dt w end (gives_is Q low (gives_one takes) (all_held b ((λ i. i), tt) left) (temporary_of e))) in
        subst (λ q. DoAlike V d R Z Z' J Given c h1 j s s' (jumps [] (returns n0) v t) q) (sym is)
        (λ good. both_jump j1 refl (gives_back returning given) (record { inv = then_landed.states; grown = then_landed.grown; turns = weaken d c1 c t.turns t'.turns le r.turns }))

    value_returned : (w : Returning) → ReturnsOn J R l w → (k : ℕ) → w ≡ with_value k → (J.returning ≡ as_return) × ValueArm R l k
    value_returned w back k e = subst (ReturnsOn J R l) e back

    unit_returned : (w : Returning) → ReturnsOn J R l w → (k : ℕ) → w ≡ with_unit k → (J.returning ≡ as_return) × UnitArm l k
    unit_returned w back k e = subst (ReturnsOn J R l) e back

    pub exits_jump : AllExits V d R Z Z' J c j s s' (called_back s'.frame hand_arms) (back_context s'.frame hand_arms) Zs Zf Ji c1 m n' j s sf
    exits_jump Ri sp h1 j1 x y v w t t' (gives_back e k) r g = absurd (returns_none Ji.returning e on_both.returns_on)
    exits_jump Ri sp h1 j1 x y v w t t' (packs_value {n = n0} {m = n1} {i = k0} e k dead) r g = let a = value_returned Ji.returning on_both.returns_on k0 e in value_exit Ri sp n0 n1 k0 v _ h1 j1 t t' a.0 a.1 k dead r g
    exits_jump Ri sp h1 j1 x y v w t t' (packs_unit {n = n0} {m = n1} {i = k} e f dead) r g = let a = unit_returned Ji.returning on_both.returns_on k e in unit_exit Ri sp n0 n1 k v h1 j1 t t' a.0 a.1 f dead r g
    exits_jump Ri sp h1 j1 x y v w t t' (stays_break {l = k} e) r g = absurd (none_some (sym (ap (λ ls. loop_of ls k) on_both.no_loops) ∙ e))
    exits_jump Ri sp h1 j1 x y v w t t' (stays_continue {l = k} e) r g = absurd (none_some (sym (ap (λ ls. loop_of ls k) on_both.no_loops) ∙ e))
    exits_jump Ri sp h1 j1 x y v w t t' (packs_break {n = n0} {m = n1} {l = k} {ws = us} p e outs set dead) r g =
        let a = on_both.jumps_on k false p e in jump_exit Ri sp false p us n1 k h1 j1 t t' (breaks n0 k) (λ m i f. stays_break f) e outs set dead r g a.0 a.1 a.2 a.3
    exits_jump Ri sp h1 j1 x y v w t t' (packs_continue {n = n0} {m = n1} {l = k} {ws = us} p e outs set dead) r g =
        let a = on_both.jumps_on k true p e in jump_exit Ri sp true p us n1 k h1 j1 t t' (continues n0 k) (λ m i f. stays_continue f) e outs set dead r g a.0 a.1 a.2 a.3

  -- the new function doesn't jump out of itself
  no_exit : (h : List Action) (j : List Pair) (t : State) (x y : Exit) (v w : Value) → LikeExit V inner_jumps h j t x v y w → ⊥
  no_exit h j t x y v w (gives_back e g) = absurd (cc)
  no_exit h j t x y v w (stays_break e) = none_some e
  no_exit h j t x y v w (stays_continue e) = none_some e
  no_exit h j t x y v w (packs_break p e us g dead) = none_some e
  no_exit h j t x y v w (packs_continue p e us g dead) = none_some e
  no_exit h j t x y v w (packs_value e g dead) = absurd (cc)
  no_exit h j t x y v w (packs_unit e g dead) = absurd (cc)

  -- what is done with the result
  abbrev pub hand_on : {Ji : Jumping} {called e : Exp} {w : Way} {k : ℕ} → Calling V J R block called Ji w k e → Temporary → (Value → State → Result ℕ Value) → Value → State → Result ℕ Value
  hand_on {called = called} C dt used u s1 = bind (opened Q low C (temporary_of called) dt u s1) used

  pub all_exits : {Ji : Jumping} {called e : Exp} {w : Way} {k : ℕ} → (C : Calling V J R block called Ji w k e) → (dt : Temporary) (used : Value → State → Result ℕ Value)
      → AllExits V d R Z Z' J c j s s' (called_back s'.frame (hand_on C dt used)) (back_context s'.frame (hand_on C dt used)) Zs Zf Ji c1 m n' j s sf
  all_exits calls_alone dt used Ri sp h1 j1 x y v w t t' e r g = absurd (no_exit h1 j1 t x y v w e)
  all_exits {Ji} {called} (matches {l = l} on_both picks receives new gives many) dt used Ri sp h1 j1 x y v w t t' e r g = exits_jump Ji (temporary_of called) dt l on_both used Ri sp h1 j1 x y v w t t' e r g
  all_exits {Ji} {called} (matches_jumps {l = l} on_both) dt used Ri sp h1 j1 x y v w t t' e r g = exits_jump Ji (temporary_of called) dt l on_both used Ri sp h1 j1 x y v w t t' e r g

  -- ---- the function's end

  -- variables of the answer that the arm for the end binds
  abbrev pub with_bound : {Ji : Jumping} {called e : Exp} {w : Way} {k : ℕ} → Calling V J R block called Ji w k e → List Value → State → State
  with_bound calls_alone vs s = s
  with_bound (matches {qs = qs} on_both picks receives new gives many) vs s = with_all qs vs s
  with_bound (matches_jumps on_both) vs s = s

  pub record Opened {Ji : Jumping} {called e : Exp} {w : Way} {k : ℕ} (C : Calling V J R block called Ji w k e) (dt : Temporary) (used : Value → State → Result ℕ Value) (Ri Rs : Renaming) (xs : List ℕ) (ws vs : List Value) (h1 : List Action) (j1 : List Pair) (t left : State) : Type 0 where
    pub landed : Landed Ri Rs xs ws h1 j1 t (with_bound C vs left)
    pub is : hand_on C dt used (packed w vs) left ≡ used (packed bare vs) (with_bound C vs left)

  pub open_with : {Ji : Jumping} {called e : Exp} {w : Way} {k : ℕ} → (C : Calling V J R block called Ji w k e) → (w ≡ no_way → ⊥) → (dt : Temporary) (used : Value → State → Result ℕ Value) {Ri Rs : Renaming} {xs : List ℕ} {ws : List Value} (vs : List Value) {h1 : List Action} {j1 : List Pair} {t left : State}
      → Within Rs R → AllSet vs → length vs ≡ k → Landed Ri Rs xs ws h1 j1 t left → Opened C dt used Ri Rs xs ws vs h1 j1 t left
  open_with calls_alone way dt used vs {left = left} within set long landed = record { landed = landed; is = bind_on (packed bare vs) left used }
  open_with {called = called} (matches {v = v} {qs = qs} {e = e} on_both picks receives new gives many) way dt used vs {left = left} within set long landed =
      let b = beside_set qs vs set (many ∙ sym long) in
      record {
        landed = land_beside within b new landed;
        is = ap (λ r. bind r used) (arms_are Q low (temporary_of called) picks receives b dt left ∙ gives_is Q low gives (all_held b (new_apart R qs new) left) dt) ∙ bind_on (packed bare vs) (with_all qs vs left) used;
      }
  open_with (matches_jumps on_both) way dt used vs within set long landed = absurd (way refl)
