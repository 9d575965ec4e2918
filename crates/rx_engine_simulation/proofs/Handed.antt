-- What the new function's end leads to: what is handed back is used, and what follows in the text follows on both sides.
use Rattle.std.proofs.Common.{◌≡◌, ℕ, ◌≤◌, Bool, true, false, List, [], ◌∷◌, Some, refl, sym, ap, ◌∙◌, subst, arith, ⊎_elim}
use Rattle.std.proofs.lemmas.List.{append-nil}
use Rattle.rx_typed.specs.Tree as tree
use Rattle.rx_typed.specs.Tree.{Mark, Exp, Body, Temporary, Subpatterns, own, temporary_of}
use Rattle.rx_lower_walks.specs.Actions.{Action, Give, at_mark, in_temporary}
use Rattle.rx_lower_walks.specs.Matching.{bindings_in}
use Rattle.rx_lower_walks.specs.Orders.{returns, order_body}
use Rattle.rx_meaning.specs.Values.{Value, unit_value, is_set, State}
use Rattle.rx_meaning.specs.Results.{Result, on, jumps, stops, bind, after, result_of}
use Rattle.rx_meaning.specs.Acting.{performed, plainly}
use Rattle.rx_meaning.specs.Patterns.{bound}
use Rattle.rx_meaning.specs.Expressions.{Functions, Meaning, value, body, below_level}
use Rattle.rx_meaning.proofs.Sequences.{after_nothing, bind_on, bind_bind, bind_same}
use Rattle.rx_engine_simulation.specs.Arrivals.{Aim, Arrives, AreDead, IsUnlent, Within}
use Rattle.rx_engine_simulation.specs.Packing.{Way, bare, no_way, Takes, Receives}
use Rattle.rx_engine_simulation.specs.Handing.{Receiving, PuttingBack, drops}
use Rattle.rx_engine_simulation.specs.Endings.{Last, none_left, a_statement, a_marked, a_tail, an_end}
use Rattle.rx_engine_simulation.specs.Statements.{Calling, calls_alone, GivenBack, as_tail, as_end, Following, goes_on, goes_on_behind, goes_on_marked, ends_with_unit, Handing, hands_on, hands_value, hands_beside, hands_none}
use Rattle.rx_engine_simulation.proofs.Told.{Told, followed}
use Rattle.rx_engine_simulation.proofs.Values.{Pair, In, wholes, no_values, Given, set_same}
use Rattle.rx_engine_simulation.proofs.States.{Direction, weaken, Facts, Borrowed, Sight, Renaming, sight_of, Frozen, StatesAlike, Grown, grown_trans, Turns}
use Rattle.rx_engine_simulation.proofs.Results.{as_return, Jumping, ResultsAlike, both_on, both_jump, both_stop, text_cut, answer_cut, gives_back, DoAlike}
use Rattle.rx_engine_simulation.proofs.Declaring.{IsNew}
use Rattle.rx_engine_simulation.proofs.Parts.{Ready, alike_from}
use Rattle.rx_engine_simulation.proofs.Entry.{with_value, IsCold, Going}
use Rattle.rx_engine_simulation.proofs.Locals.{give_is}
use Rattle.rx_engine_simulation.proofs.Packing.{packed, Holding, holds_and, takes_is, Beside, beside_and, with_all, all_held, spread_is}
use Rattle.rx_engine_simulation.proofs.Handing.{states_within, states_beside, grown_all, turns_all, received_new, received_apart, AllFit, none_fit, fit_beside, receive, homes_on, put_back, used, used_is, settle, redeclare}
use Rattle.rx_engine_simulation.proofs.Landing.{Landed, Opened, hand_on, with_bound}

-- ---- what stands in place of the statements computes to the call, and what is done with what it gives

-- what follows in the text
abbrev pub text_goes : Functions → Meaning (Told ℕ) → Last → Body → ℕ → Temporary → Value → State → Result (Told ℕ) Value
text_goes P lp none_left rest i t0 v s = body followed P lp rest i t0 s
text_goes P lp (a_statement e) rest i t0 v s = body followed P lp rest i t0 s
text_goes P lp (a_marked e p) rest i t0 v s = body followed P lp rest i t0 s
text_goes P lp (a_tail e) rest i t0 v s = on [] v s
text_goes P lp (an_end m e) rest i t0 v s = jumps [] (returns m.node) v s

-- the run's value, with those of variables behind it
abbrev pub all_values : Bool → Value → List Value → List Value
all_values false v vs = vs
all_values true v vs = v ∷ vs

-- where the text goes on without a value, its tail's is the unit
abbrev pub ValueFits : Last → Bool → List Pair → Value → Value → Type 0
ValueFits none_left has j v w = Unit {0}
ValueFits (a_statement e) has j v w = Unit {0}
ValueFits (a_marked e p) has j v w = Unit {0}
ValueFits (a_tail e) true j v w = Given j v w
ValueFits (a_tail e) false j v w = v ≡ unit_value
ValueFits (an_end m e) true j v w = Given j v w
ValueFits (an_end m e) false j v w = v ≡ unit_value

abbrev pub RestAt : Facts → Last → Body → ℕ → Temporary → List Action → Type 0
RestAt V none_left rest i t0 h = V.Comes (order_body rest i t0) h
RestAt V (a_statement e) rest i t0 h = V.Comes (order_body rest i t0) h
RestAt V (a_marked e p) rest i t0 h = V.Comes (order_body rest i t0) h
RestAt V (a_tail e) rest i t0 h = Unit {0}
RestAt V (an_end m e) rest i t0 h = Unit {0}

return_same : (r : Result ℕ Value) → bind r (λ u s1. on [] u s1) ≡ r
unfolding bind after
return_same (on w v s) = ap (λ l. on l v s) (append-nil w)
return_same (jumps w x v s) = refl
return_same (stops w e) = refl

module _ (Q : Functions) (lq : Meaning ℕ) where
  abbrev pub used_in : {V : Facts} {J : Jumping} {R Rb Rn : Renaming} {block : Body} {a : Aim} {e : Exp} {l : Last} {has : Bool} {w : Way} {xs : List ℕ} {f' : Body → Body} → Handing V J R Rb block a e l has w xs Rn f' → Temporary → Body → ℕ → Temporary → Value → State → Result ℕ Value
  used_in (hands_on {f = f} {k = k} Rs Rr Rd within dead U redeclared following all_there outer) tc rest' i' t0' u s = used Q lq U tc (f (k rest')) i' t0' u s
  used_in (hands_value dead as_tail) tc rest' i' t0' u s = on [] u s
  used_in (hands_value dead (as_end {m' = m'} back)) tc rest' i' t0' u s = bind (performed plainly (at_mark m' (Give tc)) (u ∷ []) s) (λ w s2. jumps [] (returns m'.node) w s2)
  used_in (hands_beside {ps = ps} {e1 = e1} {g = g} {k = k} Rs Rr Rd within dead new apart receiving receives putting all_there takes back) tc rest' i' t0' u s = bound plainly (in_temporary tc) (u ∷ []) (bindings_in [] ps) i' (λ s2. body plainly Q lq (g (tree.ends (k e1))) i' t0' s2) s
  used_in (hands_none {g = g}) tc rest' i' t0' u s = body plainly Q lq (g rest') i' t0' s

  abbrev pub temp_in : {V : Facts} {J : Jumping} {R Rb Rn : Renaming} {block : Body} {a : Aim} {e : Exp} {l : Last} {has : Bool} {w : Way} {xs : List ℕ} {f' : Body → Body} → Handing V J R Rb block a e l has w xs Rn f' → Temporary → Temporary
  temp_in (hands_value dead as_tail) t = t
  temp_in {e = e} _ t = temporary_of e

  value_end : (e : Exp) (i : ℕ) (t : Temporary) (s : State) → body plainly Q lq (tree.ends e) i t s ≡ value plainly Q lq e t s
  unfolding value
  value_end e i t s = refl

  pub handing_is : {V : Facts} {J : Jumping} {R Rb Rn : Renaming} {block : Body} {a : Aim} {e : Exp} {l : Last} {has : Bool} {w : Way} {xs : List ℕ} {f' : Body → Body} → (H : Handing V J R Rb block a e l has w xs Rn f') → (rest' : Body) (i' : ℕ) (t0' : Temporary) (s : State)
      → body plainly Q lq (f' rest') i' t0' s ≡ bind (value plainly Q lq e (temp_in H t0') s) (λ u s1. used_in H (temporary_of e) rest' i' t0' u s1)
  unfolding value
  handing_is (hands_on {f = f} {k = k} Rs Rr Rd within dead U redeclared following all_there outer) rest' i' t0' s = used_is Q lq U (f (k rest')) i' t0' s
  handing_is {e = e} (hands_value dead as_tail) rest' i' t0' s = sym (return_same (value plainly Q lq e t0' s))
  handing_is (hands_value dead (as_end back)) rest' i' t0' s = refl
  handing_is {e = e} (hands_beside Rs Rr Rd within dead new apart receiving receives putting all_there takes back) rest' i' t0' s =
      bind_bind (value plainly Q lq e (temporary_of e) s) _ _ ∙ bind_same (value plainly Q lq e (temporary_of e) s) _ _ _ refl (λ v s1. bind_on (v ∷ []) s1 _)
  handing_is hands_none rest' i' t0' s = refl

alike_within : {V : Facts} {d : Direction} {Z Z' : Frozen} {J : Jumping} {c : ℕ} {h : List Action} {j : List Pair} {s s' : State} (R Rn : Renaming) (r : Result (Told ℕ) Value) (r' : Result ℕ Value) → Within R Rn → DoAlike V d Rn Z Z' J Given c h j s s' r r' → DoAlike V d R Z Z' J Given c h j s s' r r'
alike_within {V} {d} {Z} {Z'} {J} {c} {h} {j} {s} {s'} R Rn r r' within k good = by r r' (k good)
  where
    by : (r : Result (Told ℕ) Value) (r' : Result ℕ Value) → ResultsAlike V d Rn Z Z' J Given c h j s s' r r' → ResultsAlike V d R Z Z' J Given c h j s s' r r'
    by r r' (both_on j1 f w z) = both_on j1 f w (record { inv = states_within V Rn R Z Z' _ j1 _ _ within z.inv; grown = z.grown; turns = z.turns })
    by r r' (both_jump j1 f w z) = both_jump j1 f w (record { inv = states_within V Rn R Z Z' _ j1 _ _ within z.inv; grown = z.grown; turns = z.turns })
    by r r' (both_stop f q) = both_stop f q
    by r r' (text_cut m f) = text_cut m f
    by r r' (answer_cut m f) = answer_cut m f

module _ (P Q : Functions) (V : Facts) (d : Direction) (R : Renaming) (Z Z' : Frozen) (J : Jumping) (Cold : ℕ → Type 0) (h : List Action) (j : List Pair) (s s' : State) (inv : StatesAlike V R Z Z' h j s s') (cold : (x : ℕ) → Cold x → IsCold R x) (known : (x i : ℕ) → Z.anchored x i → (e : Sight) × (sight_of R x ≡ Some e))
    (Rf : Renaming) (Zf : Frozen) (sf : State) (going : Going V R Z Z' Cold h j s s' inv cold Rf Zf sf) (fewer : sf.turns ≤ s'.turns) (c c1 m n n' : ℕ) (le : c ≤ c1) (below : n' ≤ n) (block : Body) (unlent : (x : ℕ) → IsUnlent V block x → Borrowed h x → ⊥)
    (rest rest' : Body) (i i' : ℕ) (t0 t0' : Temporary) where
  abbrev lq : Meaning ℕ
  lq = below_level plainly Q n

  abbrev lp : Meaning (Told ℕ)
  lp = below_level followed P m

  -- the caller's state, as it is left
  abbrev pub Lands : Renaming → Renaming → List ℕ → List Value → List Action → List Pair → State → State → Type 0
  Lands Rb Rs xs ws h1 j1 t left = Landed P Q V d R Z Z' J Cold h j s s' inv cold known Rf Zf sf going fewer c c1 m n n' le below block unlent Rb Rs xs ws h1 j1 t left

  abbrev pub hand_of : {Ji : Jumping} {called e : Exp} {w : Way} {k : ℕ} → Calling V J R block called Ji w k e → Temporary → (Value → State → Result ℕ Value) → Value → State → Result ℕ Value
  hand_of C dt f u s1 = hand_on P Q V d R Z Z' J Cold h j s s' inv cold known Rf Zf sf going fewer c c1 m n n' le below block unlent C dt f u s1

  abbrev pub bound_in : {Ji : Jumping} {called e : Exp} {w : Way} {k : ℕ} → Calling V J R block called Ji w k e → List Value → State → State
  bound_in C vs left = with_bound P Q V d R Z Z' J Cold h j s s' inv cold known Rf Zf sf going fewer c c1 m n n' le below block unlent C vs left

  abbrev pub Opens : {Ji : Jumping} {called e : Exp} {w : Way} {k : ℕ} → Calling V J R block called Ji w k e → Temporary → (Value → State → Result ℕ Value) → Renaming → Renaming → List ℕ → List Value → List Value → List Action → List Pair → State → State → Type 0
  Opens C dt f Rb Rs xs ws vs h1 j1 t left = Opened P Q V d R Z Z' J Cold h j s s' inv cold known Rf Zf sf going fewer c c1 m n n' le below block unlent C dt f Rb Rs xs ws vs h1 j1 t left

  -- the rest does alike
  abbrev pub RestAlike : Renaming → Type 0
  RestAlike Rn = (h : List Action) (j : List Pair) (s s' : State) → Ready V d Rn Z Z' c1 m n h j s s' → V.Comes (order_body rest i t0) h
      → DoAlike V d Rn Z Z' J Given c h j s s' (body followed P (below_level followed P m) rest i t0 s) (body plainly Q (below_level plainly Q n) rest' i' t0' s')

  module _ (h1 : List Action) (j1 : List Pair) (t : State) where
    -- where the answer stands
    record Stands (Rc : Renaming) (end : State) : Type 0 where
      states : StatesAlike V Rc Z Z' h1 j1 t end
      grown : Grown j s s' j1 t end
      turns : Turns d c1 t.turns end.turns
      low_text : t.turns ≤ m
      low_answer : end.turns ≤ n

    rest_goes : (Rd Rn : Renaming) (end : State) → Within Rn Rd → Within R Rn → Stands Rd end → RestAlike Rn → V.Comes (order_body rest i t0) h1 → DoAlike V d R Z Z' J Given c h1 j s s' (body followed P lp rest i t0 t) (body plainly Q lq rest' i' t0' end)
    rest_goes Rd Rn end all_there outer st go at good =
        alike_from V d R Z Z' J Given c h1 j j1 s s' t end _ _ st.grown
        (alike_within R Rn _ _ outer (go h1 j1 t end (record {
          inv = states_within V Rd Rn Z Z' h1 j1 t end all_there st.states;
          turns = st.turns;
          low = st.low_text;
          low' = st.low_answer;
          known = λ x i a. let k = known x i a in (k.0, outer x k.0 k.1);
        }) at) good)

    -- a value goes back
    value_goes : (v v' : Value) (end : State) → Given j1 v v' → Stands R end → DoAlike V d R Z Z' J Given c h1 j s s' (on [] v t) (on [] v' end)
    value_goes v v' end given st = λ good. both_on j1 refl given (record { inv = st.states; grown = st.grown; turns = weaken d c1 c t.turns end.turns le st.turns })

    return_goes : (a b : Mark) (v v' : Value) (end : State) → J.returning ≡ as_return → Given j1 v v' → Stands R end → DoAlike V d R Z Z' J Given c h1 j s s' (jumps [] (returns a.node) v t) (jumps [] (returns b.node) v' end)
    return_goes a b v v' end back given st = λ good. both_jump j1 refl (gives_back back given) (record { inv = st.states; grown = st.grown; turns = weaken d c1 c t.turns end.turns le st.turns })

    given_back : {l : Last} {k : Exp → Exp} → GivenBack J l k → (v v' : Value) (e1 : Exp) (end : State) → Given j1 v v' → ((tt : Temporary) → value plainly Q lq e1 tt end ≡ on [] v' end) → Stands R end
        → DoAlike V d R Z Z' J Given c h1 j s s' (text_goes P lp l rest i t0 v t) (body plainly Q lq (tree.ends (k e1)) i' t0' end)
    given_back as_tail v v' e1 end given is st = subst (λ q. DoAlike V d R Z Z' J Given c h1 j s s' (on [] v t) q) (sym (value_end Q lq e1 i' t0' end ∙ is t0')) (value_goes v v' end given st)
    given_back (as_end {m = a} {m' = b} {e = e} back) v v' e1 end given is st =
        subst (λ q. DoAlike V d R Z Z' J Given c h1 j s s' (jumps [] (returns a.node) v t) q) (sym (value_end Q lq (tree.give b e1) i' t0' end ∙ give_is Q lq b e1 t0' v' end (is (temporary_of e1))))
        (return_goes a b v v' end back given st)

    give_step : (b : Mark) (tc : Temporary) (v : Value) (end : State) → bind {B = Value} (performed plainly (at_mark b (Give tc)) (v ∷ []) end) (λ w s2. jumps [] (returns b.node) w s2) ≡ jumps [] (returns b.node) v end
    unfolding bind result_of
    give_step b tc v end = after_nothing _

    unit_value_is : (b : Mark) (tt : Temporary) (end : State) → value plainly Q lq (tree.unit b) tt end ≡ on [] unit_value end
    unfolding value
    unit_value_is b tt end = refl

    follows : {l : Last} {k : Body → Body} → Following J l k → (Rd Rn : Renaming) (end : State) (v v' : Value) → Within Rn Rd → Within R Rn → Stands Rd end → RestAlike Rn → RestAt V l rest i t0 h1 → ValueFits l false j1 v v'
        → DoAlike V d R Z Z' J Given c h1 j s s' (text_goes P lp l rest i t0 v t) (body plainly Q lq (k rest') i' t0' end)
    follows goes_on Rd Rn end v v' all_there outer st go at fit = rest_goes Rd Rn end all_there outer st go at
    follows goes_on_behind Rd Rn end v v' all_there outer st go at fit = rest_goes Rd Rn end all_there outer st go at
    follows goes_on_marked Rd Rn end v v' all_there outer st go at fit = rest_goes Rd Rn end all_there outer st go at
    follows (ends_with_unit {m = b} back) Rd Rn end v v' all_there outer st go at fit =
        ends_so back v (unit_of back v v' fit) (record { states = states_within V Rd R Z Z' h1 j1 t end (λ x e f. all_there x e (outer x e f)) st.states; grown = st.grown; turns = st.turns; low_text = st.low_text; low_answer = st.low_answer })
      where
        unit_of : {l : Last} {k : Exp → Exp} → GivenBack J l k → (v v' : Value) → ValueFits l false j1 v v' → v ≡ unit_value
        unit_of as_tail v v' fit = fit
        unit_of (as_end back) v v' fit = fit

        ends_so : {l : Last} {k : Exp → Exp} → GivenBack J l k → (v : Value) → v ≡ unit_value → Stands R end → DoAlike V d R Z Z' J Given c h1 j s s' (text_goes P lp l rest i t0 v t) (body plainly Q lq (tree.ends (k (tree.unit b))) i' t0' end)
        ends_so {l} {k} back v e st =
            subst (λ v. DoAlike V d R Z Z' J Given c h1 j s s' (text_goes P lp l rest i t0 v t) (body plainly Q lq (tree.ends (k (tree.unit b))) i' t0' end)) (sym e)
            (given_back back unit_value unit_value (tree.unit b) end (wholes no_values, refl) (λ tt. unit_value_is b tt end) st)

    standing : {Rb Rs : Renaming} {xs : List ℕ} {ws : List Value} {left : State} → Lands Rb Rs xs ws h1 j1 t left → (Rc : Renaming) (end : State) → StatesAlike V Rc Z Z' h1 j1 t end → Grown j1 t left j1 t end → end.turns ≡ left.turns → Stands Rc end
    standing {left = left} landed Rc end st g e = record {
      states = st;
      grown = grown_trans j j1 j1 s s' t left t end landed.grown g;
      turns = subst (λ u. Turns d c1 t.turns u) (sym e) landed.turns;
      low_text = landed.low_text;
      low_answer = omega (arith, e, landed.low_answer);
    }

    -- ---- by what the caller does

    given_of : {l : Last} {k : Exp → Exp} → GivenBack J l k → (v v' : Value) → ValueFits l true j1 v v' → Given j1 v v'
    given_of as_tail v v' fit = fit
    given_of (as_end back) v v' fit = fit

    first_is : {o : ℕ} {os : List ℕ} {v : Value} {vs : List Value} {end : State} {e1 : Exp} → Holding end (o ∷ os) (v ∷ vs) → Takes o e1 → (tt : Temporary) → value plainly Q lq e1 tt end ≡ on [] v end
    first_is {v = v} {end = end} (holds_and e f set k) takes tt = takes_is Q lq takes tt v end e f set

    value_alone : {Ji : Jumping} {called e : Exp} {w : Way} {count : ℕ} (C : Calling V J R block called Ji w count e) (dt : Temporary) (Rb : Renaming) (left : State) (goes : Result (Told ℕ) Value) (f : Value → State → Result ℕ Value) (v v' : Value) (ws : List Value) → AllFit V Z h1 j1 t [] ws → Opens C dt f Rb R [] ws (v' ∷ ws) h1 j1 t left → Given j1 v v'
        → ((s1 : State) → Stands R s1 → DoAlike V d R Z Z' J Given c h1 j s s' goes (f v' s1)) → DoAlike V d R Z Z' J Given c h1 j s s' goes (hand_of C dt f (packed w (v' ∷ ws)) left)
    value_alone C dt Rb left goes f v v' [] none_fit opened given then_alike =
        let landed = opened.landed in
        subst (λ q. DoAlike V d R Z Z' J Given c h1 j s s' goes q) (sym opened.is)
        (then_alike (bound_in C (v' ∷ []) left) (record { states = landed.states; grown = landed.grown; turns = landed.turns; low_text = landed.low_text; low_answer = landed.low_answer }))
    value_alone C dt Rb left goes f v v' (w0 ∷ ws) k opened given then_alike = elim k [ ]

    beside_alike : {Ji : Jumping} {called e : Exp} {w : Way} {count : ℕ} (C : Calling V J R block called Ji w count e) (dt tc : Temporary) (Rb : Renaming) (left : State) {l : Last} {k : Exp → Exp} (back : GivenBack J l k) {o : ℕ} {xs os : List ℕ} {ps : Subpatterns} {e1 : Exp} {g : Body → Body} (Rs Rr Rd : Renaming) → Within Rs R → IsNew R o → (In o os → ⊥)
        → (receiving : Receiving R Rs xs os Rr) → Receives 0 (o ∷ os) ps → PuttingBack V R block Rr xs os g Rd → Within R Rd → Takes o e1
        → (v v' w0 : Value) (ws : List Value) → AllFit V Z h1 j1 t xs (w0 ∷ ws) → Opens C dt (λ u s. bound plainly (in_temporary tc) (u ∷ []) (bindings_in [] ps) i' (λ s2. body plainly Q lq (g (tree.ends (k e1))) i' t0' s2) s) Rb Rs xs (w0 ∷ ws) (v' ∷ w0 ∷ ws) h1 j1 t left → Given j1 v v'
        → DoAlike V d R Z Z' J Given c h1 j s s' (text_goes P lp l rest i t0 v t) (hand_of C dt (λ u s. bound plainly (in_temporary tc) (u ∷ []) (bindings_in [] ps) i' (λ s2. body plainly Q lq (g (tree.ends (k e1))) i' t0' s2) s) (packed w (v' ∷ w0 ∷ ws)) left)
    beside_alike C dt tc Rb left {l} {k} back {o} {xs} {os} {ps} {e1} {g} Rs Rr Rd within new apart receiving receives putting all_back takes v v' w0 ws fits opened given =
        let landed = opened.landed in
        let left1 = bound_in C (v' ∷ w0 ∷ ws) left in
        let set : is_set v' ≡ true = sym (set_same given.0) ∙ given.1 in
        let bos : Beside os (w0 ∷ ws) = fit_beside V Z h1 j1 t fits receiving in
        let b : Beside (o ∷ os) (v' ∷ w0 ∷ ws) = beside_and set bos in
        let left2 = with_value o v' left1 in
        let mid = with_all os (w0 ∷ ws) left2 in
        let st2 = states_beside V Rs Z Z' h1 j1 t left1 o v' (λ x e f g. new x e (within x e f) g) landed.states in
        let news : (q : ℕ) → In q (o ∷ os) → IsNew R q = λ q q_in. ⊎_elim (λ e. subst (λ q. IsNew R q) (sym e) new) (λ q_in. received_new receiving q q_in) q_in in
        let put = put_back Q lq V Z Z' R block h1 j1 t putting fits mid (all_held bos (received_apart receiving) left2) (received_new receiving) (receive Q lq V Z Z' R block h1 j1 t receiving fits left2 st2) (homes_on Q lq V Z Z' R block h1 j1 t b news left1 landed.homes) in
        let end = put.settled.at_end in
        subst (λ q. DoAlike V d R Z Z' J Given c h1 j s s' (text_goes P lp l rest i t0 v t) q)
        (sym (opened.is ∙ spread_is receives b (packed bare (v' ∷ w0 ∷ ws)) refl tc i' (λ s2. body plainly Q lq (g (tree.ends (k e1))) i' t0' s2) left1 ∙ put.settled.is (tree.ends (k e1)) i' t0'))
        (given_back back v v' e1 end given (first_is (put.held (all_held b (apart, received_apart receiving) left1) news) takes)
        (standing landed R end (states_within V Rd R Z Z' h1 j1 t end all_back put.settled.states) (grown_trans j1 j1 j1 t left1 t mid t end (grown_all b j1 t left1) put.settled.grown) (put.settled.turns ∙ turns_all b left1)))

    pub hand_alike : {Ji : Jumping} {called e : Exp} {w : Way} {count : ℕ} (C : Calling V J R block called Ji w count e) (dt : Temporary) {Rb Rn : Renaming} {a : Aim} {l : Last} {has : Bool} {xs : List ℕ} {f' : Body → Body} → (w ≡ no_way → ⊥) → (H : Handing V J R Rb block a e l has w xs Rn f') → Arrives V a h1 → RestAt V l rest i t0 h1 → RestAlike Rn → (v v' : Value) (ws : List Value) (left : State) → AllFit V Z h1 j1 t xs ws
        → ((Rs : Renaming) → Within Rs R → AreDead V Rs a → Opens C dt (λ u s. used_in Q lq H (temporary_of e) rest' i' t0' u s) Rb Rs xs ws (all_values has v' ws) h1 j1 t left) → ValueFits l has j1 v v'
        → DoAlike V d R Z Z' J Given c h1 j s s' (text_goes P lp l rest i t0 v t) (hand_of C dt (λ u s. used_in Q lq H (temporary_of e) rest' i' t0' u s) (packed w (all_values has v' ws)) left)
    hand_alike {e = e} C dt {Rb} {Rn} {l = l} way (hands_on {f = f} {k = k} Rs Rr Rd within dead U redeclared following all_there outer) arrived at go v v' ws left fits open_at fit =
        let o = open_at Rs within dead in
        let left1 = bound_in C ws left in
        let s1 = settle Q lq V Z Z' R block h1 j1 t U fits (temporary_of e) left1 o.landed.states o.landed.homes in
        let s2 = redeclare Q lq V Z Z' R block h1 j1 t redeclared arrived o.landed.stands s1.at_end s1.states in
        subst (λ q. DoAlike V d R Z Z' J Given c h1 j s s' (text_goes P lp l rest i t0 v t) q) (sym (o.is ∙ s1.is (f (k rest')) i' t0' ∙ s2.is (k rest') i' t0'))
        (follows following Rd Rn s2.at_end v v' all_there outer (standing o.landed Rd s2.at_end s2.states (grown_trans j1 j1 j1 t left1 t s1.at_end t s2.at_end s1.grown s2.grown) (s2.turns ∙ s1.turns)) go at fit)
    hand_alike {e = e} C dt {Rb} {Rn} way (hands_value dead as_tail) arrived at go v v' ws left fits open_at fit =
        value_alone C dt Rb left _ (λ u s. on [] u s) v v' ws fits (open_at R (λ x e f. f) dead) fit (λ s1 st. value_goes v v' s1 fit st)
    hand_alike {e = e} C dt {Rb} {Rn} way (hands_value dead (as_end {m = a1} {m' = b} {e = e0} back)) arrived at go v v' ws left fits open_at fit =
        value_alone C dt Rb left _ (λ u s. bind (performed plainly (at_mark b (Give (temporary_of e))) (u ∷ []) s) (λ w s2. jumps [] (returns b.node) w s2)) v v' ws fits (open_at R (λ x e f. f) dead) fit
        (λ s1 st. subst (λ q. DoAlike V d R Z Z' J Given c h1 j s s' (jumps [] (returns a1.node) v t) q) (sym (give_step b (temporary_of e) v' s1)) (return_goes a1 b v v' s1 back fit st))
    hand_alike {e = e} C dt {Rb} {Rn} way (hands_beside {ps = ps} {e1 = e1} {g = g} {k = k} Rs Rr Rd within dead new apart receiving receives putting all_back takes back) arrived at go v v' (w0 ∷ ws) left fits open_at fit =
        beside_alike C dt (temporary_of e) Rb left back Rs Rr Rd within new apart receiving receives putting all_back takes v v' w0 ws fits (open_at Rs within dead) (given_of back v v' fit)
    hand_alike {e = e} C dt {Rb} {Rn} way (hands_beside Rs Rr Rd within dead new apart receiving receives putting all_back takes back) arrived at go v v' [] left fits open_at fit = absurd (none_of fits)
      where
        none_of : {x : ℕ} {xs : List ℕ} → AllFit V Z h1 j1 t (x ∷ xs) [] → ⊥
        none_of k = elim k [ ]
    hand_alike C dt way hands_none arrived at go v v' ws left fits open_at fit = absurd (way refl)

    -- what the function gives is dropped
    pub any_dropped : {Ji : Jumping} {called e : Exp} {count : ℕ} (C : Calling V J R block called Ji bare count e) (dt : Temporary) {Rb Rn : Renaming} {a : Aim} {l : Last} {f' : Body → Body} (H : Handing V J R Rb block a e l false bare [] Rn f') (u : Value) (left : State)
        → hand_of C dt (λ u s. used_in Q lq H (temporary_of e) rest' i' t0' u s) u left ≡ hand_of C dt (λ u s. used_in Q lq H (temporary_of e) rest' i' t0' u s) unit_value left
    any_dropped calls_alone dt (hands_on {f = f} {k = k} Rs Rr Rd within dead drops redeclared following all_there outer) u left = bind_on u left _ ∙ sym (bind_on unit_value left _)
