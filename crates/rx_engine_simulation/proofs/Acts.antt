-- What actions do alike: reads, tests, calls, input, output and what is made, by what is found at the places and in the operands.
use Rattle.std.proofs.Common.{◌≡◌, ℕ, Bool, true, false, List, [], ◌∷◌, Option, Some, None, refl, sym, subst, ⊎_elim, ℤ, if◌then◌else◌}
use Rattle.rx_meaning.specs.Endings.{Cause, Ending, end_of}
use Rattle.rx_typed.specs.Tree.{Temporary, Place, Making}
use Rattle.rx_lower_walks.specs.Matching.{Check}
use Rattle.rx_lower_walks.specs.Actions.{Act, Read, Test, Call, Build, Input, Print, Give, Action, does}
use Rattle.rx_meaning.specs.Values.{Value, truth, unit_value, is_set, State}
use Rattle.rx_meaning.specs.Results as results
use Rattle.rx_meaning.specs.Results.{Done, gives, or_ends, Result, on, jumps, stops, after, bind, result_of}
use Rattle.rx_meaning.specs.Places.{Spot, found}
use Rattle.rx_meaning.specs.Operators.{Computed, make, shown}
use Rattle.rx_meaning.specs.Acting.{performed, checked, computed, next_input, does_plainly, plainly}
use Rattle.rx_meaning.specs.Telling.{told_by}
use Rattle.rx_engine_simulation.proofs.Told.{onto, noted, followed, said_saying, onto_saying}
use Rattle.rx_engine_simulation.proofs.Values.{Pair, LikeValue, numbers, truths, wholes, no_values, LikeOption, nones, somes, like_then, set_same, checked_same, shown_same, Given, AllGiven, LikeComputed, both_give, both_trap, neither_computes, Sized, Fitting, make_like}
use Rattle.rx_engine_simulation.proofs.States.{Direction, Turns, IsRoot, IsOwn, Facts, Living, now, Renaming, Frozen, StatesAlike, grown_refl}
use Rattle.rx_engine_simulation.proofs.Keeping.{KillsNone, states_step, states_input}
use Rattle.rx_engine_simulation.proofs.Results.{Jumping, Reached, ResultsAlike, both_on, both_stop, DoAlike}
use Rattle.rx_engine_simulation.proofs.Spots.{LikeSpot, content_like, Use, looking, IsFull, LikePlace, Owns, spot_like}

-- what an action gives on both sides
pub data LikeDone (V : Facts) (d : Direction) (R : Renaming) (Z Z' : Frozen) (W : List Pair → Value → Value → Type 0) (c : ℕ) (a : Action) (h : List Action) (j : List Pair) (s s' : State) : Done ℕ → Done ℕ → Type 0 where
  both_gave : {w : List ℕ} {v v' : Value} {t t' : State} (j1 : List Pair) → W j1 v v' → Reached V d R Z Z' c (a ∷ h) j s s' j1 t t' → LikeDone V d R Z Z' W c a h j s s' (gives w v t) (gives w v' t')
  both_ended : {w : List ℕ} {e e' : Ending} → end_of e ≡ end_of e' → LikeDone V d R Z Z' W c a h j s s' (results.ends w e) (results.ends w e')

module _ (V : Facts) (d : Direction) (R : Renaming) (Z Z' : Frozen) (J : Jumping) (c : ℕ) (h : List Action) (j : List Pair) (s s' : State) where
  act_done : (W : List Pair → Value → Value → Type 0) (a : Action) (r r' : Done ℕ) → LikeDone V d R Z Z' W c a h j s s' r r' → ResultsAlike V d R Z Z' J W c h j s s' (result_of (noted a r)) (result_of r')
  unfolding result_of noted
  act_done W a r r' (both_gave {w = w} {t = t} {t' = t'} j1 g z) = both_on j1 (said_saying w) g (subst (λ h1. Reached V d R Z Z' c h1 j s s' j1 t t') (sym (onto_saying w (a ∷ h))) z)
  act_done W a r r' (both_ended {w = w} q0) = both_stop (said_saying w) q0

  act_good : (a : Action) (r : Done ℕ) → V.Good (onto (told_by (result_of (noted a r))) h) → V.Good (a ∷ h)
  unfolding result_of noted
  act_good a (gives w v t) g = subst V.Good (onto_saying w (a ∷ h)) g
  act_good a (results.ends w e) g = subst V.Good (onto_saying w (a ∷ h)) g

  pub act_alike : (W : List Pair → Value → Value → Type 0) (a a' : Action) (vs vs' : List Value) → (V.Good (a ∷ h) → LikeDone V d R Z Z' W c a h j s s' (does_plainly a.act vs s) (does_plainly a'.act vs' s')) → DoAlike V d R Z Z' J W c h j s s' (performed followed a vs s) (performed plainly a' vs' s')
  act_alike W a a' vs vs' k g = act_done W a (does_plainly a.act vs s) (does_plainly a'.act vs' s') (k (act_good a (does_plainly a.act vs s) g))

  pub or_like : {A B : Type 0} {X : A → B → Type 0} (W : List Pair → Value → Value → Type 0) (a : Action) (q q' : Cause) (o : Option A) (o' : Option B) (go : A → Done ℕ) (go' : B → Done ℕ) → LikeOption X o o' → ((x : A) (y : B) → X x y → LikeDone V d R Z Z' W c a h j s s' (go x) (go' y)) → LikeDone V d R Z Z' W c a h j s s' (or_ends q o go) (or_ends q' o' go')
  or_like W a q q' o o' go go' nones k = both_ended refl
  or_like W a q q' o o' go go' (somes x) k = k _ _ x

  option_same : {A : Type 0} (a b : Option A) → a ≡ b → LikeOption (λ x y. x ≡ y) a b
  option_same None b e = subst (λ o. LikeOption (λ x y. x ≡ y) None o) e nones
  option_same (Some a) b e = subst (λ o. LikeOption (λ x y. x ≡ y) (Some a) o) e (somes refl)

  whole_like : (v v' : Value) → LikeValue j v v' → LikeOption (Given j) (if is_set v then Some v else None) (if is_set v' then Some v' else None)
  whole_like v v' l = subst (λ b. LikeOption (Given j) (if is_set v then Some v else None) (if b then Some v' else None)) (set_same l) (by (is_set v) refl)
    where
      by : (b : Bool) → is_set v ≡ b → LikeOption (Given j) (if b then Some v else None) (if b then Some v' else None)
      by true e = somes (l, e)
      by false e = nones

  module _ (inv : StatesAlike V R Z Z' h j s s') (turns : Turns d c s.turns s'.turns) where
    -- where nothing changes
    pub stays : (a : Action) → KillsNone a → Reached V d R Z Z' c (a ∷ h) j s s' j s s'
    stays a n = record { inv = states_step V R Z Z' a h j s s' n inv; grown = grown_refl j s s'; turns = turns }

    abbrev pub Found : Use → (ℕ → Type 0) → Spot × Value → Spot × Value → Type 0
    Found u r f g = LikeSpot j s.memory s'.memory (IsFull u) (λ i k. Owns V R Z Z' h j s s' u r i k) f.0 g.0 × LikeValue j f.1 g.1

    pub found_like : (u : Use) (p p' : Place) → LikePlace R u p p' → ((x : ℕ) → IsRoot p.root x → Living V x h) → (vs vs' : List Value) → AllGiven j vs vs' → LikeOption (Found u (λ x. IsRoot p.root x × IsOwn p.steps)) (found p vs s) (found p' vs' s')
    found_like u p p' l v vs vs' g = like_then (spot_like V R Z Z' h j s s' inv l v vs vs' g) (λ at at' m. like_then (content_like Z Z' j s.memory s'.memory inv.paired m) (λ x y n. somes (m, n)))

    pub read_alike : (n n' : ℕ) (moves moves' : Bool) (p p' : Place) (t t' : Temporary) (vs vs' : List Value) → LikePlace R looking p p' → AllGiven j vs vs' → DoAlike V d R Z Z' J Given c h j s s' (performed followed (does n (Read moves p t)) vs s) (performed plainly (does n' (Read moves' p' t')) vs' s')
    read_alike n n' moves moves' p p' t t' vs vs' l k = act_alike Given a (does n' (Read moves' p' t')) vs vs' (λ good.
        or_like Given a _ _ _ _ _ _ (found_like looking p p' l (λ x r. now a good r) vs vs' k) (λ f g m.
        or_like Given a _ _ _ _ _ _ (whole_like f.1 g.1 m.1) (λ v v' o. both_gave j o (stays a (λ x k. ⊎_elim (λ e. e) (λ e. e) k)))))
      where
        a : Action
        a = does n (Read moves p t)

    pub test_alike : (n n' : ℕ) (k : Check) (p p' : Place) (vs vs' : List Value) → LikePlace R looking p p' → AllGiven j vs vs' → DoAlike V d R Z Z' J Given c h j s s' (performed followed (does n (Test p k)) vs s) (performed plainly (does n' (Test p' k)) vs' s')
    test_alike n n' k p p' vs vs' l g = act_alike Given a (does n' (Test p' k)) vs vs' (λ good.
        or_like Given a _ _ _ _ _ _ (found_like looking p p' l (λ x r. now a good r) vs vs' g) (λ f g m.
        or_like Given a _ _ _ _ _ _ (option_same (checked k f.1) (checked k g.1) (checked_same k m.1)) (λ b b' e.
        subst (λ b1. LikeDone V d R Z Z' Given c a h j s s' (gives [] (truth b) s) (gives [] (truth b1) s')) e (both_gave j (truths, refl) (stays a (λ x k. ⊎_elim (λ e. e) (λ e. e) k))))))
      where
        a : Action
        a = does n (Test p k)

    pub plain_alike : (n n' : ℕ) (f : Act) (f' : Act) (vs vs' : List Value) → KillsNone (does n f) → LikeDone V d R Z Z' Given c (does n f) h j s s' (does_plainly f vs s) (does_plainly f' vs' s') → DoAlike V d R Z Z' J Given c h j s s' (performed followed (does n f) vs s) (performed plainly (does n' f') vs' s')
    plain_alike n n' f f' vs vs' k l = act_alike Given (does n f) (does n' f') vs vs' (λ good. l)

    pub call_alike : (n n' f f' : ℕ) (ts ts' : List Temporary) (t t' : Temporary) (vs vs' : List Value) → DoAlike V d R Z Z' J Given c h j s s' (performed followed (does n (Call f ts t)) vs s) (performed plainly (does n' (Call f' ts' t')) vs' s')
    call_alike n n' f f' ts ts' t t' vs vs' = act_alike Given a (does n' (Call f' ts' t')) vs vs' (λ good. both_gave j (wholes no_values, refl) (stays a (λ x k. ⊎_elim (λ e. e) (λ e. e) k)))
      where
        a : Action
        a = does n (Call f ts t)

    pub input_alike : (n n' : ℕ) (t t' : Temporary) → DoAlike V d R Z Z' J Given c h j s s' (performed followed (does n (Input t)) [] s) (performed plainly (does n' (Input t')) [] s')
    input_alike n n' t t' = act_alike Given a (does n' (Input t')) [] [] (λ good. subst (λ l. LikeDone V d R Z Z' Given c a h j s s' (next_input s.input s) (next_input l s')) inv.input (by s.input))
      where
        a : Action
        a = does n (Input t)

        by : (l : List ℤ) → LikeDone V d R Z Z' Given c a h j s s' (next_input l s) (next_input l s')
        by [] = both_gave j (numbers, refl) (stays a (λ x k. ⊎_elim (λ e. e) (λ e. e) k))
        by (z ∷ zs) =
            let w = stays a (λ x k. ⊎_elim (λ e. e) (λ e. e) k) in
            both_gave j (numbers, refl) (record {
              inv = states_input V R Z Z' (a ∷ h) j s s' zs w.inv;
              grown = record { more = w.grown.more; fresh = w.grown.fresh; fresh' = w.grown.fresh'; long = w.grown.long; long' = w.grown.long'; scope = w.grown.scope; scope' = w.grown.scope'; sets = w.grown.sets; fewer = w.grown.fewer; fewer' = w.grown.fewer' };
              turns = w.turns;
            })

    pub print_alike : (n n' : ℕ) (t t' : Temporary) (v v' : Value) → Given j v v' → DoAlike V d R Z Z' J Given c h j s s' (performed followed (does n (Print t)) (v ∷ []) s) (performed plainly (does n' (Print t')) (v' ∷ []) s')
    print_alike n n' t t' v v' g = act_alike Given a (does n' (Print t')) (v ∷ []) (v' ∷ []) (λ good.
        or_like Given a _ _ _ _ _ _ (option_same (shown v) (shown v') (shown_same g.0)) (λ b b' e.
        subst (λ b1. LikeDone V d R Z Z' Given c a h j s s' (gives b unit_value s) (gives b1 unit_value s')) e (both_gave j (wholes no_values, refl) (stays a (λ x k. ⊎_elim (λ e. e) (λ e. e) k)))))
      where
        a : Action
        a = does n (Print t)

    pub give_alike : (n n' : ℕ) (t t' : Temporary) (v v' : Value) → Given j v v' → DoAlike V d R Z Z' J Given c h j s s' (performed followed (does n (Give t)) (v ∷ []) s) (performed plainly (does n' (Give t')) (v' ∷ []) s')
    give_alike n n' t t' v v' g = act_alike Given a (does n' (Give t')) (v ∷ []) (v' ∷ []) (λ good. both_gave j g (stays a (λ x k. ⊎_elim (λ e. e) (λ e. e) k)))
      where
        a : Action
        a = does n (Give t)

    computed_like : (a : Action) → KillsNone a → (q q' : Computed) → LikeComputed j q q' → LikeDone V d R Z Z' Given c a h j s s' (computed q s) (computed q' s')
    computed_like a k q q' (both_give g) = both_gave j g (stays a k)
    computed_like a k q q' both_trap = both_ended refl
    computed_like a k q q' neither_computes = both_ended refl

    pub build_alike : (n n' : ℕ) (w : Making) (js : List ℕ) (ts ts' : List Temporary) (t t' : Temporary) (vs vs' : List Value) → AllGiven j vs vs' → Sized w js vs → Fitting w js → DoAlike V d R Z Z' J Given c h j s s' (performed followed (does n (Build w js ts t)) vs s) (performed plainly (does n' (Build w js ts' t')) vs' s')
    build_alike n n' w js ts ts' t t' vs vs' g e f = act_alike Given a (does n' (Build w js ts' t')) vs vs' (λ good. computed_like a (λ x k. ⊎_elim (λ e. e) (λ e. e) k) (make w js vs) (make w js vs') (make_like w js g e f))
      where
        a : Action
        a = does n (Build w js ts t)
