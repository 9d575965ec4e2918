-- The new function's end beside what is left of the statements in the text: both do it, and the function gives the values.
use Rattle.std.proofs.Common.{◌≡◌, ℕ, suc, ◌+◌, ◌≤◌, Bool, true, false, List, [], ◌∷◌, length, Some, refl, sym, ap, ◌∙◌, subst, arith, inl, ⊎_elim}
use Rattle.std.proofs.lemmas.List.{append-nil}
use Rattle.rx_typed.specs.Tree as tree
use Rattle.rx_typed.specs.Tree.{Mark, Exp, Operands, Scrutinee, Body, Place, Temporary, own, temporary_of, temporaries_of, temporary_at, fields_of, under}
use Rattle.rx_lower_walks.specs.Actions.{Action, Read, Write, Give, Build, at_mark, does}
use Rattle.rx_lower_walks.specs.Orders.{Exit, returns, order, order_body}
use Rattle.rx_exits_plan.specs.Marked.{shown}
use Rattle.rx_meaning.specs.Values.{Value, tagged, unit_value, is_set, State}
use Rattle.rx_meaning.specs.Results.{Result, on, jumps, stops, bind, after, result_of}
use Rattle.rx_meaning.specs.Operators.{fields}
use Rattle.rx_meaning.specs.Acting.{performed, plainly}
use Rattle.rx_meaning.specs.Patterns.{bound, took, closed}
use Rattle.rx_meaning.specs.Expressions.{Functions, Meaning, value, values, body, below_level}
use Rattle.rx_meaning.proofs.Sequences.{after_nothing, bind_on, bind_bind, bind_same, closed_is}
use Rattle.rx_engine_simulation.specs.Histories.{put}
use Rattle.rx_engine_simulation.specs.Blocks.{Stretch, Through}
use Rattle.rx_engine_simulation.specs.Arrivals.{Aim, Arrives, to_rest, past, past_tail, arrives_rest, arrives_past, arrives_tail, arrives_then, IsUnlent, Specials}
use Rattle.rx_engine_simulation.specs.Places.{looking, LikePlace}
use Rattle.rx_engine_simulation.specs.Packing.{Way, no_way, TakesAll, Gives, gives_unit, gives_empty, gives_one, gives_tuple, gives_variant}
use Rattle.rx_engine_simulation.specs.Like.{LikeExp}
use Rattle.rx_engine_simulation.specs.Units.{UnitFunctions}
use Rattle.rx_engine_simulation.specs.Variants.{leaving}
use Rattle.rx_engine_simulation.specs.Endings.{Last, a_marked, an_end, a_tail, with_last, aim_of, IsLeft, left_statement, left_marked, left_tail, left_end, IsDropped, Bound, bound_value, bound_place, bound_passed, LikeEnd, end_gives, end_is, end_runs, end_value, end_variant, end_tuple, end_never, end_left}
use Rattle.rx_engine_simulation.specs.Statements.{Calling, Handing, count}
use Rattle.rx_engine_simulation.proofs.Told.{Told, did, followed}
use Rattle.rx_engine_simulation.proofs.Values.{Pair, In, Given, set_same, none_given}
use Rattle.rx_engine_simulation.proofs.States.{Direction, gain, Facts, Borrowed, Sight, Renaming, sight_of, Frozen, StatesAlike, Grown, grown_trans}
use Rattle.rx_engine_simulation.proofs.Declaring.{IsNew, new_slot}
use Rattle.rx_engine_simulation.proofs.Memory.{at_end}
use Rattle.rx_engine_simulation.proofs.Results.{Jumping, DoAlike}
use Rattle.rx_engine_simulation.proofs.Acts.{read_alike}
use Rattle.rx_engine_simulation.proofs.Positions.{Walked, IsWalked, first_at, next_at, value_walk, value_walk_to}
use Rattle.rx_engine_simulation.proofs.Parts.{Ready, go_on, less, declare_answer}
use Rattle.rx_engine_simulation.proofs.Marks.{mark_goes, mark_walk, ready_step, ready_marked}
use Rattle.rx_engine_simulation.proofs.Entry.{with_value, IsCold, Zt, Going}
use Rattle.rx_engine_simulation.proofs.Given.{write_is}
use Rattle.rx_engine_simulation.proofs.Contexts.{context_bind_is, exits_at, outer_step}
use Rattle.rx_engine_simulation.proofs.Locals.{give_is, back_is, called_back, back_context}
use Rattle.rx_engine_simulation.proofs.Packing.{listed, packed, Holding, holds_and, beside_none, beside_and, held_on, gives_is, values_held, variant_with, let_body_is}
use Rattle.rx_engine_simulation.proofs.Handing.{states_beside, given_grown, AllFit, none_fit, fit_thaw_all, ready_values}
use Rattle.rx_engine_simulation.specs.Temporaries.{IsPlaced, is_forgotten, is_let_pass, goes_to_operand}
use Rattle.rx_engine_simulation.proofs.Temporaries.{forgets_walk}
use Rattle.rx_engine_simulation.proofs.Units.{unit_given}
use Rattle.rx_engine_simulation.proofs.Variants.{value_in_text}
use Rattle.rx_engine_simulation.proofs.Passed.{passed_walk, passes_alike}
use Rattle.rx_engine_simulation.proofs.Landing.{AllSet, fits_set, land, open_with, hand_on, all_exits}
use Rattle.rx_engine_simulation.proofs.Handed.{text_goes, all_values, ValueFits, RestAt, used_in, hand_alike, any_dropped, RestAlike}

-- ---- what is computed

module _ (Q : Functions) (lq : Meaning ℕ) where
  end_is_value : (e : Exp) (i : ℕ) (t : Temporary) (s : State) → body plainly Q lq (tree.ends e) i t s ≡ value plainly Q lq e t s
  unfolding value
  end_is_value e i t s = refl

  abbrev gives_back : Mark → Temporary → Value → State → Result ℕ Value
  gives_back m t v s1 = bind (performed plainly (at_mark m (Give t)) (v ∷ []) s1) (λ w s2. jumps [] (returns m.node) w s2)

  given_back : (m : Mark) (t : Temporary) (v : Value) (s : State) → gives_back m t v s ≡ jumps [] (returns m.node) v s
  unfolding bind result_of
  given_back m t v s = after_nothing _

  give_end : (m : Mark) (e : Exp) (i : ℕ) (t : Temporary) (s : State) → body plainly Q lq (tree.ends (tree.give m e)) i t s ≡ bind (value plainly Q lq e (temporary_of e) s) (λ v s1. gives_back m (temporary_of e) v s1)
  unfolding value
  give_end m e i t s = refl

  run_end : (e : Exp) (b : Body) (i : ℕ) (t : Temporary) (s : State) → body plainly Q lq (tree.runs e b) i t s ≡ bind (value plainly Q lq e (temporary_of e) s) (λ v s1. body plainly Q lq b i t s1)
  unfolding value
  run_end e b i t s = refl

  -- a variant whose first part is a value
  abbrev then_variant : Mark → Mark → ℕ → ℕ → Exp → Operands → Value → State → Result ℕ Value
  then_variant m w i v e es x s1 = bind (bind (bind (values plainly Q lq es s1) (λ vs s2. on [] (x ∷ vs) s2))
      (λ vs s2. performed plainly (at_mark w (Build (tree.variant_of i v) (0 ∷ fields_of es) (temporary_of e ∷ temporaries_of es) (temporary_of (tree.build w (tree.variant_of i v) (tree.operand_and 0 e es))))) vs s2))
      (λ y s3. gives_back m (temporary_of (tree.build w (tree.variant_of i v) (tree.operand_and 0 e es))) y s3)

  variant_end : (m w : Mark) (i v : ℕ) (e : Exp) (es : Operands) (n : ℕ) (t : Temporary) (s : State) → body plainly Q lq (tree.ends (tree.give m (tree.build w (tree.variant_of i v) (tree.operand_and 0 e es)))) n t s
      ≡ bind (value plainly Q lq e (temporary_of e) s) (λ x s1. then_variant m w i v e es x s1)
  unfolding value
  variant_end m w i v e es n t s =
      ap (λ r. bind r (λ y s3. gives_back m (temporary_of (tree.build w (tree.variant_of i v) (tree.operand_and 0 e es))) y s3)) (bind_bind (value plainly Q lq e (temporary_of e) s) _ _)
      ∙ bind_bind (value plainly Q lq e (temporary_of e) s) _ _

  built : (m w : Mark) (i v : ℕ) (e : Exp) (es : Operands) (x : Value) (vs : List Value) (s : State) → bind (performed plainly (at_mark w (Build (tree.variant_of i v) (0 ∷ fields_of es) (temporary_of e ∷ temporaries_of es) (temporary_of (tree.build w (tree.variant_of i v) (tree.operand_and 0 e es))))) (x ∷ vs) s)
      (λ y s3. gives_back m (temporary_of (tree.build w (tree.variant_of i v) (tree.operand_and 0 e es))) y s3) ≡ jumps [] (returns m.node) (tagged v (fields (0 ∷ fields_of es) (x ∷ vs))) s
  unfolding result_of
  built m w i v e es x vs s = bind_on (tagged v (fields (0 ∷ fields_of es) (x ∷ vs))) s _ ∙ given_back m (temporary_of (tree.build w (tree.variant_of i v) (tree.operand_and 0 e es))) (tagged v (fields (0 ∷ fields_of es) (x ∷ vs))) s

  variant_given : (m w : Mark) (i v : ℕ) (e : Exp) {zs : List ℕ} {es : Operands} {ws : List Value} (x : Value) (s : State) → TakesAll 1 zs es → Holding s zs ws → then_variant m w i v e es x s ≡ jumps [] (returns m.node) (tagged v (listed (x ∷ ws))) s
  variant_given m w i v e {zs} {es} {ws} x s takes held =
      ap (λ r. bind (bind (bind r (λ vs s2. on [] (x ∷ vs) s2))
      (λ vs s2. performed plainly (at_mark w (Build (tree.variant_of i v) (0 ∷ fields_of es) (temporary_of e ∷ temporaries_of es) (temporary_of (tree.build w (tree.variant_of i v) (tree.operand_and 0 e es))))) vs s2))
      (λ y s3. gives_back m (temporary_of (tree.build w (tree.variant_of i v) (tree.operand_and 0 e es))) y s3)) (values_held Q lq takes held)
      ∙ ap (λ r. bind (bind r (λ vs s2. performed plainly (at_mark w (Build (tree.variant_of i v) (0 ∷ fields_of es) (temporary_of e ∷ temporaries_of es) (temporary_of (tree.build w (tree.variant_of i v) (tree.operand_and 0 e es))))) vs s2))
      (λ y s3. gives_back m (temporary_of (tree.build w (tree.variant_of i v) (tree.operand_and 0 e es))) y s3)) (bind_on ws s (λ vs s2. on [] (x ∷ vs) s2))
      ∙ ap (λ r. bind r (λ y s3. gives_back m (temporary_of (tree.build w (tree.variant_of i v) (tree.operand_and 0 e es))) y s3)) (bind_on (x ∷ ws) s _)
      ∙ built m w i v e es x ws s
      ∙ ap (λ vs. jumps [] (returns m.node) (tagged v vs) s) (variant_with Q lq w i v x takes held (0 ∷ fields_of es) refl)

  -- a value is bound
  pub record BoundAs (c : Scrutinee) (k o : ℕ) (mutable : Bool) (s : State) : Type 0 where
    pub gives : Result ℕ Value
    pub is : (n : ℕ) (b : Body) (i : ℕ) (t : Temporary) → body plainly Q lq (tree.lets n (tree.bind k o (tree.by_value mutable)) c b) i t s ≡ bind gives (λ x s1. body plainly Q lq b i t (with_value o x s1))

  place_bound : (m : Mark) (p : Place) (n k o : ℕ) (mutable : Bool) (b : Body) (i : ℕ) (t : Temporary) (s : State) → body plainly Q lq (tree.lets n (tree.bind k o (tree.by_value mutable)) (tree.at_place m p) b) i t s
      ≡ bind (performed plainly (does k (Read mutable (under p []) (temporary_at k 0))) [] s) (λ x s1. body plainly Q lq b i t (with_value o x s1))
  unfolding value bound took
  place_bound m p n k o mutable b i t s =
      bind_on [] s _
      ∙ bind_bind (performed plainly (does k (Read mutable (under p []) (temporary_at k 0))) [] s) _ _
      ∙ bind_same (performed plainly (does k (Read mutable (under p []) (temporary_at k 0))) [] s) _ _ _ refl (λ x s1.
      bind_on (x ∷ []) s1 _
      ∙ declare_answer k o s1 (λ u s2. bind (performed plainly (does k (Write (own o) (temporary_at k 0) [])) (x ∷ []) s2) (λ w s3. closed plainly i o (body plainly Q lq b i t s3)))
      ∙ after_nothing _
      ∙ ap (λ r. bind r (λ w s3. closed plainly i o (body plainly Q lq b i t s3))) (write_is k o (temporary_at k 0) x s1)
      ∙ bind_on unit_value (with_value o x s1) _
      ∙ closed_is i o _)

text_same : (r : Result (Told ℕ) Value) → bind r (λ v s1. on [] v s1) ≡ r
unfolding bind after
text_same (on w v s) = ap (λ l. on l v s) (append-nil w)
text_same (jumps w x v s) = refl
text_same (stops w e) = refl

under_nothing : (p : Place) → under p [] ≡ p
under_nothing p = ap (λ ss. record { root = p.root; steps = ss }) (append-nil p.steps)

-- ---- beside the text

-- the temporary of what is left
abbrev pub left_to : Last → Temporary → Exp → Temporary
left_to (a_tail f) t0 e = t0
left_to _ t0 e = temporary_of e

module _ (items : ℕ → ℕ) (U : List ℕ) (P Q : Functions) (units : UnitFunctions P U) (V : Facts) (d : Direction) (R : Renaming) (Z Z' : Frozen) (J : Jumping) (Cold : ℕ → Type 0) (h : List Action) (j : List Pair) (s s' : State) (inv : StatesAlike V R Z Z' h j s s') (cold : (x : ℕ) → Cold x → IsCold R x) (known : (x i : ℕ) → Z.anchored x i → (e : Sight) × (sight_of R x ≡ Some e))
    (Rf : Renaming) (Zf : Frozen) (sf : State) (going : Going V R Z Z' Cold h j s s' inv cold Rf Zf sf) (fewer : sf.turns ≤ s'.turns) (c c1 m n n' : ℕ) (le : c ≤ c1) (below : n' ≤ n) (block : Body) (unlent : (x : ℕ) → IsUnlent V block x → Borrowed h x → ⊥)
    (r0 : Stretch) (rest rest' : Body) (i i' ib : ℕ) (t0 t0' tb : Temporary) (entry : V.Comes (order_body block i t0) h) (Ji : Jumping) (Rb Rn : Renaming) (sp : Specials R Rb)
    (exps : (Ri : Renaming) (e e' : Exp) → LikeExp items (leaving U) (gain d) V 0 Ji Ri e e' → (t t' : Temporary) (h1 : List Action) (j1 : List Pair) (u u' : State) → Ready V d Ri (Zt V R Z Z' Cold h j s s' inv cold) Zf (0 + c1) m n' h1 j1 u u' → V.Comes (order e t) h1
    → DoAlike V d Ri (Zt V R Z Z' Cold h j s s' inv cold) Zf Ji Given c1 h1 j1 u u' (value followed P (below_level followed P m) e t u) (value plainly Q (below_level plainly Q n') e' t' u')) where
  abbrev Zs : Frozen
  Zs = Zt V R Z Z' Cold h j s s' inv cold

  abbrev lp : Meaning (Told ℕ)
  lp = below_level followed P m

  abbrev lq : Meaning ℕ
  lq = below_level plainly Q n

  abbrev ln : Meaning ℕ
  ln = below_level plainly Q n'

  abbrev RestGoes : Type 0
  RestGoes = RestAlike P Q V d R Z Z' J Cold h j s s' inv cold known Rf Zf sf going fewer c c1 m n n' le below block unlent rest rest' i i' t0 t0' Rn

  -- what is done in the caller with what the function gives
  abbrev pub hand_for : {called e : Exp} {w : Way} {k : ℕ} {a : Aim} {l : Last} {has : Bool} {xs : List ℕ} {f' : Body → Body} → Calling V J R block called Ji w k e → Temporary → Handing V J R Rb block a e l has w xs Rn f' → Value → State → Result ℕ Value
  hand_for {e = e} C dt H u s1 = hand_on P Q V d R Z Z' J Cold h j s s' inv cold known Rf Zf sf going fewer c c1 m n n' le below block unlent C dt (λ u s. used_in Q lq H (temporary_of e) rest' i' t0' u s) u s1

  abbrev At : List Action → List Pair → State → State → Type 0
  At h1 j1 t t' = Ready V d Rb Zs Zf c1 m n' h1 j1 t t' × Grown j s sf j1 t t'

  all_set : {xs : List ℕ} {ws : List Value} {h1 : List Action} {j1 : List Pair} {t : State} (has : Bool) (v' : Value) → (has ≡ true → is_set v' ≡ true) → AllFit V Z h1 j1 t xs ws → AllSet (all_values has v' ws) × (length (all_values has v' ws) ≡ count has xs)
  all_set {h1 = h1} {j1 = j1} {t = t} false v' set fits = fits_set V Z h1 j1 t fits
  all_set {h1 = h1} {j1 = j1} {t = t} true v' set fits = let a = fits_set V Z h1 j1 t fits in ((set refl, a.0), ap suc a.1)

  -- the function has given its values
  finish : {called e : Exp} {w : Way} {a : Aim} {l : Last} {has : Bool} {xs : List ℕ} {f' : Body → Body} (C : Calling V J R block called Ji w (count has xs) e) (dt : Temporary) (H : Handing V J R Rb block a e l has w xs Rn f') → (w ≡ no_way → ⊥) → RestGoes → (h1 : List Action) (j1 : List Pair) (t t' : State) → At h1 j1 t t' → Arrives V a h1 → RestAt V l rest i t0 h1
      → (v v' : Value) (ws : List Value) → AllFit V Z h1 j1 t xs ws → (has ≡ true → is_set v' ≡ true) → ValueFits l has j1 v v' → (k : ℕ)
      → DoAlike V d R Z Z' J Given c h1 j s s' (text_goes P lp l rest i t0 v t) (called_back s'.frame (hand_for C dt H) (jumps [] (returns k) (packed w (all_values has v' ws)) t'))
  finish {e = e} {w = w} {l = l} {has = has} C dt H way go h1 j1 t t' ready arrived at v v' ws fits set fit k =
      let a = all_set has v' set fits in
      subst (λ q. DoAlike V d R Z Z' J Given c h1 j s s' (text_goes P lp l rest i t0 v t) q) (sym (back_is s'.frame (hand_for C dt H) k (packed w (all_values has v' ws)) t' ∙ after_nothing _))
      (hand_alike P Q V d R Z Z' J Cold h j s s' inv cold known Rf Zf sf going fewer c c1 m n n' le below block unlent rest rest' i i' t0 t0' h1 j1 t C dt way H arrived at go v v' ws (record t' { frame = s'.frame }) fits
      (λ Rs within dead. open_with P Q V d R Z Z' J Cold h j s s' inv cold known Rf Zf sf going fewer c c1 m n n' le below block unlent C way dt (λ u s. used_in Q lq H (temporary_of e) rest' i' t0' u s) (all_values has v' ws) within a.0 a.1
      (land P Q V d R Z Z' J Cold h j s s' inv cold known Rf Zf sf going fewer c c1 m n n' le below block unlent Rb Rs sp within h1 j1 t t' ready.0 ready.1 (λ x y seen l. dead x y seen h1 arrived l) fits)) fit)

  -- ---- what is left in the text

  in_order : {l : Last} {e : Exp} {b : Bool} → IsLeft l e b → {h1 : List Action} → V.Comes (order_body (with_last l rest) i t0) h1 → V.Comes (order e (left_to l t0 e)) h1
  in_order left_statement at = first_at V at
  in_order left_marked at = first_at V at
  in_order left_tail at = at
  in_order left_end at = first_at V at

  -- with the mark that is there, or what the function gives
  abbrev text_then : Last → Value → State → Result (Told ℕ) Value
  text_then (a_marked e p) v s1 = after (did (shown p) ∷ []) (body followed P lp rest i t0 s1)
  text_then (an_end m0 e) v s1 = jumps (did (at_mark m0 (Give (temporary_of e))) ∷ []) (returns m0.node) v s1
  text_then l v s1 = text_goes P lp l rest i t0 v s1

  left_is : {l : Last} {e : Exp} {b : Bool} → IsLeft l e b → (t : State) → body followed P lp (with_last l rest) i t0 t ≡ bind (value followed P lp e (left_to l t0 e) t) (λ v s1. text_then l v s1)
  unfolding value
  left_is left_statement t = refl
  left_is {e = e} (left_marked {p = p}) t = bind_same (value followed P lp e (temporary_of e) t) _ _ _ refl (λ v s1. mark_goes P lp p rest i t0 s1)
  left_is {e = e} left_tail t = sym (text_same (value followed P lp e t0 t))
  left_is {e = e} (left_end {m = m0}) t = value_in_text P lp m0 e t0 t

  tail_walk : {e : Exp} → IsPlaced V block e → (t : State) → IsWalked (order e t0) (value followed P lp e t0 t)
  tail_walk (is_forgotten k) t = forgets_walk P m k t0 t
  tail_walk (is_let_pass {e = e}) t = passed_walk P m e t0 t
  tail_walk {e} (goes_to_operand k) t = value_walk_to P m e t0 t (k i t0 h entry)

  left_walk : {l : Last} {e : Exp} {b : Bool} → IsLeft l e b → ((f : Exp) → l ≡ a_tail f → IsPlaced V block f) → {h1 : List Action} → V.Comes (order_body (with_last l rest) i t0) h1 → (t : State) → IsWalked (order e (left_to l t0 e)) (value followed P lp e (left_to l t0 e) t)
  left_walk {e = e} left_statement first at t = value_walk P m e t
  left_walk {e = e} left_marked first at t = value_walk P m e t
  left_walk {e = e} left_tail first {h1} at t = tail_walk (first e refl) t
  left_walk {e = e} left_end first at t = value_walk P m e t

  -- the text has walked through the statements
  abbrev Passed : List Action → Type 0
  Passed h1 = (w : List Action) × Through r0 w × (h1 ≡ put w h)

  rest_arrives : {h1 : List Action} → Passed h1 → Arrives V (to_rest block r0) h1
  rest_arrives p = subst (λ h1. Arrives V (to_rest block r0) h1) (sym p.2) (arrives_rest i t0 entry p.1)

  past_arrives : {e : Exp} {h1 h2 : List Action} → Passed h1 → Walked (order e (temporary_of e)) h1 h2 → Arrives V (past block r0 e) h2
  past_arrives {e} p k = subst (λ h2. Arrives V (past block r0 e) h2) (sym (k.1 ∙ ap (λ h. put k.0 h) p.2)) (arrives_past i t0 entry p.1 k.2)

  tail_arrives : {e : Exp} {h1 h2 : List Action} → Passed h1 → Walked (order e t0) h1 h2 → Arrives V (past_tail block r0 e) h2
  tail_arrives {e} p k = subst (λ h2. Arrives V (past_tail block r0 e) h2) (sym (k.1 ∙ ap (λ h. put k.0 h) p.2)) (arrives_tail i t0 entry p.1 k.2)

  told_first : (a : Action) (x : Exit) (v : Value) (u : State) → after {E = Told ℕ} {A = Value} (did a ∷ []) (jumps [] x v u) ≡ jumps (did a ∷ []) x v u
  unfolding after
  told_first a x v u = refl

  -- where what follows begins, behind the mark that is there
  abbrev Follows : Last → List Action → List Pair → State → State → (List Action → Result (Told ℕ) Value → Type 0) → Value → Type 0
  Follows l h2 j2 u u' Out v = ((h3 : List Action) → At h3 j2 u u' → Arrives V (aim_of l block r0) h3 → RestAt V l rest i t0 h3 → Out h3 (text_goes P lp l rest i t0 v u)) → Out h2 (text_then l v u)

  follows_left : {l : Last} {e : Exp} {b : Bool} → IsLeft l e b → {h1 h2 : List Action} {j2 : List Pair} {u u' : State} → V.Comes (order_body (with_last l rest) i t0) h1 → Passed h1 → Walked (order e (left_to l t0 e)) h1 h2 → At h2 j2 u u'
      → (Out : List Action → Result (Told ℕ) Value → Type 0) → ((a : Action) (h : List Action) (r : Result (Told ℕ) Value) → Out (a ∷ h) r → Out h (after (did a ∷ []) r)) → (v : Value) → Follows l h2 j2 u u' Out v
  follows_left left_statement {h2 = h2} at p k ready Out step v go = go h2 ready (past_arrives p k) (next_at V at k)
  follows_left (left_marked {p = q}) {h2 = h2} {u = u} at p k ready Out step v go =
      step (shown q) h2 (body followed P lp rest i t0 u)
      (go (shown q ∷ h2) (ready_marked V d Rb Zs Zf q ready.0, ready.1) (arrives_then (past_arrives p k)) (next_at V (next_at V at k) (shown q ∷ [], refl, mark_walk q t0)))
  follows_left left_tail {h2 = h2} at p k ready Out step v go = go h2 ready (tail_arrives p k) tt
  follows_left {e = e} (left_end {m = m0}) {h2 = h2} {u = u} at p k ready Out step v go =
      subst (λ r. Out h2 r) (told_first (at_mark m0 (Give (temporary_of e))) (returns m0.node) v u)
      (step (at_mark m0 (Give (temporary_of e))) h2 (jumps [] (returns m0.node) v u) (go (at_mark m0 (Give (temporary_of e)) ∷ h2) (ready_step V d Rb Zs Zf (at_mark m0 (Give (temporary_of e))) (λ y k. ⊎_elim (λ e. e) (λ e. e) k) ready.0, ready.1) (arrives_then (past_arrives p k)) tt))

  value_fits : {l : Last} {e : Exp} → IsLeft l e true → (j1 : List Pair) (v v' : Value) → Given j1 v v' → ValueFits l true j1 v v'
  value_fits left_tail j1 v v' given = given
  value_fits left_end j1 v v' given = given

  unit_fits : {l : Last} {e : Exp} → IsLeft l e false → IsDropped U l e → (j1 : List Pair) (t t1 : State) (o : List (Told ℕ)) (v v' : Value) → value followed P lp e (left_to l t0 e) t ≡ on o v t1 → ValueFits l false j1 v v'
  unit_fits left_statement unit j1 t t1 o v v' is = tt
  unit_fits left_marked unit j1 t t1 o v v' is = tt
  unit_fits {e = e} left_tail unit j1 t t1 o v v' is = unit_given P U units m unit t0 t o v t1 is
  unit_fits {e = e} left_end unit j1 t t1 o v v' is = unit_given P U units m unit (temporary_of e) t o v t1 is

  -- both do what is left, and then this
  module _ {called e : Exp} {w : Way} {l : Last} {has : Bool} {xs : List ℕ} {f' : Body → Body} (C : Calling V J R block called Ji w (count has xs) e) (dt : Temporary) (H : Handing V J R Rb block (aim_of l block r0) e l has w xs Rn f') (first : (f : Exp) → l ≡ a_tail f → IsPlaced V block f) where
    abbrev hand : Value → State → Result ℕ Value
    hand u s1 = hand_for C dt H u s1

    abbrev Out : List Action → Result (Told ℕ) Value → Result ℕ Value → Type 0
    Out h1 r q = DoAlike V d R Z Z' J Given c h1 j s s' r (called_back s'.frame hand q)

    both_left : {e0 : Exp} {b : Bool} → IsLeft l e0 b → (h1 : List Action) (j1 : List Pair) (t t' : State) → At h1 j1 t t' → V.Comes (order_body (with_last l rest) i t0) h1 → Passed h1 → (q : Result ℕ Value) (go' : Value → State → Result ℕ Value) → DoAlike V d Rb Zs Zf Ji Given c1 h1 j1 t t' (value followed P lp e0 (left_to l t0 e0) t) q
        → ((h2 : List Action) (j2 : List Pair) (o : List (Told ℕ)) (v v' : Value) (u u' : State) → value followed P lp e0 (left_to l t0 e0) t ≡ on o v u → At h2 j2 u u' → Arrives V (aim_of l block r0) h2 → RestAt V l rest i t0 h2 → Given j2 v v' → Out h2 (text_goes P lp l rest i t0 v u) (go' v' u'))
        → Out h1 (body followed P lp (with_last l rest) i t0 t) (bind q go')
    both_left {e0} left h1 j1 t t' ready at passed q go' alike then_alike =
        subst (λ r. Out h1 r (bind q go')) (sym (left_is left t))
        (context_bind_is V d R Z Z' J c j s s' (called_back s'.frame hand) (back_context s'.frame hand) Rb Zs Zf Ji c1 Given h1 j1 t t' (value followed P lp e0 (left_to l t0 e0) t) q (λ v s1. text_then l v s1) go' (order e0 (left_to l t0 e0)) (left_walk left first at t) alike
        (λ o j2 v v' u u' is k given z.
        follows_left left at passed k (go_on V d Rb Zs Zf ready.0 z, grown_trans j j1 j2 s sf t t' u u' ready.1 z.grown) (λ h r. Out h r (go' v' u'))
        (λ a h r f. outer_step V d R Z Z' J c j s s' (called_back s'.frame hand) (back_context s'.frame hand) h a r _ f) v
        (λ h3 ready3 arrived at3. then_alike h3 j2 o v v' u u' is ready3 arrived at3 given))
        (exits_at V d R Z Z' J c j s s' (called_back s'.frame hand) (back_context s'.frame hand) Zs Zf Ji c1 m n' j s sf
        (all_exits P Q V d R Z Z' J Cold h j s s' inv cold known Rf Zf sf going fewer c c1 m n n' le below block unlent C dt (λ u s. used_in Q lq H (temporary_of e) rest' i' t0' u s)) Rb sp h1 j1 t t' ready.0 ready.1))

    value_alike : {e0 e1 : Exp} → LikeExp items (leaving U) (gain d) V 0 Ji Rb e0 e1 → (tt t1 : Temporary) (h1 : List Action) (j1 : List Pair) (t t' : State) → At h1 j1 t t' → V.Comes (order e0 tt) h1 → DoAlike V d Rb Zs Zf Ji Given c1 h1 j1 t t' (value followed P lp e0 tt t) (value plainly Q ln e1 t1 t')
    value_alike {e0} {e1} like tt t1 h1 j1 t t' ready at = exps Rb e0 e1 like tt t1 h1 j1 t t' (less V d Rb Zs Zf (0 + c1) (omega arith) ready.0) at

  -- the value is bound in the new function
  bound_alike : {e0 : Exp} {c0 : Scrutinee} → Bound items (gain d) U V Ji Rb e0 c0 → (k o : ℕ) (mutable : Bool) (tt : Temporary) (h1 : List Action) (j1 : List Pair) (t t' : State) → At h1 j1 t t' → V.Comes (order e0 tt) h1
      → (b : BoundAs Q ln c0 k o mutable t') × DoAlike V d Rb Zs Zf Ji Given c1 h1 j1 t t' (value followed P lp e0 tt t) b.gives
  unfolding value
  bound_alike (bound_value {e = e0} {e' = e1} like) k o mutable tt h1 j1 t t' ready at =
      (record { gives = value plainly Q ln e1 (temporary_of e1) t'; is = λ n b i t. let_body_is Q ln n k o mutable e1 b i t t' }, exps Rb e0 e1 like tt (temporary_of e1) h1 j1 t t' (less V d Rb Zs Zf (0 + c1) (omega arith) ready.0) at)
  bound_alike (bound_place {m = m0} {m' = m1} {moves = moves} {p = p} {p' = p'} like) k o mutable tt h1 j1 t t' ready at = (
    record { gives = performed plainly (does k (Read mutable (under p' []) (temporary_at k 0))) [] t'; is = λ n b i t. place_bound Q ln m1 p' n k o mutable b i t t' },
    read_alike V d Rb Zs Zf Ji c1 h1 j1 t t' ready.0.inv ready.0.turns m0.node k moves mutable p (under p' []) tt (temporary_at k 0) [] [] (subst (λ q. LikePlace Rb looking p q) (sym (under_nothing p')) like) none_given,
  )
  bound_alike (bound_passed {m = m0} {m' = m1} {moves = moves} {p = p} {p' = p'} like) k o mutable tt h1 j1 t t' ready at = (
    record { gives = performed plainly (does k (Read mutable (under p' []) (temporary_at k 0))) [] t'; is = λ n b i t. place_bound Q ln m1 p' n k o mutable b i t t' },
    passes_alike P V d Rb Zs Zf Ji m c1 h1 j1 t t' (tree.read m0 moves p) tt (performed plainly (does k (Read mutable (under p' []) (temporary_at k 0))) [] t')
        (read_alike V d Rb Zs Zf Ji c1 h1 j1 t t' ready.0.inv ready.0.turns m0.node k moves mutable p (under p' []) (temporary_of (tree.read m0 moves p)) (temporary_at k 0) [] [] (subst (λ q. LikePlace Rb looking p q) (sym (under_nothing p')) like) none_given),
  )

  beside_ready : (o : ℕ) (v : Value) (h1 : List Action) (j1 : List Pair) (t t' : State) → IsNew Rb o → At h1 j1 t t' → At h1 j1 t (with_value o v t')
  beside_ready o v h1 j1 t t' new ready = (
    record { inv = states_beside V Rb Zs Zf h1 j1 t t' o v new ready.0.inv; turns = ready.0.turns; low = ready.0.low; low' = ready.0.low'; known = ready.0.known },
    grown_trans j j1 j1 s sf t t' t (with_value o v t') ready.1 (given_grown j1 t t' o v),
  )

  gives_way : {w : Way} {qs : List ℕ} {e : Exp} → Gives w qs e → w ≡ no_way → ⊥
  gives_way gives_unit k = cc
  gives_way gives_empty k = cc
  gives_way (gives_one a) k = cc
  gives_way (gives_tuple a) k = cc
  gives_way (gives_variant a) k = cc

  given_set : (j1 : List Pair) (v v' : Value) → Given j1 v v' → is_set v' ≡ true
  given_set j1 v v' given = sym (set_same given.0) ∙ given.1

  not_true : {A : Type 0} → false ≡ true → A
  not_true e = absurd (cc)

  -- the function gives what it reads
  ends_reading : (m0 : Mark) {w : Way} {zs : List ℕ} {g : Exp} {ws : List Value} → Gives w zs g → (t' : State) → Holding t' zs ws → body plainly Q ln (tree.ends (tree.give m0 g)) ib tb t' ≡ jumps [] (returns m0.node) (packed w ws) t'
  ends_reading m0 {w} {zs} {g} {ws} gives t' held = end_is_value Q ln (tree.give m0 g) ib tb t' ∙ give_is Q ln m0 g tb (packed w ws) t' (gives_is Q ln gives held (temporary_of g))

  pub ends_alike : {called e : Exp} {w : Way} {l : Last} {has : Bool} {xs : List ℕ} {f' : Body → Body} {end : Body} → LikeEnd items (gain d) U V Ji Rb (aim_of l block r0) l has w xs end → (C : Calling V J R block called Ji w (count has xs) e) (dt : Temporary) (H : Handing V J R Rb block (aim_of l block r0) e l has w xs Rn f')
      → ((f : Exp) → l ≡ a_tail f → IsPlaced V block f) → RestGoes → (h1 : List Action) (j1 : List Pair) (t t' : State) → Ready V d Rb Zs Zf c1 m n' h1 j1 t t' → Grown j s sf j1 t t' → V.Comes (order_body (with_last l rest) i t0) h1 × Passed h1
      → DoAlike V d R Z Z' J Given c h1 j s s' (body followed P lp (with_last l rest) i t0 t) (called_back s'.frame (hand_for C dt H) (body plainly Q ln end ib tb t'))
  ends_alike (end_gives {m = m0} {g = g0} ready gives) C dt H first go h1 j1 t t' r g at =
      let vals = ready_values V Rb Zs Zf h1 j1 t t' r.inv ready (rest_arrives at.1) in
      subst (λ q. DoAlike V d R Z Z' J Given c h1 j s s' (body followed P lp rest i t0 t) (called_back s'.frame (hand_for C dt H) q)) (sym (ends_reading m0 gives t' vals.holding))
      (finish C dt H (gives_way gives) go h1 j1 t t' (r, g) (rest_arrives at.1) at.0 unit_value unit_value vals.ws (fit_thaw_all V Z Zs h1 j1 t (λ i v k. inl k) vals.fits) not_true tt m0.node)
  ends_alike (end_is {l = l} {e = e0} {e' = e1} {m = m0} left unit like) C dt H first go h1 j1 t t' r g at =
      subst (λ q. DoAlike V d R Z Z' J Given c h1 j s s' (body followed P lp (with_last l rest) i t0 t) (called_back s'.frame (hand_for C dt H) q)) (sym (give_end Q ln m0 e1 ib tb t'))
      (both_left C dt H first left h1 j1 t t' (r, g) at.0 at.1 _ (λ v s1. gives_back Q ln m0 (temporary_of e1) v s1) (value_alike C dt H first like (left_to l t0 e0) (temporary_of e1) h1 j1 t t' (r, g) (in_order left at.0)) (λ h2 j2 o v v' u u' is ready2 arrived at2 given.
      subst (λ q. DoAlike V d R Z Z' J Given c h2 j s s' (text_goes P lp l rest i t0 v u) q)
      (sym (ap (called_back s'.frame (hand_for C dt H)) (given_back Q ln m0 (temporary_of e1) v' u') ∙ back_is s'.frame (hand_for C dt H) m0.node v' u' ∙ after_nothing _
      ∙ any_dropped P Q V d R Z Z' J Cold h j s s' inv cold known Rf Zf sf going fewer c c1 m n n' le below block unlent rest rest' i i' t0 t0' h2 j2 u C dt H v' (record u' { frame = s'.frame })
      ∙ sym (back_is s'.frame (hand_for C dt H) m0.node unit_value u' ∙ after_nothing _)))
      (finish C dt H (λ k. cc) go h2 j2 u u' ready2 arrived at2 v unit_value [] none_fit not_true (unit_fits left unit j2 t u o v unit_value is) m0.node)))
  ends_alike (end_runs {l = l} {e = e0} {e' = e1} {g = g0} {m = m0} left unit like ready gives) C dt H first go h1 j1 t t' r g at =
      subst (λ q. DoAlike V d R Z Z' J Given c h1 j s s' (body followed P lp (with_last l rest) i t0 t) (called_back s'.frame (hand_for C dt H) q)) (sym (run_end Q ln e1 (tree.ends (tree.give m0 g0)) ib tb t'))
      (both_left C dt H first left h1 j1 t t' (r, g) at.0 at.1 _ (λ v s1. body plainly Q ln (tree.ends (tree.give m0 g0)) ib tb s1) (value_alike C dt H first like (left_to l t0 e0) (temporary_of e1) h1 j1 t t' (r, g) (in_order left at.0)) (λ h2 j2 o v v' u u' is ready2 arrived at2 given.
      let vals = ready_values V Rb Zs Zf h2 j2 u u' ready2.0.inv ready arrived in
      subst (λ q. DoAlike V d R Z Z' J Given c h2 j s s' (text_goes P lp l rest i t0 v u) (called_back s'.frame (hand_for C dt H) q)) (sym (ends_reading m0 gives u' vals.holding))
      (finish C dt H (gives_way gives) go h2 j2 u u' ready2 arrived at2 v unit_value vals.ws (fit_thaw_all V Z Zs h2 j2 u (λ i v k. inl k) vals.fits) not_true (unit_fits left unit j2 t u o v unit_value is) m0.node)))
  ends_alike (end_value {l = l} {e = e0} {e' = e1} {m = m0} left like) C dt H first go h1 j1 t t' r g at =
      subst (λ q. DoAlike V d R Z Z' J Given c h1 j s s' (body followed P lp (with_last l rest) i t0 t) (called_back s'.frame (hand_for C dt H) q)) (sym (give_end Q ln m0 e1 ib tb t'))
      (both_left C dt H first left h1 j1 t t' (r, g) at.0 at.1 _ (λ v s1. gives_back Q ln m0 (temporary_of e1) v s1) (value_alike C dt H first like (left_to l t0 e0) (temporary_of e1) h1 j1 t t' (r, g) (in_order left at.0)) (λ h2 j2 o v v' u u' is ready2 arrived at2 given.
      subst (λ q. DoAlike V d R Z Z' J Given c h2 j s s' (text_goes P lp l rest i t0 v u) (called_back s'.frame (hand_for C dt H) q)) (sym (given_back Q ln m0 (temporary_of e1) v' u'))
      (finish C dt H (λ k. cc) go h2 j2 u u' ready2 arrived at2 v v' [] none_fit (λ k. given_set j2 v v' given) (value_fits left j2 v v' given) m0.node)))
  ends_alike (end_variant {l = l} {e = e0} {e' = e1} {i = i1} {v = v1} {m = m0} {w = w0} {es = es} left like ready takes) C dt H first go h1 j1 t t' r g at =
      subst (λ q. DoAlike V d R Z Z' J Given c h1 j s s' (body followed P lp (with_last l rest) i t0 t) (called_back s'.frame (hand_for C dt H) q)) (sym (variant_end Q ln m0 w0 i1 v1 e1 es ib tb t'))
      (both_left C dt H first left h1 j1 t t' (r, g) at.0 at.1 _ (λ v s1. then_variant Q ln m0 w0 i1 v1 e1 es v s1) (value_alike C dt H first like (left_to l t0 e0) (temporary_of e1) h1 j1 t t' (r, g) (in_order left at.0)) (λ h2 j2 o v v' u u' is ready2 arrived at2 given.
      let vals = ready_values V Rb Zs Zf h2 j2 u u' ready2.0.inv ready arrived in
      subst (λ q. DoAlike V d R Z Z' J Given c h2 j s s' (text_goes P lp l rest i t0 v u) (called_back s'.frame (hand_for C dt H) q)) (sym (variant_given Q ln m0 w0 i1 v1 e1 v' u' takes vals.holding))
      (finish C dt H (λ k. cc) go h2 j2 u u' ready2 arrived at2 v v' vals.ws (fit_thaw_all V Z Zs h2 j2 u (λ i v k. inl k) vals.fits) (λ k. given_set j2 v v' given) (value_fits left j2 v v' given) m0.node)))
  ends_alike (end_tuple {l = l} {e = e0} {g = g0} {c = c0} {n = n0} {k = k0} {o = o1} {zs = zs} {mutable = mutable} {m = m0} left binds new apart ready gives) C dt H first go h1 j1 t t' r g at =
      let b = bound_alike binds k0 o1 mutable (left_to l t0 e0) h1 j1 t t' (r, g) (in_order left at.0) in
      subst (λ q. DoAlike V d R Z Z' J Given c h1 j s s' (body followed P lp (with_last l rest) i t0 t) (called_back s'.frame (hand_for C dt H) q)) (sym (b.0.is n0 (tree.ends (tree.give m0 g0)) ib tb))
      (both_left C dt H first left h1 j1 t t' (r, g) at.0 at.1 b.0.gives (λ v s1. body plainly Q ln (tree.ends (tree.give m0 g0)) ib tb (with_value o1 v s1)) b.1 (λ h2 j2 o v v' u u' is ready2 arrived at2 given.
      let vals = ready_values V Rb Zs Zf h2 j2 u u' ready2.0.inv ready arrived in
      let set = given_set j2 v v' given in
      let held : Holding (with_value o1 v' u') (o1 ∷ zs) (v' ∷ vals.ws)
      = holds_and (new_slot o1 (length u'.memory) u'.frame.slots) (at_end u'.memory v') set (held_on (beside_and set beside_none) u' vals.holding (λ z z_in k. ⊎_elim (λ e. apart (subst (λ z. In z zs) e z_in)) (λ k. k) k)) in
      subst (λ q. DoAlike V d R Z Z' J Given c h2 j s s' (text_goes P lp l rest i t0 v u) (called_back s'.frame (hand_for C dt H) q)) (sym (ends_reading m0 gives (with_value o1 v' u') held))
      (finish C dt H (λ k. cc) go h2 j2 u (with_value o1 v' u') (beside_ready o1 v' h2 j2 u u' new ready2) arrived at2 v v' vals.ws (fit_thaw_all V Z Zs h2 j2 u (λ i v k. inl k) vals.fits) (λ k. set) (value_fits left j2 v v' given) m0.node)))
  ends_alike (end_never never) C dt H first go h1 j1 t t' r g at = absurd (never h1 (rest_arrives at.1))
  ends_alike (end_left {l = l} {e = e0} {e' = e1} {m = m0} left never like) C dt H first go h1 j1 t t' r g at =
      subst (λ q. DoAlike V d R Z Z' J Given c h1 j s s' (body followed P lp (with_last l rest) i t0 t) (called_back s'.frame (hand_for C dt H) q)) (sym (give_end Q ln m0 e1 ib tb t'))
      (both_left C dt H first left h1 j1 t t' (r, g) at.0 at.1 _ (λ v s1. gives_back Q ln m0 (temporary_of e1) v s1) (value_alike C dt H first like (left_to l t0 e0) (temporary_of e1) h1 j1 t t' (r, g) (in_order left at.0)) (λ h2 j2 o v v' u u' is ready2 arrived at2 given. absurd (never h2 arrived)))
