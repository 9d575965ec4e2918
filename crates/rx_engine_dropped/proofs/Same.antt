-- A program that drops what calls of one function give, in front of a block's unit, does what the program does in which the block gives it, by each way
-- to act by which these calls give the unit. By recursion on the levels of the meaning, and then form by form.
use Rattle.std.proofs.Common.{◌≡◌, ℕ, zero, suc, Bool, true, false, nat_eq, List, [], ◌∷◌, append-nil, Option, Some, None, if◌then◌else◌, refl, sym, ap, ◌∙◌}
use Rattle.rx_typed.specs.Tree as tree
use Rattle.rx_typed.specs.Tree.{Temporary, Mark, Exp, Operands, Scrutinee, Arms, Body, Parameter, Function, mark_of, temporary_at, temporary_of, temporaries_of, fields_of}
use Rattle.rx_lower_walks.specs.Matching.{PartTest, Binding, tests, bindings}
use Rattle.rx_lower_walks.specs.Matching as matching
use Rattle.rx_lower_walks.specs.Actions as actions
use Rattle.rx_lower_walks.specs.Actions.{Call, Build, Give, at_mark, Subject, in_temporary, subject}
use Rattle.rx_lower_walks.specs.Orders.{breaks, continues, returns}
use Rattle.rx_meaning.specs.Values.{Value, number, truth, whole, tagged, pointer, lacking, unit_value, new_frame, element, State, with_turns}
use Rattle.rx_meaning.specs.Results.{Result, on, jumps, stops, after, bind}
use Rattle.rx_meaning.specs.Acting.{Acting, performed}
use Rattle.rx_meaning.specs.Patterns.{decided, tested, closed, bound, begun}
use Rattle.rx_meaning.specs.Expressions.{Functions, Meaning, turn_at, take_turn, passed, returned, with_arguments, entered, found, value, values, matched, arms, body, below_level, called}
use Rattle.rx_engine_dropped.specs.Undrops.{Undrops, u_read, u_borrow, u_share, u_build, u_unit, u_lazily, u_assign, u_update, u_call, u_input, u_print, u_block, u_choose, u_loop, u_jump, u_give, UndropsAll, u_none, u_operand, UndropsMatched, u_place, u_value, UndropsArms, u_no_arm, u_arm, UndropsBody, undropped, undropped_given, u_ends, u_runs, u_declares, u_lets, UndropsFunction, UndropsEntry, u_same, u_function}
use Rattle.rx_engine_dropped.proofs.UnitCalls.{OnUnit, on_unit, no_gift, no_end}

-- ---- trees

pub mark_same : {N : ℕ} {e e' : Exp} → Undrops N e e' → mark_of e' ≡ mark_of e
mark_same u_read = refl
mark_same u_borrow = refl
mark_same (u_share u) = refl
mark_same (u_build u) = refl
mark_same u_unit = refl
mark_same (u_lazily u v) = refl
mark_same (u_assign u) = refl
mark_same (u_update u) = refl
mark_same (u_call u) = refl
mark_same u_input = refl
mark_same (u_print u) = refl
mark_same (u_block u) = refl
mark_same (u_choose u v) = refl
mark_same (u_loop u) = refl
mark_same u_jump = refl
mark_same (u_give u) = refl

temporary_same : {N : ℕ} {e e' : Exp} → Undrops N e e' → temporary_of e' ≡ temporary_of e
temporary_same u = ap (λ (m : Mark). temporary_at m.node 0) (mark_same u)

temporaries_same : {N : ℕ} {es es' : Operands} → UndropsAll N es es' → temporaries_of es' ≡ temporaries_of es
temporaries_same u_none = refl
temporaries_same (u_operand {e = e} {es' = es'} u v) = ap (λ t. t ∷ temporaries_of es') (temporary_same u) ∙ ap (λ l. temporary_of e ∷ l) (temporaries_same v)

fields_same : {N : ℕ} {es es' : Operands} → UndropsAll N es es' → fields_of es' ≡ fields_of es
fields_same u_none = refl
fields_same (u_operand {i = i} u v) = ap (λ l. i ∷ l) (fields_same v)

pub subject_same : {N : ℕ} {c c' : Scrutinee} → UndropsMatched N c c' → subject c' ≡ subject c
subject_same u_place = refl
subject_same (u_value u) = ap in_temporary (temporary_same u)

-- each tree is so itself
mutual
  pub self : {N : ℕ} (e : Exp) → Undrops N e e
  self (tree.read m v p) = u_read
  self (tree.borrow m k p) = u_borrow
  self (tree.share m e) = u_share (self e)
  self (tree.build m w es) = u_build (self_all es)
  self (tree.unit m) = u_unit
  self (tree.lazily m b e f) = u_lazily (self e) (self f)
  self (tree.assign m p e) = u_assign (self e)
  self (tree.update m o p e) = u_update (self e)
  self (tree.call m f es) = u_call (self_all es)
  self (tree.input m) = u_input
  self (tree.print m e) = u_print (self e)
  self (tree.block m b) = u_block (self_body b)
  self (tree.choose m c l) = u_choose (self_matched c) (self_arms l)
  self (tree.loop m l e) = u_loop (self e)
  self (tree.jump m l k) = u_jump
  self (tree.give m e) = u_give (self e)

  pub self_all : {N : ℕ} (es : Operands) → UndropsAll N es es
  self_all tree.no_operand = u_none
  self_all (tree.operand_and i e es) = u_operand (self e) (self_all es)

  pub self_matched : {N : ℕ} (c : Scrutinee) → UndropsMatched N c c
  self_matched (tree.at_place m p) = u_place
  self_matched (tree.of_value e) = u_value (self e)

  pub self_arms : {N : ℕ} (l : Arms) → UndropsArms N l l
  self_arms tree.no_arm = u_no_arm
  self_arms (tree.arm_and q e l) = u_arm (self e) (self_arms l)

  pub self_body : {N : ℕ} (b : Body) → UndropsBody N b b
  self_body (tree.ends e) = u_ends (self e)
  self_body (tree.runs e b) = u_runs (self e) (self_body b)
  self_body (tree.declares i xs b) = u_declares (self_body b)
  self_body (tree.lets i q c b) = u_lets (self_matched c) (self_body b)

-- ---- results

bind_same : {A B : Type 0} {r r' : Result ℕ A} {k k' : A → State → Result ℕ B} → r' ≡ r → ((a : A) (s : State) → k' a s ≡ k a s) → bind r' k' ≡ bind r k
unfolding bind
bind_same {A = A} {r = r} {k = k} {k' = k'} e f = ap (λ q. bind q k') e ∙ by r
  where
    by : (r : Result ℕ A) → bind r k' ≡ bind r k
    by (on w a s) = ap (λ q. after w q) (f a s)
    by (jumps w x v s) = refl
    by (stops w e) = refl

-- the unit for the unit
unit_again : (r : Result ℕ Value) → OnUnit r → r ≡ bind r (λ v s. on [] unit_value s)
unfolding bind after
unit_again _ (on_unit {w = w} {s = s}) = ap (λ l. on l unit_value s) (sym (append-nil w))
unit_again _ no_gift = refl
unit_again _ no_end = refl

given_again : {B : Type 0} (go : Value → State → Result ℕ B) (r : Result ℕ Value) → OnUnit r → bind r go ≡ bind r (λ v s. bind (on [] unit_value s) go)
unfolding bind after
given_again go _ (on_unit {w = w} {s = s}) = ap (λ q. after w q) (sym (after_nil (go unit_value s)))
  where
    after_nil : {A : Type 0} (r : Result ℕ A) → after [] r ≡ r
    after_nil (on w a s) = refl
    after_nil (jumps w x v s) = refl
    after_nil (stops w e) = refl
given_again go _ no_gift = refl
given_again go _ no_end = refl

decided_same : {go go' other other' : State → Result ℕ Value} (v : Value) (s : State) → ((s : State) → go' s ≡ go s) → ((s : State) → other' s ≡ other s) → decided v go' other' s ≡ decided v go other s
unfolding decided
decided_same (truth true) s f g = f s
decided_same (truth false) s f g = g s
decided_same (number k z) s f g = refl
decided_same (whole vs) s f g = refl
decided_same (tagged i vs) s f g = refl
decided_same (pointer i ss b) s f g = refl
decided_same (lacking l) s f g = refl

turn_same : {A : Type 0} {go go' : State → Result ℕ A} (s : State) → ((s : State) → go' s ≡ go s) → take_turn s go' ≡ take_turn s go
unfolding take_turn
turn_same {go = go} {go' = go'} s f = by s.turns
  where
    by : (t : ℕ) → turn_at t s go' ≡ turn_at t s go
    by zero = refl
    by (suc t) = f (with_turns s t)

passed_same : {again again' : State → Result ℕ Value} (l : ℕ) {r r' : Result ℕ Value} → r' ≡ r → ((s : State) → again' s ≡ again s) → passed l r' again' ≡ passed l r again
unfolding passed
passed_same {again = again} {again' = again'} l {r = r} e f = ap (λ q. passed l q again') e ∙ by r
  where
    out : (b : Bool) (w : List ℕ) (n k : ℕ) (v : Value) (s : State) → (if b then after w (again' s) else jumps w (continues n k) v s) ≡ (if b then after w (again s) else jumps w (continues n k) v s)
    out true w n k v s = ap (λ q. after w q) (f s)
    out false w n k v s = refl

    by : (r : Result ℕ Value) → passed l r again' ≡ passed l r again
    by (on w v s) = ap (λ q. after w q) (f s)
    by (jumps w (breaks n k) v s) = refl
    by (jumps w (continues n k) v s) = out (nat_eq k l) w n k v s
    by (jumps w (returns n) v s) = refl
    by (stops w e) = refl

found_same : {N : ℕ} {o o' : Option (Option Function)} {go go' : Function → Result ℕ Value} → UndropsEntry N o o' → ((g : Function) → go' g ≡ go g) → ((g g' : Function) → UndropsFunction N g g' → go' g' ≡ go g) → found o' go' ≡ found o go
found_same {go = go} {go' = go'} (u_same {o = o}) h f = by o
  where
    by : (o : Option (Option Function)) → found o go' ≡ found o go
    by None = refl
    by (Some None) = refl
    by (Some (Some g)) = h g
found_same (u_function {g = g} {g' = g'} u) h f = f g g' u

-- a way to act that doesn't look at where what is called or given goes
pub record IsBlind (A : Acting ℕ) : Type 0 where
  pub calls : (m : Mark) (f : ℕ) (ts : List Temporary) (d d' : Temporary) (vs : List Value) (s : State) → performed A (at_mark m (Call f ts d)) vs s ≡ performed A (at_mark m (Call f ts d')) vs s
  pub gives : (m : Mark) (t t' : Temporary) (vs : List Value) (s : State) → performed A (at_mark m (Give t)) vs s ≡ performed A (at_mark m (Give t')) vs s

module _ (A : Acting ℕ) (blind : IsBlind A) where
  tested_same : {go go' next next' : State → Result ℕ Value} (S : Subject) (vs : List Value) (ts : List PartTest) (s : State) → ((s : State) → go' s ≡ go s) → ((s : State) → next' s ≡ next s) → tested A S vs ts go' next' s ≡ tested A S vs ts go next s
  unfolding tested
  tested_same S vs [] s f g = f s
  tested_same S vs (t ∷ ts) s f g = bind_same refl (λ v s1. decided_same v s1 (λ s2. tested_same S vs ts s2 f g) g)

  bound_same : {go go' : State → Result ℕ Value} (S : Subject) (vs : List Value) (bs : List Binding) (n : ℕ) (s : State) → ((s : State) → go' s ≡ go s) → bound A S vs bs n go' s ≡ bound A S vs bs n go s
  unfolding bound
  bound_same S vs [] n s f = f s
  bound_same S vs (b ∷ bs) n s f = bind_same refl (λ ws s1. bind_same refl (λ u s2. bind_same refl (λ w s3. ap (λ r. closed A n b.variable r) (bound_same S vs bs n s3 f))))

  begun_same : {go go' : State → Result ℕ Value} (i : ℕ) (xs : List ℕ) (n : ℕ) (s : State) → ((s : State) → go' s ≡ go s) → begun A i xs n go' s ≡ begun A i xs n go s
  unfolding begun
  begun_same i [] n s f = f s
  begun_same i (x ∷ xs) n s f = bind_same refl (λ u s1. ap (λ r. closed A n x r) (begun_same i xs n s1 f))

  arguments_same : {go go' : State → Result ℕ Value} (ps : List Parameter) (n : ℕ) (vs : List Value) (s : State) → ((s : State) → go' s ≡ go s) → with_arguments A ps n vs go' s ≡ with_arguments A ps n vs go s
  unfolding with_arguments
  arguments_same [] n [] s f = f s
  arguments_same [] n (v ∷ vs) s f = refl
  arguments_same (p ∷ ps) n [] s f = refl
  arguments_same (p ∷ ps) n (v ∷ vs) s f = bind_same refl (λ u s1. bind_same refl (λ w s2. ap (λ r. closed A n p.variable r) (arguments_same ps n vs s2 f)))

  -- ---- meanings

  module _ (N : ℕ) (P Q : Functions) (entries : (f : ℕ) → UndropsEntry N (element P f) (element Q f)) where
    module _ (b b' : Meaning ℕ) (agree : (e e' : Exp) → Undrops N e e' → (d : Temporary) (s : State) → b' e' d s ≡ b e d s)
        (gives : (m : Mark) (es : Operands) (d : Temporary) (s : State) → OnUnit (value A P b (tree.call m N es) d s)) where
      entered_same : (i : ℕ) (g g' : Function) → UndropsFunction N g g' → (vs : List Value) (s : State) → entered A b' i g' vs s ≡ entered A b i g vs s
      entered_same i g g' u vs s =
          let F : State = record s { frame = new_frame i } in
          ap (λ r. returned A s.frame r)
          (ap (λ ps. with_arguments A ps (mark_of g'.body).node vs (λ s1. b' g'.body (temporary_of g'.body) s1) F) (sym u.params)
          ∙ ap (λ (m : Mark). with_arguments A g.params m.node vs (λ s1. b' g'.body (temporary_of g'.body) s1) F) (mark_same u.body)
          ∙ arguments_same g.params (mark_of g.body).node vs F (λ s1. ap (λ t. b' g'.body t s1) (temporary_same u.body) ∙ agree g.body g'.body u.body (temporary_of g.body) s1))

      -- where its value goes to its own temporary
      own : {e e' : Exp} (s : State) → Undrops N e e' → ((d : Temporary) (s : State) → value A Q b' e' d s ≡ value A P b e d s) → value A Q b' e' (temporary_of e') s ≡ value A P b e (temporary_of e) s
      own {e = e} {e' = e'} s u f = ap (λ t. value A Q b' e' t s) (temporary_same u) ∙ f (temporary_of e) s

      call_so : (m : Mark) (f : ℕ) {es es' : Operands} → UndropsAll N es es' → ((s : State) → values A Q b' es' s ≡ values A P b es s) → (d : Temporary) (s : State) → value A Q b' (tree.call m f es') d s ≡ value A P b (tree.call m f es) d s
      unfolding value
      call_so m f u r d s =
          bind_same (r s) (λ vs s1. bind_same (ap (λ ts. performed A (at_mark m (Call f ts d)) vs s1) (temporaries_same u)) (λ w s2. found_same (entries f)
          (λ g. turn_same s2 (λ s3. entered_same f g g (record { params = refl; body = self g.body }) vs s3)) (λ g g' x. turn_same s2 (λ s3. entered_same f g g' x vs s3))))

      -- wherever what is called goes
      anywhere : (m : Mark) (es : Operands) (d d' : Temporary) (s : State) → value A P b (tree.call m N es) d s ≡ value A P b (tree.call m N es) d' s
      unfolding value
      anywhere m es d d' s = bind_same refl (λ vs s1. bind_same (blind.calls m N (temporaries_of es) d d' vs s1) (λ u s2. refl))

      mutual
        unfolding value

        value_same : {e e' : Exp} → Undrops N e e' → (d : Temporary) (s : State) → value A Q b' e' d s ≡ value A P b e d s
        value_same u_read d s = refl
        value_same u_borrow d s = refl
        value_same (u_share {m = m} u) d s = bind_same (value_same u (temporary_at m.node 1) s) (λ v s1. refl)
        value_same (u_build {m = m} {w = k} {es = es} {es' = es'} u) d s =
            bind_same (values_same u s) (λ vs s1. ap (λ js. performed A (at_mark m (Build k js (temporaries_of es') d)) vs s1) (fields_same u) ∙ ap (λ ts. performed A (at_mark m (Build k (fields_of es) ts d)) vs s1) (temporaries_same u))
        value_same u_unit d s = refl
        value_same (u_lazily {m = m} {b = t} {e = e} {f = f} {e' = e'} {f' = f'} u w) d s = bind_same (own s u (λ d s. value_same u d s)) (λ v s1.
            bind_same (ap (λ x. performed A (at_mark m (actions.Test (tree.temporary_place x) (matching.equals (tree.truth t)))) (v ∷ []) s1) (temporary_same u)) (λ z s2.
            bind_same (decided_same z s2 (λ s3. own s3 w (λ d s. value_same w d s)) (λ s3. refl)) (λ y s4.
            ap (λ x. performed A (at_mark m (Build tree.lazy [] (x ∷ temporary_of f' ∷ []) d)) (y ∷ []) s4) (temporary_same u) ∙ ap (λ x. performed A (at_mark m (Build tree.lazy [] (temporary_of e ∷ x ∷ []) d)) (y ∷ []) s4) (temporary_same w))))
        value_same (u_assign {m = m} {p = p} u) d s = bind_same (own s u (λ d s. value_same u d s)) (λ v s1. ap (λ t. performed A (at_mark m (actions.Write p t [])) (v ∷ []) s1) (temporary_same u))
        value_same (u_update {m = m} {o = o} {p = p} u) d s = bind_same (own s u (λ d s. value_same u d s)) (λ v s1. bind_same refl (λ w s2.
            bind_same (ap (λ t. performed A (at_mark m (Build (tree.operation o) [] (temporary_at m.node 1 ∷ t ∷ []) (temporary_at m.node 2))) (w ∷ v ∷ []) s2) (temporary_same u)) (λ x s3. refl)))
        value_same (u_call {m = m} {f = f} u) d s = call_so m f u (λ s1. values_same u s1) d s
        value_same u_input d s = refl
        value_same (u_print {m = m} u) d s = bind_same (own s u (λ d s. value_same u d s)) (λ v s1. ap (λ t. performed A (at_mark m (actions.Print t)) (v ∷ []) s1) (temporary_same u))
        value_same (u_block {m = m} u) d s = body_same u m.node d s
        value_same (u_choose {c = c} {c' = c'} {l' = l'} u w) d s =
            bind_same (matched_same u s) (λ vs s1. ap (λ S. arms A Q b' S vs l' d s1) (subject_same u) ∙ arms_same (subject c) vs w d s1)
        value_same (u_loop {m = m} {l = l} {e = e} {e' = e'} u) d s =
            turn_same s (λ s1. passed_same l (ap (λ t. b' e' t s1) (temporary_same u) ∙ agree e e' u (temporary_of e) s1) (λ s2. agree (tree.loop m l e) (tree.loop m l e') (u_loop u) d s2))
        value_same u_jump d s = refl
        value_same (u_give {m = m} u) d s = bind_same (own s u (λ d s. value_same u d s)) (λ v s1. bind_same (ap (λ t. performed A (at_mark m (Give t)) (v ∷ []) s1) (temporary_same u)) (λ w s2. refl))

        values_same : {es es' : Operands} → UndropsAll N es es' → (s : State) → values A Q b' es' s ≡ values A P b es s
        values_same u_none s = refl
        values_same (u_operand u w) s = bind_same (own s u (λ d s. value_same u d s)) (λ v s1. bind_same (values_same w s1) (λ vs s2. refl))

        matched_same : {c c' : Scrutinee} → UndropsMatched N c c' → (s : State) → matched A Q b' c' s ≡ matched A P b c s
        matched_same u_place s = refl
        matched_same (u_value u) s = bind_same (own s u (λ d s. value_same u d s)) (λ v s1. refl)

        arms_same : {l l' : Arms} (S : Subject) (vs : List Value) → UndropsArms N l l' → (d : Temporary) (s : State) → arms A Q b' S vs l' d s ≡ arms A P b S vs l d s
        arms_same S vs u_no_arm d s = refl
        arms_same S vs (u_arm {q = p} {e = e} {e' = e'} {l' = l'} u w) d s =
            ap (λ (m : Mark). tested A S vs (tests [] p) (λ s1. bound A S vs (bindings [] p) m.node (λ s2. value A Q b' e' d s2) s1) (λ s1. arms A Q b' S vs l' d s1) s) (mark_same u)
            ∙ tested_same S vs (tests [] p) s (λ s1. bound_same S vs (bindings [] p) (mark_of e).node s1 (λ s2. value_same u d s2)) (λ s1. arms_same S vs w d s1)

        body_same : {c c' : Body} → UndropsBody N c c' → (n : ℕ) (d : Temporary) (s : State) → body A Q b' c' n d s ≡ body A P b c n d s
        body_same (undropped {m = m} {es = es} u) n d s =
            call_so m N u (λ s1. values_same u s1) d s ∙ anywhere m es d (temporary_of (tree.call m N es)) s ∙ unit_again (value A P b (tree.call m N es) (temporary_of (tree.call m N es)) s) (gives m es (temporary_of (tree.call m N es)) s)
        body_same (undropped_given {m = m} {mg = mg} {mu = mu} {es = es} {es' = es'} u) n d s =
            bind_same (call_so m N u (λ s1. values_same u s1) (temporary_of (tree.call m N es')) s) (λ v s1. bind_same (blind.gives mg (temporary_of (tree.call m N es')) (temporary_of (tree.unit mu)) (v ∷ []) s1) (λ w s2. refl))
            ∙ given_again (λ v s1. bind (performed A (at_mark mg (Give (temporary_of (tree.unit mu)))) (v ∷ []) s1) (λ w s2. jumps [] (returns mg.node) w s2)) (value A P b (tree.call m N es) (temporary_of (tree.call m N es)) s) (gives m es (temporary_of (tree.call m N es)) s)
        body_same (u_ends u) n d s = value_same u d s
        body_same (u_runs u w) n d s = bind_same (own s u (λ d s. value_same u d s)) (λ v s1. body_same w n d s1)
        body_same (u_declares {i = i} {xs = xs} u) n d s = begun_same i xs n s (λ s1. body_same u n d s1)
        body_same (u_lets {q = p} {c = c} {b' = c'} u w) n d s =
            bind_same (matched_same u s) (λ vs s1. ap (λ S. bound A S vs (bindings [] p) n (λ s2. body A Q b' c' n d s2) s1) (subject_same u) ∙ bound_same (subject c) vs (bindings [] p) n s1 (λ s2. body_same w n d s2))

    module _ (gives : (n : ℕ) (m : Mark) (es : Operands) (d : Temporary) (s : State) → OnUnit (value A P (below_level A P n) (tree.call m N es) d s)) where
      below_same : (n : ℕ) (e e' : Exp) → Undrops N e e' → (d : Temporary) (s : State) → below_level A Q n e' d s ≡ below_level A P n e d s
      unfolding below_level
      below_same zero e e' u d s = refl
      below_same (suc n) e e' u d s = value_same (below_level A P n) (below_level A Q n) (below_same n) (gives n) u d s

      pub called_same : (n f : ℕ) (vs : List Value) (s : State) → called A Q n f vs s ≡ called A P n f vs s
      called_same n f vs s = found_same (entries f)
          (λ g. turn_same s (λ s1. entered_same (below_level A P n) (below_level A Q n) (below_same n) (gives n) f g g (record { params = refl; body = self g.body }) vs s1))
          (λ g g' x. turn_same s (λ s1. entered_same (below_level A P n) (below_level A Q n) (below_same n) (gives n) f g g' x vs s1))
