-- A tree in which marks were put in front of statements and of expressions does what the tree does: a mark gives a value that no one takes.
-- By recursion on the levels of the meaning, and then form by form.
use Rattle.std.proofs.Common.{◌≡◌, ℕ, zero, suc, Bool, true, false, nat_eq, List, [], ◌∷◌, Option, Some, None, if◌then◌else◌, refl, ap, ◌∙◌}
use Rattle.rx_tree.specs.declared.tree.BinaryOp.{BinaryOp}
use Rattle.rx_typed.specs.Tree.{Temporary, Making, Mark, Place, Pattern, Exp, read, borrow, share, build, unit, lazily, assign, update, call, input, print, block, choose, loop, jump, give, Operands, no_operand, operand_and, Scrutinee, at_place, of_value, Arms, no_arm, arm_and, Body, ends, runs, declares, lets, Parameter, Function, mark_of, temporary_at, temporary_of, temporaries_of, fields_of}
use Rattle.rx_lower_walks.specs.Matching.{PartTest, Binding, tests, bindings}
use Rattle.rx_lower_walks.specs.Actions.{Build, at_mark, Subject, in_temporary, subject}
use Rattle.rx_lower_walks.specs.Orders.{breaks, continues, returns}
use Rattle.rx_exits_plan.specs.Points.{Point}
use Rattle.rx_exits_plan.specs.Marked.{mark, mark_then}
use Rattle.rx_meaning.specs.Values.{Value, number, truth, whole, tagged, pointer, lacking, element, new_frame, State, with_turns}
use Rattle.rx_meaning.specs.Results.{Result, on, jumps, stops, after, bind, result_of}
use Rattle.rx_meaning.specs.Acting.{performed, plainly}
use Rattle.rx_meaning.specs.Patterns.{decided, tested, closed, bound, begun}
use Rattle.rx_meaning.specs.Expressions.{Functions, Meaning, turn_at, take_turn, passed, returned, with_arguments, entered, found, value, values, matched, arms, body, below_level, called}

-- ---- trees

mutual
  -- the second is the first with marks in front of parts
  pub data Same : Exp → Exp → Type 0 where
    s_mark : {e e' : Exp} (p : Point) → Same e e' → Same e (mark_then p e')
    s_read : {m : Mark} {v : Bool} {p : Place} → Same (read m v p) (read m v p)
    s_borrow : {m : Mark} {v : Bool} {p : Place} → Same (borrow m v p) (borrow m v p)
    s_share : {m : Mark} {e e' : Exp} → Same e e' → Same (share m e) (share m e')
    s_build : {m : Mark} {w : Making} {es es' : Operands} → SameAll es es' → Same (build m w es) (build m w es')
    s_unit : {m : Mark} → Same (unit m) (unit m)
    s_lazily : {m : Mark} {b : Bool} {e e' f f' : Exp} → Same e e' → Same f f' → Same (lazily m b e f) (lazily m b e' f')
    s_assign : {m : Mark} {p : Place} {e e' : Exp} → Same e e' → Same (assign m p e) (assign m p e')
    s_update : {m : Mark} {o : BinaryOp} {p : Place} {e e' : Exp} → Same e e' → Same (update m o p e) (update m o p e')
    s_call : {m : Mark} {f : ℕ} {es es' : Operands} → SameAll es es' → Same (call m f es) (call m f es')
    s_input : {m : Mark} → Same (input m) (input m)
    s_print : {m : Mark} {e e' : Exp} → Same e e' → Same (print m e) (print m e')
    s_block : {m : Mark} {b b' : Body} → SameBody b b' → Same (block m b) (block m b')
    s_choose : {m : Mark} {c c' : Scrutinee} {l l' : Arms} → SameMatched c c' → SameArms l l' → Same (choose m c l) (choose m c' l')
    s_loop : {m : Mark} {l : ℕ} {e e' : Exp} → Same e e' → Same (loop m l e) (loop m l e')
    s_jump : {m : Mark} {l : ℕ} {k : Bool} → Same (jump m l k) (jump m l k)
    s_give : {m : Mark} {e e' : Exp} → Same e e' → Same (give m e) (give m e')

  pub data SameAll : Operands → Operands → Type 0 where
    no_more : SameAll no_operand no_operand
    one_and : {i : ℕ} {e e' : Exp} {es es' : Operands} → Same e e' → SameAll es es' → SameAll (operand_and i e es) (operand_and i e' es')

  pub data SameMatched : Scrutinee → Scrutinee → Type 0 where
    same_place : {m : Mark} {p : Place} → SameMatched (at_place m p) (at_place m p)
    same_of : {e e' : Exp} → Same e e' → SameMatched (of_value e) (of_value e')

  pub data SameArms : Arms → Arms → Type 0 where
    no_arms : SameArms no_arm no_arm
    arm_too : {p : Pattern} {e e' : Exp} {l l' : Arms} → Same e e' → SameArms l l' → SameArms (arm_and p e l) (arm_and p e' l')

  pub data SameBody : Body → Body → Type 0 where
    mark_runs : {b b' : Body} (p : Point) → SameBody b b' → SameBody b (runs (mark p) b')
    same_ends : {e e' : Exp} → Same e e' → SameBody (ends e) (ends e')
    same_runs : {e e' : Exp} {b b' : Body} → Same e e' → SameBody b b' → SameBody (runs e b) (runs e' b')
    same_declares : {s : ℕ} {xs : List ℕ} {b b' : Body} → SameBody b b' → SameBody (declares s xs b) (declares s xs b')
    same_lets : {s : ℕ} {p : Pattern} {c c' : Scrutinee} {b b' : Body} → SameMatched c c' → SameBody b b' → SameBody (lets s p c b) (lets s p c' b')

-- functions of two programs
pub record SameFunction (g g' : Function) : Type 0 where
  pub params : g'.params ≡ g.params
  pub body : Same g.body g'.body

pub data SameEntry : Option (Option Function) → Option (Option Function) → Type 0 where
  both : {g g' : Function} → SameFunction g g' → SameEntry (Some (Some g)) (Some (Some g'))
  no_function : SameEntry (Some None) (Some None)
  nowhere : SameEntry None None

mark_same : {e e' : Exp} → Same e e' → mark_of e' ≡ mark_of e
mark_same (s_mark p s) = mark_same s
mark_same s_read = refl
mark_same s_borrow = refl
mark_same (s_share s) = refl
mark_same (s_build s) = refl
mark_same s_unit = refl
mark_same (s_lazily s t) = refl
mark_same (s_assign s) = refl
mark_same (s_update s) = refl
mark_same (s_call s) = refl
mark_same s_input = refl
mark_same (s_print s) = refl
mark_same (s_block s) = refl
mark_same (s_choose s t) = refl
mark_same (s_loop s) = refl
mark_same s_jump = refl
mark_same (s_give s) = refl

temporary_same : {e e' : Exp} → Same e e' → temporary_of e' ≡ temporary_of e
temporary_same s = ap (λ (m : Mark). temporary_at m.node 0) (mark_same s)

fields_same : {es es' : Operands} → SameAll es es' → fields_of es' ≡ fields_of es
fields_same no_more = refl
fields_same (one_and {i = i} s t) = ap (λ l. i ∷ l) (fields_same t)

subject_same : {c c' : Scrutinee} → SameMatched c c' → subject c' ≡ subject c
subject_same same_place = refl
subject_same (same_of s) = ap in_temporary (temporary_same s)

-- ---- results

after_nil : {A : Type 0} (r : Result ℕ A) → after [] r ≡ r
unfolding after
after_nil (on w a s) = refl
after_nil (jumps w x v s) = refl
after_nil (stops w e) = refl

bind_same : {A B : Type 0} {r r' : Result ℕ A} {k k' : A → State → Result ℕ B} → r' ≡ r → ((a : A) (s : State) → k' a s ≡ k a s) → bind r' k' ≡ bind r k
unfolding bind
bind_same {A = A} {r = r} {k = k} {k' = k'} e f = ap (λ q. bind q k') e ∙ by r
  where
    by : (r : Result ℕ A) → bind r k' ≡ bind r k
    by (on w a s) = ap (λ q. after w q) (f a s)
    by (jumps w x v s) = refl
    by (stops w e) = refl

decided_same : {go go' other other' : State → Result ℕ Value} (v : Value) (s : State) → ((s : State) → go' s ≡ go s) → ((s : State) → other' s ≡ other s) → decided v go' other' s ≡ decided v go other s
unfolding decided
decided_same (truth true) s f g = f s
decided_same (truth false) s f g = g s
decided_same (number k z) s f g = refl
decided_same (whole vs) s f g = refl
decided_same (tagged i vs) s f g = refl
decided_same (pointer i ss b) s f g = refl
decided_same (lacking l) s f g = refl

tested_same : {go go' next next' : State → Result ℕ Value} (S : Subject) (vs : List Value) (ts : List PartTest) (s : State) → ((s : State) → go' s ≡ go s) → ((s : State) → next' s ≡ next s) → tested plainly S vs ts go' next' s ≡ tested plainly S vs ts go next s
unfolding tested
tested_same S vs [] s f g = f s
tested_same S vs (t ∷ ts) s f g = bind_same refl (λ v s1. decided_same v s1 (λ s2. tested_same S vs ts s2 f g) g)

bound_same : {go go' : State → Result ℕ Value} (S : Subject) (vs : List Value) (bs : List Binding) (n : ℕ) (s : State) → ((s : State) → go' s ≡ go s) → bound plainly S vs bs n go' s ≡ bound plainly S vs bs n go s
unfolding bound
bound_same S vs [] n s f = f s
bound_same S vs (b ∷ bs) n s f = bind_same refl (λ ws s1. bind_same refl (λ u s2. bind_same refl (λ w s3. ap (λ r. closed plainly n b.variable r) (bound_same S vs bs n s3 f))))

begun_same : {go go' : State → Result ℕ Value} (i : ℕ) (xs : List ℕ) (n : ℕ) (s : State) → ((s : State) → go' s ≡ go s) → begun plainly i xs n go' s ≡ begun plainly i xs n go s
unfolding begun
begun_same i [] n s f = f s
begun_same i (x ∷ xs) n s f = bind_same refl (λ u s1. ap (λ r. closed plainly n x r) (begun_same i xs n s1 f))

arguments_same : {go go' : State → Result ℕ Value} (ps : List Parameter) (n : ℕ) (vs : List Value) (s : State) → ((s : State) → go' s ≡ go s) → with_arguments plainly ps n vs go' s ≡ with_arguments plainly ps n vs go s
unfolding with_arguments
arguments_same [] n [] s f = f s
arguments_same [] n (v ∷ vs) s f = refl
arguments_same (p ∷ ps) n [] s f = refl
arguments_same (p ∷ ps) n (v ∷ vs) s f = bind_same refl (λ u s1. bind_same refl (λ w s2. ap (λ r. closed plainly n p.variable r) (arguments_same ps n vs s2 f)))

turn_same : {A : Type 0} {go go' : State → Result ℕ A} (s : State) → ((s : State) → go' s ≡ go s) → take_turn s go' ≡ take_turn s go
unfolding take_turn
turn_same {go = go} {go' = go'} s f = by s.turns
  where
    by : (t : ℕ) → turn_at t s go' ≡ turn_at t s go
    by zero = refl
    by (suc t) = f (with_turns s t)

passed_same : {again again' : State → Result ℕ Value} (l : ℕ) {r r' : Result ℕ Value} → r' ≡ r → ((s : State) → again' s ≡ again s) → passed l r' again' ≡ passed l r again
unfolding passed
passed_same {again = again} {again' = again'} l {r = r} e f = ap (λ q. passed l q again') e ∙ by r
  where
    out : (b : Bool) (w : List ℕ) (n k : ℕ) (v : Value) (s : State) → (if b then after w (again' s) else jumps w (continues n k) v s) ≡ (if b then after w (again s) else jumps w (continues n k) v s)
    out true w n k v s = ap (λ q. after w q) (f s)
    out false w n k v s = refl

    by : (r : Result ℕ Value) → passed l r again' ≡ passed l r again
    by (on w v s) = ap (λ q. after w q) (f s)
    by (jumps w (breaks n k) v s) = refl
    by (jumps w (continues n k) v s) = out (nat_eq k l) w n k v s
    by (jumps w (returns n) v s) = refl
    by (stops w e) = refl

found_same : {o o' : Option (Option Function)} {go go' : Function → Result ℕ Value} → SameEntry o o' → ((g g' : Function) → SameFunction g g' → go' g' ≡ go g) → found o' go' ≡ found o go
found_same (both {g = g} {g' = g'} s) f = f g g' s
found_same no_function f = refl
found_same nowhere f = refl

-- ---- meanings

module _ (P Q : Functions) (entries : (f : ℕ) → SameEntry (element P f) (element Q f)) where
  module _ (b b' : Meaning ℕ) (agree : (e e' : Exp) → Same e e' → (d : Temporary) (s : State) → b' e' d s ≡ b e d s) where
    -- a call of the function of an item
    entered_same : (i : ℕ) (g g' : Function) → SameFunction g g' → (vs : List Value) (s : State) → entered plainly b' i g' vs s ≡ entered plainly b i g vs s
    entered_same i g g' w vs s =
        let F : State = record s { frame = new_frame i } in
        ap (λ r. returned plainly s.frame r)
        (ap (λ ps. with_arguments plainly ps (mark_of g'.body).node vs (λ s1. b' g'.body (temporary_of g'.body) s1) F) w.params
        ∙ ap (λ (m : Mark). with_arguments plainly g.params m.node vs (λ s1. b' g'.body (temporary_of g'.body) s1) F) (mark_same w.body)
        ∙ arguments_same g.params (mark_of g.body).node vs F (λ s1. ap (λ t. b' g'.body t s1) (temporary_same w.body) ∙ agree g.body g'.body w.body (temporary_of g.body) s1))

    -- where its value goes to its own temporary
    own : {e e' : Exp} (s : State) → Same e e' → ((d : Temporary) (s : State) → value plainly Q b' e' d s ≡ value plainly P b e d s) → value plainly Q b' e' (temporary_of e') s ≡ value plainly P b e (temporary_of e) s
    own {e = e} {e' = e'} s w f = ap (λ t. value plainly Q b' e' t s) (temporary_same w) ∙ f (temporary_of e) s

    marked_body : (p : Point) (c : Body) (n : ℕ) (d : Temporary) (s : State) → body plainly Q b' (runs (mark p) c) n d s ≡ body plainly Q b' c n d s
    unfolding value bind after result_of
    marked_body p c n d s = after_nil (body plainly Q b' c n d s)

    marked_value : (p : Point) (e : Exp) (d : Temporary) (s : State) → value plainly Q b' (mark_then p e) d s ≡ value plainly Q b' e d s
    unfolding value
    marked_value p e d s = marked_body p (ends e) (mark_of e).node d s

    mutual
      unfolding value

      value_same : {e e' : Exp} → Same e e' → (d : Temporary) (s : State) → value plainly Q b' e' d s ≡ value plainly P b e d s
      value_same (s_mark {e' = e'} p w) d s = marked_value p e' d s ∙ value_same w d s
      value_same s_read d s = refl
      value_same s_borrow d s = refl
      value_same (s_share {m = m} w) d s = bind_same (value_same w (temporary_at m.node 1) s) (λ v s1. refl)
      value_same (s_build {m = m} {w = k} {es = es} {es' = es'} w) d s =
          bind_same (values_same w s) (λ vs s1. ap (λ js. performed plainly (at_mark m (Build k js (temporaries_of es) d)) vs s1) (fields_same w))
      value_same s_unit d s = refl
      value_same (s_lazily w x) d s =
          bind_same (own s w (λ d s. value_same w d s)) (λ v s1. bind_same refl (λ t s2. bind_same (decided_same t s2 (λ s3. own s3 x (λ d s. value_same x d s)) (λ s3. refl)) (λ u s4. refl)))
      value_same (s_assign w) d s = bind_same (own s w (λ d s. value_same w d s)) (λ v s1. refl)
      value_same (s_update w) d s = bind_same (own s w (λ d s. value_same w d s)) (λ v s1. refl)
      value_same (s_call {f = f} w) d s =
          bind_same (values_same w s) (λ vs s1. bind_same refl (λ u s2. found_same (entries f) (λ g g' x. turn_same s2 (λ s3. entered_same f g g' x vs s3))))
      value_same s_input d s = refl
      value_same (s_print w) d s = bind_same (own s w (λ d s. value_same w d s)) (λ v s1. refl)
      value_same (s_block {m = m} w) d s = body_same w m.node d s
      value_same (s_choose {c = c} {c' = c'} {l' = l'} w x) d s =
          bind_same (matched_same w s) (λ vs s1. ap (λ S. arms plainly Q b' S vs l' d s1) (subject_same w) ∙ arms_same (subject c) vs x d s1)
      value_same (s_loop {m = m} {l = l} {e = e} {e' = e'} w) d s =
          turn_same s (λ s1. passed_same l (ap (λ t. b' e' t s1) (temporary_same w) ∙ agree e e' w (temporary_of e) s1) (λ s2. agree (loop m l e) (loop m l e') (s_loop w) d s2))
      value_same s_jump d s = refl
      value_same (s_give w) d s = bind_same (own s w (λ d s. value_same w d s)) (λ v s1. refl)

      values_same : {es es' : Operands} → SameAll es es' → (s : State) → values plainly Q b' es' s ≡ values plainly P b es s
      values_same no_more s = refl
      values_same (one_and w x) s = bind_same (own s w (λ d s. value_same w d s)) (λ v s1. bind_same (values_same x s1) (λ vs s2. refl))

      matched_same : {c c' : Scrutinee} → SameMatched c c' → (s : State) → matched plainly Q b' c' s ≡ matched plainly P b c s
      matched_same same_place s = refl
      matched_same (same_of w) s = bind_same (own s w (λ d s. value_same w d s)) (λ v s1. refl)

      arms_same : {l l' : Arms} (S : Subject) (vs : List Value) → SameArms l l' → (d : Temporary) (s : State) → arms plainly Q b' S vs l' d s ≡ arms plainly P b S vs l d s
      arms_same S vs no_arms d s = refl
      arms_same S vs (arm_too {p = p} {e = e} {e' = e'} {l' = l'} w x) d s =
          ap (λ (m : Mark). tested plainly S vs (tests [] p) (λ s1. bound plainly S vs (bindings [] p) m.node (λ s2. value plainly Q b' e' d s2) s1) (λ s1. arms plainly Q b' S vs l' d s1) s) (mark_same w)
          ∙ tested_same S vs (tests [] p) s (λ s1. bound_same S vs (bindings [] p) (mark_of e).node s1 (λ s2. value_same w d s2)) (λ s1. arms_same S vs x d s1)

      body_same : {c c' : Body} → SameBody c c' → (n : ℕ) (d : Temporary) (s : State) → body plainly Q b' c' n d s ≡ body plainly P b c n d s
      body_same (mark_runs {b' = c'} p w) n d s = marked_body p c' n d s ∙ body_same w n d s
      body_same (same_ends w) n d s = value_same w d s
      body_same (same_runs w x) n d s = bind_same (own s w (λ d s. value_same w d s)) (λ v s1. body_same x n d s1)
      body_same (same_declares {s = i} {xs = xs} w) n d s = begun_same i xs n s (λ s1. body_same w n d s1)
      body_same (same_lets {p = p} {c = c} {b' = c'} w x) n d s =
          bind_same (matched_same w s) (λ vs s1. ap (λ S. bound plainly S vs (bindings [] p) n (λ s2. body plainly Q b' c' n d s2) s1) (subject_same w) ∙ bound_same (subject c) vs (bindings [] p) n s1 (λ s2. body_same x n d s2))

  below_same : (n : ℕ) (e e' : Exp) → Same e e' → (d : Temporary) (s : State) → below_level plainly Q n e' d s ≡ below_level plainly P n e d s
  unfolding below_level
  below_same zero e e' w d s = refl
  below_same (suc n) e e' w d s = value_same (below_level plainly P n) (below_level plainly Q n) (below_same n) w d s

  pub called_same : (n f : ℕ) (vs : List Value) (s : State) → called plainly Q n f vs s ≡ called plainly P n f vs s
  called_same n f vs s = found_same (entries f) (λ g g' x. turn_same s (λ s1. entered_same (below_level plainly P n) (below_level plainly Q n) (below_same n) f g g' x vs s1))
