-- The text does what it alone has, a mark or the read of a variable that was written, while the answer stands still.
use Rattle.std.proofs.Common.{◌≡◌, ℕ, ◌+◌, ◌≤◌, true, false, if◌then◌else◌, List, [], ◌∷◌, ◌++◌, Some, None, refl, sym, ap, ◌∙◌, subst, inl, inr, ⊎_elim, arith}
use Rattle.rx_typed.specs.Tree as tree
use Rattle.rx_typed.specs.Tree.{Mark, Exp, Body, Temporary, own, temporary_of}
use Rattle.rx_lower_walks.specs.Actions.{Action, Read, at_mark}
use Rattle.rx_lower_walks.specs.Orders.{order, order_body}
use Rattle.rx_lower_walks.specs.Walks as walk
use Rattle.rx_lower_walks.specs.Walks.{Walk}
use Rattle.rx_exits_plan.specs.Points.{Point, enters}
use Rattle.rx_exits_plan.specs.Marked.{at_point, mark, mark_then, shown}
use Rattle.rx_meaning.specs.Endings.{lacks}
use Rattle.rx_meaning.specs.Straying.{why_not_found}
use Rattle.rx_meaning.specs.Values.{Value, element, is_set, slot_of, State}
use Rattle.rx_meaning.specs.Results as results
use Rattle.rx_meaning.specs.Results.{Result, on, bind, after, result_of, or_ends}
use Rattle.rx_meaning.specs.Acting.{plainly}
use Rattle.rx_meaning.specs.Places.{whole_value}
use Rattle.rx_meaning.specs.Expressions.{Functions, Meaning, value, body, below_level}
use Rattle.rx_meaning.proofs.Sequences.{after_nothing}
use Rattle.rx_meaning.proofs.Fronts.{told_after}
use Rattle.rx_engine_simulation.specs.Marks.{reading, with_mark, AreWritten, MarksExpression, marks_expression, marks_value, MarksStatements, marks_statements, marks}
use Rattle.rx_engine_simulation.specs.Blocks.{Stretch, done, before, Through, through_run}
use Rattle.rx_engine_simulation.specs.Histories.{put}
use Rattle.rx_engine_simulation.proofs.Told.{Told, did, noted, followed, onto}
use Rattle.rx_engine_simulation.proofs.Values.{Pair, In, Given}
use Rattle.rx_engine_simulation.proofs.States.{Direction, Facts, Written, Renaming, Frozen, grown_refl}
use Rattle.rx_engine_simulation.proofs.Keeping.{KillsNone, states_step}
use Rattle.rx_engine_simulation.proofs.Results.{Jumping, ResultsAlike, DoAlike, alike_prefix}
use Rattle.rx_engine_simulation.proofs.Positions.{first_at, next_at}
use Rattle.rx_engine_simulation.proofs.Parts.{Ready, less}
use Rattle.rx_engine_simulation.proofs.Given.{found_own}
use Rattle.rx_engine_simulation.proofs.Congruence.{OpensAlike}
use Rattle.rx_engine_simulation.proofs.Passed.{passes_alike}

-- ---- what is computed

pub mark_goes : (P : Functions) (low : Meaning (Told ℕ)) (p : Point) (b : Body) (i : ℕ) (t : Temporary) (s : State) → body followed P low (tree.runs (mark p) b) i t s ≡ after (did (shown p) ∷ []) (body followed P low b i t s)
unfolding value bind after result_of noted
mark_goes P low p b i t s = refl

pub block_goes : (P : Functions) (low : Meaning (Told ℕ)) (p : Point) (e : Exp) (t : Temporary) (s : State) → value followed P low (mark_then p e) t s ≡ after (did (shown p) ∷ []) (value followed P low e t s)
unfolding value bind after result_of noted
block_goes P low p e t s = refl

abbrev read_of : ℕ → Action
read_of x = at_mark (at_point enters) (Read false (own x) (temporary_of (tree.read (at_point enters) false (own x))))

read_told : (P : Functions) (low : Meaning (Told ℕ)) (x i : ℕ) (v : Value) (s : State) → slot_of s.frame.slots x ≡ Some i → element s.memory i ≡ Some v → is_set v ≡ true
    → value followed P low (tree.read (at_point enters) false (own x)) (temporary_of (tree.read (at_point enters) false (own x))) s ≡ on (did (read_of x) ∷ []) v s
unfolding value result_of noted
read_told P low x i v s e f set =
    ap (λ o. result_of (noted (read_of x) (or_ends (why_not_found (own x) [] s) o (λ g. or_ends lacks (whole_value g) (λ v. results.gives [] v s))))) (found_own x i v s e f)
    ∙ ap (λ b. result_of (noted (read_of x) (or_ends lacks (if b then Some v else None) (λ v. results.gives [] v s)))) set

read_goes : (P : Functions) (low : Meaning (Told ℕ)) (x i : ℕ) (v : Value) (b : Body) (n : ℕ) (t : Temporary) (s : State) → slot_of s.frame.slots x ≡ Some i → element s.memory i ≡ Some v → is_set v ≡ true
    → body followed P low (tree.runs (tree.read (at_point enters) false (own x)) b) n t s ≡ after (did (read_of x) ∷ []) (body followed P low b n t s)
unfolding value bind
read_goes P low x i v b n t s e f set = ap (λ r. bind r (λ v s1. body followed P low b n t s1)) (read_told P low x i v s e f set)

-- ---- a step of the text alone

pub step_alone : (V : Facts) (d : Direction) (R : Renaming) (Z Z' : Frozen) (J : Jumping) {A B : Type 0} (W : List Pair → A → B → Type 0) (c : ℕ) (h : List Action) (j : List Pair) (s s' : State) (a : Action) (r : Result (Told ℕ) A) (q : Result ℕ B)
    → DoAlike V d R Z Z' J W c (a ∷ h) j s s' r q → DoAlike V d R Z Z' J W c h j s s' (after (did a ∷ []) r) q
step_alone V d R Z Z' J W c h j s s' a r q k good =
    subst (λ q. ResultsAlike V d R Z Z' J W c h j s s' (after (did a ∷ []) r) q) (after_nothing q)
    (alike_prefix V d R Z Z' J W c h j j s s' s s' (did a ∷ []) [] r q refl (grown_refl j s s') (k (subst V.Good (ap (λ w. onto w h) (told_after (did a ∷ []) r)) good)))

mark_kills : (p : Point) → KillsNone (shown p)
mark_kills p x k = ⊎_elim (λ e. e) (λ e. e) k

read_kills : (x : ℕ) → KillsNone (read_of x)
read_kills x y k = ⊎_elim (λ e. e) (λ e. e) k

pub ready_step : (V : Facts) (d : Direction) (R : Renaming) (Z Z' : Frozen) {c m n : ℕ} {h : List Action} {j : List Pair} {s s' : State} (a : Action) → KillsNone a → Ready V d R Z Z' c m n h j s s' → Ready V d R Z Z' c m n (a ∷ h) j s s'
ready_step V d R Z Z' {h = h} {j = j} {s = s} {s' = s'} a kills r = record { inv = states_step V R Z Z' a h j s s' kills r.inv; turns = r.turns; low = r.low; low' = r.low'; known = r.known }

pub ready_marked : (V : Facts) (d : Direction) (R : Renaming) (Z Z' : Frozen) {c m n : ℕ} {h : List Action} {j : List Pair} {s s' : State} (p : Point) → Ready V d R Z Z' c m n h j s s' → Ready V d R Z Z' c m n (shown p ∷ h) j s s'
ready_marked V d R Z Z' p r = ready_step V d R Z Z' (shown p) (mark_kills p) r

pub mark_walk : (p : Point) (t : Temporary) → Walk (order (mark p) (temporary_of (mark p))) (shown p ∷ []) walk.on
mark_walk p t = walk.both walk.nothing walk.acts

read_walk : (x : ℕ) → Walk (order (tree.read (at_point enters) false (own x)) (temporary_of (tree.read (at_point enters) false (own x)))) (read_of x ∷ []) walk.on
read_walk x = walk.acts

-- from where the text does these alone; what follows is told of its histories
module _ (P : Functions) (m : ℕ) (V : Facts) (d : Direction) (R : Renaming) (Z Z' : Frozen) (c n : ℕ) (j : List Pair) (s s' : State) (Out : List Action → Result (Told ℕ) Value → Type 0) (step : (a : Action) (h : List Action) (r : Result (Told ℕ) Value) → Out (a ∷ h) r → Out h (after (did a ∷ []) r)) where
  abbrev Here : List Action → Type 0
  Here h = Ready V d R Z Z' c m n h j s s'

  abbrev goes : Body → ℕ → Temporary → Result (Told ℕ) Value
  goes b i t = body followed P (below_level followed P m) b i t s

  reads_alone : (r : Stretch) (rest : Body) (i : ℕ) (t : Temporary) (xs : List ℕ) (h : List Action) → Here h → V.Comes (order_body (before (reading xs r) rest) i t) h → ((x : ℕ) → In x xs → Written h x)
      → ((w : List Action) → Here (put w h) → V.Comes (order_body (before r rest) i t) (put w h) → ((v : List Action) → Through r v → Through (reading xs r) (w ++ v)) → Out (put w h) (goes (before r rest) i t))
      → Out h (goes (before (reading xs r) rest) i t)
  reads_alone r rest i t [] h ready at there k = k [] ready at (λ v th. th)
  reads_alone r rest i t (x ∷ xs) h ready at there k =
      let b = ready.inv.slotted x (there x (inl refl)) in
      let set = ready.inv.written x b.0 b.1 (there x (inl refl)) in
      subst (λ q. Out h q) (sym (read_goes P (below_level followed P m) x b.0 set.0 (before (reading xs r) rest) i t s b.1 set.1 set.2))
      (step (read_of x) h (goes (before (reading xs r) rest) i t)
      (reads_alone r rest i t xs (read_of x ∷ h) (ready_step V d R Z Z' (read_of x) (read_kills x) ready) (next_at V at (read_of x ∷ [], refl, read_walk x)) (λ y k. inr ((λ e. e), there y (inr k)))
      (λ w ready1 at1 th. k (read_of x ∷ w) ready1 at1 (λ v f. through_run (read_walk x) (th v f)))))

  pub marks_alone : (r : Stretch) (rest : Body) (i : ℕ) (t : Temporary) (p : Point) (xs : List ℕ) (h : List Action) → Here h → V.Comes (order_body (before (with_mark p xs r) rest) i t) h → AreWritten V p xs
      → ((w : List Action) → Here (put w h) → V.Comes (order_body (before r rest) i t) (put w h) → ((v : List Action) → Through r v → Through (with_mark p xs r) (w ++ v)) → Out (put w h) (goes (before r rest) i t))
      → Out h (goes (before (with_mark p xs r) rest) i t)
  marks_alone r rest i t p xs h ready at written k =
      subst (λ q. Out h q) (sym (mark_goes P (below_level followed P m) p (before (reading xs r) rest) i t s))
      (step (shown p) h (goes (before (reading xs r) rest) i t)
      (reads_alone r rest i t xs (shown p ∷ h) (ready_marked V d R Z Z' p ready) (next_at V at (shown p ∷ [], refl, mark_walk p t)) (λ x k. inr ((λ e. e), written x k (before (reading xs r) rest) i t h at))
      (λ w ready1 at1 th. k (shown p ∷ w) ready1 at1 (λ v f. through_run (mark_walk p t) (th v f)))))

-- ---- the openings

pub marks_open_alike : (items : ℕ → ℕ) (P Q : Functions) (d : Direction) → OpensAlike items P Q d marks
marks_open_alike items P Q d = record {
  expression = λ n calls {V} {a} {J} {R} {e} o Z Z' m b c le e' part t t' h j s s' r at. expression_alike n V a J R e o Z Z' m b c le e' part t t' h j s s' r at;
  statements = λ n calls {V} {a} {J} {R} {Ra} {e} o Z Z' m b c le e' i i' t t' go h j s s' r at. statements_alike n V a J R Ra e o Z Z' m b c le e' i i' t t' go h j s s' r at;
}
  where
    expression_alike : (n : ℕ) (V : Facts) (a : ℕ) (J : Jumping) (R : Renaming) (e : Exp) {f f' : Exp → Exp} → MarksExpression f f' → (Z Z' : Frozen) (m b c : ℕ) → c ≤ b → (e' : Exp)
        → ((t t' : Temporary) (h : List Action) (j : List Pair) (s s' : State) → Ready V d R Z Z' b m n h j s s' → V.Comes (order e t) h → DoAlike V d R Z Z' J Given c h j s s' (value followed P (below_level followed P m) e t s) (value plainly Q (below_level plainly Q n) e' t' s'))
        → (t t' : Temporary) (h : List Action) (j : List Pair) (s s' : State) → Ready V d R Z Z' (a + b) m n h j s s' → V.Comes (order (f e) t) h → DoAlike V d R Z Z' J Given c h j s s' (value followed P (below_level followed P m) (f e) t s) (value plainly Q (below_level plainly Q n) (f' e') t' s')
    expression_alike n V a J R e (marks_expression p) Z Z' m b c le e' part t t' h j s s' r at =
        subst (λ q. DoAlike V d R Z Z' J Given c h j s s' q (value plainly Q (below_level plainly Q n) e' t' s')) (sym (block_goes P (below_level followed P m) p e t s))
        (step_alone V d R Z Z' J Given c h j s s' (shown p) _ _ (part t t' (shown p ∷ h) j s s' (ready_marked V d R Z Z' p (less V d R Z Z' b (omega arith) r)) (next_at V at (shown p ∷ [], refl, mark_walk p t))))
    expression_alike n V a J R e marks_value Z Z' m b c le e' part t t' h j s s' r at =
        passes_alike P V d R Z Z' J m c h j s s' e t (value plainly Q (below_level plainly Q n) e' t' s') (part (temporary_of e) t' h j s s' (less V d R Z Z' b (omega arith) r) (first_at V (first_at V at)))

    statements_alike : (n : ℕ) (V : Facts) (a : ℕ) (J : Jumping) (R Ra : Renaming) (e : Body) {f f' : Body → Body} → MarksStatements V R Ra f f' → (Z Z' : Frozen) (m b c : ℕ) → c ≤ b → (e' : Body) (i i' : ℕ) (t t' : Temporary)
        → ((h : List Action) (j : List Pair) (s s' : State) → Ready V d Ra Z Z' b m n h j s s' → V.Comes (order_body e i t) h → DoAlike V d Ra Z Z' J Given c h j s s' (body followed P (below_level followed P m) e i t s) (body plainly Q (below_level plainly Q n) e' i' t' s'))
        → (h : List Action) (j : List Pair) (s s' : State) → Ready V d R Z Z' (a + b) m n h j s s' → V.Comes (order_body (f e) i t) h → DoAlike V d R Z Z' J Given c h j s s' (body followed P (below_level followed P m) (f e) i t s) (body plainly Q (below_level plainly Q n) (f' e') i' t' s')
    statements_alike n V a J R Ra e (marks_statements p xs written) Z Z' m b c le e' i i' t t' go h j s s' r at =
        marks_alone P m V d R Z Z' b n j s s' (λ h r. DoAlike V d R Z Z' J Given c h j s s' r (body plainly Q (below_level plainly Q n) e' i' t' s')) (λ a h r k. step_alone V d R Z Z' J Given c h j s s' a r _ k)
        done e i t p xs h (less V d R Z Z' b (omega arith) r) at written (λ w ready at1 th. go (put w h) j s s' ready at1)
