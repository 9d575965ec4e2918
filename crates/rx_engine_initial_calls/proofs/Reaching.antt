-- Some walk goes through a run to each exit to whose mark a walk comes: the mark stands in the run's block alone, behind the mark where the run is
-- entered, and nothing that follows the run has it; so what was done there may be done behind the reads of the params, whatever follows.
use Rattle.std.proofs.Common.{◌≡◌, inl, inr, ℕ, suc, ◌≤◌, ◌==◌, if◌then◌else◌, Bool, true, false, List, [], ◌∷◌, ◌++◌, map, drop, refl, sym, ◌∙◌, subst, ap, eqb-true, true≢false, append_assoc, arith}
use Rattle.rx_typed.specs.Tree.{Temporary, Mark, Exp, jump, Body, ends, mark_of, temporary_of}
use Rattle.rx_lower_walks.specs.Matching.{Binding, bindings}
use Rattle.rx_lower_walks.specs.Actions.{Declare, Action, Subject, subject, does}
use Rattle.rx_lower_walks.specs.Actions as act
use Rattle.rx_lower_walks.specs.Orders.{Order, order, order_scrutinee, order_body, order_function}
use Rattle.rx_lower_walks.specs.Orders as orders
use Rattle.rx_lower_walks.specs.Walks.{Out, on, stopped, Walk, acts, both, first, halts, IsWalk, Among, here, there}
use Rattle.rx_lower_walks.specs.Walks as walk
use Rattle.rx_lower_walks.proofs.WalksFronts.{fronts}
use Rattle.rx_exits_plan.specs.Blocks.{Statement, begins, binds, statements, tail, before}
use Rattle.rx_exits_plan.specs.Blocks as block
use Rattle.rx_exits_plan.specs.Spots.{Around, Spot, a_block, a_jump, a_return, outermost, spots_of_function}
use Rattle.rx_exits_plan.specs.Runs.{Sits, in_front, inside, behind}
use Rattle.rx_exits_plan.specs.Points.{Exit, next, breaks, continues, returns, Point, enters, leaves, jump_exit, number}
use Rattle.rx_exits_plan.specs.Changed.{changed, changed_matched, changed_statement}
use Rattle.rx_exits_plan.specs.Marked.{mark, mark_then, shown, is_among, marking, using, entering, ended, ended_tail, marked_body, at_the_block, marked}
use Rattle.rx_exits_plan.specs.Unmarked.{is_mark}
use Rattle.rx_exits_plan.specs.Coming.{HasNoMark}
use Rattle.rx_exits_plan.specs.Asked.{Asked}
use Rattle.rx_exits_plan.specs.Plan.{Plan}
use Rattle.rx_exits_plan.specs.Unreachable.{SomeComes}
use Rattle.rx_exits_plan.proofs.Coming.{Covered, is_part, c_nothing, c_nowhere, c_act, c_then, c_leave}
use Rattle.rx_engine_simulation.specs.Histories.{Declares}
use Rattle.rx_engine_related.specs.OneSite.{blocks_at}
use Rattle.rx_engine_related.specs.Reads.{entry_read}
use Rattle.rx_engine_related.proofs.Bare.{NoMarks, no_marks}
use Rattle.rx_engine_related.proofs.Meeting.{Empty, Either, in_then, in_ending}
use Rattle.rx_engine_related.proofs.Sole.{of_beginning, anywhere_body, AllFree, all_free, take_free, drop_free}
use Rattle.rx_engine_related.proofs.Undeclared.{Undeclared, walk_away}
use Rattle.rx_engine_initial.specs.Matching.{Piece, doing, ending, fill, Runs, does_one}
use Rattle.rx_engine_initial.specs.Matching as matching
use Rattle.rx_engine_initial.specs.Fates.{LeavesBe}
use Rattle.rx_engine_initial.proofs.Ways.{same_self}
use Rattle.rx_engine_initial_calls.specs.GoneThrough.{all_read, IsGoneThrough}
use Rattle.rx_engine_initial_calls.specs.RunPieces.{declaring_pieces, binding_pieces, pieces_of, run_pieces}
use Rattle.rx_engine_initial_calls.proofs.Unnamed.{Untouched, walk_leaves}
use Rattle.rx_engine_initial_calls.proofs.GoingThrough.{body_filled, before_both, AllPieces, either_list, untouched_run, undeclared_run, not_begun, gone_through}
use Rattle.rx_engine_initial_calls.proofs.OtherActions.{Holds, is_other, is_known, None, Met, meets, never_met, taking_covered, beginning_covered, unmarked_covered, before_covered, Covers, covered, covered_matched}

-- ---- marks are told apart

not_entered : (e : Exit) → number enters ≡ number (leaves e) → ⊥
not_entered next p = omega (arith, p)
not_entered returns p = omega (arith, p)
not_entered (breaks l) p = omega (arith, p)
not_entered (continues l) p = omega (arith, p)

not_jump : (l : ℕ) (again : Bool) → number (leaves (jump_exit l again)) ≡ number (leaves next) → ⊥
not_jump l true p = omega (arith, p)
not_jump l false p = omega (arith, p)

not_return : number (leaves returns) ≡ number (leaves next) → ⊥
not_return p = omega (arith, p)

mark_covered : {X : Order → Type 0} (p q : Point) → (number p ≡ number q → ⊥) → Covered (Holds (shown q) X) (order (mark p) (temporary_of (mark p)))
mark_covered p q f = c_then c_nothing (is_part (is_other (shown p) (λ e. f (ap (λ (z : Action). z.node) e))))

-- in the run, no mark but the last is that of its end
run_covers : (ls : List ℕ) → Covers (Holds (shown (leaves next)) None) (marking ls) (λ s. Unit {0})
run_covers ls = record {
  at_block = λ c n was b d f q h k. k;
  at_jump = λ m l again d. by (is_among l ls) m l again d;
  at_return = λ e f d. c_then (f (temporary_of e)) (c_then (mark_covered (leaves returns) (leaves next) not_return) c_nothing);
}
  where
    by : (t : Bool) (m : Mark) (l : ℕ) (again : Bool) (d : Temporary) → Covered (Holds (shown (leaves next)) None) (order (if t then mark_then (leaves (jump_exit l again)) (jump m l again) else jump m l again) d)
    by true m l again d = c_then (mark_covered (leaves (jump_exit l again)) (leaves next) (not_jump l again)) c_leave
    by false m l again d = c_leave

-- ---- the run's block is met at one place

abbrev IsAt : ℕ → Spot → Type 0
IsAt n (a_block c m b) = (m == n) ≡ true
IsAt n (a_jump c m l again) = ⊥
IsAt n (a_return c m) = ⊥

one_more : (n : ℕ) (x : Spot) (l : List Spot) → IsAt n x → blocks_at n (x ∷ l) ≡ suc (blocks_at n l)
one_more n (a_block c m b) l p = ap (λ t. if t then suc (blocks_at n l) else blocks_at n l) p
one_more n (a_jump c m k again) l p = absurd p
one_more n (a_return c m) l p = absurd p

no_fewer : (n : ℕ) (x : Spot) (l : List Spot) → blocks_at n l ≤ blocks_at n (x ∷ l)
no_fewer n (a_block c m b) l = by (m == n)
  where
    by : (t : Bool) → blocks_at n l ≤ (if t then suc (blocks_at n l) else blocks_at n l)
    by true = omega arith
    by false = omega arith
no_fewer n (a_jump c m k again) l = omega arith
no_fewer n (a_return c m) l = omega arith

one_there : (n : ℕ) {y : Spot} (l : List Spot) → Among y l → IsAt n y → 1 ≤ blocks_at n l
one_there n [] i q = elim i [ ]
one_there n {y = y} (_ ∷ l) here q = let e = one_more n y l q in omega (arith, e)
one_there n (x ∷ l) (there i) q = let e = no_fewer n x l in let h = one_there n l i q in omega (arith, e, h)

one_spot : (n : ℕ) {x y : Spot} (l : List Spot) → Among x l → Among y l → IsAt n x → IsAt n y → blocks_at n l ≤ 1 → x ≡ y
one_spot n [] i j p q h = elim i [ ]
one_spot n (_ ∷ l) here here p q h = refl
one_spot n {x = x} (_ ∷ l) here (there j) p q h = let e = one_more n x l p in let k = one_there n l j q in absurd (omega (arith, e, k, h))
one_spot n {y = y} (_ ∷ l) (there i) here p q h = let e = one_more n y l q in let k = one_there n l i p in absurd (omega (arith, e, k, h))
one_spot n (s ∷ l) (there i) (there j) p q h = let e = no_fewer n s l in one_spot n l i j p q (omega (arith, e, h))

body_same : {c d : Around} {n : ℕ} {b e : Body} → a_block c n b ≡ a_block d n e → b ≡ e
body_same q = cc

same_block : (n : ℕ) (c d : Around) (b e : Body) (l : List Spot) → Among (a_block c n b) l → Among (a_block d n e) l → blocks_at n l ≤ 1 → b ≡ e
same_block n c d b e l i j h = body_same (one_spot n l i j (same_self n) (same_self n) h)

abbrev pub IsHome : Asked → Spot → Type 0
IsHome A (a_block c n b) = n ≡ A.run.block → b ≡ A.home.body
IsHome A (a_jump c n l again) = Unit {0}
IsHome A (a_return c n) = Unit {0}

pub is_home : (A : Asked) → Sits A.function A.run A.home → blocks_at A.run.block (spots_of_function A.function) ≤ 1 → (x : Spot) → Among x (spots_of_function A.function) → IsHome A x
is_home A sits few (a_block c n b) i = λ e. same_block A.run.block c A.home.around b A.home.body (spots_of_function A.function) (subst (λ m. Among (a_block c m b) (spots_of_function A.function)) e i) sits.block few
is_home A sits few (a_jump c n l again) i = tt
is_home A sits few (a_return c n) i = tt

-- ---- in it

abbrev pub within : Asked → List Statement
within A = map (changed_statement (marking A.home.around.loops)) (inside A.run A.home.body)

abbrev pub rest_of : Asked → Body
rest_of A = before (behind A.run A.home.body) (ends (ended_tail A.run.tail A.run.block A.home.around.loops (tail A.home.body)))

abbrev pub from_entry : Asked → Body
from_entry A = before (within A) (before (ended A.run.tail) (rest_of A))

-- the run and what follows it in its block
pub record Entered (A : Asked) (s : Order) : Type 0 where
  pub to : Temporary
  pub was_to : Temporary
  pub unmarked : NoMarks (order_body A.home.body A.run.block was_to)
  pub is : s ≡ order_body (from_entry A) A.run.block to

home_covered : (A : Asked) (e : Exit) (d f : Temporary) → NoMarks (order_body A.home.body A.run.block f)
    → Covered (Holds (shown (leaves e)) (Entered A)) (order_body (marked_body A.run A.home.around.loops [] A.home.body) A.run.block d)
home_covered A e d f h =
    before_covered (in_front A.run A.home.body) (before (entering []) (from_entry A)) A.run.block d (take_free A.run.first (statements A.home.body) (all_free A.home.body A.run.block f h).0)
    (c_then (mark_covered enters (leaves e) (not_entered e)) (is_part (is_known (record { to = d; was_to = f; unmarked = h; is = refl }))))

block_covers : (A : Asked) (e : Exit) → Covers (Holds (shown (leaves e)) (Entered A)) (at_the_block A.run A.home.around.loops []) (IsHome A)
block_covers A e = record {
  at_block = λ c n was b d f q h k. by (n == A.run.block) n was b d f refl q h k;
  at_jump = λ m l again d. c_leave;
  at_return = λ v f d. f d;
}
  where
    by : (t : Bool) (n : ℕ) (was b : Body) (d f : Temporary) → (n == A.run.block) ≡ t → (n ≡ A.run.block → was ≡ A.home.body) → NoMarks (order_body was n f)
        → Covered (Holds (shown (leaves e)) (Entered A)) (order_body b n d) → Covered (Holds (shown (leaves e)) (Entered A)) (order_body (if t then marked_body A.run A.home.around.loops [] was else b) n d)
    by true n was b d f g q h k =
        let i = eqb-true n A.run.block g in
        subst (λ m. Covered (Holds (shown (leaves e)) (Entered A)) (order_body (marked_body A.run A.home.around.loops [] was) m d)) (sym i)
        (subst (λ w. Covered (Holds (shown (leaves e)) (Entered A)) (order_body (marked_body A.run A.home.around.loops [] w) A.run.block d)) (sym (q i))
        (home_covered A e d f (subst (λ w. NoMarks (order_body w A.run.block f)) (q i) (subst (λ m. NoMarks (order_body was m f)) i h))))
    by false n was b d f g q h k = k

function_covered : (A : Asked) → HasNoMark (order_function A.function) → Sits A.function A.run A.home → blocks_at A.run.block (spots_of_function A.function) ≤ 1 → (e : Exit)
    → Covered (Holds (shown (leaves e)) (Entered A)) (order_function (marked A.run A.home.around.loops [] A.function))
function_covered A h sits few e =
    let f = A.function in
    let C = at_the_block A.run A.home.around.loops [] in
    beginning_covered f.params (mark_of (changed C f.body)).node (order (changed C f.body) (temporary_of (changed C f.body)))
    (covered (Holds (shown (leaves e)) (Entered A)) C (IsHome A) (block_covers A e) f.body (outermost f) (temporary_of (changed C f.body)) (temporary_of f.body) (is_home A sits few)
    (of_beginning f.params (mark_of f.body).node (order f.body (temporary_of f.body)) (no_marks (order_function f) h.none)))

pub comes_there : (A : Asked) → HasNoMark (order_function A.function) → Sits A.function A.run A.home → blocks_at A.run.block (spots_of_function A.function) ≤ 1 → (e : Exit) → SomeComes A (leaves e)
    → Met (shown (leaves e)) (Entered A)
comes_there A h sits few e (w, c) = by c
  where
    by : IsWalk (marked A.run A.home.around.loops [] A.function) (w ++ shown (leaves e) ∷ []) → Met (shown (leaves e)) (Entered A)
    by (rest, o, x) = meets refl (function_covered A h sits few e) w rest o
        (subst (λ l. Walk (order_function (marked A.run A.home.around.loops [] A.function)) l o) (append_assoc w (shown (leaves e) ∷ []) rest) x)

tail_covered : {P : Order → Type 0} (t : Bool) (n : ℕ) (ls : List ℕ) (e : Exp) (d : Temporary) → t ≡ false → NoMarks (order e d) → Covered P (order (ended_tail t n ls e) d)
tail_covered true n ls e d g h = absurd (true≢false g)
tail_covered false n ls e d g h = unmarked_covered (order e d) h

rest_covered : {P : Order → Type 0} (A : Asked) (d f : Temporary) → A.run.tail ≡ false → NoMarks (order_body A.home.body A.run.block f) → Covered P (order_body (rest_of A) A.run.block d)
rest_covered A d f short h =
    let z = all_free A.home.body A.run.block d (anywhere_body A.home.body A.run.block d f h) in
    before_covered (behind A.run A.home.body) (ends (ended_tail A.run.tail A.run.block A.home.around.loops (tail A.home.body))) A.run.block d
    (drop_free A.run.count (drop A.run.first (statements A.home.body)) (drop_free A.run.first (statements A.home.body) z.0))
    (tail_covered A.run.tail A.run.block A.home.around.loops (tail A.home.body) d short z.1)

in_pieces : (A : Asked) (d : Temporary) → order_body (from_entry A) A.run.block d ≡ fill (pieces_of A.run.block (within A ++ ended A.run.tail)) (order_body (rest_of A) A.run.block d)
in_pieces A d = ap (λ b. order_body b A.run.block d) (before_both (within A) (ended A.run.tail) (rest_of A)) ∙ body_filled A.run.block (within A ++ ended A.run.tail) (rest_of A) d

-- ---- walks through pieces to a mark, which stands in no part that follows

module _ (a : Action) (m : is_mark a.act ≡ true) where
  abbrev Never : Order → Type 0
  Never s = (v us : List Action) (o : Out) → Walk s (v ++ a ∷ us) o → ⊥

  shortened : (s : Order) (v us : List Action) (o : Out) → Walk s (v ++ a ∷ us) o → Walk s (v ++ a ∷ []) stopped
  shortened s v us o w = fronts w (v ++ a ∷ []) us (sym (append_assoc v (a ∷ []) us))

  in_front_of : (v f i : List Action) → v ≡ f ++ i → v ++ a ∷ [] ≡ f ++ (i ++ a ∷ [])
  in_front_of v f i e = ap (λ l. l ++ a ∷ []) e ∙ append_assoc f i (a ∷ [])

  at_front : (v f i : List Action) → v ≡ f ++ i → f ≡ [] → i ++ a ∷ [] ≡ v ++ a ∷ []
  at_front v f i e g = ap (λ l. l ++ a ∷ []) (sym (e ∙ ap (λ l. l ++ i) g))

  -- so what follows may be anything
  to_it : (K : List Piece) (r q : Order) → Never r → (v us : List Action) (o : Out) → Walk (fill K r) (v ++ a ∷ us) o → Walk (fill K q) (v ++ a ∷ []) stopped
  to_it [] r q n v us o w = absurd (n v us o w)
  to_it (doing s ∷ K) r q n v us o w = by (in_then a m 0 false w v us refl) (λ x y p k. to_it K r q n x y p k)
    where
      by : Either a m 0 false (Empty a m 0 false) (λ f. Walk s f on) s (fill K r) (orders.then s (fill K r)) v us o
          → ((x y : List Action) (p : Out) → Walk (fill K r) (x ++ a ∷ y) p → Walk (fill K q) (x ++ a ∷ []) stopped) → Walk (orders.then s (fill K q)) (v ++ a ∷ []) stopped
      by (inl z) f = subst (λ l. Walk (orders.then s (fill K q)) l stopped) (at_front v z.front z.inner z.before z.is_front) (first tt (shortened s z.inner z.later z.out z.walk))
      by (inr z) f = subst (λ l. Walk (orders.then s (fill K q)) l stopped) (sym (in_front_of v z.front z.inner z.before)) (both z.is_front (f z.inner z.later z.out z.walk))
  to_it (ending n x ∷ K) r q g v us o w =
      let z = in_ending a m 0 false w v us refl in
      subst (λ l. Walk (orders.ending n x (fill K q)) l stopped) (at_front v z.front z.inner z.before z.is_front) (halts (to_it K r q g z.inner z.later z.out z.walk))

  -- what was done there is done in the pieces
  done_by : (P : Order → Type 0) (B : Action → Type 0) → ((s : Order) (u : List Action) (o : Out) → P s → Walk s u o → (b : Action) → Among b u → B b)
      → (K : List Piece) (r : Order) → Never r → AllPieces P K → (v us : List Action) (o : Out) → Walk (fill K r) (v ++ a ∷ us) o → (b : Action) → Among b (v ++ a ∷ []) → B b
  done_by P B f [] r n h v us o w b i = absurd (n v us o w)
  done_by P B f (doing s ∷ K) r n h v us o w b i = by (in_then a m 0 false w v us refl) (λ x y p k. done_by P B f K r n h.1 x y p k)
    where
      by : Either a m 0 false (Empty a m 0 false) (λ g. Walk s g on) s (fill K r) (orders.then s (fill K r)) v us o
          → ((x y : List Action) (p : Out) → Walk (fill K r) (x ++ a ∷ y) p → (c : Action) → Among c (x ++ a ∷ []) → B c) → B b
      by (inl z) g = f s (z.inner ++ a ∷ []) stopped h.0 (shortened s z.inner z.later z.out z.walk) b (subst (λ l. Among b l) (sym (at_front v z.front z.inner z.before z.is_front)) i)
      by (inr z) g = either_list z.front (z.inner ++ a ∷ []) (f s z.front on h.0 z.is_front) (g z.inner z.later z.out z.walk) b (subst (λ l. Among b l) (in_front_of v z.front z.inner z.before) i)
  done_by P B f (ending n x ∷ K) r g h v us o w b i =
      let z = in_ending a m 0 false w v us refl in
      done_by P B f K r g h z.inner z.later z.out z.walk b (subst (λ l. Among b l) (sym (at_front v z.front z.inner z.before z.is_front)) i)

  -- ---- past pieces that haven't it

  record Beyond (K J : List Piece) (r : Order) : Type 0 where
    list : List Action
    rest : List Action
    out : Out
    walk : Walk (fill J r) (list ++ a ∷ rest) out
    runs : (u : List Action) → Runs J u → (w : List Action) × Runs K w

  abbrev Past : List Piece → List Piece → Type 0
  Past K J = (r : Order) (v us : List Action) (o : Out) → Walk (fill K r) (v ++ a ∷ us) o → Beyond K J r

  past_none : (K : List Piece) → Past K K
  past_none K r v us o w = record { list = v; rest = us; out = o; walk = w; runs = λ u h. (u, h) }

  past_one : (s : Order) (K J : List Piece) → Covered (Holds a None) s → Past K J → Past (doing s ∷ K) J
  past_one s K J c p r v us o w = by (in_then a m 0 false w v us refl)
    where
      by : Either a m 0 false (Empty a m 0 false) (λ f. Walk s f on) s (fill K r) (orders.then s (fill K r)) v us o → Beyond (doing s ∷ K) J r
      by (inl z) = absurd (never_met m c z.inner z.later z.out z.walk)
      by (inr z) = let y = p r z.inner z.later z.out z.walk in
          record { list = y.list; rest = y.rest; out = y.out; walk = y.walk; runs = λ u h. let x = y.runs u h in (z.front ++ x.0, does_one z.is_front x.1) }

  past_ending : (n x : ℕ) (K J : List Piece) → Past K J → Past (ending n x ∷ K) J
  past_ending n x K J p r v us o w =
      let z = in_ending a m 0 false w v us refl in
      let y = p r z.inner z.later z.out z.walk in
      record { list = y.list; rest = y.rest; out = y.out; walk = y.walk; runs = λ u h. let t = y.runs u h in (t.0, matching.begins t.1) }

  past_declared : (n s : ℕ) (xs : List ℕ) (K J : List Piece) → Past K J → Past (declaring_pieces n s xs K) J
  past_declared n s [] K J p = p
  past_declared n s (x ∷ xs) K J p =
      past_one (orders.act (does s (Declare x))) (ending n x ∷ declaring_pieces n s xs K) J (c_act refl) (past_ending n x (declaring_pieces n s xs K) J (past_declared n s xs K J p))

  past_bound : (n : ℕ) (S : Subject) (bs : List Binding) (K J : List Piece) → Past K J → Past (binding_pieces n S bs K) J
  past_bound n S [] K J p = p
  past_bound n S (b ∷ bs) K J p =
      let R = ending n b.variable ∷ binding_pieces n S bs K in
      let W = doing (orders.act (act.written S b)) ∷ R in
      let D = doing (orders.act (act.declared b)) ∷ W in
      past_one (orders.perhaps b.node (act.taken S b)) D J (taking_covered b.node b.mode S b.steps _) (past_one (orders.act (act.declared b)) W J (c_act refl)
      (past_one (orders.act (act.written S b)) R J (c_act refl) (past_ending n b.variable (binding_pieces n S bs K) J (past_bound n S bs K J p))))

abbrev at_end : Action
at_end = shown (leaves next)

nowhere_around : Around
nowhere_around = record { scope = []; loops = [] }

past_run : (ls : List ℕ) (n : ℕ) (ss ts : List Statement) → AllFree ss → Past at_end refl (pieces_of n (map (changed_statement (marking ls)) ss ++ ts)) (pieces_of n ts)
past_run ls n [] ts h = past_none at_end refl (pieces_of n ts)
past_run ls n (block.does e ∷ ss) ts h =
    past_one at_end refl (order (changed (marking ls) e) (temporary_of (changed (marking ls) e))) (pieces_of n (map (changed_statement (marking ls)) ss ++ ts)) (pieces_of n ts)
    (covered (Holds at_end None) (marking ls) (λ s. Unit {0}) (run_covers ls) e nowhere_around (temporary_of (changed (marking ls) e)) (temporary_of e) (λ x i. tt) h.0) (past_run ls n ss ts h.1)
past_run ls n (begins s xs ∷ ss) ts h = past_declared at_end refl n s xs (pieces_of n (map (changed_statement (marking ls)) ss ++ ts)) (pieces_of n ts) (past_run ls n ss ts h.1)
past_run ls n (binds s p c ∷ ss) ts h =
    past_one at_end refl (order_scrutinee (changed_matched (marking ls) c)) (binding_pieces n (subject (changed_matched (marking ls) c)) (bindings [] p) (pieces_of n (map (changed_statement (marking ls)) ss ++ ts))) (pieces_of n ts)
    (covered_matched (Holds at_end None) (marking ls) (λ s. Unit {0}) (run_covers ls) c nowhere_around (λ x i. tt) h.0)
    (past_bound at_end refl n (subject (changed_matched (marking ls) c)) (bindings [] p) (pieces_of n (map (changed_statement (marking ls)) ss ++ ts)) (pieces_of n ts) (past_run ls n ss ts h.1))

-- ---- where the run is entered

pub reads_both : (xs : List ℕ) (v w : List Action) → all_read xs (v ++ w) ≡ all_read xs v ++ w
reads_both [] v w = refl
reads_both (x ∷ xs) v w = ap (λ l. entry_read x ∷ l) (reads_both xs v w)

read_walk : (n : ℕ) (xs : List ℕ) (ts : List Statement) (q : Order) (v : List Action) (o : Out) → Walk (fill (pieces_of n ts) q) v o → Walk (fill (pieces_of n (map using xs ++ ts)) q) (all_read xs v) o
read_walk n [] ts q v o w = w
read_walk n (x ∷ xs) ts q v o w = both {us = entry_read x ∷ []} {vs = all_read xs v} acts (read_walk n xs ts q v o w)

read_runs : (n : ℕ) (xs : List ℕ) (ts : List Statement) (v : List Action) → Runs (pieces_of n ts) v → Runs (pieces_of n (map using xs ++ ts)) (all_read xs v)
read_runs n [] ts v r = r
read_runs n (x ∷ xs) ts v r = does_one {us = entry_read x ∷ []} {vs = all_read xs v} acts (read_runs n xs ts v r)

mark_walk : (p : Point) → Walk (order (mark p) (temporary_of (mark p))) (shown p ∷ []) on
mark_walk p = both {us = []} {vs = shown p ∷ []} walk.nothing acts

-- ---- the walks

module _ (A : Asked) (k : Plan) (short : A.run.tail ≡ false) where
  abbrev Pieces : List Piece
  Pieces = pieces_of A.run.block (within A ++ ended A.run.tail)

  -- a walk through the run to a mark, from where it is entered
  entered_walk : (a : Action) (m : is_mark a.act ≡ true) (z : Met a (Entered A)) → Walk (fill Pieces (order_body (rest_of A) A.run.block z.is.to)) (z.front ++ a ∷ []) stopped
  entered_walk a m z = subst (λ s. Walk s (z.front ++ a ∷ []) stopped) (z.is.is ∙ in_pieces A z.is.to) z.walk

  rest_never : (a : Action) (m : is_mark a.act ≡ true) (z : Met a (Entered A)) → Never a m (order_body (rest_of A) A.run.block z.is.to)
  rest_never a m z = never_met m (rest_covered A z.is.to z.is.was_to short z.is.unmarked)

  -- it is done behind the reads of the params, whatever follows
  pub up_to : (e : Exit) (z : Met (shown (leaves e)) (Entered A)) (r : Order) → Walk (fill (run_pieces A k) r) (shown enters ∷ (all_read k.params z.front ++ shown (leaves e) ∷ [])) stopped
  up_to e z r = subst (λ l. Walk (fill (run_pieces A k) r) (shown enters ∷ l) stopped) (reads_both k.params z.front (shown (leaves e) ∷ []))
      (both {us = shown enters ∷ []} {vs = all_read k.params (z.front ++ shown (leaves e) ∷ [])} (mark_walk enters)
      (read_walk A.run.block k.params (within A ++ ended A.run.tail) r (z.front ++ shown (leaves e) ∷ []) stopped
      (to_it (shown (leaves e)) refl Pieces (order_body (rest_of A) A.run.block z.is.to) r (rest_never (shown (leaves e)) refl z) z.front [] stopped (entered_walk (shown (leaves e)) refl z))))

  pub through : (e : Exit) → Met (shown (leaves e)) (Entered A) → (q : Order) → (u : List Action) × Walk (fill (run_pieces A k) q) u stopped × IsGoneThrough A k e u
  through e z q = (
    shown enters ∷ (all_read k.params z.front ++ shown (leaves e) ∷ []),
    up_to e z q,
    record {
      entered = (z.front ++ shown (leaves e) ∷ [], ap (λ l. shown enters ∷ l) (sym (reads_both k.params z.front (shown (leaves e) ∷ []))));
      inner = shown enters ∷ all_read k.params z.front;
      ends = [];
      left = refl;
      ended = λ b i. elim i [ ];
      named = λ b i y f. done_by (shown (leaves e)) refl (λ s. Untouched y s) (λ c. LeavesBe c.act y) (λ s v o h w c j. walk_leaves y h w c j) (run_pieces A k) orders.nowhere (never_met refl c_nowhere)
          (untouched_run A k y f) (shown enters ∷ all_read k.params z.front) [] stopped (up_to e z orders.nowhere) b i;
      declared = λ b i y f. not_begun y b.act (done_by (shown (leaves e)) refl (λ s. Undeclared y s) (λ c. Declares c.act y → ⊥) (λ s v o h w c j. walk_away y h w c j) (run_pieces A k) orders.nowhere (never_met refl c_nowhere)
          (undeclared_run A k y f) (shown enters ∷ all_read k.params z.front) [] stopped (up_to e z orders.nowhere) b i);
    },
  )

  to_end : Met at_end (Entered A) → (u : List Action) × Runs (run_pieces A k) u × IsGoneThrough A k next u
  to_end z =
      let y = past_run A.home.around.loops A.run.block (inside A.run A.home.body) (ended A.run.tail) inside_free (order_body (rest_of A) A.run.block z.is.to) z.front [] stopped (entered_walk at_end refl z) in
      let x = y.runs (at_end ∷ []) last_run in
      let r = does_one {us = shown enters ∷ []} {vs = all_read k.params x.0} (mark_walk enters) (read_runs A.run.block k.params (within A ++ ended A.run.tail) x.0 x.1) in
      (shown enters ∷ all_read k.params x.0, r, gone_through A k short (shown enters ∷ all_read k.params x.0) r)
    where
      inside_free : AllFree (inside A.run A.home.body)
      inside_free = take_free A.run.count (drop A.run.first (statements A.home.body)) (drop_free A.run.first (statements A.home.body) (all_free A.home.body A.run.block z.is.was_to z.is.unmarked).0)

      last_run : Runs (pieces_of A.run.block (ended A.run.tail)) (at_end ∷ [])
      last_run = subst (λ t. Runs (pieces_of A.run.block (ended t)) (at_end ∷ [])) (sym short) (does_one {us = at_end ∷ []} {vs = []} (mark_walk (leaves next)) matching.done)

pub some_goes_through : (A : Asked) (k : Plan) → A.run.tail ≡ false → HasNoMark (order_function A.function) → Sits A.function A.run A.home → blocks_at A.run.block (spots_of_function A.function) ≤ 1
    → (e : Exit) → SomeComes A (leaves e) → (q : Order) → (u : List Action) × Walk (fill (run_pieces A k) q) u stopped × IsGoneThrough A k e u
some_goes_through A k short h sits few e c q = through A k short e (comes_there A h sits few e c) q

pub some_goes_to_end : (A : Asked) (k : Plan) → A.run.tail ≡ false → HasNoMark (order_function A.function) → Sits A.function A.run A.home → blocks_at A.run.block (spots_of_function A.function) ≤ 1
    → SomeComes A (leaves next) → (u : List Action) × Runs (run_pieces A k) u × IsGoneThrough A k next u
some_goes_to_end A k short h sits few c = to_end A k short (comes_there A h sits few next c)
