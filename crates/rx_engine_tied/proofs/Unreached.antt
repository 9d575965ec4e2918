-- No walk comes to the end of a run with its block's tail of which some part never goes on: behind that part the mark of the end is held by no
-- walk, and it stands nowhere else.
use Rattle.std.proofs.Common.{◌≡◌, ℕ, zero, suc, ◌==◌, Bool, true, false, if◌then◌else◌, List, [], ◌∷◌, ◌++◌, map, take, drop, refl, sym, ap, ◌∙◌, subst, ◌⊎◌, inl, inr, arith}
use Rattle.std.proofs.lemmas.Bool.Decides.{Decides-eqb}
use Rattle.rx_typed.specs.Tree.{Temporary, Mark, Exp, read, borrow, share, build, unit, lazily, assign, update, call, input, print, block, choose, loop, jump, give, Body, ends, runs, declares, lets, Function, mark_of, temporary_of}
use Rattle.rx_lower_walks.specs.Matching.{bindings}
use Rattle.rx_lower_walks.specs.Actions.{Action, subject}
use Rattle.rx_lower_walks.specs.Orders.{exit, Order, order, order_body, order_function, order_scrutinee}
use Rattle.rx_lower_walks.specs.Orders as o
use Rattle.rx_lower_walks.specs.Walks.{Among, here}
use Rattle.rx_exits_plan.specs.Blocks.{before, begins, binds, bound, does as runs_it, Statement, statements, tail, written_tail}
use Rattle.rx_exits_plan.specs.Changed.{changed, changed_matched, changed_statement}
use Rattle.rx_exits_plan.specs.Marked.{at_the_block, ended, ended_tail, ended_value, entering, is_among, mark, mark_then, marked, marked_body, marking, shown, then_mark}
use Rattle.rx_exits_plan.specs.Points.{jump_exit, enters, leaves, next, number, Point, returns}
use Rattle.rx_exits_plan.specs.Runs.{behind, in_front, inside, Run}
use Rattle.rx_exits_plan.specs.Spots.{a_block, a_return, Around, outermost, Spot, spots, spots_matched, spots_of, spots_of_function, with_variables}
use Rattle.rx_exits_plan.specs.Exits.{past}
use Rattle.rx_exits_plan.specs.Asked.{Asked}
use Rattle.rx_exits_plan.specs.Unreachable.{NoneComes}
use Rattle.rx_exits_plan.proofs.Marks.{inside_keeps}
use Rattle.rx_exits_plan.proofs.Trees as alikes
use Rattle.rx_hoist_meant.proofs.Patterns.{among_left, among_right}
use Rattle.rx_engine_related.specs.Never.{does_later, does_never, declares_later, lets_later, lets_never, NeverOn, NeverPassed}
use Rattle.rx_engine_related.specs.Stretched.{stretch_of}
use Rattle.rx_engine_related.proofs.Bare.{NoMarks}
use Rattle.rx_engine_related.proofs.Sole.{of_beginning as beginning_bare, of_binding as binding_bare, of_declaring as declaring_bare}
use Rattle.rx_engine_tied.proofs.Marked.{past_taken}
use Rattle.rx_engine_tied.proofs.Sealed.{Never, never_still, s_before, s_then, Sealed, sealed_off}
use Rattle.rx_engine_tied.proofs.SealedTrees as trees
use Rattle.rx_engine_tied.proofs.SealedTrees.{Sealing}
use Rattle.rx_engine_tied.proofs.Unending.{exp_never, matched_never}

abbrev m : Action
m = shown (leaves next)

abbrev S : Order → Type 0
S s = Sealed m s

-- ---- marks of other points

not_entry : number enters ≡ number (leaves next) → ⊥
not_entry e = omega (arith, e)

not_jump : (l : ℕ) (b : Bool) → number (leaves (jump_exit l b)) ≡ number (leaves next) → ⊥
not_jump l true e = omega (arith, e)
not_jump l false e = omega (arith, e)

not_given : number (leaves returns) ≡ number (leaves next) → ⊥
not_given e = omega (arith, e)

point_sealed : (p : Point) → (number p ≡ number (leaves next) → ⊥) → S (order (mark p) (temporary_of (mark p)))
point_sealed p d = s_then (trees.nothing_sealed m refl) (trees.act_sealed m refl (shown p) (λ e. d (ap (λ (b : Action). b.node) e)))

behind_sealed : (p : Point) (e : Exp) → (number p ≡ number (leaves next) → ⊥) → ((d : Temporary) → S (order e d)) → (d : Temporary) → S (order (then_mark p e) d)
behind_sealed p e f g d = s_then (g (temporary_of e)) (s_then (point_sealed p f) (trees.nothing_sealed m refl))

module _ (L : List Spot) where
  abbrev Within : List Spot → Type 0
  Within ss = (s : Spot) → Among s ss → Among s L

  -- ---- in the run

  run_sealing : (ls : List ℕ) → Sealing m refl L (marking ls)
  run_sealing ls = record {
    at_block = λ a n was b d f i w h p. p d;
    at_jump = λ k j g d. by k j g d (is_among j ls);
    at_return = λ e p d. behind_sealed (leaves returns) e not_given p d;
  }
    where
      by : (k : Mark) (j : ℕ) (g : Bool) (d : Temporary) → (b : Bool) → S (order (if b then mark_then (leaves (jump_exit j g)) (jump k j g) else jump k j g) d)
      by k j g d true = s_then (point_sealed (leaves (jump_exit j g)) (not_jump j g)) (trees.leave_sealed m refl (exit k.node j g))
      by k j g d false = trees.leave_sealed m refl (exit k.node j g)

  -- ---- statements

  abbrev Ready : Around → List Statement → Type 0
  Ready a [] = Unit {0}
  Ready a (runs_it e ∷ ss) = (NoMarks (order e (temporary_of e)) × Within (spots a e)) × Ready a ss
  Ready a (begins s xs ∷ ss) = Ready (with_variables xs a) ss
  Ready a (binds s p c ∷ ss) = (NoMarks (order_scrutinee c) × Within (spots_matched a c)) × Ready (with_variables (bound p) a) ss

  ready_taken : (i : ℕ) (ss : List Statement) (a : Around) → Ready a ss → Ready a (take i ss)
  ready_taken zero ss a r = tt
  ready_taken (suc i) [] a r = tt
  ready_taken (suc i) (runs_it e ∷ ss) a r = (r.0, ready_taken i ss a r.1)
  ready_taken (suc i) (begins s xs ∷ ss) a r = ready_taken i ss (with_variables xs a) r
  ready_taken (suc i) (binds s p c ∷ ss) a r = (r.0, ready_taken i ss (with_variables (bound p) a) r.1)

  ready_dropped : (i : ℕ) (ss : List Statement) (a : Around) → Ready a ss → Ready (past (take i ss) a) (drop i ss)
  ready_dropped zero ss a r = r
  ready_dropped (suc i) [] a r = tt
  ready_dropped (suc i) (runs_it e ∷ ss) a r = ready_dropped i ss a r.1
  ready_dropped (suc i) (begins s xs ∷ ss) a r = ready_dropped i ss (with_variables xs a) r
  ready_dropped (suc i) (binds s p c ∷ ss) a r = ready_dropped i ss (with_variables (bound p) a) r.1

  record Known (a : Around) (b : Body) (f : Temporary) : Type 0 where
    row : Ready a (statements b)
    bare : NoMarks (order (tail b) f)
    stands : Within (spots (past (statements b) a) (tail b))

  known : (b : Body) (a : Around) (n : ℕ) (f : Temporary) → NoMarks (order_body b n f) → Within (spots_of a b) → Known a b f
  known (ends e) a n f i w = record { row = tt; bare = i; stands = w }
  known (runs e b) a n f i w =
      let k = known b a n f i.1 (λ s j. w s (among_right (spots a e) (spots_of a b) j)) in
      record { row = ((i.0, λ s j. w s (among_left (spots a e) (spots_of a b) j)), k.row); bare = k.bare; stands = k.stands }
  known (declares s xs b) a n f i w =
      let k = known b (with_variables xs a) n f (declaring_bare s xs n (order_body b n f) i) w in
      record { row = k.row; bare = k.bare; stands = k.stands }
  known (lets s p c b) a n f i w =
      let k = known b (with_variables (bound p) a) n f (binding_bare (subject c) (bindings [] p) n (order_body b n f) i.1) (λ z j. w z (among_right (spots_matched a c) (spots_of (with_variables (bound p) a) b) j)) in
      record { row = ((i.0, λ z j. w z (among_left (spots_matched a c) (spots_of (with_variables (bound p) a) b) j)), k.row); bare = k.bare; stands = k.stands }

  -- those of the text in front of what is sealed
  text_before : (ss : List Statement) (a : Around) → Ready a ss → (b : Body) (n : ℕ) (d : Temporary) → S (order_body b n d) → S (order_body (before ss b) n d)
  text_before [] a r b n d p = p
  text_before (runs_it e ∷ ss) a r b n d p = s_then (trees.bare_sealed m refl r.0.0) (text_before ss a r.1 b n d p)
  text_before (begins s xs ∷ ss) a r b n d p = trees.declaring_sealed m refl s xs n (text_before ss (with_variables xs a) r b n d p)
  text_before (binds s q c ∷ ss) a r b n d p = s_then (trees.bare_sealed m refl r.0.0) (trees.binding_sealed m refl (subject c) (bindings [] q) n (text_before ss (with_variables (bound q) a) r.1 b n d p))

  -- those of the run, of which one never goes on, or in front of what is sealed
  module _ (ls : List ℕ) where
    own_never : {e : Exp} → NeverOn e → (d : Temporary) → Never (order (changed (marking ls) e) d)
    own_never {e} h d = never_still (alikes.changed_alike (marking ls) (inside_keeps ls) e d (temporary_of e)) (exp_never h (temporary_of e))

    run_before : (ss : List Statement) (a : Around) → Ready a ss → (b : Body) (n : ℕ) (d : Temporary) → S (order_body b n d) ⊎ NeverPassed (stretch_of ss) → S (order_body (before (map (changed_statement (marking ls)) ss) b) n d)
    run_before [] a r b n d (inl p) = p
    run_before [] a r b n d (inr h) = absurd (elim h [ ])
    run_before (runs_it e ∷ ss) a r b n d (inl p) = s_then (trees.exp_sealed m refl L (marking ls) (run_sealing ls) e a (temporary_of (changed (marking ls) e)) (temporary_of e) r.0.0 r.0.1) (run_before ss a r.1 b n d (inl p))
    run_before (runs_it e ∷ ss) a r b n d (inr (does_never h)) = s_before (own_never h (temporary_of (changed (marking ls) e))) (trees.exp_sealed m refl L (marking ls) (run_sealing ls) e a (temporary_of (changed (marking ls) e)) (temporary_of e) r.0.0 r.0.1)
    run_before (runs_it e ∷ ss) a r b n d (inr (does_later h)) = s_then (trees.exp_sealed m refl L (marking ls) (run_sealing ls) e a (temporary_of (changed (marking ls) e)) (temporary_of e) r.0.0 r.0.1) (run_before ss a r.1 b n d (inr h))
    run_before (begins s xs ∷ ss) a r b n d (inl p) = trees.declaring_sealed m refl s xs n (run_before ss (with_variables xs a) r b n d (inl p))
    run_before (begins s xs ∷ ss) a r b n d (inr (declares_later h)) = trees.declaring_sealed m refl s xs n (run_before ss (with_variables xs a) r b n d (inr h))
    run_before (binds s q c ∷ ss) a r b n d (inl p) =
        s_then (trees.matched_sealed m refl L (marking ls) (run_sealing ls) c a r.0.0 r.0.1) (trees.binding_sealed m refl (subject (changed_matched (marking ls) c)) (bindings [] q) n (run_before ss (with_variables (bound q) a) r.1 b n d (inl p)))
    run_before (binds s q c ∷ ss) a r b n d (inr (lets_never h)) =
        s_before (never_still (alikes.matched_alike (marking ls) (inside_keeps ls) c) (matched_never h)) (trees.matched_sealed m refl L (marking ls) (run_sealing ls) c a r.0.0 r.0.1)
    run_before (binds s q c ∷ ss) a r b n d (inr (lets_later h)) =
        s_then (trees.matched_sealed m refl L (marking ls) (run_sealing ls) c a r.0.0 r.0.1) (trees.binding_sealed m refl (subject (changed_matched (marking ls) c)) (bindings [] q) n (run_before ss (with_variables (bound q) a) r.1 b n d (inr h)))

    -- ---- the tail, behind which stands the mark of the end

    its_own : (e : Exp) (a : Around) (f : Temporary) → NoMarks (order e f) → Within (spots a e) → (d : Temporary) → S (order (changed (marking ls) e) d)
    its_own e a f i w d = trees.exp_sealed m refl L (marking ls) (run_sealing ls) e a d f i w

    end_sealed : (e : Exp) (a : Around) (f : Temporary) → NoMarks (order e f) → Within (spots a e) → NeverOn e → (d : Temporary) → S (order (then_mark (leaves next) (changed (marking ls) e)) d)
    end_sealed e a f i w h d = s_before (own_never h (temporary_of (changed (marking ls) e))) (its_own e a f i w (temporary_of (changed (marking ls) e)))

    value_sealed : (n : ℕ) (e : Exp) (a : Around) (f : Temporary) → NoMarks (order e f) → Within (spots a e) → NeverOn (written_tail n e) → (d : Temporary) → S (order (ended_value n ls e) d)
    value_sealed n (give k e) a f i w h d = by (k.node == n) h
      where
        by : (b : Bool) → NeverOn (if b then e else give k e) → S (order (if b then give k (then_mark (leaves next) (changed (marking ls) e)) else then_mark (leaves next) (changed (marking ls) (give k e))) d)
        by true h =
            s_then (end_sealed e a (temporary_of e) i.0 (λ s j. w s (among_left (spots a e) (a_return a k.node ∷ []) j)) h (temporary_of (then_mark (leaves next) (changed (marking ls) e))))
            (s_then (trees.plain_sealed m refl _ refl) (trees.leave_sealed m refl _))
        by false h = end_sealed (give k e) a f i w h d
    value_sealed n (read k v p) a f i w h d = end_sealed (read k v p) a f i w h d
    value_sealed n (borrow k v p) a f i w h d = end_sealed (borrow k v p) a f i w h d
    value_sealed n (share k e) a f i w h d = end_sealed (share k e) a f i w h d
    value_sealed n (build k v es) a f i w h d = end_sealed (build k v es) a f i w h d
    value_sealed n (unit k) a f i w h d = end_sealed (unit k) a f i w h d
    value_sealed n (lazily k b e g) a f i w h d = end_sealed (lazily k b e g) a f i w h d
    value_sealed n (assign k p e) a f i w h d = end_sealed (assign k p e) a f i w h d
    value_sealed n (update k v p e) a f i w h d = end_sealed (update k v p e) a f i w h d
    value_sealed n (call k g es) a f i w h d = end_sealed (call k g es) a f i w h d
    value_sealed n (input k) a f i w h d = end_sealed (input k) a f i w h d
    value_sealed n (print k e) a f i w h d = end_sealed (print k e) a f i w h d
    value_sealed n (block k b) a f i w h d = end_sealed (block k b) a f i w h d
    value_sealed n (choose k s r) a f i w h d = end_sealed (choose k s r) a f i w h d
    value_sealed n (loop k j e) a f i w h d = end_sealed (loop k j e) a f i w h d
    value_sealed n (jump k j g) a f i w h d = end_sealed (jump k j g) a f i w h d

    -- ---- the block

    block_sealed : (r : Run) → r.tail ≡ true → (b : Body) (a : Around) (n : ℕ) (d f : Temporary) → NoMarks (order_body b n f) → Within (spots_of a b) → NeverPassed (stretch_of (inside r b)) ⊎ NeverOn (written_tail r.block (tail b)) → S (order_body (marked_body r ls [] b) n d)
    block_sealed r whole b a n d f i w never =
        let k = known b a n f i w in
        let front = past (in_front r b) a in
        let run = past (inside r b) front in
        let rest = past (behind r b) run in
        let after : past (statements b) a ≡ rest = sym (past_taken r.count (drop r.first (statements b)) front ∙ past_taken r.first (statements b) a) in
        let dropped = ready_dropped r.first (statements b) a k.row in
        let ending : Body = ends (ended_tail r.tail r.block ls (tail b)) in
        let last : NeverOn (written_tail r.block (tail b)) → S (order (ended_tail r.tail r.block ls (tail b)) d) =
        λ h. subst (λ (t : Bool). S (order (ended_tail t r.block ls (tail b)) d)) (sym whole) (value_sealed r.block (tail b) rest f k.bare (subst (λ (z : Around). Within (spots z (tail b))) after k.stands) h d) in
        let at_end : NeverOn (written_tail r.block (tail b)) → S (order_body (before (ended r.tail) (before (behind r b) ending)) n d) =
        λ h. subst (λ (t : Bool). S (order_body (before (ended t) (before (behind r b) ending)) n d)) (sym whole) (text_before (behind r b) run (ready_dropped r.count (drop r.first (statements b)) front dropped) ending n d (last h)) in
        let own = run_before (inside r b) front (ready_taken r.count (drop r.first (statements b)) front dropped) (before (ended r.tail) (before (behind r b) ending)) n d (either at_end never) in
        let body : Body = before (map (changed_statement (marking ls)) (inside r b)) (before (ended r.tail) (before (behind r b) ending)) in
        text_before (in_front r b) a (ready_taken r.first (statements b) a k.row) (before (entering []) body) n d (s_then (point_sealed enters not_entry) own)
      where
        either : {A B C : Type 0} → (B → C) → A ⊎ B → C ⊎ A
        either f (inl x) = inr x
        either f (inr y) = inl (f y)

  -- ---- the function

  module _ (r : Run) (whole : r.tail ≡ true) (ls : List ℕ) (home : Body) (sole : (a : Around) (b : Body) → Among (a_block a r.block b) L → b ≡ home) (never : NeverPassed (stretch_of (inside r home)) ⊎ NeverOn (written_tail r.block (tail home))) where
    function_sealing : Sealing m refl L (at_the_block r ls [])
    function_sealing = record {
      at_block = λ a n was b d f i w h p. by a n was b d f i w h p (n == r.block) refl;
      at_jump = λ k j g d. trees.leave_sealed m refl (exit k.node j g);
      at_return = λ e p d. p d;
    }
      where
        by : (a : Around) (n : ℕ) (was b : Body) (d f : Temporary) → Among (a_block a n was) L → Within (spots_of a was) → NoMarks (order_body was n f) → ((d : Temporary) → S (order_body b n d)) → (t : Bool) → (n == r.block) ≡ t
            → S (order_body (if t then marked_body r ls [] was else b) n d)
        by a n was b d f i w h p false e = p d
        by a n was b d f i w h p true e =
            let here_is = sole a was (subst (λ (z : ℕ). Among (a_block a z was) L) ((Decides-eqb n r.block).0 e) i) in
            block_sealed ls r whole was a n d f h w (subst (λ (c : Body). NeverPassed (stretch_of (inside r c)) ⊎ NeverOn (written_tail r.block (tail c))) (sym here_is) never)

    function_sealed : (f : Function) → L ≡ spots_of_function f → NoMarks (order_function f) → S (order_function (marked r ls [] f))
    function_sealed f e i =
        let C = at_the_block r ls [] in
        trees.beginning_sealed m refl f.params (mark_of (changed C f.body)).node
        (trees.exp_sealed m refl L C function_sealing f.body (outermost f) (temporary_of (changed C f.body)) (temporary_of f.body) (beginning_bare f.params (mark_of f.body).node (order f.body (temporary_of f.body)) i) (λ s j. subst (Among s) (sym e) j))

pub none_comes : (A : Asked) → A.run.tail ≡ true → ((a : Around) (b : Body) → Among (a_block a A.run.block b) (spots_of_function A.function) → b ≡ A.home.body) → NeverPassed (stretch_of (inside A.run A.home.body)) ⊎ NeverOn (written_tail A.run.block (tail A.home.body))
    → NoMarks (order_function A.function) → NoneComes A (leaves next)
none_comes A whole sole never bare (w, (rest, o, k)) =
    sealed_off m refl k (function_sealed (spots_of_function A.function) A.run whole A.home.around.loops A.home.body sole never A.function refl bare) (among_left (w ++ m ∷ []) rest (among_right w (m ∷ []) here))
