-- In the marked function of a run the mark of a jump stands only in front of jumps out of its loop, and a variable that is not in scope where
-- the run's block stands ends with parts of each pass: inside the run form by form, and so of the whole function.
use Rattle.std.proofs.Common.{◌≡◌, ℕ, zero, suc, ◌==◌, Bool, true, false, if◌then◌else◌, List, [], ◌∷◌, map, take, drop, refl, sym, ap, ◌∙◌, subst, inl, inr, arith}
use Rattle.std.proofs.lemmas.Bool.Decides.{Decides-eqb}
use Rattle.rx_typed.specs.Tree.{Temporary, Mark, own, Exp, read, borrow, share, build, unit, lazily, assign, update, call, input, print, block, choose, loop, jump, give, Operands, no_operand, operand_and, Scrutinee, at_place, of_value, Arms, no_arm, arm_and, Body, ends, runs, declares, lets, Function, mark_of, temporary_of}
use Rattle.rx_lower_walks.specs.Matching.{bindings}
use Rattle.rx_lower_walks.specs.Actions.{Action, subject}
use Rattle.rx_lower_walks.specs.Orders.{exit, Order, order, order_body, order_function}
use Rattle.rx_lower_walks.specs.Orders as o
use Rattle.rx_lower_walks.specs.Walks.{actions_in, Among}
use Rattle.rx_exits_plan.specs.Blocks.{before, begins, binds, bound, declared_by, does as runs_it, Statement, statements, tail}
use Rattle.rx_exits_plan.specs.Changed.{Changes, changed, changed_all, changed_arms, changed_body, changed_matched, changed_statement}
use Rattle.rx_exits_plan.specs.Marked.{at_the_block, ended, ended_tail, ended_value, entering, is_among, mark, mark_then, marked, marked_body, marking, shown, then_mark, using}
use Rattle.rx_exits_plan.specs.Points.{jump_exit, enters, leaves, next, number, Point, returns}
use Rattle.rx_exits_plan.specs.Runs.{behind, Home, in_front, inside, Run}
use Rattle.rx_exits_plan.specs.Spots.{a_block, a_jump, a_return, Around, outermost, Spot, spots, spots_matched, spots_of, spots_of_function, with_variables}
use Rattle.rx_exits_plan.specs.Exits.{past}
use Rattle.rx_hoist_meant.specs.NamesMeant.{InBody, InExp, NamesMeant}
use Rattle.rx_hoist_meant.proofs.Patterns.{among_left, among_right, none_among}
use Rattle.rx_engine_related.proofs.Bare.{NoMarks}
use Rattle.rx_engine_related.proofs.Sole.{of_beginning as beginning_bare, of_binding as binding_bare, of_declaring as declaring_bare}
use Rattle.rx_engine_called.specs.Ended.{e_act, e_leave, e_nothing, e_then, Inside, IsOf, l_jump}
use Rattle.rx_engine_tied.proofs.Parts as parts
use Rattle.rx_engine_tied.proofs.Parts.{Part, Twice}
use Rattle.rx_engine_tied.proofs.Trees as trees
use Rattle.rx_engine_tied.proofs.Trees.{Changing}

-- ---- a tree without changes

abbrev pub as_it_is : Changes
as_it_is = record { at_block = λ n was b. b; at_jump = λ m l again. jump m l again; at_return = λ e. e }

mutual
  pub kept : (e : Exp) → changed as_it_is e ≡ e
  kept (read m v p) = refl
  kept (borrow m k p) = refl
  kept (share m e) = ap (share m) (kept e)
  kept (build m w es) = ap (build m w) (kept_all es)
  kept (unit m) = refl
  kept (lazily m b e f) = (λ j. lazily m b (kept e j) (kept f j))
  kept (assign m p e) = ap (assign m p) (kept e)
  kept (update m q p e) = ap (update m q p) (kept e)
  kept (call m f es) = ap (call m f) (kept_all es)
  kept (input m) = refl
  kept (print m e) = ap (print m) (kept e)
  kept (block m b) = ap (block m) (kept_body b)
  kept (choose m s l) = (λ j. choose m (kept_matched s j) (kept_arms l j))
  kept (loop m l e) = ap (loop m l) (kept e)
  kept (jump m l k) = refl
  kept (give m e) = ap (give m) (kept e)

  kept_all : (es : Operands) → changed_all as_it_is es ≡ es
  kept_all no_operand = refl
  kept_all (operand_and i e es) = (λ j. operand_and i (kept e j) (kept_all es j))

  kept_matched : (s : Scrutinee) → changed_matched as_it_is s ≡ s
  kept_matched (at_place m p) = refl
  kept_matched (of_value e) = ap of_value (kept e)

  kept_arms : (l : Arms) → changed_arms as_it_is l ≡ l
  kept_arms no_arm = refl
  kept_arms (arm_and p e l) = (λ j. arm_and p (kept e j) (kept_arms l j))

  kept_body : (b : Body) → changed_body as_it_is b ≡ b
  kept_body (ends e) = ap ends (kept e)
  kept_body (runs e b) = (λ j. runs (kept e j) (kept_body b j))
  kept_body (declares s xs b) = ap (declares s xs) (kept_body b)
  kept_body (lets s p c b) = (λ j. lets s p (kept_matched c j) (kept_body b j))

pub kept_row : (ss : List Statement) → map (changed_statement as_it_is) ss ≡ ss
kept_row [] = refl
kept_row (runs_it e ∷ ss) = (λ j. runs_it (kept e j) ∷ kept_row ss j)
kept_row (begins s xs ∷ ss) = ap (λ (l : List Statement). begins s xs ∷ l) (kept_row ss)
kept_row (binds s p c ∷ ss) = (λ j. binds s p (kept_matched c j) ∷ kept_row ss j)

-- ---- numbers of points

same_point : (j l : ℕ) (c b : Bool) → number (leaves (jump_exit j c)) ≡ number (leaves (jump_exit l b)) → (j ≡ l) × (c ≡ b)
same_point j l true true e = (omega (arith, e), refl)
same_point j l false false e = (omega (arith, e), refl)
same_point j l true false e = absurd (omega (arith, e))
same_point j l false true e = absurd (omega (arith, e))

not_entry : (l : ℕ) (b : Bool) → number enters ≡ number (leaves (jump_exit l b)) → ⊥
not_entry l true e = omega (arith, e)
not_entry l false e = omega (arith, e)

not_end : (l : ℕ) (b : Bool) → number (leaves next) ≡ number (leaves (jump_exit l b)) → ⊥
not_end l true e = omega (arith, e)
not_end l false e = omega (arith, e)

not_given : (l : ℕ) (b : Bool) → number (leaves returns) ≡ number (leaves (jump_exit l b)) → ⊥
not_given l true e = omega (arith, e)
not_given l false e = omega (arith, e)

pub past_taken : (i : ℕ) (ss : List Statement) (a : Around) → past (drop i ss) (past (take i ss) a) ≡ past ss a
past_taken zero ss a = refl
past_taken (suc i) [] a = refl
past_taken (suc i) (s ∷ ss) a = past_taken i ss (with_variables (declared_by s) a)

module _ (same : ℕ → ℕ → Bool) (L : List Spot) (x l : ℕ) (again : Bool) (once : (a : Around) (n j : ℕ) (g : Bool) → Among (a_jump a n j g) L → Twice l a.loops → ⊥) where
  abbrev m : Action
  m = shown (leaves (jump_exit l again))

  -- ---- in the run

  abbrev I : Around → Order → Type 0
  I a s = Part x m l refl ⊥ a s

  abbrev Within : List Spot → Type 0
  Within ss = (s : Spot) → Among s ss → Among s L

  abbrev Ready : Around → List Statement → Type 0
  Ready a ss = trees.Ready x m l refl ⊥ same L a ss

  then_in : (a : Around) {s t : Order} → I a s → I a t → I a (o.then s t)
  then_in a p q = parts.of_then x m l refl ⊥ a p q

  point_in : (a : Around) (p : Point) → (number p ≡ number (leaves (jump_exit l again)) → ⊥) → I a (order (mark p) (temporary_of (mark p)))
  point_in a p d = then_in a (parts.of_nothing x m l refl ⊥ a) (parts.of_act x m l refl ⊥ a (shown p) (λ e. d (ap (λ (b : Action). b.node) e)) (λ n. refl))

  -- the mark in front of its jump
  of_loop : (n : ℕ) (b : Bool) → IsOf l (exit n l b)
  of_loop n true = refl
  of_loop n false = refl

  jump_in : (a : Around) (n : ℕ) → Among (a_jump a n l again) L → I a (o.then (o.then o.nothing (o.act m)) (o.leave (exit n l again)))
  jump_in a n i = record {
    hidden = λ h. by h;
    ends = λ f. e_then (e_then e_nothing (e_act refl)) e_leave;
    leaves = λ f. l_jump (of_loop n again);
    inside = λ h. absurd h;
  }
    where
      by : parts.Lost x m l refl ⊥ a → (b : Action) → Among b (m ∷ []) → b ≡ m → ⊥
      by (inl h) b k e = h.0
      by (inr h) b k e = once a n l again i h

  marked_in : (a : Around) (n j : ℕ) (g : Bool) → Among (a_jump a n j g) L → I a (o.then (o.then o.nothing (o.act (shown (leaves (jump_exit j g))))) (o.leave (exit n j g)))
  marked_in a n j g i = by (number (leaves (jump_exit j g)) == number (leaves (jump_exit l again))) refl
    where
      by : (b : Bool) → (number (leaves (jump_exit j g)) == number (leaves (jump_exit l again))) ≡ b → I a (o.then (o.then o.nothing (o.act (shown (leaves (jump_exit j g))))) (o.leave (exit n j g)))
      by true e =
          let q = same_point j l g again ((Decides-eqb (number (leaves (jump_exit j g))) (number (leaves (jump_exit l again)))).0 e) in
          let i2 : Among (a_jump a n l again) L = subst (λ (z : ℕ). Among (a_jump a n z again) L) q.0 (subst (λ (z : Bool). Among (a_jump a n j z) L) q.1 i) in
          subst (λ (z : ℕ). I a (o.then (o.then o.nothing (o.act (shown (leaves (jump_exit z g))))) (o.leave (exit n z g)))) (sym q.0)
          (subst (λ (z : Bool). I a (o.then (o.then o.nothing (o.act (shown (leaves (jump_exit l z))))) (o.leave (exit n l z)))) (sym q.1) (jump_in a n i2))
      by false e = then_in a (point_in a (leaves (jump_exit j g)) (λ q. differ q e)) (parts.of_leave x m l refl ⊥ a (exit n j g))
        where
          differ : number (leaves (jump_exit j g)) ≡ number (leaves (jump_exit l again)) → (number (leaves (jump_exit j g)) == number (leaves (jump_exit l again))) ≡ false → ⊥
          differ q f = let z = (Decides-eqb (number (leaves (jump_exit j g))) (number (leaves (jump_exit l again)))).1 q in clash (sym z ∙ f)
            where
              clash : true ≡ false → ⊥
              clash y = cc

  behind_in : (a : Around) (p : Point) (e : Exp) → (number p ≡ number (leaves (jump_exit l again)) → ⊥) → ((d : Temporary) → I a (order e d)) → (d : Temporary) → I a (order (then_mark p e) d)
  behind_in a p e f g d = then_in a (g (temporary_of e)) (then_in a (point_in a p f) (parts.of_nothing x m l refl ⊥ a))

  run_changing : (ls : List ℕ) → Changing x m l refl ⊥ same L (marking ls)
  run_changing ls = record {
    at_block = λ a n was b d f i w h u p. p d;
    at_jump = λ a k j g d i. by a k j g d i (is_among j ls);
    at_return = λ a e p d. behind_in a (leaves returns) e (not_given l again) p d;
  }
    where
      by : (a : Around) (k : Mark) (j : ℕ) (g : Bool) (d : Temporary) → Among (a_jump a k.node j g) L → (b : Bool) → I a (order (if b then mark_then (leaves (jump_exit j g)) (jump k j g) else jump k j g) d)
      by a k j g d i true = marked_in a k.node j g i
      by a k j g d i false = parts.of_leave x m l refl ⊥ a (exit k.node j g)

  text_changing : Changing x m l refl ⊥ same L as_it_is
  text_changing = record { at_block = λ a n was b d f i w h u p. p d; at_jump = λ a k j g d i. parts.of_leave x m l refl ⊥ a (exit k.node j g); at_return = λ a e p d. p d }

  text_in : (e : Exp) (a : Around) (d f : Temporary) → InExp same a e → NoMarks (order e f) → Within (spots a e) → I a (order e d)
  text_in e a d f h i w = subst (λ (z : Exp). I a (order z d)) (kept e) (trees.grown x m l refl ⊥ same L as_it_is text_changing e a d f h i w)

  text_before : (ss : List Statement) (a : Around) → Ready a ss → (b : Body) (n : ℕ) (d : Temporary) → I (past ss a) (order_body b n d) → I a (order_body (before ss b) n d)
  text_before ss a r b n d p =
      subst (λ (z : List Statement). I a (order_body (before z b) n d)) (kept_row ss) (trees.before_so x m l refl ⊥ same L as_it_is text_changing ss a r b n d p)

  -- ---- the statements of a block

  ready_taken : (i : ℕ) (ss : List Statement) (a : Around) → Ready a ss → Ready a (take i ss)
  ready_taken zero ss a r = tt
  ready_taken (suc i) [] a r = tt
  ready_taken (suc i) (runs_it e ∷ ss) a r = (r.0, ready_taken i ss a r.1)
  ready_taken (suc i) (begins s xs ∷ ss) a r = ready_taken i ss (with_variables xs a) r
  ready_taken (suc i) (binds s p c ∷ ss) a r = (r.0, ready_taken i ss (with_variables (bound p) a) r.1)

  ready_dropped : (i : ℕ) (ss : List Statement) (a : Around) → Ready a ss → Ready (past (take i ss) a) (drop i ss)
  ready_dropped zero ss a r = r
  ready_dropped (suc i) [] a r = tt
  ready_dropped (suc i) (runs_it e ∷ ss) a r = ready_dropped i ss a r.1
  ready_dropped (suc i) (begins s xs ∷ ss) a r = ready_dropped i ss (with_variables xs a) r
  ready_dropped (suc i) (binds s p c ∷ ss) a r = ready_dropped i ss (with_variables (bound p) a) r.1

  pub record Known (a : Around) (b : Body) (f : Temporary) : Type 0 where
    pub row : Ready a (statements b)
    pub names : InExp same (past (statements b) a) (tail b)
    pub bare : NoMarks (order (tail b) f)
    pub stands : Within (spots (past (statements b) a) (tail b))

  known : (b : Body) (a : Around) (n : ℕ) (f : Temporary) → InBody same a b → NoMarks (order_body b n f) → Within (spots_of a b) → Known a b f
  known (ends e) a n f h i w = record { row = tt; names = h; bare = i; stands = w }
  known (runs e b) a n f h i w =
      let k = known b a n f h.1 i.1 (λ s j. w s (among_right (spots a e) (spots_of a b) j)) in
      record { row = ((h.0, i.0, λ s j. w s (among_left (spots a e) (spots_of a b) j)), k.row); names = k.names; bare = k.bare; stands = k.stands }
  known (declares s xs b) a n f h i w =
      let k = known b (with_variables xs a) n f h (declaring_bare s xs n (order_body b n f) i) w in
      record { row = k.row; names = k.names; bare = k.bare; stands = k.stands }
  known (lets s p c b) a n f h i w =
      let k = known b (with_variables (bound p) a) n f h.1 (binding_bare (subject c) (bindings [] p) n (order_body b n f) i.1) (λ z j. w z (among_right (spots_matched a c) (spots_of (with_variables (bound p) a) b) j)) in
      record { row = ((h.0, i.0, λ z j. w z (among_left (spots_matched a c) (spots_of (with_variables (bound p) a) b) j)), k.row); names = k.names; bare = k.bare; stands = k.stands }

  -- ---- the marked block

  uses_in : (xs : List ℕ) (a : Around) (b : Body) (n : ℕ) (d : Temporary) → I a (order_body b n d) → I a (order_body (before (map using xs) b) n d)
  uses_in [] a b n d p = p
  uses_in (y ∷ xs) a b n d p = then_in a (parts.of_plain x m l refl ⊥ a _ refl refl) (uses_in xs a b n d p)

  entering_in : (xs : List ℕ) (a : Around) (b : Body) (n : ℕ) (d : Temporary) → I a (order_body b n d) → I a (order_body (before (entering xs) b) n d)
  entering_in xs a b n d p = then_in a (point_in a enters (not_entry l again)) (uses_in xs a b n d p)

  ended_in : (t : Bool) (a : Around) (b : Body) (n : ℕ) (d : Temporary) → I a (order_body b n d) → I a (order_body (before (ended t) b) n d)
  ended_in true a b n d p = p
  ended_in false a b n d p = then_in a (point_in a (leaves next) (not_end l again)) p

  value_in : (ls : List ℕ) (n : ℕ) (e : Exp) (a : Around) (f : Temporary) → InExp same a e → NoMarks (order e f) → Within (spots a e) → (d : Temporary) → I a (order (ended_value n ls e) d)
  value_in ls n (give k e) a f h i w d = by (k.node == n)
    where
      given : (d : Temporary) → I a (order (changed (marking ls) e) d)
      given d = trees.grown x m l refl ⊥ same L (marking ls) (run_changing ls) e a d (temporary_of e) h i.0 (λ s j. w s (among_left (spots a e) (a_return a k.node ∷ []) j))

      by : (b : Bool) → I a (order (if b then give k (then_mark (leaves next) (changed (marking ls) e)) else then_mark (leaves next) (changed (marking ls) (give k e))) d)
      by true =
          then_in a (behind_in a (leaves next) (changed (marking ls) e) (not_end l again) given (temporary_of (then_mark (leaves next) (changed (marking ls) e)))) (then_in a (parts.of_plain x m l refl ⊥ a _ refl refl) (parts.of_leave x m l refl ⊥ a _))
      by false = behind_in a (leaves next) (changed (marking ls) (give k e)) (not_end l again) (λ z. trees.grown x m l refl ⊥ same L (marking ls) (run_changing ls) (give k e) a z f h i w) d
  value_in ls n e a f h i w d = behind_in a (leaves next) (changed (marking ls) e) (not_end l again) (λ z. trees.grown x m l refl ⊥ same L (marking ls) (run_changing ls) e a z f h i w) d

  tail_in : (t : Bool) (ls : List ℕ) (n : ℕ) (e : Exp) (a : Around) (f : Temporary) → InExp same a e → NoMarks (order e f) → Within (spots a e) → (d : Temporary) → I a (order (ended_tail t n ls e) d)
  tail_in true ls n e a f h i w d = value_in ls n e a f h i w d
  tail_in false ls n e a f h i w d = text_in e a d f h i w

  block_in : (r : Run) (ls xs : List ℕ) (b : Body) (a : Around) (n : ℕ) (d f : Temporary) → InBody same a b → NoMarks (order_body b n f) → Within (spots_of a b) → I a (order_body (marked_body r ls xs b) n d)
  block_in r ls xs b a n d f h i w =
      let k = known b a n f h i w in
      let front = past (in_front r b) a in
      let run = past (inside r b) front in
      let rest = past (behind r b) run in
      let after : past (statements b) a ≡ rest = sym (past_taken r.count (drop r.first (statements b)) front ∙ past_taken r.first (statements b) a) in
      let dropped = ready_dropped r.first (statements b) a k.row in
      let last = tail_in r.tail ls r.block (tail b) rest f (subst (λ (z : Around). InExp same z (tail b)) after k.names) k.bare (subst (λ (z : Around). Within (spots z (tail b))) after k.stands) d in
      let ending : Body = ends (ended_tail r.tail r.block ls (tail b)) in
      let behind_it = text_before (behind r b) run (ready_dropped r.count (drop r.first (statements b)) front dropped) ending n d last in
      let at_end = ended_in r.tail run (before (behind r b) ending) n d behind_it in
      let own = trees.before_so x m l refl ⊥ same L (marking ls) (run_changing ls) (inside r b) front (ready_taken r.count (drop r.first (statements b)) front dropped) (before (ended r.tail) (before (behind r b) ending)) n d at_end in
      let body : Body = before (map (changed_statement (marking ls)) (inside r b)) (before (ended r.tail) (before (behind r b) ending)) in
      text_before (in_front r b) a (ready_taken r.first (statements b) a k.row) (before (entering xs) body) n d (entering_in xs front body n d own)

  -- ---- in the function

  abbrev F : Around → Order → Type 0
  F a s = Part x m l refl (Unit {0}) a s

  -- inside the loop, once, where the variable is not in scope
  to_function : (a : Around) (s : Order) → I a s → (Among x a.scope → ⊥) → (Twice l a.loops → ⊥) → Among l a.loops → F a s
  to_function a s p n t i = record {
    hidden = λ h. by h;
    ends = p.ends;
    leaves = p.leaves;
    inside = λ h f. absurd (f i);
  }
    where
      by : parts.Lost x m l refl (Unit {0}) a → (b : Action) → Among b (actions_in s) → b ≡ m → ⊥
      by (inl h) b k e = n h.1
      by (inr h) b k e = t h

  module _ (r : Run) (home : Home) (xs : List ℕ) (sole : (a : Around) (b : Body) → Among (a_block a r.block b) L → a ≡ home.around) (outer : Among x home.around.scope → ⊥) (apart : Twice l home.around.loops → ⊥) (round : Among l home.around.loops) where
    function_changing : Changing x m l refl (Unit {0}) same L (at_the_block r home.around.loops xs)
    function_changing = record {
      at_block = λ a n was b d f i w h u p. by a n was b d f i w h u p (n == r.block) refl;
      at_jump = λ a k j g d i. parts.of_leave x m l refl (Unit {0}) a (exit k.node j g);
      at_return = λ a e p d. p d;
    }
      where
        by : (a : Around) (n : ℕ) (was b : Body) (d f : Temporary) → Among (a_block a n was) L → Within (spots_of a was) → InBody same a was → NoMarks (order_body was n f) → ((d : Temporary) → F a (order_body b n d)) → (t : Bool) → (n == r.block) ≡ t
            → F a (order_body (if t then marked_body r home.around.loops xs was else b) n d)
        by a n was b d f i w h u p false e = p d
        by a n was b d f i w h u p true e =
            let here_is = sole a was (subst (λ (z : ℕ). Among (a_block a z was) L) ((Decides-eqb n r.block).0 e) i) in
            to_function a (order_body (marked_body r home.around.loops xs was) n d) (block_in r home.around.loops xs was a n d f h u w) (λ j. outer (subst (λ (z : Around). Among x z.scope) here_is j))
            (λ j. apart (subst (λ (z : Around). Twice l z.loops) here_is j)) (subst (λ (z : Around). Among l z.loops) (sym here_is) round)

    pub marked_inside : (f : Function) → L ≡ spots_of_function f → NamesMeant same f → NoMarks (order_function f) → Inside x m l (order_function (marked r home.around.loops xs f))
    marked_inside f e h i =
        let nothing_round : Around = record { scope = []; loops = [] } in
        let C = at_the_block r home.around.loops xs in
        let body = trees.grown x m l refl (Unit {0}) same L C function_changing f.body (outermost f) (temporary_of (changed C f.body)) (temporary_of f.body) h
        (beginning_bare f.params (mark_of f.body).node (order f.body (temporary_of f.body)) i) (λ s j. subst (Among s) (sym e) j) in
        let whole = parts.of_beginning x m l refl (Unit {0}) nothing_round f.params (mark_of (changed C f.body)).node body in
        whole.inside tt (λ j. none_among j) (λ j. none_among j)
