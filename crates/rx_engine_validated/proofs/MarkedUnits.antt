-- Marks of a run change nothing of this: a function that gives the unit by its form does so with the marks.
use Rattle.std.proofs.Common.{◌≡◌, ℕ, zero, suc, ◌==◌, Bool, true, false, if◌then◌else◌, List, [], ◌∷◌, map, Option, Some, refl, ap, subst}
use Rattle.std.specs.Prelude.{take, drop}
use Rattle.rx_typed.specs.Tree as tree
use Rattle.rx_typed.specs.Tree.{Mark, Exp, Operands, Scrutinee, Arms, Body, Function, mark_of}
use Rattle.rx_exits_plan.specs.Blocks.{Statement, does, begins, binds, statements, tail, before}
use Rattle.rx_exits_plan.specs.Points.{jump_exit, leaves}
use Rattle.rx_exits_plan.specs.Runs.{Run, in_front, inside, behind}
use Rattle.rx_exits_plan.specs.Changed.{Changes, changed, changed_all, changed_matched, changed_arms, changed_body, changed_statement}
use Rattle.rx_exits_plan.specs.Marked.{is_among, mark_then, using, entering, ended}
use Rattle.rx_exits_plan.specs.Asked.{Asked}
use Rattle.rx_exits_plan.specs.Plan.{Plan}
use Rattle.rx_meaning.specs.Values.{element, with_element}
use Rattle.rx_meaning.specs.Expressions.{Functions}
use Rattle.rx_meaning.specs.Programs.{Program}
use Rattle.rx_engine_simulation.specs.Sights.{In}
use Rattle.rx_engine_simulation.specs.Units.{GivesUnit, of_unit, of_assignment, of_update, of_print, of_call, of_block, of_choice, of_loop, of_jump, of_return, of_passed, AllGiveUnit, no_arm_gives, each_gives, EndsInUnit, tail_gives, behind_run, behind_declaration, behind_let, ReturnsUnit, in_read, in_borrow, in_share, in_build, in_unit, in_lazy, in_assignment, in_update, in_call, in_input, in_print, in_block, in_choice, in_loop, in_jump, in_return, AllReturnUnit, no_operand_returns, operands_return, MatchedReturnsUnit, in_place, in_value, ArmsReturnUnit, no_arm_returns, arms_return, BodyReturnsUnit, tail_returns, run_returns, declaration_returns, let_returns, UnitFunctions}
use Rattle.rx_engine_simulation.specs.Passed.{let_pass}
use Rattle.rx_engine_related.specs.Running.{passing, running_body, in_the_block, running}
use Rattle.rx_engine_related.specs.Tailed.{passing_value, tailed_body, in_the_tailed_block, tailed}
use Rattle.rx_engine_related.specs.Extracts.{with_its_marks}
use Rattle.rx_engine_related.specs.ExtractsTail.{with_tail_marks}

module _ (U : List ℕ) where
  -- ---- changes of blocks and jumps that keep what is given

  record Keeps (C : Changes) : Type 0 where
    jump_mark : (m : Mark) (l : ℕ) (again : Bool) → mark_of (C.at_jump m l again) ≡ m
    block_gives : (n : ℕ) (was b : Body) → EndsInUnit U was → EndsInUnit U b → EndsInUnit U (C.at_block n was b)
    block_returns : (n : ℕ) (was b : Body) → BodyReturnsUnit U was → BodyReturnsUnit U b → BodyReturnsUnit U (C.at_block n was b)
    jump_gives : (m : Mark) (l : ℕ) (again : Bool) → GivesUnit U (C.at_jump m l again)
    jump_returns : (m : Mark) (l : ℕ) (again : Bool) → ReturnsUnit U (C.at_jump m l again)
    return_gives : (e : Exp) → GivesUnit U e → GivesUnit U (C.at_return e)
    return_returns : (e : Exp) → ReturnsUnit U e → ReturnsUnit U (C.at_return e)

  module _ (C : Changes) (k : Keeps C) where
    mark_still : (e : Exp) → mark_of (changed C e) ≡ mark_of e
    mark_still (tree.read m v p) = refl
    mark_still (tree.borrow m b p) = refl
    mark_still (tree.share m e) = refl
    mark_still (tree.build m w es) = refl
    mark_still (tree.unit m) = refl
    mark_still (tree.lazily m b e f) = refl
    mark_still (tree.assign m p e) = refl
    mark_still (tree.update m o p e) = refl
    mark_still (tree.call m f es) = refl
    mark_still (tree.input m) = refl
    mark_still (tree.print m e) = refl
    mark_still (tree.block m b) = refl
    mark_still (tree.choose m c l) = refl
    mark_still (tree.loop m l e) = refl
    mark_still (tree.jump m l again) = k.jump_mark m l again
    mark_still (tree.give m e) = refl

    mutual
      gives_still : {e : Exp} → GivesUnit U e → GivesUnit U (changed C e)
      gives_still of_unit = of_unit
      gives_still of_assignment = of_assignment
      gives_still of_update = of_update
      gives_still of_print = of_print
      gives_still (of_call i) = of_call i
      gives_still (of_block {m = m} {b = b} g) = of_block (k.block_gives m.node b (changed_body C b) g (ends_still g))
      gives_still (of_choice g) = of_choice (all_still g)
      gives_still of_loop = of_loop
      gives_still (of_jump {m = m} {l = l} {again = again}) = k.jump_gives m l again
      gives_still of_return = of_return
      gives_still (of_passed {e = e} g) =
          subst (λ (m : Mark). GivesUnit U (tree.build m tree.lazy (tree.operand_and 0 (changed C e) tree.no_operand))) (mark_still e) (of_passed (gives_still g))

      all_still : {l : Arms} → AllGiveUnit U l → AllGiveUnit U (changed_arms C l)
      all_still no_arm_gives = no_arm_gives
      all_still (each_gives g h) = each_gives (gives_still g) (all_still h)

      ends_still : {b : Body} → EndsInUnit U b → EndsInUnit U (changed_body C b)
      ends_still (tail_gives g) = tail_gives (gives_still g)
      ends_still (behind_run g) = behind_run (ends_still g)
      ends_still (behind_declaration g) = behind_declaration (ends_still g)
      ends_still (behind_let g) = behind_let (ends_still g)

    mutual
      returns_still : {e : Exp} → ReturnsUnit U e → ReturnsUnit U (changed C e)
      returns_still in_read = in_read
      returns_still in_borrow = in_borrow
      returns_still (in_share g) = in_share (returns_still g)
      returns_still (in_build g) = in_build (operands_still g)
      returns_still in_unit = in_unit
      returns_still (in_lazy g h) = in_lazy (returns_still g) (returns_still h)
      returns_still (in_assignment g) = in_assignment (returns_still g)
      returns_still (in_update g) = in_update (returns_still g)
      returns_still (in_call g) = in_call (operands_still g)
      returns_still in_input = in_input
      returns_still (in_print g) = in_print (returns_still g)
      returns_still (in_block {m = m} {b = b} g) = in_block (k.block_returns m.node b (changed_body C b) g (body_still g))
      returns_still (in_choice g h) = in_choice (matched_still g) (arms_still h)
      returns_still (in_loop g) = in_loop (returns_still g)
      returns_still (in_jump {m = m} {l = l} {again = again}) = k.jump_returns m l again
      returns_still (in_return {e = e} g h) = in_return (k.return_gives (changed C e) (gives_still g)) (k.return_returns (changed C e) (returns_still h))

      operands_still : {es : Operands} → AllReturnUnit U es → AllReturnUnit U (changed_all C es)
      operands_still no_operand_returns = no_operand_returns
      operands_still (operands_return g h) = operands_return (returns_still g) (operands_still h)

      matched_still : {c : Scrutinee} → MatchedReturnsUnit U c → MatchedReturnsUnit U (changed_matched C c)
      matched_still in_place = in_place
      matched_still (in_value g) = in_value (returns_still g)

      arms_still : {l : Arms} → ArmsReturnUnit U l → ArmsReturnUnit U (changed_arms C l)
      arms_still no_arm_returns = no_arm_returns
      arms_still (arms_return g h) = arms_return (returns_still g) (arms_still h)

      body_still : {b : Body} → BodyReturnsUnit U b → BodyReturnsUnit U (changed_body C b)
      body_still (tail_returns g) = tail_returns (returns_still g)
      body_still (run_returns g h) = run_returns (returns_still g) (body_still h)
      body_still (declaration_returns h) = declaration_returns (body_still h)
      body_still (let_returns g h) = let_returns (matched_still g) (body_still h)

  -- ---- marks in front of jumps

  passing_keeps : (ls : List ℕ) → Keeps (passing ls)
  passing_keeps ls = record {
    jump_mark = λ m l again. marks m l again (is_among l ls);
    block_gives = λ n was b g h. h;
    block_returns = λ n was b g h. h;
    jump_gives = λ m l again. gives m l again (is_among l ls);
    jump_returns = λ m l again. returns m l again (is_among l ls);
    return_gives = λ e g. g;
    return_returns = λ e g. g;
  }
    where
      marks : (m : Mark) (l : ℕ) (again b : Bool) → mark_of (if b then mark_then (leaves (jump_exit l again)) (tree.jump m l again) else tree.jump m l again) ≡ m
      marks m l again true = refl
      marks m l again false = refl

      gives : (m : Mark) (l : ℕ) (again b : Bool) → GivesUnit U (if b then mark_then (leaves (jump_exit l again)) (tree.jump m l again) else tree.jump m l again)
      gives m l again true = of_block (behind_run (tail_gives of_jump))
      gives m l again false = of_jump

      returns : (m : Mark) (l : ℕ) (again b : Bool) → ReturnsUnit U (if b then mark_then (leaves (jump_exit l again)) (tree.jump m l again) else tree.jump m l again)
      returns m l again true = in_block (run_returns (in_build no_operand_returns) (tail_returns in_jump))
      returns m l again false = in_jump

  -- ---- a block by its statements

  abbrev OneReturns : Statement → Type 0
  OneReturns (does e) = ReturnsUnit U e
  OneReturns (begins n xs) = Unit {0}
  OneReturns (binds n q c) = MatchedReturnsUnit U c

  abbrev EachReturns : List Statement → Type 0
  EachReturns [] = Unit {0}
  EachReturns (s ∷ ss) = OneReturns s × EachReturns ss

  statements_return : {b : Body} → BodyReturnsUnit U b → EachReturns (statements b)
  statements_return (tail_returns g) = tt
  statements_return (run_returns g h) = (g, statements_return h)
  statements_return (declaration_returns h) = (tt, statements_return h)
  statements_return (let_returns g h) = (g, statements_return h)

  its_tail_returns : {b : Body} → BodyReturnsUnit U b → ReturnsUnit U (tail b)
  its_tail_returns (tail_returns g) = g
  its_tail_returns (run_returns g h) = its_tail_returns h
  its_tail_returns (declaration_returns h) = its_tail_returns h
  its_tail_returns (let_returns g h) = its_tail_returns h

  its_tail_gives : {b : Body} → EndsInUnit U b → GivesUnit U (tail b)
  its_tail_gives (tail_gives g) = g
  its_tail_gives (behind_run h) = its_tail_gives h
  its_tail_gives (behind_declaration h) = its_tail_gives h
  its_tail_gives (behind_let h) = its_tail_gives h

  before_returns : (ss : List Statement) (b : Body) → EachReturns ss → BodyReturnsUnit U b → BodyReturnsUnit U (before ss b)
  before_returns [] b h g = g
  before_returns (does e ∷ ss) b h g = run_returns h.0 (before_returns ss b h.1 g)
  before_returns (begins n xs ∷ ss) b h g = declaration_returns (before_returns ss b h.1 g)
  before_returns (binds n q c ∷ ss) b h g = let_returns h.0 (before_returns ss b h.1 g)

  before_gives : (ss : List Statement) (b : Body) → EndsInUnit U b → EndsInUnit U (before ss b)
  before_gives [] b g = g
  before_gives (does e ∷ ss) b g = behind_run (before_gives ss b g)
  before_gives (begins n xs ∷ ss) b g = behind_declaration (before_gives ss b g)
  before_gives (binds n q c ∷ ss) b g = behind_let (before_gives ss b g)

  first_return : (n : ℕ) (ss : List Statement) → EachReturns ss → EachReturns (take n ss)
  first_return zero ss h = tt
  first_return (suc n) [] h = h
  first_return (suc n) (s ∷ ss) h = (h.0, first_return n ss h.1)

  others_return : (n : ℕ) (ss : List Statement) → EachReturns ss → EachReturns (drop n ss)
  others_return zero ss h = h
  others_return (suc n) [] h = h
  others_return (suc n) (s ∷ ss) h = others_return n ss h.1

  marked_return : (ls : List ℕ) (ss : List Statement) → EachReturns ss → EachReturns (map (changed_statement (passing ls)) ss)
  marked_return ls [] h = tt
  marked_return ls (does e ∷ ss) h = (returns_still (passing ls) (passing_keeps ls) h.0, marked_return ls ss h.1)
  marked_return ls (begins n xs ∷ ss) h = (tt, marked_return ls ss h.1)
  marked_return ls (binds n q c ∷ ss) h = (matched_still (passing ls) (passing_keeps ls) h.0, marked_return ls ss h.1)

  reads_return : (xs : List ℕ) → EachReturns (map using xs)
  reads_return [] = tt
  reads_return (x ∷ xs) = (in_read, reads_return xs)

  -- ---- the marks of a run in its block

  block_keeps : (r : Run) (ls xs : List ℕ) → Keeps (in_the_block r ls xs)
  block_keeps r ls xs = record {
    jump_mark = λ m l again. refl;
    block_gives = λ n was b g h. gives (n == r.block) was b g h;
    block_returns = λ n was b g h. returns (n == r.block) was b g h;
    jump_gives = λ m l again. of_jump;
    jump_returns = λ m l again. in_jump;
    return_gives = λ e g. g;
    return_returns = λ e g. g;
  }
    where
      gives : (c : Bool) (was b : Body) → EndsInUnit U was → EndsInUnit U b → EndsInUnit U (if c then running_body r ls xs was else b)
      gives true was b g h =
          before_gives (in_front r was) _ (before_gives (entering xs) _ (before_gives (map (changed_statement (passing ls)) (inside r was)) _ (before_gives (ended false) _ (before_gives (behind r was) _ (tail_gives (its_tail_gives g))))))
      gives false was b g h = h

      returns : (c : Bool) (was b : Body) → BodyReturnsUnit U was → BodyReturnsUnit U b → BodyReturnsUnit U (if c then running_body r ls xs was else b)
      returns true was b g h =
          let all = statements_return g in let rest = others_return r.first (statements was) all in
          before_returns (in_front r was) _ (first_return r.first (statements was) all) (before_returns (entering xs) _ (in_build no_operand_returns, reads_return xs)
          (before_returns (map (changed_statement (passing ls)) (inside r was)) _ (marked_return ls (inside r was) (first_return r.count _ rest)) (before_returns (ended false) _ (in_build no_operand_returns, tt)
          (before_returns (behind r was) _ (others_return r.count _ rest) (tail_returns (its_tail_returns g))))))
      returns false was b g h = h

  pub running_returns : (r : Run) (ls xs : List ℕ) (f : Function) → ReturnsUnit U f.body → ReturnsUnit U (running r ls xs f).body
  running_returns r ls xs f h = returns_still (in_the_block r ls xs) (block_keeps r ls xs) h

  -- ---- the marks of a run with its block's tail, whose value is let pass

  passed_returns : (ls : List ℕ) {e : Exp} → ReturnsUnit U e → ReturnsUnit U (let_pass (changed (passing ls) e))
  passed_returns ls g = in_build (operands_return (returns_still (passing ls) (passing_keeps ls) g) no_operand_returns)

  passed_gives : (ls : List ℕ) {e : Exp} → GivesUnit U e → GivesUnit U (let_pass (changed (passing ls) e))
  passed_gives ls g = of_passed (gives_still (passing ls) (passing_keeps ls) g)

  value_returns : (n : ℕ) (ls : List ℕ) {e : Exp} → ReturnsUnit U e → ReturnsUnit U (passing_value n ls e)
  value_returns n ls in_read = passed_returns ls in_read
  value_returns n ls in_borrow = passed_returns ls in_borrow
  value_returns n ls (in_share g) = passed_returns ls (in_share g)
  value_returns n ls (in_build g) = passed_returns ls (in_build g)
  value_returns n ls in_unit = passed_returns ls in_unit
  value_returns n ls (in_lazy g h) = passed_returns ls (in_lazy g h)
  value_returns n ls (in_assignment g) = passed_returns ls (in_assignment g)
  value_returns n ls (in_update g) = passed_returns ls (in_update g)
  value_returns n ls (in_call g) = passed_returns ls (in_call g)
  value_returns n ls in_input = passed_returns ls in_input
  value_returns n ls (in_print g) = passed_returns ls (in_print g)
  value_returns n ls (in_block g) = passed_returns ls (in_block g)
  value_returns n ls (in_choice g h) = passed_returns ls (in_choice g h)
  value_returns n ls (in_loop g) = passed_returns ls (in_loop g)
  value_returns n ls in_jump = passed_returns ls in_jump
  value_returns n ls (in_return {m = m} {e = e} g h) = by (m.node == n)
    where
      by : (c : Bool) → ReturnsUnit U (if c then tree.give m (let_pass (changed (passing ls) e)) else let_pass (changed (passing ls) (tree.give m e)))
      by true = in_return (passed_gives ls g) (passed_returns ls h)
      by false = passed_returns ls (in_return g h)

  value_gives : (n : ℕ) (ls : List ℕ) {e : Exp} → GivesUnit U e → GivesUnit U (passing_value n ls e)
  value_gives n ls of_unit = passed_gives ls of_unit
  value_gives n ls of_assignment = passed_gives ls of_assignment
  value_gives n ls of_update = passed_gives ls of_update
  value_gives n ls of_print = passed_gives ls of_print
  value_gives n ls (of_call i) = passed_gives ls (of_call i)
  value_gives n ls (of_block g) = passed_gives ls (of_block g)
  value_gives n ls (of_choice g) = passed_gives ls (of_choice g)
  value_gives n ls of_loop = passed_gives ls of_loop
  value_gives n ls of_jump = passed_gives ls of_jump
  value_gives n ls (of_passed g) = passed_gives ls (of_passed g)
  value_gives n ls (of_return {m = m} {e = e}) = by (m.node == n)
    where
      by : (c : Bool) → GivesUnit U (if c then tree.give m (let_pass (changed (passing ls) e)) else let_pass (changed (passing ls) (tree.give m e)))
      by true = of_return
      by false = passed_gives ls of_return

  tailed_block_keeps : (r : Run) (ls xs : List ℕ) → Keeps (in_the_tailed_block r ls xs)
  tailed_block_keeps r ls xs = record {
    jump_mark = λ m l again. refl;
    block_gives = λ n was b g h. gives (n == r.block) was b g h;
    block_returns = λ n was b g h. returns (n == r.block) was b g h;
    jump_gives = λ m l again. of_jump;
    jump_returns = λ m l again. in_jump;
    return_gives = λ e g. g;
    return_returns = λ e g. g;
  }
    where
      gives : (c : Bool) (was b : Body) → EndsInUnit U was → EndsInUnit U b → EndsInUnit U (if c then tailed_body r ls xs was else b)
      gives true was b g h =
          before_gives (in_front r was) _ (before_gives (entering xs) _ (before_gives (map (changed_statement (passing ls)) (inside r was)) _ (before_gives (behind r was) _
          (tail_gives (value_gives r.block ls (its_tail_gives g))))))
      gives false was b g h = h

      returns : (c : Bool) (was b : Body) → BodyReturnsUnit U was → BodyReturnsUnit U b → BodyReturnsUnit U (if c then tailed_body r ls xs was else b)
      returns true was b g h =
          let all = statements_return g in let rest = others_return r.first (statements was) all in
          before_returns (in_front r was) _ (first_return r.first (statements was) all) (before_returns (entering xs) _ (in_build no_operand_returns, reads_return xs)
          (before_returns (map (changed_statement (passing ls)) (inside r was)) _ (marked_return ls (inside r was) (first_return r.count _ rest))
          (before_returns (behind r was) _ (others_return r.count _ rest) (tail_returns (value_returns r.block ls (its_tail_returns g))))))
      returns false was b g h = h

  pub tailed_returns : (r : Run) (ls xs : List ℕ) (f : Function) → ReturnsUnit U f.body → ReturnsUnit U (tailed r ls xs f).body
  tailed_returns r ls xs f h = returns_still (in_the_tailed_block r ls xs) (tailed_block_keeps r ls xs) h

-- ---- a program with a function that has them

some_same : {f g : Function} → ◌≡◌ {A = Option (Option Function)} (Some (Some f)) (Some (Some g)) → f ≡ g
some_same e = cc

-- a function in place of another that leaves by returns of the unit does so too
pub another_keeps : (l : Functions) (item : ℕ) (was now : Function) (U : List ℕ) → element l item ≡ Some (Some was) → (ReturnsUnit U was.body → ReturnsUnit U now.body) → UnitFunctions l U
    → UnitFunctions (with_element l item (Some now)) U
another_keeps l item was now U is still h f i g e = by l item f (λ g q. h f i g q) (λ same. still (h item (subst (λ (j : ℕ). In j U) same i) was is)) e
  where
    -- it is the changed one, or as before
    by : (l : Functions) (n j : ℕ) → ((g : Function) → element l j ≡ Some (Some g) → ReturnsUnit U g.body) → (j ≡ n → ReturnsUnit U now.body)
        → element (with_element l n (Some now)) j ≡ Some (Some g) → ReturnsUnit U g.body
    by [] n j a b q = a g q
    by (o ∷ l) zero zero a b q = subst (λ (z : Function). ReturnsUnit U z.body) (some_same q) (b refl)
    by (o ∷ l) zero (suc j) a b q = a g q
    by (o ∷ l) (suc n) zero a b q = a g q
    by (o ∷ l) (suc n) (suc j) a b q = by l n j a (λ e. b (ap suc e)) q

pub marks_keep : (P : Program) (item : ℕ) (A : Asked) (k : Plan) (U : List ℕ) → element P.functions item ≡ Some (Some A.function) → UnitFunctions P.functions U → UnitFunctions (with_its_marks P item A k).functions U
marks_keep P item A k U is = another_keeps P.functions item A.function (running A.run A.home.around.loops k.params A.function) U is (running_returns U A.run A.home.around.loops k.params A.function)

pub tail_marks_keep : (P : Program) (item : ℕ) (A : Asked) (k : Plan) (U : List ℕ) → element P.functions item ≡ Some (Some A.function) → UnitFunctions P.functions U → UnitFunctions (with_tail_marks P item A k).functions U
tail_marks_keep P item A k U is = another_keeps P.functions item A.function (tailed A.run A.home.around.loops k.params A.function) U is (tailed_returns U A.run A.home.around.loops k.params A.function)
