-- A function with marks is like the function, if that is like itself: form by form, on what makes it so.
use Rattle.std.proofs.Common.{◌≡◌, ℕ, ℤ, List, [], ◌∷◌, Option, refl, sym, ap, ◌∙◌, subst, arith}
use Rattle.rx_typed.specs.Tree as tree
use Rattle.rx_typed.specs.Tree.{Mark, Parameter, Exp, Operands, Scrutinee, Arms, Body, Function, fields_of, mark_of, temporary_at}
use Rattle.rx_lower_walks.specs.Matching.{Binding, tests, bindings}
use Rattle.rx_lower_walks.specs.Actions.{Subject, in_temporary, subject}
use Rattle.rx_exits_plan.specs.Points.{Point}
use Rattle.rx_exits_plan.specs.Marked.{mark_then}
use Rattle.rx_meaning.specs.Programs.{Program, run}
use Rattle.rx_engine_simulation.specs.Turns.{Allowance}
use Rattle.rx_engine_simulation.specs.Fits.{Complete, Fitting}
use Rattle.rx_engine_simulation.specs.Histories.{Facts}
use Rattle.rx_engine_simulation.specs.Sights.{In, How, Renaming}
use Rattle.rx_engine_simulation.specs.Binders.{NewHow, new_plain, new_special, LikeDeclared, none_new, new_and, LikeParams, no_param, param_and, LikeBindings, no_binding, binding_and, LikeTests}
use Rattle.rx_engine_simulation.specs.Jumps.{Jumping}
use Rattle.rx_engine_simulation.specs.Openings.{no_openings}
use Rattle.rx_engine_simulation.specs.Like.{LikeExp, opens, LikeAll, LikeMatched, LikeArms, LikeBody, opens_in, reads, borrows, views, shares, builds, builds_structs, builds_variants, units, lazies, assigns, updates, calls, inputs, prints, blocks, chooses, loops, stays, gives, no_operands, operands_and, at_places, of_values, no_arms, arms_and, ends_in, runs_on, declares_all, lets_in, reads_place, looks_behind}
use Rattle.rx_engine_simulation.specs.Programs.{LikeFunction, LikeEntry, functions, neither}
use Rattle.rx_engine_simulation.specs.Blocks.{done, before}
use Rattle.rx_engine_simulation.specs.Marks.{with_mark, marks, marks_expression, marks_value, marks_statements}
use Rattle.rx_engine_simulation.specs.Marked.{Marked}
use Rattle.rx_engine_simulation.specs.Passed.{let_pass}
use Rattle.rx_engine_simulation.specs.Marking.{Beside, in_front_of, behind_value, marks_before, marks_in, AllWritten, none_read, read_and, MarkedExp, in_front, MarkedInside, m_read, m_borrow, m_share, m_build, m_unit, m_lazily, m_assign, m_update, m_call, m_input, m_print, m_block, m_choose, m_loop, m_jump, m_give, MarkedAll, m_no_operand, m_operand_and, MarkedMatched, m_at_place, m_of_value, MarkedArms, m_no_arm, m_arm_and, MarkedBody, in_block, MarkedStatement, m_ends, m_runs, m_declares, m_lets, no_one, facts_alone, without_turns, TreeEntry, with_marks, without_marks, no_function, MarkedTrees}
use Rattle.rx_engine_simulation.proofs.Marked.{marked_alike}

-- ---- what a mark leaves as it is

marks_mark : (ps : List Beside) (e : Exp) → mark_of (marks_before ps e) ≡ mark_of e
marks_mark [] e = refl
marks_mark (in_front_of p ∷ ps) e = marks_mark ps e
marks_mark (behind_value ∷ ps) e = marks_mark ps e

inside_mark : {V : Facts} {e e1 : Exp} → MarkedInside V e e1 → mark_of e1 ≡ mark_of e
inside_mark m_read = refl
inside_mark m_borrow = refl
inside_mark (m_share m) = refl
inside_mark (m_build m) = refl
inside_mark m_unit = refl
inside_mark (m_lazily m n) = refl
inside_mark (m_assign m) = refl
inside_mark (m_update m) = refl
inside_mark (m_call m) = refl
inside_mark m_input = refl
inside_mark (m_print m) = refl
inside_mark (m_block m) = refl
inside_mark (m_choose m n) = refl
inside_mark (m_loop m) = refl
inside_mark m_jump = refl
inside_mark (m_give m) = refl

subject_same : {V : Facts} {c c1 : Scrutinee} → MarkedMatched V c c1 → subject c1 ≡ subject c
subject_same m_at_place = refl
subject_same (m_of_value (in_front {e = e} {e1 = e1} ps m)) =
    ap (λ (w : Mark). in_temporary (temporary_at w.node 0)) (marks_mark ps e1) ∙ ap (λ (w : Mark). in_temporary (temporary_at w.node 0)) (inside_mark m)

fields_same : {V : Facts} {es es1 : Operands} → MarkedAll V es es1 → fields_of es1 ≡ fields_of es
fields_same m_no_operand = refl
fields_same (m_operand_and {i = i} m ms) = ap (λ l. i ∷ l) (fields_same ms)

-- ---- form by form

module _ (items : ℕ → ℕ) (g : Allowance) (V W : Facts) (too : (x : ℕ) → V.Special x → W.Special x) where
  new_how : {x : ℕ} {w : How} → NewHow V x w → NewHow W x w
  new_how (new_plain w f) = new_plain w f
  new_how {x} (new_special s) = new_special (too x s)

  declared_like : {R Ra : Renaming} {xs ys : List ℕ} → LikeDeclared V R xs ys Ra → LikeDeclared W R xs ys Ra
  declared_like none_new = none_new
  declared_like (new_and w f none u l) = new_and w (new_how f) none u (declared_like l)

  pub params_like : {R Ra : Renaming} {ps qs : List Parameter} → LikeParams V R ps qs Ra → LikeParams W R ps qs Ra
  params_like no_param = no_param
  params_like (param_and w f none u l) = param_and w (new_how f) none u (params_like l)

  bindings_like : {S S' : Subject} {R Ra : Renaming} {bs bs' : List Binding} → LikeBindings V S S' R bs bs' Ra → LikeBindings W S S' R bs bs' Ra
  bindings_like no_binding = no_binding
  bindings_like (binding_and w l way f none u bs) = binding_and w l way (new_how f) none u (bindings_like bs)

  front : {k : ℕ} {J : Jumping} {R : Renaming} {e1 e' : Exp} (ps : List Beside) → LikeExp items marks g W k J R e1 e' → LikeExp items marks g W k J R (marks_before ps e1) e'
  front [] l = l
  front {k} {e1 = e1} {e' = e'} (behind_value ∷ ps) l = opens {e = marks_before ps e1} {e' = e'} {f = λ e. let_pass e} {f' = λ e. e} 0 k (omega arith) marks_value (front ps l)
  front {k} {e1 = e1} {e' = e'} (in_front_of p ∷ ps) l = opens {e = marks_before ps e1} {e' = e'} {f = λ e. mark_then p e} {f' = λ e. e} 0 k (omega arith) (marks_expression p) (front ps l)

  front_body : {k : ℕ} {J : Jumping} {R : Renaming} {b1 b' : Body} (ms : List (Point × List ℕ)) → AllWritten W ms → LikeBody items marks g W k J R b1 b' → LikeBody items marks g W k J R (marks_in ms b1) b'
  front_body [] none_read l = l
  front_body {k} {b1 = b1} {b' = b'} (_ ∷ ms) (read_and {p = p} {xs = xs} a as1) l =
      opens_in {b = marks_in ms b1} {b' = b'} {f = λ b. before (with_mark p xs done) b} {f' = λ b. b} 0 k (omega arith) (marks_statements p xs a) (front_body ms as1 l)

  mutual
    pub exp_like : {k : ℕ} {J : Jumping} {R : Renaming} {e e' e1 : Exp} → LikeExp items no_openings g V k J R e e' → MarkedExp W e e1 → LikeExp items marks g W k J R e1 e'
    exp_like (opens a i le o l) m = absurd o
    exp_like (reads p) (in_front ps m_read) = front ps (reads p)
    exp_like (borrows p) (in_front ps m_borrow) = front ps (borrows p)
    exp_like (views seen) (in_front ps m_borrow) = front ps (views seen)
    exp_like (shares l) (in_front ps (m_share m)) = front ps (shares (exp_like l m))
    exp_like (builds {w = w} f l) (in_front ps (m_build m)) = front ps (builds (subst (λ fs. Fitting w fs) (sym (fields_same m)) f) (all_like l m))
    exp_like (builds_structs c l) (in_front ps (m_build m)) = front ps (builds_structs (subst (λ fs. Complete fs) (sym (fields_same m)) c) (all_like l m))
    exp_like (builds_variants c l) (in_front ps (m_build m)) = front ps (builds_variants (subst (λ fs. Complete fs) (sym (fields_same m)) c) (all_like l m))
    exp_like units (in_front ps m_unit) = front ps units
    exp_like (lazies i j le l r) (in_front ps (m_lazily m n)) = front ps (lazies i j le (exp_like l m) (exp_like r n))
    exp_like (assigns p l) (in_front ps (m_assign m)) = front ps (assigns p (exp_like l m))
    exp_like (updates p q l) (in_front ps (m_update m)) = front ps (updates p q (exp_like l m))
    exp_like (calls l) (in_front ps (m_call m)) = front ps (calls (all_like l m))
    exp_like inputs (in_front ps m_input) = front ps inputs
    exp_like (prints l) (in_front ps (m_print m)) = front ps (prints (exp_like l m))
    exp_like (blocks l) (in_front ps (m_block m)) = front ps (blocks (body_like l m))
    exp_like (chooses i j le l la) (in_front ps (m_choose m n)) = front ps (chooses i j le (matched_like l m) (arms_like la (subject_same m) n))
    exp_like (loops apart a b l) (in_front ps (m_loop m)) = front ps (loops apart a b (exp_like l m))
    exp_like (stays f) (in_front ps m_jump) = front ps (stays f)
    exp_like (gives f l) (in_front ps (m_give m)) = front ps (gives f (exp_like l m))

    all_like : {k : ℕ} {J : Jumping} {R : Renaming} {es es' es1 : Operands} → LikeAll items no_openings g V k J R es es' → MarkedAll W es es1 → LikeAll items marks g W k J R es1 es'
    all_like no_operands m_no_operand = no_operands
    all_like (operands_and i j le l ls) (m_operand_and m ms) = operands_and i j le (exp_like l m) (all_like ls ms)

    matched_like : {k : ℕ} {J : Jumping} {R : Renaming} {c c' c1 : Scrutinee} → LikeMatched items no_openings g V k J R c c' → MarkedMatched W c c1 → LikeMatched items marks g W k J R c1 c'
    matched_like at_places m_at_place = at_places
    matched_like (of_values l) (m_of_value m) = of_values (exp_like l m)

    arms_like : {k : ℕ} {J : Jumping} {R : Renaming} {c c1 c' : Scrutinee} {l l1 l' : Arms} → LikeArms items no_openings g V k J R c c' l l' → subject c1 ≡ subject c → MarkedArms W l l1 → LikeArms items marks g W k J R c1 c' l1 l'
    arms_like no_arms is m_no_arm = no_arms
    arms_like {R = R} {c' = c'} (arms_and {q = q} {q' = q'} Ra lt lb la ls) is (m_arm_and m ms) =
        arms_and Ra (subst (λ S. LikeTests R S (subject c') (tests [] q) (tests [] q')) (sym is) lt) (subst (λ S. LikeBindings W S (subject c') R (bindings [] q) (bindings [] q') Ra) (sym is) (bindings_like lb)) (exp_like la m) (arms_like ls is ms)

    body_like : {k : ℕ} {J : Jumping} {R : Renaming} {b b' b1 : Body} → LikeBody items no_openings g V k J R b b' → MarkedBody W b b1 → LikeBody items marks g W k J R b1 b'
    body_like (opens_in a i le o l) m = absurd o
    body_like (ends_in l) (in_block ms aw (m_ends m)) = front_body ms aw (ends_in (exp_like l m))
    body_like (runs_on i j le l lb) (in_block ms aw (m_runs m mb)) = front_body ms aw (runs_on i j le (exp_like l m) (body_like lb mb))
    body_like (declares_all Ra ld lb) (in_block ms aw (m_declares mb)) = front_body ms aw (declares_all Ra (declared_like ld) (body_like lb mb))
    body_like {R = R} (lets_in {q = q} {q' = q'} {c' = c'} Ra i j le lc lp lb) (in_block ms aw (m_lets m mb)) =
        front_body ms aw (lets_in Ra i j le (matched_like lc m) (subst (λ S. LikeBindings W S (subject c') R (bindings [] q) (bindings [] q') Ra) (sym (subject_same m)) (bindings_like lp)) (body_like lb mb))
    body_like (reads_place l) m = reads_place (body_like l m)
    body_like (looks_behind x seen behind l) m = looks_behind x seen behind (body_like l m)

-- ---- without marks

module _ (V : Facts) where
  mutual
    pub inside_itself : (e : Exp) → MarkedInside V e e
    inside_itself (tree.read m v p) = m_read
    inside_itself (tree.borrow m k p) = m_borrow
    inside_itself (tree.share m e) = m_share (in_front [] (inside_itself e))
    inside_itself (tree.build m w es) = m_build (all_itself es)
    inside_itself (tree.unit m) = m_unit
    inside_itself (tree.lazily m b e f) = m_lazily (in_front [] (inside_itself e)) (in_front [] (inside_itself f))
    inside_itself (tree.assign m p e) = m_assign (in_front [] (inside_itself e))
    inside_itself (tree.update m o p e) = m_update (in_front [] (inside_itself e))
    inside_itself (tree.call m f es) = m_call (all_itself es)
    inside_itself (tree.input m) = m_input
    inside_itself (tree.print m e) = m_print (in_front [] (inside_itself e))
    inside_itself (tree.block m b) = m_block (in_block [] none_read (statement_itself b))
    inside_itself (tree.choose m s l) = m_choose (matched_itself s) (arms_itself l)
    inside_itself (tree.loop m l e) = m_loop (in_front [] (inside_itself e))
    inside_itself (tree.jump m l k) = m_jump
    inside_itself (tree.give m e) = m_give (in_front [] (inside_itself e))

    all_itself : (es : Operands) → MarkedAll V es es
    all_itself tree.no_operand = m_no_operand
    all_itself (tree.operand_and i e es) = m_operand_and (in_front [] (inside_itself e)) (all_itself es)

    pub matched_itself : (s : Scrutinee) → MarkedMatched V s s
    matched_itself (tree.at_place m p) = m_at_place
    matched_itself (tree.of_value e) = m_of_value (in_front [] (inside_itself e))

    arms_itself : (l : Arms) → MarkedArms V l l
    arms_itself tree.no_arm = m_no_arm
    arms_itself (tree.arm_and p e l) = m_arm_and (in_front [] (inside_itself e)) (arms_itself l)

    pub statement_itself : (b : Body) → MarkedStatement V b b
    statement_itself (tree.ends e) = m_ends (in_front [] (inside_itself e))
    statement_itself (tree.runs e b) = m_runs (in_front [] (inside_itself e)) (in_block [] none_read (statement_itself b))
    statement_itself (tree.declares s xs b) = m_declares (in_block [] none_read (statement_itself b))
    statement_itself (tree.lets s p c b) = m_lets (matched_itself c) (in_block [] none_read (statement_itself b))

  pub itself : (e : Exp) → MarkedExp V e e
  itself e = in_front [] (inside_itself e)

  pub body_itself : (b : Body) → MarkedBody V b b
  body_itself b = in_block [] none_read (statement_itself b)

-- ---- programs

function_like : {g g1 : Function} (l : LikeFunction (λ f. f) no_openings without_turns g g) → l.about.special ≡ [] → g1.params ≡ g.params → MarkedExp (facts_alone g1) g.body g1.body → LikeFunction (λ f. f) marks without_turns g1 g
function_like {g} {g1} l none same m = record {
  about = no_one;
  untouched = λ a h x i. absurd i;
  inside = l.inside;
  params = subst (λ ps. LikeParams (facts_alone g1) [] ps g.params l.inside) (sym same) (params_like (λ f. f) without_turns _ (facts_alone g1) (λ x s. subst (λ l. In x l) none s) l.params);
  body = exp_like (λ f. f) without_turns _ (facts_alone g1) (λ x s. subst (λ l. In x l) none s) l.body m;
}

entry_like : {o o1 : Option (Option Function)} → TreeEntry o o1 → LikeEntry (λ f. f) marks without_turns o1 o
entry_like (with_marks l none same m) = functions (function_like l none same m)
entry_like (without_marks {g = g} l none) = functions (function_like l none refl (itself (facts_alone g) g.body))
entry_like (no_function n n') = neither n' n

pub trees_marked : (P T : Program) → MarkedTrees P T → Marked T P
trees_marked P T w = record { items = λ f. f; alike = record { all = λ f. entry_like (w.entries f); mains = sym w.mains } }

pub trees_alike : (P T : Program) → MarkedTrees P T → (given : List ℤ) (n : ℕ) → run T given n ≡ run P given n
trees_alike P T w given n = marked_alike T P (trees_marked P T w) given n
