-- The orders of trees that are alike match, form by form.
use Rattle.std.proofs.Common.{◌≡◌, ℕ, Bool, true, false, List, [], ◌∷◌, ◌++◌, Option, Some, None, refl, sym, subst, ap}
use Rattle.rx_typed.specs.Tree as tree
use Rattle.rx_typed.specs.Tree.{Mark, Temporary, Exp, Operands, Scrutinee, Arms, Body, Parameter, Function, mark_of, temporary_at, temporary_of}
use Rattle.rx_lower_walks.specs.Matching.{PartTest, Binding, tests, bindings}
use Rattle.rx_lower_walks.specs.Actions.{Act, Declare, Action, does, Subject, subject, taken}
use Rattle.rx_lower_walks.specs.Orders.{Order, exit, testing, perhaps, binding, declaring, beginning, order, order_all, order_scrutinee, order_arms, order_body, order_function}
use Rattle.rx_lower_walks.specs.Walks.{Out, Walk, IsWalk, Among, here}
use Rattle.rx_facts_tables.specs.Initialised.{Initialised}
use Rattle.rx_meaning_keeping.proofs.Parts.{Parted}
use Rattle.rx_engine_initial.specs.Matching.{SameExit, both_break, both_continue, both_return, Reach, Matches, is_nothing, is_nowhere, is_act, is_then, is_or, is_leave, is_fail, is_otherwise, is_ending, is_passes, is_beginning}
use Rattle.rx_engine_initial.specs.Variables.{Kept, as_itself, both_end, Sides, KnownVariables}
use Rattle.rx_engine_initial.specs.Copies.{IsCopy, writes, easily, in_temporary, easy_borrow, easy_test, easy_build, easy_call, easy_input, easy_print, easy_give, BeginsSo, begins_so, world}
use Rattle.rx_engine_initial.specs.Entered.{OneMore}
use Rattle.rx_engine_initial.proofs.Tracing.{nil_right}
use Rattle.rx_engine_initial.proofs.Functions.{initialised_so}
use Rattle.rx_engine_initial_forms.specs.Binders.{AlikeDeclared, none_declared, declares_one, AlikeParams, no_param, param_and, AlikeTaken, takes_none, takes_both, AlikeBindings, no_binding, binding_and, AlikeTests, no_test, test_and}
use Rattle.rx_engine_initial_forms.specs.Alike.{AlikeExp, is_opened, reads, borrows, shares, builds, units, lazies, assigns, updates, calls, inputs, prints, blocks, chooses, loops, jumps, gives, AlikeAll, no_operands, operands_and, AlikeMatched, at_places, of_values, AlikeArms, no_arms, arms_and, AlikeBody, is_opened_body, ends_in, runs_on, declares_all, lets_in, AlikeFunction}

module _ (S : Sides) where
  pub one_there : {R T : KnownVariables S} {x y : ℕ} → OneMore S R T (as_itself x y) → Among (as_itself x y) T.variables
  one_there {x = x} {y = y} o = subst (λ vs. Among (as_itself x y) vs) (sym o.variables) here

  all_declared : {R T : KnownVariables S} {xs ys : List ℕ} → AlikeDeclared S R xs ys T → (s t m n : ℕ) (a b : Order) → Matches (world S) T a b → Matches (world S) R (declaring s xs m a) (declaring t ys n b)
  all_declared none_declared s t m n a b h = h
  all_declared (declares_one o d) s t m n a b h = is_beginning (begins_so o.variables o.loops) (is_ending (one_there o) (all_declared d s t m n a b h))

  all_params : {R T : KnownVariables S} {ps qs : List Parameter} → AlikeParams S R ps qs T → (m n : ℕ) (a b : Order) → Matches (world S) T a b → Matches (world S) R (beginning ps m a) (beginning qs n b)
  all_params no_param m n a b h = h
  all_params (param_and o d) m n a b h = is_beginning (begins_so o.variables o.loops) (is_then (is_act (writes (one_there o) both_end)) (is_ending (one_there o) (all_params d m n a b h)))

  pub taken_match : {R : KnownVariables S} {a b : Option Act} → AlikeTaken R.variables a b → (m n : ℕ) → Matches (world S) R (perhaps m a) (perhaps n b)
  taken_match takes_none m n = is_nothing
  taken_match (takes_both c) m n = is_act c

  all_bound : {X Y : Subject} {R T : KnownVariables S} {bs cs : List Binding} → AlikeBindings S X Y R bs cs T → (m n : ℕ) (a b : Order) → Matches (world S) T a b → Matches (world S) R (binding X bs m a) (binding Y cs n b)
  all_bound no_binding m n a b h = h
  all_bound (binding_and {b = c} {c = d} t o r) m n a b h = is_then (taken_match t c.node d.node) (is_beginning (begins_so o.variables o.loops)
      (is_then (is_act (writes (one_there o) both_end)) (is_ending (one_there o) (all_bound r m n a b h))))

  all_tested : {X Y : Subject} {R : KnownVariables S} {ts us : List PartTest} → AlikeTests R.variables X Y ts us → (a b : Order) → Matches (world S) R a b → Matches (world S) R (testing X ts a) (testing Y us b)
  all_tested no_test a b h = h
  all_tested (test_and c r) a b h = is_then (is_act c) (is_or (all_tested r a b h) is_fail)

  same_exit : (R : KnownVariables S) {l k : ℕ} (again : Bool) (m n : ℕ) → Among (l, k) R.loops → SameExit (λ i j. Among (i, j) R.loops) (exit m l again) (exit n k again)
  same_exit R true m n i = both_continue i
  same_exit R false m n i = both_break i

  mutual
    pub exp_matches : {R : KnownVariables S} {e f : Exp} → AlikeExp S R e f → (d t : Temporary) → Matches (world S) R (order e d) (order f t)
    exp_matches (is_opened h) d t = h d t
    exp_matches (reads c) d t = is_act (c d t)
    exp_matches (borrows c) d t = is_act (c d t)
    exp_matches (shares {m = m} {n = n} h) d t = is_then (exp_matches h (temporary_at m.node 1) (temporary_at n.node 1)) (is_act (easily (easy_borrow in_temporary) (λ x y i. tt)))
    exp_matches (builds h) d t = is_then (all_match h) (is_act (easily easy_build (λ x y i. tt)))
    exp_matches units d t = is_nothing
    exp_matches (lazies {e = e} {f = f} {g = g} {h = h} a b) d t = is_then (exp_matches a (temporary_of e) (temporary_of f)) (is_then (is_act (easily (easy_test in_temporary) (λ x y i. tt)))
        (is_then (is_or (exp_matches b (temporary_of g) (temporary_of h)) is_nothing) (is_act (easily easy_build (λ x y i. tt)))))
    exp_matches (assigns {e = e} {f = f} c h) d t = is_then (exp_matches h (temporary_of e) (temporary_of f)) (is_act (c (temporary_of e) (temporary_of f)))
    exp_matches (updates {m = m} {n = n} {e = e} {f = f} c w h) d t = is_then (exp_matches h (temporary_of e) (temporary_of f)) (is_then (is_act (c (temporary_at m.node 1) (temporary_at n.node 1)))
        (is_then (is_act (easily easy_build (λ x y i. tt))) (is_act (w (temporary_at m.node 2) (temporary_at n.node 2)))))
    exp_matches (calls h) d t = is_then (all_match h) (is_act (easily easy_call (λ x y i. tt)))
    exp_matches inputs d t = is_act (easily easy_input (λ x y i. tt))
    exp_matches (prints {e = e} {f = f} h) d t = is_then (exp_matches h (temporary_of e) (temporary_of f)) (is_act (easily easy_print (λ x y i. tt)))
    exp_matches (blocks {m = m} {n = n} h) d t = body_matches h m.node n.node d t
    exp_matches (chooses h l) d t = is_then (matched_matches h) (arms_match l d t)
    exp_matches (loops {e = e} {f = f} i h) d t = is_passes i (exp_matches h (temporary_of e) (temporary_of f))
    exp_matches (jumps {R = R} {m = m} {n = n} again i) d t = is_leave (same_exit R again m.node n.node i)
    exp_matches (gives {e = e} {f = f} h) d t = is_then (exp_matches h (temporary_of e) (temporary_of f)) (is_then (is_act (easily easy_give (λ x y i. tt))) (is_leave both_return))

    all_match : {R : KnownVariables S} {es fs : Operands} → AlikeAll S R es fs → Matches (world S) R (order_all es) (order_all fs)
    all_match no_operands = is_nothing
    all_match (operands_and {e = e} {f = f} h r) = is_then (exp_matches h (temporary_of e) (temporary_of f)) (all_match r)

    pub matched_matches : {R : KnownVariables S} {s t : Scrutinee} → AlikeMatched S R s t → Matches (world S) R (order_scrutinee s) (order_scrutinee t)
    matched_matches at_places = is_nothing
    matched_matches (of_values {e = e} {f = f} h) = exp_matches h (temporary_of e) (temporary_of f)

    arms_match : {X Y : Subject} {R : KnownVariables S} {l k : Arms} → AlikeArms S X Y R l k → (d t : Temporary) → Matches (world S) R (order_arms X l d) (order_arms Y k t)
    arms_match no_arms d t = is_nowhere
    arms_match {X = X} {Y = Y} (arms_and {p = p} {q = q} {e = e} {f = f} c b h r) d t =
        is_otherwise (all_tested c (binding X (bindings [] p) (mark_of e).node (order e d)) (binding Y (bindings [] q) (mark_of f).node (order f t))
        (all_bound b (mark_of e).node (mark_of f).node (order e d) (order f t) (exp_matches h d t))) (arms_match r d t)

    pub body_matches : {R : KnownVariables S} {b c : Body} → AlikeBody S R b c → (m n : ℕ) (d t : Temporary) → Matches (world S) R (order_body b m d) (order_body c n t)
    body_matches (is_opened_body h) m n d t = h m n d t
    body_matches (ends_in h) m n d t = exp_matches h d t
    body_matches (runs_on {e = e} {f = f} h r) m n d t = is_then (exp_matches h (temporary_of e) (temporary_of f)) (body_matches r m n d t)
    body_matches (declares_all {s = i} {t = j} {b = b} {c = c} h r) m n d t = all_declared h i j m n (order_body b m d) (order_body c n t) (body_matches r m n d t)
    body_matches (lets_in {b = b} {c = c} h g r) m n d t = is_then (matched_matches h) (all_bound g m n (order_body b m d) (order_body c n t) (body_matches r m n d t))

  pub function_matches : (f : Function) (h : AlikeFunction S f) → Matches (world S) h.outside (order_function f) (order_function S.text)
  function_matches f h = all_params h.params (mark_of f.body).node (mark_of S.text.body).node (order f.body (temporary_of f.body)) (order S.text.body (temporary_of S.text.body))
      (exp_matches h.body (temporary_of f.body) (temporary_of S.text.body))

  all_reached : Reach (world S) (order_function S.text) []
  all_reached us o w = ([], o, subst (λ l. Walk (order_function S.text) l o) (sym (nil_right us)) w)

  pub alike_initialised : Parted S.frame → Parted S.frame_there → Initialised S.frame_there S.muts_there S.text → (f : Function) → AlikeFunction S f → Initialised S.frame S.muts f
  alike_initialised new old i f h = initialised_so S new old i h.outside h.nothing f (order_function S.text) [] all_reached (function_matches f h)
