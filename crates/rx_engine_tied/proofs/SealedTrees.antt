-- A mark that a tree has not, and that is not put in, no walk of the tree with changes holds: form by form, where blocks, jumps and what is
-- returned may be something else.
use Rattle.std.proofs.Common.{◌≡◌, ℕ, Bool, true, false, List, [], ◌∷◌, ◌++◌, refl, sym, ap, ◌∙◌}
use Rattle.rx_core.specs.declared.types.Step.{Step}
use Rattle.rx_typed.specs.Tree.{Making, tuple, Mode, by_reference, by_value, Temporary, Mark, read, borrow, share, build, unit, lazily, assign, update, call, input, print, block, choose, loop, jump, give, Exp, Operands, no_operand, operand_and, Scrutinee, at_place, of_value, Arms, no_arm, arm_and, Body, ends, runs, declares, lets, fields_of, mark_of, Parameter, temporaries_of, temporary_at, temporary_of}
use Rattle.rx_lower_walks.specs.Matching.{Binding, bindings, PartTest, tests}
use Rattle.rx_lower_walks.specs.Actions.{Action, in_place, in_temporary, Subject, subject, taking}
use Rattle.rx_lower_walks.specs.Orders.{beginning, binding, declaring, Order, order, order_all, order_arms, order_body, order_scrutinee, perhaps, testing}
use Rattle.rx_lower_walks.specs.Orders as o
use Rattle.rx_lower_walks.specs.Walks.{actions_in, Among, here, there}
use Rattle.rx_exits_plan.specs.Blocks.{bound}
use Rattle.rx_exits_plan.specs.Changed.{Changes, changed, changed_all, changed_arms, changed_body, changed_matched}
use Rattle.rx_exits_plan.specs.Spots.{a_block, a_return, Around, Spot, spots, spots_armed, spots_in, spots_matched, spots_of, with_loop, with_variables}
use Rattle.rx_exits_plan.specs.Unmarked.{is_mark, makes_mark}
use Rattle.rx_hoist_meant.proofs.Patterns.{among_left, among_right, among_split, none_among}
use Rattle.rx_engine_related.proofs.Bare.{NoMarks}
use Rattle.rx_engine_related.proofs.Sole.{of_binding as binding_bare, of_declaring as declaring_bare, of_testing as testing_bare}
use Rattle.rx_engine_tied.proofs.Sealed.{free, s_ending, s_or, s_otherwise, s_passes, s_then, Sealed}

module _ (m : Action) (mark : is_mark m.act ≡ true) where
  pub act_sealed : (b : Action) → (b ≡ m → ⊥) → Sealed m (o.act b)
  act_sealed b n = free (λ a i e. at i e)
    where
      at : {a : Action} → Among a (b ∷ []) → a ≡ m → ⊥
      at here e = n e
      at (there j) e = none_among j

  clash : true ≡ false → ⊥
  clash e = cc

  pub plain_sealed : (b : Action) → is_mark b.act ≡ false → Sealed m (o.act b)
  plain_sealed b f = act_sealed b (λ e. clash (sym (ap (λ (c : Action). is_mark c.act) e ∙ mark) ∙ f))

  -- a part without marks
  bare_not : (s : Order) → NoMarks s → (a : Action) → Among a (actions_in s) → is_mark a.act ≡ false
  bare_not o.nothing h a i = absurd (none_among i)
  bare_not o.nowhere h a i = absurd (none_among i)
  bare_not (o.act b) h a i = at i h
    where
      at : {c : Action} → Among a (c ∷ []) → is_mark c.act ≡ false → is_mark a.act ≡ false
      at here f = f
      at (there j) f = absurd (none_among j)
  bare_not (o.then s t) h a i = among_split a (actions_in s) (actions_in t) (is_mark a.act ≡ false) i (λ j. bare_not s h.0 a j) (λ j. bare_not t h.1 a j)
  bare_not (o.or s t) h a i = among_split a (actions_in s) (actions_in t) (is_mark a.act ≡ false) i (λ j. bare_not s h.0 a j) (λ j. bare_not t h.1 a j)
  bare_not (o.leave x) h a i = absurd (none_among i)
  bare_not o.fail h a i = absurd (none_among i)
  bare_not (o.otherwise s t) h a i = among_split a (actions_in s) (actions_in t) (is_mark a.act ≡ false) i (λ j. bare_not s h.0 a j) (λ j. bare_not t h.1 a j)
  bare_not (o.ending n x s) h a i = bare_not s h a i
  bare_not (o.passes l s) h a i = bare_not s h a i

  pub bare_sealed : {s : Order} → NoMarks s → Sealed m s
  bare_sealed {s} h = free (λ a i e. clash (sym (ap (λ (c : Action). is_mark c.act) e ∙ mark) ∙ bare_not s h a i))

  pub nothing_sealed : Sealed m o.nothing
  nothing_sealed = free (λ a i e. none_among i)

  nowhere_sealed : Sealed m o.nowhere
  nowhere_sealed = free (λ a i e. none_among i)

  fail_sealed : Sealed m o.fail
  fail_sealed = free (λ a i e. none_among i)

  pub leave_sealed : (x : o.Exit) → Sealed m (o.leave x)
  leave_sealed x = free (λ a i e. none_among i)

  -- ---- patterns

  testing_sealed : (S : Subject) (ts : List PartTest) {r : Order} → Sealed m r → Sealed m (testing S ts r)
  testing_sealed S [] h = h
  testing_sealed S (t ∷ ts) h = s_then (plain_sealed _ refl) (s_or (testing_sealed S ts h) fail_sealed)

  taking_sealed : (n : ℕ) (k : Mode) (S : Subject) (ss : List Step) (d : Temporary) → Sealed m (perhaps n (taking k S ss d))
  taking_sealed n (by_reference v) S ss d = plain_sealed _ refl
  taking_sealed n (by_value v) (in_place p) ss d = plain_sealed _ refl
  taking_sealed n (by_value v) (in_temporary t) ss d = nothing_sealed

  pub binding_sealed : (S : Subject) (bs : List Binding) (n : ℕ) {r : Order} → Sealed m r → Sealed m (binding S bs n r)
  binding_sealed S [] n h = h
  binding_sealed S (b ∷ bs) n h = s_then (taking_sealed b.node b.mode S b.steps (temporary_at b.node 0)) (s_then (plain_sealed _ refl) (s_then (plain_sealed _ refl) (s_ending (binding_sealed S bs n h))))

  pub declaring_sealed : (k : ℕ) (ys : List ℕ) (n : ℕ) {r : Order} → Sealed m r → Sealed m (declaring k ys n r)
  declaring_sealed k [] n h = h
  declaring_sealed k (y ∷ ys) n h = s_then (plain_sealed _ refl) (s_ending (declaring_sealed k ys n h))

  pub beginning_sealed : (ps : List Parameter) (n : ℕ) {r : Order} → Sealed m r → Sealed m (beginning ps n r)
  beginning_sealed [] n h = h
  beginning_sealed (p ∷ ps) n h = s_then (plain_sealed _ refl) (s_then (plain_sealed _ refl) (s_ending (beginning_sealed ps n h)))

  -- ---- trees

  -- what is made of something is no mark
  not_of_none : (v : Making) (i : ℕ) (is : List ℕ) (ts : List Temporary) → makes_mark v (i ∷ is) ts ≡ false
  not_of_none tuple i is ts = refl
  not_of_none _ i is ts = refl

  module _ (L : List Spot) where
    abbrev pub Within : List Spot → Type 0
    Within ss = (s : Spot) → Among s ss → Among s L

    first_within : (ss ts : List Spot) → Within (ss ++ ts) → Within ss
    first_within ss ts w s i = w s (among_left ss ts i)

    rest_within : (ss ts : List Spot) → Within (ss ++ ts) → Within ts
    rest_within ss ts w s i = w s (among_right ss ts i)

    pub record Sealing (C : Changes) : Type 0 where
      pub at_block : (a : Around) (n : ℕ) (was b : Body) (d f : Temporary) → Among (a_block a n was) L → Within (spots_of a was) → NoMarks (order_body was n f) → ((d : Temporary) → Sealed m (order_body b n d)) → Sealed m (order_body (C.at_block n was b) n d)
      pub at_jump : (k : Mark) (j : ℕ) (again : Bool) (d : Temporary) → Sealed m (order (C.at_jump k j again) d)
      pub at_return : (e : Exp) → ((d : Temporary) → Sealed m (order e d)) → (d : Temporary) → Sealed m (order (C.at_return e) d)

    module _ (C : Changes) (G : Sealing C) where
      built : (v : Making) (es : Operands) → makes_mark v (fields_of es) (temporaries_of es) ≡ false → makes_mark v (fields_of (changed_all C es)) (temporaries_of (changed_all C es)) ≡ false
      built v no_operand e = e
      built v (operand_and i e es) h = not_of_none v i (fields_of (changed_all C es)) (temporary_of (changed C e) ∷ temporaries_of (changed_all C es))

      mutual
        pub exp_sealed : (e : Exp) (a : Around) (d f : Temporary) → NoMarks (order e f) → Within (spots a e) → Sealed m (order (changed C e) d)
        exp_sealed (read k v p) a d f i w = plain_sealed _ refl
        exp_sealed (borrow k v p) a d f i w = plain_sealed _ refl
        exp_sealed (share k e) a d f i w = s_then (exp_sealed e a (temporary_at k.node 1) (temporary_at k.node 1) i.0 w) (plain_sealed _ refl)
        exp_sealed (build k v es) a d f i w = s_then (all_sealed es a i.0 w) (plain_sealed _ (built v es i.1))
        exp_sealed (unit k) a d f i w = nothing_sealed
        exp_sealed (lazily k b e g) a d f i w =
            s_then (exp_sealed e a (temporary_of (changed C e)) (temporary_of e) i.0 (first_within (spots a e) (spots a g) w))
            (s_then (plain_sealed _ refl) (s_then (s_or (exp_sealed g a (temporary_of (changed C g)) (temporary_of g) i.1.1.0.0 (rest_within (spots a e) (spots a g) w)) nothing_sealed) (plain_sealed _ refl)))
        exp_sealed (assign k p e) a d f i w = s_then (exp_sealed e a (temporary_of (changed C e)) (temporary_of e) i.0 w) (plain_sealed _ refl)
        exp_sealed (update k v p e) a d f i w = s_then (exp_sealed e a (temporary_of (changed C e)) (temporary_of e) i.0 w) (s_then (plain_sealed _ refl) (s_then (plain_sealed _ refl) (plain_sealed _ refl)))
        exp_sealed (call k g es) a d f i w = s_then (all_sealed es a i.0 w) (plain_sealed _ refl)
        exp_sealed (input k) a d f i w = plain_sealed _ refl
        exp_sealed (print k e) a d f i w = s_then (exp_sealed e a (temporary_of (changed C e)) (temporary_of e) i.0 w) (plain_sealed _ refl)
        exp_sealed (block k b) a d f i w =
            G.at_block a k.node b (changed_body C b) d f (w (a_block a k.node b) here) (λ s j. w s (there j)) i (λ z. body_sealed b k.node a z f i (λ s j. w s (there j)))
        exp_sealed (choose k s r) a d f i w =
            s_then (matched_sealed s a i.0 (first_within (spots_matched a s) (spots_armed a r) w)) (arms_sealed (subject s) (subject (changed_matched C s)) r a d f i.1 (rest_within (spots_matched a s) (spots_armed a r) w))
        exp_sealed (loop k j e) a d f i w = s_passes (exp_sealed e (with_loop j a) (temporary_of (changed C e)) (temporary_of e) i w)
        exp_sealed (jump k j again) a d f i w = G.at_jump k j again d
        exp_sealed (give k e) a d f i w =
            s_then (G.at_return (changed C e) (λ z. exp_sealed e a z (temporary_of e) i.0 (first_within (spots a e) (a_return a k.node ∷ []) w)) (temporary_of (C.at_return (changed C e))))
            (s_then (plain_sealed _ refl) (leave_sealed _))

        all_sealed : (es : Operands) (a : Around) → NoMarks (order_all es) → Within (spots_in a es) → Sealed m (order_all (changed_all C es))
        all_sealed no_operand a i w = nothing_sealed
        all_sealed (operand_and j e es) a i w = s_then (exp_sealed e a (temporary_of (changed C e)) (temporary_of e) i.0 (first_within (spots a e) (spots_in a es) w)) (all_sealed es a i.1 (rest_within (spots a e) (spots_in a es) w))

        pub matched_sealed : (s : Scrutinee) (a : Around) → NoMarks (order_scrutinee s) → Within (spots_matched a s) → Sealed m (order_scrutinee (changed_matched C s))
        matched_sealed (at_place k p) a i w = nothing_sealed
        matched_sealed (of_value e) a i w = exp_sealed e a (temporary_of (changed C e)) (temporary_of e) i w

        arms_sealed : (S T : Subject) (r : Arms) (a : Around) (d f : Temporary) → NoMarks (order_arms S r f) → Within (spots_armed a r) → Sealed m (order_arms T (changed_arms C r) d)
        arms_sealed S T no_arm a d f i w = nowhere_sealed
        arms_sealed S T (arm_and p e r) a d f i w =
            let z : Order = order e f in
            let q = binding S (bindings [] p) (mark_of e).node z in
            let inner = exp_sealed e (with_variables (bound p) a) d f (binding_bare S (bindings [] p) (mark_of e).node z (testing_bare S (tests [] p) q i.0)) (first_within (spots (with_variables (bound p) a) e) (spots_armed a r) w) in
            s_otherwise (testing_sealed T (tests [] p) (binding_sealed T (bindings [] p) (mark_of (changed C e)).node inner)) (arms_sealed S T r a d f i.1 (rest_within (spots (with_variables (bound p) a) e) (spots_armed a r) w))

        body_sealed : (b : Body) (n : ℕ) (a : Around) (d f : Temporary) → NoMarks (order_body b n f) → Within (spots_of a b) → Sealed m (order_body (changed_body C b) n d)
        body_sealed (ends e) n a d f i w = exp_sealed e a d f i w
        body_sealed (runs e b) n a d f i w = s_then (exp_sealed e a (temporary_of (changed C e)) (temporary_of e) i.0 (first_within (spots a e) (spots_of a b) w)) (body_sealed b n a d f i.1 (rest_within (spots a e) (spots_of a b) w))
        body_sealed (declares s xs b) n a d f i w = declaring_sealed s xs n (body_sealed b n (with_variables xs a) d f (declaring_bare s xs n (order_body b n f) i) w)
        body_sealed (lets s p c b) n a d f i w =
            s_then (matched_sealed c a i.0 (first_within (spots_matched a c) (spots_of (with_variables (bound p) a) b) w)) (binding_sealed (subject (changed_matched C c)) (bindings [] p) n
            (body_sealed b n (with_variables (bound p) a) d f (binding_bare (subject c) (bindings [] p) n (order_body b n f) i.1) (rest_within (spots_matched a c) (spots_of (with_variables (bound p) a) b) w)))
