-- The marks of a marked function stand in its run's block, where the function has none of its own: form by form. So a walk that holds
-- one came to that block.
use Rattle.std.proofs.Common.{◌≡◌, ℕ, ◌==◌, if◌then◌else◌, Bool, true, false, List, [], ◌∷◌, ◌++◌, refl, sym, ◌∙◌, subst, ap}
use Rattle.rx_core.specs.declared.types.Step.{Step}
use Rattle.rx_typed.specs.Tree.{Temporary, Mode, by_value, by_reference, Exp, read, borrow, share, build, unit, lazily, assign, update, call, input, print, block, choose, loop, jump, give, Operands, no_operand, operand_and, Scrutinee, at_place, of_value, Arms, no_arm, arm_and, Body, ends, runs, declares, lets, Parameter, Function, temporaries_of, fields_of}
use Rattle.rx_lower_walks.specs.Matching.{PartTest, Binding, tests, bindings}
use Rattle.rx_lower_walks.specs.Actions.{Action, Subject, in_place, in_temporary, subject, taking, taken}
use Rattle.rx_lower_walks.specs.Orders.{Order, testing, perhaps, binding, declaring, order, order_all, order_scrutinee, order_arms, order_body, beginning, order_function}
use Rattle.rx_lower_walks.specs.Orders as order
use Rattle.rx_lower_walks.specs.Walks.{stopped, Walk, actions_in, IsWalk, Among, here, there}
use Rattle.rx_lower_walks.proofs.WalksFronts.{fronts}
use Rattle.rx_exits_plan.specs.Runs.{Run}
use Rattle.rx_exits_plan.specs.Points.{Point}
use Rattle.rx_exits_plan.specs.Changed.{changed, changed_all, changed_matched, changed_arms, changed_body}
use Rattle.rx_exits_plan.specs.Marked.{shown, marked_body, at_the_block, marked}
use Rattle.rx_exits_plan.specs.Unmarked.{makes_mark, is_mark}
use Rattle.rx_exits_plan.specs.Coming.{Into, HasNoMark, RunBlock, the_block}
use Rattle.rx_exits_plan.proofs.Trees.{same_fields, same_temporaries}
use Rattle.rx_exits_plan.proofs.Marks.{block_keeps}
use Rattle.rx_exits_plan.proofs.Coming.{goes_on, Covered, is_part, c_nothing, c_nowhere, c_act, c_then, c_or, c_leave, c_fail, c_otherwise, c_ending, c_passes, came}

in_first : {a : Action} {us : List Action} (vs : List Action) → Among a us → Among a (us ++ vs)
in_first vs here = here
in_first vs (there h) = there (in_first vs h)

in_second : {a : Action} (us : List Action) {vs : List Action} → Among a vs → Among a (us ++ vs)
in_second [] h = h
in_second (u ∷ us) h = there (in_second us h)

-- parts of what has no mark have none
left : (s t : Order) → HasNoMark (order.then s t) → HasNoMark s
left s t h = record { none = λ a i. h.none a (in_first (actions_in t) i) }

right : (s t : Order) → HasNoMark (order.then s t) → HasNoMark t
right s t h = record { none = λ a i. h.none a (in_second (actions_in s) i) }

one_of : (s t : Order) → HasNoMark (order.or s t) → HasNoMark s
one_of s t h = record { none = λ a i. h.none a (in_first (actions_in t) i) }

of_arm : (s t : Order) → HasNoMark (order.otherwise s t) → HasNoMark s
of_arm s t h = record { none = λ a i. h.none a (in_first (actions_in t) i) }

of_next : (s t : Order) → HasNoMark (order.otherwise s t) → HasNoMark t
of_next s t h = record { none = λ a i. h.none a (in_second (actions_in s) i) }

of_pass : (l : ℕ) (s : Order) → HasNoMark (order.passes l s) → HasNoMark s
of_pass l s h = record { none = λ a i. h.none a i }

-- ---- patterns

of_testing : (S : Subject) (ts : List PartTest) (r : Order) → HasNoMark (testing S ts r) → HasNoMark r
of_testing S [] r h = h
of_testing S (t ∷ ts) r h = of_testing S ts r (record { none = λ a i. h.none a (there (in_first [] i)) })

of_binding : (S : Subject) (bs : List Binding) (n : ℕ) (r : Order) → HasNoMark (binding S bs n r) → HasNoMark r
of_binding S [] n r h = h
of_binding S (b ∷ bs) n r h = of_binding S bs n r (record { none = λ a i. h.none a (in_second (actions_in (perhaps b.node (taken S b))) (there (there i))) })

of_declaring : (s : ℕ) (xs : List ℕ) (n : ℕ) (r : Order) → HasNoMark (declaring s xs n r) → HasNoMark r
of_declaring s [] n r h = h
of_declaring s (x ∷ xs) n r h = of_declaring s xs n r (record { none = λ a i. h.none a (there i) })

of_beginning : (ps : List Parameter) (n : ℕ) (r : Order) → HasNoMark (beginning ps n r) → HasNoMark r
of_beginning [] n r h = h
of_beginning (p ∷ ps) n r h = of_beginning ps n r (record { none = λ a i. h.none a (there (there i)) })

testing_covered : {P : Order → Type 0} (S : Subject) (ts : List PartTest) (r : Order) → Covered P r → Covered P (testing S ts r)
testing_covered S [] r c = c
testing_covered S (t ∷ ts) r c = c_then (c_act refl) (c_or (testing_covered S ts r c) c_fail)

taking_covered : {P : Order → Type 0} (n : ℕ) (m : Mode) (S : Subject) (ss : List Step) (d : Temporary) → Covered P (perhaps n (taking m S ss d))
taking_covered n (by_reference k) S ss d = c_act refl
taking_covered n (by_value v) (in_place p) ss d = c_act refl
taking_covered n (by_value v) (in_temporary t) ss d = c_nothing

binding_covered : {P : Order → Type 0} (S : Subject) (bs : List Binding) (n : ℕ) (r : Order) → Covered P r → Covered P (binding S bs n r)
binding_covered S [] n r c = c
binding_covered S (b ∷ bs) n r c =
    c_then (taking_covered b.node b.mode S b.steps _) (c_then (c_act refl) (c_then (c_act refl) (c_ending (binding_covered S bs n r c))))

declaring_covered : {P : Order → Type 0} (s : ℕ) (xs : List ℕ) (n : ℕ) (r : Order) → Covered P r → Covered P (declaring s xs n r)
declaring_covered s [] n r c = c
declaring_covered s (x ∷ xs) n r c = c_then (c_act refl) (c_ending (declaring_covered s xs n r c))

beginning_covered : {P : Order → Type 0} (ps : List Parameter) (n : ℕ) (r : Order) → Covered P r → Covered P (beginning ps n r)
beginning_covered [] n r c = c
beginning_covered (p ∷ ps) n r c = c_then (c_act refl) (c_then (c_act refl) (c_ending (beginning_covered ps n r c)))

-- ---- trees

module _ (r : Run) (ls : List ℕ) where
  abbrev At : Order → Type 0
  At s = RunBlock r ls s

  chosen : (n : ℕ) (b c : Body) (d f : Temporary) (t : Bool) → (n == r.block) ≡ t → HasNoMark (order_body b n d) → Covered At (order_body c n f)
      → Covered At (order_body (if t then marked_body r ls [] b else c) n f)
  chosen n b c d f true e h k = is_part (the_block b n d f e h)
  chosen n b c d f false e h k = k

  mutual
    covered : (e : Exp) (d f : Temporary) → HasNoMark (order e d) → Covered At (order (changed (at_the_block r ls []) e) f)
    covered (read m v p) d f h = c_act refl
    covered (borrow m k p) d f h = c_act refl
    covered (share m e) d f h = c_then (covered e _ _ (left _ _ h)) (c_act refl)
    covered (build m w es) d f h = c_then (covered_all es (left _ _ h)) (c_act
        (ap (λ is. makes_mark w is (temporaries_of (changed_all (at_the_block r ls []) es))) (same_fields (at_the_block r ls []) (block_keeps r ls) es)
        ∙ ap (λ ts. makes_mark w (fields_of es) ts) (same_temporaries (at_the_block r ls []) (block_keeps r ls) es)
        ∙ h.none _ (in_second (actions_in (order_all es)) here)))
    covered (unit m) d f h = c_nothing
    covered (lazily m b e g) d f h =
        c_then (covered e _ _ (left _ _ h)) (c_then (c_act refl) (c_then (c_or (covered g _ _ (one_of _ _ (left _ _ (right _ _ (right _ _ h))))) c_nothing) (c_act refl)))
    covered (assign m p e) d f h = c_then (covered e _ _ (left _ _ h)) (c_act refl)
    covered (update m o p e) d f h = c_then (covered e _ _ (left _ _ h)) (c_then (c_act refl) (c_then (c_act refl) (c_act refl)))
    covered (call m g es) d f h = c_then (covered_all es (left _ _ h)) (c_act refl)
    covered (input m) d f h = c_act refl
    covered (print m e) d f h = c_then (covered e _ _ (left _ _ h)) (c_act refl)
    covered (block m b) d f h = chosen m.node b (changed_body (at_the_block r ls []) b) d f (m.node == r.block) refl h (covered_body b m.node d f h)
    covered (choose m s l) d f h = c_then (covered_matched s (left _ _ h)) (covered_arms (subject s) (subject (changed_matched (at_the_block r ls []) s)) l d f (right _ _ h))
    covered (loop m l e) d f h = c_passes (covered e _ _ (of_pass _ _ h))
    covered (jump m l k) d f h = c_leave
    covered (give m e) d f h = c_then (covered e _ _ (left _ _ h)) (c_then (c_act refl) c_leave)

    covered_all : (es : Operands) → HasNoMark (order_all es) → Covered At (order_all (changed_all (at_the_block r ls []) es))
    covered_all no_operand h = c_nothing
    covered_all (operand_and i e es) h = c_then (covered e _ _ (left _ _ h)) (covered_all es (right _ _ h))

    covered_matched : (s : Scrutinee) → HasNoMark (order_scrutinee s) → Covered At (order_scrutinee (changed_matched (at_the_block r ls []) s))
    covered_matched (at_place m p) h = c_nothing
    covered_matched (of_value e) h = covered e _ _ h

    covered_arms : (S T : Subject) (l : Arms) (d f : Temporary) → HasNoMark (order_arms S l d) → Covered At (order_arms T (changed_arms (at_the_block r ls []) l) f)
    covered_arms S T no_arm d f h = c_nowhere
    covered_arms S T (arm_and p e l) d f h = c_otherwise
        (testing_covered T (tests [] p) _ (binding_covered T (bindings [] p) _ _ (covered e d f
        (of_binding S (bindings [] p) _ _ (of_testing S (tests [] p) _ (of_arm _ _ h))))))
        (covered_arms S T l d f (of_next _ _ h))

    covered_body : (b : Body) (n : ℕ) (d f : Temporary) → HasNoMark (order_body b n d) → Covered At (order_body (changed_body (at_the_block r ls []) b) n f)
    covered_body (ends e) n d f h = covered e d f h
    covered_body (runs e b) n d f h = c_then (covered e _ _ (left _ _ h)) (covered_body b n d f (right _ _ h))
    covered_body (declares s xs b) n d f h = declaring_covered s xs n _ (covered_body b n d f (of_declaring s xs n _ h))
    covered_body (lets s p c b) n d f h = c_then (covered_matched c (left _ _ h))
        (binding_covered _ (bindings [] p) n _ (covered_body b n d f (of_binding (subject c) (bindings [] p) n _ (right _ _ h))))

-- ---- functions

shows_mark : (p : Point) → is_mark (shown p).act ≡ true
shows_mark p = refl

pub comes_by : (f : Function) (r : Run) (ls : List ℕ) (p : Point) (w : List Action) → HasNoMark (order_function f) → IsWalk (marked r ls [] f) (w ++ shown p ∷ [])
    → (s : Order) × RunBlock r ls s × (front us : List Action) × Into s (order_function (marked r ls [] f)) front × Walk s (us ++ shown p ∷ []) stopped × (w ≡ front ++ us)
comes_by f r ls p w h (rest, o, a) =
    let z = came (shows_mark p) (fronts a (w ++ shown p ∷ []) rest refl)
    (beginning_covered f.params _ _ (covered r ls f.body _ _ (of_beginning f.params _ _ h))) w [] refl in
    (z.part, z.is, z.front, z.rest, z.into, z.walk, z.whole)

nil_right : (l : List Action) → l ++ [] ≡ l
nil_right [] = refl
nil_right (a ∷ l) = ap (λ k. a ∷ k) (nil_right l)

joined : (us vs ws : List Action) → (us ++ vs) ++ ws ≡ us ++ (vs ++ ws)
joined [] vs ws = refl
joined (u ∷ us) vs ws = ap (λ l. u ∷ l) (joined us vs ws)

pub shows_there : (f : Function) (r : Run) (ls : List ℕ) (p : Point) (s : Order) (front us : List Action) → Into s (order_function (marked r ls [] f)) front
    → Walk s (us ++ shown p ∷ []) stopped → IsWalk (marked r ls [] f) ((front ++ us) ++ shown p ∷ [])
shows_there f r ls p s front us i h = (
  [],
  stopped,
  subst (λ l. Walk (order_function (marked r ls [] f)) l stopped)
      (sym (nil_right ((front ++ us) ++ shown p ∷ []) ∙ joined front us (shown p ∷ []))) (goes_on i (us ++ shown p ∷ []) h),
)
