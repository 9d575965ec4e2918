-- Changes of variables, one behind another.
use Rattle.std.proofs.Common.{◌≡◌, ℕ, zero, suc, ◌+◌, ◌<◌, ◌≤◌, nat_eq, Bool, true, false, List, [], ◌∷◌, ◌++◌, length, reverse, map, drop, get_or, arith, Option, None, Some, if◌then◌else◌, refl, sym, ap, subst, ◌∙◌}
use Rattle.std.proofs.lemmas.List.{reverse-append, reverse-reverse}
use Rattle.rx_typed.specs.Tree as tree
use Rattle.rx_typed.specs.declared.tree.Arm.{Arm}
use Rattle.rx_typed.specs.declared.tree.Subpattern.{Subpattern}
use Rattle.rx_typed.specs.PlainTree.{plain-Pattern, plain-Expr, plain-Subpattern, subpatterns_of}
use Rattle.rx_typed.proofs.Rules.{arm_by_parts, subpattern_by_parts}
use Rattle.rx_machine_actions.specs.Matching as matching
use Rattle.rx_typed.specs.Tree.{Mode, Parameter, Subpatterns}
use Rattle.rx_core.specs.declared.types.Step.{Step as PlaceStep}
use Rattle.rx_lower_walks.specs.Matching.{Binding, bindings, bindings_in}
use Rattle.rx_lower_walks.specs.Actions as actions
use Rattle.rx_meaning.specs.Values as values
use Rattle.rx_meaning.specs.Values.{and_then, lacking, unset, State, with_variable}
use Rattle.rx_machine_values.specs.declared.memory.Memory.{Memory}
use Rattle.rx_machine_values.specs.declared.value.Lack.{Lack}
use Rattle.rx_machine_values.specs.declared.value.Value as code
use Rattle.rx_machine_values.specs.declared.value.Value.TheVariants as value
use Rattle.rx_machine_values.specs.PlainMemory.{plain-Memory}
use Rattle.rx_machine_values.specs.PlainValues.{plain-Value, value_lacking}
use Rattle.rx_machine_frames.specs.Choosing.{if_holds, first_arm, with_value, takes, bind_all, declare_all, fill_all}
use Rattle.rx_meaning.specs.declared.outcome.End.{End}
use Rattle.rx_machine_frames.specs.Frames as frames
use Rattle.rx_machine_frames.specs.Frames.{Around}
use Rattle.rx_machine_frames.specs.Stepping.{goes, config, or_wrong}
use Rattle.rx_machine_driver.specs.declared.next.Next.{Next}
use Rattle.rx_machine_driver.specs.declared.next.Subject.{Subject}
use Rattle.rx_machine_driver.specs.PlainSteps.{plain-Subject, held_of, plain-Next, arms_in}
use Rattle.rx_machine_driver.specs.declared.slots.Slots.{Slots}
use Rattle.rx_machine_driver.specs.declared.data.Machine.{Machine}
use Rattle.rx_machine_driver.specs.declared.data.Step.{Step}
use Rattle.rx_machine_driver.specs.declared.data.Step.TheVariants as step_to
use Rattle.rx_machine_direct.specs.Direct.{recorded}
use Rattle.rx_machine_driver.specs.Fitting.{Tells, Fits}
use Rattle.rx_machine_driver.specs.Running.{Follows, Leads, Came, Through, Changes}
use Rattle.rx_machine_driver.specs.Binding.{taken_of, seen_at, arm_of, TakesArm, NoneLeft}
use Rattle.rx_machine_driver.proofs.SlotLemmas.{tells_more}
use Rattle.rx_machine_driver.proofs.MatchLemmas.{arm_is, taken_is}
use Rattle.rx_machine_driver.proofs.ActLemmas.{nothing_more}

abbrev pub Change : Type 0
Change = State → Option State

-- ---- changes on their way

pub through_here : (m : Machine) (f : Change) → Through f m m f
through_here m f = (refl, λ t K s k. record { state = s; fits = k; same = refl })

pub through_chain : (a b c : Machine) (f g h : Change) → Through f a b g → Through g b c h → Through f a c h
through_chain a b c f g h p q = (
  q.0 ∙ p.0,
  λ t K s k.
      let x : Came t K b g (f s) = p.1 t K s k in
      let y : Came t K c h (g x.state) = q.1 t K x.state x.fits in
      record { state = y.state; fits = y.fits; same = y.same ∙ x.same },
)

-- the same change, where the machine stands for the state
pub through_as : (a b : Machine) (f g h : Change) → ((t : ℕ) (K : List Around) (s : State) → Fits a t K s → f s ≡ g s) → Through g a b h → Through f a b h
through_as a b f g h e p = (p.0, λ t K s k. let x : Came t K b h (g s) = p.1 t K s k in record { state = x.state; fits = x.fits; same = x.same ∙ sym (e t K s k) })

-- a change that is done, and more
pub through_more : (a b : Machine) (f k : Change) → Changes f a b true → Through (λ s. and_then (f s) k) a b k
through_more a b f k p = (p.0, λ t K s i. let x : Came t K b (λ u. Some u) (f s) = p.1 t K s i in record { state = x.state; fits = x.fits; same = ap (λ o. and_then o k) x.same })

-- Wrong on the way
pub wrong_on : (a b c : Machine) (f g h k : Change) → Through f a b g → ((t : ℕ) (K : List Around) (s : State) → Fits b t K s → g s ≡ and_then (h s) k) → Changes h b c false → Changes f a c false
wrong_on a b c f g h k p e q = (
  q.0 ∙ p.0,
  λ t K s i.
      let x : Came t K b g (f s) = p.1 t K s i in
      sym x.same ∙ e t K x.state x.fits ∙ ap (λ o. and_then o k) (q.1 t K x.state x.fits),
)

pub wrong_end : (a b : Machine) (f g : Change) → Through f a b g → ((s : State) → g s ≡ None) → Changes f a b false
wrong_end a b f g p e = (p.0, λ t K s i. let x : Came t K b g (f s) = p.1 t K s i in sym x.same ∙ e x.state)

-- ---- one variable

pub binds_slot : (m : Machine) (mem : Memory) (S : Slots) (x i : ℕ) (v : values.Value) → i ≡ length (plain-Memory m.memory) → plain-Memory mem ≡ plain-Memory m.memory ++ v ∷ []
    → ((y : ℕ) → recorded S.table.items y ≡ (if nat_eq y x then Some i else recorded m.slots.table.items y)) → (rest : Change) → Through (λ s. rest (with_value x v s)) m (record m { memory = mem; slots = S }) rest
binds_slot m mem S x i v e h k rest = (
  refl,
  λ t K s f.
      let n : i ≡ length s.memory = e ∙ ap length f.memory in
      record {
        state = with_value x v s;
        fits = record {
          memory = h ∙ ap (λ M. M ++ v ∷ []) f.memory;
          slots = subst (λ j. Tells S ((x, j) ∷ s.frame.slots)) n (tells_more m.slots S s.frame.slots x i f.slots k);
          input = f.input;
          turns = f.turns;
          frames = f.frames;
        };
        same = refl;
      },
)

pub declares : (a b : Machine) (x : ℕ) (rest : Change) → Through (λ s. rest (with_value x (plain-Value (value.Lacking Lack.Unset)) s)) a b rest → Through (λ s. rest (with_variable x s)) a b rest
declares a b x rest p = subst (λ v. Through (λ s. rest (with_value x v s)) a b rest) (value_lacking Lack.Unset) p

-- ---- one binding

pub one_bound : (a b : Machine) (S : Subject) (x : Binding) (v : values.Value) → taken_of a x.mode S x.steps ≡ Some v → ((rest : Change) → Through (λ s. rest (with_value x.variable v s)) a b rest)
    → Changes (λ s. bind_all (plain-Subject S) (held_of S) (x ∷ []) s) a b true
one_bound a b S x v e p =
    through_as a b _ (λ s. Some (with_value x.variable v s)) (λ s. Some s)
    (λ t K s f. ap (λ o. and_then o (λ u. Some (with_value x.variable u s))) (taken_is a t K s x.mode S x.steps f ∙ e)) (p (λ s. Some s))

pub none_bound : (a : Machine) (S : Subject) (x : Binding) → taken_of a x.mode S x.steps ≡ None → Changes (λ s. bind_all (plain-Subject S) (held_of S) (x ∷ []) s) a a false
none_bound a S x e = (refl, λ t K s f. ap (λ o. and_then o (λ u. Some (with_value x.variable u s))) (taken_is a t K s x.mode S x.steps f ∙ e))

-- ---- bindings one behind another

pub bind_append : (S : actions.Subject) (vs : List values.Value) (a b : List Binding) (s : State) → bind_all S vs (a ++ b) s ≡ and_then (bind_all S vs a s) (λ s1. bind_all S vs b s1)
bind_append S vs [] b s = refl
bind_append S vs (x ∷ a) b s = by (takes x.mode S x.steps vs s) (λ u. bind_append S vs a b (with_value x.variable u s))
  where
    by : (o : Option values.Value) → ((u : values.Value) → bind_all S vs (a ++ b) (with_value x.variable u s) ≡ and_then (bind_all S vs a (with_value x.variable u s)) (λ s1. bind_all S vs b s1))
        → and_then o (λ u. bind_all S vs (a ++ b) (with_value x.variable u s)) ≡ and_then (and_then o (λ u. bind_all S vs a (with_value x.variable u s))) (λ s1. bind_all S vs b s1)
    by None h = refl
    by (Some u) h = h u

pub changes_bindings : (S : actions.Subject) (vs : List values.Value) (a b : Machine) (d : Bool) (x y : List Binding) → x ≡ y → Changes (λ s. bind_all S vs y s) a b d → Changes (λ s. bind_all S vs x s) a b d
changes_bindings S vs a b d x y e p = subst (λ l. Changes (λ s. bind_all S vs l s) a b d) (sym e) p

pub nothing_bound : (S : actions.Subject) (vs : List values.Value) (a : Machine) → Changes (λ s. bind_all S vs [] s) a a true
nothing_bound S vs a = through_here a (λ s. Some s)

-- what is left, behind what is bound
abbrev pub Binds : actions.Subject → List values.Value → List Binding → Machine → Machine → List Binding → Type 0
Binds S vs all old new rest = Through (λ s. bind_all S vs all s) old new (λ s. bind_all S vs rest s)

pub binds_on : (S : actions.Subject) (vs : List values.Value) (all x rest now : List Binding) (a b c : Machine) → now ≡ x ++ rest → Binds S vs all a b now → Changes (λ s. bind_all S vs x s) b c true → Binds S vs all a c rest
binds_on S vs all x rest now a b c e p q =
    through_chain a b c _ _ _ p (through_as b c _ (λ s. and_then (bind_all S vs x s) (λ s1. bind_all S vs rest s1)) _ (λ t K s f. ap (λ l. bind_all S vs l s) e ∙ bind_append S vs x rest s)
    (through_more b c (λ s. bind_all S vs x s) (λ s1. bind_all S vs rest s1) q))

pub binds_wrong : (S : actions.Subject) (vs : List values.Value) (all x rest now : List Binding) (a b c : Machine) → now ≡ x ++ rest → Binds S vs all a b now → Changes (λ s. bind_all S vs x s) b c false
    → Changes (λ s. bind_all S vs all s) a c false
binds_wrong S vs all x rest now a b c e p q =
    wrong_on a b c _ _ (λ s. bind_all S vs x s) (λ s1. bind_all S vs rest s1) p (λ t K s f. ap (λ l. bind_all S vs l s) e ∙ bind_append S vs x rest s) q

pub binds_end : (S : actions.Subject) (vs : List values.Value) (all now : List Binding) (a b : Machine) → now ≡ [] → Binds S vs all a b now → Changes (λ s. bind_all S vs all s) a b true
binds_end S vs all now a b e p = subst (λ l. Through (λ s. bind_all S vs all s) a b (λ s. bind_all S vs l s)) e p

-- ---- new variables

pub declares_on : (xs now rest : List ℕ) (x : ℕ) (a b c : Machine) → now ≡ x ∷ rest → Through (λ s. Some (declare_all xs s)) a b (λ s. Some (declare_all now s)) → ((k : Change) → Through (λ s. k (with_variable x s)) b c k)
    → Through (λ s. Some (declare_all xs s)) a c (λ s. Some (declare_all rest s))
declares_on xs now rest x a b c e p q =
    through_chain a b c _ _ _ (subst (λ l. Through (λ s. Some (declare_all xs s)) a b (λ s. Some (declare_all l s))) e p) (q (λ s. Some (declare_all rest s)))

pub declares_end : (xs now : List ℕ) (a b : Machine) → now ≡ [] → Through (λ s. Some (declare_all xs s)) a b (λ s. Some (declare_all now s)) → Through (λ s. Some (declare_all xs s)) a b (λ s. Some s)
declares_end xs now a b e p = subst (λ l. Through (λ s. Some (declare_all xs s)) a b (λ s. Some (declare_all l s))) e p

-- ---- parameters

pub fills_on : (f : Change) (ps rest : List Parameter) (vs left : List values.Value) (p : Parameter) (v : values.Value) (a b c : Machine) → ps ≡ p ∷ rest → vs ≡ v ∷ left → Through f a b (λ s. fill_all ps vs s)
    → ((k : Change) → Through (λ s. k (with_value p.variable v s)) b c k) → Through f a c (λ s. fill_all rest left s)
fills_on f ps rest vs left p v a b c e h q r =
    through_chain a b c _ _ _ (subst (λ l. Through f a b (λ s. fill_all l (v ∷ left) s)) e (subst (λ l. Through f a b (λ s. fill_all ps l s)) h q)) (r (λ s. fill_all rest left s))

pub fills_short : (f : Change) (ps rest : List Parameter) (vs : List values.Value) (p : Parameter) (a b : Machine) → ps ≡ p ∷ rest → vs ≡ [] → Through f a b (λ s. fill_all ps vs s) → Changes f a b false
fills_short f ps rest vs p a b e h q = wrong_end a b f _ (subst (λ l. Through f a b (λ s. fill_all l [] s)) e (subst (λ l. Through f a b (λ s. fill_all ps l s)) h q)) (λ s. refl)

pub fills_end : (f : Change) (ps : List Parameter) (vs : List values.Value) (a b : Machine) → ps ≡ [] → vs ≡ [] → Through f a b (λ s. fill_all ps vs s) → Changes f a b true
fills_end f ps vs a b e h q = subst (λ l. Through f a b (λ s. fill_all l [] s)) e (subst (λ l. Through f a b (λ s. fill_all ps l s)) h q)

pub fills_long : (f : Change) (ps : List Parameter) (vs rest : List values.Value) (v : values.Value) (a b : Machine) → ps ≡ [] → vs ≡ v ∷ rest → Through f a b (λ s. fill_all ps vs s) → Changes f a b false
fills_long f ps vs rest v a b e h q = wrong_end a b f _ (subst (λ l. Through f a b (λ s. fill_all l (v ∷ rest) s)) e (subst (λ l. Through f a b (λ s. fill_all ps l s)) h q)) (λ s. refl)

-- arguments of which the first is the last

pub last_of : (l rest : List code.Value) (v : code.Value) → l ≡ rest ++ v ∷ [] → reverse (map plain-Value l) ≡ plain-Value v ∷ reverse (map plain-Value rest)
last_of l rest v e = ap (λ x. reverse (map plain-Value x)) e ∙ ap reverse (mapped rest v) ∙ reverse-append (map plain-Value rest) (plain-Value v ∷ [])
  where
    mapped : (l : List code.Value) (v : code.Value) → map plain-Value (l ++ v ∷ []) ≡ map plain-Value l ++ plain-Value v ∷ []
    mapped [] v = refl
    mapped (x ∷ l) v = ap (λ r. plain-Value x ∷ r) (mapped l v)

pub none_last : (l : List code.Value) → l ≡ [] → reverse (map plain-Value l) ≡ []
none_last l e = ap (λ x. reverse (map plain-Value x)) e

-- ---- the steps of bindings

pub binds_next : (m new : Machine) (S : Subject) (p : tree.Pattern) (b : tree.Body) (y : Next) → Changes (λ s. bind_all (plain-Subject S) (held_of S) (bindings [] p) s) m new true → plain-Next y ≡ frames.runs_body b
    → Leads m (frames.binds (plain-Subject S) (held_of S) p b) new (step_to.Next y)
binds_next m new S p b y c g = λ t K s f.
    let x : Came t K new (λ u. Some u) (bind_all (plain-Subject S) (held_of S) (bindings [] p) s) = c.1 t K s f in
    subst (λ o. Follows t m (frames.binds (plain-Subject S) (held_of S) p b) K s (or_wrong o (λ s1. goes [] (config K (frames.runs_body b) s1))) new (step_to.Next y)) x.same (x.fits, g, c.0 ∙ nothing_more m)

pub binds_end_wrong : (m new : Machine) (S : Subject) (p : tree.Pattern) (b : tree.Body) → Changes (λ s. bind_all (plain-Subject S) (held_of S) (bindings [] p) s) m new false
    → Leads m (frames.binds (plain-Subject S) (held_of S) p b) new (step_to.End End.Wrong)
binds_end_wrong m new S p b c = λ t K s f.
    subst (λ o. Follows t m (frames.binds (plain-Subject S) (held_of S) p b) K s (or_wrong o (λ s1. goes [] (config K (frames.runs_body b) s1))) new (step_to.End End.Wrong)) (sym (c.1 t K s f)) (refl, c.0 ∙ nothing_more m)

pub begins_next : (m new : Machine) (xs : List ℕ) (b : tree.Body) (y : Next) → Through (λ s. Some (declare_all xs s)) m new (λ s. Some s) → plain-Next y ≡ frames.runs_body b → Leads m (frames.begins xs b) new (step_to.Next y)
begins_next m new xs b y c g = λ t K s f.
    let x : Came t K new (λ u. Some u) (Some (declare_all xs s)) = c.1 t K s f in
    let e : x.state ≡ declare_all xs s = some_is x.state (declare_all xs s) x.same in
    (subst (λ z. Fits new t K z) e x.fits, g, c.0 ∙ nothing_more m)
  where
    some_is : (a b : State) → Some a ≡ Some b → a ≡ b
    some_is a b e = cc

-- the arm that was found
tries_by : (m new : Machine) (S : Subject) (l : tree.Arms) (a : Arm) (to : Step) → TakesArm m S a new to → (t : ℕ) (K : List Around) (s : State) → Fits m t K s → (o : Option (tree.Pattern × tree.Exp)) → o ≡ Some (plain-Pattern a.pattern, plain-Expr a.body)
    → Follows t m (frames.tries (plain-Subject S) (held_of S) l) K s (or_wrong o (λ c. or_wrong (bind_all (plain-Subject S) (held_of S) (bindings [] c.0) s) (λ s1. goes [] (config K (frames.goes_into c.1) s1)))) new to
tries_by m new S l a to h t K s f o e = subst Wanted (sym e) (by to h)
  where
    Wanted : Option (tree.Pattern × tree.Exp) → Type 0
    Wanted o = Follows t m (frames.tries (plain-Subject S) (held_of S) l) K s (or_wrong o (λ c. or_wrong (bind_all (plain-Subject S) (held_of S) (bindings [] c.0) s) (λ s1. goes [] (config K (frames.goes_into c.1) s1)))) new to

    by : (to : Step) → TakesArm m S a new to
        → Follows t m (frames.tries (plain-Subject S) (held_of S) l) K s (or_wrong (bind_all (plain-Subject S) (held_of S) (bindings [] (plain-Pattern a.pattern)) s) (λ s1. goes [] (config K (frames.goes_into (plain-Expr a.body)) s1))) new to
    by (step_to.Next y) h =
        let x : Came t K new (λ u. Some u) (bind_all (plain-Subject S) (held_of S) (bindings [] (plain-Pattern a.pattern)) s) = h.0.1 t K s f in
        subst (λ o. Follows t m (frames.tries (plain-Subject S) (held_of S) l) K s (or_wrong o (λ s1. goes [] (config K (frames.goes_into (plain-Expr a.body)) s1))) new (step_to.Next y)) x.same (x.fits, h.1, h.0.0 ∙ nothing_more m)
    by (step_to.Turn u) h = absurd h
    by (step_to.End e) h =
        subst (λ o. Follows t m (frames.tries (plain-Subject S) (held_of S) l) K s (or_wrong o (λ s1. goes [] (config K (frames.goes_into (plain-Expr a.body)) s1))) new (step_to.End e)) (sym (h.0.1 t K s f)) (h.1, h.0.0 ∙ nothing_more m)

pub tries_arm : (m new : Machine) (S : Subject) (l : tree.Arms) (a : Arm) (to : Step) → Some (plain-Pattern a.pattern, plain-Expr a.body) ≡ arm_of (plain-Memory m.memory) (seen_at m S) l → TakesArm m S a new to
    → Leads m (frames.tries (plain-Subject S) (held_of S) l) new to
tries_arm m new S l a to e h = λ t K s f. tries_by m new S l a to h t K s f (first_arm (plain-Subject S) (held_of S) l s) (arm_is m t K s S l f ∙ sym e)

pub tries_none : (m : Machine) (S : Subject) (l : tree.Arms) → None ≡ arm_of (plain-Memory m.memory) (seen_at m S) l → Leads m (frames.tries (plain-Subject S) (held_of S) l) m (step_to.End End.Wrong)
tries_none m S l e = λ t K s f.
    subst (λ o. Follows t m (frames.tries (plain-Subject S) (held_of S) l) K s (or_wrong o (λ c. or_wrong (bind_all (plain-Subject S) (held_of S) (bindings [] c.0) s) (λ s1. goes [] (config K (frames.goes_into c.1) s1)))) m (step_to.End End.Wrong))
    (e ∙ sym (arm_is m t K s S l f)) (refl, nothing_more m)

-- ---- the first arm, arm by arm

pub arms_cons : (M : List values.Value) (o : Option values.Value) (a : Arm) (l : List Arm)
    → arm_of M o (arms_in (a ∷ l)) ≡ if_holds (matching.holds M o (plain-Pattern a.pattern)) (Some (plain-Pattern a.pattern, plain-Expr a.body)) (arm_of M o (arms_in l))
arms_cons M o a l = ap (λ (b : tree.Pattern × tree.Exp). arm_of M o (tree.arm_and b.0 b.1 (arms_in l))) (arm_by_parts a)

arm_next : (M : List values.Value) (o : Option values.Value) (l : List Arm) (i : ℕ) (a : Arm) → i < length l → a ≡ get_or l i a
    → arm_of M o (arms_in (drop i l)) ≡ if_holds (matching.holds M o (plain-Pattern a.pattern)) (Some (plain-Pattern a.pattern, plain-Expr a.body)) (arm_of M o (arms_in (drop (suc i) l)))
arm_next M o [] i a k e = absurd (omega (arith, k))
arm_next M o (b ∷ l) zero a k e = arms_cons M o b l ∙ ap (λ (x : Arm). if_holds (matching.holds M o (plain-Pattern x.pattern)) (Some (plain-Pattern x.pattern, plain-Expr x.body)) (arm_of M o (arms_in l))) (sym e)
arm_next M o (b ∷ l) (suc i) a k e = arm_next M o l i a (omega (arith, k)) e

-- what an arm gave, in front of the arms behind it, is all
pub arms_at : (M : List values.Value) (o : Option values.Value) (l : List Arm) (i : ℕ) (a : Arm) (b : Option Bool) → i < length l → a ≡ get_or l i a → b ≡ matching.holds M o (plain-Pattern a.pattern)
    → arm_of M o (arms_in (drop i l)) ≡ arm_of M o (arms_in l) → if_holds b (Some (plain-Pattern a.pattern, plain-Expr a.body)) (arm_of M o (arms_in (drop (i + 1) l))) ≡ arm_of M o (arms_in l)
arms_at M o l i a b k e h inv =
    let n : i + 1 ≡ suc i = omega arith in
    ap (λ x. if_holds x (Some (plain-Pattern a.pattern, plain-Expr a.body)) (arm_of M o (arms_in (drop (i + 1) l)))) h
    ∙ ap (λ j. if_holds (matching.holds M o (plain-Pattern a.pattern)) (Some (plain-Pattern a.pattern, plain-Expr a.body)) (arm_of M o (arms_in (drop j l)))) n ∙ sym (arm_next M o l i a k e) ∙ inv

-- ---- lists item by item

pub drop_next : {A : Type 0} (l : List A) (i : ℕ) (x : A) → i < length l → x ≡ get_or l i x → drop i l ≡ x ∷ drop (i + 1) l
drop_next l i x k e = let n : suc i ≡ i + 1 = omega arith in by l i x k e ∙ ap (λ j. x ∷ drop j l) n
  where
    by : {A : Type 0} (l : List A) (i : ℕ) (x : A) → i < length l → x ≡ get_or l i x → drop i l ≡ x ∷ drop (suc i) l
    by [] i x k e = absurd (omega (arith, k))
    by (y ∷ l) zero x k e = ap (λ z. z ∷ l) (sym e)
    by (y ∷ l) (suc i) x k e = by l i x (omega (arith, k)) e

pub drop_or : {A : Type 0} (l : List A) (i : ℕ) (d : A) → i < length l → drop i l ≡ get_or l i d ∷ drop (i + 1) l
drop_or l i d k = let n : suc i ≡ i + 1 = omega arith in by l i d k ∙ ap (λ j. get_or l i d ∷ drop j l) n
  where
    by : {A : Type 0} (l : List A) (i : ℕ) (d : A) → i < length l → drop i l ≡ get_or l i d ∷ drop (suc i) l
    by [] i d k = absurd (omega (arith, k))
    by (y ∷ l) zero d k = refl
    by (y ∷ l) (suc i) d k = by l i d (omega (arith, k))

pub drop_end : {A : Type 0} (l : List A) (i : ℕ) → length l ≤ i → drop i l ≡ []
drop_end [] zero k = refl
drop_end [] (suc i) k = refl
drop_end (y ∷ l) zero k = absurd (omega (arith, k))
drop_end (y ∷ l) (suc i) k = drop_end l i (omega (arith, k))

pub turned_is : (l : List code.Value) → map plain-Value l ≡ reverse (map plain-Value (reverse l))
turned_is l = sym (ap reverse (rev_map l) ∙ reverse-reverse (map plain-Value l))
  where
    mapped : (l : List code.Value) (v : code.Value) → map plain-Value (l ++ v ∷ []) ≡ map plain-Value l ++ plain-Value v ∷ []
    mapped [] v = refl
    mapped (x ∷ l) v = ap (λ r. plain-Value x ∷ r) (mapped l v)

    rev_map : (l : List code.Value) → map plain-Value (reverse l) ≡ reverse (map plain-Value l)
    rev_map [] = refl
    rev_map (x ∷ l) = ap (map plain-Value) (reverse-append (x ∷ []) l) ∙ mapped (reverse l) x ∙ ap (λ r. r ++ plain-Value x ∷ []) (rev_map l) ∙ sym (reverse-append (plain-Value x ∷ []) (map plain-Value l))

pub fills_by : (f : Change) (ps : List Parameter) (l : List code.Value) (a b : Machine) (d : Bool) → ps ≡ [] → NoneLeft l d → Through f a b (λ s. fill_all ps (reverse (map plain-Value l)) s) → Changes f a b d
fills_by f ps l a b true e h q = fills_end f ps (reverse (map plain-Value l)) a b e (none_last l h) q
fills_by f ps l a b false e h q = fills_long f ps (reverse (map plain-Value l)) (reverse (map plain-Value h.0)) (plain-Value h.1) a b e (last_of l h.0 h.1 h.2) q

-- ---- the parts of a pattern, one by one

pub parts_next : (path : List PlaceStep) (l : List Subpattern) (i : ℕ) (p : Subpattern) → i < length l → p ≡ get_or l i p
    → bindings_in path (subpatterns_of (map plain-Subpattern (drop i l))) ≡ bindings (path ++ PlaceStep.Field p.field ∷ []) (plain-Pattern p.pattern) ++ bindings_in path (subpatterns_of (map plain-Subpattern (drop (i + 1) l)))
parts_next path l i p k e =
    ap (λ m. bindings_in path (subpatterns_of (map plain-Subpattern m))) (drop_next l i p k e)
    ∙ ap (λ (q : ℕ × tree.Pattern). bindings_in path (tree.part_and q.0 q.1 (subpatterns_of (map plain-Subpattern (drop (i + 1) l))))) (subpattern_by_parts p)
