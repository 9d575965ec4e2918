-- What asking keeps: demands that are in order stay so, what is told stays told, and a literal is asked for its kind.
use Rattle.std.proofs.Common.{◌≡◌, ℕ, Bool, true, false, ◌&&◌, ◌||◌, IsTrue, List, [], ◌∷◌, ◌++◌, if◌then◌else◌, nat_eq, refl, sym, ap, ◌∙◌, subst, ◌⊎◌, inl, inr, eq-eqb}
use Rattle.rx_typed.specs.declared.nodes.Node.{Node}
use Rattle.rx_typeck_solver.specs.declared.facts.Broken.{Broken}
use Rattle.rx_typeck_solver.specs.declared.facts.Subject.{Subject}
use Rattle.rx_typeck_solver.specs.declared.facts.Subject.TheVariants as subject
use Rattle.rx_typeck_solver.specs.declared.facts.Op.{Op}
use Rattle.rx_typeck_solver.specs.declared.facts.Test.{Test}
use Rattle.rx_typeck_solver.specs.declared.facts.Kinds.{Kinds}
use Rattle.rx_typeck_solver.specs.declared.facts.Passing.{Passing}
use Rattle.rx_typeck_solver.specs.declared.facts.Fact.{Fact}
use Rattle.rx_typeck_solver.specs.declared.facts.Fact.TheVariants as fact
use Rattle.rx_typeck_solver.specs.declared.facts.Demand.{Demand}
use Rattle.rx_typeck_solver.specs.Valid.{IsIn, literals_of}
use Rattle.rx_typeck_solver.specs.Solver.{same_subject}
use Rattle.rx_typeck_solver.specs.Ordered as order
use Rattle.rx_typeck_solver.specs.Ordered.{Knowing, more, anything, all_known, all_passed, ready, learns, learns_all, Ready, knows, Ordered, asks_integer, AsksInteger}
use Rattle.rx_typeck_typed.specs.Asking.{asks, typed}

-- the subject was told by these demands
pub record Sure (ds : List Demand) (x : Subject) : Type 0 where
  pub is : IsTrue (knows order.nothing ds x)

pub record Known (ds : List Demand) (xs : List Subject) : Type 0 where
  pub are : IsTrue (all_known (knows order.nothing ds) xs)

pub record Passed (ds : List Demand) (ps : List Passing) : Type 0 where
  pub are : IsTrue (all_passed (knows order.nothing ds) ps)

abbrev pub Flagged : List Demand → Type 0
Flagged [] = Unit {0}
Flagged (d ∷ ds) = (IsTrue d.unsuffixed → IsTrue (asks_integer d.node d.facts)) × Flagged ds

pub record Reach (ds ds' : List Demand) : Type 0 where
  pub ordered : Ordered order.nothing ds → Ordered order.nothing ds'
  pub flagged : Flagged ds → Flagged ds'
  pub keeps : (x : Subject) → Sure ds x → Sure ds' x

pub stays : (ds : List Demand) → Reach ds ds
stays ds = record { ordered = λ o. o; flagged = λ f. f; keeps = λ x s. s }

infixr 9 ◌⇒◌
pub ◌⇒◌ : {ds ds1 ds2 : List Demand} → Reach ds ds1 → Reach ds1 ds2 → Reach ds ds2
a ⇒ b = record { ordered = λ o. b.ordered (a.ordered o); flagged = λ f. b.flagged (a.flagged f); keeps = λ x s. b.keeps x (a.keeps x s) }

-- ---- truth values

pub and_true : (a b : Bool) → IsTrue a → IsTrue b → IsTrue (a && b)
and_true true b h k = k
and_true false b h k = h

or_right : (a b : Bool) → IsTrue b → IsTrue (a || b)
or_right true b h = refl
or_right false b h = h

pub first_true : (a b : Bool) → IsTrue (a && b) → IsTrue a
first_true true b h = refl
first_true false b h = h

pub second_true : (a b : Bool) → IsTrue (a && b) → IsTrue b
second_true true b h = h
second_true false b h = absurd (cc)

or_keeps : (a b c : Bool) → (IsTrue b → IsTrue c) → IsTrue (a || b) → IsTrue (a || c)
or_keeps true b c f h = refl
or_keeps false b c f h = f h

pub same_self : (x : Subject) → IsTrue (same_subject x x)
same_self (subject.Variable n) = eq-eqb n n refl
same_self (subject.Node n) = eq-eqb n n refl
same_self (subject.Expected n) = eq-eqb n n refl

-- ---- one demand more

pub knows_snoc : (K : Knowing) (ds : List Demand) (d : Demand) → knows K (ds ++ d ∷ []) ≡ learns_all (knows K ds) d.facts
knows_snoc K [] d = refl
knows_snoc K (e ∷ ds) d = knows_snoc (learns_all K e.facts) ds d

ordered_snoc : (K : Knowing) (ds : List Demand) (d : Demand) → Ordered K ds → Ready d.node (knows K ds) d.facts → Ordered K (ds ++ d ∷ [])
ordered_snoc K [] d o r = (r, tt)
ordered_snoc K (e ∷ ds) d o r = (o.0, ordered_snoc (learns_all K e.facts) ds d o.1 r)

flagged_snoc : (ds : List Demand) (d : Demand) → Flagged ds → (IsTrue d.unsuffixed → IsTrue (asks_integer d.node d.facts)) → Flagged (ds ++ d ∷ [])
flagged_snoc [] d f h = (h, tt)
flagged_snoc (e ∷ ds) d f h = (f.0, flagged_snoc ds d f.1 h)

learns_keeps : (K : Knowing) (f : Fact) (x : Subject) → IsTrue (K x) → IsTrue (learns K f x)
learns_keeps K (fact.Equals y o xs ps) x h = or_right _ _ h
learns_keeps K (fact.Integer m s) x h = or_right _ _ h
learns_keeps K (fact.IntegerBehind m s) x h = h
learns_keeps K (fact.Passes t xs ps qs) x h = h
learns_keeps K fact.Never x h = refl

pub learns_all_keeps : (K : Knowing) (fs : List Fact) (x : Subject) → IsTrue (K x) → IsTrue (learns_all K fs x)
learns_all_keeps K [] x h = h
learns_all_keeps K (f ∷ fs) x h = learns_all_keeps (learns K f) fs x (learns_keeps K f x h)

pub demand_of : Node → Broken → Bool → List Fact → Demand
demand_of n b o fs = record { node = n.number; span = n.span; broken = b; unsuffixed = o; facts = fs }

-- what a demand tells
pub learnt : (n : Node) (b : Broken) (o : Bool) (fs : List Fact) (ds : List Demand) (x : Subject) → IsTrue (learns_all (knows order.nothing ds) fs x) → Sure (asks n b o fs ds) x
learnt n b o fs ds x h = record { is = learnt_is n b o fs ds x h }
  where
    learnt_is : (n : Node) (b : Broken) (o : Bool) (fs : List Fact) (ds : List Demand) (x : Subject) → IsTrue (learns_all (knows order.nothing ds) fs x) → IsTrue (knows order.nothing (asks n b o fs ds) x)
    learnt_is n b o fs ds x h = ap (λ (K : Knowing). K x) (knows_snoc order.nothing ds (record { node = n.number; span = n.span; broken = b; unsuffixed = o; facts = fs })) ∙ h

-- a demand whose facts can be read
pub asked : (n : Node) (b : Broken) (o : Bool) (fs : List Fact) (ds : List Demand) → Ready n.number (knows order.nothing ds) fs → (IsTrue o → IsTrue (asks_integer n.number fs)) → Reach ds (asks n b o fs ds)
asked n b o fs ds r h = record {
  ordered = λ g. ordered_snoc order.nothing ds _ g r;
  flagged = λ g. flagged_snoc ds _ g h;
  keeps = λ x s. learnt n b o fs ds x (learns_all_keeps (knows order.nothing ds) fs x s.is);
}

-- ---- single facts

pub record Tells (ds ds' : List Demand) (x : Subject) : Type 0 where
  pub reach : Reach ds ds'
  pub told : Sure ds' x

pub equals_asked : (n : Node) (b : Broken) (x : Subject) (o : Op) (xs : List Subject) (ps : List Passing) (ds : List Demand)
    → Known ds xs → Passed ds ps → Tells ds (asks n b false (fact.Equals x o xs ps ∷ []) ds) x
equals_asked n b x o xs ps ds h k = record {
  reach = asked n b false _ ds (and_true _ _ h.are k.are, tt) (λ f. absurd (cc));
  told = learnt n b false _ ds x (ap (λ c. c || knows order.nothing ds x) (same_self x));
}

pub passes_asked : (n : Node) (b : Broken) (t : Test) (xs : List Subject) (ps qs : List Passing) (ds : List Demand)
    → Known ds xs → Passed ds ps → Passed ds qs → Reach ds (asks n b false (fact.Passes t xs ps qs ∷ []) ds)
passes_asked n b t xs ps qs ds h k l = asked n b false _ ds (and_true _ _ (and_true _ _ h.are k.are) l.are, tt) (λ f. absurd (cc))

-- a node that has an integer type, asked at itself
pub integer_asked : (n : Node) (b : Broken) (o : Bool) (s : Kinds) (ds : List Demand) → Tells ds (asks n b o (fact.Integer n.number s ∷ []) ds) (subject.Node n.number)
integer_asked n b o s ds = record {
  reach = asked n b o _ ds (ap (λ c. c || knows order.nothing ds (subject.Node n.number)) (eq-eqb n.number n.number refl), tt) (λ f. ap (λ c. c || false) (eq-eqb n.number n.number refl));
  told = learnt n b o _ ds (subject.Node n.number) (ap (λ c. c || knows order.nothing ds (subject.Node n.number)) (same_self (subject.Node n.number)));
}

pub behind_asked : (n : Node) (b : Broken) (o : Bool) (s : Kinds) (ds : List Demand) → Sure ds (subject.Node n.number) → Reach ds (asks n b o (fact.IntegerBehind n.number s ∷ []) ds)
behind_asked n b o s ds h = asked n b o _ ds (h.is, tt) (λ f. ap (λ c. c || false) (eq-eqb n.number n.number refl))

pub record TellsAll (ds ds' : List Demand) : Type 0 where
  pub reach : Reach ds ds'
  pub told : (x : Subject) → Sure ds' x

pub never_asked : (n : Node) (b : Broken) (ds : List Demand) → TellsAll ds (asks n b false (fact.Never ∷ []) ds)
never_asked n b ds = record {
  reach = asked n b false _ ds (refl, tt) (λ f. absurd (cc));
  told = λ x. learnt n b false _ ds x refl;
}

-- ---- literals

pub flagged_literals : (ds : List Demand) → Flagged ds → (n : ℕ) → IsIn n (literals_of ds) → AsksInteger ds n
flagged_literals [] f n i = i
flagged_literals (d ∷ ds) f n i = go (λ i. flagged_literals ds f.1 n i) d.unsuffixed refl i
  where
    at : (IsIn n (literals_of ds) → AsksInteger ds n) → IsTrue d.unsuffixed → (n ≡ d.node) ⊎ IsIn n (literals_of ds) → AsksInteger (d ∷ ds) n
    at rest u (inl e) = inl (sym e, subst (λ m. IsTrue (asks_integer m d.facts)) (sym e) (f.0 u))
    at rest u (inr i) = inr (rest i)

    go : (IsIn n (literals_of ds) → AsksInteger ds n) → (u : Bool) → d.unsuffixed ≡ u → IsIn n (if u then d.node ∷ literals_of ds else literals_of ds) → AsksInteger (d ∷ ds) n
    go rest true e i = at rest e i
    go rest false e i = inr (rest i)

-- ---- lists of facts, each of which can be read

all_known_keeps : (K L : Knowing) → ((x : Subject) → IsTrue (K x) → IsTrue (L x)) → (xs : List Subject) → IsTrue (all_known K xs) → IsTrue (all_known L xs)
all_known_keeps K L h [] k = refl
all_known_keeps K L h (x ∷ xs) k = and_true _ _ (h x (first_true _ _ k)) (all_known_keeps K L h xs (second_true _ _ k))

all_passed_keeps : (K L : Knowing) → ((x : Subject) → IsTrue (K x) → IsTrue (L x)) → (ps : List Passing) → IsTrue (all_passed K ps) → IsTrue (all_passed L ps)
all_passed_keeps K L h [] k = refl
all_passed_keeps K L h (p ∷ ps) k = and_true _ _ (h _ (first_true _ _ k)) (all_passed_keeps K L h ps (second_true _ _ k))

sure_in : (ds ds' : List Demand) → Reach ds ds' → (x : Subject) → IsTrue (knows order.nothing ds x) → IsTrue (knows order.nothing ds' x)
sure_in ds ds' r x s = (r.keeps x (record { is = s })).is

pub sure_known : {ds ds' : List Demand} {xs : List Subject} → Reach ds ds' → Known ds xs → Known ds' xs
sure_known r k = record { are = all_known_keeps _ _ (sure_in _ _ r) _ k.are }

pub sure_passed : {ds ds' : List Demand} {ps : List Passing} → Reach ds ds' → Passed ds ps → Passed ds' ps
sure_passed r k = record { are = all_passed_keeps _ _ (sure_in _ _ r) _ k.are }

pub sure_kept : {ds ds' : List Demand} {x : Subject} → Reach ds ds' → Sure ds x → Sure ds' x
sure_kept r h = r.keeps _ h

pub known_none : {ds : List Demand} → Known ds []
known_none = record { are = refl }

pub known_and : {ds : List Demand} {x : Subject} {xs : List Subject} → Sure ds x → Known ds xs → Known ds (x ∷ xs)
known_and h k = record { are = and_true _ _ h.is k.are }

pub known_one : {ds : List Demand} {x : Subject} → Sure ds x → Known ds (x ∷ [])
known_one h = known_and h known_none

pub known_two : {ds : List Demand} {x y : Subject} → Sure ds x → Sure ds y → Known ds (x ∷ y ∷ [])
known_two h k = known_and h (known_one k)

pub passed_none : {ds : List Demand} → Passed ds []
passed_none = record { are = refl }

pub passed_and : {ds : List Demand} {ps : List Passing} (p : Passing) → Sure ds (subject.Node p.node) → Passed ds ps → Passed ds (p ∷ ps)
passed_and p h k = record { are = and_true _ _ h.is k.are }

pub passed_snoc : {ds : List Demand} (p : Passing) (ps : List Passing) → Passed ds ps → Sure ds (subject.Node p.node) → Passed ds (ps ++ p ∷ [])
passed_snoc p [] k h = passed_and p h passed_none
passed_snoc p (q ∷ ps) k h = passed_and q (record { is = first_true _ _ k.are }) (passed_snoc p ps (record { are = second_true _ _ k.are }) h)

ready_keeps : (n : ℕ) (K L : Knowing) → ((x : Subject) → IsTrue (K x) → IsTrue (L x)) → (f : Fact) → IsTrue (ready n K f) → IsTrue (ready n L f)
ready_keeps n K L h (fact.Equals x o xs ps) k = and_true _ _ (all_known_keeps K L h xs (first_true _ _ k)) (all_passed_keeps K L h ps (second_true _ _ k))
ready_keeps n K L h (fact.Integer m s) k = or_keeps (nat_eq m n) _ _ (h (subject.Node m)) k
ready_keeps n K L h (fact.IntegerBehind m s) k = h (subject.Node m) k
ready_keeps n K L h (fact.Passes t xs ps qs) k = and_true _ _ (and_true _ _ (all_known_keeps K L h xs (first_true _ _ (first_true _ _ k))) (all_passed_keeps K L h ps (second_true _ _ (first_true _ _ k)))) (all_passed_keeps K L h qs (second_true _ _ k))
ready_keeps n K L h fact.Never k = refl

abbrev pub EachReady : ℕ → Knowing → List Fact → Type 0
EachReady n K [] = Unit {0}
EachReady n K (f ∷ fs) = IsTrue (ready n K f) × EachReady n K fs

each_keeps : (n : ℕ) (K L : Knowing) → ((x : Subject) → IsTrue (K x) → IsTrue (L x)) → (fs : List Fact) → EachReady n K fs → EachReady n L fs
each_keeps n K L h [] k = tt
each_keeps n K L h (f ∷ fs) k = (ready_keeps n K L h f k.0, each_keeps n K L h fs k.1)

pub ready_each : (n : ℕ) (K : Knowing) (fs : List Fact) → EachReady n K fs → Ready n K fs
ready_each n K [] k = tt
ready_each n K (f ∷ fs) k = (k.0, ready_each n (learns K f) fs (each_keeps n K (learns K f) (λ x h. learns_keeps K f x h) fs k.1))

pub each_join : (n : ℕ) (K : Knowing) (fs gs : List Fact) → EachReady n K fs → EachReady n K gs → EachReady n K (fs ++ gs)
each_join n K [] gs a b = b
each_join n K (f ∷ fs) gs a b = (a.0, each_join n K fs gs a.1 b)

pub each_typed : (n : ℕ) (K : Knowing) (v : Bool) (f : Fact) → (v ≡ false → IsTrue (ready n K f)) → EachReady n K (typed v f)
each_typed n K true f h = tt
each_typed n K false f h = (h refl, tt)

pub learns_join : (K : Knowing) (fs gs : List Fact) → learns_all K (fs ++ gs) ≡ learns_all (learns_all K fs) gs
learns_join K [] gs = refl
learns_join K (f ∷ fs) gs = learns_join (learns K f) fs gs
