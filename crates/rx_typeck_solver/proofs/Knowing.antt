-- Demands stay in order where more is known, and lists in order follow each other.
use Rattle.std.proofs.Common.{◌≡◌, ℕ, Bool, true, false, ◌&&◌, ◌||◌, IsTrue, List, [], ◌∷◌, ◌++◌, nat_eq, refl, sym, subst, inl, inr}
use Rattle.rx_typeck_solver.specs.declared.facts.Subject.{Subject}
use Rattle.rx_typeck_solver.specs.declared.facts.Subject.TheVariants as subject
use Rattle.rx_typeck_solver.specs.declared.facts.Passing.{Passing}
use Rattle.rx_typeck_solver.specs.declared.facts.Fact.{Fact}
use Rattle.rx_typeck_solver.specs.declared.facts.Fact.TheVariants as fact
use Rattle.rx_typeck_solver.specs.declared.facts.Demand.{Demand}
use Rattle.rx_typeck_solver.specs.Valid.{Tells, TellsAny, Told}
use Rattle.rx_typeck_solver.specs.Solver.{same_subject}
use Rattle.rx_typeck_solver.specs.Ordered.{Knowing, all_known, all_passed, ready, learns, learns_all, Ready, knows, Ordered, AsksInteger}
use Rattle.rx_typeck_solver.proofs.Base.{and_both, same_subject_itself}

-- one set of known subjects in another
abbrev pub Within : Knowing → Knowing → Type 0
Within K L = (x : Subject) → IsTrue (K x) → IsTrue (L x)

or_right : (a b : Bool) → IsTrue b → IsTrue (a || b)
or_right true b h = refl
or_right false b h = h

or_in : (a b c : Bool) → (IsTrue b → IsTrue c) → IsTrue (a || b) → IsTrue (a || c)
or_in true b c h k = refl
or_in false b c h k = h k

both_in : (a b c d : Bool) → (IsTrue a → IsTrue c) → (IsTrue b → IsTrue d) → IsTrue (a && b) → IsTrue (c && d)
both_in a b c d f g h = let p = (and_both a b).0 h in (and_both c d).1 (f p.0, g p.1)

pub fact_grows : (K : Knowing) (f : Fact) → Within K (learns K f)
fact_grows K (fact.Equals y o xs ps) x h = or_right (same_subject x y) (K x) h
fact_grows K (fact.Integer n s) x h = or_right (same_subject x (subject.Node n)) (K x) h
fact_grows K (fact.IntegerBehind n s) x h = h
fact_grows K (fact.Passes t xs ps qs) x h = h
fact_grows K fact.Never x h = refl

pub facts_grow : (K : Knowing) (fs : List Fact) → Within K (learns_all K fs)
facts_grow K [] x h = h
facts_grow K (f ∷ fs) x h = facts_grow (learns K f) fs x (fact_grows K f x h)

pub knows_grows : (K : Knowing) (ds : List Demand) → Within K (knows K ds)
knows_grows K [] x h = h
knows_grows K (d ∷ ds) x h = knows_grows (learns_all K d.facts) ds x (facts_grow K d.facts x h)

fact_told : (K : Knowing) (f : Fact) (x : Subject) → Tells f x → IsTrue (learns K f x)
fact_told K (fact.Equals y o xs ps) x h = subst (λ z. IsTrue (same_subject x z || K x)) h (subst (λ b. IsTrue (b || K x)) (sym (same_subject_itself x)) refl)
fact_told K (fact.Integer n s) x h = subst (λ z. IsTrue (same_subject x z || K x)) h (subst (λ b. IsTrue (b || K x)) (sym (same_subject_itself x)) refl)
fact_told K (fact.IntegerBehind n s) x h = absurd h
fact_told K (fact.Passes t xs ps qs) x h = absurd h
fact_told K fact.Never x h = refl

facts_told : (K : Knowing) (fs : List Fact) (x : Subject) → TellsAny fs x → IsTrue (learns_all K fs x)
facts_told K [] x h = absurd h
facts_told K (f ∷ fs) x (inl h) = facts_grow (learns K f) fs x (fact_told K f x h)
facts_told K (f ∷ fs) x (inr h) = facts_told (learns K f) fs x h

-- what is told is known
pub told_knows : (K : Knowing) (ds : List Demand) (x : Subject) → Told ds x → IsTrue (knows K ds x)
told_knows K [] x h = absurd h
told_knows K (d ∷ ds) x (inl h) = knows_grows (learns_all K d.facts) ds x (facts_told K d.facts x h)
told_knows K (d ∷ ds) x (inr h) = told_knows (learns_all K d.facts) ds x h

all_within : (K L : Knowing) → Within K L → (xs : List Subject) → IsTrue (all_known K xs) → IsTrue (all_known L xs)
all_within K L w [] h = refl
all_within K L w (x ∷ xs) h = both_in (K x) (all_known K xs) (L x) (all_known L xs) (w x) (all_within K L w xs) h

passed_within : (K L : Knowing) → Within K L → (ps : List Passing) → IsTrue (all_passed K ps) → IsTrue (all_passed L ps)
passed_within K L w [] h = refl
passed_within K L w (p ∷ ps) h = both_in (K (subject.Node p.node)) (all_passed K ps) (L (subject.Node p.node)) (all_passed L ps) (w (subject.Node p.node)) (passed_within K L w ps) h

pub learns_within : (K L : Knowing) → Within K L → (f : Fact) → Within (learns K f) (learns L f)
learns_within K L w (fact.Equals y o xs ps) x h = or_in (same_subject x y) (K x) (L x) (w x) h
learns_within K L w (fact.Integer n s) x h = or_in (same_subject x (subject.Node n)) (K x) (L x) (w x) h
learns_within K L w (fact.IntegerBehind n s) x h = w x h
learns_within K L w (fact.Passes t xs ps qs) x h = w x h
learns_within K L w fact.Never x h = refl

ready_within : (n : ℕ) (K L : Knowing) → Within K L → (f : Fact) → IsTrue (ready n K f) → IsTrue (ready n L f)
ready_within n K L w (fact.Equals y o xs ps) h = both_in (all_known K xs) (all_passed K ps) (all_known L xs) (all_passed L ps) (all_within K L w xs) (passed_within K L w ps) h
ready_within n K L w (fact.Integer m s) h = or_in (nat_eq m n) (K (subject.Node m)) (L (subject.Node m)) (w (subject.Node m)) h
ready_within n K L w (fact.IntegerBehind m s) h = w (subject.Node m) h
ready_within n K L w (fact.Passes t xs ps qs) h = both_in (all_known K xs && all_passed K ps) (all_passed K qs) (all_known L xs && all_passed L ps) (all_passed L qs)
    (both_in (all_known K xs) (all_passed K ps) (all_known L xs) (all_passed L ps) (all_within K L w xs) (passed_within K L w ps)) (passed_within K L w qs) h
ready_within n K L w fact.Never h = refl

pub learns_all_within : (K L : Knowing) → Within K L → (fs : List Fact) → Within (learns_all K fs) (learns_all L fs)
learns_all_within K L w [] = w
learns_all_within K L w (f ∷ fs) = learns_all_within (learns K f) (learns L f) (learns_within K L w f) fs

pub ready_more : (n : ℕ) (K L : Knowing) → Within K L → (fs : List Fact) → Ready n K fs → Ready n L fs
ready_more n K L w [] h = tt
ready_more n K L w (f ∷ fs) h = (ready_within n K L w f h.0, ready_more n (learns K f) (learns L f) (learns_within K L w f) fs h.1)

-- where more is known, demands are still in order
pub ordered_more : (K L : Knowing) → Within K L → (ds : List Demand) → Ordered K ds → Ordered L ds
ordered_more K L w [] h = tt
ordered_more K L w (d ∷ ds) h = (ready_more d.node K L w d.facts h.0, ordered_more (learns_all K d.facts) (learns_all L d.facts) (learns_all_within K L w d.facts) ds h.1)

pub knows_more : (K L : Knowing) → Within K L → (ds : List Demand) → Within (knows K ds) (knows L ds)
knows_more K L w [] = w
knows_more K L w (d ∷ ds) = knows_more (learns_all K d.facts) (learns_all L d.facts) (learns_all_within K L w d.facts) ds

-- lists of demands, one after another
pub knows_append : (K : Knowing) (xs ys : List Demand) → knows K (xs ++ ys) ≡ knows (knows K xs) ys
knows_append K [] ys = refl
knows_append K (d ∷ xs) ys = knows_append (learns_all K d.facts) xs ys

pub ordered_append : (K : Knowing) (xs ys : List Demand) → Ordered K xs → Ordered (knows K xs) ys → Ordered K (xs ++ ys)
ordered_append K [] ys h k = k
ordered_append K (d ∷ xs) ys h k = (h.0, ordered_append (learns_all K d.facts) xs ys h.1 k)

-- lists of facts, one after another
pub learns_append : (K : Knowing) (xs ys : List Fact) → learns_all K (xs ++ ys) ≡ learns_all (learns_all K xs) ys
learns_append K [] ys = refl
learns_append K (f ∷ xs) ys = learns_append (learns K f) xs ys

pub ready_append : (n : ℕ) (K : Knowing) (xs ys : List Fact) → Ready n K xs → Ready n (learns_all K xs) ys → Ready n K (xs ++ ys)
ready_append n K [] ys h k = k
ready_append n K (f ∷ xs) ys h k = (h.0, ready_append n (learns K f) xs ys h.1 k)

pub asks_left : (xs ys : List Demand) (n : ℕ) → AsksInteger xs n → AsksInteger (xs ++ ys) n
asks_left [] ys n h = absurd h
asks_left (d ∷ xs) ys n (inl h) = inl h
asks_left (d ∷ xs) ys n (inr h) = inr (asks_left xs ys n h)

pub asks_right : (xs ys : List Demand) (n : ℕ) → AsksInteger ys n → AsksInteger (xs ++ ys) n
asks_right [] ys n h = h
asks_right (d ∷ xs) ys n h = inr (asks_right xs ys n h)
