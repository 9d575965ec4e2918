-- Sets of points, pairs and loans by other numbers: what serves, what is least, what is known and missing, and what is legal, there and
-- back.
use Rattle.std.proofs.Common.{◌≡◌, ◌↔◌, inl, inr, ℕ, ◌+◌, ◌<◌, true, List, [], ◌∷◌, ◌++◌, map, Some, refl, sym, ap, subst, ◌∙◌}
use Rattle.std.proofs.lemmas.List.{map-append}
use Rattle.rx_core.specs.declared.types.Bound.{Bound}
use Rattle.rx_graph_cycles.specs.Reaches.{IsIn}
use Rattle.rx_graph_reach.specs.Reached.{Reached}
use Rattle.rx_typed.specs.Regions.{lifetimes_in}
use Rattle.rx_typed.specs.Tree.{Root}
use Rattle.rx_typed.specs.Renaming.{bound_renamed}
use Rattle.rx_lower_walks.specs.Actions.{Act, Declare, Dead, Read, Write, Borrow, Test, Call, Build, Input, Print, Give}
use Rattle.rx_lower_walks.specs.Walks.{Among, here, there}
use Rattle.rx_lower_walks.specs.Graph.{Site, site_at}
use Rattle.rx_lower_walks.specs.Text.{actions_of}
use Rattle.rx_lower_lifetimes.specs.Numbered.{Own, none, region, signed}
use Rattle.rx_facts_tables.specs.Along.{edges_of}
use Rattle.rx_region_outlives.specs.Implied.{HasPair}
use Rattle.rx_region.specs.Constraints.{Context, root_type, imposed}
use Rattle.rx_region.specs.Solutions.{Point, site, end, Sets, Solution, Least}
use Rattle.rx_region.specs.Solutions as solutions
use Rattle.rx_region.specs.Known.{told, KnownToOutlive, Missing}
use Rattle.rx_region.specs.Known as knowing
use Rattle.rx_region.specs.Tables.{Follows, itself, by}
use Rattle.rx_loan.specs.Accesses.{Loan, acts_against}
use Rattle.rx_loan.specs.Loans.{loan_at, loans_from, loans_of, ends_at, InScope, MeetsLoan, IsLegal}
use Rattle.rx_loan.specs.Accepted.{at_sites, AcceptedBy, IsAccepted}
use Rattle.rx_repair.specs.LeastBounds.{by_types, IsLeastBound}
use Rattle.rx_repair.proofs.Renamed.{bounds_moved, bounds_back}
use Rattle.rx_repair.specs.Renaming.{Renaming, own_renamed, lifetimes_renamed, context_renamed, point_renamed, sets_renamed, loan_renamed}
use Rattle.rx_repair.specs.Fitting.{Fits}
use Rattle.rx_repair.proofs.Types.{lifetimes_are}
use Rattle.rx_repair.proofs.RenamingAsking.{root_is, types_told, all_told, imposed_same}

mapped_in : (f : ℕ → ℕ) (ls : List ℕ) (l : ℕ) → IsIn ls l → IsIn (map f ls) (f l)
mapped_in f [] l h = absurd h
mapped_in f (x ∷ ls) l (inl e) = inl (ap f e)
mapped_in f (x ∷ ls) l (inr h) = inr (mapped_in f ls l h)

was_in : (f g : ℕ → ℕ) → ((l : ℕ) → g (f l) ≡ l) → (ls : List ℕ) (l : ℕ) → IsIn (map f ls) l → IsIn ls (g l)
was_in f g e [] l h = absurd h
was_in f g e (x ∷ ls) l (inl s) = inl (sym (e x) ∙ ap g s)
was_in f g e (x ∷ ls) l (inr h) = inr (was_in f g e ls l h)

-- ---- loans

loan_same : (f : ℕ → ℕ) (n : ℕ) (a : Act) (o : Own) → loan_at n a (own_renamed f o) ≡ map (loan_renamed f) (loan_at n a o)
loan_same f n (Borrow k p d) none = refl
loan_same f n (Borrow k p d) (region r) = refl
loan_same f n (Borrow k p d) (signed S) = refl
loan_same f n (Declare x) o = refl
loan_same f n (Dead x) o = refl
loan_same f n (Read m p d) o = refl
loan_same f n (Write p t ss) o = refl
loan_same f n (Test p c) o = refl
loan_same f n (Call g ts d) o = refl
loan_same f n (Build w is ts d) o = refl
loan_same f n (Input d) o = refl
loan_same f n (Print t) o = refl
loan_same f n (Give t) o = refl

loans_from_same : (f : ℕ → ℕ) (n : ℕ) (g : List Site) (os : List Own) → loans_from n g (map (own_renamed f) os) ≡ map (loan_renamed f) (loans_from n g os)
loans_from_same f n [] os = refl
loans_from_same f n (s ∷ g) [] = refl
loans_from_same f n (s ∷ g) (o ∷ os) =
    (λ j. loan_same f n s.action.act o j ++ loans_from_same f (n + 1) g os j) ∙ sym (map-append (loan_renamed f) (loan_at n s.action.act o) (loans_from (n + 1) g os))

pub loans_same : (f : ℕ → ℕ) (g : List Site) (os : List Own) → loans_of g (map (own_renamed f) os) ≡ map (loan_renamed f) (loans_of g os)
loans_same f g os = loans_from_same f 0 g os

-- what is accessed speaks of no lifetime
against_same : (f : ℕ → ℕ) (a : Act) (l : Loan) → acts_against a (loan_renamed f l) ≡ acts_against a l
against_same f (Borrow k p d) l = refl
against_same f (Declare x) l = refl
against_same f (Dead x) l = refl
against_same f (Read m p d) l = refl
against_same f (Write p t ss) l = refl
against_same f (Test p c) l = refl
against_same f (Call g ts d) l = refl
against_same f (Build w is ts d) l = refl
against_same f (Input d) l = refl
against_same f (Print t) l = refl
against_same f (Give t) l = refl

mapped_among : (f : ℕ → ℕ) (ls : List Loan) (l : Loan) → Among l ls → Among (loan_renamed f l) (map (loan_renamed f) ls)
mapped_among f [] l h = absurd (elim h [ ])
mapped_among f (l ∷ ls) _ here = here
mapped_among f (x ∷ ls) l (there h) = there (mapped_among f ls l h)

record WasLoan (f : ℕ → ℕ) (ls : List Loan) (m : Loan) : Type 0 where
  loan : Loan
  among : Among loan ls
  is : m ≡ loan_renamed f loan

was_among : (f : ℕ → ℕ) (ls : List Loan) (m : Loan) → Among m (map (loan_renamed f) ls) → WasLoan f ls m
was_among f [] m h = absurd (elim h [ ])
was_among f (x ∷ ls) _ here = record { loan = x; among = here; is = refl }
was_among f (x ∷ ls) m (there h) = let w = was_among f ls m h in record { loan = w.loan; among = there w.among; is = w.is }

module _ (f : ℕ → ℕ) (g : List Site) (R : Sets) (ls : List Loan) where
  pub legal_before : IsLegal g (at_sites R) (map (loan_renamed f) ls) → IsLegal g (at_sites (sets_renamed f R)) ls
  legal_before h l p m =
      let a = m.against in
      h (loan_renamed f l) p (record { listed = mapped_among f ls l m.listed; scope = m.scope; against = (a.0, a.1, against_same f a.0.action.act l ∙ a.2) })

  meets_before : (m : Loan) (p : ℕ) → MeetsLoan g (at_sites R) (map (loan_renamed f) ls) m p → (l : Loan) × MeetsLoan g (at_sites (sets_renamed f R)) ls l p
  meets_before m p x =
      let w = was_among f ls m x.listed in
      let y = subst (λ (n : Loan). InScope g (at_sites R) n p × ((s : Site) × (site_at g p ≡ Some s) × (acts_against s.action.act n ≡ true))) w.is (x.scope, x.against) in
      let a = y.1 in
      (w.loan, record { listed = w.among; scope = y.0; against = (a.0, a.1, sym (against_same f a.0.action.act w.loan) ∙ a.2) })

  pub legal_after : IsLegal g (at_sites (sets_renamed f R)) ls → IsLegal g (at_sites R) (map (loan_renamed f) ls)
  legal_after h m p x = let y = meets_before m p x in h y.0 p y.1

-- ---- points and sets there and back

module _ (own : ℕ) (r : Renaming own) where
  point_back : (x : Point) → point_renamed r.from (point_renamed r.to x) ≡ x
  point_back (site p) = refl
  point_back (end l) = ap end (r.from_to l)

  pub sets_back : (R : Sets) → sets_renamed r.to (sets_renamed r.from R) ≡ R
  sets_back R = λ j l x. R (r.from_to l j) (point_back x j)

  pub sets_there : (R : Sets) (l k : ℕ) → R (r.from (r.to l)) (end (r.from (r.to k))) ≡ R l (end k)
  sets_there R l k = λ j. R (r.from_to l j) (end (r.from_to k j))

  follows_on : (bs cs : List Bound) → cs ≡ map (bound_renamed r.to) bs → (l k : ℕ) → Follows bs l k → Follows cs (r.to l) (r.to k)
  follows_on bs cs e l k itself = itself
  follows_on bs cs e l k (by m pair rest) =
      by (r.to m) (subst (λ (ds : List Bound). HasPair ds (r.to l) (r.to m)) (sym e) (bounds_moved r.to bs l m pair)) (follows_on bs cs e m k rest)

  -- a pair by the old numbers
  pub pair_back : (bs cs : List Bound) → cs ≡ map (bound_renamed r.to) bs → (x y : ℕ) → HasPair cs x y → HasPair bs (r.from x) (r.from y)
  pair_back bs cs e x y h =
      let w = bounds_back r.to bs x y (subst (λ (ds : List Bound). HasPair ds x y) e h) in
      subst (λ (z : ℕ). HasPair bs (r.from x) z) (sym (r.from_to w.short) ∙ ap r.from w.second)
      (subst (λ (z : ℕ). HasPair bs z w.short) (sym (r.from_to w.long) ∙ ap r.from w.first) w.pair)

  follows_back : (bs cs : List Bound) → cs ≡ map (bound_renamed r.to) bs → (x y : ℕ) → Follows cs x y → Follows bs (r.from x) (r.from y)
  follows_back bs cs e x y itself = itself
  follows_back bs cs e x y (by m pair rest) = by (r.from m) (pair_back bs cs e x m pair) (follows_back bs cs e m y rest)

  as_before : (P : ℕ → ℕ → Type 0) (l k : ℕ) → P (r.from (r.to l)) (r.from (r.to k)) → P l k
  as_before P l k h = subst (λ (z : ℕ). P l z) (r.from_to k) (subst (λ (z : ℕ). P z (r.from (r.to k))) (r.from_to l) h)

  pub follows_same : (bs cs : List Bound) → cs ≡ map (bound_renamed r.to) bs → (l k : ℕ) → Follows bs l k ↔ Follows cs (r.to l) (r.to k)
  follows_same bs cs e l k = (follows_on bs cs e l k, λ h. as_before (λ l k. Follows bs l k) l k (follows_back bs cs e (r.to l) (r.to k) h))

-- ---- a function

module _ (C : Context) (g : List Site) (fit : Fits C (actions_of g)) (r : Renaming C.lifetimes.own) where
  asked_same : imposed (context_renamed r.to C) (actions_of g) ≡ map (bound_renamed r.to) (imposed C (actions_of g))
  asked_same = imposed_same r.to C (actions_of g) fit

  pair_on : (l k : ℕ) → HasPair (imposed C (actions_of g)) l k → HasPair (imposed (context_renamed r.to C) (actions_of g)) (r.to l) (r.to k)
  pair_on l k h = subst (λ (ds : List Bound). HasPair ds (r.to l) (r.to k)) (sym asked_same) (bounds_moved r.to (imposed C (actions_of g)) l k h)

  held_on : (x : Root) (l : ℕ) → IsIn (lifetimes_in (root_type C.lifetimes x)) l → IsIn (lifetimes_in (root_type (lifetimes_renamed r.to C.lifetimes) x)) (r.to l)
  held_on x l h =
      subst (λ (ls : List ℕ). IsIn ls (r.to l)) (sym (ap lifetimes_in (root_is r.to C.lifetimes x) ∙ lifetimes_are r.to (root_type C.lifetimes x))) (mapped_in r.to (lifetimes_in (root_type C.lifetimes x)) l h)

  held_back : (x : Root) (l : ℕ) → IsIn (lifetimes_in (root_type (lifetimes_renamed r.to C.lifetimes) x)) l → IsIn (lifetimes_in (root_type C.lifetimes x)) (r.from l)
  held_back x l h =
      was_in r.to r.from r.from_to (lifetimes_in (root_type C.lifetimes x)) l
      (subst (λ (ls : List ℕ). IsIn ls l) (ap lifetimes_in (root_is r.to C.lifetimes x) ∙ lifetimes_are r.to (root_type C.lifetimes x)) h)

  -- ---- solutions

  pub solution_on : (R : Sets) → Solution C g R → Solution (context_renamed r.to C) g (sets_renamed r.from R)
  solution_on R s = record {
    whole = λ l p h i. s.whole (r.from l) p (r.own_from l h) i;
    ends = λ l h. s.ends (r.from l) (r.own_from l h);
    live = λ x p l v h. s.live x p (r.from l) v (held_back x l h);
    longer = λ l k h x e. s.longer (r.from l) (r.from k) (pair_back C.lifetimes.own r (imposed C (actions_of g)) (imposed (context_renamed r.to C) (actions_of g)) asked_same l k h) (point_renamed r.from x) e;
  }

  -- any solution by the new numbers is one by the old
  pub solution_back : (R : Sets) → Solution (context_renamed r.to C) g R → Solution C g (sets_renamed r.to R)
  solution_back R s = record {
    whole = λ l p h i. s.whole (r.to l) p (r.own_to l h) i;
    ends = λ l h. s.ends (r.to l) (r.own_to l h);
    live = λ x p l v h. s.live x p (r.to l) v (held_on x l h);
    longer = λ l k h x e. s.longer (r.to l) (r.to k) (pair_on l k h) (point_renamed r.to x) e;
  }

  pub solutions_same : (R : Sets) → Solution C g R ↔ Solution (context_renamed r.to C) g (sets_renamed r.from R)
  solutions_same R = (solution_on R, λ s. subst (λ (S : Sets). Solution C g S) (sets_back C.lifetimes.own r R) (solution_back (sets_renamed r.from R) s))

  -- ---- the least sets

  least_on : (l : ℕ) (x : Point) → Least C g l x → Least (context_renamed r.to C) g (r.to l) (point_renamed r.to x)
  least_on l _ (solutions.whole h i) = solutions.whole (r.own_to l h) i
  least_on l _ (solutions.ends h) = solutions.ends (r.own_to l h)
  least_on l _ (solutions.live y v h) = solutions.live y v (held_on y l h)
  least_on l x (solutions.longer k h rest) = solutions.longer (r.to k) (pair_on l k h) (least_on k x rest)

  least_back : (l : ℕ) (x : Point) → Least (context_renamed r.to C) g l x → Least C g (r.from l) (point_renamed r.from x)
  least_back l _ (solutions.whole h i) = solutions.whole (r.own_from l h) i
  least_back l _ (solutions.ends h) = solutions.ends (r.own_from l h)
  least_back l _ (solutions.live y v h) = solutions.live y v (held_back y l h)
  least_back l x (solutions.longer k h rest) =
      solutions.longer (r.from k) (pair_back C.lifetimes.own r (imposed C (actions_of g)) (imposed (context_renamed r.to C) (actions_of g)) asked_same l k h) (least_back k x rest)

  pub least_same : (l : ℕ) (x : Point) → Least C g l x ↔ Least (context_renamed r.to C) g (r.to l) (point_renamed r.to x)
  least_same l x = (
    least_on l x,
    λ h. subst (λ (y : Point). Least C g l y) (point_back C.lifetimes.own r x)
        (subst (λ (k : ℕ). Least C g k (point_renamed r.from (point_renamed r.to x))) (r.from_to l) (least_back (r.to l) (point_renamed r.to x) h)),
  )

  -- ---- what is known

  known_on : (l k : ℕ) → KnownToOutlive C l k → KnownToOutlive (context_renamed r.to C) (r.to l) (r.to k)
  known_on l k knowing.itself = knowing.itself
  known_on l k (knowing.by m pair rest) =
      knowing.by (r.to m) (subst (λ (ds : List Bound). HasPair ds (r.to l) (r.to m)) (sym (all_told r.to C)) (bounds_moved r.to (told C) l m pair)) (known_on m k rest)

  known_back : (l k : ℕ) → KnownToOutlive (context_renamed r.to C) l k → KnownToOutlive C (r.from l) (r.from k)
  known_back l k knowing.itself = knowing.itself
  known_back l k (knowing.by m pair rest) = knowing.by (r.from m) (pair_back C.lifetimes.own r (told C) (told (context_renamed r.to C)) (all_told r.to C) l m pair) (known_back m k rest)

  known_before : (l k : ℕ) → KnownToOutlive (context_renamed r.to C) (r.to l) (r.to k) → KnownToOutlive C l k
  known_before l k h = as_before C.lifetimes.own r (λ l k. KnownToOutlive C l k) l k (known_back (r.to l) (r.to k) h)

  own_before : (l : ℕ) → r.to l < C.lifetimes.own → l < C.lifetimes.own
  own_before l h = subst (λ (k : ℕ). k < C.lifetimes.own) (r.from_to l) (r.own_from (r.to l) h)

  pub missing_same : (l k : ℕ) → Missing C g l k ↔ Missing (context_renamed r.to C) g (r.to l) (r.to k)
  missing_same l k = (
    λ m. record { long = r.own_to l m.long; short = r.own_to k m.short; needed = (least_same l (end k)).0 m.needed; unknown = λ h. m.unknown (known_before l k h) },
    λ m. record { long = own_before l m.long; short = own_before k m.short; needed = (least_same l (end k)).1 m.needed; unknown = λ h. m.unknown (known_on l k h) },
  )

  pub bounds_same : (l k : ℕ) → IsLeastBound C g l k ↔ IsLeastBound (context_renamed r.to C) g (r.to l) (r.to k)
  bounds_same l k = (
    λ b. record {
      long = r.own_to l b.long;
      short = r.own_to k b.short;
      different = λ e. b.different (sym (r.from_to l) ∙ ap r.from e ∙ r.from_to k);
      needed = λ R s. b.needed (sets_renamed r.to R) (solution_back R s);
      unknown = λ h. b.unknown ((follows_same C.lifetimes.own r (by_types C) (by_types (context_renamed r.to C)) (types_told r.to C) l k).1 h);
    },
    λ b. record {
      long = own_before l b.long;
      short = own_before k b.short;
      different = λ e. b.different (ap r.to e);
      needed = λ R s. sym (sets_there C.lifetimes.own r R l k) ∙ b.needed (sets_renamed r.from R) (solution_on R s);
      unknown = λ h. b.unknown ((follows_same C.lifetimes.own r (by_types C) (by_types (context_renamed r.to C)) (types_told r.to C) l k).0 h);
    },
  )

  -- ---- the verdict

  accepted_on : (R : Sets) → AcceptedBy C g R → AcceptedBy (context_renamed r.to C) g (sets_renamed r.from R)
  accepted_on R a = record {
    solution = solution_on R a.solution;
    known = λ l k h i e. subst (λ (z : ℕ). KnownToOutlive (context_renamed r.to C) l z) (r.to_from k)
        (subst (λ (z : ℕ). KnownToOutlive (context_renamed r.to C) z (r.to (r.from k))) (r.to_from l) (known_on (r.from l) (r.from k) (a.known (r.from l) (r.from k) (r.own_from l h) (r.own_from k i) e)));
    legal = subst (λ (ls : List Loan). IsLegal g (at_sites (sets_renamed r.from R)) ls) (sym (loans_same r.to g C.lifetimes.owned))
        (legal_after r.to g (sets_renamed r.from R) (loans_of g C.lifetimes.owned)
        (subst (λ (S : Sets). IsLegal g (at_sites S) (loans_of g C.lifetimes.owned)) (sym (sets_back C.lifetimes.own r R)) a.legal));
  }

  accepted_back : (R : Sets) → AcceptedBy (context_renamed r.to C) g R → AcceptedBy C g (sets_renamed r.to R)
  accepted_back R a = record {
    solution = solution_back R a.solution;
    known = λ l k h i e. known_before l k (a.known (r.to l) (r.to k) (r.own_to l h) (r.own_to k i) e);
    legal = legal_before r.to g R (loans_of g C.lifetimes.owned) (subst (λ (ls : List Loan). IsLegal g (at_sites R) ls) (loans_same r.to g C.lifetimes.owned) a.legal);
  }

  pub accepted_same : IsAccepted C g ↔ IsAccepted (context_renamed r.to C) g
  accepted_same = (λ a. (sets_renamed r.from a.0, accepted_on a.0 a.1), λ a. (sets_renamed r.to a.0, accepted_back a.0 a.1))

-- ---- loans by the new numbers

module _ (C : Context) (g : List Site) (r : Renaming C.lifetimes.own) (R : Sets) where
  pub scopes_same : (l : Loan) (p : ℕ) → InScope g (at_sites R) l p ↔ InScope g (at_sites (sets_renamed r.from R)) (loan_renamed r.to l) p
  scopes_same l p = (
    λ h. subst (λ (k : ℕ). Reached (edges_of g) (λ q. R k (site q)) (λ q. ends_at (site_at g q) l.place) l.site p) (sym (r.from_to l.region)) h,
    λ h. subst (λ (k : ℕ). Reached (edges_of g) (λ q. R k (site q)) (λ q. ends_at (site_at g q) l.place) l.site p) (r.from_to l.region) h,
  )

  pub legal_same : IsLegal g (at_sites R) (loans_of g C.lifetimes.owned) ↔ IsLegal g (at_sites (sets_renamed r.from R)) (loans_of g (context_renamed r.to C).lifetimes.owned)
  legal_same = (
    λ h. subst (λ (ls : List Loan). IsLegal g (at_sites (sets_renamed r.from R)) ls) (sym (loans_same r.to g C.lifetimes.owned))
        (legal_after r.to g (sets_renamed r.from R) (loans_of g C.lifetimes.owned)
        (subst (λ (S : Sets). IsLegal g (at_sites S) (loans_of g C.lifetimes.owned)) (sym (sets_back C.lifetimes.own r R)) h)),
    λ h. subst (λ (S : Sets). IsLegal g (at_sites S) (loans_of g C.lifetimes.owned)) (sets_back C.lifetimes.own r R)
        (legal_before r.to g (sets_renamed r.from R) (loans_of g C.lifetimes.owned)
        (subst (λ (ls : List Loan). IsLegal g (at_sites (sets_renamed r.from R)) ls) (loans_same r.to g C.lifetimes.owned) h)),
  )
