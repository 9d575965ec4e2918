-- Rows of sites of loans, gone through: the last two rules.
use Rattle.std.proofs.Common.{◌≡◌, ◌⊎◌, inl, inr, ℕ, zero, suc, ◌<◌, ◌≤◌, Bool, true, false, ◌||◌, ◌==◌, List, [], ◌∷◌, length, map, get_or, slice_get, Option, Some, None, refl, ap, sym, ◌∙◌, subst, arith, true≢false}
use Rattle.std.proofs.lemmas.Bool.{eqb-true, eq-eqb}
use Rattle.std.proofs.lemmas.List.{length-map}
use Rattle.std.proofs.lemmas.Option.{slice_get_within}
use Rattle.rx_graph.specs.Facts.{has, targets}
use Rattle.rx_graph.proofs.Spreading.{one_of}
use Rattle.rx_lower_walks.specs.Graph.{Site, site_at}
use Rattle.rx_facts_tables.specs.Along.{edges_of}
use Rattle.rx_facts_tables.proofs.Ways.{site_within, site_of}
use Rattle.rx_loan.specs.Accesses.{Loan, acts_against}
use Rattle.rx_loan.specs.PlainOf.{plain-Loan}
use Rattle.rx_loan.specs.declared.accesses.Loan.{Loan as LoanOf}
use Rattle.rx_cert_rules.specs.Parts.{SomeFollow, GoesOn, Quiet, QuietAt}
use Rattle.rx_cert_rules.specs.Rules.{Follows, NoneConflicts}

-- ---- numbers of a list

-- a number of a list stands somewhere in it
pub has_at : (xs : List ℕ) (p : ℕ) → has xs p ≡ true → (k : ℕ) × (k < length xs) × (get_or xs k 0 ≡ p)
has_at [] p h = absurd (true≢false (sym h))
has_at (x ∷ xs) p h = go (λ e. has_at xs p e) (one_of (p == x) (has xs p) h) where
  go : (has xs p ≡ true → (k : ℕ) × (k < length xs) × (get_or xs k 0 ≡ p)) → (p == x ≡ true) ⊎ (has xs p ≡ true)
      → (k : ℕ) × (k < suc (length xs)) × (get_or (x ∷ xs) k 0 ≡ p)
  go more (inl e) = (0, omega arith, sym (eqb-true p x e))
  go more (inr e) = let r = more e in (suc r.0, omega (arith, r.1), r.2)

-- and what stands in it is one
pub at_has : (xs : List ℕ) (k : ℕ) → k < length xs → has xs (get_or xs k 0) ≡ true
at_has [] k h = absurd (omega (arith, h))
at_has (x ∷ xs) zero h = first (x == x) (refl_eq x) where
  refl_eq : (n : ℕ) → (n == n) ≡ true
  refl_eq n = eq-eqb n n refl

  first : (b : Bool) → b ≡ true → (b || has xs x) ≡ true
  first true e = refl
  first false e = absurd (true≢false (sym e))
at_has (x ∷ xs) (suc k) h = second (get_or xs k 0 == x) (has xs (get_or xs k 0)) (at_has xs k (omega (arith, h))) where
  second : (a b : Bool) → b ≡ true → (a || b) ≡ true
  second true b e = refl
  second false b e = e

abbrev pub FollowsAt : (ℕ → Bool) → (ℕ → Bool) → List ℕ → ℕ → Type 0
FollowsAt inside scope xs k = inside (get_or xs k 0) ≡ true → scope (get_or xs k 0) ≡ true

pub all_of_list : (inside scope : ℕ → Bool) (xs : List ℕ) → ((k : ℕ) → k < length xs → FollowsAt inside scope xs k) → SomeFollow inside scope xs
all_of_list inside scope xs all p h i = let r = has_at xs p h in
    subst (λ n. scope n ≡ true) r.2 (all r.0 r.1 (subst (λ n. inside n ≡ true) (sym r.2) i))

pub one_of_list : (inside scope : ℕ → Bool) (xs : List ℕ) (k : ℕ) → k < length xs → inside (get_or xs k 0) ≡ true → scope (get_or xs k 0) ≡ false
    → SomeFollow inside scope xs → ⊥
one_of_list inside scope xs k within i s all = true≢false (sym (all (get_or xs k 0) (at_has xs k within) i) ∙ s)

-- ---- sites of one loan

pub follows_so : (g : List Site) (inside : ℕ → Bool) (l : Loan) (scope : ℕ → Bool) (n : ℕ) → length g ≤ n
    → SomeFollow inside scope (targets (edges_of g) l.site) → GoesOn g inside l.place scope n → Follows g inside l scope
follows_so g inside l scope n all begins on = record {
  begins = λ p t i. begins p t i;
  goes_on = λ q p w e t i. on q (let r = (site_of g q p t).within in omega (arith, r, all)) w e p t i;
}

pub begins_of : (g : List Site) (inside : ℕ → Bool) (l : Loan) (scope : ℕ → Bool) → Follows g inside l scope
    → SomeFollow inside scope (targets (edges_of g) l.site)
begins_of g inside l scope f p t i = f.begins p t i

pub goes_on_of : (g : List Site) (inside : ℕ → Bool) (l : Loan) (scope : ℕ → Bool) (n : ℕ) → Follows g inside l scope → GoesOn g inside l.place scope n
goes_on_of g inside l scope n f q within w e p t i = f.goes_on q p w e t i

-- ---- loans, one after the other

-- of the loan at a place this holds
abbrev pub OfLoan : List LoanOf → (ℕ → Loan → Type 0) → ℕ → Type 0
OfLoan ls Q k = (l : Loan) → slice_get (map plain-Loan ls) k ≡ Some l → Q k l

pub loan_there : (ls : List LoanOf) (k : ℕ) (l : LoanOf) → k < length ls → l ≡ get_or ls k l → slice_get (map plain-Loan ls) k ≡ Some (plain-Loan l)
loan_there [] k l h e = absurd (omega (arith, h))
loan_there (m ∷ ls) zero l h e = ap (λ x. Some (plain-Loan x)) (sym e)
loan_there (m ∷ ls) (suc k) l h e = loan_there ls k l (omega (arith, h)) e

same_loan : (ls : List Loan) (k : ℕ) (l m : Loan) → slice_get ls k ≡ Some l → slice_get ls k ≡ Some m → l ≡ m
same_loan ls k l m h i = ap (λ (o : Option Loan). some_of o) (sym h ∙ i) where
  some_of : Option Loan → Loan
  some_of None = l
  some_of (Some y) = y

pub of_loan : (ls : List LoanOf) (Q : ℕ → Loan → Type 0) (k : ℕ) (l : LoanOf) → k < length ls → l ≡ get_or ls k l → Q k (plain-Loan l) → OfLoan ls Q k
of_loan ls Q k l within is q m at_k = subst (λ x. Q k x) (same_loan (map plain-Loan ls) k (plain-Loan l) m (loan_there ls k l within is) at_k) q

pub all_loans : (ls : List LoanOf) (Q : ℕ → Loan → Type 0) → ((k : ℕ) → k < length ls → OfLoan ls Q k)
    → (k : ℕ) (l : Loan) → slice_get (map plain-Loan ls) k ≡ Some l → Q k l
all_loans ls Q all k l at_k = all k (let w = slice_get_within (map plain-Loan ls) k l at_k in omega (arith, w, length-map ls plain-Loan)) l at_k

-- ---- accesses

pub quiet_at : (g : List Site) (l : Loan) (scope : ℕ → Bool) (p : ℕ) (s : Site) → site_at g p ≡ Some s → (scope p ≡ true → acts_against s.action.act l ≡ false)
    → QuietAt g l scope p
quiet_at g l scope p s at_p quiet t at_t w = subst (λ (x : Site). acts_against x.action.act l ≡ false) (same_site at_t) (quiet w) where
  same_site : site_at g p ≡ Some t → s ≡ t
  same_site e = ap (λ (o : Option Site). some_of o) (sym at_p ∙ e) where
    some_of : Option Site → Site
    some_of None = s
    some_of (Some y) = y

pub quiet_all : (g : List Site) (W : ℕ → ℕ → Bool) (ls : List Loan) (n : ℕ) → length g ≤ n
    → ((i : ℕ) (l : Loan) → slice_get ls i ≡ Some l → Quiet g l (W i) n) → NoneConflicts g ls W
quiet_all g W ls n whole all i p l s at_i at_p w = all i l at_i p (let r = site_within g p s at_p in omega (arith, r, whole)) s at_p w

pub quiet_one : (g : List Site) (W : ℕ → ℕ → Bool) (ls : List Loan) → NoneConflicts g ls W → (i n : ℕ) (l : Loan) → slice_get ls i ≡ Some l
    → Quiet g l (W i) n
quiet_one g W ls none i n l at_i p within s at_p w = none i p l s at_i at_p w

-- ---- no site

pub no_site : (g : List Site) (n : ℕ) → length g ≤ n → site_at g n ≡ None
no_site [] n h = refl
no_site (s ∷ g) zero h = absurd (omega (arith, h))
no_site (s ∷ g) (suc n) h = no_site g n (omega (arith, h))
