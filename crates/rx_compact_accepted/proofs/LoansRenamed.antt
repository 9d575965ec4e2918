-- Loans by other numbers: the loans of before, and what is legal is so by sets that are read by these numbers.
use Rattle.std.proofs.Common.{◌≡◌, ℕ, ◌+◌, true, List, [], ◌∷◌, ◌++◌, map, Some, refl, sym, subst, ◌∙◌}
use Rattle.std.proofs.lemmas.List.{map-append}
use Rattle.rx_lower_walks.specs.Actions.{Act, Declare, Dead, Read, Write, Borrow, Test, Call, Build, Input, Print, Give}
use Rattle.rx_lower_walks.specs.Walks.{Among, here, there}
use Rattle.rx_lower_walks.specs.Graph.{Site, site_at}
use Rattle.rx_lower_lifetimes.specs.Numbered.{Own, none, region, signed}
use Rattle.rx_region.specs.Solutions.{Sets}
use Rattle.rx_loan.specs.Accesses.{Loan, acts_against}
use Rattle.rx_loan.specs.Loans.{loan_at, loans_from, loans_of, InScope, MeetsLoan, IsLegal}
use Rattle.rx_loan.specs.Accepted.{at_sites}
use Rattle.rx_repair.specs.Renaming.{own_renamed, sets_renamed, loan_renamed}

loan_same : (f : ℕ → ℕ) (n : ℕ) (a : Act) (o : Own) → loan_at n a (own_renamed f o) ≡ map (loan_renamed f) (loan_at n a o)
loan_same f n (Borrow k p d) none = refl
loan_same f n (Borrow k p d) (region r) = refl
loan_same f n (Borrow k p d) (signed S) = refl
loan_same f n (Declare x) o = refl
loan_same f n (Dead x) o = refl
loan_same f n (Read m p d) o = refl
loan_same f n (Write p t ss) o = refl
loan_same f n (Test p c) o = refl
loan_same f n (Call g ts d) o = refl
loan_same f n (Build w is ts d) o = refl
loan_same f n (Input d) o = refl
loan_same f n (Print t) o = refl
loan_same f n (Give t) o = refl

loans_from_same : (f : ℕ → ℕ) (n : ℕ) (g : List Site) (os : List Own) → loans_from n g (map (own_renamed f) os) ≡ map (loan_renamed f) (loans_from n g os)
loans_from_same f n [] os = refl
loans_from_same f n (s ∷ g) [] = refl
loans_from_same f n (s ∷ g) (o ∷ os) =
    (λ j. loan_same f n s.action.act o j ++ loans_from_same f (n + 1) g os j) ∙ sym (map-append (loan_renamed f) (loan_at n s.action.act o) (loans_from (n + 1) g os))

pub loans_same : (f : ℕ → ℕ) (g : List Site) (os : List Own) → loans_of g (map (own_renamed f) os) ≡ map (loan_renamed f) (loans_of g os)
loans_same f g os = loans_from_same f 0 g os

-- what is accessed speaks of no lifetime
against_same : (f : ℕ → ℕ) (a : Act) (l : Loan) → acts_against a (loan_renamed f l) ≡ acts_against a l
against_same f (Borrow k p d) l = refl
against_same f (Declare x) l = refl
against_same f (Dead x) l = refl
against_same f (Read m p d) l = refl
against_same f (Write p t ss) l = refl
against_same f (Test p c) l = refl
against_same f (Call g ts d) l = refl
against_same f (Build w is ts d) l = refl
against_same f (Input d) l = refl
against_same f (Print t) l = refl
against_same f (Give t) l = refl

mapped_among : (f : ℕ → ℕ) (ls : List Loan) (l : Loan) → Among l ls → Among (loan_renamed f l) (map (loan_renamed f) ls)
mapped_among f [] l h = absurd (elim h [ ])
mapped_among f (l ∷ ls) _ here = here
mapped_among f (x ∷ ls) l (there h) = there (mapped_among f ls l h)

record WasLoan (f : ℕ → ℕ) (ls : List Loan) (m : Loan) : Type 0 where
  loan : Loan
  among : Among loan ls
  is : m ≡ loan_renamed f loan

was_among : (f : ℕ → ℕ) (ls : List Loan) (m : Loan) → Among m (map (loan_renamed f) ls) → WasLoan f ls m
was_among f [] m h = absurd (elim h [ ])
was_among f (x ∷ ls) _ here = record { loan = x; among = here; is = refl }
was_among f (x ∷ ls) m (there h) = let w = was_among f ls m h in record { loan = w.loan; among = there w.among; is = w.is }

module _ (f : ℕ → ℕ) (g : List Site) (R : Sets) (ls : List Loan) where
  pub legal_before : IsLegal g (at_sites R) (map (loan_renamed f) ls) → IsLegal g (at_sites (sets_renamed f R)) ls
  legal_before h l p m =
      let a = m.against in
      h (loan_renamed f l) p (record { listed = mapped_among f ls l m.listed; scope = m.scope; against = (a.0, a.1, against_same f a.0.action.act l ∙ a.2) })

  meets_before : (m : Loan) (p : ℕ) → MeetsLoan g (at_sites R) (map (loan_renamed f) ls) m p → (l : Loan) × MeetsLoan g (at_sites (sets_renamed f R)) ls l p
  meets_before m p x =
      let w = was_among f ls m x.listed in
      let y = subst (λ (n : Loan). InScope g (at_sites R) n p × ((s : Site) × (site_at g p ≡ Some s) × (acts_against s.action.act n ≡ true))) w.is (x.scope, x.against) in
      let a = y.1 in
      (w.loan, record { listed = w.among; scope = y.0; against = (a.0, a.1, sym (against_same f a.0.action.act w.loan) ∙ a.2) })

  pub legal_after : IsLegal g (at_sites (sets_renamed f R)) ls → IsLegal g (at_sites R) (map (loan_renamed f) ls)
  legal_after h m p x = let y = meets_before m p x in h y.0 p y.1
