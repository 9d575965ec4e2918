-- Loans that forbid an access, one after the other; and sites.
use Rattle.std.proofs.Common.{◌≡◌, ◌⊎◌, inl, inr, ℕ, zero, suc, ◌+◌, ◌<◌, ◌≤◌, Bool, true, false, ◌&&◌, List, [], ◌∷◌, length, get_or, map, slice_get, Option, Some, None, refl, ap, sym, ◌∙◌, subst, arith, true≢false}
use Rattle.std.proofs.lemmas.Bool.{cases_eq}
use Rattle.std.proofs.lemmas.List.{length-map}
use Rattle.std.proofs.lemmas.Option.{slice_get_within}
use Rattle.rx_lower_walks.specs.Walks.{Among, here, there}
use Rattle.rx_graph.specs.Tables.{at}
use Rattle.rx_lower_walks.specs.Graph.{Site, site_at}
use Rattle.rx_lower_lifetimes.specs.Numbered.{Own}
use Rattle.rx_facts_tables.proofs.Ways.{site_within}
use Rattle.rx_loan.specs.Accesses.{Loan, acts_against}
use Rattle.rx_loan.specs.Loans.{loans_of, InScope, MeetsLoan, IsLegal}
use Rattle.rx_loan.specs.PlainOf.{plain-Loan}
use Rattle.rx_loan.specs.Tables.{IsLoanTable, IsMet, NoneForbids, OneForbids}
use Rattle.rx_loan.specs.declared.accesses.Loan.{Loan as LoanOf}
use Rattle.rx_loan.specs.declared.table.LoanTable.{LoanTable}

-- none of the first loans forbids it
abbrev pub NoneBefore : LoanTable → (Loan → Bool) → ℕ → ℕ → Type 0
NoneBefore t against p k = (i : ℕ) (l : Loan) → i < k → slice_get (map plain-Loan t.list) i ≡ Some l → at t.rows.items i p ≡ true → against l ≡ false

both_true : (a b : Bool) → (a && b) ≡ false → a ≡ true → b ≡ false
both_true true b h e = h
both_true false b h e = absurd (true≢false (sym e))

-- a loan that stands there
pub loan_there : (ls : List LoanOf) (k : ℕ) (d : LoanOf) → k < length ls → slice_get (map plain-Loan ls) k ≡ Some (plain-Loan (get_or ls k d))
loan_there [] k d within = absurd (omega (arith, within))
loan_there (m ∷ ls) zero d within = refl
loan_there (m ∷ ls) (suc k) d within = loan_there ls k d (omega (arith, within))

pub any_default : (ls : List LoanOf) (k : ℕ) (a b : LoanOf) → k < length ls → get_or ls k a ≡ get_or ls k b
any_default [] k a b within = absurd (omega (arith, within))
any_default (m ∷ ls) zero a b within = refl
any_default (m ∷ ls) (suc k) a b within = any_default ls k a b (omega (arith, within))

pub split : (a b : Bool) → (a && b) ≡ true → (a ≡ true) × (b ≡ true)
split true b h = (refl, h)
split false b h = absurd (true≢false (sym h))

same_loan : (ls : List Loan) (k : ℕ) (l m : Loan) → slice_get ls k ≡ Some l → slice_get ls k ≡ Some m → l ≡ m
same_loan ls k l m h i = ap (λ (o : Option Loan). some_of o) (sym h ∙ i) where
  some_of : Option Loan → Loan
  some_of None = l
  some_of (Some y) = y

pub none_next : (t : LoanTable) (against : Loan → Bool) (p k : ℕ) (l : Loan) → slice_get (map plain-Loan t.list) k ≡ Some l → (at t.rows.items k p && against l) ≡ false
    → NoneBefore t against p k → NoneBefore t against p (k + 1)
none_next t against p k l at_k fails before i m h at_i scope = one (cases_eq i k) where
  one : (i ≡ k) ⊎ (i ≡ k → ⊥) → against m ≡ false
  one (inl e) = ap against (same_loan (map plain-Loan t.list) k m l (subst (λ n. slice_get (map plain-Loan t.list) n ≡ Some m) e at_i) at_k)
      ∙ both_true (at t.rows.items k p) (against l) fails (subst (λ n. at t.rows.items n p ≡ true) e scope)
  one (inr e) = before i m (omega (arith, h, e)) at_i scope

pub none_at_all : (t : LoanTable) (against : Loan → Bool) (p k : ℕ) → length t.list ≤ k → NoneBefore t against p k → NoneForbids t against p
none_at_all t against p k past before i l at_i scope =
    before i l (omega (arith, past, slice_get_within (map plain-Loan t.list) i l at_i, length-map t.list plain-Loan)) at_i scope

-- ---- sites

among_at : (ls : List Loan) (l : Loan) → Among l ls → (i : ℕ) × (slice_get ls i ≡ Some l)
among_at [] l a = elim a [ ]
among_at (m ∷ ls) l here = (0, refl)
among_at (m ∷ ls) l (there a) = let r = among_at ls l a in (suc r.0, r.1)

pub at_among : (ls : List Loan) (i : ℕ) (l : Loan) → slice_get ls i ≡ Some l → Among l ls
at_among [] i l h = absurd (none h) where
  none : None ≡ Some l → ⊥
  none e = subst (λ (o : Option Loan). is_none o) e tt where
    is_none : Option Loan → Type 0
    is_none None = Unit {0}
    is_none (Some _) = ⊥
at_among (m ∷ ls) zero l h = subst (λ x. Among l (x ∷ ls)) (some_is h) here where
  some_is : Some m ≡ Some l → l ≡ m
  some_is e = ap (λ (o : Option Loan). some_of o) (sym e) where
    some_of : Option Loan → Loan
    some_of None = m
    some_of (Some y) = y
at_among (m ∷ ls) (suc i) l h = there (at_among ls i l h)

abbrev pub LegalBefore : List Site → (ℕ → ℕ → Bool) → List Loan → ℕ → Type 0
LegalBefore g R ls k = (l : Loan) (p : ℕ) → p < k → MeetsLoan g R ls l p → ⊥

pub legal_next : (g : List Site) (os : List Own) (R : ℕ → ℕ → Bool) (t : LoanTable) (k : ℕ) (s : Site) → IsLoanTable g os R t → site_at g k ≡ Some s
    → NoneForbids t (acts_against s.action.act) k → LegalBefore g R (loans_of g os) k → LegalBefore g R (loans_of g os) (k + 1)
legal_next g os R t k s table at_k none before l p h meets = one (cases_eq p k) where
  same_site : (a b : Site) → Some a ≡ Some b → a ≡ b
  same_site a b e = ap (λ (o : Option Site). some_of o) e where
    some_of : Option Site → Site
    some_of None = a
    some_of (Some y) = y

  one : (p ≡ k) ⊎ (p ≡ k → ⊥) → ⊥
  one (inr e) = before l p (omega (arith, h, e)) meets
  one (inl e) = let i = among_at (loans_of g os) l meets.listed in
      let at_i : slice_get (map plain-Loan t.list) i.0 ≡ Some l = ap (λ ls. slice_get ls i.0) table.list ∙ i.1 in
      let is_s = same_site meets.against.0 s (sym meets.against.1 ∙ subst (λ n. site_at g n ≡ Some s) (sym e) at_k) in
      let scope : at t.rows.items i.0 k ≡ true = (table.exact i.0 k l i.1 (site_within g k s at_k)).1 (subst (λ n. InScope g R l n) e meets.scope) in
      true≢false (sym (subst (λ (x : Site). acts_against x.action.act l ≡ true) is_s meets.against.2) ∙ none i.0 l at_i scope)

pub legal_at_all : (g : List Site) (R : ℕ → ℕ → Bool) (ls : List Loan) (k : ℕ) → length g ≤ k → LegalBefore g R ls k → IsLegal g R ls
legal_at_all g R ls k past before l p meets = before l p (omega (arith, past, site_within g p meets.against.0 meets.against.1)) meets

pub one_met : (g : List Site) (os : List Own) (R : ℕ → ℕ → Bool) (t : LoanTable) (k b : ℕ) (s : Site) → IsLoanTable g os R t → site_at g k ≡ Some s
    → OneForbids t (acts_against s.action.act) k b → IsMet g R (loans_of g os) b k
one_met g os R t k b s table at_k one =
    let at_i : slice_get (loans_of g os) one.0 ≡ Some one.1 = ap (λ ls. slice_get ls one.0) (sym table.list) ∙ one.2 in (
      one.1,
      one.5,
      record {
        listed = at_among (loans_of g os) one.0 one.1 at_i;
        scope = (table.exact one.0 k one.1 at_i (site_within g k s at_k)).0 one.3;
        against = (s, at_k, one.4);
      },
    )
