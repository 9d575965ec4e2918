-- The loans of sites, one site after the other: each loan in the list is of its site's borrow, and each borrow's is in the list.
use Rattle.std.proofs.Common.{◌≡◌, ◌↔◌, ◌⊎◌, inl, inr, ℕ, zero, suc, ◌+◌, Bool, List, [], ◌∷◌, ◌++◌, Some, slice_get, refl, sym, ap, ◌∙◌, subst, arith}
use Rattle.rx_typed.specs.Tree.{Place, Temporary}
use Rattle.rx_lower_walks.specs.Actions.{Act, Declare, Dead, Read, Write, Borrow, Test, Call, Build, Input, Print, Give}
use Rattle.rx_lower_walks.specs.Walks.{Among, here, there}
use Rattle.rx_lower_walks.specs.Graph.{Site, site_at}
use Rattle.rx_lower_lifetimes.specs.Numbered.{Own, none, region, signed}
use Rattle.rx_loan.specs.Accesses.{Loan}
use Rattle.rx_loan.specs.Loans.{borrow_loan, loan_at, loans_from, loans_of}
use Rattle.rx_loan_laws.specs.Borrows.{IsBorrowed}

in_either : (a : Loan) (us vs : List Loan) → Among a (us ++ vs) → Among a us ⊎ Among a vs
in_either a [] vs m = inr m
in_either a (u ∷ us) vs here = inl here
in_either a (u ∷ us) vs (there m) = on (in_either a us vs m)
  where
    on : Among a us ⊎ Among a vs → Among a (u ∷ us) ⊎ Among a vs
    on (inl h) = inl (there h)
    on (inr h) = inr h

in_front : (a : Loan) (us vs : List Loan) → Among a us → Among a (us ++ vs)
in_front a [] vs m = elim m [ ]
in_front a (u ∷ us) vs here = here
in_front a (u ∷ us) vs (there m) = there (in_front a us vs m)

behind : (a : Loan) (us vs : List Loan) → Among a vs → Among a (us ++ vs)
behind a [] vs m = m
behind a (u ∷ us) vs m = there (behind a us vs m)

-- the loan of one site
record Lent (n : ℕ) (a : Act) (o : Own) (l : Loan) : Type 0 where
  site : l.site ≡ n
  reference : Temporary
  borrows : a ≡ Borrow l.mutable l.place reference
  owns : o ≡ region l.region

lent_by : (n : ℕ) (k : Bool) (p : Place) (d : Temporary) (o : Own) (l : Loan) → Among l (borrow_loan n k p o) → Lent n (Borrow k p d) o l
lent_by n k p d none l m = elim m [ ]
lent_by n k p d (region r) l here = record { site = refl; reference = d; borrows = refl; owns = refl }
lent_by n k p d (region r) l (there m) = elim m [ ]
lent_by n k p d (signed s) l m = elim m [ ]

lent : (n : ℕ) (a : Act) (o : Own) (l : Loan) → Among l (loan_at n a o) → Lent n a o l
lent n (Borrow k p d) o l m = lent_by n k p d o l m
lent n (Declare x) o l m = elim m [ ]
lent n (Dead x) o l m = elim m [ ]
lent n (Read v p d) o l m = elim m [ ]
lent n (Write p t ss) o l m = elim m [ ]
lent n (Test p c) o l m = elim m [ ]
lent n (Call f ts d) o l m = elim m [ ]
lent n (Build w is ts d) o l m = elim m [ ]
lent n (Input d) o l m = elim m [ ]
lent n (Print t) o l m = elim m [ ]
lent n (Give t) o l m = elim m [ ]

lends : (n : ℕ) (a : Act) (o : Own) (l : Loan) → Lent n a o l → Among l (loan_at n a o)
lends n a o l h = subst (λ b. Among l (loan_at n b o)) (sym h.borrows)
    (subst (λ w. Among l (borrow_loan n l.mutable l.place w)) (sym h.owns)
    (subst (λ i. Among l (borrow_loan i l.mutable l.place (region l.region))) h.site here))

-- from this number on, the site that is so far behind
record LentFrom (n : ℕ) (g : List Site) (os : List Own) (l : Loan) : Type 0 where
  far : ℕ
  number : l.site ≡ n + far
  site : Site
  stands : site_at g far ≡ Some site
  reference : Temporary
  borrows : site.action.act ≡ Borrow l.mutable l.place reference
  owns : slice_get os far ≡ Some (region l.region)

one_behind : (n : ℕ) (s : Site) (g : List Site) (o : Own) (os : List Own) (l : Loan) → LentFrom (n + 1) g os l → LentFrom n (s ∷ g) (o ∷ os) l
one_behind n s g o os l h = record {
  far = suc h.far;
  number = let e = h.number in omega (arith, e);
  site = h.site;
  stands = h.stands;
  reference = h.reference;
  borrows = h.borrows;
  owns = h.owns;
}

listed : (n : ℕ) (g : List Site) (os : List Own) (l : Loan) → Among l (loans_from n g os) → LentFrom n g os l
listed n [] os l m = elim m [ ]
listed n (s ∷ g) [] l m = elim m [ ]
listed n (s ∷ g) (o ∷ os) l m = by (in_either l (loan_at n s.action.act o) (loans_from (n + 1) g os) m) (λ h. listed (n + 1) g os l h)
  where
    by : Among l (loan_at n s.action.act o) ⊎ Among l (loans_from (n + 1) g os) → (Among l (loans_from (n + 1) g os) → LentFrom (n + 1) g os l)
        → LentFrom n (s ∷ g) (o ∷ os) l
    by (inl h) rest = let b = lent n s.action.act o l h in
        record { far = 0; number = let e = b.site in omega (arith, e); site = s; stands = refl; reference = b.reference; borrows = b.borrows; owns = ap Some b.owns }
    by (inr h) rest = one_behind n s g o os l (rest h)

same_site : (a b : Site) → Some a ≡ Some b → a ≡ b
same_site a b h = cc

same_own : (a b : Own) → Some a ≡ Some b → a ≡ b
same_own a b h = cc

lists : (n k : ℕ) (g : List Site) (os : List Own) (l : Loan) (s : Site) (d : Temporary) → l.site ≡ n + k → site_at g k ≡ Some s
    → s.action.act ≡ Borrow l.mutable l.place d → slice_get os k ≡ Some (region l.region) → Among l (loans_from n g os)
lists n k [] os l s d e at b o = absurd (cc)
lists n k (x ∷ g) [] l s d e at b o = absurd (cc)
lists n zero (x ∷ g) (y ∷ os) l s d e at b o = in_front l (loan_at n x.action.act y) (loans_from (n + 1) g os)
    (lends n x.action.act y l (record {
      site = omega (arith, e);
      reference = d;
      borrows = ap (λ (z : Site). z.action.act) (same_site x s at) ∙ b;
      owns = same_own y (region l.region) o;
    }))
lists n (suc k) (x ∷ g) (y ∷ os) l s d e at b o = behind l (loan_at n x.action.act y) (loans_from (n + 1) g os) (lists (n + 1) k g os l s d (omega (arith, e)) at b o)

pub loans_are : (g : List Site) (os : List Own) (l : Loan) → Among l (loans_of g os) ↔ IsBorrowed g os l
loans_are g os l = (
  (λ m. let h = listed 0 g os l m in let e : h.far ≡ l.site = let n = h.number in omega (arith, n) in
      record {
        site = h.site;
        stands = subst (λ i. site_at g i ≡ Some h.site) e h.stands;
        reference = h.reference;
        borrows = h.borrows;
        owns = subst (λ i. slice_get os i ≡ Some (region l.region)) e h.owns;
      }),
  (λ b. lists 0 l.site g os l b.site b.reference (omega arith) b.stands b.borrows b.owns),
)
