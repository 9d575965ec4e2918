-- The loans of a function are those of before, with regions by the new numbers.
use Rattle.std.proofs.Common.{◌≡◌, ℕ, ◌+◌, List, [], ◌∷◌, ◌++◌, map, refl, sym, ap, ◌∙◌}
use Rattle.rx_lower_walks.specs.Actions.{Act, Declare, Dead, Read, Write, Borrow, Test, Call, Build, Input, Print, Give}
use Rattle.rx_lower_walks.specs.Graph.{Site}
use Rattle.rx_lower_lifetimes.specs.Numbered.{Own, none, region, signed}
use Rattle.rx_loan.specs.Loans.{borrow_loan, loan_at, loans_from, loans_of}
use Rattle.rx_repair.specs.Renaming.{own_renamed, loan_renamed}
use Rattle.rx_compact_accepted.proofs.LoansRenamed.{loans_same}
use Rattle.rx_compact_accepted.proofs.Owned.{OwnUnder, AllOwnUnder}

module _ (F : ℕ → ℕ) where
  loan_same : (n : ℕ) (a : Act) (o w : Own) → OwnUnder F o w → loan_at n a w ≡ loan_at n a (own_renamed F o)
  loan_same n (Borrow k p d) none none h = refl
  loan_same n (Borrow k p d) none (region q) h = absurd h
  loan_same n (Borrow k p d) none (signed T) h = absurd h
  loan_same n (Borrow k p d) (region r) none h = absurd h
  loan_same n (Borrow k p d) (region r) (region q) h = ap (λ x. borrow_loan n k p (region x)) h
  loan_same n (Borrow k p d) (region r) (signed T) h = absurd h
  loan_same n (Borrow k p d) (signed S) none h = absurd h
  loan_same n (Borrow k p d) (signed S) (region q) h = absurd h
  loan_same n (Borrow k p d) (signed S) (signed T) h = refl
  loan_same n (Call j ts d) o w h = refl
  loan_same n (Declare x) o w h = refl
  loan_same n (Dead x) o w h = refl
  loan_same n (Read b p d) o w h = refl
  loan_same n (Write p t ss) o w h = refl
  loan_same n (Test p c) o w h = refl
  loan_same n (Build m is ts d) o w h = refl
  loan_same n (Input d) o w h = refl
  loan_same n (Print t) o w h = refl
  loan_same n (Give t) o w h = refl

  from_same : (n : ℕ) (g : List Site) (os ws : List Own) → AllOwnUnder F os ws → loans_from n g ws ≡ loans_from n g (map (own_renamed F) os)
  from_same n [] os ws h = refl
  from_same n (s ∷ g) [] [] h = refl
  from_same n (s ∷ g) [] (w ∷ ws) h = absurd h
  from_same n (s ∷ g) (o ∷ os) [] h = absurd h
  from_same n (s ∷ g) (o ∷ os) (w ∷ ws) h = λ j. loan_same n s.action.act o w h.0 j ++ from_same (n + 1) g os ws h.1 j

  pub loans_under : (g : List Site) (os ws : List Own) → AllOwnUnder F os ws → loans_of g ws ≡ map (loan_renamed F) (loans_of g os)
  loans_under g os ws h = from_same 0 g os ws h ∙ loans_same F g os
