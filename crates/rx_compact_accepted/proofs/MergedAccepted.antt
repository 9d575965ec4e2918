-- A function of which lifetimes become one is accepted exactly where it was: by the least sets of both, of which each lifetime has the same
-- sites, so that loans are in scope at the same sites.
use Rattle.std.proofs.Common.{◌≡◌, ◌↔◌, ℕ, ◌<◌, true, List, length, map, sym, subst}
use Rattle.rx_lower_walks.specs.Graph.{Site}
use Rattle.rx_lower_walks.specs.Text.{actions_of}
use Rattle.rx_region.specs.Constraints.{Context}
use Rattle.rx_region.specs.Known.{KnownToOutlive}
use Rattle.rx_region.specs.Solutions.{site, end, Sets, Least}
use Rattle.rx_region.proofs.LeastLaws.{least_serves}
use Rattle.rx_loan.specs.Accesses.{Loan}
use Rattle.rx_loan.specs.Loans.{loans_of, IsLegal}
use Rattle.rx_loan.specs.Accepted.{at_sites, AcceptedBy, IsAccepted}
use Rattle.rx_loan.proofs.Fewest.{least_too}
use Rattle.rx_loan.proofs.Walking.{fewer_legal}
use Rattle.rx_repair.specs.Renaming.{sets_renamed, loan_renamed}
use Rattle.rx_repair.proofs.Existing.{least_sets, are_least}
use Rattle.rx_compact_accepted.proofs.LoansRenamed.{legal_before, legal_after}
use Rattle.rx_compact_laws.specs.MergedLifetimes.{AreMerged}
use Rattle.rx_compact_laws.proofs.MergedSets.{sites_stay, pairs_stay}

-- where the least sets need a pair of the function's own, it is known
abbrev Keeps : Context → List Site → Type 0
Keeps C g = (l k : ℕ) → l < C.lifetimes.own → k < C.lifetimes.own → Least C g l (end k) → KnownToOutlive C l k

module _ (C : Context) (g : List Site) where
  abbrev R : Sets
  R = least_sets C g

  by_least : IsAccepted C g → AcceptedBy C g R
  by_least a = least_too C g a.0 R a.1 (are_least C g)

  keeps : IsAccepted C g → Keeps C g
  keeps a l k w v h = (by_least a).known l k w v ((are_least C g l (end k)).1 h)

  abbrev Legal : Type 0
  Legal = IsLegal g (at_sites R) (loans_of g C.lifetimes.owned)

  with_least : Keeps C g → Legal → IsAccepted C g
  with_least k h = (R, record { solution = least_serves C g R (are_least C g); known = λ l m w v r. k l m w v ((are_least C g l (end m)).0 r); legal = h })

module _ (f : ℕ → ℕ) (C K : Context) (g : List Site) (M : AreMerged f C K (actions_of g)) (loans : loans_of g K.lifetimes.owned ≡ map (loan_renamed f) (loans_of g C.lifetimes.owned)) where
  abbrev S : Sets
  S = sets_renamed f (least_sets K g)

  there_site : (l p : ℕ) → p < length g → at_sites (least_sets C g) l p ≡ true → at_sites S l p ≡ true
  there_site l p w h = (are_least K g (f l) (site p)).1 ((sites_stay f C K g M l p w).0 ((are_least C g l (site p)).0 h))

  back_site : (l p : ℕ) → p < length g → at_sites S l p ≡ true → at_sites (least_sets C g) l p ≡ true
  back_site l p w h = (are_least C g l (site p)).1 ((sites_stay f C K g M l p w).1 ((are_least K g (f l) (site p)).0 h))

  legal_there : Legal C g → Legal K g
  legal_there h = subst (λ ls. IsLegal g (at_sites (least_sets K g)) ls) (sym loans)
      (legal_after f g (least_sets K g) (loans_of g C.lifetimes.owned) (fewer_legal g (at_sites S) (at_sites (least_sets C g)) (loans_of g C.lifetimes.owned) back_site h))

  legal_back : Legal K g → Legal C g
  legal_back h = fewer_legal g (at_sites (least_sets C g)) (at_sites S) (loans_of g C.lifetimes.owned) there_site
      (legal_before f g (least_sets K g) (loans_of g C.lifetimes.owned) (subst (λ ls. IsLegal g (at_sites (least_sets K g)) ls) loans h))

  pub accepted_alike : IsAccepted C g ↔ IsAccepted K g
  accepted_alike = (
    λ a. with_least K g ((pairs_stay f C K g M).0 (keeps C g a)) (legal_there (by_least C g a).legal),
    λ a. with_least C g ((pairs_stay f C K g M).1 (keeps K g a)) (legal_back (by_least K g a).legal),
  )
