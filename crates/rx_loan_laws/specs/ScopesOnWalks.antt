-- Where a loan is in scope, told over the walks of a function: some walk holds its borrow and later the site; each site behind the
-- borrow, up to there, is in the loan's region, and nothing in between writes the loan's place or a prefix of it. (RFC 2094, "Loans
-- in scope", and "Access legality" for what is legal. "Reborrow constraints" has prefixes.)
use Rattle.std.specs.Prelude.{◌≡◌, ℕ, Bool, true, false, List, [], ◌∷◌, ◌++◌, Some}
use Rattle.rx_typed.specs.Tree.{Function}
use Rattle.rx_lower_walks.specs.Actions.{Action}
use Rattle.rx_lower_walks.specs.Walks.{IsWalk, Among}
use Rattle.rx_lower_walks.specs.Graph.{Site, site_at}
use Rattle.rx_lower_walks.specs.Pieces.{graph}
use Rattle.rx_loan.specs.Accesses.{Loan, acts_against}
use Rattle.rx_loan.specs.Loans.{ends}

pub record InScopeOnSomeWalk (f : Function) (R : ℕ → ℕ → Bool) (l : Loan) (p : ℕ) : Type 0 where
  -- the sites of the borrow and of the point in question
  pub borrow : Site
  pub is_borrow : site_at (graph f) l.site ≡ Some borrow
  pub site : Site
  pub is_site : site_at (graph f) p ≡ Some site
  -- the walk: what it holds in front of the borrow, and behind it up to the site
  pub before : List Action
  pub between : List Action
  pub walk : IsWalk f (before ++ borrow.action ∷ (between ++ site.action ∷ []))
  pub inside : (q : ℕ) (s : Site) → site_at (graph f) q ≡ Some s → Among s.action (between ++ site.action ∷ []) → R l.region q ≡ true
  pub lasts : (a : Action) → Among a between → ends l.place a.act ≡ false

-- on no walk an access meets a conflicting loan in scope
abbrev pub LegalOnWalks : Function → (ℕ → ℕ → Bool) → List Loan → Type 0
LegalOnWalks f R ls = (l : Loan) (p : ℕ) → Among l ls → (w : InScopeOnSomeWalk f R l p) → acts_against w.site.action.act l ≡ true → ⊥
