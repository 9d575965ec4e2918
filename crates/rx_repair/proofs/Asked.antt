-- Sets that meet what more is asked meet what less is asked: a pair that follows along others holds of all sets of which these hold,
-- by induction on the way. So the least sets grow with what is asked, and with them the scopes of loans.
use Rattle.std.proofs.Common.{◌≡◌, ℕ, ◌<◌, ◌-◌, true, List, length, get_or, take, drop, sym, subst}
use Rattle.rx_graph_cycles.specs.Reaches.{IsIn}
use Rattle.rx_typed.specs.Regions.{RegionTyp, lifetimes_in}
use Rattle.rx_typed.specs.Tree.{Root, variable, temporary}
use Rattle.rx_typed.specs.Renaming.{unit_region}
use Rattle.rx_lower_walks.specs.Graph.{Site}
use Rattle.rx_lower_walks.specs.Text.{actions_of}
use Rattle.rx_lower_lifetimes.specs.Lowered.{Lifetimes}
use Rattle.rx_region.specs.Constraints.{Context, root_type, temporary_type, imposed}
use Rattle.rx_region.specs.Solutions.{Point, site, Sets, Solution, Least, whole, ends, live, longer, AreLeast}
use Rattle.rx_region.specs.Tables.{Follows, itself, by}
use Rattle.rx_loan.specs.Accesses.{Loan}
use Rattle.rx_loan.specs.Loans.{InScope, IsLegal}
use Rattle.rx_loan.proofs.Walking.{more_scope, fewer_legal}
use Rattle.rx_loan.specs.Accepted.{at_sites}
use Rattle.rx_repair.specs.Asking.{AsksNoMore}

-- ---- along pairs

pub set_along : (K : Context) (g : List Site) (R : Sets) → Solution K g R → (l k : ℕ) → Follows (imposed K (actions_of g)) l k → (x : Point) → R k x ≡ true → R l x ≡ true
set_along K g R s l k itself x h = h
set_along K g R s l k (by m pair rest) x h = s.longer l m pair x (set_along K g R s m k rest x h)

pub least_along : (K : Context) (g : List Site) (l k : ℕ) → Follows (imposed K (actions_of g)) l k → (x : Point) → Least K g k x → Least K g l x
least_along K g l k itself x h = h
least_along K g l k (by m pair rest) x h = longer m pair (least_along K g m k rest x h)

-- ---- of a function of which no more is asked

pub root_same : (L M : Lifetimes) → L.types ≡ M.types → L.temporaries ≡ M.temporaries → (r : Root) → root_type L r ≡ root_type M r
root_same L M ts hs (variable x) = λ j. get_or (take (length (ts j) - length (hs j)) (ts j)) x unit_region
root_same L M ts hs (temporary t) = λ j. temporary_type (hs j) (drop (length (ts j) - length (hs j)) (ts j)) t

module _ (C K : Context) (g : List Site) (a : AsksNoMore C K (actions_of g)) where
  own_too : (l : ℕ) → l < C.lifetimes.own → l < K.lifetimes.own
  own_too l w = subst (λ n. l < n) a.own w

  in_type : (r : Root) (l : ℕ) → IsIn (lifetimes_in (root_type C.lifetimes r)) l → IsIn (lifetimes_in (root_type K.lifetimes r)) l
  in_type r l w = subst (λ (t : RegionTyp). IsIn (lifetimes_in t) l) (root_same C.lifetimes K.lifetimes a.types a.temporaries r) w

  pub solution_too : (R : Sets) → Solution K g R → Solution C g R
  solution_too R s = record {
    whole = λ l p own there. s.whole l p (own_too l own) there;
    ends = λ l own. s.ends l (own_too l own);
    live = λ r p l is there. s.live r p l is (in_type r l there);
    longer = λ l k pair x h. set_along K g R s l k (a.pairs l k pair) x h;
  }

  pub least_grows : (l : ℕ) (x : Point) → Least C g l x → Least K g l x
  least_grows l x (whole own there) = whole (own_too l own) there
  least_grows l x (ends own) = ends (own_too l own)
  least_grows l x (live r is there) = live r is (in_type r l there)
  least_grows l x (longer k pair h) = least_along K g l k (a.pairs l k pair) x (least_grows k x h)

  sites_grow : (R S : Sets) → AreLeast C g R → AreLeast K g S → (l p : ℕ) → p < length g → at_sites R l p ≡ true → at_sites S l p ≡ true
  sites_grow R S r s l p w h = (s l (site p)).1 (least_grows l (site p) ((r l (site p)).0 h))

  pub scope_grows : (R S : Sets) → AreLeast C g R → AreLeast K g S → (l : Loan) (p : ℕ) → p < length g → InScope g (at_sites R) l p → InScope g (at_sites S) l p
  scope_grows R S r s l p w h = more_scope g (at_sites R) (at_sites S) l p w (sites_grow R S r s) h

  pub legal_too : (R S : Sets) → AreLeast C g R → AreLeast K g S → (ls : List Loan) → IsLegal g (at_sites S) ls → IsLegal g (at_sites R) ls
  legal_too R S r s ls h = fewer_legal g (at_sites R) (at_sites S) ls (sites_grow R S r s) h
