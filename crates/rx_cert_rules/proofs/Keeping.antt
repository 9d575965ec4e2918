-- Sets that keep the rules accept the function; the least sets of an accepted one keep them.
use Rattle.std.proofs.Common.{◌≡◌, ℕ, suc, ◌<◌, Bool, true, List, [], ◌∷◌, length, Some, slice_get, refl, sym, ◌∙◌, subst, true≢false}
use Rattle.rx_graph.specs.Facts.{has, targets}
use Rattle.rx_graph_reach.specs.Reached.{next, further}
use Rattle.rx_lower_walks.specs.Actions.{Action}
use Rattle.rx_lower_walks.specs.Walks.{Among}
use Rattle.rx_lower_walks.specs.Walks as walks
use Rattle.rx_lower_walks.specs.Graph.{Site, Path, stop, go}
use Rattle.rx_typed.specs.Tree.{Root}
use Rattle.rx_facts_tables.specs.Along.{edges_of, ahead}
use Rattle.rx_facts_tables.specs.Live.{IsLive, living}
use Rattle.rx_facts_tables.proofs.Ways.{site_within, site_of, only}
use Rattle.rx_region.specs.Constraints.{Context}
use Rattle.rx_region.specs.Solutions.{Point, site, Sets, Least, whole, ends, live, longer, AreLeast}
use Rattle.rx_loan.specs.Accesses.{Loan, acts_against}
use Rattle.rx_loan.specs.Loans.{InScope, IsLegal}
use Rattle.rx_loan.specs.Accepted.{at_sites, AcceptedBy, IsAccepted}
use Rattle.rx_loan.proofs.Fewest.{least_too}
use Rattle.rx_loan.proofs.Forbidding.{at_among}
use Rattle.rx_cert_rules.specs.Rules.{Follows, LoansFollow, NoneConflicts, loans_in, Good}
use Rattle.rx_cert_rules.specs.Verdicts.{FirstBroken, first, second, third, fourth, AreScopes}
use Rattle.rx_cert_rules.proofs.Telling.{not_true}

-- ---- good sets

in_scope_kept : (g : List Site) (R : ℕ → ℕ → Bool) (l : Loan) (W : ℕ → Bool) → Follows g (R l.region) l W → (p : ℕ) → InScope g R l p → W p ≡ true
in_scope_kept g R l W f p (next t i) = f.begins p t i
in_scope_kept g R l W f p (further q r e t i) = f.goes_on q p (in_scope_kept g R l W f q r) e t i

place_among : (ls : List Loan) (l : Loan) → Among l ls → (i : ℕ) × (slice_get ls i ≡ Some l)
place_among [] l a = elim a [ ]
place_among (m ∷ ls) l walks.here = (0, refl)
place_among (m ∷ ls) l (walks.there a) = let r = place_among ls l a in (suc r.0, r.1)

pub kept_legal : (g : List Site) (R W : ℕ → ℕ → Bool) (ls : List Loan) → LoansFollow g R ls W → NoneConflicts g ls W → IsLegal g R ls
kept_legal g R W ls follow quiet l p meets =
    let i = place_among ls l meets.listed in
    let there : W i.0 p ≡ true = in_scope_kept g R l (W i.0) (follow i.0 l i.1) p meets.scope in
    true≢false (sym meets.against.2 ∙ quiet i.0 p l meets.against.0 i.1 meets.against.1 there)

pub accepts : (C : Context) (g : List Site) (R : Sets) (W : ℕ → ℕ → Bool) → Good C g R W → AcceptedBy C g R
accepts C g R W good = record {
  solution = good.constrained;
  known = good.known;
  legal = kept_legal g (at_sites R) W (loans_in C g) good.follow good.none_conflicts;
}

-- ---- the least sets

-- what is live is so at a site
live_within : (g : List Site) (r : Root) (p : ℕ) → IsLive g r p → p < length g
live_within g r p is = on_path is.0 is.1 is.2 where
  on_path : (us : List Action) → Path g (p ∷ []) us → ahead (living r) us ≡ true → p < length g
  on_path us stop e = absurd (true≢false (sym e))
  on_path us (go q s a h w) e = subst (λ n. n < length g) (only q p a) (site_within g q s h)

least_within : (C : Context) (g : List Site) (l p : ℕ) (x : Point) → x ≡ site p → Least C g l x → p < length g
least_within C g l p x e (whole {p = q} own there) = subst (λ n. n < length g) (number_is q p e) there where
  number_is : (a b : ℕ) → site a ≡ site b → a ≡ b
  number_is a b h = cc
least_within C g l p x e (ends own) = absurd (cc)
least_within C g l p x e (live {p = q} r is there) = subst (λ n. n < length g) (number_is q p e) (live_within g r q is) where
  number_is : (a b : ℕ) → site a ≡ site b → a ≡ b
  number_is a b h = cc
least_within C g l p x e (longer k pair h) = least_within C g k p x e h

pub least_good : (C : Context) (g : List Site) (R : Sets) (W : ℕ → ℕ → Bool) → IsAccepted C g → AreLeast C g R → AreScopes C g R W → Good C g R W
least_good C g R W is least scopes = record {
  constrained = by.solution;
  known = by.known;
  follow = λ i l at_i. record {
    begins = λ p t inside. (scopes i p l at_i (within l p inside)).1 (next t inside);
    goes_on = λ q p w e t inside. (scopes i p l at_i (within l p inside)).1
        (further q ((scopes i q l at_i (before q p t)).0 w) e t inside);
  };
  none_conflicts = λ i p l s at_i at_p w. not_true (acts_against s.action.act l) (λ against. by.legal l p (record {
    listed = at_among (loans_in C g) i l at_i;
    scope = (scopes i p l at_i (site_within g p s at_p)).0 w;
    against = (s, at_p, against);
  }));
} where
  by : AcceptedBy C g R
  by = least_too C g is.0 R is.1 least

  within : (l : Loan) (p : ℕ) → at_sites R l.region p ≡ true → p < length g
  within l p h = least_within C g l.region p (site p) refl ((least l.region (site p)).0 h)

  before : (q p : ℕ) → has (targets (edges_of g) q) p ≡ true → q < length g
  before q p t = let s = site_of g q p t in s.within

-- ---- one verdict

pub not_broken : (C : Context) (g : List Site) (R : Sets) (W : ℕ → ℕ → Bool) (n : ℕ) → Good C g R W → FirstBroken C g R W n → ⊥
not_broken C g R W n good (first f) = f good.constrained
not_broken C g R W n good (second a f) = f good.known
not_broken C g R W n good (third a b f) = f good.follow
not_broken C g R W n good (fourth a b c f) = f good.none_conflicts

pub one_broken : (C : Context) (g : List Site) (R : Sets) (W : ℕ → ℕ → Bool) (m n : ℕ) → FirstBroken C g R W m → FirstBroken C g R W n → m ≡ n
one_broken C g R W m n (first f) (first h) = refl
one_broken C g R W m n (first f) (second a h) = absurd (f a)
one_broken C g R W m n (first f) (third a b h) = absurd (f a)
one_broken C g R W m n (first f) (fourth a b c h) = absurd (f a)
one_broken C g R W m n (second a f) (first h) = absurd (h a)
one_broken C g R W m n (second a f) (second b h) = refl
one_broken C g R W m n (second a f) (third b c h) = absurd (f c)
one_broken C g R W m n (second a f) (fourth b c d h) = absurd (f c)
one_broken C g R W m n (third a b f) (first h) = absurd (h a)
one_broken C g R W m n (third a b f) (second c h) = absurd (h b)
one_broken C g R W m n (third a b f) (third c d h) = refl
one_broken C g R W m n (third a b f) (fourth c d e h) = absurd (f e)
one_broken C g R W m n (fourth a b c f) (first h) = absurd (h a)
one_broken C g R W m n (fourth a b c f) (second d h) = absurd (h b)
one_broken C g R W m n (fourth a b c f) (third d e h) = absurd (h c)
one_broken C g R W m n (fourth a b c f) (fourth d e h i) = refl
