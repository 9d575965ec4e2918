-- Which bounds make a function acceptable: a pair of which the least sets have the end is known by types or is a least bound, since
-- that is decided; and the least sets are within all others.
use Rattle.std.proofs.Common.{◌≡◌, ◌≢◌, ◌⊎◌, ◌↔◌, inl, inr, ℕ, zero, suc, ◌<◌, true, List, [], ◌∷◌, ◌++◌, Option, Some, None, option_map, slice_get, refl, sym, ap, subst, ◌∙◌, arith}
use Rattle.rx_core.specs.declared.types.Bound.{Bound}
use Rattle.rx_typed.specs.declared.declarations.Decl.{Decl}
use Rattle.rx_typed.specs.declared.declarations.Decl.TheVariants as decl
use Rattle.rx_lower_walks.specs.Graph.{Site}
use Rattle.rx_region_outlives.specs.Implied.{HasPair}
use Rattle.rx_region_outlives.proofs.ImpliedLemmas.{has_front}
use Rattle.rx_lower_lifetimes.specs.Lowered.{bounds_of}
use Rattle.rx_lower_lifetimes.specs.Numbered.{Own}
use Rattle.rx_typeck_typed.specs.declared.typed.TypedFn.{TypedFn}
use Rattle.rx_facts.specs.Functions.{sites_of}
use Rattle.rx_region.specs.Constraints.{Context}
use Rattle.rx_region.specs.Solutions.{site, end, Sets, AreLeast}
use Rattle.rx_region.specs.Known as knowing
use Rattle.rx_region.specs.Known.{told, Missing}
use Rattle.rx_region.proofs.LeastLaws.{least_serves, least_is_within}
use Rattle.rx_region.specs.Tables.{Follows, itself, by}
use Rattle.rx_loan.specs.Accesses.{Loan}
use Rattle.rx_loan.specs.Loans.{loans_of, MeetsLoan, IsLegal}
use Rattle.rx_loan.proofs.Walking.{fewer_legal}
use Rattle.rx_loan.specs.Accepted.{at_sites, IsAccepted}
use Rattle.rx_check.specs.Contexts.{context_of}
use Rattle.rx_repair.specs.Bounded.{bounded, with_bounds, IsFunction}
use Rattle.rx_repair.specs.Calls.{CallsNotItself}
use Rattle.rx_repair.specs.LeastBounds.{by_types, IsLeastBound, AreLeastBounds}
use Rattle.rx_repair.proofs.Deciding.{same_or, follows_or, follows_behind}
use Rattle.rx_repair.proofs.Observed.{at_item}
use Rattle.rx_repair.proofs.OtherBounds.{reads_alike, owned_same, same_solutions, same_by_types}

-- ---- what is known

pub known_follows : (C : Context) (l k : ℕ) → knowing.KnownToOutlive C l k → Follows (told C) l k
known_follows C l k knowing.itself = itself
known_follows C l k (knowing.by m pair rest) = by m pair (known_follows C m k rest)

pub follows_known : (C : Context) (l k : ℕ) → Follows (told C) l k → knowing.KnownToOutlive C l k
follows_known C l k itself = knowing.itself
follows_known C l k (by m pair rest) = knowing.by m pair (follows_known C m k rest)

-- ---- a function without bounds lacks its least bounds

module _ (C : Context) (g : List Site) (none : C.lifetimes.bounds ≡ []) (R : Sets) (least : AreLeast C g R) where
  told_is : told C ≡ by_types C
  told_is = ap (λ (bs : List Bound). bs ++ by_types C) none

  pub lacking : (l k : ℕ) → IsLeastBound C g l k → Missing C g l k
  lacking l k b = record {
    long = b.long;
    short = b.short;
    needed = (least l (end k)).0 (b.needed R (least_serves C g R least));
    unknown = λ h. b.unknown (subst (λ (ps : List Bound). Follows ps l k) told_is (known_follows C l k h));
  }

  pub lacked : (l k : ℕ) → Missing C g l k → IsLeastBound C g l k
  lacked l k m = record {
    long = m.long;
    short = m.short;
    different = λ e. m.unknown (subst (λ n. knowing.KnownToOutlive C l n) e knowing.itself);
    needed = λ S s. least_is_within C g S s l (end k) m.needed;
    unknown = λ w. m.unknown (follows_known C l k (subst (λ (ps : List Bound). Follows ps l k) (sym told_is) w));
  }

-- ---- with bounds

has_bounds : (D : List Decl) (i : ℕ) (bs : List Bound) → IsFunction (slice_get D i) → bounds_of (slice_get (with_bounds D i bs) i) ≡ bs
has_bounds D i bs f = ap bounds_of (at_item bs D i) ∙ ap (λ (o : Option Decl). bounds_of (option_map (bounded bs) o)) f.is

module _ (D : List Decl) (P : ℕ → List Bound) (f : TypedFn) (bs : List Bound) (never : CallsNotItself f) where
  abbrev first : Context
  first = context_of D P f

  abbrev second : Context
  second = context_of (with_bounds D f.item bs) P f

  abbrev sites : List Site
  sites = sites_of f

  abbrev loans : List Loan
  loans = loans_of sites first.lifetimes.owned

  loans_same : loans_of sites second.lifetimes.owned ≡ loans
  loans_same = ap (loans_of sites) (owned_same D f.item bs P f never)

  own_same : second.lifetimes.own ≡ first.lifetimes.own
  own_same = (reads_alike D f.item bs P f).own

  abbrev AllFollow : Type 0
  AllFollow = (l k : ℕ) → IsLeastBound first sites l k → Follows (bs ++ by_types first) l k

  module _ (is : IsFunction (slice_get D f.item)) where
    told_is_with : told second ≡ bs ++ by_types first
    told_is_with = λ j. has_bounds D f.item bs is j ++ same_by_types D P f bs never j

    pub all_follow : IsAccepted second sites → AllFollow
    all_follow a l k b = subst (λ (ps : List Bound). Follows ps l k) told_is_with (known_follows second l k
        (a.1.known l k (subst (λ n. l < n) (sym own_same) b.long) (subst (λ n. k < n) (sym own_same) b.short) (b.needed a.0 ((same_solutions D P f bs never a.0).1 a.1.solution))))

    module _ (R : Sets) (least : AreLeast first sites R) where
      known_by : AllFollow → (l k : ℕ) → l < first.lifetimes.own → k < first.lifetimes.own → R l (end k) ≡ true → Follows (bs ++ by_types first) l k
      known_by all l k w v h = elim (same_or l k) [
        | inl e ↦ subst (Follows (bs ++ by_types first) l) e itself
        | inr n ↦ elim (follows_or (by_types first) l k) [
          | inl t ↦ follows_behind bs (by_types first) l k t
          | inr u ↦ all l k (record { long = w; short = v; different = n; needed = λ S s. least_is_within first sites S s l (end k) ((least l (end k)).0 h); unknown = u })
        ]
      ]

      pub accepted_with : IsLegal sites (at_sites R) loans → AllFollow → IsAccepted second sites
      accepted_with legal all = (
        R,
        record {
          solution = (same_solutions D P f bs never R).0 (least_serves first sites R least);
          known = λ l k w v h. follows_known second l k (subst (λ (ps : List Bound). Follows ps l k) (sym told_is_with)
              (known_by all l k (subst (λ n. l < n) own_same w) (subst (λ n. k < n) own_same v) h));
          legal = subst (λ (ls : List Loan). IsLegal sites (at_sites R) ls) (sym loans_same) legal;
        },
      )

  module _ (R : Sets) (least : AreLeast first sites R) where
    pub legal_by_least : IsAccepted second sites → IsLegal sites (at_sites R) loans
    legal_by_least a = fewer_legal sites (at_sites R) (at_sites a.0) loans
        (λ r p w h. least_is_within first sites a.0 ((same_solutions D P f bs never a.0).1 a.1.solution) r (site p) ((least r (site p)).0 h))
        (subst (λ (ls : List Loan). IsLegal sites (at_sites a.0) ls) loans_same a.1.legal)

-- ---- with the least

pub least_accepted : (D : List Decl) (P : ℕ → List Bound) (f : TypedFn) (bs ms : List Bound) → CallsNotItself f → IsFunction (slice_get D f.item) → (R : Sets)
    → AreLeast (context_of D P f) (sites_of f) R → AreLeastBounds (context_of D P f) (sites_of f) ms
    → IsAccepted (context_of (with_bounds D f.item bs) P f) (sites_of f) → IsAccepted (context_of (with_bounds D f.item ms) P f) (sites_of f)
least_accepted D P f bs ms never is R least minimal a =
    accepted_with D P f ms never is R least (legal_by_least D P f bs never R least a)
    (λ l k b. by k (has_front ms (by_types (context_of D P f)) l k ((minimal.exact l k).1 b)) itself)
