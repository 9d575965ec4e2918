-- Lines that are added, function by function.
use Rattle.std.proofs.Common.{◌≡◌, ℕ, ◌+◌, ◌<◌, ◌≤◌, nat_lt, Bool, true, false, ◌&&◌, List, [], ◌++◌, length, map, drop, get_or, refl, ap, sym, ◌∙◌, subst, arith, true≢false}
use Rattle.std.proofs.lemmas.Bool.{lt-ltb}
use Rattle.std.proofs.lemmas.List.{drop_all, append_assoc, append-nil}
use Rattle.rx_core.specs.declared.types.Bound.{Bound}
use Rattle.rx_typed.specs.declared.declarations.Decl.{Decl}
use Rattle.rx_graph.specs.Tables.{at}
use Rattle.rx_graph.proofs.Spreading.{both_of}
use Rattle.rx_lower_walks.specs.Graph as graph
use Rattle.rx_lower_walks.specs.PlainSite.{plain-Site}
use Rattle.rx_lower_walks.specs.declared.site.Site.{Site}
use Rattle.rx_lower_lifetimes.specs.Answer.{plain-Lifetimes, IsLowered}
use Rattle.rx_lower_lifetimes.specs.Lowered.{Lifetimes}
use Rattle.rx_lower_lifetimes.specs.Numbered.{Own}
use Rattle.rx_lower_lifetimes.specs.declared.whole.Graph.{Graph}
use Rattle.rx_lower.specs.Functions.{function}
use Rattle.rx_region.specs.Constraints.{Context}
use Rattle.rx_region.specs.Tables.{sets_of}
use Rattle.rx_region.specs.declared.regions.Regions.{Regions}
use Rattle.rx_loan.specs.Accepted.{at_sites}
use Rattle.rx_loan.specs.Tables.{IsLoanTable}
use Rattle.rx_loan.specs.declared.table.LoanTable.{LoanTable}
use Rattle.rx_loan.proofs.Walking.{more_scope}
use Rattle.rx_typeck_typed.specs.declared.typed.TypedFn.{TypedFn}
use Rattle.rx_facts.specs.Functions.{sites_of}
use Rattle.rx_check.proofs.Judging.{context}
use Rattle.rx_cert_lines.specs.declared.line.Line.{Line}
use Rattle.rx_cert_lines.specs.Certificates.{lines_text}
use Rattle.rx_cert_tables.specs.declared.shape.Shape.{Shape}
use Rattle.rx_cert_tables.proofs.Placed.{lines_text_append}
use Rattle.rx_cert_sets.specs.Pushed.{ArePushed}
use Rattle.rx_cert_rules.specs.Verdicts.{AreScopes}
use Rattle.rx_cert.specs.Shapes.{lifetimes_of, shape_of}
use Rattle.rx_cert.proofs.Places.{some_left}
use Rattle.rx_cert_least.specs.Least.{LeastLines, AllLeast}
use Rattle.rx_cert_least.specs.Making.{AreLeastOf, AddsOne, AddsAll}

-- ---- one function

and_so : (a b : Bool) → a ≡ true → b ≡ true → (a && b) ≡ true
and_so true b e h = h
and_so false b e h = absurd (true≢false (sym e))

-- where loans are in scope under the rows of sets, they are under the sets
pub scopes_by : (C : Context) (g : List graph.Site) (os : List Own) (r : Regions) (rows : List (List ℕ)) (t : LoanTable) → IsLoanTable g os (at rows) t
    → os ≡ C.lifetimes.owned → rows ≡ r.rows → r.sites ≡ length g → AreScopes C g (sets_of r) (at t.rows.items)
scopes_by C g os r rows t table same_own same_rows same_sites = λ i p l at_i w. (
  λ h. more_scope g (at r.rows) (at_sites (sets_of r)) l p w there ((exact.exact i p l at_i w).0 h),
  λ h. (exact.exact i p l at_i w).1 (more_scope g (at_sites (sets_of r)) (at r.rows) l p w back h),
) where
  exact : IsLoanTable g C.lifetimes.owned (at r.rows) t
  exact = subst (λ (x : List Own). IsLoanTable g x (at r.rows) t) same_own (subst (λ (x : List (List ℕ)). IsLoanTable g os (at x) t) same_rows table)

  there : (l p : ℕ) → p < length g → at r.rows l p ≡ true → at_sites (sets_of r) l p ≡ true
  there l p w h = and_so (nat_lt p r.sites) (at r.rows l p) (lt-ltb p r.sites (omega (arith, w, same_sites))) h

  back : (l p : ℕ) → p < length g → at_sites (sets_of r) l p ≡ true → at r.rows l p ≡ true
  back l p w h = (both_of (nat_lt p r.sites) (at r.rows l p) h).1

pub one_added : (D : List Decl) (P : ℕ → List Bound) (f : TypedFn) (mutable : List Bool) (g : Graph) → IsLowered (function D f) mutable g
    → (s : Shape) → s ≡ shape_of D f → (all : List Site) → all ≡ g.sites → (r : Regions) (t : LoanTable)
    → AreLeastOf (context D P (plain-Lifetimes g.lifetimes)) (map plain-Site all) r t → (us : List Line) → ArePushed s (sets_of r) (at t.rows.items) us
    → LeastLines D P f us
one_added D P f mutable g lowered s is all are r t least us pushed = record {
  regions = sets_of r;
  least = there.least;
  scopes = at t.rows.items;
  in_scope = there.in_scope;
  lines = subst (λ (x : Shape). ArePushed x (sets_of r) (at t.rows.items) us) is pushed;
} where
  there : AreLeastOf (context D P (lifetimes_of D f)) (sites_of f) r t
  there = subst (λ (x : Lifetimes). AreLeastOf (context D P x) (sites_of f) r t) lowered.lifetimes_are
      (subst (λ (x : List graph.Site). AreLeastOf (context D P (plain-Lifetimes g.lifetimes)) x r t) (ap (λ (l : List Site). map plain-Site l) are ∙ lowered.sites) least)

-- ---- all functions

pub record Adding (D : List Decl) (P : ℕ → List Bound) (fs : List TypedFn) (old now : List ℕ) (i : ℕ) : Type 0 where
  pub lines : List Line
  pub added : now ≡ old ++ lines_text lines
  pub more : (vs : List Line) → AllLeast D P (drop i fs) vs → AllLeast D P fs (lines ++ vs)

pub begin : (D : List Decl) (P : ℕ → List Bound) (fs : List TypedFn) (old : List ℕ) → Adding D P fs old old 0
begin D P fs old = record { lines = []; added = sym (append-nil old); more = λ vs h. h }

pub added_next : (D : List Decl) (P : ℕ → List Bound) (fs : List TypedFn) (old now new : List ℕ) (i : ℕ) (f : TypedFn) → i < length fs → f ≡ get_or fs i f
    → AddsOne D P f now new → Adding D P fs old now i → Adding D P fs old new (i + 1)
added_next D P fs old now new i f within is one before = record {
  lines = before.lines ++ one.0;
  added = one.2 ∙ ap (λ t. t ++ lines_text one.0) before.added ∙ append_assoc old (lines_text before.lines) (lines_text one.0)
      ∙ ap (λ t. old ++ t) (sym (lines_text_append before.lines one.0));
  more = λ vs h. subst (λ (ls : List Line). AllLeast D P fs ls) (sym (append_assoc before.lines one.0 vs))
      (before.more (one.0 ++ vs) (subst (λ (x : List TypedFn). AllLeast D P x (one.0 ++ vs)) (sym (some_left fs i f within is)) (one.0, vs, refl, one.1, h)));
}

pub all_added : (D : List Decl) (P : ℕ → List Bound) (fs : List TypedFn) (old now : List ℕ) (i : ℕ) → length fs ≤ i → Adding D P fs old now i → AddsAll D P fs old now
all_added D P fs old now i past before = (
  before.lines,
  subst (λ (ls : List Line). AllLeast D P fs ls) (append-nil before.lines) (before.more [] (subst (λ (x : List TypedFn). AllLeast D P x []) (sym (drop_all i fs past)) refl)),
  before.added,
)
