-- The sets that a function's lines say are its least, and the sites of their loans those at which these are in scope: so they keep the rules.
use Rattle.std.proofs.Common.{◌≡◌, ◌⊎◌, inl, inr, ◌↔◌, ℕ, ◌<◌, ◌≤◌, Bool, true, List, [], ◌∷◌, length, map, Some, slice_get, ap, sym, ◌∙◌, subst, arith, true≢false}
use Rattle.std.proofs.lemmas.Bool.{cases_lt}
use Rattle.std.proofs.lemmas.Option.{slice_get_within}
use Rattle.rx_core.specs.declared.types.Bound.{Bound}
use Rattle.rx_typed.specs.declared.declarations.Decl.{Decl}
use Rattle.rx_typed.specs.Tree.{Root}
use Rattle.rx_typed.specs.PlainTree.{plain-TypedTree}
use Rattle.rx_typed_declarations.specs.WellFormed.{WellSigned}
use Rattle.rx_lower_walks.specs.Actions.{Action}
use Rattle.rx_lower_walks.specs.Graph.{Site, Path, stop, go}
use Rattle.rx_lower_walks.specs.Text.{actions_of}
use Rattle.rx_lower_lifetimes.specs.Lowered.{lifetimes}
use Rattle.rx_lower.specs.Functions.{function, trimmed, written as annotated}
use Rattle.rx_facts_tables.specs.Along.{ahead}
use Rattle.rx_facts_tables.specs.Live.{IsLive, living}
use Rattle.rx_facts_tables.proofs.Ways.{site_within, only}
use Rattle.rx_region_outlives.specs.Implied.{HasPair}
use Rattle.rx_region.specs.Constraints.{Context, imposed}
use Rattle.rx_region.specs.Solutions.{Point, site, end, Sets, Least, whole, ends, live, longer, AreLeast}
use Rattle.rx_loan.specs.Accesses.{Loan}
use Rattle.rx_loan.specs.Accepted.{at_sites, IsAccepted}
use Rattle.rx_loan.proofs.Walking.{more_scope}
use Rattle.rx_typeck_typed.specs.declared.typed.TypedFn.{TypedFn}
use Rattle.rx_facts.specs.Functions.{sites_of}
use Rattle.rx_check.specs.Contexts.{context_of}
use Rattle.rx_cert_lines.specs.declared.line.Line.{Line}
use Rattle.rx_cert_tables.specs.Sets.{has_site, has_end}
use Rattle.rx_cert_tables.specs.Fitting.{AllFit}
use Rattle.rx_cert_sets.specs.Pushed.{ArePushed}
use Rattle.rx_cert_rules.specs.Verdicts.{AreScopes}
use Rattle.rx_cert_rules.specs.Rules.{loans_in}
use Rattle.rx_cert_rules.specs.Written.{Numbered}
use Rattle.rx_cert_rules.proofs.Keeping.{least_good}
use Rattle.rx_cert_rules.proofs.Numbering.{are_numbered}
use Rattle.rx_cert.specs.Shapes.{shape_of}
use Rattle.rx_cert.specs.Sets.{points, sites, region_lines, loan_lines, GoodOf}
use Rattle.rx_cert.proofs.Reading.{point_site, point_end}
use Rattle.rx_cert_laws.proofs.Counted.{pair_below, pairs_counted}
use Rattle.rx_cert_laws.proofs.Lists.{some_there, mapped_there, items_there, no_items}

-- ---- the least sets have points of the function alone, and lifetimes that are counted

abbrev IsPoint : Context → List Site → Point → Type 0
IsPoint C g (site p) = p < length g
IsPoint C g (end k) = k < C.lifetimes.own

live_within : (g : List Site) (r : Root) (p : ℕ) → IsLive g r p → p < length g
live_within g r p is = on_path is.0 is.1 is.2 where
  on_path : (us : List Action) → Path g (p ∷ []) us → ahead (living r) us ≡ true → p < length g
  on_path us stop e = absurd (true≢false (sym e))
  on_path us (go q s a h w) e = subst (λ n. n < length g) (only q p a) (site_within g q s h)

least_points : (C : Context) (g : List Site) (l : ℕ) (x : Point) → Least C g l x → IsPoint C g x
least_points C g l x (whole own there) = there
least_points C g l x (ends own) = own
least_points C g l x (live {p = q} r is there) = live_within g r q is
least_points C g l x (longer k pair h) = least_points C g k x h

least_counted : (C : Context) (g : List Site) → Numbered C
    → (0 < C.lifetimes.regions → (l k : ℕ) → HasPair (imposed C (actions_of g)) l k → l < C.lifetimes.regions)
    → (l : ℕ) (x : Point) → Least C g l x → l < C.lifetimes.regions
least_counted C g named pairs l x (whole own there) = let n = named.own in omega (arith, n, own)
least_counted C g named pairs l x (ends own) = let n = named.own in omega (arith, n, own)
least_counted C g named pairs l x (live r is there) = named.types r l there
least_counted C g named pairs l x (longer k pair h) = let less = least_counted C g named pairs k x h in pairs (omega (arith, less)) l k pair

-- ---- the lines of a function, with others behind

module _ (D : List Decl) (P : ℕ → List Bound) (f : TypedFn) (well : WellSigned D) (R : Sets) (S : ℕ → ℕ → Bool) (us ls : List Line)
    (least : AreLeast (context_of D P f) (sites_of f) R) (in_scope : AreScopes (context_of D P f) (sites_of f) R S)
    (pushed : ArePushed (shape_of D f) R S us) (fit : AllFit (shape_of D f) ls)
    (sets_are : region_lines D f ls ≡ pushed.sets) (scopes_are : loan_lines D f ls ≡ pushed.scopes) where
  counted : (l : ℕ) (x : Point) → Least (context_of D P f) (sites_of f) l x → l < (shape_of D f).lifetimes
  counted l x h = least_counted (context_of D P f) (sites_of f)
      (are_numbered D P f.item (plain-TypedTree f.tree) (trimmed f.variables) (map annotated f.annotations))
      (λ some l k pair. (pair_below (lifetimes (function D f)).regions (imposed (context_of D P f) (actions_of (sites_of f))) l k (pairs_counted D P f well some) pair).0) l x h

  -- what a line of a set says
  line_says : (l : ℕ) (x : Point) → l < (shape_of D f).lifetimes → IsPoint (context_of D P f) (sites_of f) x → points pushed.sets l x ≡ R l x
  line_says l (site p) counted_l there = let y = some_there pushed.sets l (omega (arith, counted_l, pushed.set_count)) in
      ap (λ is. has_site is p) (items_there pushed.sets l y.0 y.1) ∙ (pushed.are_sets l y.0 y.1).sites_are p there
  line_says l (end k) counted_l there = let y = some_there pushed.sets l (omega (arith, counted_l, pushed.set_count)) in
      ap (λ is. has_end is k) (items_there pushed.sets l y.0 y.1) ∙ (pushed.are_sets l y.0 y.1).ends_are k there

  -- a point that a line has is one of a counted lifetime
  line_counted : (l : ℕ) (x : Point) → points pushed.sets l x ≡ true → l < (shape_of D f).lifetimes
  line_counted l x h = by (cases_lt l (length pushed.sets)) x h where
    by : (l < length pushed.sets) ⊎ (length pushed.sets ≤ l) → (x : Point) → points pushed.sets l x ≡ true → l < (shape_of D f).lifetimes
    by (inl less) x h = omega (arith, less, pushed.set_count)
    by (inr past) (site p) h = absurd (true≢false (sym h ∙ ap (λ is. has_site is p) (no_items pushed.sets l past)))
    by (inr past) (end k) h = absurd (true≢false (sym h ∙ ap (λ is. has_end is k) (no_items pushed.sets l past)))

  line_points : (l : ℕ) (x : Point) → points (region_lines D f ls) l x ≡ true → IsPoint (context_of D P f) (sites_of f) x
  line_points l (site p) h = point_site (shape_of D f) ls fit l p h
  line_points l (end k) h = point_end (shape_of D f) ls fit l k h

  least_too : AreLeast (context_of D P f) (sites_of f) (points (region_lines D f ls))
  least_too l x = (
    λ h. let g : points pushed.sets l x ≡ true = sym (ap (λ ks. points ks l x) sets_are) ∙ h in
        (least l x).0 (sym (line_says l x (line_counted l x g) (line_points l x h)) ∙ g),
    λ h. ap (λ ks. points ks l x) sets_are ∙ line_says l x (counted l x h) (least_points (context_of D P f) (sites_of f) l x h) ∙ (least l x).1 h,
  )

  -- the sites of a loan's line
  scope_says : (i p : ℕ) (l : Loan) → slice_get (loans_in (context_of D P f) (sites_of f)) i ≡ Some l → p < length (sites_of f)
      → sites (loan_lines D f ls) i p ≡ S i p
  scope_says i p l at_i there =
      let b = mapped_there (λ (m : Loan). m.site) (loans_in (context_of D P f) (sites_of f)) i l at_i in
      let w = slice_get_within (shape_of D f).borrows i l.site b in
      let y = some_there pushed.scopes i (omega (arith, w, pushed.scope_count)) in
      let is = pushed.are_scopes i l.site y.0 y.1 b in
      ap (λ ks. sites ks i p) scopes_are ∙ ap (λ is. has_site is p) (items_there pushed.scopes i y.0 y.1 ∙ is.parts.1) ∙ is.parts.2.sites_are p there

  same_sets : (l p : ℕ) → (at_sites R l p ≡ true) ↔ (at_sites (points (region_lines D f ls)) l p ≡ true)
  same_sets l p = (λ h. (least_too l (site p)).1 ((least l (site p)).0 h), λ h. (least l (site p)).1 ((least_too l (site p)).0 h))

  scopes_too : AreScopes (context_of D P f) (sites_of f) (points (region_lines D f ls)) (sites (loan_lines D f ls))
  scopes_too i p l at_i there = (
    λ h. more_scope (sites_of f) (at_sites R) (at_sites (points (region_lines D f ls))) l p there (λ r q w. (same_sets r q).0)
        ((in_scope i p l at_i there).0 (sym (scope_says i p l at_i there) ∙ h)),
    λ h. scope_says i p l at_i there ∙ (in_scope i p l at_i there).1
        (more_scope (sites_of f) (at_sites (points (region_lines D f ls))) (at_sites R) l p there (λ r q w. (same_sets r q).1) h),
  )

  pub good : IsAccepted (context_of D P f) (sites_of f) → GoodOf D P f ls
  good is = least_good (context_of D P f) (sites_of f) (points (region_lines D f ls)) (sites (loan_lines D f ls)) is least_too scopes_too
