-- What is answered of rows is answered of the lines that they were read of.
use Rattle.std.proofs.Common.{◌≡◌, ℕ, ◌+◌, Bool, List, length, map, take, drop, Option, Some, None, sym, ap, subst, ◌∙◌}
use Rattle.std.proofs.lemmas.List.{length-map}
use Rattle.rx_graph_bits.specs.Rows.{words}
use Rattle.rx_core.specs.declared.types.Bound.{Bound}
use Rattle.rx_typed.specs.declared.declarations.Decl.{Decl}
use Rattle.rx_lower_walks.specs.Graph.{Site}
use Rattle.rx_lower_walks.specs.PlainSite.{plain-Site}
use Rattle.rx_lower_walks.specs.declared.site.Site.{Site as SiteOf}
use Rattle.rx_lower_lifetimes.specs.Answer.{plain-Lifetimes, IsLowered}
use Rattle.rx_lower_lifetimes.specs.Lowered.{Lifetimes}
use Rattle.rx_lower_lifetimes.specs.declared.whole.Graph.{Graph}
use Rattle.rx_lower.specs.Functions.{function, trimmed, written as annotated}
use Rattle.rx_typed.specs.PlainTree.{plain-TypedTree}
use Rattle.rx_region.specs.Constraints.{Context}
use Rattle.rx_region.specs.Solutions.{Sets}
use Rattle.rx_typeck_typed.specs.declared.typed.TypedFn.{TypedFn}
use Rattle.rx_facts.specs.Functions.{sites_of}
use Rattle.rx_check.specs.Contexts.{context_of}
use Rattle.rx_cert_lines.specs.declared.line.Line.{Line}
use Rattle.rx_cert_tables.specs.declared.shape.Shape.{Shape}
use Rattle.rx_cert_tables.specs.Sets.{AreRows}
use Rattle.rx_cert_tables.specs.Fitting.{AllFit}
use Rattle.rx_cert_rules.specs.Written.{written, inside, Wide, Numbered}
use Rattle.rx_cert_rules.proofs.Numbering.{are_numbered}
use Rattle.rx_cert_rules.specs.Verdicts.{Judges}
use Rattle.rx_cert.specs.Shapes.{lifetimes_of, shape_of}
use Rattle.rx_cert.specs.Sets.{points, sites, region_lines, loan_lines}
use Rattle.rx_cert.specs.Parts.{JudgesOf}
use Rattle.rx_cert.proofs.Reading.{points_read, scopes_read}

abbrev context : List Decl → (ℕ → List Bound) → Lifetimes → Context
context D P L = record { items = D; implied = P; lifetimes = L }

of_lines : (D : List Decl) (P : ℕ → List Bound) (f : TypedFn) (ls : List Line) (n : Option ℕ)
    → Judges (context_of D P f) (sites_of f) (points (region_lines D f ls)) (sites (loan_lines D f ls)) n → JudgesOf D P f ls n
of_lines D P f ls None h = h
of_lines D P f ls (Some r) h = h

pub judged : (D : List Decl) (P : ℕ → List Bound) (f : TypedFn) (ls : List Line) (L : Lifetimes) (g : List Site) (T U : List (List ℕ)) (n : Option ℕ)
    → L ≡ lifetimes_of D f → g ≡ sites_of f → AllFit (shape_of D f) ls
    → AreRows (shape_of D f).sites (shape_of D f).own (region_lines D f ls) T → AreRows (shape_of D f).sites 0 (loan_lines D f ls) U
    → Judges (context D P L) g (written (length g) L.own T) (inside U (length g)) n → JudgesOf D P f ls n
judged D P f ls L g T U n same_lifetimes same_sites fit regions scopes judges =
    let by_lifetimes : Judges (context_of D P f) g (written (length g) (lifetimes_of D f).own T) (inside U (length g)) n
    = subst (λ (x : Lifetimes). Judges (context D P x) g (written (length g) x.own T) (inside U (length g)) n) same_lifetimes judges in
    let by_sites : Judges (context_of D P f) (sites_of f) (written (shape_of D f).sites (shape_of D f).own T) (inside U (shape_of D f).sites) n
    = subst (λ (x : List Site). Judges (context_of D P f) x (written (length x) (lifetimes_of D f).own T) (inside U (length x)) n) same_sites by_lifetimes in
    of_lines D P f ls n
    (subst (λ (W : ℕ → ℕ → Bool). Judges (context_of D P f) (sites_of f) (points (region_lines D f ls)) W n) (scopes_read (shape_of D f) ls U fit scopes)
    (subst (λ (R : Sets). Judges (context_of D P f) (sites_of f) R (inside U (shape_of D f).sites) n) (points_read (shape_of D f) ls T fit regions) by_sites))

-- ---- by what the code has of the function

-- the lifetimes of a function's graph are counted
pub numbered_too : (D : List Decl) (P : ℕ → List Bound) (f : TypedFn) (mutable : List Bool) (g : Graph) → IsLowered (function D f) mutable g
    → Numbered (context D P (plain-Lifetimes g.lifetimes))
numbered_too D P f mutable g lowered = subst (λ (L : Lifetimes). Numbered (context D P L)) (sym lowered.lifetimes_are)
    (are_numbered D P f.item (plain-TypedTree f.tree) (trimmed f.variables) (map annotated f.annotations))

-- rows that are read are as wide as points need
pub wide_rows : (D : List Decl) (f : TypedFn) (mutable : List Bool) (g : Graph) → IsLowered (function D f) mutable g
    → (s : Shape) → s ≡ shape_of D f → (all : List SiteOf) → all ≡ g.sites → (ls : List Line) (T rows : List (List ℕ)) → AreRows s.sites s.own ls T → rows ≡ T
    → Wide (words (length all + g.lifetimes.own)) rows
wide_rows D f mutable g lowered s is all are ls T rows read same =
    subst (λ (n : ℕ). Wide (words n) rows) many (subst (λ (x : List (List ℕ)). Wide (words (s.sites + s.own)) x) (sym same) read.wide) where
      many : s.sites + s.own ≡ length all + g.lifetimes.own
      many = (λ j. (is j).sites + (is j).own) ∙ (λ j. length (sym lowered.sites j) + (sym lowered.lifetimes_are j).own)
          ∙ ap (λ n. n + g.lifetimes.own) (length-map g.sites plain-Site ∙ ap (λ (l : List SiteOf). length l) (sym are))

pub judged_rows : (D : List Decl) (P : ℕ → List Bound) (f : TypedFn) (mutable : List Bool) (g : Graph) → IsLowered (function D f) mutable g
    → (s : Shape) → s ≡ shape_of D f → (ls : List Line) → AllFit (shape_of D f) ls
    → (us vs : List Line) → us ≡ take s.lifetimes (drop 1 ls) → vs ≡ take (length s.borrows) (drop (1 + s.lifetimes) ls)
    → (all : List SiteOf) → all ≡ g.sites → (T rows U scopes : List (List ℕ)) → AreRows s.sites s.own us T → rows ≡ T → AreRows s.sites 0 vs U → scopes ≡ U
    → (n : Option ℕ) → Judges (context D P (plain-Lifetimes g.lifetimes)) (map plain-Site all) (written (length all) g.lifetimes.own rows) (inside scopes (length all)) n
    → JudgesOf D P f ls n
judged_rows D P f mutable g lowered s is ls fit us vs us_are vs_are all are T rows U scopes read_T same_T read_U same_U n judges =
    judged D P f ls (plain-Lifetimes g.lifetimes) (map plain-Site all) T U n lowered.lifetimes_are (ap (λ (l : List SiteOf). map plain-Site l) are ∙ lowered.sites) fit
    (subst (λ (x : Shape). AreRows x.sites x.own (take x.lifetimes (drop 1 ls)) T) is (subst (λ (l : List Line). AreRows s.sites s.own l T) us_are read_T))
    (subst (λ (x : Shape). AreRows x.sites 0 (take (length x.borrows) (drop (1 + x.lifetimes) ls)) U) is (subst (λ (l : List Line). AreRows s.sites 0 l U) vs_are read_U))
    by_length where
      by_rows : Judges (context D P (plain-Lifetimes g.lifetimes)) (map plain-Site all) (written (length all) g.lifetimes.own T) (inside U (length all)) n
      by_rows = subst (λ (x : List (List ℕ)). Judges (context D P (plain-Lifetimes g.lifetimes)) (map plain-Site all) (written (length all) g.lifetimes.own T) (inside x (length all)) n) same_U
          (subst (λ (x : List (List ℕ)). Judges (context D P (plain-Lifetimes g.lifetimes)) (map plain-Site all) (written (length all) g.lifetimes.own x) (inside scopes (length all)) n) same_T judges)

      by_length : Judges (context D P (plain-Lifetimes g.lifetimes)) (map plain-Site all) (written (length (map plain-Site all)) g.lifetimes.own T) (inside U (length (map plain-Site all))) n
      by_length = subst (λ (m : ℕ). Judges (context D P (plain-Lifetimes g.lifetimes)) (map plain-Site all) (written m g.lifetimes.own T) (inside U m) n) (sym (length-map all plain-Site)) by_rows
