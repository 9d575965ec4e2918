-- The lines of all functions, one after the other.
use Rattle.std.proofs.Common.{◌≡◌, ℕ, suc, ◌+◌, ◌<◌, ◌≤◌, Bool, List, [], ◌∷◌, ◌++◌, length, ap, sym, ◌∙◌, subst, arith}
use Rattle.std.proofs.lemmas.List.{length-append, drop_at}
use Rattle.rx_core.specs.declared.types.Bound.{Bound}
use Rattle.rx_tree.specs.Plain as plain
use Rattle.rx_tree.specs.Plain.{ProgramTree}
use Rattle.rx_resolve_names.specs.declared.resolved.ItemNames.{ItemNames}
use Rattle.rx_typed.specs.declared.declarations.Decl.{Decl}
use Rattle.rx_typed_declarations.specs.WellFormed.{WellSigned}
use Rattle.rx_typeck_typed.specs.Typing.{Given, FunctionsTyped}
use Rattle.rx_typeck_typed.specs.declared.typed.TypedFn.{TypedFn}
use Rattle.rx_region.specs.Solutions.{Sets}
use Rattle.rx_facts.specs.Functions.{sites_of, IsSmall}
use Rattle.rx_facts.specs.Passing.{AllAre}
use Rattle.rx_check.specs.Functions.{Borrows}
use Rattle.rx_cert_lines.specs.declared.line.Line.{Line}
use Rattle.rx_cert_lines.specs.Certificates.{AreFront}
use Rattle.rx_cert_tables.specs.Fitting.{count, AllFit}
use Rattle.rx_cert_tables.specs.Written.{function_line}
use Rattle.rx_cert_sets.specs.Pushed.{ArePushed}
use Rattle.rx_cert.specs.Shapes.{shape_of, lifetimes_of, behind, AreLinesOf}
use Rattle.rx_cert.specs.Sets.{region_lines, loan_lines, GoodOf, AllGood}
use Rattle.rx_cert_least.specs.Least.{LeastLines, AllLeast}
use Rattle.rx_cert_laws.proofs.Lists.{front_there, first_part, second_part, whole_length}
use Rattle.rx_cert_laws.proofs.LeastSets.{good}
use Rattle.rx_cert_laws.proofs.Forms.{front_both, function_lines, borrows_below}

-- ---- the lines of one function, with others behind

pushed_length : (D : List Decl) (f : TypedFn) (R : Sets) (S : ℕ → ℕ → Bool) (us : List Line) → ArePushed (shape_of D f) R S us → length us ≡ count (shape_of D f)
pushed_length D f R S us pushed = ap (λ (ls : List Line). length ls) pushed.lines
    ∙ whole_length (function_line (shape_of D f)) pushed.sets pushed.scopes [] (shape_of D f).lifetimes (length (shape_of D f).borrows) pushed.set_count pushed.scope_count

fit_more : (D : List Decl) (f : TypedFn) (us vs : List Line) → AllFit (shape_of D f) us → AllFit (shape_of D f) (us ++ vs)
fit_more D f us vs fit n w = let x = fit n w in (x.0, front_there us vs n x.0 x.1, x.2)

lines_behind : (D : List Decl) (f : TypedFn) (R : Sets) (S : ℕ → ℕ → Bool) (us vs : List Line) → ArePushed (shape_of D f) R S us → behind D f (us ++ vs) ≡ vs
lines_behind D f R S us vs pushed = drop_at us vs (count (shape_of D f)) (pushed_length D f R S us pushed)

sets_of_lines : (D : List Decl) (f : TypedFn) (R : Sets) (S : ℕ → ℕ → Bool) (us vs : List Line) (pushed : ArePushed (shape_of D f) R S us)
    → region_lines D f (us ++ vs) ≡ pushed.sets
sets_of_lines D f R S us vs pushed = ap (λ (ls : List Line). region_lines D f (ls ++ vs)) pushed.lines
    ∙ first_part (function_line (shape_of D f)) pushed.sets pushed.scopes vs (shape_of D f).lifetimes pushed.set_count

scopes_of_lines : (D : List Decl) (f : TypedFn) (R : Sets) (S : ℕ → ℕ → Bool) (us vs : List Line) (pushed : ArePushed (shape_of D f) R S us)
    → loan_lines D f (us ++ vs) ≡ pushed.scopes
scopes_of_lines D f R S us vs pushed = ap (λ (ls : List Line). loan_lines D f (ls ++ vs)) pushed.lines
    ∙ second_part (function_line (shape_of D f)) pushed.sets pushed.scopes vs (shape_of D f).lifetimes (length (shape_of D f).borrows) pushed.set_count pushed.scope_count

good_here : (D : List Decl) (P : ℕ → List Bound) (f : TypedFn) → WellSigned D → (us vs : List Line) → LeastLines D P f us → Borrows D P f → GoodOf D P f (us ++ vs)
good_here D P f well us vs u borrows = good D P f well u.regions u.scopes us (us ++ vs) u.least u.in_scope u.lines (fit_more D f us vs u.lines.fits)
    (sets_of_lines D f u.regions u.scopes us vs u.lines) (scopes_of_lines D f u.regions u.scopes us vs u.lines) borrows

-- ---- items have numbers

abbrev ItemsBelow : ℕ → List TypedFn → Type 0
ItemsBelow b [] = Unit {0}
ItemsBelow b (f ∷ fs) = (f.item < b) × ItemsBelow b fs

pub items_below : (G : Given) (ns : List ItemNames) (i b : ℕ) (is : ProgramTree) (fs : List TypedFn) → i + length is ≤ b → FunctionsTyped G ns i is fs → ItemsBelow b fs
items_below G ns i b [] fs w h = subst (ItemsBelow b) (sym h) tt
items_below G ns i b (plain.rt_item s r ∷ is) fs w h = items_below G ns (suc i) b is fs (omega (arith, w)) h
items_below G ns i b (plain.struct_item s x ∷ is) fs w h = items_below G ns (suc i) b is fs (omega (arith, w)) h
items_below G ns i b (plain.enum_item s x ∷ is) fs w h = items_below G ns (suc i) b is fs (omega (arith, w)) h
items_below G ns i b (plain.function_item s x ∷ is) [] w h = absurd h
items_below G ns i b (plain.function_item s x ∷ is) (f ∷ fs) w h = (
  let e = h.0.item in omega (arith, e, w),
  items_below G ns (suc i) b is fs (omega (arith, w)) h.1,
)

-- ---- all functions

module _ (D : List Decl) (P : ℕ → List Bound) where
  pub all_lines : (fs : List TypedFn) (ls : List Line) → AllLeast D P fs ls → AreLinesOf D fs ls
  all_lines [] ls h = h
  all_lines (f ∷ fs) ls h = let us = h.0 in let vs = h.1 in let u = h.3 in
      subst (λ (x : List Line). AreLinesOf D (f ∷ fs) x) (sym h.2)
      (fit_more D f us vs u.lines.fits, subst (λ (x : List Line). AreLinesOf D fs x) (sym (lines_behind D f u.regions u.scopes us vs u.lines)) (all_lines fs vs h.4))

  pub all_good : WellSigned D → (fs : List TypedFn) (ls : List Line) → AllLeast D P fs ls → AllAre (Borrows D P) fs → AllGood D P fs ls
  all_good well [] ls h b = tt
  all_good well (f ∷ fs) ls h b = let us = h.0 in let vs = h.1 in let u = h.3 in
      subst (λ (x : List Line). AllGood D P (f ∷ fs) x) (sym h.2)
      (good_here D P f well us vs u b.0, subst (λ (x : List Line). AllGood D P fs x) (sym (lines_behind D f u.regions u.scopes us vs u.lines)) (all_good well fs vs h.4 b.1))

  function_front : (f : TypedFn) (us : List Line) → LeastLines D P f us → IsSmall D f → f.item < 4294967296 → length us ≤ 16777216 → AreFront us
  function_front f us u small item few = function_lines (shape_of D f) u.regions u.scopes us u.lines item
      (omega (arith, small.sites)) (omega (arith, pushed_length D f u.regions u.scopes us u.lines, few))
      (λ n b at_n. let w = borrows_below (sites_of f) (lifetimes_of D f).owned n b at_n in omega (arith, w, small.sites))

  pub all_front : (fs : List TypedFn) (ls : List Line) → AllLeast D P fs ls → AllAre (IsSmall D) fs → ItemsBelow 4294967296 fs → length ls ≤ 16777216 → AreFront ls
  all_front [] ls h small items few = subst AreFront (sym h) tt
  all_front (f ∷ fs) ls h small items few = let us = h.0 in let vs = h.1 in
      let whole : length ls ≡ length us + length vs = ap (λ (x : List Line). length x) h.2 ∙ length-append us vs in
      subst AreFront (sym h.2) (front_both us vs (function_front f us h.3 small.0 items.0 (omega (arith, whole, few)))
      (all_front fs vs h.4 small.1 items.1 (omega (arith, whole, few))))
