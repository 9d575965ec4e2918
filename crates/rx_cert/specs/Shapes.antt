-- Whether the lines of a certificate are those of a typed program: of each function, in order of items, its item number, its sites and its
-- lifetimes, then a line for each lifetime, then one for each loan, and no more. And the first place at which they aren't.
use Rattle.std.specs.Prelude.{◌≡◌, ◌⊎◌, ℕ, ◌+◌, ◌<◌, List, [], ◌∷◌, map, length, drop}
use Rattle.rx_typed.specs.declared.declarations.Decl.{Decl}
use Rattle.rx_lower_lifetimes.specs.Lowered.{Lifetimes, lifetimes}
use Rattle.rx_lower.specs.Functions.{function}
use Rattle.rx_loan.specs.Accesses.{Loan}
use Rattle.rx_loan.specs.Loans.{loans_of}
use Rattle.rx_typeck_typed.specs.declared.typed.Typed.{Typed}
use Rattle.rx_typeck_typed.specs.declared.typed.TypedFn.{TypedFn}
use Rattle.rx_facts.specs.Functions.{sites_of}
use Rattle.rx_cert_lines.specs.declared.line.Line.{Line}
use Rattle.rx_cert_tables.specs.declared.shape.Shape.{Shape}
use Rattle.rx_cert_tables.specs.Fitting.{count, AllFit, IsMisfit}

abbrev pub lifetimes_of : List Decl → TypedFn → Lifetimes
lifetimes_of D f = lifetimes (function D f)

-- the loans of a function, in the order of their borrows
abbrev pub loans_in : List Decl → TypedFn → List Loan
loans_in D f = loans_of (sites_of f) (lifetimes_of D f).owned

abbrev pub shape_of : List Decl → TypedFn → Shape
shape_of D f = record {
  item = f.item;
  sites = length (sites_of f);
  own = (lifetimes_of D f).own;
  lifetimes = (lifetimes_of D f).regions;
  borrows = map (λ (l : Loan). l.site) (loans_in D f);
}

-- what is left behind a function's lines
abbrev pub behind : List Decl → TypedFn → List Line → List Line
behind D f ls = drop (count (shape_of D f)) ls

-- the lines are those of the functions
abbrev pub AreLinesOf : List Decl → List TypedFn → List Line → Type 0
AreLinesOf D [] ls = ls ≡ []
AreLinesOf D (f ∷ fs) ls = AllFit (shape_of D f) ls × AreLinesOf D fs (behind D f ls)

-- the first place at which a line is missing, isn't as it has to be, or is one too many
abbrev pub FirstUnfit : List Decl → List TypedFn → List Line → ℕ → Type 0
FirstUnfit D [] ls n = (n ≡ 0) × (0 < length ls)
FirstUnfit D (f ∷ fs) ls n = IsMisfit (shape_of D f) ls n
    ⊎ (AllFit (shape_of D f) ls × ((k : ℕ) × (n ≡ count (shape_of D f) + k) × FirstUnfit D fs (behind D f ls) k))

abbrev pub Fitting : Typed → List Line → Type 0
Fitting t ls = AreLinesOf t.decls.items t.functions ls

abbrev pub Unfit : Typed → List Line → ℕ → Type 0
Unfit t ls n = FirstUnfit t.decls.items t.functions ls n
