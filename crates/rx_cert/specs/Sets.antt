-- The sets that the lines of a certificate say of the functions of a typed program, and the rules that they keep or break.
use Rattle.std.specs.Prelude.{◌≡◌, ◌⊎◌, ℕ, ◌+◌, Bool, List, [], ◌∷◌, length, take, drop}
use Rattle.rx_core.specs.declared.types.Bound.{Bound}
use Rattle.rx_typed.specs.declared.declarations.Decl.{Decl}
use Rattle.rx_typeck_typed.specs.declared.typed.TypedFn.{TypedFn}
use Rattle.rx_facts.specs.Functions.{sites_of}
use Rattle.rx_region.specs.Solutions.{site, end, Sets}
use Rattle.rx_check.specs.Contexts.{context_of}
use Rattle.rx_cert_lines.specs.declared.line.Line.{Line}
use Rattle.rx_cert_tables.specs.Sets.{has_site, has_end, items_at}
use Rattle.rx_cert_rules.specs.Rules.{Good}
use Rattle.rx_cert_rules.specs.Verdicts.{FirstBroken}
use Rattle.rx_cert.specs.Shapes.{shape_of, behind}

-- the sets of a line for each lifetime, and of a line for each loan
abbrev pub points : List Line → Sets
points ls l (site p) = has_site (items_at ls l) p
points ls l (end k) = has_end (items_at ls l) k

abbrev pub sites : List Line → ℕ → ℕ → Bool
sites ls i p = has_site (items_at ls i) p

-- of a function's lines, the first of which is its own, those of its lifetimes and those of its loans
abbrev pub region_lines : List Decl → TypedFn → List Line → List Line
region_lines D f ls = take (shape_of D f).lifetimes (drop 1 ls)

abbrev pub loan_lines : List Decl → TypedFn → List Line → List Line
loan_lines D f ls = take (length (shape_of D f).borrows) (drop (1 + (shape_of D f).lifetimes) ls)

-- the sets of a function keep the rules, or break one first
abbrev pub GoodOf : List Decl → (ℕ → List Bound) → TypedFn → List Line → Type 0
GoodOf D P f ls = Good (context_of D P f) (sites_of f) (points (region_lines D f ls)) (sites (loan_lines D f ls))

abbrev pub BrokenOf : List Decl → (ℕ → List Bound) → TypedFn → List Line → ℕ → Type 0
BrokenOf D P f ls r = FirstBroken (context_of D P f) (sites_of f) (points (region_lines D f ls)) (sites (loan_lines D f ls)) r

-- those of all functions do
abbrev pub AllGood : List Decl → (ℕ → List Bound) → List TypedFn → List Line → Type 0
AllGood D P [] ls = Unit {0}
AllGood D P (f ∷ fs) ls = GoodOf D P f ls × AllGood D P fs (behind D f ls)

-- the first function whose sets break a rule has this item number, and this is the first such rule
abbrev pub FirstRule : List Decl → (ℕ → List Bound) → ℕ → ℕ → List TypedFn → List Line → Type 0
FirstRule D P i r [] ls = ⊥
FirstRule D P i r (f ∷ fs) ls = ((i ≡ f.item) × BrokenOf D P f ls r) ⊎ (GoodOf D P f ls × FirstRule D P i r fs (behind D f ls))
