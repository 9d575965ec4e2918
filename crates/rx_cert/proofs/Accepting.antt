-- Where the sets of a certificate keep the rules, its text is accepted.
use Rattle.std.proofs.Common.{ℕ, ◌≤◌, List, [], ◌∷◌, ◌++◌, length, codes, ap, subst, arith}
use Rattle.std.proofs.lemmas.List.{length-append}
use Rattle.rx_core.specs.declared.types.Bound.{Bound}
use Rattle.rx_tree.specs.Plain.{ProgramTree}
use Rattle.rx_typed.specs.declared.declarations.Decl.{Decl}
use Rattle.rx_parse_grammar.specs.grammar.Items.{Parses}
use Rattle.rx_typeck_typed.specs.declared.typed.TypedFn.{TypedFn}
use Rattle.rx_facts.specs.Functions.{sites_of}
use Rattle.rx_facts.specs.Passing.{AllAre}
use Rattle.rx_check.specs.Contexts.{context_of}
use Rattle.rx_check.specs.Functions.{Borrows}
use Rattle.rx_check.specs.Passes.{Accepted}
use Rattle.rx_cert_rules.proofs.Keeping.{accepts}
use Rattle.rx_cert_lines.specs.declared.line.Line.{Line}
use Rattle.rx_cert_lines.specs.Lines.{line_text}
use Rattle.rx_cert_lines.specs.Certificates.{IsCertificate, lines_text}
use Rattle.rx_cert_lines.proofs.Wholes.{one_certificate}
use Rattle.rx_cert.specs.Shapes.{behind}
use Rattle.rx_cert.specs.Sets.{points, sites, region_lines, loan_lines, AllGood}
use Rattle.rx_cert.specs.Verified.{IsGood, IsVerified}

all_borrow : (D : List Decl) (P : ℕ → List Bound) (fs : List TypedFn) (ls : List Line) → AllGood D P fs ls → AllAre (Borrows D P) fs
all_borrow D P [] ls g = tt
all_borrow D P (f ∷ fs) ls g = (
  (
    points (region_lines D f ls),
    accepts (context_of D P f) (sites_of f) (points (region_lines D f ls)) (sites (loan_lines D f ls)) g.0,
  ),
  all_borrow D P fs (behind D f ls) g.1,
)

pub good_accepted : (ls : List Line) (text : List ℕ) → IsGood ls text → (p : ProgramTree) × Parses text p × Accepted p
good_accepted ls text g = (
  g.fronts.program,
  g.fronts.parses,
  (
    g.fronts.typed,
    record {
      front = g.fronts.front;
      borrows = record {
        implied = g.implied;
        asked = g.asked;
        each = all_borrow g.fronts.typed.decls.items g.implied g.fronts.typed.functions ls g.good;
      };
    },
  ),
)

pub verified : (bytes : List ℕ) → IsVerified bytes → (ls : List Line) (text : List ℕ) → IsCertificate ls text bytes → (p : ProgramTree) × Parses text p × Accepted p
verified bytes v ls text c = let same = one_certificate v.lines ls v.text text bytes v.certificate c in
    subst (λ (t : List ℕ). (p : ProgramTree) × Parses t p × Accepted p) same.1 (good_accepted v.lines v.text v.good)

-- ---- a certificate has no more lines than bytes

lines_long : (ls : List Line) → length ls ≤ length (lines_text ls)
lines_long [] = omega arith
lines_long (l ∷ ls) = let r = lines_long ls in omega (arith, r, length-append (line_text l) (10 ∷ lines_text ls))

pub few_lines : (ls : List Line) (text bytes : List ℕ) → IsCertificate ls text bytes → length ls ≤ length bytes
few_lines ls text bytes c = let r = lines_long ls in
    omega (arith, r, length-append (lines_text ls) (codes "text" ++ 10 ∷ text), ap length c.written)
