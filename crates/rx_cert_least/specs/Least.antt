-- The certificate of an accepted text: of each function, in order of items, its lines with the least sets of its lifetimes and the sites
-- at which its loans are in scope under them; then the line `text`, then the bytes of the text.
use Rattle.std.specs.Prelude.{◌≡◌, ℕ, Bool, List, [], ◌∷◌, ◌++◌}
use Rattle.rx_core.specs.declared.types.Bound.{Bound}
use Rattle.rx_tree.specs.Plain.{ProgramTree}
use Rattle.rx_typed.specs.declared.declarations.Decl.{Decl}
use Rattle.rx_parse_grammar.specs.grammar.Items.{Parses}
use Rattle.rx_typeck_typed.specs.declared.typed.Typed.{Typed}
use Rattle.rx_typeck_typed.specs.declared.typed.TypedFn.{TypedFn}
use Rattle.rx_facts.specs.Functions.{sites_of}
use Rattle.rx_region.specs.Solutions.{Sets, AreLeast}
use Rattle.rx_check.specs.Contexts.{AreAsked, context_of}
use Rattle.rx_check.specs.Passes.{IsAccepted}
use Rattle.rx_cert_lines.specs.declared.line.Line.{Line}
use Rattle.rx_cert_lines.specs.Certificates.{certificate_text}
use Rattle.rx_cert_sets.specs.Pushed.{ArePushed}
use Rattle.rx_cert_rules.specs.Verdicts.{AreScopes}
use Rattle.rx_cert.specs.Shapes.{shape_of}

-- the lines of a function
pub record LeastLines (D : List Decl) (P : ℕ → List Bound) (f : TypedFn) (ls : List Line) : Type 0 where
  pub regions : Sets
  pub least : AreLeast (context_of D P f) (sites_of f) regions
  pub scopes : ℕ → ℕ → Bool
  pub in_scope : AreScopes (context_of D P f) (sites_of f) regions scopes
  pub lines : ArePushed (shape_of D f) regions scopes ls

-- those of all functions
abbrev pub AllLeast : List Decl → (ℕ → List Bound) → List TypedFn → List Line → Type 0
AllLeast D P [] ls = ls ≡ []
AllLeast D P (f ∷ fs) ls = (us : List Line) × (vs : List Line) × (ls ≡ us ++ vs) × LeastLines D P f us × AllLeast D P fs vs

-- the bytes of a typed program with its text
pub record IsWritten (t : Typed) (text bytes : List ℕ) : Type 0 where
  pub implied : ℕ → List Bound
  pub asked : AreAsked t.decls.items implied
  pub lines : List Line
  pub least : AllLeast t.decls.items implied t.functions lines
  pub written : bytes ≡ certificate_text lines text

-- the bytes are the certificate of the text, which is accepted
pub record IsCertificateOf (text bytes : List ℕ) : Type 0 where
  pub program : ProgramTree
  pub parses : Parses text program
  pub typed : Typed
  pub accepted : IsAccepted program typed
  pub is : IsWritten typed text bytes
