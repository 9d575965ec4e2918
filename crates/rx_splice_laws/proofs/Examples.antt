-- Small texts, computed.
use Rattle.std.specs.Prelude.{◌≡◌, ℕ, ◌==◌, Bool, true, false, if◌then◌else◌, List, [], ◌∷◌, ◌++◌, Some, None, codes}
use Rattle.std.proofs.Common.{refl}
use Rattle.rx_core.specs.declared.types.Span.{Span}
use Rattle.rx_core.specs.declared.types.Kind.TheVariants.{U64}
use Rattle.rx_tree.specs.declared.tree.BinaryOp.TheVariants as op
use Rattle.rx_tree.specs.Plain as plain
use Rattle.rx_tree.specs.Plain.{Statement}
use Rattle.rx_lex.specs.declared.token.Class.{Class}
use Rattle.rx_lex.specs.declared.token.Class.TheVariants.{Identifier, Keyword, Number, Mark}
use Rattle.rx_lex.specs.Tok.{Tok}
use Rattle.rx_splice_laws.specs.Edits.{spliced}
use Rattle.rx_splice_laws.specs.EditsOf.{statement_edits}
use Rattle.rx_splice_laws.specs.Indent.{reindented, indent_at}
use Rattle.rx_splice_laws.specs.Moving.{Moving, run_edits}

abbrev at : ℕ → ℕ → Span
at a b = record { start = a; end = b }

abbrev tok : Class → ℕ → ℕ → List ℕ → Tok
tok c a b w = record { class = c; span = at a b; text = w }

abbrev moving : Bool → Moving
moving u = record {
  span = at 0 0;
  stars = codes "x" ∷ [];
  enum = codes "Exit_g";
  break_leaves = λ ls l. None;
  continue_leaves = λ ls l. None;
  unit = u;
  out_0 = codes "out_0";
  kind = λ s. if s.start == 12 then Some U64 else None;
  typ = λ p. None;
}

abbrev first_tokens : List Tok
first_tokens = tok Identifier 0 1 (codes "a") ∷ tok Mark 1 2 (codes "=") ∷ tok Identifier 2 3 (codes "x") ∷ tok Mark 3 4 (codes ".") ∷ tok Identifier 4 5 (codes "f") ∷ tok Mark 5 6 (codes "/") ∷ tok Identifier 6 7 (codes "x") ∷ tok Mark 7 8 (codes "+") ∷ tok Identifier 8 9 (codes "g") ∷ tok Mark 9 10 (codes "(") ∷ tok Identifier 10 11 (codes "x") ∷ tok Mark 11 12 (codes ",") ∷ tok Number 12 13 (codes "1") ∷ tok Mark 13 14 (codes ")") ∷ tok Mark 14 15 (codes ";") ∷ []

-- `a=x.f/x+g(x,1);`
abbrev first : Statement
first = plain.expression_statement (at 0 15) (plain.assign (at 0 14) (plain.var (at 0 1) (codes "a"))
    (plain.binary (at 2 14) op.Add (plain.binary (at 2 7) op.Div (plain.field (at 2 5) (plain.var (at 2 3) (codes "x")) (record { span = at 4 5; name = codes "f" })) (plain.var (at 6 7) (codes "x")))
    (plain.call (at 8 14) (record { span = at 8 9; name = codes "g" }) (plain.expression_and (plain.var (at 10 11) (codes "x")) (plain.expression_and (plain.int (at 12 13) 1 None) plain.no_expression))))) true

pub first_spliced : spliced 0 (codes "a=x.f/x+g(x,1);") (statement_edits (run_edits (moving false) first_tokens) [] [] first) ≡ codes "a=(*x).f/(*x)+g(*x,1u64);"
first_spliced = refl

abbrev second_tokens : List Tok
second_tokens = tok Keyword 0 6 (codes "return") ∷ tok Mark 6 7 (codes "(") ∷ tok Identifier 7 8 (codes "x") ∷ tok Mark 8 9 (codes ")") ∷ tok Mark 9 10 (codes ";") ∷ []

-- `return(x);`
abbrev second : Statement
second = plain.expression_statement (at 0 10) (plain.return (at 0 9) (plain.present (plain.var (at 7 8) (codes "x")))) true

pub second_spliced : spliced 0 (codes "return(x);") (statement_edits (run_edits (moving false) second_tokens) [] [] second) ≡ codes "return Exit_g::Return((*x));"
second_spliced = refl

pub unit_spliced : spliced 0 (codes "return(x);") (statement_edits (run_edits (moving true) second_tokens) [] [] second) ≡ codes "return { let out_0: () = (*x); Exit_g::Return };"
unit_spliced = refl

-- lines with the indent, without it, and blank ones
pub lines_moved : reindented (9 ∷ []) (codes "a" ++ (10 ∷ 9 ∷ 9 ∷ (codes "b" ++ (10 ∷ (codes "c" ++ (10 ∷ 10 ∷ 9 ∷ codes "d"))))))
    ≡ codes "a" ++ (10 ∷ 32 ∷ 32 ∷ 32 ∷ 32 ∷ 9 ∷ (codes "b" ++ (10 ∷ (codes "c" ++ (10 ∷ 10 ∷ 32 ∷ 32 ∷ 32 ∷ 32 ∷ codes "d")))))
lines_moved = refl

pub indents : indent_at (codes "x" ++ (10 ∷ 32 ∷ 9 ∷ codes "run")) 4 ≡ 32 ∷ 9 ∷ []
indents = refl

pub no_indent : indent_at (codes "x" ++ (10 ∷ 32 ∷ codes "/**/run")) 7 ≡ []
no_indent = refl
