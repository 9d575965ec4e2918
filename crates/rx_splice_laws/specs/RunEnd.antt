-- What becomes of the end of a run in the text of the new function (Rust Reference, "Block expressions", "Expression statements"):
-- what is put round its tail, or behind its last token, and the tail of the new function behind it.
use Rattle.std.specs.Prelude.{Bool, true, false, if◌then◌else◌, List, [], ◌∷◌, ◌++◌, Option, Some, codes}
use Rattle.rx_core.specs.declared.types.Span.{Span}
use Rattle.rx_tree.specs.Plain as plain
use Rattle.rx_tree.specs.Plain.{OptionalExpression, Statement, ProgramTree}
use Rattle.rx_typed.specs.Types.{Typ}
use Rattle.rx_print_spelling.specs.Pieces.{Piece, mark, keyword, identifier, space}
use Rattle.rx_print_spelling.specs.Types.{written_type}
use Rattle.rx_hoist_extraction.specs.Names.{Names}
use Rattle.rx_hoist_extraction.specs.Run.{Parts}
use Rattle.rx_hoist_extraction.specs.Plan.{to_next, Plan, outs_of, has_enum, names_of, enum_name, exit_name}
use Rattle.rx_hoist_extraction.specs.Fresh.{fresh_variable}
use Rattle.rx_hoist_extraction.specs.Made.{joined}
use Rattle.rx_hoist_extraction.specs.WrittenTypes.{elided}
use Rattle.rx_hoist_extraction.specs.NewBody.{handing_on, is_followed, stays_last, next_outs}

pub record RunEnd : Type 0 where
  -- directly before the tail's first token
  pub before : List Piece
  -- directly behind the run's last token
  pub behind : List Piece
  pub tail : OptionalExpression

abbrev pub as_it_is : RunEnd
as_it_is = record { before = []; behind = []; tail = plain.absent }

-- it becomes a statement
abbrev pub with_semicolon : OptionalExpression → RunEnd
with_semicolon o = record { before = []; behind = mark (codes ";") ∷ []; tail = o }

-- ---- a run with a value

abbrev pub more_outs : Names → List Piece
more_outs [] = []
more_outs (x ∷ xs) = mark (codes ",") ∷ space ∷ identifier x ∷ more_outs xs

-- `Exit_NAME::Next(e, outs)`
abbrev pub in_variant : Plan → RunEnd
in_variant pl = record {
  before = identifier (enum_name pl) ∷ mark (codes "::") ∷ identifier (exit_name to_next) ∷ mark (codes "(") ∷ [];
  behind = more_outs (names_of (outs_of to_next pl.exits)) ++ mark (codes ")") ∷ [];
  tail = plain.absent;
}

-- `let out_0: T = e;`, and the tuple with the outs behind it; without outs it stays the tail
abbrev pub in_tuple : ProgramTree → Plan → Span → Typ → Names → RunEnd
in_tuple P pl r t [] = as_it_is
in_tuple P pl r t (x ∷ xs) = record {
  before = keyword (codes "let") ∷ space ∷ identifier (fresh_variable pl.identifiers 0)
      ∷ (written_type (elided P r t) ++ (space ∷ mark (codes "=") ∷ space ∷ []));
  behind = mark (codes ";") ∷ [];
  tail = joined r (plain.var r (fresh_variable pl.identifiers 0) ∷ next_outs pl r);
}

abbrev pub with_value : ProgramTree → Plan → Span → Typ → RunEnd
with_value P pl r t = if has_enum pl.exits then in_variant pl else in_tuple P pl r t (names_of (outs_of to_next pl.exits))

-- ---- a run without

-- whether the last of them has no `;`
abbrev pub is_open : List Statement → Bool
is_open [] = false
is_open (plain.expression_statement s e false ∷ []) = true
is_open (a ∷ []) = false
is_open (a ∷ b ∷ ss) = is_open (b ∷ ss)

abbrev pub followed : Plan → Span → OptionalExpression → RunEnd
followed pl r plain.absent = record as_it_is { tail = handing_on pl r (next_outs pl r) }
followed pl r (plain.present e) = with_semicolon (handing_on pl r (next_outs pl r))

-- a last statement without `;` becomes the tail, unless it stays a statement
abbrev pub unfollowed : Plan → List Statement → OptionalExpression → RunEnd
unfollowed pl ss plain.absent = if stays_last pl then (if is_open ss then with_semicolon plain.absent else as_it_is) else as_it_is
unfollowed pl ss (plain.present e) = as_it_is

abbrev pub without_value : Plan → Span → List Statement → OptionalExpression → RunEnd
without_value pl r ss o = if is_followed pl (next_outs pl r) then followed pl r o else unfollowed pl ss o

-- ---- the whole

abbrev pub end_by : ProgramTree → Plan → Span → Option Typ → List Statement → OptionalExpression → RunEnd
end_by P pl r (Some t) ss (plain.present e) = with_value P pl r t
end_by P pl r _ ss o = without_value pl r ss o

abbrev pub end_of : ProgramTree → Plan → Span → Parts → RunEnd
end_of P pl r p = end_by P pl r pl.value p.statements p.tail
