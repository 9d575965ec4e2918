-- The end of a run as the code makes it (Rust Reference, "Block expressions", "let statements", "Tuple expressions"): texts
-- where some are put, and the tail of the new function.
use Rattle.std.specs.Prelude.{◌≡◌, ℕ, List, [], ◌∷◌, ◌++◌, map, Option, Some, None, option_map, codes, ⊤}
use Rattle.rx_core.specs.declared.types.Span.{Span}
use Rattle.rx_tree.specs.Plain as plain
use Rattle.rx_tree.specs.Plain.{OptionalExpression, ProgramTree}
use Rattle.rx_tree.specs.PlainOf.{plain-Expr, optional_of}
use Rattle.rx_typed.specs.Types.{Typ}
use Rattle.rx_print_spelling.specs.Pieces.{Piece, flat, mark, keyword, identifier, space}
use Rattle.rx_print_spelling.specs.Types.{written_type}
use Rattle.rx_hoist_extraction.specs.Names.{Names}
use Rattle.rx_hoist_extraction.specs.Plan.{to_next, Plan, outs_of, names_of}
use Rattle.rx_hoist_extraction.specs.Fresh.{fresh_variable}
use Rattle.rx_hoist_extraction.specs.Made.{joined}
use Rattle.rx_hoist_extraction.specs.WrittenTypes.{elided}
use Rattle.rx_splice_laws.specs.RunEnd as ends
use Rattle.rx_splice_edits.specs.declared.run_end.RunEnd as code

-- ---- a text is put where there are pieces

abbrev pub IsPut : Option (List ℕ) → List Piece → Type 0
IsPut None [] = ⊤
IsPut None (p ∷ ps) = ⊥
IsPut (Some t) [] = ⊥
IsPut (Some t) (p ∷ ps) = t ≡ flat (p ∷ ps)

abbrev pub IsEnd : code.RunEnd → ends.RunEnd → Type 0
IsEnd c e = IsPut c.before e.before × IsPut c.behind e.behind × (optional_of (option_map plain-Expr c.tail) ≡ e.tail)

-- ---- a run with a value

-- what is handed out where its end is reached
abbrev pub next_names : Plan → Names
next_names pl = names_of (outs_of to_next pl.exits)

-- `let out_0: T = `
abbrev pub let_pieces : ProgramTree → Plan → Span → Typ → List Piece
let_pieces P pl r t =
    keyword (codes "let") ∷ space ∷ identifier (fresh_variable pl.identifiers 0)
    ∷ (written_type (elided P r t) ++ (space ∷ mark (codes "=") ∷ space ∷ []))

-- the tuple of out_0 and these
abbrev pub out_tuple : Plan → Span → Names → OptionalExpression
out_tuple pl r xs = joined r (plain.var r (fresh_variable pl.identifiers 0) ∷ map (plain.var r) xs)

-- the value in a tuple with these
abbrev pub let_end : ProgramTree → Plan → Span → Typ → Names → ends.RunEnd
let_end P pl r t xs = record { before = let_pieces P pl r t; behind = mark (codes ";") ∷ []; tail = out_tuple pl r xs }

-- ---- a run without

-- where the run has this tail, and the new function the other
abbrev pub followed_by : OptionalExpression → OptionalExpression → ends.RunEnd
followed_by plain.absent y = record { before = []; behind = []; tail = y }
followed_by (plain.present e) y = ends.with_semicolon y
