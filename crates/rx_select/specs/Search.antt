-- How the run of a range is found: the places of the selected tokens, the statements of a block that begin and end there, and the nodes
-- that have them.
use Rattle.std.specs.Prelude.{◌≡◌, ℕ, ◌+◌, ◌-◌, nat_le, nat_lt, Bool, true, false, ◌&&◌, List, [], ◌∷◌, ◌++◌, Option, Some, None, if◌then◌else◌, map}
use Rattle.rx_core.specs.declared.types.Span.{Span}
use Rattle.rx_tree.specs.Plain as plain
use Rattle.rx_tree.specs.Plain.{OptionalExpression, Body, ItemTree}
use Rattle.rx_tree.specs.Lists.{listed, statement_span}
use Rattle.rx_tree.specs.Spans.{body_span, expression_span}
use Rattle.rx_tree.specs.Positions.{NodeTree, an_item, a_type, a_block, a_statement, an_expression, a_pattern}
use Rattle.rx_lex.specs.Tok.{Tok}
use Rattle.rx_select.specs.declared.places.Places.{Places}
use Rattle.rx_select.specs.Parts.{end_of, parts_of}

-- where the last token that ends by a place ends, and where the next one begins
abbrev pub front : ℕ → ℕ → List Tok → Option (ℕ × ℕ)
front S at [] = None
front S at (t ∷ ts) = if nat_le t.span.end S then front S t.span.end ts else Some (at, t.span.start)

-- where the last token that begins before a place ends, and where the next one begins
abbrev pub back : ℕ → ℕ → ℕ → List Tok → ℕ × ℕ
back E at length [] = (at, length)
back E at length (t ∷ ts) = if nat_lt t.span.start E then back E t.span.end length ts else (at, t.span.start)

abbrev pub places_of : ℕ → ℕ → Option (ℕ × ℕ) → ℕ × ℕ → Option Places
places_of S E None q = None
places_of S E (Some f) q =
    if nat_le S f.1 && (nat_lt f.1 q.0 && nat_le q.0 E) then Some (record { before = f.0; start = f.1; end = q.0; after = q.1 }) else None

-- the places of the tokens that a range selects, unless there is none or one is cut
abbrev pub places : ℕ → ℕ → ℕ → List Tok → Option Places
places S E length ts = places_of S E (front S 0 ts) (back E 0 length ts)

-- ---- in a block

abbrev pub begins_with : Places → Span → Bool
begins_with g s = nat_le g.before s.start && nat_le s.start g.start

abbrev pub ends_with : Places → Span → Bool
ends_with g s = nat_le g.end s.end && nat_le s.end g.after

abbrev pub beginning : Places → ℕ → List Span → Option ℕ
beginning g n [] = None
beginning g n (s ∷ ss) = if begins_with g s then Some n else beginning g (n + 1) ss

abbrev pub ending : Places → ℕ → List Span → Option ℕ
ending g n [] = None
ending g n (s ∷ ss) = if ends_with g s then Some n else ending g (n + 1) ss

abbrev pub between : Option ℕ → Option ℕ → Option (ℕ × ℕ)
between None j = None
between (Some i) None = None
between (Some i) (Some j) = if nat_le i j then Some (i, j) else None

-- the numbers of the first and the last statement
abbrev pub run_of : Places → List Span → Option (ℕ × ℕ)
run_of g ps = between (beginning g 0 ps) (ending g 0 ps)

abbrev pub node_run : Places → NodeTree → Option (ℕ × ℕ)
node_run g (a_block b) = run_of g (parts_of b)
node_run g _ = None

abbrev pub if_any : Option Span → List Span
if_any None = []
if_any (Some s) = s ∷ []

-- ---- nodes with blocks below

abbrev pub holds : Span → Places → Bool
holds s g = nat_le s.start g.start && nat_le g.end s.end

abbrev pub item_around : Places → ItemTree → Bool
item_around g (plain.function_item s f) = holds s g
item_around g _ = false

-- the node is none of those below which no block stands, and has the selected tokens
abbrev pub around : Places → NodeTree → Bool
around g (an_item i) = item_around g i
around g (a_type t) = false
around g (a_block b) = holds (body_span b) g
around g (a_statement a) = holds (statement_span a) g
around g (an_expression e) = holds (expression_span e) g
around g (a_pattern p) = false
