-- What an entry of names says to a walk, and what is known of a place in the text.
use Rattle.std.specs.Prelude.{ℕ, Bool, List, []}
use Rattle.rx_tree.specs.PlainOf.{plain-Pattern, plain-TypeText}
use Rattle.rx_typed.specs.Naming as naming
use Rattle.rx_typed.specs.Naming.{Cursor, first, second}
use Rattle.rx_typeck_elaborate_parts.specs.declared.cursor.Annotation.{Annotation}
use Rattle.rx_typeck_elaborate_parts.specs.declared.cursor.Entry.{Entry}
use Rattle.rx_typeck_elaborate_parts.specs.declared.cursor.Mark.{Mark}

abbrev pub entry_of : List ℕ × Bool → Entry
entry_of ns = record { first = first ns.0; second = second ns.0; hidden = ns.1 }

-- a `let` with a type, plainly
abbrev pub plain_annotation : Annotation → naming.Annotation
plain_annotation a = record { pattern = plain-Pattern a.pattern.now; typ = plain-TypeText a.typ.now; variable = a.variable; names = a.names.now }

-- a cursor that numbers what is behind a mark, and knows nothing before it
abbrev pub marked : Mark → Cursor
marked m = record { number = m.number; spans = []; loops = []; declared = m.declared; variables = []; names = m.names.now; annotations = [] }

unfoldable pub left_at : Cursor → Cursor
left_at c = record { number = c.number; spans = []; loops = []; declared = c.declared; variables = []; names = c.names; annotations = [] }

-- a cursor in front of the pattern of a `let`
abbrev pub in_front : naming.Annotation → Cursor
in_front a = record { number = 0; spans = []; loops = []; declared = a.variable; variables = []; names = a.names; annotations = [] }
