-- The plain matches of those of the code.
use Rattle.std.specs.Prelude.{List, [], ◌∷◌, ◌++◌, map, Option, Some, None}
use Rattle.std.specs.Borrow.{Bor}
use Rattle.rx_core.specs.declared.types.Ty.{Ty}
use Rattle.rx_typed.specs.Types.{Typ}
use Rattle.rx_typed.specs.PlainTypes.{plain-Ty}
use Rattle.rx_typed.specs.Tree.{Pattern, Body, ends, unit}
use Rattle.rx_typed.specs.PlainTree.{plain-Pattern, plain-Arm, arms_of}
use Rattle.rx_cover.specs.declared.choices.Arms.{Arms}
use Rattle.rx_cover.specs.declared.choices.Choice.{Choice}
use Rattle.rx_cover.specs.Choices as plain
use Rattle.rx_cover.specs.Choices.{patterns_of, choices_within}

abbrev pub plain-Type : Option (Bor Ty) → Option Typ
plain-Type None = None
plain-Type (Some t) = Some (plain-Ty t.now)

abbrev pub plain-Arms : Arms → List Pattern
plain-Arms (Arms.Each l) = patterns_of (arms_of (map plain-Arm l.now))
plain-Arms (Arms.One p) = plain-Pattern p.now ∷ []

abbrev pub plain-Choice : Choice → plain.Choice
plain-Choice c = record { node = c.node; typ = plain-Type c.ty; arms = plain-Arms c.arms }

-- those of a statement, whatever follows it
abbrev pub stmt_choices : (Body → Body) → List plain.Choice
stmt_choices f = choices_within (f (ends (unit (record { node = 0; typ = None }))))

abbrev pub stmts_choices : List (Body → Body) → List plain.Choice
stmts_choices [] = []
stmts_choices (f ∷ fs) = stmt_choices f ++ stmts_choices fs
