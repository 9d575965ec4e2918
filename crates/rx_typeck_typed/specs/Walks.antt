-- What the code's variables with types are, and what it ensures of parts of a pattern.
use Rattle.std.specs.Prelude.{◌≡◌, ℕ, List, ◌++◌, map, Result, Ok, Err}
use Rattle.rx_tree.specs.Plain.{ProgramTree}
use Rattle.rx_tree.specs.PlainOf.{plain-Item}
use Rattle.rx_typed.specs.declared.declarations.Decl.{Decl}
use Rattle.rx_typed.specs.Regions.{RegionTyp, region-Ty}
use Rattle.rx_typed.specs.Naming.{Cursor, Numbering}
use Rattle.rx_typeck_typed.specs.declared.lets.Lets.{Lets}
use Rattle.rx_typeck_typed.specs.declared.variables.AnnotatedVariable.{AnnotatedVariable}

abbrev pub plain-Variable : AnnotatedVariable → ℕ × RegionTyp
plain-Variable x = (x.variable, region-Ty x.ty)

-- the declarations, and the program
abbrev pub declared : Lets → List Decl
declared l = l.decls.now.items

abbrev pub program : Lets → ProgramTree
program l = map plain-Item l.items.now

-- unless memory fails the part is numbered, and its variables stand behind those before
abbrev pub Adds : {A B E : Type 0} → Numbering A → (A → List (ℕ × RegionTyp)) → Cursor → List AnnotatedVariable → Result B E → Cursor → List AnnotatedVariable → Type 0
Adds number binds c all (Ok b) c1 new = (map plain-Variable new ≡ map plain-Variable all ++ binds (number c).0) × (c1 ≡ (number c).1)
Adds number binds c all (Err e) c1 new = Unit {0}
