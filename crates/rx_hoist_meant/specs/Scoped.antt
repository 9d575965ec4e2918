-- A block of the text in the typed tree of its function, by its number, in the scope of the tree (Rust Reference, "Block expressions",
-- "Scopes"): the typed block is elaborated from the block's tree with numbers, which stands in just the variables and loops that the typed
-- tree has there.
use Rattle.std.specs.Prelude.{◌≡◌, ◌⊎◌, ℕ, List, [], ◌∷◌, length, Option, Some}
use Rattle.rx_core.specs.declared.types.Span.{Span}
use Rattle.rx_tree.specs.declared.tree.Ident.{Ident}
use Rattle.rx_tree.specs.Plain as plain
use Rattle.rx_tree.specs.Positions.{an_item, a_block, descend}
use Rattle.rx_resolve_names.specs.Meant.{Around, number, firsts, lifetimes_declared}
use Rattle.rx_resolve_names.specs.Steps.{Inside}
use Rattle.rx_typed.specs.declared.nodes.Node.{Node}
use Rattle.rx_typed.specs.Named as named
use Rattle.rx_typed.specs.Named.{Else, Statements}
use Rattle.rx_typed.specs.Elaborated as elaborated
use Rattle.rx_typed.specs.Elaborated.{Assigned}
use Rattle.rx_typed.specs.Tree as tree
use Rattle.rx_typed.specs.PlainTree.{plain-TypedTree}
use Rattle.rx_typeck_typed.specs.declared.typed.TypedFn.{TypedFn}
use Rattle.rx_lower_walks.specs.Walks.{Among}
use Rattle.rx_exits_plan.specs.Spots as spots
use Rattle.rx_exits_plan.specs.Spots.{Spot, spots_of_function}
use Rattle.rx_hoist_extraction.specs.Run.{labels_on}
use Rattle.rx_hoist_nodes.specs.Nodes.{in_front}
use Rattle.rx_hoist_naming.specs.DeclaredNames.{declared_names}
use Rattle.rx_hoist_meant.specs.Stands.{loop_labels, loop_numbers, StandsBody}
use Rattle.rx_hoist_meant.specs.Placed.{PlacedBody}

-- no number stands twice
abbrev pub NoneTwice : List ℕ → Type 0
NoneTwice [] = Unit {0}
NoneTwice (n ∷ ns) = (Among n ns → ⊥) × NoneTwice ns

-- what stands round a part in the text and in the typed tree
pub record Alike (a : spots.Around) (vs : List ℕ) (ls : List Around) : Type 0 where
  pub scope : a.scope ≡ vs
  pub loops : a.loops ≡ loop_numbers ls
  pub apart : NoneTwice (loop_numbers ls)

-- the last value: the tail, which the body of a function hands to the caller at the block's own node
abbrev pub IsLast : Assigned → Node → Else → tree.Exp → Type 0
IsLast T n o e = (e ≡ elaborated.tail T n o) ⊎ (e ≡ tree.give (elaborated.no_mark n) (elaborated.tail T n o))

-- among these blocks and jumps, with loops of these labels round it
pub record ScopedBlock (I : Inside) (names : List (List ℕ)) (T : Assigned) (number : ℕ) (b : plain.Body) (l : List Spot) (labels : List (Option Ident)) : Type 0 where
  pub variables : List ℕ
  pub around : List Around
  pub behind : ℕ
  pub node : Node
  pub row : Statements
  pub end : Else
  pub stands : StandsBody I names variables around number behind b (named.body node row end)
  pub placed : PlacedBody (named.body node row end)
  pub last : tree.Exp
  pub is_last : IsLast T node end last
  pub there : spots.Around
  pub alike : Alike there variables around
  pub labels_are : loop_labels around ≡ labels
  pub among : Among (spots.a_block there number (elaborated.nested T row last)) l

-- of a function of a program: each block of its text, at the end of a way from its item; no other block has its number
pub record BlockScoped (p : plain.ProgramTree) (g : TypedFn) (s : Span) (f : plain.Function) : Type 0 where
  pub types : Assigned
  pub block : (path : List ℕ) (b : plain.Body) → descend (Some (an_item (plain.function_item s f))) path ≡ Some (a_block b)
      → ScopedBlock (record { program = p; item = number g.item; lifetimes = firsts [] 0 (lifetimes_declared (plain.function_item s f)) }) (declared_names (Some (plain.function_item s f))) types
      (length (in_front (Some (an_item (plain.function_item s f))) path)) b (spots_of_function (plain-TypedTree g.tree)) (labels_on (Some (an_item (plain.function_item s f))) path [])
  pub alone : (a c : spots.Around) (n : ℕ) (x y : tree.Body) → Among (spots.a_block a n x) (spots_of_function (plain-TypedTree g.tree)) → Among (spots.a_block c n y) (spots_of_function (plain-TypedTree g.tree)) → (a ≡ c) × (x ≡ y)
