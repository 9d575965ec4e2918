-- Lifetimes that are found one after the other, each once (Rust Reference, "Generic parameters").
use Rattle.std.specs.Prelude.{if◌then◌else◌, List, [], ◌∷◌, ◌++◌, Option, Some, None}
use Rattle.rx_tree.specs.declared.tree.Ident.{Ident}
use Rattle.rx_tree.specs.Positions.{NodeTree}
use Rattle.rx_tree.specs.Nodes.{below}
use Rattle.rx_hoist_extraction.specs.Names.{is_among}
use Rattle.rx_hoist_extraction.specs.NewFunction.{lifetimes_listed}
use Rattle.rx_hoist_extraction.specs.OwnLifetimes.{idents}

abbrev pub with_one : List Ident → Ident → List Ident
with_one found l = if is_among l.name (idents found) then found else found ++ l ∷ []

abbrev pub with_all : List Ident → List Ident → List Ident
with_all found [] = found
with_all found (l ∷ ls) = with_all (with_one found l) ls

-- nodes, and all below each
abbrev pub joined : List NodeTree → List NodeTree
joined [] = []
joined (n ∷ ns) = (n ∷ below n) ++ joined ns

-- those of a list that is written
abbrev pub listed_if_any : Option (List (Option Ident)) → List Ident
listed_if_any None = []
listed_if_any (Some ls) = lifetimes_listed ls
