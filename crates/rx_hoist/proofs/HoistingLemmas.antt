-- What is made, by its parts.
use Rattle.std.proofs.Common.{◌≡◌, ℕ, List, [], ◌∷◌, ◌++◌, map, Option, Some, ap, ap₂, ◌∙◌}
use Rattle.std.proofs.lemmas.List.{map-append}
use Rattle.rx_core.specs.declared.types.Span.{Span}
use Rattle.rx_tree.specs.declared.tree.Ident.{Ident}
use Rattle.rx_tree.specs.declared.tree.Item.{Item}
use Rattle.rx_tree.specs.Plain.{Body, Function, ItemTree, ProgramTree}
use Rattle.rx_tree.specs.PlainOf.{plain-Item}
use Rattle.rx_tree.specs.Positions.{a_block, descend}
use Rattle.rx_hoist_extraction.specs.Run.{Run, labels_on}
use Rattle.rx_hoist_extraction.specs.Plan.{Plan}
use Rattle.rx_hoist.specs.Sites.{block_or}
use Rattle.rx_hoist.specs.Hoisting.{block_in, items_in, items_of, no_block, with_items}
use Rattle.rx_hoist.proofs.PlaceLemmas.{block_there}

-- ---- items

pub items_all : (all held items : List Item) (new : Item) (first old n : ItemTree) (es : ProgramTree) → map plain-Item items ≡ first ∷ es → first ≡ old → held ≡ items → all ≡ held ++ new ∷ [] → plain-Item new ≡ n
    → map plain-Item all ≡ (old ∷ es) ++ n ∷ []
items_all all held items new first old n es some changed same whole made =
    ap (map plain-Item) (whole ∙ ap (λ l. l ++ new ∷ []) same) ∙ map-append plain-Item items (new ∷ []) ∙ ap₂ (λ xs x. xs ++ x ∷ []) (some ∙ ap (λ f. f ∷ es) changed) made

-- ---- where the run stands

pub block_placed : (r : Run) (b other block : Body) (way : List ℕ) → other ≡ no_block → way ≡ r.way → block ≡ block_or other (descend (Some (a_block b)) way) → block ≡ block_in r b
block_placed r b other block way nothing same is =
    is ∙ ap (λ o. block_or o (descend (Some (a_block b)) way)) nothing ∙ ap (λ w. block_or no_block (descend (Some (a_block b)) w)) same ∙ block_there (descend (Some (a_block b)) r.way)

pub program_placed : (P Q : ProgramTree) (r : Run) (pl : Plan) (labels : List (Option Ident)) (block b : Body) (s : Span) (f : Function) → labels ≡ labels_on (Some (a_block b)) r.way [] → block ≡ block_in r b
    → Q ≡ with_items P r.item (items_of P r pl labels block b s f) → Q ≡ with_items P r.item (items_in P r pl b s f)
program_placed P Q r pl labels block b s f named placed is =
    is ∙ ap (λ ls. with_items P r.item (items_of P r pl ls block b s f)) named ∙ ap (λ x. with_items P r.item (items_of P r pl (labels_on (Some (a_block b)) r.way []) x b s f)) placed
