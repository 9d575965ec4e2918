-- The body of the new function resolves: its locals, the statements of the run, and the end.
use Rattle.std.proofs.Common.{◌≡◌, ℕ, List, [], ◌++◌, length, Ok, ap}
use Rattle.rx_tree.specs.Lists.{listed}
use Rattle.rx_tree.specs.Plain.{OptionalExpression, Body, Statement, ProgramTree}
use Rattle.rx_resolve_names.specs.Scopes.{Variables}
use Rattle.rx_resolve_names.specs.declared.resolved.ItemNames.{ItemNames}
use Rattle.rx_resolve_names.specs.declared.resolved.NodeNames.{NodeNames}
use Rattle.rx_resolve_names.specs.Meant.{number}
use Rattle.rx_resolve_names.specs.Steps.{Inside, child}
use Rattle.rx_resolve_names.specs.Names.{in_optional, in_statements, in_block}
use Rattle.rx_typed.specs.declared.nodes.Node.{Node}
use Rattle.rx_typed.specs.declared.nodes.Site.{Site}
use Rattle.rx_typed.specs.Named as named
use Rattle.rx_typed.specs.Named.{Else}
use Rattle.rx_typed.specs.Naming as numbering
use Rattle.rx_typed.specs.Naming.{Cursor, Numbering, give, of_optional, of_statements, of_body}
use Rattle.rx_hoist_extraction.specs.Run.{Parts, as_statements, block_of}
use Rattle.rx_hoist_extraction.specs.NewBody.{declared, behind_locals}
use Rattle.rx_engine_names.specs.Renaming.{Renaming, Made}
use Rattle.rx_engine_names.specs.Replaced.{joined}
use Rattle.rx_engine_names.specs.Moves.{Moves, StandsAt}
use Rattle.rx_engine_names.specs.NewBody.{LocalsFirst, IsNewBody, new_body_is}
use Rattle.rx_engine_names.proofs.SideBySide.{and_ok}
use Rattle.rx_engine_names.proofs.ReplacedBlocks.{past_all, join, numbered_in_a_row}
use Rattle.rx_engine_names.proofs.Alone.{Alone, alone_then, alone_map, alone_node, KindAlone, Makes, makes_then}
use Rattle.rx_engine_names.proofs.MadeRows.{alone_equal, makes_later, Row}
use Rattle.rx_engine_names.proofs.NewEnds.{of_parts, EndMade}
use Rattle.rx_engine_names.proofs.NewSignatures.{locals_behind}

-- the body of the new function, beside these statements and this tail of the text
abbrev pub BodyFor : Moves → Variables → ItemNames → List NodeNames → List Statement → OptionalExpression → Renaming → named.Body → Type 0
BodyFor V behind t es xs o R b = (k : Site) (c : Cursor) (rest : List NodeNames) → StandsAt t c → c.names ≡ es ++ rest
    → IsNewBody V (record V { scope = behind }) R (of_statements (as_statements xs) c).0 (of_optional k o (of_statements (as_statements xs) c).1).0 b

abbrev pub BodyAlone : (Renaming → named.Body → Type 0) → ItemNames → Body → KindAlone
BodyAlone S u b R u' es = (k : Site) → Alone (S R) u u' es (of_body k b)

-- statements, and behind them parts
abbrev with_parts : Node → List Statement → Parts → Site → Numbering named.Body
with_parts n xs p k = numbering.and_then (of_statements (as_statements xs)) (λ a. numbering.and_then (of_parts p k) (λ z. give (named.body n (joined a z.0) z.1)))

abbrev all_of : Node → List Statement → OptionalExpression → Site → Numbering named.Body
all_of n xs o k = numbering.and_then (of_statements (as_statements xs)) (λ ss. numbering.and_then (of_optional k o) (λ o. give (named.body n ss o)))

numbered_with : (n : Node) (xs : List Statement) (p : Parts) (k : Site) (c : Cursor) → all_of n (xs ++ p.statements) p.tail k c ≡ with_parts n xs p k c
numbered_with n xs p k c = ap (λ (z : named.Statements × Cursor). numbering.and_then (of_optional k p.tail) (λ o. give (named.body n z.0 o)) z.1) (numbered_in_a_row xs p.statements c)

module _ (items : ℕ → ℕ) (P : ProgramTree) (V : Moves) (I' : Inside) (start : Variables) (M : Made) (at' : List ℕ) (xs : List Statement) (o : OptionalExpression) (t t' : ItemNames) (behind sc : Variables) (u : ItemNames)
    (A : Row items M I' [] at' 0 sc u (declared P V.place V.plan.locals) start (λ R z. LocalsFirst V R named.no_statement (length V.plan.params) V.plan.locals z)) where
  abbrev locals : List Statement
  locals = declared P V.place V.plan.locals

  pub body_made : (p : Parts) → (E : EndMade items V I' start M at' (past_all 0 locals) (child at' (number (length (listed (as_statements (locals ++ p.statements)))))) A.table xs o t t' behind p)
      → Makes items E.made u (λ v. in_block I' sc [] at' (block_of V.place (behind_locals locals p)) u ≡ Ok v) (BodyAlone (BodyFor V behind t E.added xs o) u (block_of V.place (behind_locals locals p)))
  body_made p E =
      let B = makes_later E.grows A in
      let at2 = child at' (number (length (listed (as_statements (locals ++ p.statements))))) in
      makes_then B E.makes
      (λ x y. and_ok (in_statements I' sc [] at' 0 (as_statements (locals ++ p.statements)) u) y.0 (λ r. in_optional I' r.scope [] at2 p.tail r.tables) (Ok E.makes.table)
      (join I' sc [] at' 0 locals p.statements u (record { scope = start; tables = A.table }) y.0 x y.1) y.2)
      (λ R sv N O k. alone_node V.place k (λ n g. alone_equal (with_parts n locals p k) (all_of n (locals ++ p.statements) p.tail k) (numbered_with n locals p k)
      (alone_then N (λ a h. alone_map {T = BodyFor V behind t E.added xs o R} (λ z. named.body n (joined a z.0) z.1) (O k) (λ z e. λ k1 c rest q f. new_body_is g (e k1 c rest q f) (locals_behind V R (length V.plan.params) V.plan.locals z.0 h))))))
