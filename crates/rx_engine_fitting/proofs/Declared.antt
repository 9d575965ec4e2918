-- Each function of a typed program but that of the run has a valid assignment in its extraction.
use Rattle.std.proofs.Common.{◌≡◌, ℕ, ◌+◌, List, [], Option, Some, Ok, slice_get, sym, ap, ◌∙◌, subst, arith}
use Rattle.rx_core.specs.declared.types.Span.{Span}
use Rattle.rx_tree.specs.Lists.{nth}
use Rattle.rx_tree.specs.Plain as plain
use Rattle.rx_tree.specs.Plain.{Function, ItemTree, ProgramTree}
use Rattle.rx_resolve_names.specs.declared.resolved.ItemNames.{ItemNames}
use Rattle.rx_resolve_names.specs.declared.resolved.NodeNames.{NodeNames}
use Rattle.rx_resolve_names.specs.Items.{in_item, in_items, in_program, apart}
use Rattle.rx_typed.specs.Naming.{function_named}
use Rattle.rx_typeck_solver.specs.Facts.{KnownItems, Assignment}
use Rattle.rx_typeck_solver.specs.Ordered.{Orderly}
use Rattle.rx_typeck_solver.specs.Stepping.{known}
use Rattle.rx_typeck_solver.specs.Valid.{Valid}
use Rattle.rx_typeck_typed.specs.Demands.{task}
use Rattle.rx_typeck_typed.specs.declared.typed.Typed.{Typed}
use Rattle.rx_typeck_typed.specs.Typing.{entries, variables_at, Given, FunctionTyped, IsTyped}
use Rattle.rx_hoist_naming.proofs.Programs.{table_at}
use Rattle.rx_hoist_extraction.specs.Run.{Run}
use Rattle.rx_hoist_extraction.specs.Plan.{Bounds, Plan}
use Rattle.rx_hoist_extraction.specs.Extraction.{added, extraction}
use Rattle.rx_engine_names.specs.NewNames.{AreFree}
use Rattle.rx_engine_names.specs.Insertion.{past, number_there, Inserted}
use Rattle.rx_engine_names.proofs.SideBySide.{named_ok}
use Rattle.rx_engine_names.proofs.ExtractionItems.{extraction_inserted, function_inserted, numbers_there}
use Rattle.rx_engine_blocks.specs.Along.{renumbered_types}
use Rattle.rx_engine_blocks.specs.Knows.{Knows}
use Rattle.rx_engine_validated.specs.Kept.{kept}
use Rattle.rx_engine_validated.proofs.Entries.{item_stays}
use Rattle.rx_engine_fitting.proofs.KeptTypes.{stays_typed, numbers_back, typed_at}

module _ (orderly : (i : ℕ) (s : Span) (f : Function) (ns : List NodeNames) → Orderly (task (function_named i s f ns))) (P : ProgramTree) (r : Run) (pl : Plan) (bs : Bounds) (place : Span) (g : Function)
    (there : nth P r.item ≡ Some (plain.function_item place g)) (free : AreFree P pl) (ns ms : List ItemNames) (n : in_program P ≡ Ok ns) (m : in_program (extraction P r pl bs) ≡ Ok ms) (t : Typed) (a : IsTyped P ns t)
    (E : KnownItems) (k : Knows (kept (number_there (extraction_inserted P r pl bs place g there free))) (known a.declared a.sizes) E) where
  abbrev Q : ProgramTree
  Q = extraction P r pl bs

  abbrev c : Inserted P Q
  c = extraction_inserted P r pl bs place g there free

  abbrev G : Given
  G = record { program = P; declared = a.declared; sizes = a.sizes }

  -- the items that stay
  pub item_same : (j : ℕ) → (j ≡ r.item → ⊥) → slice_get Q (past r.item (added pl) j) ≡ slice_get P j
  item_same j other =
      ap (slice_get Q) (sym (numbers_there P r pl bs place g there free j))
      ∙ ap (λ (p : ProgramTree). slice_get p (number_there c j)) c.second
      ∙ item_stays c.before c.new c.behind (plain.function_item c.place c.old) (plain.function_item c.place c.changed) j (λ e. other (e ∙ (function_inserted P r pl bs place g there free).3))
      ∙ ap (λ (p : ProgramTree). slice_get p j) (sym c.first)

  abbrev StaysTyped : Span → Function → ℕ → Type 0
  StaysTyped s f j = (slice_get Q j ≡ Some (plain.function_item s f)) × (A : Assignment) × Valid E (task (function_named j s f (entries (slice_get ms j)))) A

  pub typed_stays : (j : ℕ) (s : Span) (f : Function) → slice_get P j ≡ Some (plain.function_item s f) → (j ≡ r.item → ⊥) → StaysTyped s f (past r.item (added pl) j)
  typed_stays j s f at other =
      let i = plain.function_item s f in
      let l = number_there c j in
      let here : slice_get Q l ≡ Some i = ap (slice_get Q) (numbers_there P r pl bs place g there free j) ∙ item_same j other ∙ at in
      let T = table_at P 0 P ns j i (named_ok (apart (record { types = []; functions = [] }) 0 P) (λ _. in_items P 0 P) ns n).2 at in
      let U = table_at Q 0 Q ms l i (named_ok (apart (record { types = []; functions = [] }) 0 Q) (λ _. in_items Q 0 Q) ms m).2 here in
      let zero : 0 + j ≡ j = omega arith in
      let none : 0 + l ≡ l = omega arith in
      let x = typed_at G ns 0 P t.functions j s f a.functions at in
      let h : FunctionTyped G j s f T.table.names T.table.vars x.0 =
      subst (λ (o : Option ItemNames). FunctionTyped G j s f (entries o) (variables_at o) x.0) T.stands (subst (λ (b : ℕ). FunctionTyped G b s f (entries (slice_get ns b)) (variables_at (slice_get ns b)) x.0) zero x.1) in
      let y = stays_typed orderly P Q c j s f T.table U.table (subst (λ (b : ℕ). in_item P b i ≡ Ok T.table) zero T.named) (subst (λ (b : ℕ). in_item Q b i ≡ Ok U.table) none U.named) (known a.declared a.sizes) E k (numbers_back (number_there c)) h.types h.valid in
      let B = renumbered_types (kept (number_there c)) (numbers_back (number_there c)) h.types in
      subst (λ (b : ℕ). StaysTyped s f b) (numbers_there P r pl bs place g there free j)
      (here, B, subst (λ (o : Option ItemNames). Valid E (task (function_named l s f (entries o))) B) (sym U.stands) y)
