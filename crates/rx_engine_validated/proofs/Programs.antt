-- A function that stays in a program with new items.
use Rattle.std.proofs.Common.{◌≡◌, ℕ, List, Ok, refl, sym, subst, ◌∙◌}
use Rattle.rx_core.specs.declared.types.Span.{Span}
use Rattle.rx_tree.specs.Plain as plain
use Rattle.rx_tree.specs.Plain.{Function, ProgramTree}
use Rattle.rx_resolve_names.specs.declared.resolved.ItemNames.{ItemNames}
use Rattle.rx_resolve_names.specs.declared.resolved.NodeNames.{NodeNames}
use Rattle.rx_resolve_names.specs.Items.{in_item}
use Rattle.rx_typed.specs.Naming.{function_named}
use Rattle.rx_typed.specs.PlainTree.{plain-TypedTree}
use Rattle.rx_typeck_solver.specs.Ordered.{Orderly}
use Rattle.rx_typeck_typed.specs.Demands.{task}
use Rattle.rx_typeck_typed.specs.declared.typed.TypedFn.{TypedFn}
use Rattle.rx_typeck_typed.specs.Typing.{known_in, FunctionTyped, Given}
use Rattle.rx_engine_names.specs.Alike.{same_numbers}
use Rattle.rx_engine_names.specs.Insertion.{number_there, Inserted}
use Rattle.rx_engine_names.specs.LikeNamed as alike
use Rattle.rx_engine_names.proofs.KeptItems.{inserted_keeps}
use Rattle.rx_engine_names.proofs.KeptPrograms.{same_function}
use Rattle.rx_engine_blocks.specs.Knows.{Knows}
use Rattle.rx_engine_simulation.specs.Turns.{Allowance}
use Rattle.rx_engine_simulation.specs.Openings.{Openings}
use Rattle.rx_engine_simulation.specs.Programs.{LikeFunction}
use Rattle.rx_engine_typing.specs.Corresponding.{FieldsApart}
use Rattle.rx_engine_typing.proofs.Steps.{the_same, Few}
use Rattle.rx_engine_typing.proofs.ScopedFunctions.{item_scoped}
use Rattle.rx_engine_validated.specs.Kept.{kept}
use Rattle.rx_engine_validated.proofs.KeptFunctions.{function_kept}
use Rattle.rx_engine_validated.proofs.Staying.{staying_alike}

pub function_stays : ((i : ℕ) (s : Span) (f : Function) (ns : List NodeNames) → Orderly (task (function_named i s f ns)))
    → (p q : ProgramTree) (c : Inserted p q) (n : ℕ) (s : Span) (f : Function) (t u : ItemNames) → in_item p n (plain.function_item s f) ≡ Ok t → in_item q (number_there c n) (plain.function_item s f) ≡ Ok u → Few t
    → (G H : Given) → Knows (kept (number_there c)) (known_in G) (known_in H) → FieldsApart (known_in G).items
    → (vars ws : List Span) (g h : TypedFn) → FunctionTyped G n s f t.names vars g → FunctionTyped H (number_there c n) s f u.names ws h
    → (O : Openings) (gain : Allowance) → LikeFunction (number_there c) O gain (plain-TypedTree g.tree) (plain-TypedTree h.tree)
function_stays orderly p q c n s f t u e d few G H k fields vars ws g h a b O gain =
    let m = number_there c n in
    let x = same_function (number_there c) p q (inserted_keeps p q c) n m s f t e in
    let names = subst (λ (v : ItemNames). alike.LikeFunction alike.no_holes (same_numbers (number_there c)) (function_named n s f t.names) (function_named m s f v.names)) (the_same x.0 u (sym x.1 ∙ d)) x.2 in
    staying_alike orderly (number_there c) G H k n m s f t.names u.names vars ws g h a b (function_kept (number_there c) n m s f t.names u.names refl names) O gain fields (item_scoped p n n s f t e few)
