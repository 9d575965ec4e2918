-- What is known of a run that is selected in a text, put together.
use Rattle.std.proofs.Common.{◌≡◌, ℕ, ◌+◌, List, [], Some, Ok, subst, arith}
use Rattle.rx_core.specs.declared.types.Span.{Span}
use Rattle.rx_tree.specs.Lists.{nth}
use Rattle.rx_tree.specs.Plain as plain
use Rattle.rx_tree.specs.Plain.{Body, Function, ProgramTree}
use Rattle.rx_tree.specs.Positions.{a_block, descend}
use Rattle.rx_lex.specs.Tok.{Tok}
use Rattle.rx_typed_runs.specs.declared.runs.RunPos.{RunPos}
use Rattle.rx_select.specs.OneText.{OneText}
use Rattle.rx_select.specs.RunOf.{RunOf}
use Rattle.rx_resolve_names.specs.declared.resolved.ItemNames.{ItemNames}
use Rattle.rx_resolve_names.specs.Items.{apart, in_item, in_items, in_program}
use Rattle.rx_hoist_naming.specs.NamesWords.{identifiers}
use Rattle.rx_hoist_extraction.specs.Run.{run_block, Run}
use Rattle.rx_hoist_extraction.specs.Plan.{Plan}
use Rattle.rx_hoist_extraction.specs.FreeName.{FreeName}
use Rattle.rx_hoist_extraction.specs.Pinned.{pinned_function}
use Rattle.rx_engine_names.specs.WrittenOut.{PinsName}
use Rattle.rx_engine_names.specs.KeptWays.{KeepsMaybe}
use Rattle.rx_engine_names.specs.SelectedRuns.{RunSelected}
use Rattle.rx_engine_names.proofs.SideBySide.{named_ok}
use Rattle.rx_engine_names.proofs.KeptItems.{keeps_itself}
use Rattle.rx_engine_names.proofs.PinnedFunctions.{pinned_function_alike}
use Rattle.rx_engine_names.proofs.NoCycles.{items_there}
use Rattle.rx_engine_names.proofs.FreeRuns.{names_are_free, run_stands}
use Rattle.rx_engine_names.proofs.KeptWays.{ways_kept}
use Rattle.rx_engine_names.proofs.ReachedRuns.{run_reached}

pub run_selected : (bytes : ℕ) (ts : List Tok) (p : ProgramTree) → OneText ts bytes p → (start end : ℕ) (pos : RunPos) → RunOf bytes ts p start end pos → (r : Run) → r.first ≡ pos.first → r.last ≡ pos.last
    → (s : Span) (f : Function) → nth p r.item ≡ Some (plain.function_item s f) → (b : Body) → descend (Some (a_block f.body)) r.way ≡ Some (a_block b)
    → (pl : Plan) → FreeName (identifiers ts) pl.name → PinsName p pl.pins → KeepsMaybe pl.pins (Some (a_block f.body)) r.way → (names : List ItemNames) → in_program p ≡ Ok names → RunSelected p r pl s f
run_selected bytes ts p x start end pos run r first last s f e b d pl free pins way names whole =
    let g = pinned_function p r.span pl.pins f in
    let items : in_items p 0 p ≡ Ok names = (named_ok (apart (record { types = []; functions = [] }) 0 p) (λ z. in_items p 0 p) names whole).2 in
    let t = items_there p 0 r.item p names (plain.function_item s f) items e in
    let comes : in_item p r.item (plain.function_item s f) ≡ Ok t.0 = let z : 0 + r.item ≡ r.item = omega arith in subst (λ n. in_item p n (plain.function_item s f) ≡ Ok t.0) z t.1 in
    let u = pinned_function_alike (λ k. k) p p (keeps_itself p) names whole r.span pl.pins pins r.item r.item s f t.0 comes in
    let w = ways_kept p r.span pl.pins f r.way b d way in
    let stands = run_stands bytes ts p x start end pos run r first last s f e pl free w.0 w.1 in
    record {
      free = names_are_free bytes ts p x pl free;
      text = t.0;
      text_resolves = comes;
      stands = stands;
      pinned = u.0;
      resolves = u.1;
      reached = run_reached p r.item s g u.0 u.1 r stands.forward (run_block r g) stands.alone.there;
    }
