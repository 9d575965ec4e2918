-- The tables of the sites of a marked tree are those of what is asked of, where that has this tree, this run, these loops and these types.
use Rattle.std.proofs.Common.{◌≡◌, ℕ, List, [], Result, Ok, Err, IfOk, ap, sym, ◌∙◌, subst}
use Rattle.std.specs.declared.alloc.AllocError.{AllocError}
use Rattle.rx_typed.specs.Tree.{Function}
use Rattle.rx_lower_walks.specs.Graph.{Site}
use Rattle.rx_lower_walks.specs.Pieces.{graph}
use Rattle.rx_lower_walks.proofs.Sites.{reached}
use Rattle.rx_facts_tables.specs.Tracking.{Reached}
use Rattle.rx_facts_tables.specs.Places as places
use Rattle.rx_facts_tables.specs.declared.frames.Frame.{Frame}
use Rattle.rx_facts_tables.specs.Layouts.{plain-Frame}
use Rattle.rx_exits_plan.specs.Runs.{Run}
use Rattle.rx_exits_plan.specs.Marked.{marked}
use Rattle.rx_exits_plan.specs.Asked.{Asked}
use Rattle.rx_exits.specs.declared.run_points.RunPoints.{RunPoints}
use Rattle.rx_exits.specs.Points.{marked_sites, ArePoints, IsPoints}

settled_at : (f : Function) (r : Run) (loops : List ℕ) (F : Frame) (g : List Site) (p : RunPoints) → g ≡ graph (marked r loops [] f) → p.frame ≡ F
    → (Reached g → ArePoints (plain-Frame F) g p) → (A : Asked) → A.function ≡ f → A.run ≡ r → A.home.around.loops ≡ loops → A.frame ≡ plain-Frame F → IsPoints A p
settled_at f r loops F g p e frame tables A ef er el eF = record {
  frame = eF ∙ ap plain-Frame (sym frame);
  tables = subst (λ (G : places.Frame). ArePoints G (marked_sites A []) p) (sym eF) (subst (λ l. ArePoints (plain-Frame F) l p) same (tables all));
} where
  all : Reached g
  all = subst (λ l. Reached l) (sym e) (λ q less. reached (marked r loops [] f) q less)

  same : g ≡ marked_sites A []
  same = e ∙ ap (λ (x : Run). graph (marked x loops [] f)) (sym er) ∙ ap (λ ls. graph (marked A.run ls [] f)) (sym el)
      ∙ ap (λ (h : Function). graph (marked A.run A.home.around.loops [] h)) (sym ef)

pub settled : (f : Function) (r : Run) (loops : List ℕ) (F : Frame) (g : List Site) (made : Result RunPoints AllocError) → g ≡ graph (marked r loops [] f)
    → IfOk made (λ p. p.frame ≡ F) → IfOk made (λ p. Reached g → ArePoints (plain-Frame F) g p)
    → IfOk made (λ p. (A : Asked) → A.function ≡ f → A.run ≡ r → A.home.around.loops ≡ loops → A.frame ≡ plain-Frame F → IsPoints A p)
settled f r loops F g (Err x) e frame tables = tt
settled f r loops F g (Ok p) e frame tables = settled_at f r loops F g p e frame tables
