-- A run with its block's tail that diverges by its plan never goes on by its form: some statement of it, or the tail.
use Rattle.std.proofs.Common.{◌≡◌, ◌⊎◌, inl, inr, ℕ, ◌==◌, Bool, true, false, List, Some, None, if◌then◌else◌, sym, true≢false}
use Rattle.rx_typed.specs.Tree as tree
use Rattle.rx_typed.specs.Tree.{Exp, Body}
use Rattle.rx_exits_plan.specs.Blocks.{statements, tail, written_tail}
use Rattle.rx_exits_plan.specs.Runs.{Run, Home, Sits, inside}
use Rattle.rx_exits_plan.specs.Spots.{outermost}
use Rattle.rx_exits_plan.specs.Points.{Point}
use Rattle.rx_exits_plan.specs.Changed.{changed}
use Rattle.rx_exits_plan.specs.Diverging.{diverges, any_diverges, value_diverges, run_diverges}
use Rattle.rx_engine_simulation.specs.Endings.{a_marked}
use Rattle.rx_engine_related.specs.Running.{passing}
use Rattle.rx_engine_related.specs.Never.{NeverEnds, first_never, last_never}
use Rattle.rx_engine_related.specs.Stretched.{stretch_of}
use Rattle.rx_engine_validated.proofs.Forms.{TestsStay, BodyStays, one_true, never_if, passed_if}
use Rattle.rx_engine_validated.proofs.Marked.{with_marks, still_never, passed_still}
use Rattle.rx_engine_validated.proofs.Spotted.{blocks_stay, statements_of_block, behind_first, first_ones}

-- the last statement or the tail
tail_stays : (b : Body) → BodyStays b → TestsStay (tail b)
tail_stays (tree.ends e) h = h
tail_stays (tree.runs e b) h = tail_stays b h.1
tail_stays (tree.declares s xs b) h = tail_stays b h
tail_stays (tree.lets s p c b) h = tail_stays b h.1

written_stays : (n : ℕ) (e : Exp) → TestsStay e → TestsStay (written_tail n e)
written_stays n (tree.give m e) h = by (m.node == n)
  where
    by : (b : Bool) → TestsStay (if b then e else tree.give m e)
    by true = h
    by false = h
written_stays n (tree.read m v p) h = h
written_stays n (tree.borrow m k p) h = h
written_stays n (tree.share m e) h = h
written_stays n (tree.build m w es) h = h
written_stays n (tree.unit m) h = h
written_stays n (tree.lazily m b e f) h = h
written_stays n (tree.assign m p e) h = h
written_stays n (tree.update m o p e) h = h
written_stays n (tree.call m f es) h = h
written_stays n (tree.input m) h = h
written_stays n (tree.print m e) h = h
written_stays n (tree.block m b) h = h
written_stays n (tree.choose m c l) h = h
written_stays n (tree.loop m l e) h = h
written_stays n (tree.jump m l again) h = h

its_value : (t : Bool) (e : Exp) → t ≡ true → value_diverges (if t then Some e else None) ≡ true → diverges e ≡ true
its_value true e h d = d
its_value false e h d = absurd (true≢false (sym h))

pub marked_tail_never_ends : (g : tree.Function) → TestsStay g.body → (r : Run) (h : Home) → Sits g r h → r.tail ≡ true → run_diverges r h.body ≡ true
    → (ls : List ℕ) (q : Point) → NeverEnds (a_marked (changed (passing ls) (written_tail r.block (tail h.body))) q) (stretch_of (with_marks ls (inside r h.body)))
marked_tail_never_ends g stays r h sits whole d ls q = by (one_true (any_diverges (inside r h.body)) (value_diverges (if r.tail then Some (written_tail r.block (tail h.body)) else None)) d)
  where
    of_body : BodyStays h.body
    of_body = blocks_stay (outermost g) g.body stays h.around r.block h.body sits.block

    by : (any_diverges (inside r h.body) ≡ true) ⊎ (value_diverges (if r.tail then Some (written_tail r.block (tail h.body)) else None) ≡ true)
        → NeverEnds (a_marked (changed (passing ls) (written_tail r.block (tail h.body))) q) (stretch_of (with_marks ls (inside r h.body)))
    by (inl e) = first_never (passed_still ls (inside r h.body) (passed_if (inside r h.body) (first_ones r.count _ (behind_first r.first (statements h.body) (statements_of_block h.body of_body))) e))
    by (inr e) = last_never (still_never ls (never_if (written_tail r.block (tail h.body)) (written_stays r.block (tail h.body) (tail_stays h.body of_body)) (its_value r.tail (written_tail r.block (tail h.body)) whole e)))
