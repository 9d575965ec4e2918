-- In the front of a part what comes from the text has the outlines of the text, whatever follows.
use Rattle.std.proofs.Common.{◌≡◌, List, [], ◌∷◌, ◌++◌, ap, ◌∙◌}
use Rattle.rx_typed.specs.Types.{outline}
use Rattle.rx_typeck_solver.specs.declared.facts.Subject.{Subject}
use Rattle.rx_typeck_solver.specs.declared.facts.Demand.{Demand}
use Rattle.rx_typeck_solver.specs.Facts.{Assignment, KnownItems, MeetsEach}
use Rattle.rx_typeck_solver.specs.Valid.{Told}
use Rattle.rx_typeck_solver.specs.Ordered.{Knowing, nothing, learns_all, Ordered}
use Rattle.rx_engine_blocks.specs.Renumbering.{Renumbering, shape_at, subject_at}
use Rattle.rx_engine_blocks.specs.Along.{PartialInverse, Viewed, shared, composed}
use Rattle.rx_engine_blocks.specs.Blocks.{Behind, Block}
use Rattle.rx_engine_blocks.proofs.Meets.{first}
use Rattle.rx_engine_blocks.proofs.Outlines.{composed_sees, outline_told}

ordered_front : (K : Knowing) (xs ys : List Demand) → Ordered K (xs ++ ys) → Ordered K xs
ordered_front K [] ys h = tt
ordered_front K (x ∷ xs) ys h = (h.0, ordered_front (learns_all K x.facts) xs ys h.1)

pub front_outlined : (r : Renumbering) (u : PartialInverse r) (view : Viewed) (behind : Behind) (IsFixed : Subject → Type 0) (D E : KnownItems) (A V : Assignment) (gs front rest : List Demand)
    → Block r u view behind IsFixed D E A V gs front → Ordered nothing (front ++ rest) → MeetsEach D A gs → MeetsEach E V (front ++ rest)
    → (x : Subject) → Told front (subject_at r x) → outline (V (subject_at r x)) ≡ outline (shared (view x) (shape_at r (A x)))
front_outlined r u view behind IsFixed D E A V gs front rest b o a v x t =
    let w = (first E V front rest v).0 in
    outline_told E front (ordered_front nothing front rest o) V w (composed r u view A V) (b.there a w) (subject_at r x) t ∙ ap outline (composed_sees r u view A V x)
