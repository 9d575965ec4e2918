-- A part in which each literal without a suffix has i32 in the text is typed as the text is, whatever else is fixed.
use Rattle.std.proofs.Common.{◌≡◌, ℕ, List, sym, ap, ◌∙◌, subst}
use Rattle.rx_core.specs.declared.types.Kind.{Kind}
use Rattle.rx_typed.specs.Types.{integer, peeled}
use Rattle.rx_typeck_solver.specs.declared.facts.Subject.{Subject}
use Rattle.rx_typeck_solver.specs.declared.facts.Subject.TheVariants as subject
use Rattle.rx_typeck_solver.specs.declared.facts.Demand.{Demand}
use Rattle.rx_typeck_solver.specs.Facts.{Assignment, KnownItems}
use Rattle.rx_typeck_solver.specs.Valid.{IsIn, Told, Valid, literals_of}
use Rattle.rx_typeck_solver.specs.Ordered.{Orderly}
use Rattle.rx_engine_blocks.specs.Renumbering.{Renumbering, shape_at, subject_at}
use Rattle.rx_engine_blocks.specs.Along.{PartialInverse, Viewed, shared, composed}
use Rattle.rx_engine_blocks.specs.Blocks.{Behind, Block, task_of}
use Rattle.rx_engine_blocks.proofs.Meets.{peeled_at}
use Rattle.rx_engine_blocks.proofs.Outlines.{composed_sees, tests_met}
use Rattle.rx_engine_blocks.proofs.Viewing.{peeled_shared}

module _ (r : Renumbering) (u : PartialInverse r) (view : Viewed) (behind : Behind) (IsFixed : Subject → Type 0) (D E : KnownItems) (A V : Assignment) (ds es : List Demand) where
  abbrev A' : Assignment
  A' = composed r u view A V

  kind_there : (m n : ℕ) → r.nodes m ≡ n → peeled (A (subject.Node m)) ≡ integer Kind.I32 → peeled (A' (subject.Node n)) ≡ integer Kind.I32
  kind_there m n e h = subst (λ k. peeled (A' (subject.Node k)) ≡ integer Kind.I32) e
      (ap peeled (composed_sees r u view A V (subject.Node m)) ∙ peeled_shared (view (subject.Node m)) (shape_at r (A (subject.Node m))) ∙ peeled_at r (A (subject.Node m)) ∙ ap (shape_at r) h)

  pub signed_alike : Orderly (task_of es) → Block r u view behind IsFixed D E A V ds es → ((m : ℕ) → IsIn m (literals_of ds) → IsIn (r.nodes m) (literals_of es) → peeled (A (subject.Node m)) ≡ integer Kind.I32)
      → Valid D (task_of ds) A → Valid E (task_of es) V → (x : Subject) → Told es (subject_at r x) → V (subject_at r x) ≡ shared (view x) (shape_at r (A x))
  signed_alike o b i32 v w x t =
      let met = tests_met E es o.ordered V w.prefers.typed A' (b.there v.prefers.typed w.prefers.typed) in
      w.only_one A' (record {
        typed = met;
        prefers = λ n p. let l = b.literal n p.literal in kind_there l.0 n l.2 (i32 l.0 l.1 (subst (λ k. IsIn k (literals_of es)) (sym l.2) p.literal));
      }) (subject_at r x) t ∙ composed_sees r u view A V x
