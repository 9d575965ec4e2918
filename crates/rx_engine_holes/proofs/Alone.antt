-- A part into which a run of the text is copied has a valid assignment by itself, whatever becomes of what stands round the run in the text.
use Rattle.std.proofs.Common.{◌≡◌, List, [], ◌++◌, append-nil, sym, subst}
use Rattle.rx_typeck_solver.specs.declared.facts.Subject.{Subject}
use Rattle.rx_typeck_solver.specs.declared.facts.Demand.{Demand}
use Rattle.rx_typeck_solver.specs.Facts.{KnownItems, Assignment}
use Rattle.rx_typeck_solver.specs.Ordered.{Orderly}
use Rattle.rx_typeck_solver.specs.Valid.{Valid}
use Rattle.rx_engine_blocks.specs.Renumbering.{Renumbering}
use Rattle.rx_engine_blocks.specs.DemandsLike.{DemandsLike}
use Rattle.rx_engine_blocks.specs.Knows.{Knows}
use Rattle.rx_engine_blocks.specs.Along.{composed, MutableAt, PartialInverse, Viewed}
use Rattle.rx_engine_blocks.specs.Blocks.{task_of, AllReferences, Behind, Block, Fixes}
use Rattle.rx_engine_blocks.specs.ByItself.{ByItself}
use Rattle.rx_engine_blocks.specs.Copies.{EachCopies}
use Rattle.rx_engine_blocks.specs.Parts.{Added, StandsFor}
use Rattle.rx_engine_blocks.proofs.Blocking.{block_then}
use Rattle.rx_engine_blocks.proofs.Copying.{copied_block}
use Rattle.rx_engine_blocks.proofs.Meets.{first}
use Rattle.rx_engine_blocks.proofs.Same.{each_same}
use Rattle.rx_engine_blocks.proofs.Special.{added}
use Rattle.rx_engine_blocks.proofs.Split.{both_met, literal_left, literal_right}
use Rattle.rx_engine_blocks.proofs.Tying.{part_by_itself}
use Rattle.rx_engine_holes.specs.Named.{NamedIn}
use Rattle.rx_engine_holes.proofs.Naming.{each_about, named_left, named_right}

module _ (r : Renumbering) (u : PartialInverse r) (view : Viewed) (behind : Behind) (D E : KnownItems) (k : Knows r D E) (A V : Assignment) (front run back head copy end : List Demand) where
  -- what stands round the run
  abbrev P : Subject → Type 0
  P = NamedIn (front ++ back)

  abbrev B2 : List Demand → List Demand → Type 0
  B2 = Block r u view behind P D E A V

  inner_block : B2 run copy → Added (composed r u view A V) V head → Added (composed r u view A V) V end → B2 run (head ++ (copy ++ end))
  inner_block b h e = block_then r u view behind P D E A V [] head run (copy ++ end) (added r u view behind P D E k A V head h)
      (subst (λ (xs : List Demand). B2 xs (copy ++ end)) (append-nil run) (block_then r u view behind P D E A V run copy [] end b (added r u view behind P D E k A V end e)))

  whole_block : (es : List Demand) → B2 run es → B2 (front ++ (run ++ back)) es
  whole_block es b = record {
    there = λ h w. b.there (first D A run back (first D A front (run ++ back) h).1).0 w;
    back = λ B C t h w.
        let p = first D A front (run ++ back) h in let q = first D A run back p.1 in
        both_met D B front (run ++ back) (each_same D A B P t.settled front (each_about P front (λ x i. named_left front back x i)) p.0)
        (both_met D B run back (b.back B C t q.0 w) (each_same D A B P t.settled back (each_about P back (λ x i. named_right front back x i)) q.1));
    literal = λ n i. let m = b.literal n i in (m.0, literal_right front (run ++ back) m.0 (literal_left run back m.0 m.1), m.2);
  }

  pub copied_is_valid : (es : List Demand) → DemandsLike r (StandsFor r u view behind P D E A V es) run copy → es ≡ head ++ (copy ++ end) → Orderly (task_of es) → Valid D (task_of (front ++ (run ++ back))) A → AllReferences r u view behind E A es → MutableAt view A → EachCopies view A run
      → Fixes r view P E A es → ByItself r u view P E A V (front ++ (run ++ back)) es → Added (composed r u view A V) V head → Added (composed r u view A V) V end → Valid E (task_of es) V
  copied_is_valid es l is o v references views wells fixes itself h e =
      part_by_itself r u view behind P D E k A V (front ++ (run ++ back)) es references views o fixes
      (whole_block es (subst (λ (xs : List Demand). B2 run xs) (sym is) (inner_block (copied_block r u view behind P D E k A V views (StandsFor r u view behind P D E A V es) (λ gs gs' z. z.block) l wells) h e))) v itself
