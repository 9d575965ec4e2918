-- The function with the call by one numbering.
use Rattle.std.proofs.Common.{◌≡◌, ℕ, true, false}
use Rattle.rx_core.specs.declared.types.Span.{Span}
use Rattle.rx_tree.specs.Lists.{statements}
use Rattle.rx_tree.specs.Plain.{Function, ProgramTree}
use Rattle.rx_resolve_names.specs.declared.resolved.ItemNames.{ItemNames}
use Rattle.rx_hoist_extraction.specs.Run.{goes_past, run_block, Run}
use Rattle.rx_hoist_extraction.specs.Plan.{Plan}
use Rattle.rx_engine_names.specs.Insertion.{number_there, Inserted}
use Rattle.rx_engine_names.specs.HandedOut.{Handing}
use Rattle.rx_engine_names.specs.CalledRuns.{LikeCalled, LikeCalledLast, RunStands}
use Rattle.rx_engine_typing.specs.Renumbered.{no_holes}
use Rattle.rx_engine_names.specs.HandsOver.{told_handed, told_last}
use Rattle.rx_engine_names.specs.Placed.{inside_of}
use Rattle.rx_engine_changed.specs.Called.{BothCome, BothEnd, CallIsNumbered, EndIsNumbered}
use Rattle.rx_engine_changed.specs.Chosen.{least}
use Rattle.rx_engine_changed.specs.Round.{as_mutable}
use Rattle.rx_engine_changed.proofs.CalledFunctions.{called_beside, called_last_beside}
use Rattle.rx_engine_changed.proofs.GoingOn.{end_goes_on, run_goes_on}
use Rattle.rx_engine_changed.proofs.Once.{by_one_numbering}
use Rattle.rx_engine_changed.proofs.Pieces.{least_serves, one_to_one}

module _ (p q : ProgramTree) (c : Inserted p q) (n m : ℕ) (s : Span) (f : Function) (r : Run) (pl : Plan) (G : Handing) (t : ItemNames) (stands : RunStands r pl f) (e : number_there c n ≡ m) where
  pub call_numbered : goes_past r (statements (run_block r f)) ≡ false → LikeCalled p q c n m s f r pl G t → CallIsNumbered p q c n m s f r pl G t
  call_numbered past h = record {
    tables = h.0;
    resolves = h.1;
    made = h.2;
    numbered = λ a b d g asked given.
        let v = h.3 a b in let l = h.4 d g in
        by_one_numbering (number_there c) h.2 _ _ _ _ a b d g v.0 v.1 l.0 l.1 _ _ _ _
        (called_beside p q n m s f r pl G stands (least (number_there c) h.2) (one_to_one (number_there c) h.2 _ _ _ _ a b d g v.0 v.1 l.0 l.1) t.names h.0.names e (λ x. no_holes) (λ x. tt) past (run_goes_on (least (number_there c) h.2) as_mutable (told_handed G) (inside_of p n s f) (inside_of q m s f) (BothCome p s f r pl t.names h.0.names) _ _ _ asked)
        (h.6 (least (number_there c) h.2) (least_serves (number_there c) h.2 _ _ _ _ a b d g (h.5))) given);
  }

  pub end_numbered : goes_past r (statements (run_block r f)) ≡ true → LikeCalledLast p q c n m s f r pl G t → EndIsNumbered p q c n m s f r pl G t
  end_numbered past h = record {
    tables = h.0;
    resolves = h.1;
    made = h.2;
    numbered = λ a b d g asked given.
        let v = h.3 a b in let l = h.4 d g in
        by_one_numbering (number_there c) h.2 _ _ _ _ a b d g v.0 v.1 l.0 l.1 _ _ _ _
        (called_last_beside p q n m s f r pl G stands (least (number_there c) h.2) (one_to_one (number_there c) h.2 _ _ _ _ a b d g v.0 v.1 l.0 l.1) t.names h.0.names e (λ x. no_holes) (λ x. tt) past (end_goes_on (least (number_there c) h.2) as_mutable (told_last G) (inside_of p n s f) (inside_of q m s f) (BothEnd p s f r pl t.names h.0.names) _ _ _ _ _ asked)
        (h.6 (least (number_there c) h.2) (least_serves (number_there c) h.2 _ _ _ _ a b d g (h.5))) given);
  }
