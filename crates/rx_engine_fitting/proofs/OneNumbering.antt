-- The function with the call by one numbering, whether or not the run goes to its block's end.
use Rattle.std.proofs.Common.{◌≡◌, ℕ, Bool, true, false}
use Rattle.rx_core.specs.declared.types.Span.{Span}
use Rattle.rx_tree.specs.Lists.{statements}
use Rattle.rx_tree.specs.Plain.{Function, ProgramTree}
use Rattle.rx_resolve_names.specs.declared.resolved.ItemNames.{ItemNames}
use Rattle.rx_hoist_extraction.specs.Plan.{Plan}
use Rattle.rx_hoist_extraction.specs.Run.{goes_past, run_block, Run}
use Rattle.rx_engine_names.specs.CalledRuns.{LikeCalled, LikeCalledLast, RunStands}
use Rattle.rx_engine_names.specs.Extractions.{goes_to_end, handing_there, Called}
use Rattle.rx_engine_names.specs.HandedOut.{Handing}
use Rattle.rx_engine_names.specs.Insertion.{number_there, Inserted}
use Rattle.rx_engine_changed.specs.Called.{CallIsNumbered, EndIsNumbered, IsNumbered}

module _ (within : (p q : ProgramTree) (c : Inserted p q) (n m : ℕ) (s : Span) (f : Function) (r : Run) (pl : Plan) (G : Handing) (t : ItemNames) → RunStands r pl f → number_there c n ≡ m → goes_past r (statements (run_block r f)) ≡ false → LikeCalled p q c n m s f r pl G t → CallIsNumbered p q c n m s f r pl G t)
    (at_the_end : (p q : ProgramTree) (c : Inserted p q) (n m : ℕ) (s : Span) (f : Function) (r : Run) (pl : Plan) (G : Handing) (t : ItemNames) → RunStands r pl f → number_there c n ≡ m → goes_past r (statements (run_block r f)) ≡ true → LikeCalledLast p q c n m s f r pl G t → EndIsNumbered p q c n m s f r pl G t)
    (p q : ProgramTree) (c : Inserted p q) (s : Span) (f : Function) (r : Run) (pl : Plan) (t : ItemNames) (stands : RunStands r pl f) (here : number_there c r.item ≡ r.item) where
  pub numbered : (b : Bool) → goes_to_end r f ≡ b → Called b p q c s f r pl t → IsNumbered b p q c r.item r.item s f r pl (handing_there r pl f) t
  numbered false e h = within p q c r.item r.item s f r pl (handing_there r pl f) t stands here e h
  numbered true e h = at_the_end p q c r.item r.item s f r pl (handing_there r pl f) t stands here e h
