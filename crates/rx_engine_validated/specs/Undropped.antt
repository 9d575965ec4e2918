-- An answer's program, or the one in which the run's block gives what the call gives, where the answer drops it and gives the unit (Rust Reference,
-- "Block expressions"): of a new function that is declared to give the unit.
use Rattle.std.specs.Prelude.{◌≡◌, true}
use Rattle.rx_meaning.specs.Programs.{Program}
use Rattle.rx_engine_extracted.specs.Told.{Told}
use Rattle.rx_engine_dropped.specs.Undrops.{UndropsProgram}

pub data Undropped (T : Told) (Q : Program) : Program → Type 0 where
  as_it_is : Undropped T Q Q
  undropped : {R : Program} → T.gives_unit ≡ true → UndropsProgram T.new.number Q R → Undropped T Q R
