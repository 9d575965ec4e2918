-- What meets all conditions has an answer: its text, which is read back as the extraction.
use Rattle.std.proofs.Common.{ℕ, ◌<◌, List, refl, arith}
use Rattle.rx_engine_extraction.specs.Source.{Text, Wish}
use Rattle.rx_engine_extraction.specs.Case.{Case}
use Rattle.rx_engine_extraction.specs.Made.{run_of, named, named_bounds}
use Rattle.rx_engine_extraction.specs.Conditions.{Condition, legal, readable, confirmed}
use Rattle.rx_engine_extraction.specs.Meeting.{Holds}
use Rattle.rx_engine_extraction.specs.Promise.{Extracts, Keeps}
use Rattle.rx_engine_extraction.proofs.Orders.{number, earlier}
use Rattle.rx_engine_extraction.proofs.Rendered.{rendering_read}

module _ (bytes : List ℕ) (w : Wish) (x : Extracts bytes w) where
  abbrev T : Text
  T = x.text

  abbrev d : Case
  d = x.case

  held : (c : Condition) → number c < number confirmed → Holds T w d c
  held c l = (earlier (Holds T w d) c confirmed l x.stands).it

  pub kept : Keeps bytes w d.text d.bounds
  kept = let read = rendering_read T.bytes T.tokens T.program (run_of d.run) (named T w d) (named_bounds T w d) d.text (held readable (omega arith)) in record {
    extracts = x;
    rendered = refl;
    needed = refl;
    program = read.0;
    parses = read.1;
    same = read.2;
    accepted = held legal (omega arith);
  }
