-- A run that is copied into the new function (REM, "Extract function", control flow; Rust Reference, "Return expressions"): what is made there for a jump
-- out of the run, or for a return without a value, is a value that matches nothing; so is what is returned behind a unit that is bound.
use Rattle.std.specs.Prelude.{◌≡◌, ℕ, zero, suc, []}
use Rattle.rx_typed.specs.Elaborated.{value, Assigned}
use Rattle.rx_typed.specs.Named as named
use Rattle.rx_typed.specs.Named.{Exp}
use Rattle.rx_typeck_solver.specs.Facts.{Assignment, KnownItems}
use Rattle.rx_cover.specs.Choices.{choices}
use Rattle.rx_engine_blocks.specs.Along.{PartialInverse, Viewed}
use Rattle.rx_engine_blocks.specs.Blocks.{Behind}
use Rattle.rx_engine_blocks.specs.Renumbering.{Renumbering}
use Rattle.rx_engine_typing.specs.Renumbered.{Holes}
use Rattle.rx_engine_holes.specs.Returned.{ReturnedExp}
use Rattle.rx_engine_holes.specs.Special.{SpecialExp}

-- whichever its types
abbrev pub MatchesNothing : Exp → Type 0
MatchesNothing e = (T : Assigned) (n : ℕ) → choices n (value T e) ≡ []

-- by what stands in the text
abbrev pub QuietlyMade : Exp → Exp → Type 0
QuietlyMade (named.break n l) (named.return m (named.present e)) = MatchesNothing e
QuietlyMade (named.continue n l) (named.return m (named.present e)) = MatchesNothing e
QuietlyMade (named.return n named.absent) (named.return m (named.present e)) = MatchesNothing e
QuietlyMade (named.return n (named.present d)) (named.return m (named.present (named.block k (named.body i ss (named.present e))))) = MatchesNothing e
QuietlyMade d e = Unit {0}

module _ (r : Renumbering) (u : PartialInverse r) (view : Viewed) (behind : Behind) (D E : KnownItems) (A V : Assignment) (loops : ℕ → ℕ) (f : ℕ) where
  -- as `returned_holes` of rx_engine_holes
  abbrev pub quiet_holes : ℕ → Holes
  quiet_holes zero = record {
    expression = λ e e'. SpecialExp r u view behind A V e e' × QuietlyMade e e';
    block = λ b b'. ⊥;
    returns = ⊥;
    uses = λ x m k. k ≡ x.known;
    given_before = λ e e'. ⊥;
  }
  quiet_holes (suc k) = record {
    expression = λ e e'. ReturnedExp r u view D E A V loops f (quiet_holes k) e e' × QuietlyMade e e';
    block = λ b b'. ⊥;
    returns = ⊥;
    uses = λ x m k. k ≡ x.known;
    given_before = λ e e'. ⊥;
  }
