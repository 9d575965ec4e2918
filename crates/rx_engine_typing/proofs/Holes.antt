-- Where nothing else stands for anything.
use Rattle.std.specs.Prelude.{ℕ}
use Rattle.rx_engine_blocks.specs.Renumbering.{Renumbering}
use Rattle.rx_engine_blocks.specs.DemandsLike.{NoSpecial}
use Rattle.rx_engine_typing.specs.Renumbered.{no_holes}
use Rattle.rx_engine_typing.proofs.Looks.{Fits}
use Rattle.rx_engine_typing.proofs.Forms.{Asks}

pub no_fits : (r : Renumbering) (loops : ℕ → ℕ) → Fits r loops no_holes NoSpecial
no_fits r loops = record {
  node = λ e e' h. absurd h;
  place = λ e e' h. absurd h;
  root = λ e e' h. absurd h;
  diverges = λ e e' h. absurd h;
  never = λ e e' h. absurd h;
  uses = λ x m k h. absurd h;
  block_node = λ b b' h. absurd h;
  block_diverges = λ b b' h. absurd h;
  block_never = λ b b' h. absurd h;
}

pub no_asks : (r : Renumbering) (loops : ℕ → ℕ) → Asks r loops no_holes NoSpecial
no_asks r loops = record { asks = λ f e e' ds ds' h d. absurd h; block_asks = λ f b b' ds ds' h d. absurd h; given_asks = λ f n p s t x m d e e' k h. absurd k }
