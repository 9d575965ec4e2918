-- What is told one behind another: bytes and histories, by recursion on what was told first.
use Rattle.std.proofs.Common.{◌≡◌, ℕ, List, [], ◌∷◌, ◌++◌, refl, ap, sym, ◌∙◌, append_assoc}
use Rattle.rx_lower_walks.specs.Actions.{Action}
use Rattle.rx_meaning.specs.Programs.{IsFront}
use Rattle.rx_meaning.proofs.Told as told
pub use Rattle.rx_meaning.specs.Telling.{Told, says, did, said, saying}
unfoldable pub use Rattle.rx_meaning.specs.Telling.{noted}
pub use Rattle.rx_meaning.proofs.Told.{said_append}
pub use Rattle.rx_engine_simulation.specs.Followed.{followed, onto}

pub onto_append : (u v : List (Told ℕ)) (h : List Action) → onto (u ++ v) h ≡ onto v (onto u h)
onto_append [] v h = refl
onto_append (says b ∷ u) v h = onto_append u v h
onto_append (did a ∷ u) v h = onto_append u v (a ∷ h)

pub said_saying : (w : List ℕ) → said (saying w) ≡ w
said_saying w = sym (told.said_saying w)

pub onto_saying : (w : List ℕ) (h : List Action) → onto (saying w) h ≡ h
onto_saying [] h = refl
onto_saying (b ∷ w) h = onto_saying w h

pub front_said : (u v : List (Told ℕ)) → IsFront u v → IsFront (said u) (said v)
front_said u v h = (said h.0, ap said h.1 ∙ said_append u h.0)

pub front_trans : {A : Type 0} (u v w : List A) → IsFront u v → IsFront v w → IsFront u w
front_trans u v w h k = (h.0 ++ k.0, k.1 ∙ ap (λ l. l ++ k.0) h.1 ∙ append_assoc u h.0 k.0)
