-- The text's run is followed: its bytes and its actions are told, and the actions make a history of its activation.
use Rattle.std.specs.Prelude.{ℕ, List, [], ◌∷◌}
use Rattle.rx_lower_walks.specs.Actions.{Action}
use Rattle.rx_meaning.specs.Acting.{Acting, plainly}
use Rattle.rx_meaning.specs.Telling.{Told, says, did, fully}

abbrev pub followed : Acting (Told ℕ)
followed = fully plainly

-- what was done, put on a history, the newest action first
abbrev pub onto : List (Told ℕ) → List Action → List Action
onto [] h = h
onto (says b ∷ w) h = onto w h
onto (did a ∷ w) h = onto w (a ∷ h)
