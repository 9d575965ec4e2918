-- What is left behind the first statements of two blocks, as what the code finds stands for it.
use Rattle.std.specs.Prelude.{ℕ, List, Option}
use Rattle.rx_typed.specs.Tree.{Pattern, Scrutinee, Body}
use Rattle.rx_engine_simulation.specs.Sights.{Renaming}
use Rattle.rx_engine_simulation.specs.Jumps as jumps
use Rattle.rx_engine_alike.specs.Likeness.{if_so, is_alike}
use Rattle.rx_engine_alike.specs.Patterns.{like_bindings}
use Rattle.rx_engine_alike.specs.Forms as forms
use Rattle.rx_engine_alike.specs.Forms.{like_let, way_of_let}
use Rattle.rx_engine_alike.specs.PlainSights.{plain-Renaming}
use Rattle.rx_engine_alike.specs.PlainJumping.{plain-Jumping}
use Rattle.rx_engine_alike.specs.PlainParts.{plain-Part}
use Rattle.rx_engine_alike.specs.PlainLikeness.{plain-Between}
use Rattle.rx_engine_alike.specs.declared.sights.Seen.{Seen}
use Rattle.rx_engine_alike.specs.declared.jumping.Jumping.{Jumping}
use Rattle.rx_engine_alike.specs.declared.between.Between.{Between}
use Rattle.rx_engine_extracted.specs.Stretches as stretches
use Rattle.rx_engine_extracted.specs.Stretches.{like_first}
use Rattle.rx_engine_extracted.specs.declared.stretches.Passed.{Passed}

abbrev pub passed_in : Renaming → Passed → stretches.Passed
passed_in R p = record { inside = R; text = plain-Part p.text; answer = plain-Part p.answer }

abbrev pub first_alike : Between → Jumping → ℕ → List Seen → Body → Body → Option stretches.Passed
first_alike b j n R s t = like_first (plain-Between b) (plain-Jumping b.ways.elsewhere j) n (plain-Renaming R) s t

-- `let`s match alike, and bind alike: the variables then
abbrev pub lets_alike : forms.Between → jumps.Jumping → Renaming → Pattern → Scrutinee → Pattern → Scrutinee → Option Renaming
lets_alike C J R q c q' c' = if_so (is_alike (like_let C J R c q' c')) (like_bindings C.ways (way_of_let R c q' c') R q q')
