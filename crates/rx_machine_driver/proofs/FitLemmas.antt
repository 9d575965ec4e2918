-- Machines that stand for frames and states.
use Rattle.std.proofs.Common.{◌≡◌, ℕ, List, [], ◌∷◌, reverse, refl, sym, ap, arith}
use Rattle.rx_meaning.specs.Values.{State}
use Rattle.rx_machine_values.specs.PlainMemory.{plain-Memory}
use Rattle.rx_machine_frames.specs.Frames.{Around, hole, pass, call_from}
use Rattle.rx_machine_frames.specs.Sizes.{around_size, sizes}
use Rattle.rx_typed.specs.PlainTree.{plain-Mark, plain-Expr}
use Rattle.rx_machine_driver.specs.PlainSteps.{plain-Hole}
use Rattle.rx_machine_driver.specs.declared.data.Frame.{Frame}
use Rattle.rx_machine_driver.specs.declared.data.Frame.TheVariants as frame
use Rattle.rx_machine_driver.specs.declared.data.Machine.{Machine}
use Rattle.rx_machine_driver.specs.Fitting.{IsAround, AreAround, Fits}
use Rattle.rx_machine_driver.specs.Running.{frame_size, work_of}
use Rattle.rx_machine_driver.proofs.SlotLemmas.{list_told, tells_some}

-- ---- each machine stands for some

abbrev around_some : Frame → Around
around_some (frame.Hole h) = hole (plain-Hole h)
around_some (frame.Pass m l e) = pass (plain-Mark m.now) l (plain-Expr e.now)
around_some (frame.Call S) = call_from (record { item = 0; slots = list_told S })

is_around_some : (f : Frame) → IsAround f (around_some f)
is_around_some (frame.Hole h) = refl
is_around_some (frame.Pass m l e) = refl
is_around_some (frame.Call S) = tells_some S

abbrev all_some : List Frame → List Around
all_some [] = []
all_some (f ∷ fs) = around_some f ∷ all_some fs

are_around_some : (fs : List Frame) → AreAround fs (all_some fs)
are_around_some [] = tt
are_around_some (f ∷ fs) = (is_around_some f, are_around_some fs)

abbrev pub some_frames : Machine → List Around
some_frames m = all_some (reverse m.frames)

abbrev pub some_state : Machine → State
some_state m = record { memory = plain-Memory m.memory; frame = record { item = 0; slots = list_told m.slots }; input = m.input.now; turns = 0 }

pub fits_some : (m : Machine) → Fits m 0 (some_frames m) (some_state m)
fits_some m = record { memory = refl; slots = tells_some m.slots; input = refl; turns = refl; frames = are_around_some (reverse m.frames) }

-- ---- frames weigh what they stand for

weighs : (f : Frame) (a : Around) → IsAround f a → frame_size f ≡ around_size a
weighs (frame.Hole h) a e = sym (ap around_size e)
weighs (frame.Pass m l e) a i = sym (ap around_size i)
weighs (frame.Call S) (call_from F) e = refl
weighs (frame.Call S) (hole h) e = absurd e
weighs (frame.Call S) (pass m l i) e = absurd e

weigh : (fs : List Frame) (K : List Around) → AreAround fs K → work_of fs ≡ sizes K
weigh [] [] e = refl
weigh [] (a ∷ K) e = absurd e
weigh (f ∷ fs) [] e = absurd e
weigh (f ∷ fs) (a ∷ K) e = let x = weighs f a e.0 in let y = weigh fs K e.1 in omega (arith, x, y)

pub fits_weigh : (m : Machine) (t : ℕ) (K : List Around) (s : State) → Fits m t K s → work_of (reverse m.frames) ≡ sizes K
fits_weigh m t K s f = weigh (reverse m.frames) K f.frames
