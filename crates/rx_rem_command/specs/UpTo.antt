-- Where the answer of one run is up to that of another: it is the same, or it is cut off on the way there.
use Rattle.std.specs.Prelude.{ℕ, ◌≡◌, ◌⊎◌, List}
use Rattle.rx_meaning.specs.Programs.{IsFront}
use Rattle.rx_rem_command.specs.declared.status.Status.{Status}
use Rattle.rx_rem_command.specs.declared.status.Status.TheVariants.{StillRunning}

-- a status, what is printed, and the line
abbrev pub AreSame : Status → List ℕ → List ℕ → Status → List ℕ → List ℕ → Type 0
AreSame s out err t printed line = (s ≡ t) × (out ≡ printed) × (err ≡ line)

abbrev pub IsUpTo : Status → List ℕ → List ℕ → Status → List ℕ → List ℕ → Type 0
IsUpTo s out err t printed line = AreSame s out err t printed line ⊎ ((s ≡ StillRunning) × IsFront out printed)
