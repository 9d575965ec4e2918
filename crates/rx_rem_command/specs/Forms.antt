-- What the words of the command line ask for, by their position.
use Rattle.std.specs.Prelude.{ℕ, ℤ, if◌then◌else◌, List, [], ◌∷◌, Option, Some, None, codes}
use Rattle.rx_core.specs.Bytes.{same_bytes}
use Rattle.rx_rem_command.specs.Numbers.{number_of, count_of, integers_of}

-- which of the modes that the uses of a variable allow is taken: the first or the last, so a copy or a reference
pub data Preference : Type 0 where
  by_copy : Preference
  by_reference : Preference

-- what may be asked for
pub data Command : Type 0 where
  -- a name, two numbers, and how variables are passed where their uses leave that open
  extracts : List ℕ → ℕ → ℕ → Preference → Command
  checks : Command
  -- the certificate of a text, and whether a certificate is good for its text
  certifies : Command
  verifies : Command
  -- the text with a short signature of the function of a name
  compacts : List ℕ → Command
  -- a number of turns, and the input of the program
  runs : ℕ → List ℤ → Command
  -- a number of functions of a text that is made
  generates : ℕ → Command

abbrev pub preference_of : List ℕ → Option Preference
preference_of word = if same_bytes word (codes "copy") then Some by_copy else (if same_bytes word (codes "ref") then Some by_reference else None)

abbrev pub extracts_of : List ℕ → Option ℕ → Option ℕ → Option Preference → Option Command
extracts_of name (Some start) (Some end) (Some w) = Some (extracts name start end w)
extracts_of name _ _ _ = None

abbrev pub runs_of : Option ℕ → Option (List ℤ) → Option Command
runs_of (Some turns) (Some input) = Some (runs turns input)
runs_of _ _ = None

abbrev pub generates_of : Option ℕ → Option Command
generates_of (Some n) = Some (generates n)
generates_of None = None

-- a command behind whose verb no word stands
abbrev pub alone_of : Command → List (List ℕ) → Option Command
alone_of command [] = Some command
alone_of command _ = None

-- what the words behind `extract`, `compact`, `run` and `gen` ask for
abbrev pub extract_of : List (List ℕ) → Option Command
extract_of (name ∷ start ∷ end ∷ []) = extracts_of name (number_of start) (number_of end) (Some by_copy)
extract_of (name ∷ start ∷ end ∷ word ∷ []) = extracts_of name (number_of start) (number_of end) (preference_of word)
extract_of _ = None

abbrev pub compact_of : List (List ℕ) → Option Command
compact_of (name ∷ []) = Some (compacts name)
compact_of _ = None

abbrev pub run_of : List (List ℕ) → Option Command
run_of (turns ∷ numbers) = runs_of (number_of turns) (integers_of numbers)
run_of _ = None

abbrev pub generate_of : List (List ℕ) → Option Command
generate_of (n ∷ []) = generates_of (count_of n)
generate_of _ = None

abbrev pub command_of : List (List ℕ) → Option Command
command_of [] = None
command_of (verb ∷ words) =
    if same_bytes verb (codes "check") then alone_of checks words
    else (if same_bytes verb (codes "extract") then extract_of words
    else (if same_bytes verb (codes "run") then run_of words
    else (if same_bytes verb (codes "gen") then generate_of words
    else (if same_bytes verb (codes "certify") then alone_of certifies words
    else (if same_bytes verb (codes "verify") then alone_of verifies words
    else (if same_bytes verb (codes "compact") then compact_of words else None))))))

-- they ask for something of a text, which is read
abbrev pub Reads : Option Command → Type 0
Reads None = ⊥
Reads (Some (generates n)) = ⊥
Reads (Some command) = Unit {0}

-- how many bytes are read for them at most
abbrev pub most_bytes : Option Command → ℕ
most_bytes (Some verifies) = 16777216
most_bytes _ = 1048576
