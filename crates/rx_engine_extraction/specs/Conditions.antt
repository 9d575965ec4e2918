-- The conditions of an extraction, in order (REM, "Extract function").
use Rattle.std.specs.Prelude.{List, [], ◌∷◌}

pub data Condition : Type 0 where
  -- the range selects a run
  selects : Condition
  -- the name is an identifier; none that the text has, or that has a meaning
  word : Condition
  unused : Condition
  -- the run and each exit of it are reached; there is an exit
  reached : Condition
  left : Condition
  -- each variable of the run is wholly set or wholly unset where it is entered, and wholly set where it is handed out
  settled : Condition
  whole : Condition
  -- the names of what an exit hands out mean just that there
  visible : Condition
  -- each param can be passed; no borrowed variable would get other storage
  passable : Condition
  unmoved : Condition
  -- the new function's parameters and lifetimes, the levels of the text and of types, and the parts of types are within their limits
  few_parameters : Condition
  few_lifetimes : Condition
  few_levels : Condition
  few_parts : Condition
  -- the text of the program with the call has so few bytes that what is in it can be numbered
  few_numbers : Condition
  -- the passes up to initialisation accept the program with the call, whose graphs are within the limits
  fits : Condition
  few_sites : Condition
  few_positions : Condition
  -- they accept it with its bounds too, no pair is missing then, and no loan is met
  fits_bounded : Condition
  known : Condition
  legal : Condition
  -- the file's own bytes with the edits are read as the extraction, and within the limit
  readable : Condition
  few_bytes : Condition
  -- the program that it is read as is found to be the extraction
  confirmed : Condition

-- the conditions up to one, the last first
abbrev pub to_selects : List Condition
to_selects = selects ∷ []

abbrev pub to_word : List Condition
to_word = word ∷ to_selects

abbrev pub to_unused : List Condition
to_unused = unused ∷ to_word

abbrev pub to_reached : List Condition
to_reached = reached ∷ to_unused

abbrev pub to_left : List Condition
to_left = left ∷ to_reached

abbrev pub to_settled : List Condition
to_settled = settled ∷ to_left

abbrev pub to_whole : List Condition
to_whole = whole ∷ to_settled

abbrev pub to_visible : List Condition
to_visible = visible ∷ to_whole

abbrev pub to_passable : List Condition
to_passable = passable ∷ to_visible

abbrev pub to_unmoved : List Condition
to_unmoved = unmoved ∷ to_passable

abbrev pub to_few_parameters : List Condition
to_few_parameters = few_parameters ∷ to_unmoved

abbrev pub to_few_lifetimes : List Condition
to_few_lifetimes = few_lifetimes ∷ to_few_parameters

abbrev pub to_few_levels : List Condition
to_few_levels = few_levels ∷ to_few_lifetimes

abbrev pub to_few_parts : List Condition
to_few_parts = few_parts ∷ to_few_levels

abbrev pub to_few_numbers : List Condition
to_few_numbers = few_numbers ∷ to_few_parts

abbrev pub to_fits : List Condition
to_fits = fits ∷ to_few_numbers

abbrev pub to_few_sites : List Condition
to_few_sites = few_sites ∷ to_fits

abbrev pub to_few_positions : List Condition
to_few_positions = few_positions ∷ to_few_sites

abbrev pub to_fits_bounded : List Condition
to_fits_bounded = fits_bounded ∷ to_few_positions

abbrev pub to_known : List Condition
to_known = known ∷ to_fits_bounded

abbrev pub to_legal : List Condition
to_legal = legal ∷ to_known

abbrev pub to_readable : List Condition
to_readable = readable ∷ to_legal

abbrev pub to_few_bytes : List Condition
to_few_bytes = few_bytes ∷ to_readable

-- those in front of one
abbrev pub before : Condition → List Condition
before selects = []
before word = to_selects
before unused = to_word
before reached = to_unused
before left = to_reached
before settled = to_left
before whole = to_settled
before visible = to_whole
before passable = to_visible
before unmoved = to_passable
before few_parameters = to_unmoved
before few_lifetimes = to_few_parameters
before few_levels = to_few_lifetimes
before few_parts = to_few_levels
before few_numbers = to_few_parts
before fits = to_few_numbers
before few_sites = to_fits
before few_positions = to_few_sites
before fits_bounded = to_few_positions
before known = to_fits_bounded
before legal = to_known
before readable = to_legal
before few_bytes = to_readable
before confirmed = to_few_bytes
