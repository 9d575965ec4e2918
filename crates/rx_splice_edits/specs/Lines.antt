-- Lines of a text.
use Rattle.std.specs.Prelude.{◌≢◌, ℕ, ◌<◌, if◌then◌else◌, List, [], ◌++◌, length, get_or}
use Rattle.std.specs.List.{list_all}
use Rattle.rx_splice_laws.specs.Indent.{is_level, last_line, begins_with, four, reindented_from}

-- no line feed stands in it
abbrev pub NoFeed : List ℕ → Type 0
NoFeed t = (i : ℕ) → i < length t → get_or t i 0 ≢ 10

-- the blanks at the end of a text, where only spaces and tabs stand on its last line; else nothing
abbrev pub indent_behind : List ℕ → List ℕ
indent_behind t = let line = last_line [] t in if list_all is_level line then line else []

-- what becomes of what stands behind a line feed
abbrev pub behind_feed : List ℕ → List ℕ → List ℕ
behind_feed ind t = if begins_with ind t then four ++ reindented_from (length ind) ind t else reindented_from 0 ind t
