-- Why a new function may not have a name (Rust Reference, "Identifiers").
use Rattle.std.specs.Prelude.{◌≡◌, ℕ, Bool, true, false, ◌&&◌, ◌||◌, List, ◌++◌, codes}
use Rattle.std.specs.Str.{bytes_eq}
use Rattle.rx_lex.specs.Tok.{Tok}
use Rattle.rx_lex.specs.Words.{is_identifier}
use Rattle.rx_hoist_extraction.specs.Names.{Names, is_among}
use Rattle.rx_hoist_extraction.specs.FreeName.{is_reserved}
use Rattle.rx_hoist_naming.specs.NamesWords.{is_identifier_class}
use Rattle.rx_hoist_naming.specs.declared.names.NameRefusal.{NameRefusal}
use Rattle.rx_hoist_naming.specs.declared.names.NameRefusal.TheVariants as refusal

-- whether a token is this identifier
abbrev pub is_identifier_of : List ℕ → Tok → Bool
is_identifier_of name t = is_identifier_class t.class && bytes_eq name t.text

-- the text has it, or the name of the enum that is made from it, or it has a meaning already
abbrev pub is_taken : Names → List ℕ → Bool
is_taken identifiers name = is_among name identifiers || is_among (codes "Exit_" ++ name) identifiers || is_reserved name

-- want of memory is no answer
abbrev pub RefusedName : Names → List ℕ → NameRefusal → Type 0
RefusedName identifiers name refusal.BadName = is_identifier name ≡ false
RefusedName identifiers name refusal.NameTaken = (is_identifier name ≡ true) × (is_taken identifiers name ≡ true)
RefusedName identifiers name refusal.OutOfMemory = Unit {0}
