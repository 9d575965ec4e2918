-- Why bytes have no list of tokens: the first place where they are no text, or where no token begins.
use Rattle.std.specs.Prelude.{◌≡◌, ℕ, List}
use Rattle.std.specs.Str.{IsUtf8}
use Rattle.std.specs.Str.Lossy.{utf8_valid_len}
use Rattle.rx_lex.specs.declared.lexer.LexFault.{LexFault}
use Rattle.rx_lex.specs.declared.lexer.LexFault.TheVariants.{NotText, BadToken, OutOfMemory}
use Rattle.rx_lex.specs.Tokens.{Stuck}

abbrev pub FaultOf : LexFault → List ℕ → Type 0
FaultOf (NotText at) bytes = (IsUtf8 bytes → ⊥) × (at ≡ utf8_valid_len bytes)
FaultOf (BadToken at) bytes = IsUtf8 bytes × Stuck 0 bytes at
FaultOf OutOfMemory bytes = Unit {0}
