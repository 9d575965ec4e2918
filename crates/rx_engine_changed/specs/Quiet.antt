-- Parts of a text that leave no variable waiting for its type (Rust Reference, "Type inference", "let statements"), and a part to which a numbering comes behind
-- such parts alone.
use Rattle.std.specs.Prelude.{◌≡◌, ◌<◌, ℕ, false, None, Some, slice_get}
use Rattle.rx_core.specs.declared.types.Span.{Span}
use Rattle.rx_tree.specs.Lists.{nth}
use Rattle.rx_tree.specs.Plain as plain
use Rattle.rx_tree.specs.Plain.{OptionalExpression, PatternTree}
use Rattle.rx_typed.specs.declared.nodes.Site.{Site}
use Rattle.rx_typed.specs.Named.{never}
use Rattle.rx_typed.specs.Naming.{of_arguments, of_arms, of_body, of_expression, of_expressions, of_fields, of_optional, of_statement, of_statements, Cursor}
use Rattle.rx_engine_changed.specs.Comes.{a_body, a_statement, an_expression, an_optional, goes_in, in_let, in_part, some_arguments, some_arms, some_expressions, some_fields, some_statements, the_whole, Comes, Part, Placed}
use Rattle.rx_engine_changed.specs.Deeds.{Deeds}
use Rattle.rx_engine_changed.specs.Deeds as deeds
use Rattle.rx_engine_changed.specs.Stages.{waits_there}

abbrev pub deeds_of : Part → Cursor → Deeds
deeds_of (an_expression m t e) c = deeds.of_exp (of_expression m t e c).0
deeds_of (some_expressions t es) c = deeds.of_exps (of_expressions t es c).0
deeds_of (an_optional t o) c = deeds.of_else (of_optional t o c).0
deeds_of (some_arguments o) c = deeds.of_exps (of_arguments o c).0
deeds_of (some_fields fs) c = deeds.of_fields (of_fields fs c).0
deeds_of (some_arms t l) c = deeds.of_arms (of_arms t l c).0
deeds_of (a_body t b) c = deeds.of_body (of_body t b c).0
deeds_of (a_statement a) c = deeds.of_statement (of_statement a c).0
deeds_of (some_statements ss) c = deeds.of_statements (of_statements ss c).0

-- no `let` in it leaves its variable waiting
abbrev pub IsQuiet : Placed → Type 0
IsQuiet y = (n : ℕ) → (deeds_of y.0 y.1).awaits n ≡ false

-- nor any in front of it on the way
abbrev pub QuietInFront : {w : Placed} {x : Part} {c : Cursor} → Comes w x c → Type 0
QuietInFront the_whole = Unit {0}
QuietInFront (goes_in {x = x} {c = c} h n e) = QuietInFront h × ((i : ℕ) → i < n → (y : Placed) → nth (in_part x c) i ≡ Some y → IsQuiet y)

abbrev pub NoneWaits : Cursor → Type 0
NoneWaits c = (n : ℕ) → waits_there (slice_get c.variables n) ≡ false

-- a `let` without a type has a value that comes; and each one to which the numbering of a part comes
abbrev pub IsToldLet : Span → PatternTree → OptionalExpression → Cursor → Type 0
IsToldLet s p plain.absent c = ⊥
IsToldLet s p (plain.present e) c = never (of_expression false Site.Scrutinee e (in_let s p None c)).0 ≡ false

abbrev pub LetsAreTold : Placed → Type 0
LetsAreTold whole = (s : Span) (p : PatternTree) (o : OptionalExpression) (c : Cursor) → Comes whole (a_statement (plain.let_statement s p None o)) c → IsToldLet s p o c
