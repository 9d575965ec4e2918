-- Steps in a row: how they group, and that equal steps give equal outcomes.
use Rattle.std.proofs.Common.{◌≡◌, List, Ok, Err, refl}
use Rattle.rx_lex.specs.Tok.{Tok}
use Rattle.rx_parse_grammar.specs.parser.Steps.{Parser, Outcome, and_then}

pub joined : {A B C : Type 0} (o : Outcome A) (f : A → Parser B) (g : B → Parser C) → and_then (and_then o f) g ≡ and_then o (λ x j. and_then (f x j) g)
joined (Ok r) f g = refl
joined (Err e) f g = refl

pub same_then : {A B : Type 0} (o : Outcome A) (f g : A → Parser B) → ((x : A) (j : List Tok) → f x j ≡ g x j) → and_then o f ≡ and_then o g
same_then (Ok r) f g h = h r.0 r.1
same_then (Err e) f g h = refl
