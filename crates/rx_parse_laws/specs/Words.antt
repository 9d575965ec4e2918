-- The words of tokens: their classes and texts, wherever they stand (Rust Reference, "Tokens"). What it means that derivations
-- speak of them alone.
use Rattle.std.specs.Prelude.{◌≡◌, ℕ, List, map}
use Rattle.rx_lex.specs.Tok.{Tok}
use Rattle.rx_lex.specs.declared.token.Class.{Class}

abbrev pub words : List Tok → List (Class × List ℕ)
words = map (λ (t : Tok). (t.class, t.text))

-- tokens with the same words are derived too, as something that is seen alike: apart from spans
abbrev pub SpeakOfWords : {B D : Type 0} → (List Tok → B → Type 0) → (B → D) → Type 0
SpeakOfWords {B = B} J seen = (ts us : List Tok) (x : B) → words us ≡ words ts → J ts x → (y : B) × J us y × (seen y ≡ seen x)
