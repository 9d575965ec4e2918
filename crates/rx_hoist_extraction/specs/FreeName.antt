-- A name that a new function may have (Rust Reference, "Identifiers"): a word that is an identifier, that the text has not, nor the
-- name of an enum of exits made from it, and that is no name that the language or an extraction gives a meaning.
use Rattle.std.specs.Prelude.{◌≡◌, ℕ, Bool, true, false, ◌==◌, ◌&&◌, ◌||◌, List, [], ◌∷◌, ◌++◌, codes}
use Rattle.rx_lex.specs.Words.{is_identifier}
use Rattle.rx_hoist_extraction.specs.Names.{Names, is_among}

abbrev pub begins_with : List ℕ → List ℕ → Bool
begins_with [] word = true
begins_with (b ∷ bs) [] = false
begins_with (b ∷ bs) (c ∷ cs) = (b == c) && begins_with bs cs

-- whether a word begins with one of these
abbrev pub begins_with_one : Names → List ℕ → Bool
begins_with_one [] word = false
begins_with_one (w ∷ ws) word = begins_with w word || begins_with_one ws word

-- the names that mean something already, and those of the variants without numbers
abbrev pub given_names : Names
given_names =
    codes "main" ∷ codes "rt" ∷ codes "next" ∷ codes "println" ∷ codes "derive" ∷ codes "Clone" ∷ codes "Copy"
    ∷ codes "Next" ∷ codes "Return" ∷ []

-- what names that an extraction makes begin with
abbrev pub made_beginnings : Names
made_beginnings = codes "out_" ∷ codes "Break_" ∷ codes "Continue_" ∷ codes "Exit_" ∷ []

abbrev pub is_reserved : List ℕ → Bool
is_reserved x = is_among x given_names || begins_with_one made_beginnings x

-- the identifiers are those of the text
pub record FreeName (identifiers : Names) (name : List ℕ) : Type 0 where
  pub word : is_identifier name ≡ true
  pub unused : is_among name identifiers ≡ false
  pub enum_unused : is_among (codes "Exit_" ++ name) identifiers ≡ false
  pub unreserved : is_reserved name ≡ false
