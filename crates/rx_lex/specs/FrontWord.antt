-- The word at the front of a text: where it ends, or that there is none (Rust Reference, "Tokens").
use Rattle.std.specs.Prelude.{◌≡◌, ℕ, ◌≤◌, ◌<◌, Bool, true, false, ◌==◌, ◌&&◌, List, [], ◌∷◌, length, take, drop}
use Rattle.std.specs.List.{list_all}
use Rattle.std.specs.Str.{chars, IsUtf8}
use Rattle.rx_lex.specs.declared.token.Class.{Class}
use Rattle.rx_lex.specs.Words.{is_start, is_continue}
use Rattle.rx_lex.specs.Tokens.{Gap, Front, Longest}
use Rattle.rx_lex.specs.Stands.{makes_comment}

-- the first bytes of the text, this many, are its longest word
pub record WordOf (c : Class) (n : ℕ) (t : List ℕ) : Type 0 where
  pub not_empty : 0 < n
  pub within : n ≤ length t
  pub longest : Longest c (take n t) (drop n t) t

-- no word comes first, unless a blank or a comment does
abbrev pub NoWord : List ℕ → Type 0
NoWord t = ((q : List ℕ) → Gap t q → ⊥) → (c : Class) (w r : List ℕ) → Front c w r t → ⊥

-- the first bytes of the text, this many, are characters that may stand in an identifier
pub record Continues (n : ℕ) (t : List ℕ) : Type 0 where
  pub not_empty : 0 < n
  pub within : n ≤ length t
  pub text : IsUtf8 (take n t)
  pub rest : IsUtf8 (drop n t)
  pub all : list_all is_continue (chars (take n t)) ≡ true

-- whether the first of the characters begins a name
abbrev pub begins_start : List ℕ → Bool
begins_start [] = false
begins_start (c ∷ cs) = is_start c

abbrev pub begins_comment : List ℕ → Bool
begins_comment [] = false
begins_comment (c ∷ cs) = (c == 47) && makes_comment cs

-- whether a text begins with `'`
abbrev pub begins_quote : List ℕ → Bool
begins_quote [] = false
begins_quote (c ∷ cs) = c == 39
