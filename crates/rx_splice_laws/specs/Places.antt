-- Where tokens stand beside one another in a text.
use Rattle.std.specs.Prelude.{ℕ, Bool, true, false, ◌==◌, ◌&&◌, if◌then◌else◌, nat_le, List, [], ◌∷◌, codes}
use Rattle.rx_core.specs.Bytes.{same_bytes}
use Rattle.rx_lex.specs.Tok.{Tok}

-- the tokens behind the one that begins here
abbrev pub behind : ℕ → List Tok → List Tok
behind at [] = []
behind at (t ∷ ts) = if t.span.start == at then ts else behind at ts

abbrev pub first_start : ℕ → List Tok → ℕ
first_start at [] = at
first_start at (t ∷ ts) = t.span.start

-- where the token begins that follows the one that begins here
abbrev pub next_start : List Tok → ℕ → ℕ
next_start ts at = first_start at (behind at ts)

abbrev pub begins_mark : List ℕ → List Tok → Bool
begins_mark w [] = false
begins_mark w (t ∷ ts) = same_bytes t.text w

-- whether the token that follows the one that begins here is the mark `.`
abbrev pub before_dot : List Tok → ℕ → Bool
before_dot ts at = begins_mark (codes ".") (behind at ts)

-- whether a mark `/` ends where this token begins
abbrev pub after_slash : List Tok → ℕ → Bool
after_slash [] at = false
after_slash (t ∷ ts) at = if (t.span.end == at) && same_bytes t.text (codes "/") then true else after_slash ts at

-- the end of the last of the tokens `)` at the front, or what is given
abbrev pub past_closing : ℕ → List Tok → ℕ
past_closing at [] = at
past_closing at (t ∷ ts) = if same_bytes t.text (codes ")") then past_closing t.span.end ts else at

-- the tokens that begin here or later
abbrev pub tokens_from : ℕ → List Tok → List Tok
tokens_from at [] = []
tokens_from at (t ∷ ts) = if nat_le at t.span.start then t ∷ ts else tokens_from at ts

-- the end of what ends here with the parentheses round it
abbrev pub with_parentheses : List Tok → ℕ → ℕ
with_parentheses ts end = past_closing end (tokens_from end ts)

-- the word that begins here
abbrev pub text_at : List Tok → ℕ → List ℕ
text_at [] at = []
text_at (t ∷ ts) at = if t.span.start == at then t.text else text_at ts at
