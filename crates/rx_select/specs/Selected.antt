-- Which tokens a range of bytes selects, and which it cuts (REM, OOPSLA 2023: a selection of the text becomes a fragment of the tree).
use Rattle.std.specs.Prelude.{◌≡◌, ℕ, ◌≤◌, ◌<◌, List, [], ◌∷◌, ◌⊎◌}
use Rattle.rx_core.specs.declared.types.Span.{Span}
use Rattle.rx_tree.specs.Lists.{Every}
use Rattle.rx_lex.specs.Tok.{Tok}

-- the token lies wholly in the range
abbrev pub Within : ℕ → ℕ → Tok → Type 0
Within start end t = (start ≤ t.span.start) × (t.span.end ≤ end)

-- the token lies in the range in part
abbrev pub Cut : ℕ → ℕ → Tok → Type 0
Cut start end t = (t.span.start < end) × (start < t.span.end) × ¬ (Within start end t)

abbrev pub IsToken : Tok → List Tok → Type 0
IsToken t [] = ⊥
IsToken t (u ∷ us) = (t ≡ u) ⊎ IsToken t us

-- the span goes from the first selected token to the last
pub record FirstToLast (start end : ℕ) (ts : List Tok) (s : Span) : Type 0 where
  pub first : Tok
  pub first_is : IsToken first ts
  pub first_selected : Within start end first
  pub begins : first.span.start ≡ s.start
  pub last : Tok
  pub last_is : IsToken last ts
  pub last_selected : Within start end last
  pub ends : last.span.end ≡ s.end
  pub all : Every (λ t. Within start end t → Within s.start s.end t) ts
