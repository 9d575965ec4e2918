-- Where a blank or a comment at the front of a text ends, computed from the left (Rust Reference, "Whitespace", "Comments").
use Rattle.std.specs.Prelude.{ℕ, zero, suc, ◌==◌, ◌&&◌, if◌then◌else◌, List, [], ◌∷◌, Option, Some, None}
use Rattle.rx_lex.specs.Tokens.{is_blank}

-- from the end of the line on
abbrev pub line_rest : List ℕ → List ℕ
line_rest [] = []
line_rest (c ∷ cs) = if c == 10 then c ∷ cs else line_rest cs

-- behind the `*/` that closes a comment, where this many more are open within it
abbrev pub block_rest : ℕ → List ℕ → Option (List ℕ)
block_rest n [] = None
block_rest n (c ∷ []) = None
block_rest n (c ∷ d ∷ t) =
    if (c == 47) && (d == 42) then block_rest (suc n) t
    else (if (c == 42) && (d == 47) then elim n [ zero ↦ Some t | suc m ↦ block_rest m t ]
    else block_rest n (d ∷ t))

-- behind a comment, where its first `/` was taken off
abbrev pub comment_rest : List ℕ → Option (List ℕ)
comment_rest [] = None
comment_rest (d ∷ t) = if d == 47 then Some (line_rest t) else (if d == 42 then block_rest 0 t else None)

-- behind the blank or the comment that a text begins with
abbrev pub gap_rest : List ℕ → Option (List ℕ)
gap_rest [] = None
gap_rest (c ∷ t) = if is_blank c then Some t else (if c == 47 then comment_rest t else None)
