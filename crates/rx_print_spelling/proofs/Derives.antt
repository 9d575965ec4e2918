-- That tokens are derived as a tree which is the wanted one apart from spans, and the tokens of groups: by the places of their pieces.
use Rattle.std.proofs.Common.{◌≡◌, ℕ, ◌+◌, List, [], ◌∷◌, ◌++◌, codes, ap, subst, ◌∙◌, append_assoc}
use Rattle.rx_lex.specs.declared.token.Class.TheVariants.{Mark}
use Rattle.rx_lex.specs.Tok.{Tok}
use Rattle.rx_lex.specs.Tokens.{token_at}
use Rattle.rx_print_spelling.specs.Pieces.{Piece, space, mark, separated, tuple_of, arguments_of, fields_of}
use Rattle.rx_print_spelling.proofs.Pieces.{places, past, places-append}

pub record Derives {A C : Type 0} (J : List Tok → A → Type 0) (view : A → C) (ts : List Tok) (want : C) : Type 0 where
  pub tree : A
  pub derived : J ts tree
  pub same : view tree ≡ want

pub at_height : {A C : Type 0} (J : List Tok → A → ℕ → Type 0) (view : A → C) (ts : List Tok) (want : C) (h k : ℕ) → h ≡ k
    → Derives (λ us y. J us y h) view ts want → Derives (λ us y. J us y k) view ts want
at_height J view ts want h k e d = subst (λ n. Derives (λ us y. J us y n) view ts want) e d

abbrev pub mark_at : ℕ → List ℕ → Tok
mark_at at w = token_at at Mark w

pub two_places : (at : ℕ) (ps qs rest : List Piece) → places at ((ps ++ qs) ++ rest) ≡ places at ps ++ places (past at ps) (qs ++ rest)
two_places at ps qs rest = ap (places at) (append_assoc ps qs rest) ∙ places-append at ps (qs ++ rest)

-- pieces and a closing mark
pub closed : (at : ℕ) (ps : List Piece) (w : List ℕ) → places at (ps ++ mark w ∷ []) ≡ places at ps ++ mark_at (past at ps) w ∷ []
closed at ps w = places-append at ps (mark w ∷ [])

pub arguments_places : (at : ℕ) (pss : List (List Piece))
    → places at (arguments_of pss) ≡ mark_at at (codes "(") ∷ (places (at + 1) (separated pss) ++ mark_at (past (at + 1) (separated pss)) (codes ")") ∷ [])
arguments_places at pss = ap (λ l. mark_at at (codes "(") ∷ l) (closed (at + 1) (separated pss) (codes ")"))

pub single_places : (at : ℕ) (ps : List Piece)
    → places at (tuple_of (ps ∷ []))
    ≡ mark_at at (codes "(") ∷ (places (at + 1) ps ++ (mark_at (past (at + 1) ps) (codes ",") ∷ ([] ++ mark_at (past (at + 1) ps + 1) (codes ")") ∷ [])))
single_places at ps = ap (λ l. mark_at at (codes "(") ∷ l) (places-append (at + 1) ps (mark (codes ",") ∷ mark (codes ")") ∷ []))

pub tuple_places : (at : ℕ) (ps qs : List Piece) (more : List (List Piece))
    → places at (tuple_of (ps ∷ qs ∷ more))
    ≡ mark_at at (codes "(") ∷ (places (at + 1) ps ++ (mark_at (past (at + 1) ps) (codes ",")
    ∷ (places (past (at + 1) ps + 1 + 1) (separated (qs ∷ more)) ++ mark_at (past (past (at + 1) ps + 1 + 1) (separated (qs ∷ more))) (codes ")") ∷ [])))
tuple_places at ps qs more =
    ap (λ l. mark_at at (codes "(") ∷ l) (two_places (at + 1) ps (mark (codes ",") ∷ space ∷ separated (qs ∷ more)) (mark (codes ")") ∷ [])
    ∙ ap (λ l. places (at + 1) ps ++ (mark_at (past (at + 1) ps) (codes ",") ∷ l)) (closed (past (at + 1) ps + 1 + 1) (separated (qs ∷ more)) (codes ")")))

pub fields_places : (at : ℕ) (ps : List Piece) (more : List (List Piece))
    → places at (fields_of (ps ∷ more))
    ≡ mark_at at (codes "{") ∷ (places (at + 1 + 1) (separated (ps ∷ more)) ++ mark_at (past (at + 1 + 1) (separated (ps ∷ more)) + 1) (codes "}") ∷ [])
fields_places at ps more = ap (λ l. mark_at at (codes "{") ∷ l) (places-append (at + 1 + 1) (separated (ps ∷ more)) (space ∷ mark (codes "}") ∷ []))
