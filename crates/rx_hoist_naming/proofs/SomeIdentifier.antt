-- A word is an identifier of a text where some token is this identifier; and one of some words by either test for equal bytes.
use Rattle.std.proofs.Common.{◌≡◌, ℕ, Bool, true, false, ◌||◌, ◌&&◌, List, [], ◌∷◌, ◌++◌, cond, refl, ap, ◌∙◌}
use Rattle.std.specs.Prelude.{◌==◌}
use Rattle.std.specs.List.{list_any}
use Rattle.std.specs.Str.{bytes_eq}
use Rattle.rx_core.specs.Bytes.{same_bytes, is_one_of}
use Rattle.rx_lex.specs.Tok.{Tok}
use Rattle.rx_hoist_extraction.specs.Names.{Names, is_among}
use Rattle.rx_hoist_naming.specs.NamesWords.{is_identifier_class, identifiers}
use Rattle.rx_hoist_naming.specs.NameTest.{is_identifier_of}

pub some_identifier : (name : List ℕ) (ts : List Tok) → list_any (is_identifier_of name) ts ≡ is_among name (identifiers ts)
some_identifier name [] = refl
some_identifier name (t ∷ ts) = by (is_identifier_class t.class) (some_identifier name ts)
  where
    by : (b : Bool) → list_any (is_identifier_of name) ts ≡ is_among name (identifiers ts)
        → ((b && bytes_eq name t.text) || list_any (is_identifier_of name) ts) ≡ is_among name (cond b (t.text ∷ []) [] ++ identifiers ts)
    by true rest = ap (λ r. bytes_eq name t.text || r) rest
    by false rest = rest

same : (a b : List ℕ) → same_bytes a b ≡ bytes_eq a b
same [] [] = refl
same [] (y ∷ ys) = refl
same (x ∷ xs) [] = refl
same (x ∷ xs) (y ∷ ys) = ap (λ r. (x == y) && r) (same xs ys)

pub one_is_among : (w : List ℕ) (ws : Names) → is_one_of w ws ≡ is_among w ws
one_is_among w [] = refl
one_is_among w (v ∷ ws) = ap (λ b. b || is_one_of w ws) (same w v) ∙ ap (λ r. bytes_eq w v || r) (one_is_among w ws)
