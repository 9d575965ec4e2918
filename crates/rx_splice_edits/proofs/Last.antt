-- The last of a list, as a slice gives it.
use Rattle.std.proofs.Common.{◌≡◌, ℕ, ◌-◌, Bool, false, ◌&&◌, List, [], ◌∷◌, length, Option, Some, None, refl, ap, sym, ◌∙◌, arith}
use Rattle.std.specs.Prelude.{◌==◌, codes, slice_get}
use Rattle.std.specs.Borrow.{Bor}
use Rattle.std.specs.Option.{option_copied}
use Rattle.rx_core.specs.Bytes.{same_bytes}
use Rattle.rx_lex.specs.declared.token.Token.{Token}
use Rattle.rx_lex.specs.Tok.{toks}
use Rattle.rx_splice_edits.specs.InOrder.{last_slash}

abbrev pub last_of : {A : Type 0} → List A → Option A
last_of [] = None
last_of (a ∷ []) = Some a
last_of (a ∷ b ∷ l) = last_of (b ∷ l)

at_end : {A : Type 0} (a : A) (l : List A) → slice_get (a ∷ l) (length l) ≡ last_of (a ∷ l)
at_end a [] = refl
at_end a (b ∷ l) = at_end b l

pub get_last : {A : Type 0} (l : List A) → slice_get l (length l - 1) ≡ last_of l
get_last [] = refl
get_last (a ∷ l) = ap (slice_get (a ∷ l)) (let h : length (a ∷ l) - 1 ≡ length l = omega arith in h) ∙ at_end a l

pub some_last : {A : Type 0} (l : List A) (r : Option (Bor A)) (a : Bor A) → option_copied r ≡ slice_get l (length l - 1) → r ≡ Some a → last_of l ≡ Some a.now
some_last l r a e is = sym (get_last l) ∙ sym e ∙ ap option_copied is

pub no_last : {A : Type 0} (l : List A) (r : Option (Bor A)) → option_copied r ≡ slice_get l (length l - 1) → r ≡ None → last_of l ≡ None
no_last l r e is = sym (get_last l) ∙ sym e ∙ ap option_copied is

pub none_empty : {A : Type 0} (l : List A) → last_of l ≡ None → l ≡ []
none_empty [] e = refl
none_empty (a ∷ []) e = absurd (cc)
none_empty (a ∷ b ∷ l) e = let h : b ∷ l ≡ [] = none_empty (b ∷ l) e in absurd (cc)

-- ---- the mark `/`

abbrev slash_by : ℕ → Option Token → Bool
slash_by at None = false
slash_by at (Some t) = (t.span.end == at) && same_bytes t.text.now (codes "/")

pub slash_is : (at : ℕ) (ts : List Token) → last_slash at (toks ts) ≡ slash_by at (last_of ts)
slash_is at [] = refl
slash_is at (t ∷ []) = refl
slash_is at (t ∷ u ∷ ts) = slash_is at (u ∷ ts)

pub slash_some : (at : ℕ) (ts : List Token) (t : Token) (b : Bool) → last_of ts ≡ Some t → b ≡ ((t.span.end == at) && same_bytes t.text.now (codes "/")) → b ≡ last_slash at (toks ts)
slash_some at ts t b e h = h ∙ sym (ap (slash_by at) e) ∙ sym (slash_is at ts)

pub slash_none : (at : ℕ) (ts : List Token) → last_of ts ≡ None → false ≡ last_slash at (toks ts)
slash_none at ts e = sym (ap (slash_by at) e) ∙ sym (slash_is at ts)
