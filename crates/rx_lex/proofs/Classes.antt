-- The characters that begin an identifier and go on it are those of Unicode's XID properties, and `_`: below 128 by their values on ASCII.
use Rattle.std.proofs.Common.{◌≡◌, ℕ, ◌≤◌, Bool, true, false, refl, sym, ap, ◌∙◌, arith, inl, inr}
use Rattle.std.specs.Prelude.{◌==◌, ◌&&◌, ◌||◌, nat_le}
use Rattle.std.proofs.lemmas.Bool.{or_parts, leb-true, lt-leb, eqb-true, false_from_ne_true}
use Rattle.unicode_ident.specs.Ident.{is_xid_start, is_xid_continue}
use Rattle.unicode_ident.proofs.IdentLemmas.{is_xid_start-ascii, is_xid_continue-ascii}
use Rattle.rx_lex.specs.Words.{is_ascii_start, is_ascii_continue, is_start, is_continue}
use Rattle.rx_lex.specs.Numerals.{is_digit}
use Rattle.rx_lex.proofs.Names.{high_low, high_no_ascii}

below : (a x y : Bool) → x ≡ false → (a || (x && y)) ≡ a
below true x y p = refl
below false x y p = rw p

above : (a x y : Bool) → a ≡ false → x ≡ true → (a || (x && y)) ≡ y
above a x y p q = rw (p, q)

start_low : (u l d : Bool) → ((l || u) || d) ≡ ((u || l) || d)
start_low true true d = refl
start_low true false d = refl
start_low false true d = refl
start_low false false d = refl

continue_low : (u l d n : Bool) → (((l || u) || d) || n) ≡ (((n || u) || l) || d)
continue_low true true true true = refl
continue_low true true true false = refl
continue_low true true false true = refl
continue_low true true false false = refl
continue_low true false true true = refl
continue_low true false true false = refl
continue_low true false false true = refl
continue_low true false false false = refl
continue_low false true true true = refl
continue_low false true true false = refl
continue_low false true false true = refl
continue_low false true false false = refl
continue_low false false true true = refl
continue_low false false true false = refl
continue_low false false false true = refl
continue_low false false false false = refl

pub start_is : (c : ℕ) → is_start c ≡ (is_xid_start c || (c == 95))
start_is c =
    elim (high_low c) [
      | inl h ↦ above (is_ascii_start c) (nat_le 128 c) (is_xid_start c) (no_start c h) h ∙ sym (no_line (is_xid_start c) (c == 95) (not_line c h))
      | inr h ↦
          below (is_ascii_start c) (nat_le 128 c) (is_xid_start c) (lt-leb 128 c h)
          ∙ (start_low (nat_le 65 c && nat_le c 90) (nat_le 97 c && nat_le c 122) (c == 95) ∙ ap (λ b. b || (c == 95)) (sym (is_xid_start-ascii c h)))
    ]
  where
    not_line : (c : ℕ) → nat_le 128 c ≡ true → (c == 95) ≡ false
    not_line c h = false_from_ne_true (c == 95) (λ e. let m : 128 ≤ c = leb-true 128 c h in let k : c ≡ 95 = eqb-true c 95 e in absurd (omega arith))

    no_line : (x y : Bool) → y ≡ false → (x || y) ≡ x
    no_line true y p = refl
    no_line false y p = p

    no_start : (c : ℕ) → nat_le 128 c ≡ true → is_ascii_start c ≡ false
    no_start c h = (or_parts (is_ascii_start c) (is_digit c) (high_no_ascii c h)).0

pub continue_is : (c : ℕ) → is_continue c ≡ is_xid_continue c
continue_is c =
    elim (high_low c) [
      | inl h ↦ above (is_ascii_continue c) (nat_le 128 c) (is_xid_continue c) (high_no_ascii c h) h
      | inr h ↦
          below (is_ascii_continue c) (nat_le 128 c) (is_xid_continue c) (lt-leb 128 c h)
          ∙ (continue_low (nat_le 65 c && nat_le c 90) (nat_le 97 c && nat_le c 122) (c == 95) (is_digit c) ∙ sym (is_xid_continue-ascii c h))
    ]
