-- A type with its lifetimes elided ends with no list of lifetimes, so it ends before what goes on no name, `=` too.
use Rattle.std.proofs.Common.{◌≡◌, ℕ, Bool, true, false, List, [], ◌∷◌, ◌++◌, None, codes, refl, sym, ap, ◌∙◌}
use Rattle.std.specs.Prelude.{not, ◌&&◌}
use Rattle.std.proofs.lemmas.Bool.{and_parts}
use Rattle.rx_core.specs.declared.types.Span.{Span}
use Rattle.rx_core.specs.declared.types.Kind.{Kind}
use Rattle.rx_tree.specs.Plain as plain
use Rattle.rx_tree.specs.Plain.{TypeTree, ProgramTree}
use Rattle.rx_lex.specs.Words.{goes_on}
use Rattle.rx_typed.specs.Types.{Shape, integer, boolean, tuple_of, reference, named}
use Rattle.rx_print_spelling.specs.Pieces.{Piece, mark, flat, tuple_of as in_parentheses, separated, mutable_pieces, with_ampersand}
use Rattle.rx_print_spelling.specs.Types.{type_pieces, each_type, is_reference}
use Rattle.rx_print_spelling.specs.Formed.{FormedType}
use Rattle.rx_print_spelling.proofs.Standing.{Apart, EachEnds, nothing, word_then, whole, identifier_then, keyword_then, appended, joined, close, follows, ampersand_then, separated_end, mutable_stand}
use Rattle.rx_print_spelling.proofs.TypesStand.{kind_word, type_stands, types_stand}
use Rattle.rx_hoist_extraction.specs.WrittenTypes.{elided, all_elided}
use Rattle.rx_hoist_extraction.specs.FormedPlan.{TypeSpells}
use Rattle.rx_hoist_extraction.proofs.FormedSignatures.{elided_formed}
use Rattle.rx_splice_laws.proofs.InPlaces.{EndsBare}

tuple_apart : (pss : List (List Piece)) → EachEnds pss → (r : List ℕ) → Apart (in_parentheses pss) r
tuple_apart [] f r = whole refl refl (close refl refl)
tuple_apart (ps ∷ []) f r = whole refl refl (joined ps f.0 (refl, refl) (whole refl refl (close refl refl)))
tuple_apart (ps ∷ qs ∷ pss) f r = whole refl refl (joined (separated (ps ∷ qs ∷ pss)) (separated_end (ps ∷ qs ∷ pss) f) (refl, refl) (close refl refl))

-- as a whole, and behind an `&` that is the second half of a mark
pub record Bare (y : TypeTree) : Type 0 where
  pub alone : EndsBare y
  pub second : is_reference y ≡ true → (r : List ℕ) → goes_on r ≡ false → Apart (type_pieces true y) r

behind_ampersand : (m : Bool) (y : TypeTree) (r : List ℕ) → Bare y → goes_on r ≡ false → Apart (mutable_pieces m ++ type_pieces false y) r
behind_ampersand m y r b g = appended (mutable_pieces m) (mutable_stand m _) (b.alone r g)

apart_follows : (m : Bool) (y : TypeTree) (r : List ℕ) → FormedType y → (not m && is_reference y) ≡ false → follows false (flat (mutable_pieces m ++ type_pieces false y) ++ r) ≡ true
apart_follows false y r f e = ap (λ b. follows b (flat (type_pieces false y) ++ r)) (sym e) ∙ (type_stands y f).front r
apart_follows true y r f e = refl

ampersand_bare : (m : Bool) (y : TypeTree) → FormedType y → Bare y → (b : Bool) → (not m && is_reference y) ≡ b → (r : List ℕ) → goes_on r ≡ false
    → Apart (with_ampersand b (mutable_pieces m ++ type_pieces false y) (type_pieces true y)) r
ampersand_bare m y f k false e r g = ampersand_then (apart_follows m y r f e) (behind_ampersand m y r k g)
ampersand_bare m y f k true e r g = whole refl refl (k.second (and_parts (not m) (is_reference y) e).1 r g)

reference_bare : (s : Span) (m : Bool) (y : TypeTree) → FormedType y → Bare y → Bare (plain.ref_type s None m y)
reference_bare s m y f k = record {
  alone = λ r g. ampersand_bare m y f k (not m && is_reference y) refl r g;
  second = λ e r g. behind_ampersand m y r k g;
}

pub elided_bare : (P : ProgramTree) (s : Span) (t : Shape Kind) → TypeSpells P t → Bare (elided P s t)
elided_bare P s (integer k) h = record { alone = λ r g. word_then (kind_word k) (ap not g) (nothing r); second = λ e r g. absurd (cc) }
elided_bare P s boolean h = record { alone = λ r g. keyword_then refl g (nothing r); second = λ e r g. absurd (cc) }
elided_bare P s (tuple_of ts) h = record {
  alone = λ r g. tuple_apart (each_type (all_elided P s ts)) (types_stand (all_elided P s ts) (elided_formed P s (tuple_of ts) h)) r;
  second = λ e r g. absurd (cc);
}
elided_bare P s (reference m t) h = reference_bare s m (elided P s t) (elided_formed P s t h) (elided_bare P s t h)
elided_bare P s (named i) h = record { alone = λ r g. identifier_then h g (nothing r); second = λ e r g. absurd (cc) }
