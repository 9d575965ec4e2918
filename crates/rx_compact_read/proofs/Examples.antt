-- Where a lifetime goes, two ampersands may meet, by computation.
use Rattle.std.proofs.Common.{◌≡◌, ℕ, ◌==◌, Bool, false, List, [], ◌∷◌, Some, None, refl}
use Rattle.std.specs.Prelude.{codes}
use Rattle.rx_core.specs.declared.types.Kind.TheVariants.{I64}
use Rattle.rx_tree.specs.declared.tree.Ident.{Ident}
use Rattle.rx_tree.specs.Erase.{nowhere}
use Rattle.rx_tree.specs.Plain as plain
use Rattle.rx_tree.specs.Plain.{TypeTree, Function}
use Rattle.rx_lex.specs.declared.token.Class.{Class}
use Rattle.rx_lex.specs.declared.token.Class.TheVariants.{Mark}
use Rattle.rx_lex.specs.Tok.{Tok}
use Rattle.rx_compact_text.specs.CompactedText.{compacted_text}
use Rattle.rx_compact_read.specs.Halves.{halves}

abbrev at : ℕ → ℕ → List ℕ → Ident
at a b x = record { span = record { start = a; end = b }; name = x }

abbrev mark : ℕ → ℕ → List ℕ → Tok
mark a b x = record { class = Mark; span = record { start = a; end = b }; text = x }

abbrev itself : ℕ → ℕ → Bool
itself l k = l == k

-- fn nested<'a>(x: &'a &i64) {}, with its lifetime where it stands
abbrev nested : Ident → Function
nested l = record {
  name = at 3 9 (codes "nested");
  lifetimes = record { name = at 10 12 (codes "'a"); bounds = [] } ∷ [];
  params = record { name = at 14 15 (codes "x"); mutable = false; typ = plain.ref_type nowhere (Some l) false (plain.ref_type nowhere None false (plain.kind_type nowhere I64)) } ∷ [];
  result = None;
  body = plain.body nowhere plain.no_statement plain.absent;
}

abbrev tokens : List Tok
tokens = mark 9 10 (codes "<") ∷ mark 12 13 (codes ">") ∷ mark 13 14 (codes "(") ∷ []

-- they are one token
met : compacted_text itself false (codes "fn nested<'a>(x: &'a &i64) {}") tokens (nested (at 18 20 (codes "'a"))) ≡ codes "fn nested(x: &&i64) {}"
met = refl

-- a comment keeps them apart
kept_apart : compacted_text itself false (codes "fn nested<'a>(x: &'a /**/ &i64) {}") tokens (nested (at 18 20 (codes "'a"))) ≡ codes "fn nested(x: &/**/ &i64) {}"
kept_apart = refl

-- the words of `& &i64`, of `&&i64`, of `& &&` and of `&&&`
abbrev one : Class × List ℕ
one = (Mark, codes "&")

abbrev both : Class × List ℕ
both = (Mark, codes "&&")

two_apart : halves (one ∷ one ∷ []) ≡ halves (both ∷ [])
two_apart = refl

three_apart : halves (one ∷ both ∷ []) ≡ halves (both ∷ one ∷ [])
three_apart = refl
