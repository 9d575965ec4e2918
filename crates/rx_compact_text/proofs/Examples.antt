-- The text of a short signature, by computation.
use Rattle.std.proofs.Common.{◌≡◌, ℕ, ◌==◌, Bool, true, false, ◌||◌, ◌&&◌, List, [], ◌∷◌, Option, Some, None, refl}
use Rattle.std.specs.Prelude.{codes}
use Rattle.rx_core.specs.declared.types.Span.{Span}
use Rattle.rx_core.specs.declared.types.Kind.TheVariants.{I64}
use Rattle.rx_tree.specs.declared.tree.Ident.{Ident}
use Rattle.rx_tree.specs.declared.tree.BoundLifetime.{BoundLifetime}
use Rattle.rx_tree.specs.Erase.{nowhere}
use Rattle.rx_tree.specs.Plain as plain
use Rattle.rx_tree.specs.Plain.{TypeTree, Parameter, Function}
use Rattle.rx_lex.specs.declared.token.Class.{Class}
use Rattle.rx_lex.specs.Tok.{Tok}
use Rattle.rx_compact_text.specs.CompactedText.{compacted_text}

abbrev span : ℕ → ℕ → Span
span a b = record { start = a; end = b }

abbrev at : ℕ → ℕ → List ℕ → Ident
at a b x = record { span = span a b; name = x }

abbrev mark : ℕ → ℕ → List ℕ → Tok
mark a b x = record { class = Class.Mark; span = span a b; text = x }

abbrev number : TypeTree
number = plain.kind_type nowhere I64

abbrev itself : ℕ → ℕ → Bool
itself l k = l == k

abbrev nothing : plain.Body
nothing = plain.body nowhere plain.no_statement plain.absent

-- the blanks behind a lifetime that is left out go with it, the comment in front of it and the blanks round the list stay
abbrev gather : Function
gather = record {
  name = at 3 9 (codes "gather");
  lifetimes = record { name = at 11 14 (codes "'r0"); bounds = [] } ∷ [];
  params = record { name = at 17 20 (codes "sum"); mutable = false; typ = plain.ref_type nowhere (Some (at 23 26 (codes "'r0"))) true number } ∷ [];
  result = None;
  body = nothing;
}

gather_text : compacted_text itself false (codes "fn gather <'r0> (sum: &'r0  mut i64) {}") (mark 2 3 (codes "<") ∷ mark 10 11 (codes "<") ∷ mark 14 15 (codes ">") ∷ mark 16 17 (codes "(") ∷ []) gather
    ≡ codes "fn gather  (sum: &mut i64) {}"
gather_text = refl

-- fn swap<'r0, 'r1: 'r2, 'r2: 'r1>(x: &'r0 mut K<'r1>, y: K<'r2>) {}    becomes    fn swap<'r1>(x: &mut K<'r1>, y: K<'r1>) {}
abbrev swap : Function
swap = record {
  name = at 3 7 (codes "swap");
  lifetimes = record { name = at 8 11 (codes "'r0"); bounds = [] }
      ∷ record { name = at 13 16 (codes "'r1"); bounds = at 18 21 (codes "'r2") ∷ [] }
      ∷ record { name = at 23 26 (codes "'r2"); bounds = at 28 31 (codes "'r1") ∷ [] } ∷ [];
  params = record {
    name = at 33 34 (codes "x");
    mutable = false;
    typ = plain.ref_type nowhere (Some (at 37 40 (codes "'r0"))) true (plain.named_type nowhere (at 45 46 (codes "K")) (Some (Some (at 47 50 (codes "'r1")) ∷ [])));
  }
      ∷ record { name = at 53 54 (codes "y"); mutable = false; typ = plain.named_type nowhere (at 56 57 (codes "K")) (Some (Some (at 58 61 (codes "'r2")) ∷ [])) } ∷ [];
  result = None;
  body = nothing;
}

abbrev known_of_swap : ℕ → ℕ → Bool
known_of_swap l k = (l == k) || (((k == 0) || ((l == 1) || (l == 2))) && ((l == 1) || (l == 2)))

swap_text : compacted_text known_of_swap false (codes "fn swap<'r0, 'r1: 'r2, 'r2: 'r1>(x: &'r0 mut K<'r1>, y: K<'r2>) {}")
    (mark 7 8 (codes "<") ∷ mark 31 32 (codes ">") ∷ mark 32 33 (codes "(") ∷ []) swap
    ≡ codes "fn swap<'r1>(x: &mut K<'r1>, y: K<'r1>) {}"
swap_text = refl
