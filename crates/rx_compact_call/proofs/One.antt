-- A text has one text with a short signature of its function of a name.
use Rattle.std.proofs.Common.{◌≡◌, ◌↔◌, ℕ, Bool, true, List, Option, Some, None, Result, Ok, slice_get, sym, ap, subst, ◌∙◌}
use mathlib.Core.Path.{fun_ext}
use Rattle.std.proofs.lemmas.Bool.Decides.{same_from_decides}
use Rattle.rx_tree.specs.Plain.{Function, ProgramTree}
use Rattle.rx_lex.specs.Tok.{Tok}
use Rattle.rx_lex.proofs.TokenLaws.{lexes_one}
use Rattle.rx_parse_grammar.specs.grammar.Items.{IsFile, Parses}
use Rattle.rx_parse_grammar.proofs.Whole.{one_program_tree}
use Rattle.rx_resolve_names.specs.Causes.{Meant}
use Rattle.rx_typed.specs.declared.declarations.Decl.{Decl}
use Rattle.rx_typeck_typed.specs.Items.{declared_items}
use Rattle.rx_typeck_typed.specs.Programs.{Declares}
use Rattle.rx_compact.specs.Outliving.{is_single}
use Rattle.rx_compact.specs.Compacted.{Tells}
use Rattle.rx_compact_text.specs.CompactedText.{compacted_text}
use Rattle.rx_compact_call.specs.Named.{function_named}
use Rattle.rx_compact_call.specs.Shortened.{IsShortened, IsUnnamed}

ok_is : {A E : Type 0} (a b : A) → ◌≡◌ {A = Result A E} (Ok a) (Ok b) → a ≡ b
ok_is a b e = cc

some_is : (a b : ℕ × Function) → Some a ≡ Some b → a ≡ b
some_is a b e = cc

told_alike : (D : List Decl) (i : ℕ) (o u : ℕ → ℕ → Bool) → Tells D i o → Tells D i u → o ≡ u
told_alike D i o u a b = fun_ext (λ l. fun_ext (λ k. same_from_decides (o l k) (u l k) (a l k) (b l k)))

same_program : (text : List ℕ) (p q : ProgramTree) (x : Parses text p) (y : Parses text q) → (x.tokens ≡ y.tokens) × (p ≡ q)
same_program text p q x y =
    let ts = lexes_one text x.tokens y.tokens x.lexed y.lexed in
    (ts, one_program_tree y.tokens p q x.height y.height (subst (λ (us : List Tok). IsFile us p x.height) ts x.derived) y.derived)

pub one : (text name a b : List ℕ) → IsShortened text name a → IsShortened text name b → a ≡ b
one text name a b x y =
    let same = same_program text x.program y.program x.parses y.parses in
    let both : (x.number, x.function) ≡ (y.number, y.function) = some_is (x.number, x.function) (y.number, y.function) (sym x.named ∙ ap (function_named name 0) same.1 ∙ y.named) in
    let i : x.number ≡ y.number = ap (λ (z : ℕ × Function). z.0) both in
    let f : x.function ≡ y.function = ap (λ (z : ℕ × Function). z.1) both in
    let meant = subst (λ (p : ProgramTree). Meant p x.names) same.1 x.meant in
    let n : x.names ≡ y.names = ok_is x.names y.names (sym meant.names_are ∙ y.meant.names_are) in
    let declares = subst (λ (p : ProgramTree). Declares p x.names x.declared) same.1 x.declares in
    let d : x.declared ≡ y.declared = ok_is x.declared y.declared (sym declares.items ∙ ap (λ ns. declared_items y.program ns 0 y.program) n ∙ y.declares.items) in
    let o : x.outlives ≡ y.outlives = told_alike y.declared y.number x.outlives y.outlives (subst (λ (D : List Decl). Tells D y.number x.outlives) d (subst (λ j. Tells x.declared j x.outlives) i x.tells)) y.tells in
    x.is
    ∙ ap (λ (u : ℕ → ℕ → Bool). compacted_text u (is_single (slice_get x.declared x.number)) text x.parses.tokens x.function) o
    ∙ ap (λ (D : List Decl). compacted_text y.outlives (is_single (slice_get D x.number)) text x.parses.tokens x.function) d
    ∙ ap (λ j. compacted_text y.outlives (is_single (slice_get y.declared j)) text x.parses.tokens x.function) i
    ∙ ap (λ (ts : List Tok). compacted_text y.outlives (is_single (slice_get y.declared y.number)) text ts x.function) same.0
    ∙ ap (compacted_text y.outlives (is_single (slice_get y.declared y.number)) text y.parses.tokens) f
    ∙ sym y.is

pub unnamed : (text name a : List ℕ) → IsShortened text name a → IsUnnamed text name → ⊥
unnamed text name a x y = some_none (sym x.named ∙ ap (function_named name 0) (same_program text x.program y.program x.parses y.parses).1 ∙ y.none) where
  some_none : {z : ℕ × Function} → Some z ≡ None → ⊥
  some_none e = absurd (cc)
