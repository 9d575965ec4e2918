-- The text with a short signature by what is declared is that of the text.
use Rattle.std.proofs.Common.{◌≡◌, ℕ, ◌<◌, ◌≤◌, ◌^◌, Bool, List, length, map, Option, Some, None, SomeIff, Result, Ok, Err, slice_get, MatchResult, sym, ap, subst, ◌∙◌, arith}
use Rattle.std.proofs.lemmas.List.{length-map}
use Rattle.rx_tree.specs.declared.tree.Item.{Item}
use Rattle.rx_tree.specs.Plain as plain
use Rattle.rx_tree.specs.PlainOf.{plain-Item}
use Rattle.rx_tree.specs.Plain.{Function, ProgramTree}
use Rattle.rx_core.specs.declared.types.Span.{Span}
use Rattle.rx_lex.specs.Tok.{Tok}
use Rattle.rx_lex.specs.Tokens.{Lexes}
use Rattle.rx_typed.specs.declared.declarations.Decl.{Decl}
use Rattle.rx_parse_grammar.specs.grammar.Items.{IsFile, Parses}
use Rattle.rx_typeck_typed.specs.declared.typed.Typed.{Typed}
use Rattle.rx_check.specs.Front.{Judged, IsCheckedOf}
use Rattle.rx_check.specs.Passes.{IsAccepted}
use Rattle.rx_splice.specs.Edits.{AreEdits}
use Rattle.rx_splice_laws.specs.Edits.{written}
use Rattle.rx_compact.specs.Outliving.{is_single}
use Rattle.rx_compact.specs.Compacted.{Tells}
use Rattle.rx_compact_text.specs.CompactedText.{compacted_edits, compacted_text}
use Rattle.rx_compact_tree.proofs.Recorded.{tells_alike, single_alike}
use Rattle.rx_compact_call.specs.Named.{function_named}
use Rattle.rx_compact_call.specs.Shortened.{most_bytes, IsShortened, IsUnnamed, Answers}
use Rattle.rx_compact_call.proofs.Finding.{stands}
use Rattle.rx_compact_call.specs.Making.{IsMadeOf, IsShortBy, Fits, Shortens, IsLimit}
use Rattle.rx_compact_call.specs.declared.fault.CompactFault.{CompactFault}
use Rattle.rx_compact_call.specs.declared.fault.CompactFault.TheVariants as fault

-- ---- by what is declared

-- where P holds there is one
some_there : {A : Type 0} (o : Option A) (P : Type 0) (v : A) → P → SomeIff o P v → o ≡ Some v
some_there None P v p h = absurd (h p)
some_there (Some x) P v p h = ap (λ y. Some y) h.1

pub made_of : (D : List Decl) (i : ℕ) (text : List ℕ) (all : List Tok) (f : Function) (o : ℕ → ℕ → Bool) (b : Bool) → Tells D i o → b ≡ is_single (slice_get D i) → (it : Option (List ℕ))
    → SomeIff it (AreEdits text (map written (compacted_edits o b text all f))) (compacted_text o b text all f) → IsMadeOf D i text all f it
made_of D i text all f o b tells single it h =
    let s = is_single (slice_get D i) in record {
      outlives = o;
      tells = tells;
      is = λ a. some_there it (AreEdits text (map written (compacted_edits o s text all f))) (compacted_text o s text all f) a
          (subst (λ (x : Bool). SomeIff it (AreEdits text (map written (compacted_edits o x text all f))) (compacted_text o x text all f)) single h);
    }

-- by the declarations and the text that were given
pub made_there : (D E : List Decl) (i : ℕ) (text chars : List ℕ) (all : List Tok) (f : Function) (o u : Option (List ℕ)) → E ≡ D → chars ≡ text → o ≡ u → IsMadeOf E i chars all f o → IsMadeOf D i text all f u
made_there D E i text chars all f o u d t e m =
    subst (λ (v : Option (List ℕ)). IsMadeOf D i text all f v) e (subst (λ (b : List ℕ). IsMadeOf D i b all f o) t (subst (λ (C : List Decl). IsMadeOf C i chars all f o) d m))

-- there is one where its edits fit
pub made_none : (D : List Decl) (i : ℕ) (text : List ℕ) (all : List Tok) (f : Function) → IsMadeOf D i text all f None → Fits text all f → ⊥
made_none D i text all f m fits = none_some (m.is (fits m.outlives (is_single (slice_get D i)))) where
  none_some : {x : List ℕ} → None ≡ Some x → ⊥
  none_some e = absurd (cc)

pub made_short : (D : List Decl) (i : ℕ) (text : List ℕ) (all : List Tok) (f : Function) (bytes : List ℕ) → IsMadeOf D i text all f (Some bytes) → Fits text all f → IsShortBy D i text all f bytes
made_short D i text all f bytes m fits = record {
  outlives = m.outlives;
  tells = m.tells;
  is = some_is (m.is (fits m.outlives (is_single (slice_get D i))));
} where
  some_is : {x y : List ℕ} → Some x ≡ Some y → x ≡ y
  some_is h = cc

pub short_or_long : (D : List Decl) (i : ℕ) (text : List ℕ) (all : List Tok) (f : Function) (bytes : List ℕ) → IsShortBy D i text all f bytes → (r : Result (List ℕ) CompactFault)
    → MatchResult r (λ it. (it ≡ bytes) × (length bytes ≤ most_bytes)) (λ e. IsLimit bytes e) → Shortens D i text all f r
short_or_long D i text all f bytes s (Ok it) h = (subst (IsShortBy D i text all f) (sym h.0) s, subst (λ b. length b ≤ most_bytes) (sym h.0) h.1)
short_or_long D i text all f bytes s (Err (fault.Limit w n)) h = record { bytes = bytes; short = s; limit = h }
short_or_long D i text all f bytes s (Err (fault.Syntax e)) h = absurd h
short_or_long D i text all f bytes s (Err (fault.NotAccepted e)) h = absurd h
short_or_long D i text all f bytes s (Err fault.NoFunction) h = absurd h
short_or_long D i text all f bytes s (Err fault.OutOfMemory) h = absurd h

-- ---- of the text

module _ (text name : List ℕ) (p : ProgramTree) (parses : Parses text p) (t : Typed) (accepted : IsAccepted p t) (i : ℕ) (f : Function) (named : function_named name 0 p ≡ Some (i, f)) where
  shortened : (bytes : List ℕ) → IsShortBy t.decls.items i text parses.tokens f bytes → IsShortened text name bytes
  shortened bytes s =
      let typed = accepted.front.typed in record {
        program = p;
        parses = parses;
        accepted = (t, accepted);
        number = i;
        function = f;
        named = named;
        names = accepted.front.names;
        meant = accepted.front.meant;
        declared = typed.declared;
        declares = typed.declares;
        outlives = s.outlives;
        tells = tells_alike t.decls.items typed.declared typed.same i s.outlives s.tells;
        is = s.is ∙ ap (λ b. compacted_text s.outlives b text parses.tokens f) (single_alike t.decls.items typed.declared typed.same i);
      }

  pub answers : (r : Result (List ℕ) CompactFault) → Shortens t.decls.items i text parses.tokens f r → Answers text name r
  answers (Ok bytes) h = (shortened bytes h.0, h.1)
  answers (Err (fault.Limit w n)) h = (h.limit.0, (h.bytes, shortened h.bytes h.short, h.limit.1, h.limit.2))
  answers (Err (fault.Syntax e)) h = absurd h.limit
  answers (Err (fault.NotAccepted e)) h = absurd h.limit
  answers (Err fault.NoFunction) h = absurd h.limit
  answers (Err fault.OutOfMemory) h = tt

-- ---- of the text: it has no such function, or the edits of the function fit

pub unnamed : (text name : List ℕ) (p : ProgramTree) (parses : Parses text p) (t : Typed) → IsAccepted p t → None ≡ function_named name 0 p → IsUnnamed text name
unnamed text name p parses t accepted none = record { program = p; parses = parses; accepted = (t, accepted); none = sym none }

-- as each short signature of a function of a text that is read does
pub fits_there : ((text : List ℕ) (all : List Tok) (p : ProgramTree) (h : ℕ) → Lexes text all → IsFile all p h → (i : ℕ) (s : Span) (f : Function) → slice_get p i ≡ Some (plain.function_item s f)
    → (outlives : ℕ → ℕ → Bool) (single : Bool) → AreEdits text (map written (compacted_edits outlives single text all f)))
    → (text name : List ℕ) (p : ProgramTree) (parses : Parses text p) (all : List Tok) → all ≡ parses.tokens → (i : ℕ) (f : Function) → function_named name 0 p ≡ Some (i, f) → Fits text all f
fits_there fit text name p parses all same i f named = let there = stands name p i f named in
    subst (λ (ts : List Tok). Fits text ts f) (sym same) (fit text parses.tokens p parses.height parses.lexed parses.derived i there.span f there.is)

-- ---- of a program that is checked

pub accepted_by : (p : ProgramTree) (x : Judged) → IsCheckedOf p x → IsAccepted p x.front.typed
accepted_by p x checked = record { front = checked.front.accepted; borrows = checked.borrows }

pub few_items : (is all : List Item) → is ≡ all → length (map plain-Item all) < 2 ^ 32 → length is < 2 ^ 32
few_items is all same few = let n = ap (λ (l : List Item). length l) same in let m = length-map all plain-Item in omega (arith, n, m, few)
