-- A file in which the function of one item has a short signature.
use Rattle.std.proofs.Common.{◌≡◌, ℕ, zero, suc, Bool, List, [], ◌∷◌, ◌++◌, Some, slice_get, refl, sym, ap, subst, ◌∙◌, append_assoc}
use Rattle.rx_core.specs.declared.types.Span.{Span}
use Rattle.rx_tree.specs.declared.tree.BoundLifetime.{BoundLifetime}
use Rattle.rx_tree.specs.Lists.{Every}
use Rattle.rx_tree.specs.Plain as plain
use Rattle.rx_tree.specs.Plain.{Function, ItemTree, ProgramTree}
use Rattle.rx_tree.specs.Erase.{erase_item, erase_program, SameProgram}
use Rattle.rx_lex.specs.Tok.{Tok}
use Rattle.rx_lex.specs.Tokens.{Lexes, AreWords}
use Rattle.rx_parse_grammar.specs.grammar.Items.{IsItem, IsFile, no_item, item_and, Parses}
use Rattle.rx_parse_laws.proofs.ItemsAgain.{file_again}
use Rattle.rx_print_spelling.specs.Formed.{FormedBound, FormedItem}
use Rattle.rx_print_spelling.proofs.ItemsFormed.{text_formed}
use Rattle.rx_splice_laws.proofs.AsRead.{as_pieces}
use Rattle.rx_splice_laws.proofs.Put.{read_words}
use Rattle.rx_splice_laws.specs.EditsOf.{body_edits}
use Rattle.rx_splice_laws.proofs.Spelled.{EachEdit}
use Rattle.rx_splice_laws.proofs.Stars.{each-append}
use Rattle.rx_compact_lifetimes.specs.Rewritten.{becomes}
use Rattle.rx_compact_lifetimes.specs.Merged.{merged, mergings_of}
use Rattle.rx_compact_lifetimes.specs.Elided.{in_body, elisions, elided}
use Rattle.rx_compact.specs.Compacted.{compacted, compacted_item}
use Rattle.rx_compact_text.specs.CompactedText.{becomes_both, list_edits, parameters_edits, optional_edits, let_edits, compacted_edits, compacted_text}
use Rattle.rx_compact_placed.proofs.Placed.{fits}
use Rattle.rx_compact_read.proofs.Names.{merged_or_same, signature_or_same, list_formed}
use Rattle.rx_compact_read.proofs.Each.{IsTextual, textual, each_optional, each_parameter, each_let}
use Rattle.rx_compact_read.proofs.Lists.{list_text}
use Rattle.rx_compact_read.proofs.Textual.{textual_text}
use Rattle.rx_compact_read.proofs.Item.{item_read}

-- an item of a file, and the file with another in its place
record Found (outlives : ℕ → ℕ → Bool) (single : Bool) (all : List Tok) (p : ProgramTree) (i : ℕ) (x : ItemTree) (h : ℕ) : Type 0 where
  pre : List Tok
  own : List Tok
  post : List Tok
  height : ℕ
  item : IsItem own x height
  is : all ≡ pre ++ (own ++ post)
  tree : ItemTree → ProgramTree
  again : (ts : List Tok) (y : ItemTree) → IsItem ts y height → IsFile (pre ++ (ts ++ post)) (tree y) h
  alike : (y z : ItemTree) → erase_item y ≡ erase_item z → erase_program (tree y) ≡ erase_program (tree z)
  want : compacted outlives single p i ≡ tree (compacted_item outlives single x)

some_is : {A : Type 0} (a x : A) → Some a ≡ Some x → a ≡ x
some_is a x e = cc

found : (outlives : ℕ → ℕ → Bool) (single : Bool) {ts : List Tok} {p : ProgramTree} {h : ℕ} → IsFile ts p h → (i : ℕ) (x : ItemTree) → slice_get p i ≡ Some x → Found outlives single ts p i x h
found outlives single no_item i x e = absurd (cc)
found outlives single (item_and us vs a is m n d r w) zero x e = record {
  pre = [];
  own = us;
  post = vs;
  height = m;
  item = subst (λ y. IsItem us y m) (some_is a x e) d;
  is = w;
  tree = λ y. y ∷ is;
  again = λ ts y q. item_and ts vs y is m n q r refl;
  alike = λ y z k. ap (λ t. t ∷ erase_program is) k;
  want = ap (λ y. compacted_item outlives single y ∷ is) (some_is a x e);
}
found outlives single (item_and us vs a is m n d r w) (suc i) x e =
    let f = found outlives single r i x e in record {
      pre = us ++ f.pre;
      own = f.own;
      post = f.post;
      height = f.height;
      item = f.item;
      is = w ∙ ap (λ y. us ++ y) f.is ∙ sym (append_assoc us f.pre (f.own ++ f.post));
      tree = λ y. a ∷ f.tree y;
      again = λ ts y q. item_and us (f.pre ++ (ts ++ f.post)) a (f.tree y) m n d (f.again ts y q) (append_assoc us f.pre (ts ++ f.post));
      alike = λ y z k. ap (λ t. erase_item a ∷ t) (f.alike y z k);
      want = ap (λ t. a ∷ t) f.want;
    }

every_at : (P : ItemTree → Type 0) (xs : ProgramTree) (i : ℕ) (x : ItemTree) → Every P xs → slice_get xs i ≡ Some x → P x
every_at P [] i x f e = absurd (cc)
every_at P (a ∷ xs) zero x f e = subst P (some_is a x e) f.0
every_at P (a ∷ xs) (suc i) x f e = every_at P xs i x f.1 e

words_of_text : (text : List ℕ) (all : List Tok) → Lexes text all → AreWords all
words_of_text text all d = let w = as_pieces d.tokens in subst AreWords w.placed (read_words 0 w.pieces [] w.reads)

-- each edit writes a text
edits_textual : (text : List ℕ) (all : List Tok) (f : Function) (outlives : ℕ → ℕ → Bool) (single : Bool) → Every FormedBound f.lifetimes → EachEdit IsTextual (compacted_edits outlives single text all f)
edits_textual text all f outlives single F =
    let g = merged outlives f in
    let m = becomes_both (mergings_of outlives f) (elisions single (in_body g.body) g) in
    let mb = becomes (mergings_of outlives f) in
    let new = (elided single g).lifetimes in
    let K = signature_or_same outlives single f F in
    let rest = body_edits (let_edits text mb) [] [] f.body in
    each-append IsTextual (list_edits all f f.lifetimes new) (parameters_edits text m f.params ++ (optional_edits text m f.result ++ rest)) (of_list f.lifetimes)
    (each-append IsTextual (parameters_edits text m f.params) (optional_edits text m f.result ++ rest) (each_parameter IsTextual textual text m K f.params)
    (each-append IsTextual (optional_edits text m f.result) rest (each_optional IsTextual textual text m K f.result) (each_let IsTextual textual text mb (merged_or_same outlives f F) f.body)))
  where
    of_list : (ls : List BoundLifetime) → EachEdit IsTextual (list_edits all f ls (elided single (merged outlives f)).lifetimes)
    of_list [] = tt
    of_list (l ∷ ls) = (list_text (elided single (merged outlives f)).lifetimes (list_formed outlives single f F), tt)

pub short_read : (text : List ℕ) (p : ProgramTree) (parses : Parses text p) (i : ℕ) (s : Span) (f : Function) → slice_get p i ≡ Some (plain.function_item s f) → (outlives : ℕ → ℕ → Bool) (single : Bool)
    → (q : ProgramTree) × Parses (compacted_text outlives single text parses.tokens f) q × SameProgram q (compacted outlives single p i)
short_read text p parses i s f e outlives single =
    let all = parses.tokens in
    let d = parses.lexed in
    let w = found outlives single parses.derived i (plain.function_item s f) e in
    let formed = every_at FormedItem p i (plain.function_item s f) (text_formed text all p parses.height d parses.derived) e in
    let r = item_read text all w.pre w.own w.post s f w.height d (words_of_text text all d) w.is w.item formed outlives single in
    let a = file_again (w.again r.own r.tree r.derived) r.tokens r.alike in
    let u = textual_text text (compacted_edits outlives single text all f) d.text (fits text all p parses.height d parses.derived i s f e outlives single) (edits_textual text all f outlives single formed.1) in (
      a.tree,
      record { tokens = r.tokens; lexed = record { text = u; tokens = r.read }; height = parses.height; derived = a.derived; low = parses.low },
      a.same ∙ w.alike r.tree (plain.function_item s (elided single (merged outlives f))) r.same ∙ ap erase_program (sym w.want),
    )
