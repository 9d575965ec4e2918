-- The edits of a function's signature and body stand in the places of tokens, so they can be made.
use Rattle.std.proofs.Common.{◌≡◌, ℕ, zero, suc, ◌+◌, ◌≤◌, Bool, List, [], ◌∷◌, ◌++◌, map, length, Option, Some, slice_get, refl, sym, ap, subst, ◌∙◌, arith, append_assoc}
use Rattle.rx_core.specs.declared.types.Span.{Span}
use Rattle.rx_tree.specs.Plain as plain
use Rattle.rx_tree.specs.Plain.{Function, ItemTree, ProgramTree}
use Rattle.rx_tree.specs.declared.tree.BoundLifetime.{BoundLifetime}
use Rattle.rx_lex.specs.Tok.{Tok}
use Rattle.rx_lex.specs.Tokens.{Lexes}
use Rattle.rx_lex.proofs.TokenLaws.{Ordered, tokens_in_order}
use Rattle.rx_parse_grammar.specs.grammar.Items.{IsItem, function, IsFile, no_item, item_and}
use Rattle.rx_splice.specs.Edits.{InOrder, AreEdits}
use Rattle.rx_splice_laws.specs.Edits.{Edit, written, Ordered as OrderedEdits, no_edit, edit_and}
use Rattle.rx_splice_laws.specs.EditsOf.{body_edits}
use Rattle.rx_compact_lifetimes.specs.Rewritten.{becomes}
use Rattle.rx_compact_lifetimes.specs.Merged.{merged, mergings_of}
use Rattle.rx_compact_lifetimes.specs.Elided.{in_body, elisions, elided}
use Rattle.rx_compact_text.specs.CompactedText.{becomes_both, list_edits, parameters_edits, optional_edits, let_edits, compacted_edits}
use Rattle.rx_compact_placed.proofs.Within.{Within, Stands, joined, one_kept, moved, placed, part_stands, text_stands}
use Rattle.rx_compact_placed.proofs.Lets.{parameters, answered, block}
use Rattle.rx_compact_placed.proofs.Angles.{listed}

in_order : {from to : ℕ} {es : List Edit} (low high : ℕ) → low ≤ from → to ≤ high → OrderedEdits from es to → InOrder low (map written es) high
in_order low high l h (no_edit k) = omega (arith, l, h, k)
in_order low high l h (edit_and {e = e} a b o) = (omega (arith, l, a), b, in_order e.to high (let k : e.to ≤ e.to = omega arith in k) h o)

-- by what becomes of names in the signature, and in the body
of_item : (text : List ℕ) (to : ℕ) (all pre ts post : List Tok) (s : Span) (f : Function) (h : ℕ) (m b : List ℕ → Option (List ℕ)) (new : List BoundLifetime)
    → all ≡ pre ++ (ts ++ post) → Ordered 0 to all → IsItem ts (plain.function_item s f) h
    → Within text (list_edits all f f.lifetimes new ++ (parameters_edits text m f.params ++ (optional_edits text m f.result ++ body_edits (let_edits text b) [] [] f.body))) ts
of_item text to all pre ts post s f h m b new is order (function k n o c ls us rs bs l ps r y i j e sk sn so sc dl dp dr db w) =
    moved w (one_kept k (one_kept n (joined
    (listed text 0 to all (pre ++ k ∷ []) ls ((o ∷ (us ++ (c ∷ (rs ++ bs)))) ++ post) n f l new refl dl whole order)
    (one_kept o (joined (parameters text m dp) (one_kept c (joined (answered text m dr) (block text b db [] []))))))))
  where
    whole : all ≡ ((pre ++ k ∷ []) ++ n ∷ []) ++ (ls ++ ((o ∷ (us ++ (c ∷ (rs ++ bs)))) ++ post))
    whole = is ∙ ap (λ x. pre ++ (x ++ post)) w
        ∙ ap (λ x. pre ++ (k ∷ n ∷ x)) (append_assoc ls (o ∷ (us ++ (c ∷ (rs ++ bs)))) post)
        ∙ sym (append_assoc pre (k ∷ []) (n ∷ (ls ++ ((o ∷ (us ++ (c ∷ (rs ++ bs)))) ++ post))))
        ∙ sym (append_assoc (pre ++ k ∷ []) (n ∷ []) (ls ++ ((o ∷ (us ++ (c ∷ (rs ++ bs)))) ++ post)))

-- the tokens of an item of a file
record Found (all : List Tok) (x : ItemTree) : Type 0 where
  pre : List Tok
  own : List Tok
  post : List Tok
  height : ℕ
  item : IsItem own x height
  is : all ≡ pre ++ (own ++ post)

item_of : {ts : List Tok} {p : ProgramTree} {h : ℕ} → IsFile ts p h → (i : ℕ) (x : ItemTree) → slice_get p i ≡ Some x → Found ts x
item_of no_item i x e = absurd (cc)
item_of (item_and us vs a is m n d r w) zero x e = record { pre = []; own = us; post = vs; height = m; item = subst (λ y. IsItem us y m) (some_is e) d; is = w } where
  some_is : Some a ≡ Some x → a ≡ x
  some_is e = cc
item_of (item_and us vs a is m n d r w) (suc i) x e =
    let f = item_of r i x e in
    record { pre = us ++ f.pre; own = f.own; post = f.post; height = f.height; item = f.item; is = w ∙ ap (λ y. us ++ y) f.is ∙ sym (append_assoc us f.pre (f.own ++ f.post)) }

pub fits : (text : List ℕ) (all : List Tok) (p : ProgramTree) (h : ℕ) → Lexes text all → IsFile all p h → (i : ℕ) (s : Span) (f : Function) → slice_get p i ≡ Some (plain.function_item s f)
    → (outlives : ℕ → ℕ → Bool) (single : Bool) → AreEdits text (map written (compacted_edits outlives single text all f))
fits text all p h d file i s f e outlives single =
    let x = item_of file i (plain.function_item s f) e in
    let g = merged outlives f in
    let rs = mergings_of outlives f in
    let order = tokens_in_order 0 text all d.tokens in
    let w = of_item text (0 + length text) all x.pre x.own x.post s f x.height (becomes_both rs (elisions single (in_body g.body) g)) (becomes rs) (elided single g).lifetimes x.is order x.item in
    let part = part_stands text x.pre x.own x.post (length text) (subst (λ ts. Stands text 0 ts (length text)) x.is (text_stands text all d.text d.tokens)) in
    let q = placed w part.0 part.1 part.2 in
    record { in_order = in_order 0 (length text) (omega arith) part.3 q.ordered; on_boundaries = q.bounded }
