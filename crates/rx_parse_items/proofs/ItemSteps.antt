-- Steps of the parsers of bounds and of files, for the goals of the loops: each is its equation at what the next token is.
use Rattle.std.proofs.Common.{◌≡◌, ℕ, suc, max, true, false, List, [], ◌∷◌, ◌++◌, Ok, Err, ap, sym, ◌∙◌}
use Rattle.rx_core.specs.declared.types.Span.{Span}
use Rattle.rx_tree.specs.declared.tree.Ident.{Ident}
use Rattle.rx_tree.specs.Plain.{ItemTree}
use Rattle.rx_lex.specs.Tok.{Tok}
use Rattle.rx_parse_grammar.specs.declared.stop.Stop.{Stop}
use Rattle.rx_parse_grammar.specs.declared.symbol.Symbol.TheVariants as symbol
use Rattle.rx_parse_grammar.specs.grammar.Words.{ident}
use Rattle.rx_parse_grammar.specs.parser.Symbols.{tail}
use Rattle.rx_parse_grammar.specs.parser.Steps.{Got, sees, expect}
use Rattle.rx_parse_grammar.specs.parser.Items.{bounds_from, item, items_from}
use Rattle.rx_parse_cursor.specs.Elements.{another}
use Rattle.rx_parse_cursor.proofs.ListSteps.{fault_of, made_of, with_one}
use Rattle.rx_parse_items.specs.ItemsOf.{another_bound}

-- ---- the bounds of a lifetime

abbrev with_name : List Ident → Tok → List Ident × Span
with_name found t = (found ++ (ident t ∷ []), t.span)

module _ (n : ℕ) (found : List Ident) where
  pub bounds_fault : (i : List Tok) (f : Stop) → another_bound found i ≡ Err f → bounds_from (suc n) found i ≡ Err f
  unfolding bounds_from
  bounds_fault i f e = let q : expect symbol.Lifetime i ≡ Err f = fault_of (with_name found) (expect symbol.Lifetime i) f e in rw q

  last_of : (t : Tok) (i j : List Tok) → expect symbol.Lifetime i ≡ Ok (t, j) → sees symbol.Plus j ≡ false → bounds_from (suc n) found i ≡ Ok (with_name found t, j)
  unfolding bounds_from
  last_of t i j e s = rw (e, s)

  more_of : (t : Tok) (i j : List Tok) → expect symbol.Lifetime i ≡ Ok (t, j) → sees symbol.Plus j ≡ true → bounds_from (suc n) found i ≡ bounds_from n (with_name found t).0 (tail j)
  unfolding bounds_from expect
  more_of t i j e s = rw (e, s)

  pub bounds_last : (all : List Ident) (last : Span) (i j : List Tok) → another_bound found i ≡ Ok ((all, last), j) → sees symbol.Plus j ≡ false
      → bounds_from (suc n) found i ≡ Ok ((all, last), j)
  bounds_last all last i j r s =
      let q = made_of (with_name found) (expect symbol.Lifetime i) (all, last) j r in
      last_of q.0 i j q.1 s ∙ ap (λ z. Ok (z, j)) (sym q.2)

  pub bounds_more : (all : List Ident) (last : Span) (i j : List Tok) → another_bound found i ≡ Ok ((all, last), j) → sees symbol.Plus j ≡ true
      → bounds_from (suc n) found i ≡ bounds_from n all (tail j)
  bounds_more all last i j r s =
      let q = made_of (with_name found) (expect symbol.Lifetime i) (all, last) j r in
      more_of q.0 i j q.1 s ∙ ap (λ z. bounds_from n z.0 (tail j)) (sym q.2)

-- ---- the items of a file

module _ (d n : ℕ) (found : List ItemTree) (h : ℕ) where
  pub items_end : (i : List Tok) → sees symbol.End i ≡ true → items_from d (suc n) found h i ≡ Ok ((found, h), i)
  unfolding items_from
  items_end i s = rw s

  pub items_fault : (i : List Tok) (f : Stop) → sees symbol.End i ≡ false → another (item d) found h i ≡ Err f → items_from d (suc n) found h i ≡ Err f
  unfolding items_from
  items_fault i f s e = let q : item d i ≡ Err f = fault_of (with_one found h) (item d i) f e in rw (s, q)

  next_of : (x : Got ItemTree) (i j : List Tok) → sees symbol.End i ≡ false → item d i ≡ Ok (x, j)
      → items_from d (suc n) found h i ≡ items_from d n (found ++ (x.tree ∷ [])) (max h x.height) j
  unfolding items_from
  next_of x i j s e = rw (s, e)

  pub items_more : (all : List ItemTree) (m : ℕ) (i j : List Tok) → sees symbol.End i ≡ false → another (item d) found h i ≡ Ok ((all, m), j)
      → items_from d (suc n) found h i ≡ items_from d n all m j
  items_more all m i j s e =
      let q = made_of (with_one found h) (item d i) (all, m) j e in
      next_of q.0 i j s q.1 ∙ ap (λ z. items_from d n z.0 z.1 j) (sym q.2)
