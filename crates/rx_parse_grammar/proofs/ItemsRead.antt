-- An item that the grammar derives is read, and so is a file.
use Rattle.std.proofs.Common.{◌≡◌, ℕ, zero, suc, ◌+◌, ◌≤◌, max, Bool, true, false, List, [], ◌∷◌, ◌++◌, length, Option, Some, None, Ok, codes, refl, sym, ap, subst, ◌∙◌, arith, append_assoc, append-nil, length-append}
use Rattle.std.specs.Prelude.{◌≢◌}
use Rattle.rx_core.specs.declared.types.Span.{Span}
use Rattle.rx_tree.specs.declared.tree.Ident.{Ident}
use Rattle.rx_tree.specs.declared.tree.Derive.{Derive}
use Rattle.rx_tree.specs.declared.tree.BoundLifetime.{BoundLifetime}
use Rattle.rx_tree.specs.Plain as plain
use Rattle.rx_tree.specs.Plain.{TypeTree, Body, Parameter, FieldOf, VariantOf, ItemTree, ProgramTree}
use Rattle.rx_tree.specs.PlainOf.{types_of}
use Rattle.rx_lex.specs.Tok.{Tok}
use Rattle.rx_parse_grammar.specs.declared.symbol.Symbol.{Symbol}
use Rattle.rx_parse_grammar.specs.declared.symbol.Symbol.TheVariants as symbol
use Rattle.rx_parse_grammar.specs.grammar.Words.{IsNamed, IsMutability, immutable, mutable, IsListOf, no_element, last_element, element, join, final_span, span_of, ident}
use Rattle.rx_parse_grammar.specs.grammar.Expressions.{IsBlock}
use Rattle.rx_parse_grammar.specs.grammar.Items.{IsDerivedName, AreDerives, IsLifetimeParameter, AreLifetimes, AreBounds, IsBoundLifetime, AreBoundLifetimes, IsStructField, IsVariant, IsParameter, IsResult, IsItem, IsFile}
use Rattle.rx_parse_grammar.specs.grammar.Items as g
use Rattle.rx_parse_grammar.specs.parser.Symbols.{peek}
use Rattle.rx_parse_grammar.specs.parser.Steps.{Got, pure}
use Rattle.rx_parse_grammar.specs.parser.Items as parser
use Rattle.rx_parse_grammar.specs.parser.Items.{piece, start_of, derived_by, item_by, parameter_by, items_from}
use Rattle.rx_parse_grammar.proofs.SymbolLemmas.{Stands}
use Rattle.rx_parse_grammar.proofs.Reading.{Reads, take, part, last, done, by, here, there, along, first_is, got, placed, span_between, span_past, differs, deeper, some_length, mapped, Element, Closes, closes_paren, listed, some_listed}
use Rattle.rx_parse_grammar.proofs.WordSteps.{take_word, here_word, there_word}
use Rattle.rx_parse_grammar.proofs.TypesRead.{type_complete, types_complete, type_some, EndsType}
use Rattle.rx_parse_grammar.proofs.ExpressionsFront.{block_some}
use Rattle.rx_parse_grammar.proofs.ReadParts.{block_next}
use Rattle.rx_parse_grammar.proofs.ExpressionsRead.{block_complete}

abbrev Anything : Symbol → Type 0
Anything q = zero ≡ zero

-- ---- derives

name_element : (us : List Tok) (x : Derive) (h : ℕ) → IsDerivedName us x h → Element parser.derived_name Anything symbol.CloseParen us x h
unfolding parser.derived_name
name_element us x h (g.clone t s) = record {
  front = λ rest a. let z = sym (first_is symbol.Name t refl s.0) ∙ a in cc;
  reads = λ rest n. here_word _ (codes "Clone") t s (take_word _ (codes "Clone") t s (done refl));
}
name_element us x h (g.copy t s) = record {
  front = λ rest a. let z = sym (first_is symbol.Name t refl s.0) ∙ a in cc;
  reads = λ rest n. there_word _ (codes "Clone") t (λ a. let z : codes "Copy" ≡ codes "Clone" = sym s.1 ∙ a in cc) (take_word _ (codes "Copy") t s (done refl));
}

derives_read : (rest : List Tok) (b n o c e : Tok) (us : List Tok) (x : Derive) (xs : List Derive) → Stands symbol.OpenBracket b → IsNamed (codes "derive") n → Stands symbol.OpenParen o → Stands symbol.CloseParen c
    → Stands symbol.CloseBracket e → IsListOf IsDerivedName us (x ∷ xs) 0 → Reads parser.derives (b ∷ n ∷ o ∷ (us ++ (c ∷ e ∷ []))) (x ∷ xs) rest
unfolding parser.derives
derives_read rest b n o c e us x xs sb sn so sc se l = take _ symbol.OpenBracket b refl sb (take_word _ (codes "derive") n sn (take _ symbol.OpenParen o refl so
    (some_listed _ Anything c refl refl (closes_paren c sc) (mapped name_element l) (take _ symbol.CloseBracket e refl se (done refl)))))

-- ---- lifetimes

closes_greater : (c : Tok) → Stands symbol.Greater c → Closes symbol.Greater c
closes_greater c s = record { word = refl; stands = s; no_comma = λ a. cc }

closes_brace : (c : Tok) → Stands symbol.CloseBrace c → Closes symbol.CloseBrace c
closes_brace c s = record { word = refl; stands = s; no_comma = λ a. cc }

parameter_element : (us : List Tok) (x : Ident) (h : ℕ) → IsLifetimeParameter us x h → Element parser.lifetime_parameter Anything symbol.Greater us x h
unfolding parser.lifetime_parameter
parameter_element us x h (g.lifetime_parameter t s) = record {
  front = λ rest a. let z = sym (first_is symbol.Lifetime t refl s) ∙ a in cc;
  reads = λ rest n. take _ symbol.Lifetime t refl s (done refl);
}

lifetimes_read : {ls : List Tok} {l : List Ident} → AreLifetimes ls l → (rest : List Tok) → peek rest ≢ symbol.Less → Reads parser.lifetimes ls l rest
unfolding parser.lifetimes
lifetimes_read g.no_lifetime rest n = there _ n (done refl)
lifetimes_read (g.lifetimes o c us l ls so sc r is) rest n =
    along is (here _ (first_is symbol.Less o refl so) (take _ symbol.Less o refl so (some_listed _ Anything c refl refl (closes_greater c sc) (mapped parameter_element r) (done refl))))

bounds_same : (found : List Ident) (x : Ident) (ls : List Ident) (s : Span) → (let p : List Ident × Span = ((found ++ (x ∷ [])) ++ ls, s) in p) ≡ (found ++ (x ∷ ls), s)
bounds_same found x ls s = ap (λ l. (let p : List Ident × Span = (l, s) in p)) (append_assoc found (x ∷ []) ls)

bounds_read : {us : List Tok} {ls : List Ident} → AreBounds us ls → (s : Span) (rest : List Tok) → peek rest ≢ symbol.Plus → (n : ℕ) (found : List Ident) → length us ≤ n
    → Reads (parser.bounds_from n found) us (found ++ ls, final_span s us) rest
unfolding parser.bounds_from
bounds_read (g.last_bound t sl) s rest e zero found b = absurd (omega arith)
bounds_read (g.last_bound t sl) s rest e (suc n) found b = take _ symbol.Lifetime t refl sl (there _ e (done refl))
bounds_read (g.bound_and t p us ls sl sp more) s rest e zero found b = absurd (omega arith)
bounds_read (g.bound_and t p us ls sl sp more) s rest e (suc n) found b =
    take _ symbol.Lifetime t refl sl (here _ (first_is symbol.Plus p refl sp) (take _ symbol.Plus p refl sp
    (subst (λ y. Reads (parser.bounds_from n (found ++ (ident t ∷ []))) us y rest) (bounds_same found (ident t) ls (final_span p.span us)) (bounds_read more p.span rest e n (found ++ (ident t ∷ [])) (omega arith)))))

-- what may follow a lifetime with bounds
ends_bounds : Symbol → Bool
ends_bounds symbol.Comma = true
ends_bounds symbol.Greater = true
ends_bounds _ = false

abbrev EndsBounds : Symbol → Type 0
EndsBounds q = ends_bounds q ≡ true

bound_element : (us : List Tok) (x : BoundLifetime) (h : ℕ) → IsBoundLifetime us x h → Element parser.bound_lifetime EndsBounds symbol.Greater us x h
unfolding parser.bound_lifetime parser.bounds ends_bounds
bound_element us x h (g.unbounded t s) = record {
  front = λ rest a. let z = sym (first_is symbol.Lifetime t refl s) ∙ a in cc;
  reads = λ rest n. take _ symbol.Lifetime t refl s (there _ (differs ends_bounds (peek rest) symbol.Colon n refl) (done refl));
}
bound_element us x h (g.bounded t c ws ls s sc r) = record {
  front = λ rest a. let z = sym (first_is symbol.Lifetime t refl s) ∙ a in cc;
  reads = λ rest n. take _ symbol.Lifetime t refl s (here _ (first_is symbol.Colon c refl sc) (take _ symbol.Colon c refl sc
      (last {p = parser.bounds} (λ l. pure (piece (record { name = ident t; bounds = l.0 }) 0 (join t.span l.1)))
      (record { read = (bounds_read r c.span rest (differs ends_bounds (peek rest) symbol.Plus n refl) (length (ws ++ rest)) [] (omega (arith, length-append ws rest))).read }) (done refl))));
}

bound_lifetimes_read : {ls : List Tok} {l : List BoundLifetime} → AreBoundLifetimes ls l → (rest : List Tok) → peek rest ≢ symbol.Less → Reads parser.bound_lifetimes ls l rest
unfolding parser.bound_lifetimes ends_bounds
bound_lifetimes_read g.no_bound_lifetime rest n = there _ n (done refl)
bound_lifetimes_read (g.bound_lifetimes o c us l ls so sc r is) rest n =
    along is (here _ (first_is symbol.Less o refl so) (take _ symbol.Less o refl so (some_listed _ EndsBounds c refl refl (closes_greater c sc) (mapped bound_element r) (done refl))))

-- ---- fields, variants and parameters

-- elements of at most so many levels
bounded : {A : Type 0} {D E : List Tok → A → ℕ → Type 0} (d : ℕ) → ((us : List Tok) (x : A) (h : ℕ) → h ≤ d → D us x h → E us x h) → {us : List Tok} {xs : List A} {h : ℕ} → h ≤ d → IsListOf D us xs h → IsListOf E us xs h
bounded d f b no_element = no_element
bounded d f b (last_element {ts = us} {x = x} {h = h} e) = last_element (f us x h b e)
bounded d f b (element us vs c x xs m n e s l is) = element us vs c x xs m n (f us x m (omega arith) e) s (bounded d f (omega arith) l) is

field_reads : (d : ℕ) {us : List Tok} {f : FieldOf} {h : ℕ} → IsStructField us f h → h ≤ d → (rest : List Tok) → peek rest ≢ symbol.Less → Reads (parser.struct_field d) us (got us f h) rest
unfolding parser.struct_field
field_reads d {us = us} {h = h} (g.struct_field n c ws y k sn sc r is) b rest e =
    placed (λ s. record { name = ident n; typ = y }) (n ∷ c ∷ ws) is (take _ symbol.Name n refl sn (take _ symbol.Colon c refl sc (last _ (type_complete r d b rest e)
    (done (ap (λ s. piece (record { name = ident n; typ = y }) k s) (span_past n (c ∷ []) ws (type_some r)))))))

field_front : {us : List Tok} {f : FieldOf} {h : ℕ} → IsStructField us f h → (rest : List Tok) → peek (us ++ rest) ≡ symbol.Name
field_front (g.struct_field n c ws y h sn sc r is) rest = ap (λ z. peek (z ++ rest)) is ∙ first_is symbol.Name n refl sn

field_element : (d : ℕ) (us : List Tok) (f : FieldOf) (h : ℕ) → h ≤ d → IsStructField us f h → Element (parser.struct_field d) EndsType symbol.CloseBrace us f h
field_element d us f h b r = record { front = λ rest a. let z = sym (field_front r rest) ∙ a in cc; reads = λ rest e. field_reads d r b rest e }

-- what may follow a variant
ends_variant : Symbol → Bool
ends_variant symbol.Comma = true
ends_variant symbol.CloseBrace = true
ends_variant _ = false

abbrev EndsVariant : Symbol → Type 0
EndsVariant q = ends_variant q ≡ true

variant_element : (d : ℕ) (us : List Tok) (x : VariantOf) (h : ℕ) → h ≤ d → IsVariant us x h → Element (parser.variant d) EndsVariant symbol.CloseBrace us x h
unfolding parser.variant ends_variant
variant_element d us x h b (g.variant n sn) = record {
  front = λ rest a. let z = sym (first_is symbol.Name n refl sn) ∙ a in cc;
  reads = λ rest e. take _ symbol.Name n refl sn (there _ (differs ends_variant (peek rest) symbol.OpenParen e refl) (done refl));
}
variant_element d us x h b (g.variant_with n o c ws y ys k sn so sc r is) = record {
  front = λ rest a. let z : peek (us ++ rest) ≡ symbol.Name = ap (λ w. peek (w ++ rest)) is ∙ first_is symbol.Name n refl sn in let w = sym z ∙ a in cc;
  reads = λ rest e. placed (λ s. record { name = ident n; types = types_of (y ∷ ys) }) (n ∷ o ∷ (ws ++ (c ∷ []))) is (take _ symbol.Name n refl sn (here _ (first_is symbol.OpenParen o refl so) (take _ symbol.OpenParen o refl so
      (some_listed _ EndsType c (λ a. cc) (λ a. cc) (closes_paren c sc) (types_complete r d b symbol.CloseParen refl)
      (done (ap (λ s. piece (record { name = ident n; types = types_of (y ∷ ys) }) h s) (span_between (o ∷ ws) n c)))))));
}

-- a parameter behind its `mut`, where it stands
begins_parameter : Symbol → Bool
begins_parameter symbol.Name = true
begins_parameter symbol.Mut = true
begins_parameter _ = false

parameter_plain : (d : ℕ) (q : Symbol) → q ≡ symbol.Name → parameter_by d q ≡ parameter_by d symbol.Name
parameter_plain d q e = ap (parameter_by d) e

mutable_reads : (d : ℕ) {ms : List Tok} {m : Bool} → IsMutability ms m → (ws : List Tok) (f : FieldOf) (h : ℕ) (rest : List Tok) → ws ≢ [] → peek (ws ++ rest) ≡ symbol.Name → Reads (parser.struct_field d) ws (got ws f h) rest
    → Reads (parser.parameter d) (ms ++ ws) (got (ms ++ ws) (record { name = f.name; mutable = m; typ = f.typ }) h) rest
unfolding parser.parameter
mutable_reads d immutable ws f h rest some e r = by (parameter_by d) symbol.Name e (last _ r (done refl))
mutable_reads d (mutable t st) ws f h rest some e r = by (parameter_by d) symbol.Mut (first_is symbol.Mut t refl st) (take _ symbol.Mut t refl st (last _ r
    (done (ap (λ s. piece (record { name = f.name; mutable = true; typ = f.typ }) h s) (span_past t [] ws some)))))

mutable_front : {ms : List Tok} {m : Bool} → IsMutability ms m → (ws rest : List Tok) → peek (ws ++ rest) ≡ symbol.Name → begins_parameter (peek ((ms ++ ws) ++ rest)) ≡ true
unfolding begins_parameter
mutable_front immutable ws rest e = ap begins_parameter e
mutable_front (mutable t st) ws rest e = ap begins_parameter (first_is symbol.Mut t refl st)

not_paren : (q : Symbol) → begins_parameter q ≡ true → q ≢ symbol.CloseParen
unfolding begins_parameter
not_paren q e = differs begins_parameter q symbol.CloseParen e refl

parameter_listed : (d : ℕ) (us : List Tok) (x : Parameter) (h : ℕ) → h ≤ d → IsParameter us x h → Element (parser.parameter d) EndsType symbol.CloseParen us x h
parameter_listed d us x h b (g.parameter ms ws n c m y k sm sn sc r is) =
    let f : FieldOf = record { name = ident n; typ = y } in
    let inner : IsStructField (n ∷ c ∷ ws) f h = g.struct_field n c ws y h sn sc r refl in
    record {
      front = λ rest. not_paren (peek (us ++ rest)) (ap (λ w. begins_parameter (peek (w ++ rest))) is ∙ mutable_front sm (n ∷ c ∷ ws) rest (field_front inner rest));
      reads = λ rest e. placed (λ s. record { name = ident n; mutable = m; typ = y }) (ms ++ (n ∷ c ∷ ws)) is
          (mutable_reads d sm (n ∷ c ∷ ws) f h rest (λ a. cc) (field_front inner rest) (field_reads d inner b rest e));
    }

result_reads : {rs : List Tok} {r : Option TypeTree} {i : ℕ} → IsResult rs r i → (d : ℕ) → i ≤ d → (rest : List Tok) → peek rest ≡ symbol.OpenBrace → Reads (parser.result d) rs (r, i) rest
unfolding parser.result
result_reads g.no_result d b rest e = there _ (λ a. let z = sym e ∙ a in cc) (done refl)
result_reads (g.result a us y h sa r is) d b rest e =
    along is (here _ (first_is symbol.Arrow a refl sa) (take _ symbol.Arrow a refl sa (last _ (type_complete r d b rest (λ z. let w = sym e ∙ z in cc)) (done refl))))

-- ---- items

piece_is : (ts : List Tok) (f : Span → ItemTree) (s : Span) (h k : ℕ) → s ≡ span_of ts → h ≡ k → piece (f s) h s ≡ got ts (f (span_of ts)) k
piece_is ts f s h k e b = ap (λ (z : Span). piece (f z) h z) e ∙ ap (λ n. got ts (f (span_of ts)) n) b

module _ (d : ℕ) (rest : List Tok) where
  structure_reads : (ds : List Tok) (m : Option Tok) (t n o c : Tok) (ls us : List Tok) (xs : List Derive) (l : List Ident) (fs : List FieldOf) (h : ℕ)
      → join (start_of d m t) c.span ≡ span_of (ds ++ (t ∷ n ∷ (ls ++ (o ∷ (us ++ (c ∷ [])))))) → Stands symbol.Struct t → Stands symbol.Name n → Stands symbol.OpenBrace o → Stands symbol.CloseBrace c
      → AreLifetimes ls l → IsListOf IsStructField us fs h → h ≤ d
      → Reads (parser.structure d m xs) (t ∷ n ∷ (ls ++ (o ∷ (us ++ (c ∷ []))))) (got (ds ++ (t ∷ n ∷ (ls ++ (o ∷ (us ++ (c ∷ []))))))
      (plain.struct_item (span_of (ds ++ (t ∷ n ∷ (ls ++ (o ∷ (us ++ (c ∷ []))))))) (record { name = ident n; derives = xs; lifetimes = l; fields = fs })) h) rest
  unfolding parser.structure
  structure_reads ds m t n o c ls us xs l fs h span st sn so sc sl r b =
      let s = first_is symbol.OpenBrace o refl so in
      let z : max 0 h ≡ h = omega arith in
      take _ symbol.Struct t refl st (take _ symbol.Name n refl sn (part _ (lifetimes_read sl (o ∷ ((us ++ (c ∷ [])) ++ rest)) (λ a. let w = sym s ∙ a in cc)) (take _ symbol.OpenBrace o refl so
      (listed _ EndsType [] 0 c (λ a. cc) (λ a. cc) (closes_brace c sc) (bounded d (field_element d) b r)
      (done (piece_is (ds ++ (t ∷ n ∷ (ls ++ (o ∷ (us ++ (c ∷ [])))))) (λ s. plain.struct_item s (record { name = ident n; derives = xs; lifetimes = l; fields = fs })) (join (start_of d m t) c.span) (max 0 h) h span z))))))

  enumeration_reads : (ds : List Tok) (m : Option Tok) (t n o c : Tok) (ls us : List Tok) (xs : List Derive) (l : List Ident) (v : VariantOf) (vs : List VariantOf) (h : ℕ)
      → join (start_of d m t) c.span ≡ span_of (ds ++ (t ∷ n ∷ (ls ++ (o ∷ (us ++ (c ∷ [])))))) → Stands symbol.Enum t → Stands symbol.Name n → Stands symbol.OpenBrace o → Stands symbol.CloseBrace c
      → AreLifetimes ls l → IsListOf IsVariant us (v ∷ vs) h → h ≤ d
      → Reads (parser.enumeration d m xs) (t ∷ n ∷ (ls ++ (o ∷ (us ++ (c ∷ []))))) (got (ds ++ (t ∷ n ∷ (ls ++ (o ∷ (us ++ (c ∷ []))))))
      (plain.enum_item (span_of (ds ++ (t ∷ n ∷ (ls ++ (o ∷ (us ++ (c ∷ []))))))) (record { name = ident n; derives = xs; lifetimes = l; variants = v ∷ vs })) h) rest
  unfolding parser.enumeration ends_variant
  enumeration_reads ds m t n o c ls us xs l v vs h span st sn so sc sl r b =
      let s = first_is symbol.OpenBrace o refl so in
      take _ symbol.Enum t refl st (take _ symbol.Name n refl sn (part _ (lifetimes_read sl (o ∷ ((us ++ (c ∷ [])) ++ rest)) (λ a. let w = sym s ∙ a in cc)) (take _ symbol.OpenBrace o refl so
      (some_listed _ EndsVariant c refl refl (closes_brace c sc) (bounded d (variant_element d) b r)
      (done (piece_is (ds ++ (t ∷ n ∷ (ls ++ (o ∷ (us ++ (c ∷ [])))))) (λ s. plain.enum_item s (record { name = ident n; derives = xs; lifetimes = l; variants = v ∷ vs })) (join (start_of d m t) c.span) h h span refl))))))

  -- behind the derives
  derived_reads : (m b n o c e : Tok) (us ts : List Tok) (x : Derive) (xs : List Derive) (y : Got ItemTree) (q : Symbol) → Stands symbol.Hash m → Stands symbol.OpenBracket b → IsNamed (codes "derive") n → Stands symbol.OpenParen o
      → Stands symbol.CloseParen c → Stands symbol.CloseBracket e → IsListOf IsDerivedName us (x ∷ xs) 0 → peek (ts ++ rest) ≡ q → Reads (derived_by d m (x ∷ xs) q) ts y rest
      → Reads (parser.item d) ((m ∷ b ∷ n ∷ o ∷ (us ++ (c ∷ e ∷ []))) ++ ts) y rest
  unfolding parser.item parser.derived
  derived_reads m b n o c e us ts x xs y q sm sb sn so sc se l f r = by (item_by d) symbol.Hash (first_is symbol.Hash m refl sm) (take _ symbol.Hash m refl sm
      (part _ (derives_read (ts ++ rest) b n o c e us x xs sb sn so sc se l) (by (derived_by d m (x ∷ xs)) q f r)))

  plain_reads : (ts : List Tok) (y : Got ItemTree) (q : Symbol) → peek (ts ++ rest) ≡ q → Reads (item_by d q) ts y rest → Reads (parser.item d) ts y rest
  unfolding parser.item
  plain_reads ts y q e r = by (item_by d) q e r

  rt_reads : (m r z : Tok) → Stands symbol.Mod m → IsNamed (codes "rt") r → Stands symbol.Semicolon z → Reads (parser.rt d) (m ∷ r ∷ z ∷ []) (got (m ∷ r ∷ z ∷ []) (plain.rt_item (span_of (m ∷ r ∷ z ∷ [])) r.span) 0) rest
  unfolding parser.rt
  rt_reads m r z sm sr sz = take _ symbol.Mod m refl sm (take_word _ (codes "rt") r sr (take _ symbol.Semicolon z refl sz (done refl)))

  function_reads : (f n o c : Tok) (ls us rs bs : List Tok) (l : List BoundLifetime) (ps : List Parameter) (r : Option TypeTree) (b : Body) (h i k : ℕ) → Stands symbol.Fn f → Stands symbol.Name n → Stands symbol.OpenParen o
      → Stands symbol.CloseParen c → AreBoundLifetimes ls l → IsListOf IsParameter us ps h → IsResult rs r i → IsBlock bs b k → h ≤ d → i ≤ d → k ≤ d
      → Reads (parser.function d) (f ∷ n ∷ (ls ++ (o ∷ (us ++ (c ∷ (rs ++ bs)))))) (got (f ∷ n ∷ (ls ++ (o ∷ (us ++ (c ∷ (rs ++ bs))))))
      (plain.function_item (span_of (f ∷ n ∷ (ls ++ (o ∷ (us ++ (c ∷ (rs ++ bs))))))) (record { name = ident n; lifetimes = l; params = ps; result = r; body = b })) (max h (max i k))) rest
  unfolding parser.function
  function_reads f n o c ls us rs bs l ps r b h i k sf sn so sc sl sp sr sb bh bi bk =
      let s = first_is symbol.OpenParen o refl so in
      let z : max (max 0 h) (max i k) ≡ max h (max i k) = omega arith in
      let shape : (n ∷ (ls ++ (o ∷ (us ++ (c ∷ rs))))) ++ bs ≡ n ∷ (ls ++ (o ∷ (us ++ (c ∷ (rs ++ bs))))) =
      ap (λ w. n ∷ w) (append_assoc ls (o ∷ (us ++ (c ∷ rs))) bs ∙ ap (λ w. ls ++ (o ∷ w)) (append_assoc us (c ∷ rs) bs)) in
      take _ symbol.Fn f refl sf (take _ symbol.Name n refl sn (part _ (bound_lifetimes_read sl (o ∷ ((us ++ (c ∷ (rs ++ bs))) ++ rest)) (λ a. let w = sym s ∙ a in cc)) (take _ symbol.OpenParen o refl so
      (listed _ EndsType [] 0 c (λ a. cc) (λ a. cc) (closes_paren c sc) (bounded d (parameter_listed d) bh sp)
      (part _ (result_reads sr d bi (bs ++ rest) (block_next sb rest)) (last _ (block_complete sb d bk rest)
      (done (piece_is (f ∷ n ∷ (ls ++ (o ∷ (us ++ (c ∷ (rs ++ bs)))))) (λ s. plain.function_item s (record { name = ident n; lifetimes = l; params = ps; result = r; body = b })) (join f.span (span_of bs))
      (max (max 0 h) (max i k)) (max h (max i k)) (span_past f (n ∷ (ls ++ (o ∷ (us ++ (c ∷ rs))))) bs (block_some sb) ∙ ap (λ w. span_of (f ∷ w)) shape) z))))))))

-- from the derives on
derived_span : (m c : Tok) (ds us vs : List Tok) (t : Tok) → join m.span c.span ≡ span_of ((m ∷ ds) ++ (t ∷ (vs ++ (us ++ (c ∷ [])))))
derived_span m c ds us vs t =
    span_between (ds ++ (t ∷ (vs ++ us))) m c ∙ ap (λ w. span_of (m ∷ w)) (append_assoc ds (t ∷ (vs ++ us)) (c ∷ []) ∙ ap (λ w. ds ++ (t ∷ w)) (append_assoc vs us (c ∷ [])))

inner_span : (t n o c : Tok) (ls us : List Tok) → join t.span c.span ≡ span_of (t ∷ n ∷ (ls ++ (o ∷ (us ++ (c ∷ [])))))
inner_span t n o c ls us = span_between (n ∷ (ls ++ (o ∷ us))) t c ∙ ap (λ w. span_of (t ∷ n ∷ w)) (append_assoc ls (o ∷ us) (c ∷ []))

-- the derives stand in the span
placed_behind : (d : ℕ) (rest ts : List Tok) {ds us : List Tok} {h : ℕ} (f : Span → ItemTree) → ds ≡ us → Reads (parser.item d) (us ++ ts) (got (us ++ ts) (f (span_of (us ++ ts))) h) rest
    → Reads (parser.item d) (ds ++ ts) (got (ds ++ ts) (f (span_of (ds ++ ts))) h) rest
placed_behind d rest ts {ds} {us} {h} f e r = subst (λ z. Reads (parser.item d) (z ++ ts) (got (z ++ ts) (f (span_of (z ++ ts))) h) rest) (sym e) r

structure_case : (d : ℕ) (rest : List Tok) {ds : List Tok} {xs : List Derive} → AreDerives ds xs → (t n o c : Tok) (ls us : List Tok) (l : List Ident) (fs : List FieldOf) (h : ℕ) → Stands symbol.Struct t → Stands symbol.Name n
    → Stands symbol.OpenBrace o → Stands symbol.CloseBrace c → AreLifetimes ls l → IsListOf IsStructField us fs h → h ≤ d
    → Reads (parser.item d) (ds ++ (t ∷ n ∷ (ls ++ (o ∷ (us ++ (c ∷ [])))))) (got (ds ++ (t ∷ n ∷ (ls ++ (o ∷ (us ++ (c ∷ []))))))
    (plain.struct_item (span_of (ds ++ (t ∷ n ∷ (ls ++ (o ∷ (us ++ (c ∷ []))))))) (record { name = ident n; derives = xs; lifetimes = l; fields = fs })) h) rest
structure_case d rest g.no_derive t n o c ls us l fs h st sn so sc sl r b = plain_reads d rest (t ∷ n ∷ (ls ++ (o ∷ (us ++ (c ∷ []))))) _ symbol.Struct (first_is symbol.Struct t refl st)
    (structure_reads d rest [] None t n o c ls us [] l fs h (inner_span t n o c ls us) st sn so sc sl r b)
structure_case d rest {ds = ts} (g.derive m e v p q k ws x xs sm se sv sp sq sk lx is) t n o c ls us l fs h st sn so sc sl r b =
    placed_behind d rest (t ∷ n ∷ (ls ++ (o ∷ (us ++ (c ∷ []))))) (λ s. plain.struct_item s (record { name = ident n; derives = x ∷ xs; lifetimes = l; fields = fs })) is
    (derived_reads d rest m e v p q k ws (t ∷ n ∷ (ls ++ (o ∷ (us ++ (c ∷ []))))) x xs _ symbol.Struct sm se sv sp sq sk lx (first_is symbol.Struct t refl st)
    (structure_reads d rest (m ∷ e ∷ v ∷ p ∷ (ws ++ (q ∷ k ∷ []))) (Some m) t n o c ls us (x ∷ xs) l fs h
    (derived_span m c (e ∷ v ∷ p ∷ (ws ++ (q ∷ k ∷ []))) (o ∷ us) (n ∷ ls) t) st sn so sc sl r b))

enumeration_case : (d : ℕ) (rest : List Tok) {ds : List Tok} {xs : List Derive} → AreDerives ds xs → (t n o c : Tok) (ls us : List Tok) (l : List Ident) (w : VariantOf) (vs : List VariantOf) (h : ℕ) → Stands symbol.Enum t → Stands symbol.Name n
    → Stands symbol.OpenBrace o → Stands symbol.CloseBrace c → AreLifetimes ls l → IsListOf IsVariant us (w ∷ vs) h → h ≤ d
    → Reads (parser.item d) (ds ++ (t ∷ n ∷ (ls ++ (o ∷ (us ++ (c ∷ [])))))) (got (ds ++ (t ∷ n ∷ (ls ++ (o ∷ (us ++ (c ∷ []))))))
    (plain.enum_item (span_of (ds ++ (t ∷ n ∷ (ls ++ (o ∷ (us ++ (c ∷ []))))))) (record { name = ident n; derives = xs; lifetimes = l; variants = w ∷ vs })) h) rest
enumeration_case d rest g.no_derive t n o c ls us l w vs h st sn so sc sl r b = plain_reads d rest (t ∷ n ∷ (ls ++ (o ∷ (us ++ (c ∷ []))))) _ symbol.Enum (first_is symbol.Enum t refl st)
    (enumeration_reads d rest [] None t n o c ls us [] l w vs h (inner_span t n o c ls us) st sn so sc sl r b)
enumeration_case d rest {ds = ts} (g.derive m e v p q k ws x xs sm se sv sp sq sk lx is) t n o c ls us l w vs h st sn so sc sl r b =
    placed_behind d rest (t ∷ n ∷ (ls ++ (o ∷ (us ++ (c ∷ []))))) (λ s. plain.enum_item s (record { name = ident n; derives = x ∷ xs; lifetimes = l; variants = w ∷ vs })) is
    (derived_reads d rest m e v p q k ws (t ∷ n ∷ (ls ++ (o ∷ (us ++ (c ∷ []))))) x xs _ symbol.Enum sm se sv sp sq sk lx (first_is symbol.Enum t refl st)
    (enumeration_reads d rest (m ∷ e ∷ v ∷ p ∷ (ws ++ (q ∷ k ∷ []))) (Some m) t n o c ls us (x ∷ xs) l w vs h
    (derived_span m c (e ∷ v ∷ p ∷ (ws ++ (q ∷ k ∷ []))) (o ∷ us) (n ∷ ls) t) st sn so sc sl r b))

item_reads : {ts : List Tok} {x : ItemTree} {h : ℕ} → IsItem ts x h → (d : ℕ) → h ≤ d → (rest : List Tok) → Reads (parser.item d) ts (got ts x h) rest
item_reads (g.rt m r z sm sr sz is) d b rest = placed (λ s. plain.rt_item s r.span) (m ∷ r ∷ z ∷ []) is (plain_reads d rest _ _ symbol.Mod (first_is symbol.Mod m refl sm) (rt_reads d rest m r z sm sr sz))
item_reads (g.structure t n o c ds ls us xs l fs h st sn so sc sd sl r is) d b rest =
    placed (λ s. plain.struct_item s (record { name = ident n; derives = xs; lifetimes = l; fields = fs })) (ds ++ (t ∷ n ∷ (ls ++ (o ∷ (us ++ (c ∷ [])))))) is (structure_case d rest sd t n o c ls us l fs h st sn so sc sl r b)
item_reads (g.enumeration t n o c ds ls us xs l v vs h st sn so sc sd sl r is) d b rest =
    placed (λ s. plain.enum_item s (record { name = ident n; derives = xs; lifetimes = l; variants = v ∷ vs })) (ds ++ (t ∷ n ∷ (ls ++ (o ∷ (us ++ (c ∷ [])))))) is (enumeration_case d rest sd t n o c ls us l v vs h st sn so sc sl r b)
item_reads (g.function f n o c ls us rs bs l ps r y h i k sf sn so sc sl sp sr sb is) d b rest =
    placed (λ s. plain.function_item s (record { name = ident n; lifetimes = l; params = ps; result = r; body = y })) (f ∷ n ∷ (ls ++ (o ∷ (us ++ (c ∷ (rs ++ bs)))))) is
    (plain_reads d rest _ _ symbol.Fn (first_is symbol.Fn f refl sf) (function_reads d rest f n o c ls us rs bs l ps r y h i k sf sn so sc sl sp sr sb (omega arith) (omega arith) (omega arith)))

-- ---- files

-- what an item begins with
begins_item : Symbol → Bool
begins_item symbol.Mod = true
begins_item symbol.Hash = true
begins_item symbol.Struct = true
begins_item symbol.Enum = true
begins_item symbol.Fn = true
begins_item _ = false

derives_front : {ds : List Tok} {xs : List Derive} → AreDerives ds xs → (us rest : List Tok) → begins_item (peek (us ++ rest)) ≡ true → begins_item (peek ((ds ++ us) ++ rest)) ≡ true
unfolding begins_item
derives_front g.no_derive us rest e = e
derives_front (g.derive m b n o c e us x xs sm sb sn so sc se l is) vs rest f = ap (λ w. begins_item (peek ((w ++ vs) ++ rest))) is ∙ ap begins_item (first_is symbol.Hash m refl sm)

item_front : {ts : List Tok} {x : ItemTree} {h : ℕ} → IsItem ts x h → (rest : List Tok) → begins_item (peek (ts ++ rest)) ≡ true
unfolding begins_item
item_front (g.rt m r z sm sr sz is) rest = ap (λ w. begins_item (peek (w ++ rest))) is ∙ ap begins_item (first_is symbol.Mod m refl sm)
item_front (g.structure t n o c ds ls us xs l fs h st sn so sc sd sl r is) rest = ap (λ w. begins_item (peek (w ++ rest))) is ∙ derives_front sd (t ∷ n ∷ (ls ++ (o ∷ (us ++ (c ∷ []))))) rest (ap begins_item (first_is symbol.Struct t refl st))
item_front (g.enumeration t n o c ds ls us xs l v vs h st sn so sc sd sl r is) rest = ap (λ w. begins_item (peek (w ++ rest))) is ∙ derives_front sd (t ∷ n ∷ (ls ++ (o ∷ (us ++ (c ∷ []))))) rest (ap begins_item (first_is symbol.Enum t refl st))
item_front (g.function f n o c ls us rs bs l ps r y h i k sf sn so sc sl sp sr sb is) rest = ap (λ w. begins_item (peek (w ++ rest))) is ∙ ap begins_item (first_is symbol.Fn f refl sf)

item_first : {ts : List Tok} {x : ItemTree} {h : ℕ} → IsItem ts x h → (rest : List Tok) → peek (ts ++ rest) ≢ symbol.End
unfolding begins_item
item_first {ts} r rest = differs begins_item (peek (ts ++ rest)) symbol.End (item_front r rest) refl

item_some : {ts : List Tok} {x : ItemTree} {h : ℕ} → IsItem ts x h → 1 ≤ length ts
item_some {ts} r = some_length ts (λ e. item_first r [] (ap (λ w. peek (w ++ [])) e))

file_same : (found : List ItemTree) (a : ItemTree) (is : List ItemTree) (i m n : ℕ) → (let p : List ItemTree × ℕ = ((found ++ (a ∷ [])) ++ is, max (max i m) n) in p) ≡ (found ++ (a ∷ is), max i (max m n))
file_same found a is i m n =
    let z : max (max i m) n ≡ max i (max m n) = omega arith in
    ap (λ l. (let p : List ItemTree × ℕ = (l, max (max i m) n) in p)) (append_assoc found (a ∷ []) is) ∙ ap (λ k. (let p : List ItemTree × ℕ = (found ++ (a ∷ is), k) in p)) z

file_end : (d n : ℕ) (found : List ItemTree) (i : ℕ) → Reads (items_from d n found i) [] (found ++ [], max i 0) []
unfolding items_from
file_end d zero found i =
    let z : i ≡ max i 0 = omega arith in
    here _ refl (done (ap (λ l. (let p : List ItemTree × ℕ = (l, i) in p)) (sym (append-nil found)) ∙ ap (λ n. (let p : List ItemTree × ℕ = (found ++ [], n) in p)) z))
file_end d (suc n) found i =
    let z : i ≡ max i 0 = omega arith in
    here _ refl (done (ap (λ l. (let p : List ItemTree × ℕ = (l, i) in p)) (sym (append-nil found)) ∙ ap (λ n. (let p : List ItemTree × ℕ = (found ++ [], n) in p)) z))

file_step : (d n : ℕ) (found : List ItemTree) (i : ℕ) (us vs : List Tok) (a : ItemTree) (m : ℕ) (y : List ItemTree × ℕ) → peek ((us ++ vs) ++ []) ≢ symbol.End → Reads (parser.item d) us (got us a m) (vs ++ [])
    → Reads (items_from d n (found ++ (a ∷ [])) (max i m)) vs y [] → Reads (items_from d (suc n) found i) (us ++ vs) y []
unfolding items_from
file_step d n found i us vs a m y e r again = there _ e (part _ r again)

file_reads : {ts : List Tok} {is : ProgramTree} {h : ℕ} → IsFile ts is h → (d : ℕ) → h ≤ d → (n : ℕ) (found : List ItemTree) (i : ℕ) → length ts ≤ n → Reads (items_from d n found i) ts (found ++ is, max i h) []
file_reads g.no_item d b n found i l = file_end d n found i
file_reads {ts = ts} (g.item_and us vs a is m k r more shape) d b n found i l =
    let size : length us + length vs ≤ length ts = let z = ap length shape in omega (arith, length-append us vs) in
    let some = item_some r in
    deeper (λ n. Reads (items_from d n found i) ts (found ++ (a ∷ is), max i (max m k)) []) (length ts) n (omega arith) l (λ n l.
    along shape (file_step d n found i us vs a m _ (λ e. item_first r (vs ++ []) (sym (ap peek (append_assoc us vs [])) ∙ e)) (item_reads r d (omega arith) (vs ++ []))
    (subst (λ y. Reads (items_from d n (found ++ (a ∷ [])) (max i m)) vs y []) (file_same found a is i m k) (file_reads more d (omega arith) n (found ++ (a ∷ [])) (max i m) (omega arith)))))

-- a file of at most so many levels is read
pub file_complete : {ts : List Tok} {is : ProgramTree} {h : ℕ} → IsFile ts is h → (d : ℕ) → h ≤ d → parser.file d ts ≡ Ok ((is, h), [])
unfolding parser.file
file_complete {ts} {is} {h} r d b =
    let z : max 0 h ≡ h = omega arith in
    ap (parser.file d) (sym (append-nil ts)) ∙ (file_reads r d b (length (ts ++ [])) [] 0 (omega (arith, length-append ts []))).read ∙ ap (λ n. Ok ((let p : List ItemTree × ℕ = (is, n) in p), [])) z
