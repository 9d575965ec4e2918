-- An item that is read is one that the grammar derives, and so is a file.
use Rattle.std.proofs.Common.{◌≡◌, ℕ, zero, suc, ◌≤◌, max, Bool, List, [], ◌∷◌, ◌++◌, length, Option, Some, None, codes, refl, sym, ap, subst, ◌∙◌, arith, append_assoc, append-nil}
use Rattle.std.specs.Prelude.{◌≢◌}
use Rattle.rx_core.specs.declared.types.Span.{Span}
use Rattle.rx_tree.specs.declared.tree.Ident.{Ident}
use Rattle.rx_tree.specs.declared.tree.Derive.{Derive}
use Rattle.rx_tree.specs.Plain as plain
use Rattle.rx_tree.specs.Plain.{TypeTree, Parameter, FieldOf, VariantOf, ItemTree, ProgramTree}
use Rattle.rx_lex.specs.Tok.{Tok}
use Rattle.rx_parse_grammar.specs.declared.symbol.Symbol.{Symbol}
use Rattle.rx_parse_grammar.specs.declared.symbol.Symbol.TheVariants as symbol
use Rattle.rx_parse_grammar.specs.grammar.Words.{IsMutability, immutable, mutable, IsListOf, join, final_span, span_of, ident}
use Rattle.rx_parse_grammar.specs.grammar.Items.{IsDerivedName, AreDerives, IsLifetimeParameter, AreLifetimes, AreBounds, IsBoundLifetime, AreBoundLifetimes, IsStructField, IsVariant, IsParameter, IsResult, IsItem, IsFile}
use Rattle.rx_parse_grammar.specs.grammar.Items as g
use Rattle.rx_parse_grammar.specs.parser.Items as parser
use Rattle.rx_parse_grammar.specs.parser.Items.{piece, start_of, derived_by, item_by, parameter_by, items_from}
use Rattle.rx_parse_grammar.proofs.SymbolLemmas.{Stands}
use Rattle.rx_parse_grammar.proofs.Reading.{span_between, span_past}
use Rattle.rx_parse_grammar.proofs.Deriving.{Derives, Fits, took, passed, passed_last, gave, chose, either, refused, as_also, listed_found, some_listed_found}
use Rattle.rx_parse_grammar.proofs.WordSteps.{took_word, either_word}
use Rattle.rx_parse_grammar.proofs.TypesRead.{type_some}
use Rattle.rx_parse_grammar.proofs.TypesDerived.{type_sound, types_are}
use Rattle.rx_parse_grammar.proofs.ExpressionsFront.{block_some}
use Rattle.rx_parse_grammar.proofs.BlocksDerived.{deeper_derived}

-- ---- derives

derived_name_derived : Derives parser.derived_name (Fits IsDerivedName 0)
unfolding parser.derived_name
derived_name_derived = either_word (codes "Clone")
    (took_word (codes "Clone") (λ t s. gave (record { low = omega arith; span = refl; holds = g.clone t s })))
    (took_word (codes "Copy") (λ t s. gave (record { low = omega arith; span = refl; holds = g.copy t s })))

derives_derived : (m : Tok) → Stands symbol.Hash m → Derives parser.derives (λ ts xs. AreDerives (m ∷ ts) xs)
unfolding parser.derives
derives_derived m sm = took symbol.OpenBracket refl (λ b sb. took_word (codes "derive") (λ n sn. took symbol.OpenParen refl (λ o so.
    some_listed_found symbol.CloseParen _ refl derived_name_derived (λ us c x xs h sc l low. took symbol.CloseBracket refl (λ e se.
    let z : h ≡ 0 = omega arith in
    gave (g.derive m b n o c e us x xs sm sb sn so sc se (subst (λ k. IsListOf IsDerivedName us (x ∷ xs) k) z l) refl))))))

-- ---- lifetimes

lifetime_parameter_derived : Derives parser.lifetime_parameter (Fits IsLifetimeParameter 0)
unfolding parser.lifetime_parameter
lifetime_parameter_derived = took symbol.Lifetime refl (λ t s. gave (record { low = omega arith; span = refl; holds = g.lifetime_parameter t s }))

lifetimes_derived : Derives parser.lifetimes AreLifetimes
unfolding parser.lifetimes
lifetimes_derived = either symbol.Less
    (took symbol.Less refl (λ o so. some_listed_found symbol.Greater _ refl lifetime_parameter_derived (λ us c l ls h sc r low.
    let z : h ≡ 0 = omega arith in
    gave (g.lifetimes o c us l ls so sc (subst (λ k. IsListOf IsLifetimeParameter us (l ∷ ls) k) z r) refl))))
    (gave g.no_lifetime)

pub record Bounds (found : List Ident) (ts : List Tok) (l : List Ident × Span) : Type 0 where
  pub ls : List Ident
  pub holds : AreBounds ts ls
  pub made : l.0 ≡ found ++ ls
  pub ends : (s : Span) → final_span s ts ≡ l.1

bounds_from_derived : (n : ℕ) (found : List Ident) → Derives (parser.bounds_from n found) (Bounds found)
unfolding parser.bounds_from
bounds_from_derived zero found = refused
bounds_from_derived (suc n) found = took symbol.Lifetime refl (λ t s. either symbol.Plus
    (took symbol.Plus refl (λ p sp. as_also (λ us l m. record {
      ls = ident t ∷ m.ls;
      holds = g.bound_and t p us m.ls s sp m.holds;
      made = m.made ∙ append_assoc found (ident t ∷ []) m.ls;
      ends = λ z. m.ends p.span;
    }) (bounds_from_derived n (found ++ (ident t ∷ [])))))
    (gave (record { ls = ident t ∷ []; holds = g.last_bound t s; made = refl; ends = λ z. refl })))

bounds_derived : Derives parser.bounds (Bounds [])
unfolding parser.bounds
bounds_derived = record { derive = λ i r x e. (bounds_from_derived (length i) []).derive i r x e }

bound_lifetime_derived : Derives parser.bound_lifetime (Fits IsBoundLifetime 0)
unfolding parser.bound_lifetime
bound_lifetime_derived = took symbol.Lifetime refl (λ t s. either symbol.Colon
    (took symbol.Colon refl (λ c sc. passed_last _ bounds_derived (λ us l m. record {
      low = omega arith;
      span = ap (λ z. join t.span z) (sym (m.ends c.span));
      holds = subst (λ z. IsBoundLifetime (t ∷ c ∷ us) (record { name = ident t; bounds = z }) 0) (sym m.made) (g.bounded t c us m.ls s sc m.holds);
    })))
    (gave (record { low = omega arith; span = refl; holds = g.unbounded t s })))

bound_lifetimes_derived : Derives parser.bound_lifetimes AreBoundLifetimes
unfolding parser.bound_lifetimes
bound_lifetimes_derived = either symbol.Less
    (took symbol.Less refl (λ o so. some_listed_found symbol.Greater _ refl bound_lifetime_derived (λ us c l ls h sc r low.
    let z : h ≡ 0 = omega arith in
    gave (g.bound_lifetimes o c us l ls so sc (subst (λ k. IsListOf IsBoundLifetime us (l ∷ ls) k) z r) refl))))
    (gave g.no_bound_lifetime)

-- ---- fields, variants and parameters

pub parameter_of : {ms us : List Tok} {m : Bool} {f : FieldOf} {h : ℕ} → IsMutability ms m → IsStructField us f h → IsParameter (ms ++ us) (record { name = f.name; mutable = m; typ = f.typ }) h
parameter_of {ms} {us} {m} sm (g.struct_field n c ws y h sn sc r is) = g.parameter ms ws n c m y h sm sn sc r (ap (λ z. ms ++ z) is)

pub field_some : {us : List Tok} {f : FieldOf} {h : ℕ} → IsStructField us f h → us ≢ []
field_some (g.struct_field n c ws y h sn sc r is) = λ e. let z : n ∷ c ∷ ws ≡ [] = sym is ∙ e in cc

record Resulting (d : ℕ) (ts : List Tok) (r : Option TypeTree × ℕ) : Type 0 where
  holds : IsResult ts r.0 r.1
  low : r.1 ≤ d

module _ (d : ℕ) where
  struct_field_derived : Derives (parser.struct_field d) (Fits IsStructField d)
  unfolding parser.struct_field
  struct_field_derived = took symbol.Name refl (λ n sn. took symbol.Colon refl (λ c sc. passed_last _ (type_sound d) (λ us y m. record {
    low = m.low;
    span = ap (λ z. join n.span z) m.span ∙ span_past n (c ∷ []) us (type_some m.holds);
    holds = g.struct_field n c us y.tree y.height sn sc m.holds refl;
  })))

  variant_derived : Derives (parser.variant d) (Fits IsVariant d)
  unfolding parser.variant
  variant_derived = took symbol.Name refl (λ n sn. either symbol.OpenParen
      (took symbol.OpenParen refl (λ o so. some_listed_found symbol.CloseParen _ refl (type_sound d) (λ us c y ys h sc l low. gave (record {
        low = low;
        span = span_between (o ∷ us) n c;
        holds = g.variant_with n o c us y ys h sn so sc (types_are l) refl;
      }))))
      (gave (record { low = omega arith; span = refl; holds = g.variant n sn })))

  parameter_by_derived : (q : Symbol) → Derives (parameter_by d q) (Fits IsParameter d)
  parameter_by_derived symbol.Mut = took symbol.Mut refl (λ m sm. passed_last _ struct_field_derived (λ us f e. record {
    low = e.low;
    span = ap (λ z. join m.span z) e.span ∙ span_past m [] us (field_some e.holds);
    holds = parameter_of (mutable m sm) e.holds;
  }))
  parameter_by_derived _ = passed_last _ struct_field_derived (λ us f e. record { low = e.low; span = e.span; holds = parameter_of immutable e.holds })

  parameter_derived : Derives (parser.parameter d) (Fits IsParameter d)
  unfolding parser.parameter
  parameter_derived = chose (parameter_by d) parameter_by_derived

  result_derived : Derives (parser.result d) (Resulting d)
  unfolding parser.result
  result_derived = either symbol.Arrow
      (took symbol.Arrow refl (λ a sa. passed_last _ (type_sound d) (λ us y m. record { holds = g.result a us y.tree y.height sa m.holds refl; low = m.low })))
      (gave (record { holds = g.no_result; low = omega arith }))

  -- ---- items

  -- the span from where an item begins
  abbrev Begins : List Tok → Option Tok → Type 0
  Begins ds m = (t c : Tok) (vs : List Tok) → join (start_of d m t) c.span ≡ span_of (ds ++ (t ∷ (vs ++ (c ∷ []))))

  structure_derived : (ds : List Tok) (xs : List Derive) (m : Option Tok) → AreDerives ds xs → Begins ds m → Derives (parser.structure d m xs) (λ ts x. Fits IsItem d (ds ++ ts) x)
  unfolding parser.structure
  structure_derived ds xs m sd begin = took symbol.Struct refl (λ t st. took symbol.Name refl (λ n sn. passed lifetimes_derived (λ ls l sl. took symbol.OpenBrace refl (λ o so.
      listed_found symbol.CloseBrace _ [] 0 refl struct_field_derived (λ us c fs h sc r low.
      let z : max 0 h ≡ h = omega arith in
      let ts : List Tok = ds ++ (t ∷ n ∷ (ls ++ (o ∷ (us ++ (c ∷ []))))) in
      let span : join (start_of d m t) c.span ≡ span_of ts = begin t c (n ∷ (ls ++ (o ∷ us))) ∙ ap (λ w. span_of (ds ++ (t ∷ n ∷ w))) (append_assoc ls (o ∷ us) (c ∷ [])) in
      gave (record {
        low = omega arith;
        span = span;
        holds = subst (λ k. IsItem ts (plain.struct_item (join (start_of d m t) c.span) (record { name = ident n; derives = xs; lifetimes = l; fields = fs })) k) (sym z)
            (subst (λ s. IsItem ts (plain.struct_item s (record { name = ident n; derives = xs; lifetimes = l; fields = fs })) h) (sym span)
            (g.structure t n o c ds ls us xs l fs h st sn so sc sd sl r refl));
      }))))))

  enumeration_derived : (ds : List Tok) (xs : List Derive) (m : Option Tok) → AreDerives ds xs → Begins ds m → Derives (parser.enumeration d m xs) (λ ts x. Fits IsItem d (ds ++ ts) x)
  unfolding parser.enumeration
  enumeration_derived ds xs m sd begin = took symbol.Enum refl (λ t st. took symbol.Name refl (λ n sn. passed lifetimes_derived (λ ls l sl. took symbol.OpenBrace refl (λ o so.
      some_listed_found symbol.CloseBrace _ refl variant_derived (λ us c v vs h sc r low.
      let ts : List Tok = ds ++ (t ∷ n ∷ (ls ++ (o ∷ (us ++ (c ∷ []))))) in
      let span : join (start_of d m t) c.span ≡ span_of ts = begin t c (n ∷ (ls ++ (o ∷ us))) ∙ ap (λ w. span_of (ds ++ (t ∷ n ∷ w))) (append_assoc ls (o ∷ us) (c ∷ [])) in
      gave (record {
        low = low;
        span = span;
        holds = subst (λ s. IsItem ts (plain.enum_item s (record { name = ident n; derives = xs; lifetimes = l; variants = v ∷ vs })) h) (sym span)
            (g.enumeration t n o c ds ls us xs l v vs h st sn so sc sd sl r refl);
      }))))))

  derived_by_derived : (m : Tok) (ds : List Tok) (xs : List Derive) → AreDerives (m ∷ ds) xs → (q : Symbol) → Derives (derived_by d m xs q) (λ ts x. Fits IsItem d (m ∷ (ds ++ ts)) x)
  derived_by_derived m ds xs s symbol.Struct = structure_derived (m ∷ ds) xs (Some m) s (λ t c vs. span_between (ds ++ (t ∷ vs)) m c ∙ ap (λ w. span_of (m ∷ w)) (append_assoc ds (t ∷ vs) (c ∷ [])))
  derived_by_derived m ds xs s symbol.Enum = enumeration_derived (m ∷ ds) xs (Some m) s (λ t c vs. span_between (ds ++ (t ∷ vs)) m c ∙ ap (λ w. span_of (m ∷ w)) (append_assoc ds (t ∷ vs) (c ∷ [])))
  derived_by_derived m ds xs s _ = refused

  derived_derived : Derives (parser.derived d) (Fits IsItem d)
  unfolding parser.derived
  derived_derived = took symbol.Hash refl (λ m sm. passed (derives_derived m sm) (λ ds xs s. chose (derived_by d m xs) (derived_by_derived m ds xs s)))

  function_derived : Derives (parser.function d) (Fits IsItem d)
  unfolding parser.function
  function_derived = took symbol.Fn refl (λ f sf. took symbol.Name refl (λ n sn. passed bound_lifetimes_derived (λ ls l sl. took symbol.OpenParen refl (λ o so.
      listed_found symbol.CloseParen _ [] 0 refl parameter_derived (λ us c ps h sc r low. passed result_derived (λ rs y my. passed_last _ (deeper_derived d).blocks (λ bs b mb.
      let lr = my.low in
      let lb = mb.low in
      let z : max 0 h ≡ h = omega arith in
      let ts : List Tok = f ∷ n ∷ (ls ++ (o ∷ (us ++ (c ∷ (rs ++ bs))))) in
      let shape : (n ∷ (ls ++ (o ∷ (us ++ (c ∷ rs))))) ++ bs ≡ n ∷ (ls ++ (o ∷ (us ++ (c ∷ (rs ++ bs))))) =
      ap (λ w. n ∷ w) (append_assoc ls (o ∷ (us ++ (c ∷ rs))) bs ∙ ap (λ w. ls ++ (o ∷ w)) (append_assoc us (c ∷ rs) bs)) in
      let span : join f.span b.span ≡ span_of ts = ap (λ w. join f.span w) mb.span ∙ span_past f (n ∷ (ls ++ (o ∷ (us ++ (c ∷ rs))))) bs (block_some mb.holds) ∙ ap (λ w. span_of (f ∷ w)) shape in
      record {
        low = omega arith;
        span = span;
        holds = subst (λ k. IsItem ts (plain.function_item (join f.span b.span) (record { name = ident n; lifetimes = l; params = ps; result = y.0; body = b.tree })) (max k (max y.1 b.height))) (sym z)
            (subst (λ s. IsItem ts (plain.function_item s (record { name = ident n; lifetimes = l; params = ps; result = y.0; body = b.tree })) (max h (max y.1 b.height))) (sym span)
            (g.function f n o c ls us rs bs l ps y.0 b.tree h y.1 b.height sf sn so sc sl r my.holds mb.holds refl));
      })))))))

  rt_derived : Derives (parser.rt d) (Fits IsItem d)
  unfolding parser.rt
  rt_derived = took symbol.Mod refl (λ m sm. took_word (codes "rt") (λ r sr. took symbol.Semicolon refl (λ z sz. gave (record { low = omega arith; span = refl; holds = g.rt m r z sm sr sz refl }))))

  item_by_derived : (q : Symbol) → Derives (item_by d q) (Fits IsItem d)
  item_by_derived symbol.Mod = rt_derived
  item_by_derived symbol.Hash = derived_derived
  item_by_derived symbol.Struct = structure_derived [] [] None g.no_derive (λ t c vs. span_between vs t c)
  item_by_derived symbol.Enum = enumeration_derived [] [] None g.no_derive (λ t c vs. span_between vs t c)
  item_by_derived symbol.Fn = function_derived
  item_by_derived _ = refused

  pub item_derived : Derives (parser.item d) (Fits IsItem d)
  unfolding parser.item
  item_derived = chose (item_by d) item_by_derived

-- ---- files

record Filed (d : ℕ) (found : List ItemTree) (i : ℕ) (ts : List Tok) (p : List ItemTree × ℕ) : Type 0 where
  xs : List ItemTree
  k : ℕ
  holds : IsFile ts xs k
  low : k ≤ d
  made : p ≡ (found ++ xs, max i k)

ended : {d : ℕ} {found : List ItemTree} {i : ℕ} → Filed d found i [] (found, i)
ended {d} {found} {i} =
    let z : i ≡ max i 0 = omega arith in
    let e : (let p : List ItemTree × ℕ = (found, i) in p) ≡ (found ++ [], max i 0) = ap (λ l. (let p : List ItemTree × ℕ = (l, i) in p)) (sym (append-nil found)) ∙ ap (λ n. (let p : List ItemTree × ℕ = (found ++ [], n) in p)) z in
    record { xs = []; k = 0; holds = g.no_item; low = omega arith; made = e }

items_derived : (d : ℕ) (n : ℕ) (found : List ItemTree) (i : ℕ) → Derives (items_from d n found i) (Filed d found i)
unfolding items_from
items_derived d zero found i = either symbol.End (gave ended) refused
items_derived d (suc n) found i = either symbol.End (gave ended) (passed (item_derived d) (λ us a m. as_also (λ vs p w.
    let b = m.low in
    let c = w.low in
    let z : max (max i a.height) w.k ≡ max i (max a.height w.k) = omega arith in
    record {
      xs = a.tree ∷ w.xs;
      k = max a.height w.k;
      holds = g.item_and us vs a.tree w.xs a.height w.k m.holds w.holds refl;
      low = omega arith;
      made = w.made ∙ ap (λ l. (let p : List ItemTree × ℕ = (l, max (max i a.height) w.k) in p)) (append_assoc found (a.tree ∷ []) w.xs)
          ∙ ap (λ n. (let p : List ItemTree × ℕ = (found ++ (a.tree ∷ w.xs), n) in p)) z;
    }) (items_derived d n (found ++ (a.tree ∷ [])) (max i a.height))))

-- what is read is a file of at most so many levels
pub record IsRead (d : ℕ) (ts : List Tok) (p : List ItemTree × ℕ) : Type 0 where
  pub holds : IsFile ts p.0 p.1
  pub low : p.1 ≤ d

pub file_sound : (d : ℕ) → Derives (parser.file d) (IsRead d)
unfolding parser.file
file_sound d = record {
  derive = λ i r x e.
      let m = (items_derived d (length i) [] 0).derive i r x e in
      let w = m.part in
      let low = w.low in
      let z : w.k ≡ max 0 w.k = omega arith in
      record {
        ts = m.ts;
        is = m.is;
        part = subst (λ (p : List ItemTree × ℕ). IsRead d m.ts p) (sym w.made) (record { holds = subst (λ k. IsFile m.ts w.xs k) z w.holds; low = omega arith });
      };
}
