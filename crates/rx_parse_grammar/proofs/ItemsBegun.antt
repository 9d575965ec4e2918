-- What the tokens begin that the parsers of items and files passed before they stopped.
use Rattle.rx_parse_grammar.proofs.ItemsDerived.{Bounds, parameter_of, field_some}
use Rattle.std.proofs.Common.{◌≡◌, ℕ, zero, suc, max, List, [], ◌∷◌, ◌++◌, length, Option, Some, None, codes, refl, sym, ap, subst, ◌∙◌, arith, append_assoc, append-nil}
use Rattle.rx_tree.specs.declared.tree.Ident.{Ident}
use Rattle.rx_tree.specs.declared.tree.Derive.{Derive}
use Rattle.rx_tree.specs.Plain as plain
use Rattle.rx_tree.specs.Plain.{TypeTree, Parameter, FieldOf, VariantOf, ItemTree, ProgramTree}
use Rattle.rx_lex.specs.Tok.{Tok}
use Rattle.rx_parse_grammar.specs.declared.symbol.Symbol.{Symbol}
use Rattle.rx_parse_grammar.specs.declared.symbol.Symbol.TheVariants as symbol
use Rattle.rx_parse_grammar.specs.grammar.Words.{immutable, mutable, IsListOf, join, span_of, ident}
use Rattle.rx_parse_grammar.specs.grammar.Items.{IsDerivedName, AreDerives, IsLifetimeParameter, AreLifetimes, AreBounds, IsBoundLifetime, AreBoundLifetimes, IsStructField, IsVariant, IsParameter, IsResult, IsItem, IsFile}
use Rattle.rx_parse_grammar.specs.grammar.Items as g
use Rattle.rx_parse_grammar.specs.parser.Items as parser
use Rattle.rx_parse_grammar.specs.parser.Items.{piece, start_of, derived_by, item_by, parameter_by, items_from}
use Rattle.rx_parse_grammar.proofs.SymbolLemmas.{Stands}
use Rattle.rx_parse_grammar.proofs.Reading.{span_between, span_past}
use Rattle.rx_tree.specs.declared.tree.BoundLifetime.{BoundLifetime}
use Rattle.rx_parse_grammar.specs.grammar.Words.{no_element, last_element, element}
use Rattle.rx_parse_grammar.proofs.Begun.{took, passed, passed_last, gave, chose, either, refused, as_also, Known, any, at, Begun, stand_in, stand_in_stands, stand_in_word}
use Rattle.rx_parse_grammar.proofs.BegunLists.{Fits, listed_found, some_listed_found}
use Rattle.rx_parse_grammar.proofs.BegunWords.{took_word, either_word}
use Rattle.rx_parse_grammar.proofs.TypesRead.{type_some}
use Rattle.rx_parse_grammar.proofs.TypesBegun.{type_begun}
use Rattle.rx_parse_grammar.proofs.TypesDerived.{types_are}
use Rattle.rx_parse_grammar.proofs.ExpressionsFront.{block_some}
use Rattle.rx_parse_grammar.proofs.BlocksBegun.{deeper_begun}

-- a list of things without levels has none
no_level : {A : Type 0} {E : List Tok → A → ℕ → Type 0} → ((us : List Tok) (x : A) (h : ℕ) → E us x h → h ≡ 0) → {us : List Tok} {xs : List A} {h : ℕ} → IsListOf E us xs h → h ≡ 0
no_level f no_element = refl
no_level f (last_element {ts = us} {x = x} {h = h} e) = f us x h e
no_level f (element us vs c x xs m n e s more is) = let a = f us x m e in let z = no_level f more in omega arith

derived_level : (us : List Tok) (x : Derive) (h : ℕ) → IsDerivedName us x h → h ≡ 0
derived_level us x h (g.clone t s) = refl
derived_level us x h (g.copy t s) = refl

parameter_level : (us : List Tok) (x : Ident) (h : ℕ) → IsLifetimeParameter us x h → h ≡ 0
parameter_level us x h (g.lifetime_parameter t s) = refl

bound_level : (us : List Tok) (x : BoundLifetime) (h : ℕ) → IsBoundLifetime us x h → h ≡ 0
bound_level us x h (g.unbounded t s) = refl
bound_level us x h (g.bounded t c vs ls st sc r) = refl

-- ---- derives

derived_name_begun : {K : Known} → Begun K parser.derived_name (Fits IsDerivedName)
unfolding parser.derived_name
derived_name_begun = either_word (codes "Clone")
    (took_word (codes "Clone") refl (λ t s. gave (record { span = refl; holds = g.clone t s })))
    (took_word (codes "Copy") refl (λ t s. gave (record { span = refl; holds = g.copy t s })))

derives_begun : {K : Known} (m : Tok) → Stands symbol.Hash m → Begun K parser.derives (λ ts xs. AreDerives (m ∷ ts) xs)
unfolding parser.derives
derives_begun m sm = took symbol.OpenBracket refl (λ b sb. took_word (codes "derive") refl (λ n sn. took symbol.OpenParen refl (λ o so.
    some_listed_found symbol.CloseParen _ refl derived_name_begun (λ us c x xs h sc l. took symbol.CloseBracket refl (λ e se.
    gave (g.derive m b n o c e us x xs sm sb sn so sc se (subst (λ k. IsListOf IsDerivedName us (x ∷ xs) k) (no_level derived_level l) l) refl))))))

-- ---- lifetimes

lifetime_parameter_begun : {K : Known} → Begun K parser.lifetime_parameter (Fits IsLifetimeParameter)
unfolding parser.lifetime_parameter
lifetime_parameter_begun = took symbol.Lifetime refl (λ t s. gave (record { span = refl; holds = g.lifetime_parameter t s }))

lifetimes_begun : {K : Known} → Begun K parser.lifetimes AreLifetimes
unfolding parser.lifetimes
lifetimes_begun = either symbol.Less
    (took symbol.Less refl (λ o so. some_listed_found symbol.Greater _ refl lifetime_parameter_begun (λ us c l ls h sc r.
    gave (g.lifetimes o c us l ls so sc (subst (λ k. IsListOf IsLifetimeParameter us (l ∷ ls) k) (no_level parameter_level r) r) refl))))
    (gave g.no_lifetime)

bounds_from_begun : {K : Known} (n : ℕ) (found : List Ident) → Begun K (parser.bounds_from n found) (Bounds found)
unfolding parser.bounds_from
bounds_from_begun zero found = refused (record {
  further = stand_in symbol.Lifetime ∷ [];
  words = (stand_in_word symbol.Lifetime refl, tt);
  made = (found ++ (ident (stand_in symbol.Lifetime) ∷ []), (stand_in symbol.Lifetime).span);
  part = record { ls = ident (stand_in symbol.Lifetime) ∷ []; holds = g.last_bound (stand_in symbol.Lifetime) (stand_in_stands symbol.Lifetime refl); made = refl; ends = λ z. refl };
})
bounds_from_begun (suc n) found = took symbol.Lifetime refl (λ t s. either symbol.Plus
    (took symbol.Plus refl (λ p sp. as_also (λ us l m. record {
      ls = ident t ∷ m.ls;
      holds = g.bound_and t p us m.ls s sp m.holds;
      made = m.made ∙ append_assoc found (ident t ∷ []) m.ls;
      ends = λ z. m.ends p.span;
    }) (bounds_from_begun n (found ++ (ident t ∷ [])))))
    (gave (record { ls = ident t ∷ []; holds = g.last_bound t s; made = refl; ends = λ z. refl })))

bounds_begun : {K : Known} → Begun K parser.bounds (Bounds [])
unfolding parser.bounds
bounds_begun = record { goes = λ i k. (bounds_from_begun {K = any} (length i) []).goes i refl; some = (bounds_from_begun {K = any} 0 []).some }

bound_lifetime_begun : {K : Known} → Begun K parser.bound_lifetime (Fits IsBoundLifetime)
unfolding parser.bound_lifetime
bound_lifetime_begun = took symbol.Lifetime refl (λ t s. either symbol.Colon
    (took symbol.Colon refl (λ c sc. passed_last _ bounds_begun (λ us l m. record {
      span = ap (λ z. join t.span z) (sym (m.ends c.span));
      holds = subst (λ z. IsBoundLifetime (t ∷ c ∷ us) (record { name = ident t; bounds = z }) 0) (sym m.made) (g.bounded t c us m.ls s sc m.holds);
    })))
    (gave (record { span = refl; holds = g.unbounded t s })))

bound_lifetimes_begun : {K : Known} → Begun K parser.bound_lifetimes AreBoundLifetimes
unfolding parser.bound_lifetimes
bound_lifetimes_begun = either symbol.Less
    (took symbol.Less refl (λ o so. some_listed_found symbol.Greater _ refl bound_lifetime_begun (λ us c l ls h sc r.
    gave (g.bound_lifetimes o c us l ls so sc (subst (λ k. IsListOf IsBoundLifetime us (l ∷ ls) k) (no_level bound_level r) r) refl))))
    (gave g.no_bound_lifetime)

-- ---- fields, variants and parameters

record Resulting (ts : List Tok) (r : Option TypeTree × ℕ) : Type 0 where
  holds : IsResult ts r.0 r.1

module _ (d : ℕ) where
  struct_field_begun : {K : Known} → Begun K (parser.struct_field d) (Fits IsStructField)
  unfolding parser.struct_field
  struct_field_begun = took symbol.Name refl (λ n sn. took symbol.Colon refl (λ c sc. passed_last _ (type_begun d) (λ us y m. record {
    span = ap (λ z. join n.span z) m.span ∙ span_past n (c ∷ []) us (type_some m.holds);
    holds = g.struct_field n c us y.tree y.height sn sc m.holds refl;
  })))

  variant_begun : {K : Known} → Begun K (parser.variant d) (Fits IsVariant)
  unfolding parser.variant
  variant_begun = took symbol.Name refl (λ n sn. either symbol.OpenParen
      (took symbol.OpenParen refl (λ o so. some_listed_found symbol.CloseParen _ refl (type_begun d) (λ us c y ys h sc l. gave (record {
        span = span_between (o ∷ us) n c;
        holds = g.variant_with n o c us y ys h sn so sc (types_are l) refl;
      }))))
      (gave (record { span = refl; holds = g.variant n sn })))

  parameter_by_begun : (q : Symbol) → Begun (at q) (parameter_by d q) (Fits IsParameter)
  parameter_by_begun symbol.Mut = took symbol.Mut refl (λ m sm. passed_last _ struct_field_begun (λ us f e. record {
    span = ap (λ z. join m.span z) e.span ∙ span_past m [] us (field_some e.holds);
    holds = parameter_of (mutable m sm) e.holds;
  }))
  parameter_by_begun _ = passed_last _ struct_field_begun (λ us f e. record { span = e.span; holds = parameter_of immutable e.holds })

  parameter_begun : {K : Known} → Begun K (parser.parameter d) (Fits IsParameter)
  unfolding parser.parameter
  parameter_begun = chose (parameter_by d) parameter_by_begun

  result_begun : {K : Known} → Begun K (parser.result d) Resulting
  unfolding parser.result
  result_begun = either symbol.Arrow
      (took symbol.Arrow refl (λ a sa. passed_last _ (type_begun d) (λ us y m. record { holds = g.result a us y.tree y.height sa m.holds refl })))
      (gave (record { holds = g.no_result }))

  -- ---- items

  -- the span from where an item begins
  abbrev Begins : List Tok → Option Tok → Type 0
  Begins ds m = (t c : Tok) (vs : List Tok) → join (start_of d m t) c.span ≡ span_of (ds ++ (t ∷ (vs ++ (c ∷ []))))

  structure_begun : {K : Known} (ds : List Tok) (xs : List Derive) (m : Option Tok) → AreDerives ds xs → Begins ds m → Begun K (parser.structure d m xs) (λ ts x. Fits IsItem (ds ++ ts) x)
  unfolding parser.structure
  structure_begun ds xs m sd begin = took symbol.Struct refl (λ t st. took symbol.Name refl (λ n sn. passed lifetimes_begun (λ ls l sl. took symbol.OpenBrace refl (λ o so.
      listed_found symbol.CloseBrace _ [] 0 refl struct_field_begun (λ us c fs h sc r.
      let z : max 0 h ≡ h = omega arith in
      let ts : List Tok = ds ++ (t ∷ n ∷ (ls ++ (o ∷ (us ++ (c ∷ []))))) in
      let span : join (start_of d m t) c.span ≡ span_of ts = begin t c (n ∷ (ls ++ (o ∷ us))) ∙ ap (λ w. span_of (ds ++ (t ∷ n ∷ w))) (append_assoc ls (o ∷ us) (c ∷ [])) in
      gave (record {
        span = span;
        holds = subst (λ k. IsItem ts (plain.struct_item (join (start_of d m t) c.span) (record { name = ident n; derives = xs; lifetimes = l; fields = fs })) k) (sym z)
            (subst (λ s. IsItem ts (plain.struct_item s (record { name = ident n; derives = xs; lifetimes = l; fields = fs })) h) (sym span)
            (g.structure t n o c ds ls us xs l fs h st sn so sc sd sl r refl));
      }))))))

  enumeration_begun : {K : Known} (ds : List Tok) (xs : List Derive) (m : Option Tok) → AreDerives ds xs → Begins ds m → Begun K (parser.enumeration d m xs) (λ ts x. Fits IsItem (ds ++ ts) x)
  unfolding parser.enumeration
  enumeration_begun ds xs m sd begin = took symbol.Enum refl (λ t st. took symbol.Name refl (λ n sn. passed lifetimes_begun (λ ls l sl. took symbol.OpenBrace refl (λ o so.
      some_listed_found symbol.CloseBrace _ refl variant_begun (λ us c v vs h sc r.
      let ts : List Tok = ds ++ (t ∷ n ∷ (ls ++ (o ∷ (us ++ (c ∷ []))))) in
      let span : join (start_of d m t) c.span ≡ span_of ts = begin t c (n ∷ (ls ++ (o ∷ us))) ∙ ap (λ w. span_of (ds ++ (t ∷ n ∷ w))) (append_assoc ls (o ∷ us) (c ∷ [])) in
      gave (record {
        span = span;
        holds = subst (λ s. IsItem ts (plain.enum_item s (record { name = ident n; derives = xs; lifetimes = l; variants = v ∷ vs })) h) (sym span)
            (g.enumeration t n o c ds ls us xs l v vs h st sn so sc sd sl r refl);
      }))))))

  behind_derives : {K : Known} (m : Tok) (ds : List Tok) (xs : List Derive) → AreDerives (m ∷ ds) xs → Begun K (parser.structure d (Some m) xs) (λ ts x. Fits IsItem (m ∷ (ds ++ ts)) x)
  behind_derives m ds xs s = structure_begun (m ∷ ds) xs (Some m) s (λ t c vs. span_between (ds ++ (t ∷ vs)) m c ∙ ap (λ w. span_of (m ∷ w)) (append_assoc ds (t ∷ vs) (c ∷ [])))

  derived_by_begun : (m : Tok) (ds : List Tok) (xs : List Derive) → AreDerives (m ∷ ds) xs → (q : Symbol) → Begun (at q) (derived_by d m xs q) (λ ts x. Fits IsItem (m ∷ (ds ++ ts)) x)
  derived_by_begun m ds xs s symbol.Struct = behind_derives m ds xs s
  derived_by_begun m ds xs s symbol.Enum = enumeration_begun (m ∷ ds) xs (Some m) s (λ t c vs. span_between (ds ++ (t ∷ vs)) m c ∙ ap (λ w. span_of (m ∷ w)) (append_assoc ds (t ∷ vs) (c ∷ [])))
  derived_by_begun m ds xs s _ = refused (behind_derives {K = any} m ds xs s).some

  derived_begun : {K : Known} → Begun K (parser.derived d) (Fits IsItem)
  unfolding parser.derived
  derived_begun = took symbol.Hash refl (λ m sm. passed (derives_begun m sm) (λ ds xs s. chose (derived_by d m xs) (derived_by_begun m ds xs s)))

  function_begun : {K : Known} → Begun K (parser.function d) (Fits IsItem)
  unfolding parser.function
  function_begun = took symbol.Fn refl (λ f sf. took symbol.Name refl (λ n sn. passed bound_lifetimes_begun (λ ls l sl. took symbol.OpenParen refl (λ o so.
      listed_found symbol.CloseParen _ [] 0 refl parameter_begun (λ us c ps h sc r. passed result_begun (λ rs y my. passed_last _ (deeper_begun d).blocks (λ bs b mb.
      let z : max 0 h ≡ h = omega arith in
      let ts : List Tok = f ∷ n ∷ (ls ++ (o ∷ (us ++ (c ∷ (rs ++ bs))))) in
      let shape : (n ∷ (ls ++ (o ∷ (us ++ (c ∷ rs))))) ++ bs ≡ n ∷ (ls ++ (o ∷ (us ++ (c ∷ (rs ++ bs))))) =
      ap (λ w. n ∷ w) (append_assoc ls (o ∷ (us ++ (c ∷ rs))) bs ∙ ap (λ w. ls ++ (o ∷ w)) (append_assoc us (c ∷ rs) bs)) in
      let span : join f.span b.span ≡ span_of ts = ap (λ w. join f.span w) mb.span ∙ span_past f (n ∷ (ls ++ (o ∷ (us ++ (c ∷ rs))))) bs (block_some mb.holds) ∙ ap (λ w. span_of (f ∷ w)) shape in
      record {
        span = span;
        holds = subst (λ k. IsItem ts (plain.function_item (join f.span b.span) (record { name = ident n; lifetimes = l; params = ps; result = y.0; body = b.tree })) (max k (max y.1 b.height))) (sym z)
            (subst (λ s. IsItem ts (plain.function_item s (record { name = ident n; lifetimes = l; params = ps; result = y.0; body = b.tree })) (max h (max y.1 b.height))) (sym span)
            (g.function f n o c ls us rs bs l ps y.0 b.tree h y.1 b.height sf sn so sc sl r my.holds mb.holds refl));
      })))))))

  rt_begun : {K : Known} → Begun K (parser.rt d) (Fits IsItem)
  unfolding parser.rt
  rt_begun = took symbol.Mod refl (λ m sm. took_word (codes "rt") refl (λ r sr. took symbol.Semicolon refl (λ z sz. gave (record { span = refl; holds = g.rt m r z sm sr sz refl }))))

  item_by_begun : (q : Symbol) → Begun (at q) (item_by d q) (Fits IsItem)
  item_by_begun symbol.Mod = rt_begun
  item_by_begun symbol.Hash = derived_begun
  item_by_begun symbol.Struct = structure_begun [] [] None g.no_derive (λ t c vs. span_between vs t c)
  item_by_begun symbol.Enum = enumeration_begun [] [] None g.no_derive (λ t c vs. span_between vs t c)
  item_by_begun symbol.Fn = function_begun
  item_by_begun _ = refused (rt_begun {K = any}).some

  pub item_begun : {K : Known} → Begun K (parser.item d) (Fits IsItem)
  unfolding parser.item
  item_begun = chose (item_by d) item_by_begun

-- ---- files

record Filed (found : List ItemTree) (i : ℕ) (ts : List Tok) (p : List ItemTree × ℕ) : Type 0 where
  xs : List ItemTree
  k : ℕ
  holds : IsFile ts xs k
  made : p ≡ (found ++ xs, max i k)

ended : {found : List ItemTree} {i : ℕ} → Filed found i [] (found, i)
ended {found} {i} =
    let z : i ≡ max i 0 = omega arith in
    let e : (let p : List ItemTree × ℕ = (found, i) in p) ≡ (found ++ [], max i 0) = ap (λ l. (let p : List ItemTree × ℕ = (l, i) in p)) (sym (append-nil found)) ∙ ap (λ n. (let p : List ItemTree × ℕ = (found ++ [], n) in p)) z in
    record { xs = []; k = 0; holds = g.no_item; made = e }

items_begun : {K : Known} (d : ℕ) (n : ℕ) (found : List ItemTree) (i : ℕ) → Begun K (items_from d n found i) (Filed found i)
unfolding items_from
items_begun d zero found i = either symbol.End (gave ended) (refused (record { further = []; words = tt; made = (found, i); part = ended }))
items_begun d (suc n) found i = either symbol.End (gave ended) (passed (item_begun d) (λ us a m. as_also (λ vs p w.
    let z : max (max i a.height) w.k ≡ max i (max a.height w.k) = omega arith in
    record {
      xs = a.tree ∷ w.xs;
      k = max a.height w.k;
      holds = g.item_and us vs a.tree w.xs a.height w.k m.holds w.holds refl;
      made = w.made ∙ ap (λ l. (let p : List ItemTree × ℕ = (l, max (max i a.height) w.k) in p)) (append_assoc found (a.tree ∷ []) w.xs)
          ∙ ap (λ n. (let p : List ItemTree × ℕ = (found ++ (a.tree ∷ w.xs), n) in p)) z;
    }) (items_begun d n (found ++ (a.tree ∷ [])) (max i a.height))))

-- what is read is a file of at most so many levels
pub record IsRead (ts : List Tok) (p : List ItemTree × ℕ) : Type 0 where
  pub holds : IsFile ts p.0 p.1

whole_file : (ts : List Tok) (p : List ItemTree × ℕ) → Filed [] 0 ts p → IsRead ts p
whole_file ts p w =
    let z : w.k ≡ max 0 w.k = omega arith in
    subst (λ (p : List ItemTree × ℕ). IsRead ts p) (sym w.made) (record { holds = subst (λ k. IsFile ts w.xs k) z w.holds })

pub file_begun : (d : ℕ) → Begun any (parser.file d) IsRead
unfolding parser.file
file_begun d = as_also whole_file (record { goes = λ i k. (items_begun {K = any} d (length i) [] 0).goes i refl; some = (items_begun {K = any} d 0 [] 0).some })
