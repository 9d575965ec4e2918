-- The tokens that items and programs are spelled with are derived as them, within their levels: by the parts of each item.
use Rattle.std.proofs.Common.{◌≡◌, ℕ, ◌+◌, Bool, false, List, [], ◌∷◌, ◌++◌, Option, Some, None, codes, length, map, max, refl, ap, subst, ◌∙◌, append_assoc, append-nil}
use Rattle.std.specs.Prelude.{option_map}
use Rattle.rx_core.specs.declared.types.Span.{Span}
use Rattle.rx_tree.specs.declared.tree.Ident.{Ident}
use Rattle.rx_tree.specs.declared.tree.Derive.{Derive}
use Rattle.rx_tree.specs.declared.tree.Derive.TheVariants.{Clone, Copy}
use Rattle.rx_tree.specs.declared.tree.BoundLifetime.{BoundLifetime}
use Rattle.rx_tree.specs.Plain as plain
use Rattle.rx_tree.specs.Plain.{TypeTree, TypeTrees, Parameter, Function, FieldOf, Structure, VariantOf, Enumeration, Body, ItemTree, ProgramTree}
use Rattle.rx_tree.specs.PlainOf.{types_of}
use Rattle.rx_tree.specs.Lists.{Every}
use Rattle.rx_tree.specs.Erase.{erase_type, erase_types, erase_ident, erase_lifetime, erase_parameter, erase_field, erase_variant, erase_body, erase_item, erase_program, nowhere}
use Rattle.rx_lex.specs.declared.token.Class.TheVariants.{Identifier, Keyword, Lifetime}
use Rattle.rx_lex.specs.Tok.{Tok}
use Rattle.rx_lex.specs.Tokens.{token_at}
use Rattle.rx_parse_grammar.specs.grammar.Words.{IsListOf, last_element, element}
use Rattle.rx_parse_grammar.specs.grammar.Types.{AreTypes}
use Rattle.rx_parse_grammar.specs.grammar.Expressions.{IsBlock}
use Rattle.rx_parse_grammar.specs.grammar.Items as g
use Rattle.rx_parse_grammar.specs.grammar.Items.{IsDerivedName, AreDerives, IsLifetimeParameter, AreLifetimes, AreBounds, IsBoundLifetime, AreBoundLifetimes, IsStructField, IsVariant, IsParameter, IsResult, IsItem, IsFile}
use Rattle.rx_print_spelling.specs.Pieces.{Piece, mark, keyword, name, space, line, separated, entries, entries_of, mutable_pieces}
use Rattle.rx_print_spelling.specs.Types.{each_type, written_type, type_pieces}
use Rattle.rx_print_spelling.specs.Expressions.{block}
use Rattle.rx_print_spelling.specs.Items.{derive_pieces, derives_pieces, in_angles, one_lifetime, bounds_pieces, bound_pieces, field_pieces, structure_pieces, variant_pieces, enumeration_pieces, parameter_pieces, result_pieces, function_pieces, item_pieces, after_item, program_pieces}
use Rattle.rx_print_spelling.specs.Levels.{deepest, written_levels, field_levels, variant_levels, parameter_levels, item_levels, levels_of}
use Rattle.rx_print_spelling.specs.Formed.{Lasting, IsSome, WrittenType, FormedTypes, FormedBound, FormedField, FormedVariant, FormedParameter, FormedItem, FormedProgram}
use Rattle.rx_print_spelling.proofs.Headers.{header_pieces}
use Rattle.rx_print_spelling.proofs.Pieces.{places, past, places-append}
use Rattle.rx_print_spelling.proofs.Derives.{Derives, mark_at, closed, arguments_places}
use Rattle.rx_print_spelling.proofs.TypesRead.{type_reads, types_read, mutable_reads, AsTypes}
use Rattle.rx_print_spelling.proofs.ExpressionsRead.{block_reads}
use Rattle.rx_print_spelling.proofs.ListsRead.{Kind, ReadsOne, separated_read, entries_read, entries_places, SomeOf, some_of, no_levels}

-- ---- what is derived

name_reads : (d : Derive) (at : ℕ) → IsDerivedName (places at (derive_pieces d)) d 0
name_reads Clone at = g.clone (token_at at Identifier (codes "Clone")) (refl, refl)
name_reads Copy at = g.copy (token_at at Identifier (codes "Copy")) (refl, refl)

names_read : (ds : List Derive) (d : Derive) (at : ℕ) → IsListOf IsDerivedName (places at (separated (map derive_pieces (d ∷ ds)))) (d ∷ ds) 0
names_read [] d at = last_element (name_reads d at)
names_read (e ∷ ds) d at =
    let ps = derive_pieces d in
    element (places at ps) (places (past at ps + 1 + 1) (separated (map derive_pieces (e ∷ ds)))) (mark_at (past at ps) (codes ",")) d (e ∷ ds) 0 0 (name_reads d at) (refl, refl)
    (names_read ds e (past at ps + 1 + 1)) (places-append at ps _)

derives_read : (ds : List Derive) (at : ℕ) → AreDerives (places at (derives_pieces ds)) ds
derives_read [] at = g.no_derive
derives_read (d ∷ ds) at =
    let begin : ℕ = at + 1 + 1 + 6 in
    let qs = separated (map derive_pieces (d ∷ ds)) in
    g.derive (mark_at at (codes "#")) (mark_at (at + 1) (codes "[")) (token_at (at + 1 + 1) Identifier (codes "derive")) (mark_at begin (codes "("))
    (mark_at (past (begin + 1) qs) (codes ")")) (mark_at (past (begin + 1) qs + 1) (codes "]")) (places (begin + 1) qs) d ds
    (refl, refl) (refl, refl) (refl, refl) (refl, refl) (refl, refl) (refl, refl) (names_read ds d (begin + 1))
    (ap (λ l. mark_at at (codes "#") ∷ mark_at (at + 1) (codes "[") ∷ token_at (at + 1 + 1) Identifier (codes "derive") ∷ mark_at begin (codes "(") ∷ l)
    (places-append (begin + 1) qs (mark (codes ")") ∷ mark (codes "]") ∷ line 0 ∷ [])))

-- ---- lifetimes

angle_places : (at : ℕ) (ps : List Piece) (more : List (List Piece))
    → places at (in_angles (ps ∷ more)) ≡ mark_at at (codes "<") ∷ (places (at + 1) (separated (ps ∷ more)) ++ mark_at (past (at + 1) (separated (ps ∷ more))) (codes ">") ∷ [])
angle_places at ps more = ap (λ l. mark_at at (codes "<") ∷ l) (closed (at + 1) (separated (ps ∷ more)) (codes ">"))

lifetime_kind : Kind Ident Ident
lifetime_kind = record { judgement = IsLifetimeParameter; view = erase_ident; spelled = one_lifetime; level = λ l. 0 }

lifetime_reads : (l : Ident) → Lasting l → ReadsOne lifetime_kind l
unfolding lifetime_kind
lifetime_reads l f at = record { tree = _; derived = g.lifetime_parameter (token_at at Lifetime l.name) (refl, f.1); same = refl }

some_at_zero : {A C : Type 0} (k : Kind A C) (ts : List Tok) (x : A) (xs : List A) (h : ℕ) → h ≡ 0 → SomeOf k ts x xs h → SomeOf k ts x xs 0
some_at_zero k ts x xs h e r = subst (λ n. SomeOf k ts x xs n) e r

lifetimes_read : (ls : List Ident) → Every Lasting ls → (at : ℕ) → Derives AreLifetimes (map erase_ident) (places at (in_angles (map one_lifetime ls))) (map erase_ident ls)
unfolding lifetime_kind
lifetimes_read [] f at = record { tree = []; derived = g.no_lifetime; same = refl }
lifetimes_read (l ∷ ls) f at =
    let qs = separated (map one_lifetime (l ∷ ls)) in
    let r = some_at_zero lifetime_kind _ l ls _ (no_levels (l ∷ ls)) (some_of lifetime_kind _ l ls _ (separated_read lifetime_kind Lasting lifetime_reads (l ∷ ls) f (at + 1))) in
    record {
      tree = r.first ∷ r.more;
      derived = g.lifetimes (mark_at at (codes "<")) (mark_at (past (at + 1) qs) (codes ">")) (places (at + 1) qs) r.first r.more (refl, refl) (refl, refl) r.derived
          (angle_places at (one_lifetime l) (map one_lifetime ls));
      same = r.same;
    }

bounds_read : (ls : List Ident) (l : Ident) → Every Lasting (l ∷ ls) → (at : ℕ) → Derives AreBounds (map erase_ident) (places at (bounds_pieces (l ∷ ls))) (map erase_ident (l ∷ ls))
bounds_read [] l f at = record { tree = _; derived = g.last_bound (token_at at Lifetime l.name) (refl, f.0.1); same = refl }
bounds_read (k ∷ ls) l f at =
    let from : ℕ = at + length l.name + 1 + 1 + 1 in
    let r = bounds_read ls k f.1 from in
    record {
      tree = _;
      derived = g.bound_and (token_at at Lifetime l.name) (mark_at (at + length l.name + 1) (codes "+")) (places from (bounds_pieces (k ∷ ls))) r.tree (refl, f.0.1) (refl, refl) r.derived;
      same = ap (λ z. erase_ident l ∷ z) r.same;
    }

bound_kind : Kind BoundLifetime BoundLifetime
bound_kind = record { judgement = IsBoundLifetime; view = erase_lifetime; spelled = bound_pieces; level = λ l. 0 }

bound_of : Ident → List Ident → BoundLifetime
bound_of n bs = record { name = n; bounds = bs }

same_bound : (n m : Ident) (as' bs : List Ident) → n ≡ m → as' ≡ bs → bound_of n as' ≡ bound_of m bs
same_bound n m as' bs e f = ap (λ x. bound_of x as') e ∙ ap (bound_of m) f

bounds_reads : (n : Ident) (bs : List Ident) → Lasting n → Every Lasting bs → ReadsOne bound_kind (bound_of n bs)
unfolding bound_kind bound_of
bounds_reads n [] f h at = record { tree = _; derived = g.unbounded (token_at at Lifetime n.name) (refl, f.1); same = refl }
bounds_reads n (b ∷ bs) f h at =
    let from : ℕ = at + length n.name + 1 + 1 in
    let r = bounds_read bs b h from in
    record {
      tree = _;
      derived = g.bounded (token_at at Lifetime n.name) (mark_at (at + length n.name) (codes ":")) (places from (bounds_pieces (b ∷ bs))) r.tree (refl, f.1) (refl, refl) r.derived;
      same = same_bound (erase_ident n) (erase_ident n) (map erase_ident r.tree) (map erase_ident (b ∷ bs)) refl r.same;
    }

bound_reads : (l : BoundLifetime) → FormedBound l → ReadsOne bound_kind l
unfolding bound_of
bound_reads l f = bounds_reads l.name l.bounds f.0 f.1

bound_lifetimes_read : (ls : List BoundLifetime) → Every FormedBound ls → (at : ℕ)
    → Derives AreBoundLifetimes (map erase_lifetime) (places at (in_angles (map bound_pieces ls))) (map erase_lifetime ls)
unfolding bound_kind
bound_lifetimes_read [] f at = record { tree = []; derived = g.no_bound_lifetime; same = refl }
bound_lifetimes_read (l ∷ ls) f at =
    let qs = separated (map bound_pieces (l ∷ ls)) in
    let r = some_at_zero bound_kind _ l ls _ (no_levels (l ∷ ls)) (some_of bound_kind _ l ls _ (separated_read bound_kind FormedBound bound_reads (l ∷ ls) f (at + 1))) in
    record {
      tree = r.first ∷ r.more;
      derived = g.bound_lifetimes (mark_at at (codes "<")) (mark_at (past (at + 1) qs) (codes ">")) (places (at + 1) qs) r.first r.more (refl, refl) (refl, refl) r.derived
          (angle_places at (bound_pieces l) (map bound_pieces ls));
      same = r.same;
    }

-- ---- fields, variants and parameters

field_kind : Kind FieldOf FieldOf
field_kind = record { judgement = IsStructField; view = erase_field; spelled = field_pieces; level = field_levels }

field_of : Ident → TypeTree → FieldOf
field_of n t = record { name = n; typ = t }

field_reads : (x : FieldOf) → FormedField x → ReadsOne field_kind x
unfolding field_kind field_of
field_reads x f at =
    let from : ℕ = at + length x.name.name + 1 + 1 in
    let a = (type_reads x.typ f.1).alone from in
    record {
      tree = _;
      derived = g.struct_field (token_at at Identifier x.name.name) (mark_at (at + length x.name.name) (codes ":")) (places from (type_pieces false x.typ)) a.tree _ refl (refl, refl) a.derived refl;
      same = ap (field_of (erase_ident x.name)) a.same;
    }

variant_kind : Kind VariantOf VariantOf
variant_kind = record { judgement = IsVariant; view = erase_variant; spelled = variant_pieces; level = variant_levels }

variant_of : Ident → TypeTrees → VariantOf
variant_of n ts = record { name = n; types = ts }

-- at least one type
record SomeTypes (ts : List Tok) (t : TypeTrees) (h : ℕ) : Type 0 where
  first : TypeTree
  more : List TypeTree
  derived : AreTypes ts (first ∷ more) h
  same : erase_types (types_of (first ∷ more)) ≡ erase_types t

some_types : (ts : List Tok) (t : TypeTree) (us : TypeTrees) (h : ℕ) → AsTypes ts (plain.type_and t us) h → SomeTypes ts (plain.type_and t us) h
some_types ts t us h r = by r.tree r.derived r.same
  where
    by : (ys : List TypeTree) → AreTypes ts ys h → erase_types (types_of ys) ≡ erase_types (plain.type_and t us) → SomeTypes ts (plain.type_and t us) h
    by [] d e = absurd (cc)
    by (y ∷ ys) d e = record { first = y; more = ys; derived = d; same = e }

variants_reads : (n : Ident) (ts : TypeTrees) → FormedTypes ts → ReadsOne variant_kind (variant_of n ts)
unfolding variant_kind variant_of
variants_reads n plain.no_type f at = record { tree = _; derived = g.variant (token_at at Identifier n.name) refl; same = refl }
variants_reads n (plain.type_and t us) f at =
    let begin : ℕ = at + length n.name in
    let qs = separated (each_type (plain.type_and t us)) in
    let r = some_types _ t us _ (types_read (plain.type_and t us) f (begin + 1)) in
    record {
      tree = _;
      derived = g.variant_with (token_at at Identifier n.name) (mark_at begin (codes "(")) (mark_at (past (begin + 1) qs) (codes ")")) (places (begin + 1) qs) r.first r.more _
          refl (refl, refl) (refl, refl) r.derived
          (ap (λ z. token_at at Identifier n.name ∷ z) (arguments_places begin (each_type (plain.type_and t us))));
      same = ap (variant_of (erase_ident n)) r.same;
    }

variant_reads : (v : VariantOf) → FormedVariant v → ReadsOne variant_kind v
unfolding variant_of
variant_reads v f = variants_reads v.name v.types f.1

parameter_kind : Kind Parameter Parameter
parameter_kind = record { judgement = IsParameter; view = erase_parameter; spelled = parameter_pieces; level = parameter_levels }

parameter_of : Ident → Bool → TypeTree → Parameter
parameter_of n m t = record { name = n; mutable = m; typ = t }

parameter_reads : (x : Parameter) → FormedParameter x → ReadsOne parameter_kind x
unfolding parameter_kind parameter_of
parameter_reads x f at =
    let ms = mutable_pieces x.mutable in
    let named : ℕ = past at ms in
    let from : ℕ = named + length x.name.name + 1 + 1 in
    let a = (type_reads x.typ f.1).alone from in
    record {
      tree = _;
      derived = g.parameter (places at ms) (places from (type_pieces false x.typ)) (token_at named Identifier x.name.name) (mark_at (named + length x.name.name) (codes ":")) x.mutable a.tree _
          (mutable_reads x.mutable at) refl (refl, refl) a.derived (places-append at ms (name x.name ∷ written_type x.typ));
      same = ap (parameter_of (erase_ident x.name) x.mutable) a.same;
    }

result_reads : (r : Option TypeTree) → WrittenType r → (at : ℕ)
    → Derives (λ us y. IsResult us y (written_levels r)) (option_map erase_type) (places at (result_pieces r)) (option_map erase_type r)
result_reads None f at = record { tree = None; derived = g.no_result; same = refl }
result_reads (Some t) f at =
    let from : ℕ = at + 1 + 2 + 1 in
    let a = (type_reads t f).alone from in
    record { tree = Some a.tree; derived = g.result (mark_at (at + 1) (codes "->")) (places from (type_pieces false t)) a.tree _ (refl, refl) a.derived refl; same = rw a.same refl }

-- ---- items

abbrev pub AsItem : List Tok → ItemTree → ℕ → Type 0
AsItem ts i h = Derives (λ us y. IsItem us y h) erase_item ts (erase_item i)

rt_reads : (s r : Span) (at : ℕ) → AsItem (places at (item_pieces (plain.rt_item s r))) (plain.rt_item s r) 0
rt_reads s r at =
    record {
      tree = _;
      derived = g.rt (token_at at Keyword (codes "mod")) (token_at (at + 3 + 1) Identifier (codes "rt")) (mark_at (at + 3 + 1 + 2) (codes ";")) (refl, refl) (refl, refl) (refl, refl) refl;
      same = refl;
    }

structure_of : Ident → List Derive → List Ident → List FieldOf → Structure
structure_of n ds ls fs = record { name = n; derives = ds; lifetimes = ls; fields = fs }

-- a struct or an enum: what is derived, the keyword, the name, the lifetimes and the entries
declared_places : (at : ℕ) (ds : List Piece) (w : List ℕ) (n : Ident) (ls : List Piece) (pss : List (List Piece))
    → (c : ℕ) × (places at (ds ++ (keyword w ∷ space ∷ name n ∷ (ls ++ (space ∷ entries_of pss))))
    ≡ places at ds ++ (token_at (past at ds) Keyword w ∷ token_at (past at ds + length w + 1) Identifier n.name
    ∷ (places (past at ds + length w + 1 + length n.name) ls ++ (mark_at (past (past at ds + length w + 1 + length n.name) ls + 1) (codes "{")
    ∷ (places (past (past at ds + length w + 1 + length n.name) ls + 1 + 1) (entries pss) ++ mark_at c (codes "}") ∷ [])))))
declared_places at ds w n ls pss =
    let start : ℕ = past at ds + length w + 1 + length n.name in
    let e = entries_places pss (past start ls + 1) in (
      e.0,
      places-append at ds (keyword w ∷ space ∷ name n ∷ (ls ++ (space ∷ entries_of pss)))
          ∙ ap (λ l. places at ds ++ (token_at (past at ds) Keyword w ∷ token_at (past at ds + length w + 1) Identifier n.name ∷ l))
          (places-append start ls (space ∷ entries_of pss) ∙ ap (λ l. places start ls ++ l) e.1),
    )

same_structure : (n m : Ident) (ds : List Derive) (ls ks : List Ident) (fs hs : List FieldOf) → n ≡ m → ls ≡ ks → fs ≡ hs → structure_of n ds ls fs ≡ structure_of m ds ks hs
same_structure n m ds ls ks fs hs e f h = ap (λ x. structure_of x ds ls fs) e ∙ ap (λ x. structure_of m ds x fs) f ∙ ap (structure_of m ds ks) h

structure_reads : (s : Span) (x : Structure) → FormedItem (plain.struct_item s x) → (at : ℕ)
    → AsItem (places at (structure_pieces x)) (plain.struct_item s x) (deepest (map field_levels x.fields))
unfolding field_kind structure_of
structure_reads s x f at =
    let ds = derives_pieces x.derives in
    let ls = in_angles (map one_lifetime x.lifetimes) in
    let start : ℕ = past at ds + 6 + 1 + length x.name.name in
    let open' : ℕ = past start ls + 1 in
    let p = declared_places at ds (codes "struct") x.name ls (map field_pieces x.fields) in
    let a = lifetimes_read x.lifetimes f.1 start in
    let b = entries_read field_kind FormedField field_reads x.fields f.2 (open' + 1) in
    record {
      tree = _;
      derived = g.structure (token_at (past at ds) Keyword (codes "struct")) (token_at (past at ds + 6 + 1) Identifier x.name.name) (mark_at open' (codes "{")) (mark_at p.0 (codes "}"))
          (places at ds) (places start ls) (places (open' + 1) (entries (map field_pieces x.fields))) x.derives a.tree b.tree _
          (refl, refl) refl (refl, refl) (refl, refl) (derives_read x.derives at) a.derived b.derived p.1;
      same = ap (plain.struct_item nowhere) (same_structure (erase_ident x.name) (erase_ident x.name) x.derives (map erase_ident a.tree) (map erase_ident x.lifetimes) (map erase_field b.tree) (map erase_field x.fields) refl a.same b.same);
    }

enumeration_of : Ident → List Derive → List Ident → List VariantOf → Enumeration
enumeration_of n ds ls vs = record { name = n; derives = ds; lifetimes = ls; variants = vs }

same_enumeration : (n m : Ident) (ds : List Derive) (ls ks : List Ident) (vs hs : List VariantOf) → n ≡ m → ls ≡ ks → vs ≡ hs → enumeration_of n ds ls vs ≡ enumeration_of m ds ks hs
same_enumeration n m ds ls ks vs hs e f h = ap (λ x. enumeration_of x ds ls vs) e ∙ ap (λ x. enumeration_of m ds x vs) f ∙ ap (enumeration_of m ds ks) h

variants_read : (s : Span) (n : Ident) (es : List Derive) (ks : List Ident) (vs : List VariantOf) → Every Lasting ks → IsSome vs → Every FormedVariant vs → (at : ℕ)
    → AsItem (places at (enumeration_pieces (enumeration_of n es ks vs))) (plain.enum_item s (enumeration_of n es ks vs)) (deepest (map variant_levels vs))
unfolding variant_kind enumeration_of
variants_read s n es ks [] fl i f at = absurd i
variants_read s n es ks (v ∷ vs) fl i f at =
    let ds = derives_pieces es in
    let ls = in_angles (map one_lifetime ks) in
    let start : ℕ = past at ds + 4 + 1 + length n.name in
    let open' : ℕ = past start ls + 1 in
    let p = declared_places at ds (codes "enum") n ls (map variant_pieces (v ∷ vs)) in
    let a = lifetimes_read ks fl start in
    let b = some_of variant_kind _ v vs _ (entries_read variant_kind FormedVariant variant_reads (v ∷ vs) f (open' + 1)) in
    record {
      tree = _;
      derived = g.enumeration (token_at (past at ds) Keyword (codes "enum")) (token_at (past at ds + 4 + 1) Identifier n.name) (mark_at open' (codes "{")) (mark_at p.0 (codes "}"))
          (places at ds) (places start ls) (places (open' + 1) (entries (map variant_pieces (v ∷ vs)))) es a.tree b.first b.more _
          (refl, refl) refl (refl, refl) (refl, refl) (derives_read es at) a.derived b.derived p.1;
      same = ap (plain.enum_item nowhere) (same_enumeration (erase_ident n) (erase_ident n) es (map erase_ident a.tree) (map erase_ident ks) (map erase_variant (b.first ∷ b.more)) (map erase_variant (v ∷ vs)) refl a.same b.same);
    }

enumeration_reads : (s : Span) (x : Enumeration) → FormedItem (plain.enum_item s x) → (at : ℕ)
    → AsItem (places at (enumeration_pieces x)) (plain.enum_item s x) (deepest (map variant_levels x.variants))
unfolding enumeration_of
enumeration_reads s x f = variants_read s x.name x.derives x.lifetimes x.variants f.1 f.2 f.3

function_of : Ident → List BoundLifetime → List Parameter → Option TypeTree → Body → Function
function_of n ls ps r b = record { name = n; lifetimes = ls; params = ps; result = r; body = b }

same_function : (n : Ident) (ls ks : List BoundLifetime) (ps qs : List Parameter) (r t : Option TypeTree) (b c : Body) → ls ≡ ks → ps ≡ qs → r ≡ t → b ≡ c
    → function_of n ls ps r b ≡ function_of n ks qs t c
same_function n ls ks ps qs r t b c e f h i =
    ap (λ x. function_of n x ps r b) e ∙ ap (λ x. function_of n ks x r b) f ∙ ap (λ x. function_of n ks qs x b) h ∙ ap (function_of n ks qs t) i

function_reads : (s : Span) (x : Function) → FormedItem (plain.function_item s x) → (at : ℕ)
    → AsItem (places at (function_pieces x)) (plain.function_item s x) (item_levels (plain.function_item s x))
unfolding parameter_kind function_of
function_reads s x f at =
    let ls = in_angles (map bound_pieces x.lifetimes) in
    let qs = separated (map parameter_pieces x.params) in
    let rs = result_pieces x.result in
    let bs = block 0 x.body in
    let start : ℕ = at + 2 + 1 + length x.name.name in
    let open' : ℕ = past start ls in
    let close : ℕ = past (open' + 1) qs in
    let behind : ℕ = past (close + 1) rs + 1 in
    let a = bound_lifetimes_read x.lifetimes f.1 start in
    let b = separated_read parameter_kind FormedParameter parameter_reads x.params f.2 (open' + 1) in
    let c = result_reads x.result f.3 (close + 1) in
    let d = block_reads x.body 0 f.4 behind in
    record {
      tree = _;
      derived = g.function (token_at at Keyword (codes "fn")) (token_at (at + 2 + 1) Identifier x.name.name) (mark_at open' (codes "(")) (mark_at close (codes ")"))
          (places start ls) (places (open' + 1) qs) (places (close + 1) rs) (places behind bs) a.tree b.tree c.tree d.tree _ _ _
          (refl, refl) refl (refl, refl) (refl, refl) a.derived b.derived c.derived d.derived
          (ap (λ l. token_at at Keyword (codes "fn") ∷ token_at (at + 2 + 1) Identifier x.name.name ∷ l)
          (places-append start ls (mark (codes "(") ∷ (qs ++ (mark (codes ")") ∷ (rs ++ (space ∷ bs)))))
          ∙ ap (λ l. places start ls ++ (mark_at open' (codes "(") ∷ l)) (places-append (open' + 1) qs (mark (codes ")") ∷ (rs ++ (space ∷ bs)))
          ∙ ap (λ l. places (open' + 1) qs ++ (mark_at close (codes ")") ∷ l)) (places-append (close + 1) rs (space ∷ bs)))));
      same = ap (plain.function_item nowhere) (same_function (erase_ident x.name) (map erase_lifetime a.tree) (map erase_lifetime x.lifetimes) (map erase_parameter b.tree) (map erase_parameter x.params)
          (option_map erase_type c.tree) (option_map erase_type x.result) (erase_body d.tree) (erase_body x.body) a.same b.same c.same d.same);
    }

-- a function whose body is derived from other tokens
pub headed_reads : (s : Span) (x : Function) → Every FormedBound x.lifetimes → Every FormedParameter x.params → WrittenType x.result → (bs : List Tok) (b : Body) (k : ℕ) → IsBlock bs b k → (at : ℕ)
    → AsItem (places at (header_pieces x) ++ bs) (plain.function_item s (record x { body = b })) (max (deepest (map parameter_levels x.params)) (max (written_levels x.result) k))
unfolding parameter_kind function_of
headed_reads s x f h i bs body' k d at =
    let ls = in_angles (map bound_pieces x.lifetimes) in
    let qs = separated (map parameter_pieces x.params) in
    let rs = result_pieces x.result in
    let start : ℕ = at + 2 + 1 + length x.name.name in
    let open' : ℕ = past start ls in
    let close : ℕ = past (open' + 1) qs in
    let a = bound_lifetimes_read x.lifetimes f start in
    let b = separated_read parameter_kind FormedParameter parameter_reads x.params h (open' + 1) in
    let c = result_reads x.result i (close + 1) in
    let p = places start ls in
    let q = places (open' + 1) qs in
    let r = places (close + 1) rs in
    let t = token_at at Keyword (codes "fn") in
    let n = token_at (at + 2 + 1) Identifier x.name.name in
    let o = mark_at open' (codes "(") in
    let z = mark_at close (codes ")") in
    record {
      tree = _;
      derived = g.function t n o z p q r bs a.tree b.tree c.tree body' _ _ k (refl, refl) refl (refl, refl) (refl, refl) a.derived b.derived c.derived d
          (ap (λ l. t ∷ n ∷ (l ++ bs)) (places-append start ls (mark (codes "(") ∷ (qs ++ (mark (codes ")") ∷ (rs ++ space ∷ []))))
          ∙ ap (λ l. p ++ (o ∷ l)) (places-append (open' + 1) qs (mark (codes ")") ∷ (rs ++ space ∷ []))
          ∙ ap (λ l. q ++ (z ∷ l)) (places-append (close + 1) rs (space ∷ []) ∙ append-nil r)))
          ∙ ap (λ l. t ∷ n ∷ l) (append_assoc p (o ∷ (q ++ (z ∷ r))) bs ∙ ap (λ l. p ++ (o ∷ l)) (append_assoc q (z ∷ r) bs)));
      same = ap (plain.function_item nowhere) (same_function (erase_ident x.name) (map erase_lifetime a.tree) (map erase_lifetime x.lifetimes) (map erase_parameter b.tree) (map erase_parameter x.params)
          (option_map erase_type c.tree) (option_map erase_type x.result) (erase_body body') (erase_body body') a.same b.same c.same refl);
    }

item_reads : (i : ItemTree) → FormedItem i → (at : ℕ) → AsItem (places at (item_pieces i)) i (item_levels i)
item_reads (plain.rt_item s r) f = rt_reads s r
item_reads (plain.struct_item s x) f = structure_reads s x f
item_reads (plain.enum_item s x) f = enumeration_reads s x f
item_reads (plain.function_item s x) f = function_reads s x f

-- ---- programs

abbrev pub AsProgram : List Tok → ProgramTree → ℕ → Type 0
AsProgram ts p h = Derives (λ us q. IsFile us q h) erase_program ts (erase_program p)

one_more : (i : ItemTree) (is : ProgramTree) (rest : List Piece) → FormedItem i → ((at : ℕ) → AsProgram (places at rest) is (levels_of is)) → (at : ℕ)
    → AsProgram (places at (item_pieces i ++ rest)) (i ∷ is) (levels_of (i ∷ is))
one_more i is rest f k at =
    let a = item_reads i f at in
    let b = k (past at (item_pieces i)) in
    record {
      tree = a.tree ∷ b.tree;
      derived = g.item_and (places at (item_pieces i)) (places (past at (item_pieces i)) rest) a.tree b.tree _ _ a.derived b.derived (places-append at (item_pieces i) rest);
      same = ap (λ x. x ∷ erase_program b.tree) a.same ∙ ap (λ l. erase_item i ∷ l) b.same;
    }

after_reads : (p : ProgramTree) → FormedProgram p → (at : ℕ) → AsProgram (places at (after_item p)) p (levels_of p)
after_reads [] f at = record { tree = []; derived = g.no_item; same = refl }
after_reads (i ∷ is) f at = one_more i is (after_item is) f.0 (after_reads is f.1) (at + 2)

pub program_reads : (p : ProgramTree) → FormedProgram p → (at : ℕ) → AsProgram (places at (program_pieces p)) p (levels_of p)
program_reads [] f at = record { tree = []; derived = g.no_item; same = refl }
program_reads (i ∷ is) f at = one_more i is (after_item is) f.0 (after_reads is f.1) at
