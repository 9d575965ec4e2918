-- The way to the block of a run: at each node the run is in one child alone, and a block with the run in a child has no run of its own that
-- is selected. So a range selects at most one run, by induction on the way.
use Rattle.std.proofs.Common.{◌≡◌, ℕ, zero, suc, ◌+◌, ◌-◌, ◌≤◌, ◌<◌, ◌==◌, List, [], ◌∷◌, length, Option, Some, None, map, refl, ap, sym, ◌∙◌, subst, arith, slice_get}
use Rattle.rx_core.specs.declared.types.Span.{Span}
use Rattle.rx_core.specs.declared.types.Position.{Position}
use Rattle.rx_tree.specs.Plain as plain
use Rattle.rx_tree.specs.Plain.{TypeTree, TypeTrees, PatternTree, PatternTrees, FieldPatterns, FieldOf, VariantOf, Body, ItemTree, ProgramTree}
use Rattle.rx_tree.specs.Lists.{Every, statements}
use Rattle.rx_tree.specs.Spans.{body_span, node_span}
use Rattle.rx_tree.specs.Positions.{NodeTree, an_item, a_type, a_block, a_statement, an_expression, a_pattern, type_nodes, pattern_nodes, field_pattern_nodes, declared_nodes, variant_nodes, children, descend, node_at}
use Rattle.rx_tree.specs.Nodes.{below}
use Rattle.rx_tree.proofs.NodesLaws.{joined, below_is, every_front, every_behind, every_both}
use Rattle.rx_lex.specs.Tok.{Tok}
use Rattle.rx_lex.proofs.TokenLaws.{Ordered}
use Rattle.rx_typed_runs.specs.declared.runs.RunPos.{RunPos}
use Rattle.rx_select.specs.Selected.{Within, FirstToLast}
use Rattle.rx_select.specs.Parts.{parts_of}
use Rattle.rx_select.specs.RunOf.{RunOf}
use Rattle.rx_select.specs.OneText.{OneText}
use Rattle.rx_select.proofs.Tokens.{every_token}
use Rattle.rx_select.proofs.Rows.{InOrder, Parted, Laid, Nested}
use Rattle.rx_select.proofs.Programs.{Placed, placed}
use Rattle.rx_select.proofs.Choosing.{Long, Chosen, chosen_one, chosen_within, spans_long, not_around}

-- ---- types, patterns, and items that are no functions hold no block

abbrev Bare : NodeTree → Type 0
Bare (a_type t) = Unit {0}
Bare (a_pattern p) = Unit {0}
Bare _ = ⊥

types_bare : (ts : TypeTrees) → Every Bare (type_nodes ts)
types_bare plain.no_type = tt
types_bare (plain.type_and t ts) = (tt, types_bare ts)

type_bare : (t : TypeTree) → Every Bare (children (a_type t))
type_bare (plain.kind_type s k) = tt
type_bare (plain.bool_type s) = tt
type_bare (plain.tuple_type s ts) = types_bare ts
type_bare (plain.ref_type s l m t) = (tt, tt)
type_bare (plain.named_type s n ls) = tt

patterns_bare : (ps : PatternTrees) → Every Bare (pattern_nodes ps)
patterns_bare plain.no_pattern = tt
patterns_bare (plain.pattern_and p ps) = (tt, patterns_bare ps)

fields_bare : (fs : FieldPatterns) → Every Bare (field_pattern_nodes fs)
fields_bare plain.no_field_pattern = tt
fields_bare (plain.field_pattern_and n p fs) = (tt, fields_bare fs)

pattern_bare : (p : PatternTree) → Every Bare (children (a_pattern p))
pattern_bare (plain.wild s) = tt
pattern_bare (plain.bind s n m) = tt
pattern_bare (plain.int_pattern s g v k) = tt
pattern_bare (plain.bool_pattern s b) = tt
pattern_bare (plain.tuple_pattern s ps) = patterns_bare ps
pattern_bare (plain.variant_pattern s a v ps) = patterns_bare ps
pattern_bare (plain.make_pattern s n fs) = fields_bare fs

declared_bare : (fs : List FieldOf) → Every Bare (declared_nodes fs)
declared_bare [] = tt
declared_bare (f ∷ fs) = (tt, declared_bare fs)

variants_bare : (vs : List VariantOf) → Every Bare (variant_nodes vs)
variants_bare [] = tt
variants_bare (v ∷ vs) = every_both Bare (type_nodes v.types) (variant_nodes vs) (types_bare v.types) (variants_bare vs)

child_has : (P : NodeTree → Type 0) (cs : List NodeTree) (k : ℕ) (c : NodeTree) → Every P cs → slice_get cs k ≡ Some c → P c
child_has P [] k c h e = absurd (cc)
child_has P (x ∷ cs) zero c h e = let q : x ≡ c = cc in subst P q h.0
child_has P (x ∷ cs) (suc k) c h e = child_has P cs k c h.1 e

bare_children : (n : NodeTree) → Bare n → Every Bare (children n)
bare_children (a_type t) h = type_bare t
bare_children (a_pattern p) h = pattern_bare p
bare_children (an_item i) h = absurd h
bare_children (a_block b) h = absurd h
bare_children (a_statement a) h = absurd h
bare_children (an_expression e) h = absurd h

no_block_here : (n : NodeTree) (b : Body) → Bare n → Some n ≡ Some (a_block b) → ⊥
no_block_here n b h e = let q : n ≡ a_block b = cc in subst Bare q h

-- a step down, where there is a child
pub down : (P : Type 0) (n : NodeTree) (k : ℕ) (ks : List ℕ) (b : Body) → ((c : NodeTree) → slice_get (children n) k ≡ Some c → descend (Some c) ks ≡ Some (a_block b) → P)
    → descend (Some n) (k ∷ ks) ≡ Some (a_block b) → P
down P n k ks b f e = by (slice_get (children n) k) refl e
  where
    by : (o : Option NodeTree) → slice_get (children n) k ≡ o → descend o ks ≡ Some (a_block b) → P
    by None q d = absurd (cc)
    by (Some c) q d = f c q d

pub no_block : (ks : List ℕ) (n : NodeTree) (b : Body) → Bare n → descend (Some n) ks ≡ Some (a_block b) → ⊥
no_block [] n b h e = no_block_here n b h e
no_block (k ∷ ks) n b h e = down ⊥ n k ks b (λ c q d. no_block ks c b (child_has Bare (children n) k c (bare_children n h) q) d) e

no_block_below : (n : NodeTree) → Every Bare (children n) → (k : ℕ) (ks : List ℕ) (b : Body) → descend (Some n) (k ∷ ks) ≡ Some (a_block b) → ⊥
no_block_below n h k ks b e = down ⊥ n k ks b (λ c q d. no_block ks c b (child_has Bare (children n) k c h q) d) e

-- an item that is no function
abbrev NoFunction : ItemTree → Type 0
NoFunction (plain.function_item s f) = ⊥
NoFunction _ = Unit {0}

item_bare : (i : ItemTree) → NoFunction i → Every Bare (children (an_item i))
item_bare (plain.rt_item s r) h = tt
item_bare (plain.struct_item s x) h = declared_bare x.fields
item_bare (plain.enum_item s x) h = variants_bare x.variants
item_bare (plain.function_item s f) h = absurd h

pub no_item_block : (ks : List ℕ) (i : ItemTree) (b : Body) → NoFunction i → descend (Some (an_item i)) ks ≡ Some (a_block b) → ⊥
no_item_block [] i b h e = absurd (cc)
no_item_block (k ∷ ks) i b h e = no_block_below (an_item i) (item_bare i h) k ks b e

-- a node with a block below has its children in order in its span
pub nested : (ts : List Tok) (n : NodeTree) (k : ℕ) (ks : List ℕ) (b : Body) → Laid ts n → descend (Some n) (k ∷ ks) ≡ Some (a_block b) → Nested n
nested ts (an_item (plain.rt_item s r)) k ks b l e = absurd (no_block_below (an_item (plain.rt_item s r)) tt k ks b e)
nested ts (an_item (plain.struct_item s x)) k ks b l e = absurd (no_block_below (an_item (plain.struct_item s x)) (declared_bare x.fields) k ks b e)
nested ts (an_item (plain.enum_item s x)) k ks b l e = absurd (no_block_below (an_item (plain.enum_item s x)) (variants_bare x.variants) k ks b e)
nested ts (an_item (plain.function_item s f)) k ks b l e = l
nested ts (a_type t) k ks b l e = absurd (no_block_below (a_type t) (type_bare t) k ks b e)
nested ts (a_block d) k ks b l e = l.0
nested ts (a_statement a) k ks b l e = l
nested ts (an_expression x) k ks b l e = l
nested ts (a_pattern p) k ks b l e = absurd (no_block_below (a_pattern p) (pattern_bare p) k ks b e)

-- ---- children

abbrev pub AllLaid : List Tok → NodeTree → Type 0
AllLaid ts n = Every (Laid ts) (n ∷ below n)

row_child : (ts : List Tok) (cs : List NodeTree) (k : ℕ) (c : NodeTree) → Every (Laid ts) (joined cs) → slice_get cs k ≡ Some c → AllLaid ts c
row_child ts [] k c h e = absurd (cc)
row_child ts (x ∷ cs) zero c h e =
    let q : x ≡ c = cc in
    subst (AllLaid ts) q (h.0, every_front (Laid ts) (below x) (joined cs) h.1)
row_child ts (x ∷ cs) (suc k) c h e = row_child ts cs k c (every_behind (Laid ts) (below x) (joined cs) h.1) e

pub laid_child : (ts : List Tok) (n : NodeTree) (k : ℕ) (c : NodeTree) → AllLaid ts n → slice_get (children n) k ≡ Some c → AllLaid ts c
laid_child ts n k c h e = row_child ts (children n) k c (subst (Every (Laid ts)) (below_is n) h.1) e

pub child_in : (from to : ℕ) (cs : List NodeTree) (k : ℕ) (c : NodeTree) → InOrder from to (map node_span cs) → slice_get cs k ≡ Some c
    → (from ≤ (node_span c).start) × ((node_span c).start < (node_span c).end) × ((node_span c).end ≤ to)
child_in from to [] k c o e = absurd (cc)
child_in from to (x ∷ cs) zero c o e =
    let q : x ≡ c = cc in
    let h = above (node_span x).end to cs o.2 in
    let P : NodeTree → Type 0 = λ n. (from ≤ (node_span n).start) × ((node_span n).start < (node_span n).end) × ((node_span n).end ≤ to) in
    subst P q (o.0, o.1, h)
  where
    above : (from to : ℕ) (cs : List NodeTree) → InOrder from to (map node_span cs) → from ≤ to
    above from to [] o = o
    above from to (c ∷ cs) o = let h = above (node_span c).end to cs o.2 in let a = o.0 in let b = o.1 in omega (arith, h, a, b)
child_in from to (x ∷ cs) (suc k) c o e =
    let h = child_in (node_span x).end to cs k c o.2 e in
    let a = o.0 in
    let b = o.1 in
    (omega (arith, h.0, a, b), h.1, h.2)

-- the span has the node round it
abbrev pub Has : Span → NodeTree → Type 0
Has w n = ((node_span n).start ≤ w.start) × (w.end ≤ (node_span n).end)

-- one child alone has a span in it
pub one_child : (from to : ℕ) (cs : List NodeTree) (k l : ℕ) (c d : NodeTree) (w : Span) → w.start < w.end → InOrder from to (map node_span cs) → slice_get cs k ≡ Some c → slice_get cs l ≡ Some d → Has w c → Has w d → k ≡ l
one_child from to [] k l c d w m o e f h i = absurd (cc)
one_child from to (x ∷ cs) zero zero c d w m o e f h i = refl
one_child from to (x ∷ cs) zero (suc l) c d w m o e f h i =
    let q : x ≡ c = cc in
    let g = child_in (node_span x).end to cs l d o.2 f in
    let j = subst (Has w) (sym q) h in
    let a = j.1 in
    let b = i.0 in
    absurd (omega (arith, g.0, a, b, m))
one_child from to (x ∷ cs) (suc k) zero c d w m o e f h i =
    let q : x ≡ d = cc in
    let g = child_in (node_span x).end to cs k c o.2 e in
    let j = subst (Has w) (sym q) i in
    let a = j.1 in
    let b = h.0 in
    absurd (omega (arith, g.0, a, b, m))
one_child from to (x ∷ cs) (suc k) (suc l) c d w m o e f h i = ap suc (one_child (node_span x).end to cs k l c d w m o.2 e f h i)

-- ---- a block is in each node above it

pub record Held (ts : List Tok) (n : NodeTree) (b : Body) : Type 0 where
  pub starts : (node_span n).start ≤ (body_span b).start
  pub ends : (body_span b).end ≤ (node_span n).end
  pub parted : Parted ts b

pub held : (ts : List Tok) (ks : List ℕ) (n : NodeTree) (b : Body) → AllLaid ts n → descend (Some n) ks ≡ Some (a_block b) → Held ts n b
held ts [] n b l e =
    let q : a_block b ≡ n = cc in
    subst (λ m. AllLaid ts m → Held ts m b) q (λ h. record { starts = omega arith; ends = omega arith; parted = h.0.1 }) l
held ts (k ∷ ks) n b l e = down (Held ts n b) n k ks b (λ c q d. by c q (held ts ks c b (laid_child ts n k c l q) d)) e
  where
    by : (c : NodeTree) → slice_get (children n) k ≡ Some c → Held ts c b → Held ts n b
    by c q h =
        let o = nested ts n k ks b l.0 e in
        let i = child_in (node_span n).start (node_span n).end (children n) k c o q in
        let x = h.starts in
        let y = h.ends in
        record { starts = omega (arith, x, i.0); ends = omega (arith, y, i.2); parted = h.parted }

-- ---- a run in a block

-- the range, whose first and last token are at the ends of the span, selects statements of the block
pub record Runs (ts : List Tok) (S E : ℕ) (w : Span) (b : Body) : Type 0 where
  pub i : ℕ
  pub j : ℕ
  pub chosen : Chosen ts S E (parts_of b) i j

pub run_in_body : (ts : List Tok) (S E : ℕ) (w : Span) (b : Body) → FirstToLast S E ts w → Parted ts b → Runs ts S E w b → ((body_span b).start + 1 ≤ w.start) × (w.end ≤ (body_span b).end - 1)
run_in_body ts S E w b f p r = chosen_within ts S E ((body_span b).start + 1) ((body_span b).end - 1) (parts_of b) r.i r.j w f p.ordered r.chosen

-- each node above the block has the run
pub has_run : (ts : List Tok) (S E : ℕ) (w : Span) (ks : List ℕ) (n : NodeTree) (b : Body) → FirstToLast S E ts w → AllLaid ts n → descend (Some n) ks ≡ Some (a_block b) → Runs ts S E w b → Has w n
has_run ts S E w ks n b f l e r =
    let h = held ts ks n b l e in
    let g = run_in_body ts S E w b f h.parted r in
    let x = h.starts in
    let y = h.ends in
    (omega (arith, g.0, x), omega (arith, g.1, y))

-- a block with the run of another block below has no run of its own
pub not_both : (ts : List Tok) (S E : ℕ) (w : Span) (d : Body) (k : ℕ) (ks : List ℕ) (b : Body) → Long ts → FirstToLast S E ts w → AllLaid ts (a_block d)
    → descend (Some (a_block d)) (k ∷ ks) ≡ Some (a_block b) → Runs ts S E w d → Runs ts S E w b → ⊥
not_both ts S E w d k ks b n f l e r q = down ⊥ (a_block d) k ks b by e
  where
    by : (c : NodeTree) → slice_get (children (a_block d)) k ≡ Some c → descend (Some c) ks ≡ Some (a_block b) → ⊥
    by c u v =
        let m = laid_child ts (a_block d) k c l u in
        let h = held ts ks c b m v in
        let g = run_in_body ts S E w b f h.parted q in
        let z = has_run ts S E w ks c b f m v q in
        let p = h.parted in
        let x = h.starts in
        let y = p.begins in
        let a = p.ends in
        not_around ts S E w d r.i r.j k c p.brace n f l.0.1 r.chosen u z.1 p.is (omega (arith, x, y)) (omega (arith, a, g.0))

pub same_way : (ts : List Tok) (S E : ℕ) (w : Span) (ks js : List ℕ) (n : NodeTree) (b d : Body) → Long ts → FirstToLast S E ts w → AllLaid ts n → descend (Some n) ks ≡ Some (a_block b)
    → descend (Some n) js ≡ Some (a_block d) → Runs ts S E w b → Runs ts S E w d → ks ≡ js
same_way ts S E w [] [] n b d m f l e g r q = refl
same_way ts S E w [] (k ∷ js) n b d m f l e g r q =
    let z : n ≡ a_block b = cc in
    absurd (not_both ts S E w b k js d m f (subst (AllLaid ts) z l) (subst (λ x. descend (Some x) (k ∷ js) ≡ Some (a_block d)) z g) r q)
same_way ts S E w (k ∷ ks) [] n b d m f l e g r q =
    let z : n ≡ a_block d = cc in
    absurd (not_both ts S E w d k ks b m f (subst (AllLaid ts) z l) (subst (λ x. descend (Some x) (k ∷ ks) ≡ Some (a_block b)) z e) q r)
same_way ts S E w (k ∷ ks) (j ∷ js) n b d m f l e g r q =
    down (k ∷ ks ≡ j ∷ js) n k ks b (λ c u v. down (k ∷ ks ≡ j ∷ js) n j js d (λ a x y. by (λ c l e g. same_way ts S E w ks js c b d m f l e g r q) c u v a x y) g) e
  where
    by : ((c : NodeTree) → AllLaid ts c → descend (Some c) ks ≡ Some (a_block b) → descend (Some c) js ≡ Some (a_block d) → ks ≡ js) → (c : NodeTree) → slice_get (children n) k ≡ Some c → descend (Some c) ks ≡ Some (a_block b) → (a : NodeTree) → slice_get (children n) j ≡ Some a → descend (Some a) js ≡ Some (a_block d) → k ∷ ks ≡ j ∷ js
    by on c u v a x y =
        let o = nested ts n k ks b l.0 e in
        let lc = laid_child ts n k c l u in
        let p : k ≡ j = one_child (node_span n).start (node_span n).end (children n) k j c a w (spans_long ts S E w m f) o u x (has_run ts S E w ks c b f lc v r)
        (has_run ts S E w js a d f (laid_child ts n j a l x) y q) in
        let t : slice_get (children n) k ≡ Some a = subst (λ i. slice_get (children n) i ≡ Some a) (sym p) x in
        let s : a ≡ c = cc in
        let h = on c lc v (subst (λ z. descend (Some z) js ≡ Some (a_block d)) s y) in
        ap (λ i. i ∷ ks) p ∙ ap (λ l. j ∷ l) h

-- ---- in a program

pub item_laid : (ts : List Tok) (bytes : ℕ) (p : ProgramTree) (k : ℕ) (c : NodeTree) → Placed ts bytes p → slice_get (map an_item p) k ≡ Some c → AllLaid ts c
item_laid ts bytes p k c x e = row_child ts (map an_item p) k c x.row.laid e

pub long_tokens : (ts : List Tok) (bytes : ℕ) (p : ProgramTree) → Placed ts bytes p → Long ts
long_tokens ts bytes p x = by 0 bytes ts x.text.ordered
  where
    by : (from to : ℕ) (ts : List Tok) → Ordered from to ts → Long ts
    by from to [] o = tt
    by from to (t ∷ ts) o = (o.1, by t.span.end to ts o.2)

chosen_of : {bytes S E : ℕ} {ts : List Tok} {p : ProgramTree} {r : RunPos} → (x : RunOf bytes ts p S E r) → Chosen ts S E (parts_of x.block) r.first r.last
chosen_of {r = r} x = record { a = x.a; b = x.b; first = x.first; last = x.last; forward = x.forward; exactly = x.exactly }

pub runs : {bytes S E : ℕ} {ts : List Tok} {p : ProgramTree} {r : RunPos} → (x : RunOf bytes ts p S E r) → Runs ts S E r.span x.block
runs {r = r} x = record { i = r.first; j = r.last; chosen = chosen_of x }

-- the selected tokens have one first and one last
pub spans_same : (S E : ℕ) (ts : List Tok) (w v : Span) → FirstToLast S E ts w → FirstToLast S E ts v → (w.start ≡ v.start) × (w.end ≡ v.end)
spans_same S E ts w v f g =
    let a = every_token (λ t. Within S E t → Within w.start w.end t) ts g.first f.all g.first_is g.first_selected in
    let b = every_token (λ t. Within S E t → Within v.start v.end t) ts f.first g.all f.first_is f.first_selected in
    let c = every_token (λ t. Within S E t → Within w.start w.end t) ts g.last f.all g.last_is g.last_selected in
    let d = every_token (λ t. Within S E t → Within v.start v.end t) ts f.last g.all f.last_is f.last_selected in
    let i = f.begins in
    let j = g.begins in
    let k = f.ends in
    let l = g.ends in
    (omega (arith, a.0, b.0, i, j), omega (arith, c.1, d.1, k, l))

pub span_is : (w v : Span) → (w.start ≡ v.start) × (w.end ≡ v.end) → w ≡ v
span_is w v e = ap (λ s. record { start = s; end = w.end }) e.0 ∙ ap (λ s. record { start = v.start; end = s }) e.1

position_is : (x y : Position) → x.item ≡ y.item → x.path ≡ y.path → x ≡ y
position_is x y e f = ap (λ i. record { item = i; path = x.path }) e ∙ ap (λ i. record { item = y.item; path = i }) f

run_is : (r q : RunPos) → r.function ≡ q.function → r.block ≡ q.block → r.first ≡ q.first → r.last ≡ q.last → r.tail ≡ q.tail → r.span ≡ q.span → r ≡ q
run_is r q a b c d e f =
    ap (λ x. record { function = x; block = r.block; first = r.first; last = r.last; tail = r.tail; span = r.span }) a
    ∙ ap (λ x. record { function = q.function; block = x; first = r.first; last = r.last; tail = r.tail; span = r.span }) b
    ∙ ap (λ x. record { function = q.function; block = q.block; first = x; last = r.last; tail = r.tail; span = r.span }) c
    ∙ ap (λ x. record { function = q.function; block = q.block; first = q.first; last = x; tail = r.tail; span = r.span }) d
    ∙ ap (λ x. record { function = q.function; block = q.block; first = q.first; last = q.last; tail = x; span = r.span }) e
    ∙ ap (λ x. record { function = q.function; block = q.block; first = q.first; last = q.last; tail = q.tail; span = x }) f

-- the runs have one item, one way and one block
same_place : (bytes S E : ℕ) (ts : List Tok) (p : ProgramTree) (m n : ℕ) (ks js : List ℕ) (w : Span) (b d : Body) → Placed ts bytes p → FirstToLast S E ts w → node_at p m ks ≡ Some (a_block b)
    → node_at p n js ≡ Some (a_block d) → Runs ts S E w b → Runs ts S E w d → (m ≡ n) × (ks ≡ js)
same_place bytes S E ts p m n ks js w b d x f e g r q = by (slice_get (map an_item p) m) (slice_get (map an_item p) n) refl refl e g
  where
    l : Long ts
    l = long_tokens ts bytes p x

    by : (o v : Option NodeTree) → slice_get (map an_item p) m ≡ o → slice_get (map an_item p) n ≡ v → descend o ks ≡ Some (a_block b) → descend v js ≡ Some (a_block d) → (m ≡ n) × (ks ≡ js)
    by None v s t y z = absurd (cc)
    by (Some c) None s t y z = absurd (cc)
    by (Some c) (Some a) s t y z =
        let lc = item_laid ts bytes p m c x s in
        let la = item_laid ts bytes p n a x t in
        let k : m ≡ n = one_child 0 bytes (map an_item p) m n c a w (spans_long ts S E w l f) x.row.ordered s t (has_run ts S E w ks c b f lc y r) (has_run ts S E w js a d f la z q) in
        let i : slice_get (map an_item p) m ≡ Some a = subst (λ i. slice_get (map an_item p) i ≡ Some a) (sym k) t in
        let h : a ≡ c = cc in
        (k, same_way ts S E w ks js c b d l f lc y (subst (λ z. descend (Some z) js ≡ Some (a_block d)) h z) r q)

pub one_run : (bytes S E : ℕ) (ts : List Tok) (p : ProgramTree) (r q : RunPos) → OneText ts bytes p → RunOf bytes ts p S E r → RunOf bytes ts p S E q → r ≡ q
one_run bytes S E ts p r q o x y =
    let z = placed ts bytes p o in
    let w : r.span ≡ q.span = span_is r.span q.span (spans_same S E ts r.span q.span x.span y.span) in
    let u : Runs ts S E r.span y.block = subst (λ s. Runs ts S E s y.block) (sym w) (runs y) in
    let h = same_place bytes S E ts p r.function q.function r.block.path q.block.path r.span x.block y.block z x.span x.at y.at (runs x) u in
    let t : node_at p r.function r.block.path ≡ Some (a_block y.block) = subst (λ ks. node_at p r.function ks ≡ Some (a_block y.block)) (sym h.1)
    (subst (λ n. node_at p n q.block.path ≡ Some (a_block y.block)) (sym h.0) y.at) in
    let v : a_block x.block ≡ a_block y.block = let e = sym x.at ∙ t in cc in
    let b : x.block ≡ y.block = cc in
    let d = held_parted ts bytes p r.function r.block.path x.block z x.at in
    let c = chosen_one ts S E ((body_span x.block).start + 1) ((body_span x.block).end - 1) (parts_of x.block) r.first r.last q.first q.last (long_tokens ts bytes p z) d.ordered d.parts (chosen_of x)
    (subst (λ k. Chosen ts S E (parts_of k) q.first q.last) (sym b) (chosen_of y)) in
    let i = x.tail ∙ (ap (λ n. n == length (statements x.block)) c.1 ∙ (ap (λ k. q.last == length (statements k)) b ∙ sym y.tail)) in
    run_is r q h.0 (position_is r.block q.block (x.item ∙ (h.0 ∙ sym y.item)) h.1) c.0 c.1 i w
  where
    held_parted : (ts : List Tok) (bytes : ℕ) (p : ProgramTree) (m : ℕ) (ks : List ℕ) (b : Body) → Placed ts bytes p → node_at p m ks ≡ Some (a_block b) → Parted ts b
    held_parted ts bytes p m ks b x e = by (slice_get (map an_item p) m) refl e
      where
        by : (o : Option NodeTree) → slice_get (map an_item p) m ≡ o → descend o ks ≡ Some (a_block b) → Parted ts b
        by None s y = absurd (cc)
        by (Some c) s y = (held ts ks c b (item_laid ts bytes p m c x s) y).parted
