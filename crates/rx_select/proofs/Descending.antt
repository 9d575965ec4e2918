-- Each step down keeps that every run of the range goes through the node, since one child alone has the selected tokens; where a block's
-- statements are selected it is the run's, and where no child has the tokens there is none.
use Rattle.std.proofs.Common.{◌≡◌, ℕ, zero, suc, ◌+◌, ◌-◌, ◌≤◌, ◌<◌, ◌^◌, ◌==◌, nat_le, Bool, true, false, ◌&&◌, List, [], ◌∷◌, ◌++◌, length, Option, Some, None, map, refl, ap, sym, ◌∙◌, subst, arith, slice_get, append_assoc, append-nil, length-append}
use Rattle.std.proofs.Common.{inl, inr}
use Rattle.std.specs.Prelude.{◌⊎◌}
use Rattle.std.proofs.lemmas.Bool.{leb-true, le-leb}
use Rattle.rx_core.specs.declared.types.Span.{Span}
use Rattle.rx_tree.specs.Plain as plain
use Rattle.rx_tree.specs.Plain.{Body, ItemTree, ProgramTree}
use Rattle.rx_tree.specs.Lists.{nth, Every, statements}
use Rattle.rx_tree.specs.Spans.{body_span, node_span}
use Rattle.rx_tree.specs.Positions.{NodeTree, an_item, a_type, a_block, a_statement, an_expression, a_pattern, children, descend, node_at}
use Rattle.rx_tree.specs.Nodes.{below}
use Rattle.rx_tree.proofs.NodesLaws.{joined, below_is}
use Rattle.rx_lex.specs.Tok.{Tok}
use Rattle.rx_typed_runs.specs.declared.runs.RunPos.{RunPos}
use Rattle.rx_select.specs.declared.places.Places.{Places}
use Rattle.rx_select.specs.Selected.{FirstToLast}
use Rattle.rx_select.specs.Parts.{parts_of}
use Rattle.rx_select.specs.RunOf.{RunOf}
use Rattle.rx_select.specs.OneText.{OneText}
use Rattle.rx_select.specs.Search.{places, run_of, node_run, holds, around}
use Rattle.rx_select.specs.Descent.{LongBlock, is_tail, NoChild, IsChild, Below, Descent}
use Rattle.rx_select.proofs.Rows.{InOrder, Parted, Laid, Nested, order_above}
use Rattle.rx_select.proofs.Programs.{Placed, placed}
use Rattle.rx_select.proofs.Choosing.{Long, Chosen, every_at, after, before}
use Rattle.rx_select.proofs.Ways.{AllLaid, item_laid, laid_child, long_tokens, child_in, one_child, Has, Runs, has_run, nested, no_block, no_item_block, held, runs, one_run, spans_same, span_is, down}
use Rattle.rx_select.proofs.Scanning.{and_true, both_true, Around, around_says, around_whole, around_span, places_found}
use Rattle.rx_select.proofs.Finding.{run_says, run_found}

abbrev span_at : Places → Span
span_at g = record { start = g.start; end = g.end }

-- ---- nodes that have the selected tokens

holds_says : (s : Span) (g : Places) → holds s g ≡ true → (s.start ≤ g.start) × (g.end ≤ s.end)
holds_says s g e = let p = and_true (nat_le s.start g.start) (nat_le g.end s.end) e in (leb-true s.start g.start p.0, leb-true g.end s.end p.1)

holds_is : (s : Span) (g : Places) → (s.start ≤ g.start) × (g.end ≤ s.end) → holds s g ≡ true
holds_is s g h = both_true (nat_le s.start g.start) (nat_le g.end s.end) (le-leb s.start g.start h.0) (le-leb g.end s.end h.1)

around_has : (g : Places) (n : NodeTree) → around g n ≡ true → Has (span_at g) n
around_has g (an_item (plain.rt_item s r)) e = absurd (cc)
around_has g (an_item (plain.struct_item s x)) e = absurd (cc)
around_has g (an_item (plain.enum_item s x)) e = absurd (cc)
around_has g (an_item (plain.function_item s f)) e = holds_says s g e
around_has g (a_type t) e = absurd (cc)
around_has g (a_block b) e = holds_says (body_span b) g e
around_has g (a_statement a) e = holds_says (node_span (a_statement a)) g e
around_has g (an_expression x) e = holds_says (node_span (an_expression x)) g e
around_has g (a_pattern p) e = absurd (cc)

around_is : (g : Places) (ks : List ℕ) (n : NodeTree) (b : Body) → descend (Some n) ks ≡ Some (a_block b) → Has (span_at g) n → around g n ≡ true
around_is g ks (an_item (plain.rt_item s r)) b e h = absurd (no_item_block ks (plain.rt_item s r) b tt e)
around_is g ks (an_item (plain.struct_item s x)) b e h = absurd (no_item_block ks (plain.struct_item s x) b tt e)
around_is g ks (an_item (plain.enum_item s x)) b e h = absurd (no_item_block ks (plain.enum_item s x) b tt e)
around_is g ks (an_item (plain.function_item s f)) b e h = holds_is s g h
around_is g ks (a_type t) b e h = absurd (no_block ks (a_type t) b tt e)
around_is g ks (a_block d) b e h = holds_is (body_span d) g h
around_is g ks (a_statement a) b e h = holds_is (node_span (a_statement a)) g h
around_is g ks (an_expression x) b e h = holds_is (node_span (an_expression x)) g h
around_is g ks (a_pattern p) b e h = absurd (no_block ks (a_pattern p) b tt e)

-- such a node has its children in order in its span
nested_around : (ts : List Tok) (g : Places) (n : NodeTree) → Laid ts n → around g n ≡ true → Nested n
nested_around ts g (an_item (plain.rt_item s r)) l e = absurd (cc)
nested_around ts g (an_item (plain.struct_item s x)) l e = absurd (cc)
nested_around ts g (an_item (plain.enum_item s x)) l e = absurd (cc)
nested_around ts g (an_item (plain.function_item s f)) l e = l
nested_around ts g (a_type t) l e = absurd (cc)
nested_around ts g (a_block b) l e = l.0
nested_around ts g (a_statement a) l e = l
nested_around ts g (an_expression x) l e = l
nested_around ts g (a_pattern p) l e = absurd (cc)

-- ---- positions

descend_on : (q : Option NodeTree) (ks js : List ℕ) → descend q (ks ++ js) ≡ descend (descend q ks) js
descend_on None ks js = refl
descend_on (Some n) [] js = refl
descend_on (Some n) (k ∷ ks) js = descend_on (slice_get (children n) k) ks js

laid_down : (ts : List Tok) (ks : List ℕ) (n m : NodeTree) → AllLaid ts n → descend (Some n) ks ≡ Some m → AllLaid ts m
laid_down ts [] n m l e = let q : n ≡ m = cc in subst (AllLaid ts) q l
laid_down ts (k ∷ ks) n m l e = by (slice_get (children n) k) refl e (λ c h d. laid_down ts ks c m h d)
  where
    by : (o : Option NodeTree) → slice_get (children n) k ≡ o → descend o ks ≡ Some m → ((c : NodeTree) → AllLaid ts c → descend (Some c) ks ≡ Some m → AllLaid ts m) → AllLaid ts m
    by None q d on = absurd (cc)
    by (Some c) q d on = on c (laid_child ts n k c l q) d

pub laid_at : (ts : List Tok) (bytes : ℕ) (p : ProgramTree) (item : ℕ) (path : List ℕ) (m : NodeTree) → Placed ts bytes p → node_at p item path ≡ Some m → AllLaid ts m
laid_at ts bytes p item path m x e = by (slice_get (map an_item p) item) refl e
  where
    by : (o : Option NodeTree) → slice_get (map an_item p) item ≡ o → descend o path ≡ Some m → AllLaid ts m
    by None q d = absurd (cc)
    by (Some c) q d = laid_down ts path c m (item_laid ts bytes p item c x q) d

-- ---- where there is no run

pub backwards : {bytes S E : ℕ} {ts : List Tok} {p : ProgramTree} (r : RunPos) → E < S → RunOf bytes ts p S E r → ⊥
backwards r h x = let a = x.ordered in omega (arith, h, a)

pub past_end : {bytes S E : ℕ} {ts : List Tok} {p : ProgramTree} (r : RunPos) → bytes < E → RunOf bytes ts p S E r → ⊥
past_end r h x = let a = x.inside in omega (arith, h, a)

pub no_places : (bytes S E : ℕ) (ts : List Tok) (p : ProgramTree) (r : RunPos) → OneText ts bytes p → places S E bytes ts ≡ None → RunOf bytes ts p S E r → ⊥
no_places bytes S E ts p r o e x =
    let z = placed ts bytes p o in
    let f = x.span in
    let g = places_found S E bytes ts f.first z.text.ordered x.whole f.first_is f.first_selected in
    let q = sym e ∙ g.1 in
    absurd (cc)

-- ---- the first step

runs_at : (bytes S E : ℕ) (ts : List Tok) (p : ProgramTree) (g : Places) (r : RunPos) → Long ts → Around ts S E bytes g → (x : RunOf bytes ts p S E r) → Runs ts S E (span_at g) x.block
runs_at bytes S E ts p g r l a x =
    let q : r.span ≡ span_at g = span_is r.span (span_at g) (spans_same S E ts r.span (span_at g) x.span (around_span ts S E bytes g l a)) in
    subst (λ s. Runs ts S E s x.block) q (runs x)

-- the item of a run has the selected tokens
item_has : (bytes S E : ℕ) (ts : List Tok) (p : ProgramTree) (g : Places) (r : RunPos) → Placed ts bytes p → Around ts S E bytes g → RunOf bytes ts p S E r
    → (c : NodeTree) × (slice_get (map an_item p) r.function ≡ Some c) × (around g c ≡ true)
item_has bytes S E ts p g r z a x = by (slice_get (map an_item p) r.function) refl x.at
  where
    by : (o : Option NodeTree) → slice_get (map an_item p) r.function ≡ o → descend o r.block.path ≡ Some (a_block x.block) → (c : NodeTree) × (slice_get (map an_item p) r.function ≡ Some c) × (around g c ≡ true)
    by None q d = absurd (cc)
    by (Some c) q d =
        let l = long_tokens ts bytes p z in
        (c, q, around_is g r.block.path c x.block d (has_run ts S E (span_at g) r.block.path c x.block (around_span ts S E bytes g l a) (item_laid ts bytes p r.function c z q) d (runs_at bytes S E ts p g r l a x)))

pub no_item : (bytes S E : ℕ) (ts : List Tok) (p : ProgramTree) (g : Places) (r : RunPos) → OneText ts bytes p → E ≤ bytes → places S E bytes ts ≡ Some g → NoChild g (map an_item p) → RunOf bytes ts p S E r → ⊥
no_item bytes S E ts p g r o h e n x =
    let z = placed ts bytes p o in
    let a = around_says S E bytes ts g h z.text.ordered e in
    let i = item_has bytes S E ts p g r z a x in
    n r.function i.0 i.1 i.2

pub first_step : (bytes S E : ℕ) (ts : List Tok) (p : ProgramTree) (g : Places) (k : ℕ) (c : NodeTree) → OneText ts bytes p → E ≤ bytes → places S E bytes ts ≡ Some g → IsChild g (map an_item p) k c
    → Descent bytes ts p S E g k c []
first_step bytes S E ts p g k c o h e i =
    let z = placed ts bytes p o in
    let a = around_says S E bytes ts g h z.text.ordered e in
    record {
      here = ap (λ q. descend q []) i.0;
      has = i.1;
      ends = (child_in 0 bytes (map an_item p) k c z.row.ordered i.0).2;
      all = λ r x. let j = item_has bytes S E ts p g r z a x in
          record {
            function = one_child 0 bytes (map an_item p) r.function k j.0 c (span_at g) a.some z.row.ordered j.1 i.0 (around_has g j.0 j.2) (around_has g c i.1);
            rest = r.block.path;
            way = refl;
          };
    }

-- ---- further steps

-- a run below a node is the node's, or one of a child's
record Further (bytes S E : ℕ) (ts : List Tok) (p : ProgramTree) (g : Places) (node : NodeTree) (path : List ℕ) (r : RunPos) : Type 0 where
  k : ℕ
  ks : List ℕ
  way : r.block.path ≡ path ++ (k ∷ ks)
  c : NodeTree
  child : slice_get (children node) k ≡ Some c
  has : around g c ≡ true

further : (bytes S E : ℕ) (ts : List Tok) (p : ProgramTree) (g : Places) (item : ℕ) (node : NodeTree) (path : List ℕ) (r : RunPos) → Placed ts bytes p → Around ts S E bytes g
    → Descent bytes ts p S E g item node path → node_run g node ≡ None → RunOf bytes ts p S E r → Further bytes S E ts p g node path r
further bytes S E ts p g item node path r z a d none x = by w.rest w.way (on w.rest w.way)
  where
    w : Below item path r
    w = d.all r x

    l : Long ts
    l = long_tokens ts bytes p z

    on : (ks : List ℕ) → r.block.path ≡ path ++ ks → descend (Some node) ks ≡ Some (a_block x.block)
    on ks e =
        let f : node_at p item r.block.path ≡ Some (a_block x.block) = subst (λ i. node_at p i r.block.path ≡ Some (a_block x.block)) w.function x.at in
        let h : node_at p item (path ++ ks) ≡ Some (a_block x.block) = subst (λ q. node_at p item q ≡ Some (a_block x.block)) e f in
        ap (λ q. descend q ks) (sym d.here) ∙ sym (descend_on (slice_get (map an_item p) item) path ks) ∙ h

    by : (ks : List ℕ) → r.block.path ≡ path ++ ks → descend (Some node) ks ≡ Some (a_block x.block) → Further bytes S E ts p g node path r
    by [] e f =
        let q : a_block x.block ≡ node = cc in
        let m = laid_at ts bytes p item path node z d.here in
        let n : AllLaid ts (a_block x.block) = subst (AllLaid ts) (sym q) m in
        let t : Parted ts x.block = n.0.1 in
        let u = runs_at bytes S E ts p g r l a x in
        let b : (body_span x.block).end ≤ bytes = subst (λ n. (node_span n).end ≤ bytes) (sym q) d.ends in
        let v = run_found ts S E bytes ((body_span x.block).start + 1) ((body_span x.block).end - 1) g (parts_of x.block) u.i u.j l a t.ordered t.parts (omega (arith, b)) u.chosen in
        let y : node_run g node ≡ Some (u.i, u.j) = ap (node_run g) (sym q) ∙ v in
        absurd (none_some (u.i, u.j) (sym none ∙ y))
      where
        none_some : (v : ℕ × ℕ) → None ≡ Some v → ⊥
        none_some v e = cc
    by (k ∷ ks) e f = down (Further bytes S E ts p g node path r) node k ks x.block (λ c q v. record {
      k = k;
      ks = ks;
      way = e;
      c = c;
      child = q;
      has = around_is g ks c x.block v (has_run ts S E (span_at g) ks c x.block (around_span ts S E bytes g l a) (laid_child ts node k c (laid_at ts bytes p item path node z d.here) q) v (runs_at bytes S E ts p g r l a x));
    }) f

pub no_further : (bytes S E : ℕ) (ts : List Tok) (p : ProgramTree) (g : Places) (item : ℕ) (node : NodeTree) (path : List ℕ) (r : RunPos) → OneText ts bytes p → E ≤ bytes → places S E bytes ts ≡ Some g
    → Descent bytes ts p S E g item node path → node_run g node ≡ None → NoChild g (children node) → RunOf bytes ts p S E r → ⊥
no_further bytes S E ts p g item node path r o h e d none n x =
    let z = placed ts bytes p o in
    let a = around_says S E bytes ts g h z.text.ordered e in
    let f = further bytes S E ts p g item node path r z a d none x in
    n f.k f.c f.child f.has

pub next_step : (bytes S E : ℕ) (ts : List Tok) (p : ProgramTree) (g : Places) (item : ℕ) (node : NodeTree) (path : List ℕ) (k : ℕ) (c : NodeTree) → OneText ts bytes p → E ≤ bytes → places S E bytes ts ≡ Some g
    → Descent bytes ts p S E g item node path → node_run g node ≡ None → IsChild g (children node) k c → Descent bytes ts p S E g item c (path ++ k ∷ [])
next_step bytes S E ts p g item node path k c o h e d none i =
    let z = placed ts bytes p o in
    let a = around_says S E bytes ts g h z.text.ordered e in
    let m = laid_at ts bytes p item path node z d.here in
    let n = nested_around ts g node m.0 d.has in
    let y = child_in (node_span node).start (node_span node).end (children node) k c n i.0 in
    let b = d.ends in
    record {
      here = descend_on (slice_get (map an_item p) item) path (k ∷ []) ∙ ap (λ q. descend q (k ∷ [])) d.here ∙ ap (λ q. descend q []) i.0;
      has = i.1;
      ends = omega (arith, y.2, b);
      all = λ r x. let f = further bytes S E ts p g item node path r z a d none x in
          let j : f.k ≡ k = one_child (node_span node).start (node_span node).end (children node) f.k k f.c c (span_at g) a.some n f.child i.0 (around_has g f.c f.has) (around_has g c i.1) in
          record {
            function = (d.all r x).function;
            rest = f.ks;
            way = f.way ∙ (ap (λ q. path ++ (q ∷ f.ks)) j ∙ sym (append_assoc path (k ∷ []) f.ks));
          };
    }

-- ---- the run

abbrev pub made : Places → ℕ → List ℕ → ℕ → ℕ → Bool → RunPos
made g item path i j t = record { function = item; block = record { item = item; path = path }; first = i; last = j; tail = t; span = record { start = g.start; end = g.end } }

is_block : (g : Places) (n : NodeTree) (v : ℕ × ℕ) → node_run g n ≡ Some v → (b : Body) × (n ≡ a_block b) × (run_of g (parts_of b) ≡ Some v)
is_block g (a_block b) v e = (b, refl, e)
is_block g (an_item i) v e = absurd (cc)
is_block g (a_type t) v e = absurd (cc)
is_block g (a_statement a) v e = absurd (cc)
is_block g (an_expression x) v e = absurd (cc)
is_block g (a_pattern p) v e = absurd (cc)

pub run_made : (bytes S E : ℕ) (ts : List Tok) (p : ProgramTree) (g : Places) (item : ℕ) (node : NodeTree) (path : List ℕ) (i j : ℕ) → OneText ts bytes p → S ≤ E → E ≤ bytes → places S E bytes ts ≡ Some g
    → Descent bytes ts p S E g item node path → node_run g node ≡ Some (i, j) → RunOf bytes ts p S E (made g item path i j (is_tail j node))
run_made bytes S E ts p g item node path i j o w h e d s =
    let z = placed ts bytes p o in
    let a = around_says S E bytes ts g h z.text.ordered e in
    let l = long_tokens ts bytes p z in
    let b = is_block g node (i, j) s in
    let c = run_says ts S E bytes g (parts_of b.0) i j l a b.2 in
    record {
      ordered = w;
      inside = h;
      whole = around_whole ts S E bytes g a;
      item = refl;
      block = b.0;
      at = d.here ∙ ap (λ n. Some n) b.1;
      a = c.a;
      b = c.b;
      first = c.first;
      last = c.last;
      forward = c.forward;
      exactly = c.exactly;
      tail = ap (is_tail j) b.1;
      span = around_span ts S E bytes g l a;
    }

-- ---- numbers are small

order_length : (from to : ℕ) (ss : List Span) → InOrder from to ss → from + length ss ≤ to
order_length from to [] o = omega (arith, o)
order_length from to (s ∷ ss) o = let h = order_length s.end to ss o.2 in let a = o.0 in let b = o.1 in omega (arith, h, a, b)

nodes_length : (from to : ℕ) (cs : List NodeTree) → InOrder from to (map node_span cs) → from + length cs ≤ to
nodes_length from to [] o = omega (arith, o)
nodes_length from to (c ∷ cs) o = let h = nodes_length (node_span c).end to cs o.2 in let a = o.0 in let b = o.1 in omega (arith, h, a, b)

pub few_items : (ts : List Tok) (bytes : ℕ) (p : ProgramTree) → OneText ts bytes p → length (map an_item p) ≤ bytes
few_items ts bytes p o = let h = nodes_length 0 bytes (map an_item p) (placed ts bytes p o).row.ordered in omega (arith, h)

pub few_children : (bytes S E : ℕ) (ts : List Tok) (p : ProgramTree) (g : Places) (item : ℕ) (node : NodeTree) (path : List ℕ) → OneText ts bytes p → Descent bytes ts p S E g item node path → length (children node) ≤ bytes
few_children bytes S E ts p g item node path o d =
    let z = placed ts bytes p o in
    let m = laid_at ts bytes p item path node z d.here in
    let n = nested_around ts g node m.0 d.has in
    let h = nodes_length (node_span node).start (node_span node).end (children node) n in
    let b = d.ends in
    omega (arith, h, b)

long_body : (ts : List Tok) (n : NodeTree) → Laid ts n → LongBlock n
long_body ts (a_block b) l = let h = order_above ((body_span b).start + 1) ((body_span b).end - 1) (parts_of b) l.1.ordered in omega (arith, h)
long_body ts (an_item i) l = tt
long_body ts (a_type t) l = tt
long_body ts (a_statement a) l = tt
long_body ts (an_expression x) l = tt
long_body ts (a_pattern p) l = tt

pub long_block : (bytes S E : ℕ) (ts : List Tok) (p : ProgramTree) (g : Places) (item : ℕ) (node : NodeTree) (path : List ℕ) → OneText ts bytes p → Descent bytes ts p S E g item node path → LongBlock node
long_block bytes S E ts p g item node path o d = long_body ts node (laid_at ts bytes p item path node (placed ts bytes p o) d.here).0

nth_within : {A : Type 0} (l : List A) (k : ℕ) (a : A) → nth l k ≡ Some a → k < length l
nth_within [] k a e = absurd (cc)
nth_within (x ∷ l) zero a e = omega arith
nth_within (x ∷ l) (suc k) a e = let h = nth_within l k a e in omega (arith, h)

pub few_statements : (bytes S E : ℕ) (ts : List Tok) (p : ProgramTree) (g : Places) (item : ℕ) (node : NodeTree) (path : List ℕ) (i j : ℕ) → OneText ts bytes p → E ≤ bytes → places S E bytes ts ≡ Some g
    → Descent bytes ts p S E g item node path → node_run g node ≡ Some (i, j) → (i < bytes) × (j < bytes)
few_statements bytes S E ts p g item node path i j o h e d s =
    let z = placed ts bytes p o in
    let a = around_says S E bytes ts g h z.text.ordered e in
    let l = long_tokens ts bytes p z in
    let b = is_block g node (i, j) s in
    let c = run_says ts S E bytes g (parts_of b.0) i j l a b.2 in
    let m : AllLaid ts (a_block b.0) = subst (AllLaid ts) b.1 (laid_at ts bytes p item path node z d.here) in
    let t = order_length ((body_span b.0).start + 1) ((body_span b.0).end - 1) (parts_of b.0) m.0.1.ordered in
    let u : (body_span b.0).end ≤ bytes = subst (λ n. (node_span n).end ≤ bytes) b.1 d.ends in
    let v = nth_within (parts_of b.0) i c.a c.first in
    let w = nth_within (parts_of b.0) j c.b c.last in
    (omega (arith, t, u, v), omega (arith, t, u, w))

-- ---- the way ends

joined_child : (cs : List NodeTree) (k : ℕ) (c : NodeTree) → slice_get cs k ≡ Some c → length (below c) < length (joined cs)
joined_child [] k c e = absurd (cc)
joined_child (x ∷ cs) zero c e =
    let q : x ≡ c = cc in
    let l = length-append (below x) (joined cs) in
    subst (λ n. length (below n) < length (joined (x ∷ cs))) q (omega (arith, l))
joined_child (x ∷ cs) (suc k) c e =
    let h = joined_child cs k c e in
    let l = length-append (below x) (joined cs) in
    omega (arith, h, l)

pub fewer_below : (n : NodeTree) (k : ℕ) (c : NodeTree) → slice_get (children n) k ≡ Some c → length (below c) < length (below n)
fewer_below n k c e = let h = joined_child (children n) k c e in let q = ap length (below_is n) in omega (arith, h, q)
