-- A run that is selected in an accepted text stands in the typed tree of its function: the block of the run is that of the typed tree with
-- its number, since no other has it.
use Rattle.std.proofs.Common.{◌≡◌, ℕ, zero, suc, ◌+◌, ◌-◌, ◌≤◌, ◌<◌, ◌==◌, List, [], ◌∷◌, ◌++◌, length, map, drop, Option, Some, None, slice_get, refl, sym, ap, ◌∙◌, subst, arith, length-append}
use Rattle.std.proofs.lemmas.List.{length-map}
use Rattle.rx_core.specs.declared.types.Span.{Span}
use Rattle.rx_tree.specs.Plain as plain
use Rattle.rx_tree.specs.Plain.{Body, Function, ItemTree, Parameter, ProgramTree, TypeTree}
use Rattle.rx_tree.specs.Lists.{listed, nth, statement_span, statements}
use Rattle.rx_tree.specs.Positions.{NodeTree, an_item, a_block, descend, optional_type_nodes, parameter_nodes}
use Rattle.rx_resolve_names.specs.Meant.{number, firsts, lifetimes_declared}
use Rattle.rx_resolve_names.specs.Steps.{Inside}
use Rattle.rx_typed.specs.Elaborated as elaborated
use Rattle.rx_typed.specs.Tree as tree
use Rattle.rx_typed.specs.PlainTree.{plain-TypedTree}
use Rattle.rx_typed_runs.specs.declared.runs.RunPos.{RunPos}
use Rattle.rx_lex.specs.Tok.{Tok}
use Rattle.rx_select.specs.Parts.{end_of, parts_of, tail_place}
use Rattle.rx_select.specs.RunOf.{RunOf}
use Rattle.rx_typeck_typed.specs.declared.typed.TypedFn.{TypedFn}
use Rattle.rx_lower_walks.specs.Walks.{Among}
use Rattle.rx_exits_plan.specs.Runs as runs
use Rattle.rx_exits_plan.specs.Runs.{Home, Sits}
use Rattle.rx_exits_plan.specs.Spots as spots
use Rattle.rx_exits_plan.specs.Spots.{spots_of_function}
use Rattle.rx_hoist_nodes.specs.Nodes.{in_front}
use Rattle.rx_hoist_nodes.specs.TypedRun.{statements_from, typed_run}
use Rattle.rx_hoist_naming.specs.DeclaredNames.{declared_names}
use Rattle.rx_hoist_extraction.specs.Run as extraction
use Rattle.rx_hoist_extraction.specs.Run.{as_block, labels_on, labels_round, run_block}
use Rattle.rx_hoist_meant.specs.Scoped.{BlockScoped}
use Rattle.rx_hoist_meant.proofs.Blocks.{no_type_has}
use Rattle.rx_engine_tied.proofs.Runs.{IsRun, Seated, seated}

-- ---- items and ways

pub item_there : (p : ProgramTree) (n : ℕ) (i : ItemTree) → nth p n ≡ Some i → slice_get p n ≡ Some i
item_there [] n i e = absurd (cc)
item_there (x ∷ p) zero i e = e
item_there (x ∷ p) (suc n) i e = item_there p n i e

node_there : (p : ProgramTree) (n : ℕ) (i : ItemTree) → nth p n ≡ Some i → slice_get (map an_item p) n ≡ Some (an_item i)
node_there [] n i e = absurd (cc)
node_there (x ∷ p) zero i e = let q : x ≡ i = cc in ap (λ (y : ItemTree). Some (an_item y)) q
node_there (x ∷ p) (suc n) i e = node_there p n i e

none_down : (ks : List ℕ) (n : NodeTree) → descend None ks ≡ Some n → ⊥
none_down [] n e = cc
none_down (k ∷ ks) n e = cc

-- types have no block
past_params : (xs : List Parameter) (ns : List NodeTree) (k : ℕ) (ks : List ℕ) (b : Body) → descend (slice_get (parameter_nodes xs ++ ns) k) ks ≡ Some (a_block b) → (j : ℕ) × (slice_get (parameter_nodes xs ++ ns) k ≡ slice_get ns j)
past_params [] ns k ks b e = (k, refl)
past_params (x ∷ xs) ns zero ks b e = absurd (no_type_has x.typ ks b e)
past_params (x ∷ xs) ns (suc k) ks b e = past_params xs ns k ks b e

past_result : (y : Option TypeTree) (ns : List NodeTree) (k : ℕ) (ks : List ℕ) (b : Body) → descend (slice_get (optional_type_nodes y ++ ns) k) ks ≡ Some (a_block b) → (j : ℕ) × (slice_get (optional_type_nodes y ++ ns) k ≡ slice_get ns j)
past_result None ns k ks b e = (k, refl)
past_result (Some y) ns zero ks b e = absurd (no_type_has y ks b e)
past_result (Some y) ns (suc k) ks b e = (k, refl)

the_body : (c : Body) (j : ℕ) (ks : List ℕ) (b : Body) → descend (slice_get (a_block c ∷ []) j) ks ≡ Some (a_block b) → slice_get (a_block c ∷ []) j ≡ Some (a_block c)
the_body c zero ks b e = refl
the_body c (suc j) ks b e = absurd (none_down ks (a_block b) e)

body_child : (f : Function) (k : ℕ) (ks : List ℕ) (b : Body) → descend (slice_get (parameter_nodes f.params ++ (optional_type_nodes f.result ++ (a_block f.body ∷ []))) k) ks ≡ Some (a_block b)
    → slice_get (parameter_nodes f.params ++ (optional_type_nodes f.result ++ (a_block f.body ∷ []))) k ≡ Some (a_block f.body)
body_child f k ks b e =
    let rest = optional_type_nodes f.result ++ (a_block f.body ∷ []) in
    let p = past_params f.params rest k ks b e in
    let d : descend (slice_get rest p.0) ks ≡ Some (a_block b) = sym (ap (λ (o : Option NodeTree). descend o ks) p.1) ∙ e in
    let q = past_result f.result (a_block f.body ∷ []) p.0 ks b d in
    let c : descend (slice_get (a_block f.body ∷ []) q.0) ks ≡ Some (a_block b) = sym (ap (λ (o : Option NodeTree). descend o ks) q.1) ∙ d in
    p.1 ∙ q.1 ∙ the_body f.body q.0 ks b c

pub record FromBody (s : Span) (f : Function) (path : List ℕ) (b : Body) : Type 0 where
  pub leads : descend (Some (a_block f.body)) (drop 1 path) ≡ Some (a_block b)
  pub labels : labels_on (Some (an_item (plain.function_item s f))) path [] ≡ labels_on (Some (a_block f.body)) (drop 1 path) []

pub from_body : (s : Span) (f : Function) (path : List ℕ) (b : Body) → descend (Some (an_item (plain.function_item s f))) path ≡ Some (a_block b) → FromBody s f path b
from_body s f [] b e = absurd (cc)
from_body s f (k ∷ ks) b e =
    let c = body_child f k ks b e in record {
      leads = sym (ap (λ (o : Option NodeTree). descend o ks) c) ∙ e;
      labels = ap (λ (o : Option NodeTree). labels_on o ks []) c;
    }

-- ---- the last part of a block

nth_within : {A : Type 0} (xs : List A) (n : ℕ) (x : A) → nth xs n ≡ Some x → n < length xs
nth_within [] n x e = absurd (cc)
nth_within (y ∷ xs) zero x e = omega arith
nth_within (y ∷ xs) (suc n) x e = let h = nth_within xs n x e in omega (arith, h)

one_place : (n : ℕ) (o : plain.OptionalExpression) (m : ℕ) → length (tail_place n o m) ≤ 1
one_place n plain.absent m = omega arith
one_place n (plain.present e) m = omega arith

parts_few : (b : Body) → length (parts_of b) ≤ length (statements b) + 1
parts_few (plain.body s ss o) =
    let t = tail_place (end_of (s.start + 1) (listed ss)) o (s.end - 1) in
    let a = length-append (map statement_span (listed ss)) t in
    let m = length-map (listed ss) statement_span in
    let k = one_place (end_of (s.start + 1) (listed ss)) o (s.end - 1) in
    omega (arith, a, m, k)

-- ---- a run

-- the run of the text, and of the tree
pub record Selected (p : ProgramTree) (s : Span) (f : Function) (item : ℕ) (pos : RunPos) (run : runs.Run) (r : extraction.Run) (b : Body) : Type 0 where
  pub leads : descend (Some (an_item (plain.function_item s f))) pos.block.path ≡ Some (a_block b)
  pub block : run_block r f ≡ b
  pub labels : labels_on (Some (an_item (plain.function_item s f))) pos.block.path [] ≡ labels_round r f
  pub number : length (in_front (Some (an_item (plain.function_item s f))) pos.block.path) ≡ run.block
  pub is_run : IsRun run r b

pub selected : (bytes : ℕ) (ts : List Tok) (p : ProgramTree) (start end : ℕ) (pos : RunPos) → (of : RunOf bytes ts p start end pos) → (item : ℕ) → pos.function ≡ item → (s : Span) (f : Function) → nth p item ≡ Some (plain.function_item s f)
    → (run : runs.Run) → run ≡ typed_run p pos → (r : extraction.Run) → r.way ≡ drop 1 pos.block.path → r.first ≡ pos.first → r.last ≡ pos.last → Selected p s f item pos run r of.block
selected bytes ts p start end pos of item is s f e run run_is r way first last =
    let there = node_there p item (plain.function_item s f) e in
    let here_is : slice_get (map an_item p) pos.function ≡ Some (an_item (plain.function_item s f)) = ap (slice_get (map an_item p)) is ∙ there in
    let leads : descend (Some (an_item (plain.function_item s f))) pos.block.path ≡ Some (a_block of.block) = sym (ap (λ (o : Option NodeTree). descend o pos.block.path) here_is) ∙ of.at in
    let b = from_body s f pos.block.path of.block leads in
    let few = parts_few of.block in
    let within = nth_within (parts_of of.block) pos.last of.b of.last in
    let forward = of.forward in
    let item_is : slice_get (map an_item p) pos.block.item ≡ Some (an_item (plain.function_item s f)) = ap (slice_get (map an_item p)) of.item ∙ here_is in
    record {
      leads = leads;
      block = ap as_block (ap (descend (Some (a_block f.body))) way ∙ b.leads);
      labels = b.labels ∙ ap (λ (w : List ℕ). labels_on (Some (a_block f.body)) w []) (sym way);
      number = sym (ap (λ (r : runs.Run). r.block) run_is ∙ ap (λ (o : Option NodeTree). length (in_front o pos.block.path)) item_is);
      is_run = record {
        first = ap (λ (r : runs.Run). r.first) run_is ∙ sym first;
        count = ap (λ (r : runs.Run). r.count) run_is ∙ (λ j. statements_from (sym first j) (sym last j) (sym (ap (λ (r : runs.Run). r.tail) run_is) j));
        tail = ap (λ (r : runs.Run). r.tail) run_is ∙ of.tail ∙ ap (λ (n : ℕ). n == length (statements of.block)) (sym last);
        forward = omega (arith, forward, first, last);
        within = omega (arith, within, few, last);
      };
    }

-- it stands in the typed tree
pub run_seated : (p : ProgramTree) (g : TypedFn) (s : Span) (f : Function) → BlockScoped p g s f → (item : ℕ) (pos : RunPos) (run : runs.Run) (home : Home) → Sits (plain-TypedTree g.tree) run home → (r : extraction.Run) (b : Body) → (S : Selected p s f item pos run r b)
    → Seated (record { program = p; item = number g.item; lifetimes = firsts [] 0 (lifetimes_declared (plain.function_item s f)) }) (declared_names (Some (plain.function_item s f))) run home r (run_block r f) (labels_round r f)
run_seated p g s f scoped item pos run home sits r b S =
    let I : Inside = record { program = p; item = number g.item; lifetimes = firsts [] 0 (lifetimes_declared (plain.function_item s f)) } in
    let k = scoped.block pos.block.path b S.leads in
    let mine : Among (spots.a_block k.there run.block (elaborated.nested scoped.types k.row k.last)) (spots_of_function (plain-TypedTree g.tree)) =
    subst (λ (m : ℕ). Among (spots.a_block k.there m (elaborated.nested scoped.types k.row k.last)) (spots_of_function (plain-TypedTree g.tree))) S.number k.among in
    let same = scoped.alone home.around k.there run.block home.body (elaborated.nested scoped.types k.row k.last) sits.block mine in
    subst (λ (c : Body). Seated I (declared_names (Some (plain.function_item s f))) run home r c (labels_round r f)) (sym S.block)
    (seated I (declared_names (Some (plain.function_item s f))) scoped.types run home r k.last
    k.stands k.placed k.is_last (ap (λ (a : spots.Around). a.scope) same.0 ∙ k.alike.scope) (ap (λ (a : spots.Around). a.loops) same.0 ∙ k.alike.loops) k.alike.apart S.number same.1 S.is_run (k.labels_are ∙ S.labels))
