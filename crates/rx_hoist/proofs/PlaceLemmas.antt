-- A run in its block, and a block in its function.
use Rattle.std.proofs.Common.{◌≡◌, ℕ, zero, suc, ◌+◌, ◌-◌, take, drop, Bool, true, false, List, [], ◌∷◌, ◌++◌, map, Option, Some, None, slice_get, refl, sym, ap, ap₂, ◌∙◌, arith}
use Rattle.std.specs.Prelude.{if◌then◌else◌}
use Rattle.std.specs.List.{take-map}
use Rattle.std.proofs.lemmas.List.{drop-map, map-append}
use Rattle.rx_core.specs.declared.types.Span.{Span}
use Rattle.rx_tree.specs.declared.tree.Block.{Block, out-Block}
use Rattle.rx_tree.specs.declared.tree.Item.{Item}
use Rattle.rx_tree.specs.declared.tree.Stmt.{Stmt}
use Rattle.rx_tree.specs.Plain as plain
use Rattle.rx_tree.specs.Plain.{Body, Function, ItemTree, OptionalExpression, ProgramTree, Statement}
use Rattle.rx_tree.specs.PlainOf.{plain-Block, plain-Item, plain-Stmt}
use Rattle.rx_tree.specs.Lists.{nth, statements, tail}
use Rattle.rx_tree.specs.Spans.{body_span}
use Rattle.rx_tree.specs.Positions.{NodeTree, an_item, a_type, a_block, a_statement, an_expression, a_pattern}
use Rattle.rx_tree.proofs.Rules.{block_by_parts, block_statements}
use Rattle.rx_hoist_extraction.specs.Run.{Run, Parts, as_block, block_of, chosen, chosen_parts, in_front, behind, goes_past, rest_tail, tail_if, with_parts}
use Rattle.rx_hoist_extraction.specs.Plan.{Plan, has_enum}
use Rattle.rx_hoist_extraction.specs.Pinned.{pinned}
use Rattle.rx_hoist_extraction.specs.Extraction.{extraction, made_enum, made_function}
use Rattle.rx_hoist_extraction.specs.Pinned.{pinned_function}
use Rattle.rx_hoist_extraction.proofs.NewItemsAt.{items_are}
use Rattle.rx_hoist.specs.Sites.{block_or}
use Rattle.rx_hoist.specs.Hoisting.{no_block, items_in, with_items}

-- ---- other parts in place of the run

by_body : (r : Run) (p : Parts) (b : Body) → with_parts r p b ≡ block_of (body_span b) (record {
  statements = in_front r (statements b) ++ (p.statements ++ behind r (statements b));
  tail = rest_tail (goes_past r (statements b)) (tail b) p.tail;
})
by_body r p (plain.body s ss o) = refl

pub block_place : (b : Block) → body_span (plain-Block b) ≡ (out-Block b).span
block_place b = ap body_span (block_by_parts b)

pub parts_put : (r : Run) (p q : Parts) (b : Block) → q.statements ≡ in_front r (statements (plain-Block b)) ++ (p.statements ++ behind r (statements (plain-Block b)))
    → q.tail ≡ rest_tail (goes_past r (statements (plain-Block b))) (tail (plain-Block b)) p.tail → block_of (out-Block b).span q ≡ with_parts r p (plain-Block b)
parts_put r p q b front last =
    ap₂ (λ ss o. block_of (out-Block b).span (record { statements = ss; tail = o })) front last
    ∙ ap (λ s. block_of s (record {
      statements = in_front r (statements (plain-Block b)) ++ (p.statements ++ behind r (statements (plain-Block b)));
      tail = rest_tail (goes_past r (statements (plain-Block b))) (tail (plain-Block b)) p.tail;
    })) (sym (block_place b))
    ∙ sym (by_body r p (plain-Block b))

-- ---- the run in its block

as_parts : List Statement → OptionalExpression → Parts
as_parts ss o = record { statements = ss; tail = o }

pub parts_chosen : (r : Run) (b : Block) (ss : List Stmt) (o : OptionalExpression) → ss ≡ take (r.last + 1 - r.first) (drop r.first (out-Block b).stmts)
    → o ≡ tail_if (goes_past r (statements (plain-Block b))) (tail (plain-Block b)) → record { statements = map plain-Stmt ss; tail = o } ≡ chosen_parts r (plain-Block b)
unfolding as_parts
parts_chosen r b ss o is last =
    ap₂ as_parts
    (ap (map plain-Stmt) is ∙ sym (take-map plain-Stmt (r.last + 1 - r.first) (drop r.first (out-Block b).stmts))
    ∙ ap (take (r.last + 1 - r.first)) (sym (drop-map plain-Stmt r.first (out-Block b).stmts)) ∙ ap (λ xs. chosen r xs) (sym (block_statements b)))
    last

-- the statements in front, others, and those behind
pub statements_put : (r : Run) (b : Block) (whole front stmts rest : List Stmt) → whole ≡ front ++ (stmts ++ rest) → front ≡ take r.first (out-Block b).stmts → rest ≡ drop (r.last + 1) (out-Block b).stmts
    → map plain-Stmt whole ≡ in_front r (statements (plain-Block b)) ++ (map plain-Stmt stmts ++ behind r (statements (plain-Block b)))
statements_put r b whole front stmts rest all first last =
    ap (map plain-Stmt) all ∙ map-append plain-Stmt front (stmts ++ rest)
    ∙ ap₂ (λ xs ys. xs ++ ys)
    (ap (map plain-Stmt) first ∙ sym (take-map plain-Stmt r.first (out-Block b).stmts) ∙ ap (λ xs. in_front r xs) (sym (block_statements b)))
    (map-append plain-Stmt stmts rest
    ∙ ap (λ xs. map plain-Stmt stmts ++ xs) (ap (map plain-Stmt) last ∙ sym (drop-map plain-Stmt (r.last + 1) (out-Block b).stmts) ∙ ap (λ xs. behind r xs) (sym (block_statements b))))

pub past_is : (r : Run) (b : Block) (ss : List Stmt) (found : Bool) → ss ≡ (out-Block b).stmts → found ≡ goes_past r (map plain-Stmt ss) → found ≡ goes_past r (statements (plain-Block b))
past_is r b ss found is same = same ∙ ap (λ xs. goes_past r (map plain-Stmt xs)) is ∙ ap (goes_past r) (sym (block_statements b))

pub tail_past : (o : OptionalExpression) (b : Bool) (t : OptionalExpression) → b ≡ true → o ≡ t → o ≡ tail_if b t
tail_past o b t e is = rw e is

pub tail_not_past : (b : Bool) (t : OptionalExpression) → b ≡ false → plain.absent ≡ tail_if b t
tail_not_past b t e = rw e refl

pub rest_past : (b : Bool) (t o : OptionalExpression) → b ≡ true → o ≡ rest_tail b t o
rest_past b t o e = rw e refl

pub rest_not_past : (x : OptionalExpression) (b : Bool) (t o : OptionalExpression) → b ≡ false → x ≡ t → x ≡ rest_tail b t o
rest_not_past x b t o e is = rw e is

-- ---- the block of a run

pub block_there : (n : Option NodeTree) → block_or no_block n ≡ as_block n
block_there None = refl
block_there (Some (an_item i)) = refl
block_there (Some (a_type t)) = refl
block_there (Some (a_block b)) = refl
block_there (Some (a_statement a)) = refl
block_there (Some (an_expression e)) = refl
block_there (Some (a_pattern p)) = refl

-- ---- the program

-- the items in front, others, and those behind
pub items_put : (n : ℕ) (items whole front new rest : List Item) → whole ≡ front ++ (new ++ rest) → front ≡ take n items → rest ≡ drop (n + 1) items
    → map plain-Item whole ≡ take n (map plain-Item items) ++ (map plain-Item new ++ drop (suc n) (map plain-Item items))
items_put n items whole front new rest all first last =
    let more : n + 1 ≡ suc n = omega arith in
    ap (map plain-Item) all ∙ map-append plain-Item front (new ++ rest)
    ∙ ap₂ (λ xs ys. xs ++ ys)
    (ap (map plain-Item) first ∙ sym (take-map plain-Item n items))
    (map-append plain-Item new rest
    ∙ ap (λ xs. map plain-Item new ++ xs) (ap (map plain-Item) (last ∙ ap (λ k. drop k items) more) ∙ sym (drop-map plain-Item (suc n) items)))

nth_is : {A : Type 0} (xs : List A) (k : ℕ) → nth xs k ≡ slice_get xs k
nth_is [] k = refl
nth_is (x ∷ xs) zero = refl
nth_is (x ∷ xs) (suc k) = nth_is xs k

new_items_are : (b : Bool) (x e n : ItemTree) → (x ∷ (if b then e ∷ [] else [])) ++ n ∷ [] ≡ x ∷ (if b then e ∷ n ∷ [] else n ∷ [])
new_items_are true x e n = refl
new_items_are false x e n = refl

pub extraction_is : (P : ProgramTree) (r : Run) (pl : Plan) (s : Span) (f : Function) → slice_get P r.item ≡ Some (plain.function_item s f)
    → with_items P r.item (items_in P r pl (pinned P r.span pl.pins f.body) s f) ≡ extraction P r pl []
extraction_is P r pl s f there =
    ap (with_items P r.item) (new_items_are (has_enum pl.exits) _ (made_enum P r pl) (made_function P r pl [] (pinned_function P r.span pl.pins f)))
    ∙ sym (items_are P r pl [] s f (nth_is P r.item ∙ there))
