-- Sums ask of what is around a part only how many variables there are and where its loops stand, not what follows those.
use Rattle.std.proofs.Common.{◌≡◌, ℕ, suc, ◌-◌, ◌==◌, List, [], length, if◌then◌else◌, refl, sym, ap, ◌∙◌}
use Rattle.rx_lower_walks.specs.Orders.{Exit, breaks, continues, returns}
use Rattle.rx_lower_walks.specs.Flows.{Flow, nothing, nowhere, act, items, or, leave, passes, Items, last, do_and, ends_and, may_and, else_and}
use Rattle.rx_lower_walks.specs.declared.sums.Sum.{Sum}
use Rattle.rx_lower_walks.specs.declared.sums.Row.{Row}
use Rattle.rx_lower_walks.specs.declared.around.Around.{Around}
use Rattle.rx_lower_walks.specs.Around.{with_variable, with_loop, depth_in, depth}
use Rattle.rx_lower_walks.specs.Sums.{exit_way, nowhere_sum, leaving_sum, then_sum, else_sum, or_sum, may_sum, ends_sum, loop_sum, sum, sum_items}
use Rattle.rx_lower_walks.specs.Rows.{with_row, flow_rows, items_rows}
use Rattle.rx_lower_walks.proofs.Standing.{depth_snoc, length_snoc}

pub record Alike (A B : Around) : Type 0 where
  pub variables : length A.variables ≡ length B.variables
  pub depths : (l : ℕ) → depth_in 0 l A.loops ≡ depth_in 0 l B.loops

alike_variable : {A B : Around} (x : ℕ) → Alike A B → Alike (with_variable x A) (with_variable x B)
alike_variable {A = A} {B = B} x r = record {
  variables = length_snoc A.variables x ∙ ap suc r.variables ∙ sym (length_snoc B.variables x);
  depths = r.depths;
}

pub alike_loop : {A B : Around} (l : ℕ) (after head behind front : List ℕ) → Alike A B → Alike (with_loop l after head A) (with_loop l behind front B)
alike_loop {A = A} {B = B} l after head behind front r = record {
  variables = r.variables;
  depths = λ m. depth_snoc 0 m A.loops (record { number = l; depth = length A.variables; after = after; head = head })
      ∙ ap (λ (d : ℕ). if m == l then d else depth_in 0 m A.loops) r.variables ∙ ap (λ (d : ℕ). if m == l then length B.variables else d) (r.depths m)
      ∙ sym (depth_snoc 0 m B.loops (record { number = l; depth = length B.variables; after = behind; head = front }));
}

pub alike_same : (A : Around) → Alike A A
alike_same A = record { variables = refl; depths = λ l. refl }

depth_alike : {A B : Around} (x : Exit) → Alike A B → depth x A.loops ≡ depth x B.loops
depth_alike (breaks n l) r = r.depths l
depth_alike (continues n l) r = r.depths l
depth_alike (returns n) r = refl

both_alike : (k : Sum → Sum → Sum) (s t g h : Sum) → s ≡ t → g ≡ h → k s g ≡ k t h
both_alike k s t g h e d = ap (λ s. k s g) e ∙ ap (k t) d

mutual
  pub sum_alike : {A B : Around} (f : Flow) → Alike A B → sum A f ≡ sum B f
  sum_alike nothing r = refl
  sum_alike nowhere r = refl
  sum_alike (act a) r = refl
  sum_alike (items l) r = items_alike l r
  sum_alike (or f g) r = both_alike or_sum _ _ _ _ (sum_alike f r) (sum_alike g r)
  sum_alike {A = A} {B = B} (leave x) r = ap (λ n. leaving_sum (n - depth x A.loops) (exit_way x)) r.variables ∙ ap (λ d. leaving_sum (length B.variables - d) (exit_way x)) (depth_alike x r)
  sum_alike (passes l f) r = ap (loop_sum l) (sum_alike f (alike_loop l [] [] [] [] r))

  pub items_alike : {A B : Around} (l : Items) → Alike A B → sum_items A l ≡ sum_items B l
  items_alike (last f) r = sum_alike f r
  items_alike (do_and f l) r = both_alike then_sum _ _ _ _ (sum_alike f r) (items_alike l r)
  items_alike (ends_and n x l) r = ap ends_sum (items_alike l (alike_variable x r))
  items_alike (may_and l) r = ap may_sum (items_alike l r)
  items_alike (else_and f l) r = both_alike else_sum _ _ _ _ (sum_alike f r) (items_alike l r)

row_alike : (s t g h : Sum) (b c m n : List Row) → s ≡ t → g ≡ h → b ≡ c → m ≡ n → with_row s g b m ≡ with_row t h c n
row_alike s t g h b c m n e d i j = ap (λ s. with_row s g b m) e ∙ ap (λ g. with_row t g b m) d ∙ ap (λ b. with_row t h b m) i ∙ ap (with_row t h c) j

mutual
  pub rows_alike : {A B : Around} (f : Flow) → Alike A B → flow_rows A f ≡ flow_rows B f
  rows_alike nothing r = refl
  rows_alike nowhere r = refl
  rows_alike (act a) r = refl
  rows_alike (items l) r = items_rows_alike l r
  rows_alike (or f g) r = row_alike _ _ _ _ _ _ _ _ (sum_alike f r) (sum_alike g r) (rows_alike g r) (rows_alike f r)
  rows_alike (leave x) r = refl
  rows_alike (passes l f) r = let d = alike_loop l [] [] [] [] r in row_alike _ _ nowhere_sum nowhere_sum [] [] _ _ (sum_alike f d) refl refl (rows_alike f d)

  items_rows_alike : {A B : Around} (l : Items) → Alike A B → items_rows A l ≡ items_rows B l
  items_rows_alike (last f) r = rows_alike f r
  items_rows_alike (do_and f l) r = row_alike _ _ _ _ _ _ _ _ (sum_alike f r) (items_alike l r) (items_rows_alike l r) (rows_alike f r)
  items_rows_alike (ends_and n x l) r = let d = alike_variable x r in row_alike nowhere_sum nowhere_sum _ _ _ _ [] [] refl (items_alike l d) (items_rows_alike l d) refl
  items_rows_alike (may_and l) r = row_alike nowhere_sum nowhere_sum _ _ _ _ [] [] refl (items_alike l r) (items_rows_alike l r) refl
  items_rows_alike (else_and f l) r = row_alike _ _ _ _ _ _ _ _ (sum_alike f r) (items_alike l r) (items_rows_alike l r) (rows_alike f r)

-- inside a loop, whatever follows it
pub rows_inside : (l : ℕ) (after head : List ℕ) (A : Around) (f : Flow) → flow_rows (with_loop l [] [] A) f ≡ flow_rows (with_loop l after head A) f
rows_inside l after head A f = rows_alike f (alike_loop l [] [] after head (alike_same A))
