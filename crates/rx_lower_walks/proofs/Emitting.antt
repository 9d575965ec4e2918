-- What is emitted for an item, and what is left of its sequence.
use Rattle.std.proofs.Common.{◌≡◌, ℕ, List, [], ◌∷◌, ◌++◌, length, Bool, true, false, if◌then◌else◌, refl, sym, ap, ◌∙◌, subst, append_assoc, append-nil}
use Rattle.rx_lower_walks.specs.Graph as graph
use Rattle.rx_lower_walks.specs.Pieces.{distinct}
use Rattle.rx_lower_walks.specs.Flows.{Items, item_and, do_and, ends_and, may_and, else_and}
use Rattle.rx_lower_walks.specs.Flows as flows
use Rattle.rx_lower_walks.specs.declared.around.Around.{Around}
use Rattle.rx_lower_walks.specs.declared.sums.Sum.{Sum}
use Rattle.rx_lower_walks.specs.declared.sums.Row.{Row}
use Rattle.rx_lower_walks.specs.declared.site.Open.{Open}
use Rattle.rx_lower_walks.specs.declared.site.Stand.{Stand}
use Rattle.rx_lower_walks.specs.Around.{with_variable, with_loop, exits}
use Rattle.rx_lower_walks.specs.Sums.{round, nowhere_sum, sum, sum_items}
use Rattle.rx_lower_walks.specs.Rows.{flow_rows, items_rows, past, item_row}
use Rattle.rx_lower_walks.specs.Emitted.{place, entered, emitted, emitted_items, closed, closing, with_open, left_over, left_where}
use Rattle.rx_lower_walks.proofs.Closing.{closing_last, open_last}

-- ---- sites of two parts, and the variables behind them

two_parts : (o e m c : List graph.Site) (b : Bool) → o ++ ((e ++ (if b then m else [])) ++ c) ≡ (o ++ e) ++ (if b then m ++ c else c)
two_parts o e m c true = ap (λ l. o ++ l) (append_assoc e m c) ∙ sym (append_assoc o e (m ++ c))
two_parts o e m c false = ap (λ l. o ++ (l ++ c)) (append-nil e) ∙ sym (append_assoc o e c)

abbrev moved_to : ℕ → Stand → Stand
moved_to p s = record s { at = p }

module _ (A B : Around) (f : flows.Flow) (l : Items) (row : Row) (s t : Stand) (o p : List graph.Site) where
  abbrev here : Row
  here = record { own = sum A f; rest = sum_items A l; behind = length (items_rows A l) }

  abbrev done : Row → List graph.Site
  done r = emitted A f s.at (entered r.rest.begins (place s.at r.own.size) (exits s.on s.fails A.loops)) s.fails

  abbrev failed : Row → List graph.Site
  failed r = emitted A f s.at s.on (entered r.rest.begins (place s.at r.own.size) (exits s.on s.fails A.loops))

  pub do_step : row ≡ here → p ≡ o ++ done row → t ≡ moved_to (place s.at row.own.size) s → B ≡ A
      → o ++ left_over A (do_and f l) s ≡ p ++ left_where row.own.ahead B l t
  do_step e d m a =
      subst (λ (r : Row). o ++ left_over A (do_and f l) s ≡ (o ++ done r) ++ left_where r.own.ahead A l (moved_to (place s.at r.own.size) s))
      (sym e)
      (two_parts o (done here) (emitted_items A l (place s.at (sum A f).size) s.on s.fails) (closing s.opens) (sum A f).ahead)
      ∙ ap (λ (r : List graph.Site). r ++ left_where row.own.ahead A l (moved_to (place s.at row.own.size) s)) (sym d)
      ∙ ap (λ (u : Stand). p ++ left_where row.own.ahead A l u) (sym m) ∙ ap (λ (D : Around). p ++ left_where row.own.ahead D l t) (sym a)

  pub else_step : row ≡ here → p ≡ o ++ failed row → t ≡ moved_to (place s.at row.own.size) s → B ≡ A
      → o ++ left_over A (else_and f l) s ≡ p ++ left_where row.own.failing B l t
  else_step e d m a =
      subst (λ (r : Row). o ++ left_over A (else_and f l) s ≡ (o ++ failed r) ++ left_where r.own.failing A l (moved_to (place s.at r.own.size) s))
      (sym e)
      (two_parts o (failed here) (emitted_items A l (place s.at (sum A f).size) s.on s.fails) (closing s.opens) (sum A f).failing)
      ∙ ap (λ (r : List graph.Site). r ++ left_where row.own.failing A l (moved_to (place s.at row.own.size) s)) (sym d)
      ∙ ap (λ (u : Stand). p ++ left_where row.own.failing A l u) (sym m) ∙ ap (λ (D : Around). p ++ left_where row.own.failing D l t) (sym a)

module _ (A B : Around) (n x : ℕ) (l : Items) (row : Row) (s t : Stand) (o : List graph.Site) where
  abbrev inner : Sum
  inner = sum_items (with_variable x A) l

  abbrev ending_row : Row
  ending_row = record { own = nowhere_sum; rest = inner; behind = length (items_rows (with_variable x A) l) }

  abbrev opened_at : Row → Stand
  opened_at r = record { at = s.at; on = place s.at r.rest.size ∷ []; fails = []; opens = s.opens ++ record { node = n; variable = x; reached = r.rest.ahead; next = distinct s.on } ∷ [] }

  pub ends_step : row ≡ ending_row → t ≡ opened_at row → B ≡ with_variable x A
      → o ++ left_over A (ends_and n x l) s ≡ o ++ left_over B l t
  ends_step e m a =
      subst (λ (r : Row). o ++ left_over A (ends_and n x l) s ≡ o ++ left_over (with_variable x A) l (opened_at r)) (sym e) whole
      ∙ ap (λ (u : Stand). o ++ left_over (with_variable x A) l u) (sym m) ∙ ap (λ (D : Around). o ++ left_over D l t) (sym a)
    where
      sites : List graph.Site
      sites = emitted_items (with_variable x A) l s.at (place s.at inner.size ∷ []) []

      last_open : Open
      last_open = record { node = n; variable = x; reached = inner.ahead; next = distinct s.on }

      whole : o ++ left_over A (ends_and n x l) s ≡ o ++ left_over (with_variable x A) l (opened_at ending_row)
      whole = ap (λ r. o ++ r) (append_assoc sites (closed last_open) (closing s.opens) ∙ ap (λ r. sites ++ r) (sym (closing_last s.opens last_open)))

pub ends_around : (n x : ℕ) (b : Bool) (next : List ℕ) (os : List Open) (A B C : Around) → B ≡ with_open os A → C ≡ with_variable x B
    → C ≡ with_open (os ++ record { node = n; variable = x; reached = b; next = next } ∷ []) A
ends_around n x b next os A B C e d = d ∙ ap (with_variable x) e ∙ sym (open_last os (record { node = n; variable = x; reached = b; next = next }) A)

-- ---- by the item

module _ (A B : Around) (n : flows.Item) (row : Row) (s t : Stand) (o p : List graph.Site) where
  abbrev EmitsItem : Bool → flows.Item → Type 0
  EmitsItem goes n = (l : Items) → row ≡ item_row A n l → o ++ left_over A (item_and n l) s ≡ p ++ left_where goes B l t

  pub doing_sites : (f : flows.Flow) → n ≡ flows.doing f → p ≡ o ++ emitted A f s.at (entered row.rest.begins (place s.at row.own.size) (exits s.on s.fails A.loops)) s.fails
      → t ≡ moved_to (place s.at row.own.size) s → B ≡ A → EmitsItem row.own.ahead n
  doing_sites f q d m a = subst (λ n. EmitsItem row.own.ahead n) (sym q) (λ l e. do_step A B f l row s t o p e d m a)

  pub trying_sites : (f : flows.Flow) → n ≡ flows.trying f → p ≡ o ++ emitted A f s.at s.on (entered row.rest.begins (place s.at row.own.size) (exits s.on s.fails A.loops))
      → t ≡ moved_to (place s.at row.own.size) s → B ≡ A → EmitsItem row.own.failing n
  trying_sites f q d m a = subst (λ n. EmitsItem row.own.failing n) (sym q) (λ l e. else_step A B f l row s t o p e d m a)

pub ending_sites : (A B : Around) (n : flows.Item) (row : Row) (s t : Stand) (o : List graph.Site) (m x : ℕ) → n ≡ flows.ending m x
    → t ≡ record { at = s.at; on = place s.at row.rest.size ∷ []; fails = []; opens = s.opens ++ record { node = m; variable = x; reached = row.rest.ahead; next = distinct s.on } ∷ [] }
    → B ≡ with_variable x A → EmitsItem A B n row s t o o true n
ending_sites A B n row s t o m x q d a = subst (λ n. EmitsItem A B n row s t o o true n) (sym q) (λ l e. ends_step A B m x l row s t o e d a)

pub may_sites : (A : Around) (n : flows.Item) (row : Row) (s : Stand) (o : List graph.Site) → n ≡ flows.may → EmitsItem A A n row s s o o true n
may_sites A n row s o q = subst (λ n. EmitsItem A A n row s s o o true n) (sym q) (λ l e. refl)

pub ending_around : (x : ℕ) (n : ℕ) (b : Bool) (next : List ℕ) (os ps : List Open) (B C : Around) → ps ≡ os ++ record { node = n; variable = x; reached = b; next = next } ∷ []
    → C ≡ with_variable x B → (A : Around) → B ≡ with_open os A → C ≡ with_open ps A
ending_around x n b next os ps B C d e A h = ends_around n x b next os A B C h e ∙ ap (λ ps. with_open ps A) (sym d)

-- what is around the items behind it
pub past_same : (A B : Around) (n m : flows.Item) → n ≡ m → B ≡ past m A → B ≡ past n A
past_same A B n m q a = a ∙ ap (λ n. past n A) (sym q)

-- one item more is done
pub item_step : (whole before after : List graph.Site) (B C : Around) (k l : Items) (n : flows.Item) (s t : Stand) (goes g : Bool) → k ≡ item_and n l
    → before ++ left_over B k s ≡ whole → before ++ left_over B (item_and n l) s ≡ after ++ left_where goes C l t → goes ≡ g → after ++ left_where g C l t ≡ whole
item_step whole before after B C k l n s t goes g q h e d =
    ap (λ (b : Bool). after ++ left_where b C l t) (sym d) ∙ sym e ∙ ap (λ (k : Items). before ++ left_over B k s) (sym q) ∙ h

-- a loop, by its passes
pub passes_step : (A D : Around) (l : ℕ) (f : flows.Flow) (b : ℕ) (on fails entry head back none : List ℕ) (row : Row) (o p : List graph.Site)
    → row ≡ record { own = sum (with_loop l [] [] A) f; rest = nowhere_sum; behind = 0 } → entry ≡ entered (round l row.own.begins) b (exits on fails A.loops)
    → head ≡ entry → back ≡ entry → none ≡ [] → D ≡ with_loop l on head A → p ≡ o ++ emitted D f b back none → p ≡ o ++ emitted A (flows.passes l f) b on fails
passes_step A D l f b on fails entry head back none row o p r e h k n d m =
    m ∙ ap (λ D. o ++ emitted D f b back none) d ∙ ap (λ (x : List ℕ). o ++ emitted (with_loop l on head A) f b back x) n
    ∙ ap (λ (x : List ℕ). o ++ emitted (with_loop l on x A) f b back []) (h ∙ first) ∙ ap (λ (x : List ℕ). o ++ emitted (with_loop l on start A) f b x []) (k ∙ first)
  where
    start : List ℕ
    start = entered (round l (sum (with_loop l [] [] A) f).begins) b (exits on fails A.loops)

    first : entry ≡ start
    first = e ∙ ap (λ (r : Row). entered (round l r.own.begins) b (exits on fails A.loops)) r

-- the rows of a flow of this form
pub rows_given : (A : Around) (f g : flows.Flow) (rows : List Row) → f ≡ g → rows ≡ flow_rows A f → rows ≡ flow_rows A g
rows_given A f g rows e h = h ∙ ap (flow_rows A) e

-- what has no site
pub silent : (o : List graph.Site) (A : Around) (f g : flows.Flow) (b : ℕ) (on fails : List ℕ) → f ≡ g → emitted A g b on fails ≡ [] → o ≡ o ++ emitted A f b on fails
silent o A f g b on fails q e = sym (ap (λ l. o ++ l) (ap (λ f. emitted A f b on fails) q ∙ e) ∙ append-nil o)
