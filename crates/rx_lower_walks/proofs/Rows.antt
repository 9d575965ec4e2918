-- Sequences, item by item.
use Rattle.std.proofs.Common.{◌≡◌, ℕ, zero, suc, ◌+◌, ◌-◌, ◌<◌, List, [], ◌∷◌, ◌++◌, length, map, take, drop, get_or, drop-cons, refl, sym, ap, ◌∙◌, subst, append_assoc, append-nil, arith}
use Rattle.rx_lower_walks.specs.Flows as flow
use Rattle.rx_lower_walks.specs.Flows.{Items, item_and, items_of}
use Rattle.rx_lower_walks.specs.PlainFlow.{plain-Item}
use Rattle.rx_lower_walks.specs.declared.flow.Item.{Item}
use Rattle.rx_lower_walks.specs.declared.sums.Sum.{Sum}
use Rattle.rx_lower_walks.specs.declared.sums.Row.{Row}
use Rattle.rx_lower_walks.specs.declared.around.Around.{Around}
use Rattle.rx_lower_walks.specs.Sums.{nowhere_sum, sum, sum_items, opened, no_items}
use Rattle.rx_lower_walks.specs.Rows.{flow_rows, items_rows, past, own_sum, own_rows, item_row}

item_opened : (n : flow.Item) (l : Items) (A : Around) → opened (item_and n l) A ≡ opened l (opened (item_and n no_items) A)
item_opened (flow.doing f) l A = refl
item_opened (flow.ending n x) l A = refl
item_opened flow.may l A = refl
item_opened (flow.trying f) l A = refl

-- the rows from an item on are those behind it, its own, and its row
pub rows_of_item : (n : flow.Item) (l : Items) (A : Around) → items_rows A (item_and n l) ≡ items_rows (past n A) l ++ (own_rows A n ++ item_row A n l ∷ [])
rows_of_item (flow.doing f) l A = refl
rows_of_item (flow.ending n x) l A = refl
rows_of_item flow.may l A = refl
rows_of_item (flow.trying f) l A = refl

pub no_more : (rs : List Row) → rs ++ [] ≡ rs
no_more rs = append-nil rs

-- ---- the rows of one item more

item_added : (A B : Around) (n : flow.Item) (l : Items) (front old new own : List Row) (s rest : Sum) (behind : ℕ) → B ≡ past n A → rest ≡ sum_items B l
    → behind ≡ length (items_rows B l) → old ≡ front ++ items_rows B l → s ≡ own_sum A n → own ≡ own_rows A n
    → new ≡ (old ++ own) ++ record { own = s; rest = rest; behind = behind } ∷ [] → new ≡ front ++ items_rows A (item_and n l)
item_added A B n l front old new own s rest behind b r h o e d k =
    k ∙ ap (λ (x : List Row). (x ++ own) ++ this ∷ []) o ∙ append_assoc (front ++ items_rows B l) own (this ∷ []) ∙ append_assoc front (items_rows B l) (own ++ this ∷ [])
    ∙ ap (λ (x : List Row). front ++ (items_rows B l ++ (x ++ this ∷ []))) d ∙ ap (λ (x : Row). front ++ (items_rows B l ++ (own_rows A n ++ x ∷ []))) same
    ∙ ap (λ (D : Around). front ++ (items_rows D l ++ (own_rows A n ++ item_row A n l ∷ []))) b ∙ ap (λ (x : List Row). front ++ x) (sym (rows_of_item n l A))
  where
    this : Row
    this = record { own = s; rest = rest; behind = behind }

    same : this ≡ item_row A n l
    same = ap (λ (s : Sum). let x : Row = record { own = s; rest = rest; behind = behind } in x) e
        ∙ ap (λ (r : Sum). let x : Row = record { own = own_sum A n; rest = r; behind = behind } in x) (r ∙ ap (λ D. sum_items D l) b)
        ∙ ap (λ (m : ℕ). let x : Row = record { own = own_sum A n; rest = sum_items (past n A) l; behind = m } in x) (h ∙ ap (λ D. length (items_rows D l)) b)

abbrev pub Adds : Around → flow.Item → Sum → ℕ → List Row → List Row → Type 0
Adds B n rest behind old new = (A : Around) (l : Items) (front : List Row) → B ≡ past n A → rest ≡ sum_items B l → behind ≡ length (items_rows B l)
    → old ≡ front ++ items_rows B l → new ≡ front ++ items_rows A (item_and n l)

module _ (B : Around) (n : flow.Item) (rest : Sum) (behind : ℕ) (old new : List Row) where
  pub adds_do : (f : flow.Flow) (s : Sum) (own : List Row) → n ≡ flow.doing f → s ≡ sum B f → own ≡ old ++ flow_rows B f
      → new ≡ own ++ record { own = s; rest = rest; behind = behind } ∷ [] → Adds B n rest behind old new
  adds_do f s own q e d k = subst (λ n. Adds B n rest behind old new) (sym q) (λ A l front b r h o.
      item_added A B (flow.doing f) l front old new (flow_rows B f) s rest behind b r h o (e ∙ ap (λ D. sum D f) b) (ap (λ D. flow_rows D f) b)
      (k ∙ ap (λ (x : List Row). x ++ record { own = s; rest = rest; behind = behind } ∷ []) d))

  pub adds_else : (f : flow.Flow) (s : Sum) (own : List Row) → n ≡ flow.trying f → s ≡ sum B f → own ≡ old ++ flow_rows B f
      → new ≡ own ++ record { own = s; rest = rest; behind = behind } ∷ [] → Adds B n rest behind old new
  adds_else f s own q e d k = subst (λ n. Adds B n rest behind old new) (sym q) (λ A l front b r h o.
      item_added A B (flow.trying f) l front old new (flow_rows B f) s rest behind b r h o (e ∙ ap (λ D. sum D f) b) (ap (λ D. flow_rows D f) b)
      (k ∙ ap (λ (x : List Row). x ++ record { own = s; rest = rest; behind = behind } ∷ []) d))

  pub adds_ends : (m x : ℕ) → n ≡ flow.ending m x → new ≡ old ++ record { own = nowhere_sum; rest = rest; behind = behind } ∷ [] → Adds B n rest behind old new
  adds_ends m x q k = subst (λ n. Adds B n rest behind old new) (sym q) (λ A l front b r h o.
      item_added A B (flow.ending m x) l front old new [] nowhere_sum rest behind b r h o refl refl
      (k ∙ ap (λ (y : List Row). y ++ record { own = nowhere_sum; rest = rest; behind = behind } ∷ []) (sym (append-nil old))))

  pub adds_may : n ≡ flow.may → new ≡ old ++ record { own = nowhere_sum; rest = rest; behind = behind } ∷ [] → Adds B n rest behind old new
  adds_may q k = subst (λ n. Adds B n rest behind old new) (sym q) (λ A l front b r h o.
      item_added A B flow.may l front old new [] nowhere_sum rest behind b r h o refl refl
      (k ∙ ap (λ (y : List Row). y ++ record { own = nowhere_sum; rest = rest; behind = behind } ∷ []) (sym (append-nil old))))

-- ---- from the last item to the first

abbrev from : List Item → Items → Items
from is l = items_of (map plain-Item is) l

opened_next : (is : List Item) (j : ℕ) (x : Item) → j < length is → x ≡ get_or is j x → (A : Around)
    → opened (from (take (suc j) is) no_items) A ≡ opened (item_and (plain-Item x) no_items) (opened (from (take j is) no_items) A)
opened_next [] j x lt e A = absurd (omega (arith, lt))
opened_next (y ∷ ys) zero x lt e A = ap (λ x. opened (item_and (plain-Item x) no_items) A) (sym e)
opened_next (y ∷ ys) (suc j) x lt e A =
    item_opened (plain-Item y) (from (take (suc j) ys) no_items) A
    ∙ opened_next ys j x (omega (arith, lt)) e (opened (item_and (plain-Item y) no_items) A)
    ∙ ap (opened (item_and (plain-Item x) no_items)) (sym (item_opened (plain-Item y) (from (take j ys) no_items) A))

pub from_next : (is : List Item) (j : ℕ) (x : Item) (l : Items) → j < length is → x ≡ get_or is j x → from (drop j is) l ≡ item_and (plain-Item x) (from (drop (suc j) is) l)
from_next is j x l lt e = ap (λ is. from is l) (drop-cons is j x lt) ∙ ap (λ y. item_and (plain-Item y) (from (drop (suc j) is) l)) (sym e)

module _ (is : List Item) (f : Items) (turn : ℕ) (x : Item) (lt : turn < length is) (e : x ≡ get_or is (length is - 1 - turn) x) (A B C : Around) where
  abbrev before : ℕ → Around
  before j = opened (from (take j is) no_items) A

  this : (j : ℕ) → j ≡ length is - (turn + 1) → x ≡ get_or is j x
  this j d = let h : length is - 1 - turn ≡ j = omega (arith, d, lt) in subst (λ i. x ≡ get_or is i x) h e

  rear : (j : ℕ) → j ≡ length is - (turn + 1) → B ≡ before (length is - turn) → B ≡ past (plain-Item x) (before j)
  rear j d b =
      let h : length is - turn ≡ suc j = omega (arith, d, lt) in
      b ∙ ap before h ∙ opened_next is j x (omega (arith, d, lt)) (this j d) A

  pub row_around : B ≡ before (length is - turn) → ((D : Around) → B ≡ past (plain-Item x) D → C ≡ D) → C ≡ before (length is - (turn + 1))
  row_around b h = h (before (length is - (turn + 1))) (rear (length is - (turn + 1)) refl b)

  -- what holds of the items behind holds with one item more
  pub row_next : (P Q : Around → Items → Type 0) → B ≡ before (length is - turn) → ((D : Around) → B ≡ past (plain-Item x) D → C ≡ D)
      → P B (from (drop (length is - turn) is) f) → ((D : Around) (l : Items) → B ≡ past (plain-Item x) D → P B l → Q D (item_and (plain-Item x) l))
      → Q C (from (drop (length is - (turn + 1)) is) f)
  row_next P Q b h a k =
      let j : length is - turn ≡ suc (length is - (turn + 1)) = omega (arith, lt) in
      let old : P B (from (drop (suc (length is - (turn + 1))) is) f) = subst (λ j. P B (from (drop j is) f)) j a in
      let new : Q (before (length is - (turn + 1))) (item_and (plain-Item x) (from (drop (suc (length is - (turn + 1))) is) f))
      = k (before (length is - (turn + 1))) (from (drop (suc (length is - (turn + 1))) is) f) (rear (length is - (turn + 1)) refl b) old in
      let same : Q (before (length is - (turn + 1))) (from (drop (length is - (turn + 1)) is) f)
      = subst (Q (before (length is - (turn + 1)))) (sym (from_next is (length is - (turn + 1)) x f (omega (arith, lt)) (this (length is - (turn + 1)) refl))) new in
      subst (λ D. Q D (from (drop (length is - (turn + 1)) is) f)) (sym (row_around b h)) same

-- the rows of a sequence of which some items are done
pub items_split : (is : List Item) (j : ℕ) (x : Item) (l : Items) (A : Around) (left : List Row) → j < length is → x ≡ get_or is j x → left ≡ items_rows A (from (drop j is) l)
    → left ≡ items_rows (past (plain-Item x) A) (from (drop (j + 1) is) l) ++ (own_rows A (plain-Item x) ++ item_row A (plain-Item x) (from (drop (j + 1) is) l) ∷ [])
items_split is j x l A left lt e h =
    let d : suc j ≡ j + 1 = omega arith in
    h ∙ ap (items_rows A) (from_next is j x l lt e ∙ ap (λ i. item_and (plain-Item x) (from (drop i is) l)) d) ∙ rows_of_item (plain-Item x) (from (drop (j + 1) is) l) A

pub item_next : (is : List Item) (j : ℕ) (x : Item) (l : Items) → j < length is → x ≡ get_or is j x → from (drop j is) l ≡ item_and (plain-Item x) (from (drop (j + 1) is) l)
item_next is j x l lt e = let d : suc j ≡ j + 1 = omega arith in from_next is j x l lt e ∙ ap (λ i. item_and (plain-Item x) (from (drop i is) l)) d
