-- The steps on classes, as the parents and sets have them.
use Rattle.std.proofs.Common.{◌≡◌, ℕ, ◌≤◌, ◌<◌, Bool, true, false, IsTrue, List, length, get_or, set, Option, refl, sym, ap, ◌∙◌, subst, ◌⊎◌, ⊎_elim, arith, get_or-set_same, get_or-set_other, length-set}
use Rattle.std.specs.Prelude.{min, max}
use Rattle.rx_typeck_solver.specs.declared.facts.Kinds.{Kinds}
use Rattle.rx_typeck_solver.specs.declared.facts.Subject.{Subject}
use Rattle.rx_typeck_solver.specs.Solver.{all_kinds, meet, some_kind, upd, Term, State, go_if, restrict, join, merge}
use Rattle.rx_typeck_solver.specs.Parents.{rep_of, Falling, set_of, SomeLeft, Classed, state_in, step_if}
use Rattle.rx_typeck_solver.proofs.Base.{decide, upd_at, upd_other, upd_elim}
use Rattle.rx_typeck_solver.proofs.Parenthood.{fun_ext, get_or_any, rep_below, rep_rep, joined}

pub sets_written : (ss : List Kinds) (r : ℕ) (s : Kinds) → r < length ss → set_of (set ss r s) ≡ upd r s (set_of ss)
unfolding set_of
sets_written ss r s h = fun_ext (λ z. get_or (set ss r s) z all_kinds) (upd r s (λ z. get_or ss z all_kinds)) (λ z. ⊎_elim
    (λ e. subst (λ y. get_or (set ss r s) y all_kinds ≡ upd r s (λ z. get_or ss z all_kinds) y) (sym e) (get_or-set_same ss r s all_kinds h ∙ sym (upd_at r s (λ z. get_or ss z all_kinds) r refl)))
    (λ n. get_or-set_other ss r z s all_kinds n ∙ sym (upd_other r s (λ z. get_or ss z all_kinds) z n)) (decide z r))

pub set_read : (ss : List Kinds) (r : ℕ) (s : Kinds) → r < length ss → s ≡ get_or ss r s → s ≡ set_of ss r
unfolding set_of
set_read ss r s h e = e ∙ get_or_any ss r s all_kinds h

left_written : (ss : List Kinds) (r : ℕ) (b : Kinds) → r < length ss → SomeLeft ss → some_kind b ≡ true → SomeLeft (set ss r b)
left_written ss r b h l e z = subst (λ f. IsTrue (some_kind (f z))) (sym (sets_written ss r b h)) (upd_elim (λ s. IsTrue (some_kind s)) r b (set_of ss) z (λ _. e) (λ _. l z))

pub classed_set : (ps new : List ℕ) (ss : List Kinds) (r : ℕ) (b : Kinds) → Classed ps ss → Falling new → length new ≡ length ps → r < length ss → some_kind b ≡ true → Classed new (set ss r b)
classed_set ps new ss r b c f l h e = record { falling = f; as_many = length-set ss r b ∙ c.as_many ∙ sym l; left = left_written ss r b h c.left e }

pub step_of : (q b : Bool) (st : State) → q ≡ b → go_if b st ≡ step_if q st
step_of q true st e = ap (λ b. step_if b st) (sym e)
step_of q false st e = ap (λ b. step_if b st) (sym e)

pub rep_within : (ps : List ℕ) (ss : List Kinds) (n r : ℕ) → Classed ps ss → n < length ps → r ≡ rep_of ps n → r < length ss
rep_within ps ss n r c h e = let p = rep_below ps c.falling n in let l = c.as_many in omega (arith, p, h, e, l)

pub restricted : (tab : Subject → Option Term) (ps new : List ℕ) (ss : List Kinds) (n r : ℕ) (k s b : Kinds) (q : Bool) → Classed ps ss → n < length ps → r ≡ rep_of ps n → rep_of new ≡ rep_of ps → s ≡ get_or ss r s → b ≡ meet s k → q ≡ some_kind b → restrict n k (state_in tab ps ss) ≡ step_if q (state_in tab new (set ss r b))
restricted tab ps new ss n r k s b q c h e f g i j =
    let hr = rep_within ps ss n r c h e in
    let es : s ≡ set_of ss r = set_read ss r s hr g in
    let eb : meet (set_of ss (rep_of ps n)) k ≡ b = ap (λ x. meet (set_of ss x) k) (sym e) ∙ ap (λ x. meet x k) (sym es) ∙ sym i in
    let w : record { shapes = tab; rep = rep_of ps; set = upd (rep_of ps n) b (set_of ss) } ≡ state_in tab new (set ss r b) =
    ap (λ x. record { shapes = tab; rep = rep_of ps; set = upd x b (set_of ss) }) (sym e) ∙ ap (λ (x : ℕ → Kinds). record { shapes = tab; rep = rep_of ps; set = x }) (sym (sets_written ss r b hr)) ∙ ap (λ (x : ℕ → ℕ). record { shapes = tab; rep = x; set = set_of (set ss r b) }) (sym f) in
    ap (λ x. go_if (some_kind x) (record { shapes = tab; rep = rep_of ps; set = upd (rep_of ps n) x (set_of ss) })) eb ∙ ap (go_if (some_kind b)) w ∙ step_of q (some_kind b) (state_in tab new (set ss r b)) j

low_elim : (P : ℕ → Type 0) (a b : ℕ) → P a → P b → P (min a b)
low_elim P a b x y = ⊎_elim (λ h. let e : a ≡ min a b = omega (arith, h) in subst P e x) (λ h. let e : b ≡ min a b = omega (arith, h) in subst P e y) (either_way a b)
  where
    either_way : (a b : ℕ) → (a ≤ b) ⊎ (b ≤ a)
    either_way a b = grind arith

high_elim : (P : ℕ → Type 0) (a b : ℕ) → P a → P b → P (max a b)
high_elim P a b x y = ⊎_elim (λ h. let e : b ≡ max a b = omega (arith, h) in subst P e y) (λ h. let e : a ≡ max a b = omega (arith, h) in subst P e x) (either_way a b)
  where
    either_way : (a b : ℕ) → (a ≤ b) ⊎ (b ≤ a)
    either_way a b = grind arith

-- two classes that are found, and the lower and the higher of their names
pub record Found (ps : List ℕ) (new : List ℕ) (n m lo hi : ℕ) : Type 0 where
  pub falling : Falling new
  pub same : rep_of new ≡ rep_of ps
  pub as_long : length new ≡ length ps
  pub lower : lo ≡ min (rep_of ps n) (rep_of ps m)
  pub higher : hi ≡ max (rep_of ps n) (rep_of ps m)
  pub low_in : lo < length ps
  pub high_in : hi < length ps

pub both_found : (ps p1 p2 : List ℕ) (n m r q lo hi : ℕ) → Falling ps → n < length ps → m < length ps → r ≡ rep_of ps n → rep_of p1 ≡ rep_of ps → length p1 ≡ length ps → q ≡ rep_of p1 m → rep_of p2 ≡ rep_of p1 → Falling p2 → length p2 ≡ length p1 → lo ≡ min r q → hi ≡ max r q → Found ps p2 n m lo hi
both_found ps p1 p2 n m r q lo hi fall hn hm er s1 l1 eq s2 f2 l2 el eh =
    let e2 : q ≡ rep_of ps m = eq ∙ ap (λ f. f m) s1 in
    let bn = rep_below ps fall n in
    let bm = rep_below ps fall m in
    let low : lo ≡ min (rep_of ps n) (rep_of ps m) = el ∙ ap (λ x. min x q) er ∙ ap (min (rep_of ps n)) e2 in
    let high : hi ≡ max (rep_of ps n) (rep_of ps m) = eh ∙ ap (λ x. max x q) er ∙ ap (max (rep_of ps n)) e2 in
    record {
      falling = f2;
      same = s2 ∙ s1;
      as_long = l2 ∙ l1;
      lower = low;
      higher = high;
      low_in = subst (λ x. x < length ps) (sym low) (low_elim (λ x. x < length ps) (rep_of ps n) (rep_of ps m) (omega (arith, bn, hn)) (omega (arith, bm, hm)));
      high_in = subst (λ x. x < length ps) (sym high) (high_elim (λ x. x < length ps) (rep_of ps n) (rep_of ps m) (omega (arith, bn, hn)) (omega (arith, bm, hm)));
    }

is_rep : (ps new : List ℕ) (n m lo hi : ℕ) → Falling ps → Found ps new n m lo hi → (rep_of new lo ≡ lo) × (rep_of new hi ≡ hi) × (lo ≤ hi)
is_rep ps new n m lo hi fall f = (
  ap (λ g. g lo) f.same ∙ subst (λ x. rep_of ps x ≡ x) (sym f.lower) (low_elim (λ x. rep_of ps x ≡ x) (rep_of ps n) (rep_of ps m) (rep_rep ps fall n) (rep_rep ps fall m)),
  ap (λ g. g hi) f.same ∙ subst (λ x. rep_of ps x ≡ x) (sym f.higher) (high_elim (λ x. rep_of ps x ≡ x) (rep_of ps n) (rep_of ps m) (rep_rep ps fall n) (rep_rep ps fall m)),
  let a = f.lower in let b = f.higher in omega (arith, a, b),
)

pub merged : (tab : Subject → Option Term) (ps new : List ℕ) (ss : List Kinds) (n m lo hi : ℕ) (s t b : Kinds) (q : Bool) → Classed ps ss → Found ps new n m lo hi → s ≡ get_or ss lo s → t ≡ get_or ss hi t → b ≡ meet s t → q ≡ some_kind b → merge n m (state_in tab ps ss) ≡ step_if q (state_in tab (set new hi lo) (set ss lo b))
merged tab ps new ss n m lo hi s t b q c f es et eb eq =
    let i = is_rep ps new n m lo hi c.falling f in
    let l = c.as_many in
    let hl : lo < length ss = let x = f.low_in in omega (arith, x, l) in
    let hh : hi < length ss = let x = f.high_in in omega (arith, x, l) in
    let j = joined new lo hi f.falling (let x = f.high_in in let y = f.as_long in omega (arith, x, y)) i.2 i.0 i.1 in
    let both : meet (set_of ss lo) (set_of ss hi) ≡ b = ap (λ x. meet x (set_of ss hi)) (sym (set_read ss lo s hl es)) ∙ ap (meet s) (sym (set_read ss hi t hh et)) ∙ sym eb in
    let via : (ℕ → ℕ) → ℕ → ℕ = λ r z. upd hi lo (λ x. x) (r z) in
    let reps : via (rep_of ps) ≡ rep_of (set new hi lo) = ap via (sym f.same) ∙ sym j.1 in
    let w : record { shapes = tab; rep = λ z. upd hi lo (λ x. x) (rep_of ps z); set = upd lo b (set_of ss) } ≡ state_in tab (set new hi lo) (set ss lo b) =
    ap (λ (x : ℕ → Kinds). record { shapes = tab; rep = λ z. upd hi lo (λ x. x) (rep_of ps z); set = x }) (sym (sets_written ss lo b hl)) ∙ ap (λ (x : ℕ → ℕ). record { shapes = tab; rep = x; set = set_of (set ss lo b) }) reps in
    ap (λ x. join x (max (rep_of ps n) (rep_of ps m)) (state_in tab ps ss)) (sym f.lower) ∙ ap (λ x. join lo x (state_in tab ps ss)) (sym f.higher)
    ∙ ap (λ x. go_if (some_kind x) (record { shapes = tab; rep = λ z. upd hi lo (λ x. x) (rep_of ps z); set = upd lo x (set_of ss) })) both
    ∙ ap (go_if (some_kind b)) w ∙ step_of q (some_kind b) (state_in tab (set new hi lo) (set ss lo b)) eq

pub merged_classed : (ps new : List ℕ) (ss : List Kinds) (n m lo hi : ℕ) (b : Kinds) → Classed ps ss → Found ps new n m lo hi → some_kind b ≡ true → Classed (set new hi lo) (set ss lo b) × (length (set new hi lo) ≡ length ps)
merged_classed ps new ss n m lo hi b c f e =
    let i = is_rep ps new n m lo hi c.falling f in
    let l = c.as_many in
    let j = joined new lo hi f.falling (let x = f.high_in in let y = f.as_long in omega (arith, x, y)) i.2 i.0 i.1 in
    (classed_set ps (set new hi lo) ss lo b c j.0 (j.2 ∙ f.as_long) (let x = f.low_in in omega (arith, x, l)) e, j.2 ∙ f.as_long)
