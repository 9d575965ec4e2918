-- The least number of a class, by the parents.
use Rattle.std.proofs.Common.{◌≡◌, ℕ, zero, suc, ◌≤◌, ◌<◌, ◌+◌, List, [], ◌∷◌, length, get_or, set, refl, sym, ap, ◌∙◌, subst, ◌⊎◌, inl, inr, ⊎_elim, arith, eq-eqb, ne_eqb, get_or-set_same, get_or-set_other, length-set}
use Rattle.rx_typeck_solver.specs.Solver.{upd}
use Rattle.rx_typeck_solver.specs.Parents.{top, rep_of, Falling}
use Rattle.rx_typeck_solver.proofs.Base.{decide, upd_at, upd_other}

pub fun_ext : {A : Type 0} {B : Type 0} (f g : A → B) → ((x : A) → f x ≡ g x) → f ≡ g
fun_ext f g h = λ i x. h x i

pub get_or_any : {A : Type 0} (l : List A) (i : ℕ) (d e : A) → i < length l → get_or l i d ≡ get_or l i e
get_or_any [] i d e h = absurd (omega arith)
get_or_any (x ∷ l) zero d e h = refl
get_or_any (x ∷ l) (suc i) d e h = get_or_any l i d e (omega arith)

-- what a number's class is, as its parents have it
pub record IsTop (ps : List ℕ) (f : ℕ → ℕ) : Type 0 where
  pub up : (z : ℕ) → f (get_or ps z z) ≡ f z
  pub own : (z : ℕ) → get_or ps z z ≡ z → f z ≡ z

step_of_top : (ps : List ℕ) (n z : ℕ) (P : ℕ → Type 0) → (get_or ps z z ≡ z → P z) → ((get_or ps z z ≡ z → ⊥) → P (top n ps (get_or ps z z))) → P (top (suc n) ps z)
step_of_top ps n z P h k = ⊎_elim (λ e. subst P (sym (same e)) (h e)) (λ e. subst P (sym (other e)) (k e)) (decide (get_or ps z z) z)
  where
    same : get_or ps z z ≡ z → top (suc n) ps z ≡ z
    same e = rw (eq-eqb (get_or ps z z) z e)

    other : (get_or ps z z ≡ z → ⊥) → top (suc n) ps z ≡ top n ps (get_or ps z z)
    other e = rw (ne_eqb (get_or ps z z) z e)

top_is : (ps : List ℕ) (f : ℕ → ℕ) → Falling ps → IsTop ps f → (n z : ℕ) → z ≤ n → top n ps z ≡ f z
top_is ps f fall t zero z h = let p = fall z in let e : get_or ps z z ≡ z = omega (arith, p, h) in sym (t.own z e)
top_is ps f fall t (suc n) z h = step_of_top ps n z (λ y. y ≡ f z) (λ e. sym (t.own z e)) (λ e. let p = fall z in top_is ps f fall t n (get_or ps z z) (omega (arith, p, e, h)) ∙ t.up z)

-- parents determine the classes
pub rep_is : (ps : List ℕ) (f : ℕ → ℕ) → Falling ps → IsTop ps f → rep_of ps ≡ f
unfolding rep_of
rep_is ps f fall t = fun_ext (λ z. top z ps z) f (λ z. top_is ps f fall t z z (omega arith))

enough : (ps : List ℕ) → Falling ps → (n m z : ℕ) → z ≤ n → z ≤ m → top n ps z ≡ top m ps z
enough ps fall zero zero z h k = refl
enough ps fall zero (suc m) z h k = step_of_top ps m z (λ y. z ≡ y) (λ e. refl) (λ e. let p = fall z in absurd (e (omega (arith, p, h))))
enough ps fall (suc n) zero z h k = step_of_top ps n z (λ y. y ≡ z) (λ e. refl) (λ e. let p = fall z in absurd (e (omega (arith, p, k))))
enough ps fall (suc n) (suc m) z h k = step_of_top ps n z (λ y. y ≡ top (suc m) ps z)
    (λ e. step_of_top ps m z (λ y. z ≡ y) (λ _. refl) (λ i. absurd (i e)))
    (λ e. step_of_top ps m z (λ y. top n ps (get_or ps z z) ≡ y) (λ i. absurd (e i)) (λ _. let p = fall z in enough ps fall n m (get_or ps z z) (omega (arith, p, e, h)) (omega (arith, p, e, k))))

pub rep_top : (ps : List ℕ) → Falling ps → IsTop ps (rep_of ps)
unfolding rep_of
rep_top ps fall = record { up = λ z. up z (decide (get_or ps z z) z); own = own }
  where
    own : (z : ℕ) → get_or ps z z ≡ z → top z ps z ≡ z
    own zero e = refl
    own (suc z) e = step_of_top ps z (suc z) (λ y. y ≡ suc z) (λ _. refl) (λ i. absurd (i e))

    up : (z : ℕ) → (get_or ps z z ≡ z) ⊎ (get_or ps z z ≡ z → ⊥) → top (get_or ps z z) ps (get_or ps z z) ≡ top z ps z
    up z (inl e) = ap (λ y. top y ps y) e
    up zero (inr n) = let p = fall zero in absurd (n (omega (arith, p)))
    up (suc z) (inr n) = step_of_top ps z (suc z) (λ y. top (get_or ps (suc z) (suc z)) ps (get_or ps (suc z) (suc z)) ≡ y) (λ e. absurd (n e)) (λ _. let p = fall (suc z) in enough ps fall (get_or ps (suc z) (suc z)) z (get_or ps (suc z) (suc z)) (omega arith) (omega (arith, p, n)))

top_below : (ps : List ℕ) → Falling ps → (n z : ℕ) → top n ps z ≤ z
top_below ps fall zero z = omega arith
top_below ps fall (suc n) z = step_of_top ps n z (λ y. y ≤ z) (λ _. omega arith) (λ _. let p = fall z in let q = top_below ps fall n (get_or ps z z) in omega (arith, p, q))

pub rep_below : (ps : List ℕ) → Falling ps → (z : ℕ) → rep_of ps z ≤ z
unfolding rep_of
rep_below ps fall z = top_below ps fall z z

top_ends : (ps : List ℕ) → Falling ps → (n z : ℕ) → z ≤ n → get_or ps (top n ps z) (top n ps z) ≡ top n ps z
top_ends ps fall zero z h = let p = fall z in omega (arith, p, h)
top_ends ps fall (suc n) z h = step_of_top ps n z (λ y. get_or ps y y ≡ y) (λ e. e) (λ e. let p = fall z in top_ends ps fall n (get_or ps z z) (omega (arith, p, e, h)))

-- the least number is its own parent
pub rep_ends : (ps : List ℕ) → Falling ps → (z : ℕ) → get_or ps (rep_of ps z) (rep_of ps z) ≡ rep_of ps z
unfolding rep_of
rep_ends ps fall z = top_ends ps fall z z (omega arith)

pub rep_rep : (ps : List ℕ) → Falling ps → (z : ℕ) → rep_of ps (rep_of ps z) ≡ rep_of ps z
rep_rep ps fall z = (rep_top ps fall).own (rep_of ps z) (rep_ends ps fall z)

-- ---- one parent is changed

parent_elim : (ps : List ℕ) (x v : ℕ) → x < length ps → (P : ℕ → ℕ → Type 0) → P x v → ((z : ℕ) → (z ≡ x → ⊥) → P z (get_or ps z z)) → (z : ℕ) → P z (get_or (set ps x v) z z)
parent_elim ps x v h P a b z = ⊎_elim
    (λ e. subst (λ y. P y (get_or (set ps x v) y y)) (sym e) (subst (λ w. P x w) (sym (get_or-set_same ps x v x h)) a))
    (λ n. subst (λ w. P z w) (sym (get_or-set_other ps x z v z n)) (b z n)) (decide z x)

pub record Finding (old new : List ℕ) : Type 0 where
  pub falling : Falling new
  pub same : rep_of new ≡ rep_of old
  pub as_long : length new ≡ length old

-- the parent's parent in the parent's place
pub halved : (ps : List ℕ) (x a b : ℕ) → Falling ps → x < length ps → a ≡ get_or ps x a → b ≡ get_or ps a b → Finding ps (set ps x b)
halved ps x a b fall h ea eb =
    let la : a ≡ get_or ps x x = ea ∙ get_or_any ps x a x h in
    let pa : a ≤ x = let p = fall x in omega (arith, p, la) in
    let lb : b ≡ get_or ps a a = eb ∙ get_or_any ps a b a (omega (arith, pa, h)) in
    let pb : b ≤ a = let p = fall a in omega (arith, p, lb) in
    let t = rep_top ps fall in
    let down : Falling (set ps x b) = parent_elim ps x b h (λ z y. y ≤ z) (omega (arith, pa, pb)) (λ z _. fall z) in
    record {
      falling = down;
      same = rep_is (set ps x b) (rep_of ps) down (record {
        up = parent_elim ps x b h (λ z y. rep_of ps y ≡ rep_of ps z) (ap (rep_of ps) lb ∙ t.up a ∙ ap (rep_of ps) la ∙ t.up x) (λ z _. t.up z);
        own = parent_elim ps x b h (λ z y. y ≡ z → rep_of ps z ≡ z) (λ e. t.own x (let e1 : b ≡ x = e in omega (arith, e1, pa, pb, la))) (λ z _ e. t.own z e);
      });
      as_long = length-set ps x b;
    }

-- the class of q becomes one with that of r
pub joined : (ps : List ℕ) (r q : ℕ) → Falling ps → q < length ps → r ≤ q → rep_of ps r ≡ r → rep_of ps q ≡ q → Falling (set ps q r) × (rep_of (set ps q r) ≡ (λ z. upd q r (λ x. x) (rep_of ps z))) × (length (set ps q r) ≡ length ps)
joined ps r q fall h le er eq =
    let t = rep_top ps fall in
    let f : ℕ → ℕ = λ z. upd q r (λ x. x) (rep_of ps z) in
    let down : Falling (set ps q r) = parent_elim ps q r h (λ z y. y ≤ z) le (λ z _. fall z) in
    let at_q : upd q r (λ x. x) (rep_of ps q) ≡ r = upd_at q r (λ x. x) (rep_of ps q) eq in
    let at_r : upd q r (λ x. x) (rep_of ps r) ≡ r = ap (upd q r (λ x. x)) er ∙ ⊎_elim (λ e. upd_at q r (λ x. x) r e) (λ n. upd_other q r (λ x. x) r n) (decide r q) in (
      down,
      rep_is (set ps q r) (λ z. upd q r (λ x. x) (rep_of ps z)) down (record {
        up = parent_elim ps q r h (λ z y. upd q r (λ x. x) (rep_of ps y) ≡ upd q r (λ x. x) (rep_of ps z)) (at_r ∙ sym at_q) (λ z _. ap (upd q r (λ x. x)) (t.up z));
        own = parent_elim ps q r h (λ z y. y ≡ z → upd q r (λ x. x) (rep_of ps z) ≡ z) (λ e. at_q ∙ e) (λ z n e. ap (upd q r (λ x. x)) (t.own z e) ∙ upd_other q r (λ x. x) z n);
      }),
      length-set ps q r,
    )

-- the parent that was read
pub parent_low : (ps : List ℕ) (x a : ℕ) → Falling ps → x < length ps → a ≡ get_or ps x a → (a ≤ x) × (a ≡ get_or ps x x)
parent_low ps x a fall h e = let la : a ≡ get_or ps x x = e ∙ get_or_any ps x a x h in let p = fall x in (omega (arith, p, la), la)

-- one turn of the search for the least number
pub turned : (old ps : List ℕ) (node x a b : ℕ) → Finding old ps → rep_of old x ≡ rep_of old node → x < length ps → a ≡ get_or ps x a → b ≡ get_or ps a b → (b < length (set ps x b)) × Finding old (set ps x b) × (rep_of old b ≡ rep_of old node)
turned old ps node x a b f e h ea eb =
    let pa = parent_low ps x a f.falling h ea in
    let ha : a < length ps = let p = pa.0 in omega (arith, p, h) in
    let pb = parent_low ps a b f.falling ha eb in
    let n = halved ps x a b f.falling h ea eb in
    let t = rep_top ps f.falling in
    let up : rep_of ps b ≡ rep_of ps x = ap (rep_of ps) pb.1 ∙ t.up a ∙ ap (rep_of ps) pa.1 ∙ t.up x in (
      let p = pa.0 in let q = pb.0 in omega (arith, p, q, h, n.as_long),
      record { falling = n.falling; same = n.same ∙ f.same; as_long = n.as_long ∙ f.as_long },
      ap (λ r. r b) (sym f.same) ∙ up ∙ ap (λ r. r x) f.same ∙ e,
    )

pub end_found : (old ps : List ℕ) (node x : ℕ) → Finding old ps → rep_of old x ≡ rep_of old node → x < length ps → x ≡ get_or ps x x → x ≡ rep_of old node
end_found old ps node x f e h p = sym ((rep_top ps f.falling).own x (sym p)) ∙ ap (λ r. r x) f.same ∙ e

pub turn_smaller : (ps : List ℕ) (x i a b : ℕ) → Falling ps → x < length ps → i ≡ get_or ps x i → (i ≡ x → ⊥) → a ≡ get_or ps x a → b ≡ get_or ps a b → b < x
turn_smaller ps x i a b fall h ei n ea eb =
    let pi = parent_low ps x i fall h ei in
    let pa = parent_low ps x a fall h ea in
    let same : a ≡ i = pa.1 ∙ sym pi.1 in
    let la = pa.0 in
    let ne : a ≡ x → ⊥ = λ e. n (sym same ∙ e) in
    let pb = parent_low ps a b fall (omega (arith, la, h)) eb in
    let lb = pb.0 in omega (arith, la, lb, ne)

-- ---- each node's parent becomes the least of its class

pub flatten_start : (ps : List ℕ) → Falling ps → Finding ps ps
flatten_start ps f = record { falling = f; same = refl; as_long = refl }

pub flatten_more : (old ps : List ℕ) (i a b : ℕ) → Finding old ps → ((z : ℕ) → z < i → get_or ps z z ≡ rep_of old z) → i < length ps → a ≡ get_or ps i a → b ≡ get_or ps a b → Finding old (set ps i b) × ((z : ℕ) → z < i + 1 → get_or (set ps i b) z z ≡ rep_of old z)
flatten_more old ps i a b f inv h ea eb =
    let pa = parent_low ps i a f.falling h ea in
    let la = pa.0 in
    let ha : a < length ps = omega (arith, la, h) in
    let pb = parent_low ps a b f.falling ha eb in
    let n = halved ps i a b f.falling h ea eb in
    let t = rep_top ps f.falling in
    let old_rep : (z : ℕ) → rep_of ps z ≡ rep_of old z = λ z. ap (λ r. r z) f.same in
    let at_i : b ≡ rep_of old i = ⊎_elim
    (λ e. let ba : b ≡ a = pb.1 ∙ ap (λ x. get_or ps x x) e ∙ sym pa.1 in
    let own : get_or ps i i ≡ i = sym pa.1 ∙ e in
    ba ∙ e ∙ sym (t.own i own) ∙ old_rep i)
    (λ k. pb.1 ∙ inv a (omega (arith, la, k)) ∙ sym (old_rep a) ∙ ap (rep_of ps) pa.1 ∙ t.up i ∙ old_rep i)
    (decide a i) in (
      record { falling = n.falling; same = n.same ∙ f.same; as_long = n.as_long ∙ f.as_long },
      parent_elim ps i b h (λ z y. z < i + 1 → y ≡ rep_of old z) (λ _. at_i) (λ z k l. inv z (omega (arith, l, k))),
    )

past_end : (ps : List ℕ) (z : ℕ) → length ps ≤ z → (d : ℕ) → get_or ps z d ≡ d
past_end [] z h d = refl
past_end (p ∷ ps) zero h d = absurd (omega arith)
past_end (p ∷ ps) (suc z) h d = past_end ps z (omega arith) d

pub flatten_end : (old ps : List ℕ) (n : ℕ) → Finding old ps → ((z : ℕ) → z < n → get_or ps z z ≡ rep_of old z) → length ps ≤ n → (z : ℕ) → get_or ps z z ≡ rep_of ps z
flatten_end old ps n f inv h z = ⊎_elim
    (λ k. inv z (omega (arith, k, h)) ∙ sym (ap (λ r. r z) f.same))
    (λ k. let e = past_end ps z k z in e ∙ sym ((rep_top ps f.falling).own z e))
    (either z (length ps))
  where
    either : (a b : ℕ) → (a < b) ⊎ (b ≤ a)
    either a b = grind arith
