-- Where items of a program stand in one with new items behind a function, and what is declared of each. By induction on the items.
use Rattle.std.proofs.Common.{◌≡◌, ℕ, zero, suc, ◌+◌, ◌<◌, Bool, List, [], ◌∷◌, ◌++◌, length, Option, Some, None, option_map, Ok, slice_get, inl, inr, ◌⊎◌, if◌then◌else◌, refl, sym, ap, ◌∙◌, subst, arith}
use Rattle.std.proofs.lemmas.Bool.{le-leb, lt-leb}
use Rattle.rx_tree.specs.Plain.{ItemTree, ProgramTree}
use Rattle.rx_resolve_names.specs.declared.resolved.ItemNames.{ItemNames}
use Rattle.rx_resolve_names.specs.Items.{in_items, in_program, apart}
use Rattle.rx_typed.specs.Types.{Declared}
use Rattle.rx_typed.specs.PlainTypes.{plain-Decl, declarations}
use Rattle.rx_typed.specs.declared.declarations.Decl.{Decl}
use Rattle.rx_typed.proofs.Items.{declared_at}
use Rattle.rx_typeck_typed.specs.Steps.{on_ok}
use Rattle.rx_typeck_typed.specs.Items.{declared_item, declared_items, entries_of}
use Rattle.rx_hoist_naming.proofs.Programs.{table_at}
use Rattle.rx_engine_names.specs.Insertion.{past}
use Rattle.rx_engine_names.proofs.SideBySide.{named_ok}
use Rattle.rx_engine_declared.specs.Declaring.{DeclaresAs}
use Rattle.rx_engine_declared.proofs.Reading.{read_ok, read_same}
use Rattle.rx_engine_declared.proofs.Items.{item_declares}

-- ---- places in lists

pub get_front : {A : Type 0} (bs r : List A) (j : ℕ) → j < length bs → slice_get (bs ++ r) j ≡ slice_get bs j
get_front [] r j l = absurd (omega (arith, l))
get_front (b ∷ bs) r zero l = refl
get_front (b ∷ bs) r (suc j) l = get_front bs r j (omega (arith, l))

pub get_behind : {A : Type 0} (bs r : List A) (m : ℕ) → slice_get (bs ++ r) (m + length bs) ≡ slice_get r m
get_behind [] r m = let z : m + 0 ≡ m = omega arith in ap (λ k. slice_get r k) z
get_behind (b ∷ bs) r m = let z : m + suc (length bs) ≡ suc (m + length bs) = omega arith in ap (λ k. slice_get (b ∷ (bs ++ r)) k) z ∙ get_behind bs r m

pub item_between : {A : Type 0} (bs : List A) (x : A) (r : List A) → slice_get (bs ++ (x ∷ r)) (length bs) ≡ Some x
item_between [] x r = refl
item_between (b ∷ bs) x r = item_between bs x r

-- in front of an item, the item, or behind it
pub data Place (k : ℕ) : ℕ → Type 0 where
  in_front : {j : ℕ} → j < k → Place k j
  there : Place k k
  further : (d : ℕ) → Place k (suc d + k)

pub place : (k j : ℕ) → Place k j
place zero zero = there
place zero (suc j) = let z : suc j + 0 ≡ suc j = omega arith in subst (λ n. Place 0 n) z (further j)
place (suc k) zero = in_front (omega arith)
place (suc k) (suc j) = by (place k j)
  where
    by : {j : ℕ} → Place k j → Place (suc k) (suc j)
    by (in_front l) = in_front (omega (arith, l))
    by there = there
    by (further d) = let z : suc d + suc k ≡ suc (suc d + k) = omega arith in subst (λ n. Place (suc k) n) z (further d)

-- what stands there in the second, where items are new behind one that becomes another
pub item_stays : {A : Type 0} (bs ns hs : List A) (x y : A) (j : ℕ)
    → (slice_get (bs ++ (y ∷ (ns ++ hs))) (past (length bs) (length ns) j) ≡ slice_get (bs ++ (x ∷ hs)) j)
    ⊎ ((slice_get (bs ++ (x ∷ hs)) j ≡ Some x) × (slice_get (bs ++ (y ∷ (ns ++ hs))) (past (length bs) (length ns) j) ≡ Some y))
item_stays bs ns hs x y j = by (place (length bs) j)
  where
    by : {j : ℕ} → Place (length bs) j
        → (slice_get (bs ++ (y ∷ (ns ++ hs))) (past (length bs) (length ns) j) ≡ slice_get (bs ++ (x ∷ hs)) j)
        ⊎ ((slice_get (bs ++ (x ∷ hs)) j ≡ Some x) × (slice_get (bs ++ (y ∷ (ns ++ hs))) (past (length bs) (length ns) j) ≡ Some y))
    by {j} (in_front l) =
        inl (ap (λ k. slice_get (bs ++ (y ∷ (ns ++ hs))) k) (ap (λ (b : Bool). if b then j else j + length ns) (le-leb j (length bs) (omega (arith, l))))
        ∙ get_front bs (y ∷ (ns ++ hs)) j l ∙ sym (get_front bs (x ∷ hs) j l))
    by there = inr (
      item_between bs x hs,
      ap (λ k. slice_get (bs ++ (y ∷ (ns ++ hs))) k) (ap (λ (b : Bool). if b then length bs else length bs + length ns) (le-leb (length bs) (length bs) (omega arith)))
          ∙ item_between bs y (ns ++ hs),
    )
    by (further d) =
        let moved : suc d + length bs + length ns ≡ suc (d + length ns) + length bs = omega arith in
        inl (ap (λ k. slice_get (bs ++ (y ∷ (ns ++ hs))) k) (ap (λ (b : Bool). if b then suc d + length bs else suc d + length bs + length ns) (lt-leb (suc d + length bs) (length bs) (omega arith)) ∙ moved)
        ∙ get_behind bs (y ∷ (ns ++ hs)) (suc (d + length ns)) ∙ get_behind ns hs d ∙ sym (get_behind bs (x ∷ hs) (suc d)))

-- ---- what is declared of an item

abbrev pub DeclaredThere : ProgramTree → List ItemNames → ℕ → Option ItemTree → Option Decl → Type 0
DeclaredThere p ns n None o = o ≡ None
DeclaredThere p ns n (Some i) o = (d : Decl) × (o ≡ Some d) × (declared_item p (entries_of (slice_get ns n)) i ≡ Ok d)

pub declared_there : (p : ProgramTree) (ns : List ItemNames) (n : ℕ) (is : ProgramTree) (ds : List Decl) → declared_items p ns n is ≡ Ok ds → (j : ℕ) → DeclaredThere p ns (n + j) (slice_get is j) (slice_get ds j)
declared_there p ns n [] ds e j = ap (λ (l : List Decl). slice_get l j) (sym (read_same [] ds e))
declared_there p ns n (i ∷ is) ds e zero =
    let a = read_ok (declared_item p (entries_of (slice_get ns n)) i) (λ d. on_ok (declared_items p ns (suc n) is) (λ ds. Ok (d ∷ ds))) ds e in
    let b = read_ok (declared_items p ns (suc n) is) (λ ds. Ok (a.0 ∷ ds)) ds a.2 in
    let here : n + 0 ≡ n = omega arith in
    (a.0, ap (λ (l : List Decl). slice_get l 0) (sym (read_same (a.0 ∷ b.0) ds b.2)), ap (λ (k : ℕ). declared_item p (entries_of (slice_get ns k)) i) here ∙ a.1)
declared_there p ns n (i ∷ is) ds e (suc j) =
    let a = read_ok (declared_item p (entries_of (slice_get ns n)) i) (λ d. on_ok (declared_items p ns (suc n) is) (λ ds. Ok (d ∷ ds))) ds e in
    let b = read_ok (declared_items p ns (suc n) is) (λ ds. Ok (a.0 ∷ ds)) ds a.2 in
    let on : suc n + j ≡ n + suc j = omega arith in
    subst (λ (k : ℕ). DeclaredThere p ns k (slice_get is j) (slice_get ds (suc j))) on
    (subst (λ (l : List Decl). DeclaredThere p ns (suc n + j) (slice_get is j) (slice_get l (suc j))) (read_same (a.0 ∷ b.0) ds b.2) (declared_there p ns (suc n) is b.0 b.1 j))

-- what is declared is what the item's text declares
abbrev pub Tells : ProgramTree → Option ItemTree → Option Declared → Type 0
Tells p None o = o ≡ None
Tells p (Some i) o = (D : Declared) × (o ≡ Some D) × DeclaresAs p i D

pub tells : (p : ProgramTree) (ns : List ItemNames) (ds : List Decl) → in_program p ≡ Ok ns → declared_items p ns 0 p ≡ Ok ds → (j : ℕ) → Tells p (slice_get p j) (slice_get (declarations ds) j)
tells p ns ds e h j = by (slice_get p j) refl (let z : 0 + j ≡ j = omega arith in subst (λ (k : ℕ). DeclaredThere p ns k (slice_get p j) (slice_get ds j)) z (declared_there p ns 0 p ds h j))
  where
    by : (o : Option ItemTree) → slice_get p j ≡ o → DeclaredThere p ns j o (slice_get ds j) → Tells p o (slice_get (declarations ds) j)
    by None at d = declared_at ds j ∙ ap (λ (o : Option Decl). option_map plain-Decl o) d
    by (Some i) at d =
        let t = table_at p 0 p ns j i (named_ok (apart (record { types = []; functions = [] }) 0 p) (λ _. in_items p 0 p) ns e).2 at in (
          plain-Decl d.0,
          declared_at ds j ∙ ap (λ (o : Option Decl). option_map plain-Decl o) d.1,
          item_declares p (0 + j) i t.table d.0 t.named (ap (λ (o : Option ItemNames). declared_item p (entries_of o) i) (sym t.stands) ∙ d.2),
        )
