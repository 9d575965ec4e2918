-- A list in which each number stands once, and each is below a bound, is no longer than the bound; so are choices from it. And a text has no
-- more words than bytes.
use Rattle.std.proofs.Common.{◌≡◌, ◌≢◌, ℕ, zero, suc, ◌+◌, ◌≤◌, ◌<◌, Bool, true, false, ◌||◌, if◌then◌else◌, List, [], ◌∷◌, ◌++◌, length, refl, sym, ap, ◌∙◌, subst, arith, length-append, eqb-true, eq-eqb}
use Rattle.std.specs.Prelude.{◌==◌, slice_get, Some}
use Rattle.std.proofs.lemmas.List.{length-map}
use Rattle.std.proofs.lemmas.Bool.{eqb-false}
use Rattle.rx_tree.specs.Plain as plain
use Rattle.rx_tree.specs.Plain.{PatternTree, ItemTree, ProgramTree}
use Rattle.rx_tree.specs.Lists.{Every}
use Rattle.rx_tree.specs.Positions.{NodeTree, an_item, a_type, a_block, a_statement, an_expression, a_pattern}
use Rattle.rx_tree.specs.Nodes.{nodes, total, below_item}
use Rattle.rx_tree.specs.Size.{bindings_at}
use Rattle.rx_lex.specs.declared.token.Class.{Class}
use Rattle.rx_lex.specs.Tok.{Tok}
use Rattle.rx_lex.specs.Tokens.{Lexes}
use Rattle.rx_lex.proofs.TokenLaws.{Ordered, tokens_in_order}
use Rattle.rx_exits_plan.specs.Occurrences.{has_number, drops, firsts, those}
use Rattle.rx_exits_plan.specs.Plan.{Chosen, none, taken, left}
use Rattle.rx_hoist_naming.specs.DeclaredNames.{name_bound, names_bound, parameter_names, declared_names}
use Rattle.rx_hoist_naming.specs.NamesWords.{word_of, words_of}
use Rattle.rx_hoist_naming.proofs.Good.{if_holds}
use Rattle.rx_hoist_naming.proofs.Steps.{binds}

-- ---- numbers once

abbrev pub Once : List ℕ → Type 0
Once [] = Unit {0}
Once (x ∷ l) = (has_number x l ≡ false) × Once l

eq_flip : (x y : ℕ) → (x == y) ≡ (y == x)
eq_flip x y = by (x == y) refl
  where
    other : (c : Bool) → (y == x) ≡ c → (x == y) ≡ false → (x == y) ≡ (y == x)
    other true q e = let h : (x == y) ≡ true = eq-eqb x y (sym (eqb-true y x q)) in absurd (cc)
    other false q e = e ∙ sym q

    by : (b : Bool) → (x == y) ≡ b → (x == y) ≡ (y == x)
    by true e = e ∙ sym (eq-eqb y x (sym (eqb-true x y e)))
    by false e = other (y == x) refl e

or_first : (a b : Bool) → (a || b) ≡ false → a ≡ false
or_first true b e = e
or_first false b e = refl

or_second : (a b : Bool) → (a || b) ≡ false → b ≡ false
or_second true b e = absurd (cc)
or_second false b e = e

absent_kept : (x z : ℕ) (l : List ℕ) → has_number z l ≡ false → has_number z (drops x l) ≡ false
absent_kept x z [] h = refl
absent_kept x z (y ∷ l) h =
    let rest = absent_kept x z l (or_second (z == y) (has_number z l) h) in
    if_holds (λ (m : List ℕ). has_number z m ≡ false) (y == x) (drops x l) (y ∷ drops x l) (λ _. rest) (λ _. ap (λ (b : Bool). b || has_number z (drops x l)) (or_first (z == y) (has_number z l) h) ∙ rest)

once_drops : (x : ℕ) (l : List ℕ) → Once l → Once (drops x l)
once_drops x [] h = tt
once_drops x (y ∷ l) h = let rest = once_drops x l h.1 in if_holds Once (y == x) (drops x l) (y ∷ drops x l) (λ _. rest) (λ _. (absent_kept x y l h.0, rest))

gone : (x : ℕ) (l : List ℕ) → has_number x (drops x l) ≡ false
gone x [] = refl
gone x (y ∷ l) =
    let rest = gone x l in
    if_holds (λ (m : List ℕ). has_number x m ≡ false) (y == x) (drops x l) (y ∷ drops x l) (λ _. rest) (λ e. ap (λ (b : Bool). b || has_number x (drops x l)) (eq_flip x y ∙ e) ∙ rest)

pub once_firsts : (l : List ℕ) → Once (firsts l)
once_firsts [] = tt
once_firsts (x ∷ l) = (gone x (firsts l), once_drops x (firsts l) (once_firsts l))

not_both : (b : Bool) → b ≡ true → b ≡ false → ⊥
not_both b p q = cc

absent_long : (x : ℕ) (l : List ℕ) → has_number x l ≡ false → length l ≤ length (drops x l)
absent_long x [] h = omega arith
absent_long x (y ∷ l) h =
    let a = absent_long x l (or_second (x == y) (has_number x l) h) in
    let long : suc (length l) ≤ length (y ∷ drops x l) = omega (arith, a) in
    if_holds (λ (m : List ℕ). suc (length l) ≤ length m) (y == x) (drops x l) (y ∷ drops x l) (λ e. absurd (not_both (x == y) (eq_flip x y ∙ e) (or_first (x == y) (has_number x l) h))) (λ e. long)

once_long : (x : ℕ) (l : List ℕ) → Once l → length l ≤ suc (length (drops x l))
once_long x [] h = omega arith
once_long x (y ∷ l) h =
    let a = once_long x l h.1 in
    let long : suc (length l) ≤ suc (length (y ∷ drops x l)) = omega (arith, a) in
    if_holds (λ (m : List ℕ). suc (length l) ≤ suc (length m)) (y == x) (drops x l) (y ∷ drops x l)
    (λ e. let b = absent_long x l (subst (λ (z : ℕ). has_number z l ≡ false) (eqb-true y x e) h.0) in omega (arith, b)) (λ e. long)

less_other : (y n : ℕ) → y < suc n → (y == n) ≡ false → y < n
less_other y n a e = let b : y ≢ n = eqb-false y n e in omega (arith, a, b)

below_less : (n : ℕ) (l : List ℕ) → Every (λ (x : ℕ). x < suc n) l → Every (λ (x : ℕ). x < n) (drops n l)
below_less n [] h = tt
below_less n (y ∷ l) h = let rest = below_less n l h.1 in if_holds (λ (m : List ℕ). Every (λ (x : ℕ). x < n) m) (y == n) (drops n l) (y ∷ drops n l) (λ _. rest) (λ e. (less_other y n h.0 e, rest))

pub once_few : (n : ℕ) (l : List ℕ) → Once l → Every (λ (x : ℕ). x < n) l → length l ≤ n
once_few zero [] o h = omega arith
once_few zero (x ∷ l) o h = let a = h.0 in absurd (omega (arith, a))
once_few (suc n) l o h = let a = once_long n l o in let b = once_few n (drops n l) (once_drops n l o) (below_less n l h) in omega (arith, a, b)

-- ---- choices

pub those_every : (P : ℕ → Type 0) (f : ℕ → Bool) (l : List ℕ) → Every P l → Every P (those f l)
those_every P f [] h = tt
those_every P f (x ∷ l) h = let rest = those_every P f l h.1 in if_holds (λ (m : List ℕ). Every P m) (f x) (x ∷ those f l) (those f l) (λ _. (h.0, rest)) (λ _. rest)

pub those_few : (f : ℕ → Bool) (l : List ℕ) → length (those f l) ≤ length l
those_few f [] = omega arith
those_few f (x ∷ l) =
    let a = those_few f l in
    if_holds (λ (m : List ℕ). length m ≤ suc (length l)) (f x) (x ∷ those f l) (those f l) (λ _. omega (arith, a)) (λ _. omega (arith, a))

pub chosen_every : (P : ℕ → Type 0) {Q : ℕ → Type 0} {l m : List ℕ} → Chosen Q l m → Every P l → Every P m
chosen_every P none h = h
chosen_every P (taken q c) h = (h.0, chosen_every P c h.1)
chosen_every P (left q c) h = chosen_every P c h.1

pub chosen_few : {Q : ℕ → Type 0} {l m : List ℕ} → Chosen Q l m → length m ≤ length l
chosen_few none = omega arith
chosen_few (taken q c) = let a = chosen_few c in omega (arith, a)
chosen_few (left q c) = let a = chosen_few c in omega (arith, a)

-- ---- the words of a text

ordered_short : (from to : ℕ) (ts : List Tok) → Ordered from to ts → from + length ts ≤ to
ordered_short from to [] o = omega (arith, o)
ordered_short from to (t ∷ ts) o = let z = ordered_short t.span.end to ts o.2 in omega (arith, z, o.0, o.1)

pub tokens_few : (bytes : List ℕ) (ts : List Tok) → Lexes bytes ts → length ts ≤ length bytes
tokens_few bytes ts l = let z = ordered_short 0 (0 + length bytes) ts (tokens_in_order 0 bytes ts l.tokens) in omega (arith, z)

pub words_few : (P : Class → Bool) (ts : List Tok) → length (words_of P ts) ≤ length ts
words_few P [] = omega arith
words_few P (t ∷ ts) =
    let a = words_few P ts in let b = one_word t (P t.class) in
    let c = length-append (word_of P t) (words_of P ts) in
    omega (arith, a, b, c)
  where
    one_word : (t : Tok) (b : Bool) → length (if b then t.text ∷ [] else []) ≤ 1
    one_word t true = omega arith
    one_word t false = omega arith

-- ---- the names of a program

pattern_few : (p : PatternTree) → length (name_bound (a_pattern p)) ≤ bindings_at (a_pattern p)
pattern_few (plain.wild s) = omega arith
pattern_few (plain.bind s n m) = omega arith
pattern_few (plain.int_pattern s g v k) = omega arith
pattern_few (plain.bool_pattern s b) = omega arith
pattern_few (plain.tuple_pattern s ps) = omega arith
pattern_few (plain.variant_pattern s a v ps) = omega arith
pattern_few (plain.make_pattern s n fs) = omega arith

node_few : (n : NodeTree) → length (name_bound n) ≤ bindings_at n
node_few (an_item i) = omega arith
node_few (a_type t) = omega arith
node_few (a_block b) = omega arith
node_few (a_statement a) = omega arith
node_few (an_expression e) = omega arith
node_few (a_pattern p) = pattern_few p

nodes_few : (ns : List NodeTree) → binds ns ≤ total bindings_at ns
nodes_few [] = omega arith
nodes_few (n ∷ ns) = let a = node_few n in let b = nodes_few ns in let c = length-append (name_bound n) (names_bound ns) in omega (arith, a, b, c)

total_append : (f : NodeTree → ℕ) (a b : List NodeTree) → total f (a ++ b) ≡ total f a + total f b
total_append f [] b = omega arith
total_append f (n ∷ a) b = let more = total_append f a b in omega (arith, more)

parameters_few : (i : ItemTree) → length (parameter_names (Some i)) ≤ bindings_at (an_item i)
parameters_few (plain.rt_item s r) = omega arith
parameters_few (plain.struct_item s x) = omega arith
parameters_few (plain.enum_item s x) = omega arith
parameters_few (plain.function_item s f) = let a = length-map f.params (λ (x : plain.Parameter). x.name.name) in omega (arith, a)

pub names_few : (P : ProgramTree) (n : ℕ) → length (declared_names (slice_get P n)) ≤ total bindings_at (nodes P)
names_few [] n = omega arith
names_few (i ∷ P) zero =
    let a = length-append (parameter_names (Some i)) (names_bound (an_item i ∷ below_item i)) in
    let b = parameters_few i in let c = nodes_few (below_item i) in
    let d = total_append bindings_at (below_item i) (nodes P) in
    omega (arith, a, b, c, d)
names_few (i ∷ P) (suc n) = let a = names_few P n in let d = total_append bindings_at (below_item i) (nodes P) in omega (arith, a, d)
