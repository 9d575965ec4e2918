-- Steps of the parser of lists, for the goals of the code: each is the parser's own equation.
use Rattle.std.proofs.Common.{◌≡◌, ℕ, suc, ◌+◌, ◌-◌, ◌<◌, max, true, false, List, [], ◌∷◌, ◌++◌, Result, Ok, Err, ap, sym, subst, ◌∙◌}
use Rattle.rx_core.specs.declared.types.Span.{Span}
use Rattle.rx_lex.specs.Tok.{Tok}
use Rattle.rx_parse_grammar.specs.declared.stop.Stop.{Stop}
use Rattle.rx_parse_grammar.specs.declared.symbol.Symbol.{Symbol}
use Rattle.rx_parse_grammar.specs.declared.symbol.Symbol.TheVariants as symbol
use Rattle.rx_parse_grammar.specs.parser.Symbols.{tail}
use Rattle.rx_parse_grammar.specs.parser.Steps.{Parser, Outcome, Got, ReadsAs, and_then, pure, sees, expect}
use Rattle.rx_parse_grammar.specs.parser.Lists.{Items, elements, elements_from, some_elements, group, group_by}
use Rattle.rx_parse_cursor.specs.Elements.{another, ended}
use Rattle.rx_parse_cursor.proofs.Turns.{one_more}

-- a fault of a part is the fault of the whole
pub carried : {A B C D : Type 0} (f : A → B) (g : C → D) (o : Outcome B) (p : Outcome D) (r : Result A Stop) (s : Result C Stop) (e : Stop) (i j : List Tok)
    → r ≡ Err e → s ≡ Err e → ReadsAs f o r i → (o ≡ Err e → p ≡ Err e) → ReadsAs g p s j
carried f g o p r s e i j a b h k = subst (λ s. ReadsAs g p s j) (sym b) (λ n. k (subst (λ r. ReadsAs f o r i) a h n))

-- what is read after another equation
pub reads_as : {A B : Type 0} (f : A → B) (o p : Outcome B) (r : Result A Stop) (i : List Tok) → o ≡ p → ReadsAs f p r i → ReadsAs f o r i
reads_as f o p r i e h = subst (λ o. ReadsAs f o r i) (sym e) h

-- a step's outcome, by that of the step with something made of it
module _ {A B : Type 0} (f : A → B) where
  pub fault_of : (r : Outcome A) (e : Stop) → and_then r (λ x. pure (f x)) ≡ Err e → r ≡ Err e
  fault_of (Ok p) e k = absurd (cc)
  fault_of (Err g) e k = let same : g ≡ e = cc in ap Err same

  pub made_of : (r : Outcome A) (b : B) (j : List Tok) → and_then r (λ x. pure (f x)) ≡ Ok (b, j) → (x : A) × (r ≡ Ok (x, j)) × (b ≡ f x)
  made_of (Ok p) b j k =
      let pair : ◌≡◌ {A = B × List Tok} (f p.0, p.1) (b, j) = cc in
      (p.0, ap (λ z. Ok (p.0, z.1)) pair, sym (ap (λ z. z.0) pair))
  made_of (Err g) b j k = absurd (cc)

-- those that were found with one more, and the most levels that one has
abbrev pub with_one : {A : Type 0} → List A → ℕ → Got A → List A × ℕ
with_one found h x = (found ++ (x.tree ∷ []), max h x.height)

module _ {A : Type 0} (c : Symbol) (e : Parser (Got A)) (n : ℕ) (found : List A) (h : ℕ) where
  elements_end : (i : List Tok) → sees c i ≡ true → elements_from c e (suc n) found h i ≡ ended c found h i
  unfolding elements_from
  elements_end i s = rw s

  elements_fault : (i : List Tok) (f : Stop) → sees c i ≡ false → another e found h i ≡ Err f → elements_from c e (suc n) found h i ≡ Err f
  unfolding elements_from
  elements_fault i f s r = let q : e i ≡ Err f = fault_of (with_one found h) (e i) f r in rw (s, q)

  last_of : (x : Got A) (i j : List Tok) → sees c i ≡ false → e i ≡ Ok (x, j) → sees symbol.Comma j ≡ false
      → elements_from c e (suc n) found h i ≡ ended c (found ++ (x.tree ∷ [])) (max h x.height) j
  unfolding elements_from
  last_of x i j s r t = rw (s, r, t)

  more_of : (x : Got A) (i j : List Tok) → sees c i ≡ false → e i ≡ Ok (x, j) → sees symbol.Comma j ≡ true
      → elements_from c e (suc n) found h i ≡ elements_from c e n (found ++ (x.tree ∷ [])) (max h x.height) (tail j)
  unfolding elements_from expect
  more_of x i j s r t = rw (s, r, t)

  elements_last : (all : List A) (m : ℕ) (i j : List Tok) → sees c i ≡ false → another e found h i ≡ Ok ((all, m), j) → sees symbol.Comma j ≡ false
      → elements_from c e (suc n) found h i ≡ ended c all m j
  elements_last all m i j s r t =
      let q = made_of (with_one found h) (e i) (all, m) j r in
      last_of q.0 i j s q.1 t ∙ ap (λ z. ended c z.0 z.1 j) (sym q.2)

  elements_more : (all : List A) (m : ℕ) (i j : List Tok) → sees c i ≡ false → another e found h i ≡ Ok ((all, m), j) → sees symbol.Comma j ≡ true
      → elements_from c e (suc n) found h i ≡ elements_from c e n all m (tail j)
  elements_more all m i j s r t =
      let q = made_of (with_one found h) (e i) (all, m) j r in
      more_of q.0 i j s q.1 t ∙ ap (λ z. elements_from c e n z.0 z.1 (tail j)) (sym q.2)

-- the same at a turn of a loop that counts up, where the whole is the parser at the turns that are left
module _ {A : Type 0} (c : Symbol) (e : Parser (Got A)) (found : List A) (h : ℕ) (i : List Tok) {whole : Outcome (Items A)} (turns turn : ℕ) (below : turn < turns)
    (same : whole ≡ elements_from c e (turns - turn) found h i) where
  at_turn : whole ≡ elements_from c e (suc (turns - (turn + 1))) found h i
  at_turn = one_more (λ n. elements_from c e n found h i) turns turn below same

  pub turn_end : sees c i ≡ true → whole ≡ ended c found h i
  turn_end s = at_turn ∙ elements_end c e (turns - (turn + 1)) found h i s

  pub turn_fault : (f : Stop) → sees c i ≡ false → another e found h i ≡ Err f → whole ≡ Err f
  turn_fault f s r = at_turn ∙ elements_fault c e (turns - (turn + 1)) found h i f s r

  pub turn_last : (all : List A) (m : ℕ) (j : List Tok) → sees c i ≡ false → another e found h i ≡ Ok ((all, m), j) → sees symbol.Comma j ≡ false → whole ≡ ended c all m j
  turn_last all m j s r t = at_turn ∙ elements_last c e (turns - (turn + 1)) found h all m i j s r t

  pub turn_more : (all : List A) (m : ℕ) (j k : List Tok) → sees c i ≡ false → another e found h i ≡ Ok ((all, m), j) → sees symbol.Comma j ≡ true → k ≡ tail j
      → whole ≡ elements_from c e (turns - (turn + 1)) all m k
  turn_more all m j k s r t u = at_turn ∙ elements_more c e (turns - (turn + 1)) found h all m i j s r t ∙ ap (elements_from c e (turns - (turn + 1)) all m) (sym u)

-- the parser of at least one, from one element on
module _ {A : Type 0} (c : Symbol) (e : Parser (Got A)) where
  first_of_more : (x : Got A) (i j : List Tok) → e i ≡ Ok (x, j) → sees symbol.Comma j ≡ true → some_elements c e i ≡ elements c e (x.tree ∷ []) (max 0 x.height) (tail j)
  unfolding some_elements expect
  first_of_more x i j r t = rw (r, t)

  pub some_more : (all : List A) (m : ℕ) (i j : List Tok) → another e [] 0 i ≡ Ok ((all, m), j) → sees symbol.Comma j ≡ true → some_elements c e i ≡ elements c e all m (tail j)
  some_more all m i j r t =
      let q = made_of (with_one [] 0) (e i) (all, m) j r in
      first_of_more q.0 i j q.1 t ∙ ap (λ z. elements c e z.0 z.1 (tail j)) (sym q.2)

-- what stands in parentheses, from its first part on
module _ {A : Type 0} (e : Parser (Got A)) (tuple : Span → List A → A) where
  pub group_first : (o : Tok) (x : Got A) (i j k : List Tok) → expect symbol.OpenParen i ≡ Ok (o, j) → sees symbol.CloseParen j ≡ false → e j ≡ Ok (x, k)
      → group e tuple i ≡ group_by e tuple o x k
  unfolding group
  group_first o x i j k r s t = rw (r, s, t)
