-- Items and files (Rust Reference, "Items", "Structs", "Enumerations", "Functions", "Generic parameters", "Derive").
-- The types of items begin at level 1, and so does a function's body.
use Rattle.std.specs.Prelude.{◌≡◌, ℕ, ◌≤◌, max, Bool, List, [], ◌∷◌, ◌++◌, Option, Some, None, codes}
use Rattle.rx_tree.specs.declared.tree.Ident.{Ident}
use Rattle.rx_tree.specs.declared.tree.Derive.{Derive}
use Rattle.rx_tree.specs.declared.tree.Derive.TheVariants.{Clone, Copy}
use Rattle.rx_tree.specs.declared.tree.BoundLifetime.{BoundLifetime}
use Rattle.rx_tree.specs.Plain as plain
use Rattle.rx_tree.specs.Plain.{TypeTree, Body, Parameter, FieldOf, VariantOf, ItemTree, ProgramTree}
use Rattle.rx_tree.specs.PlainOf.{types_of}
use Rattle.rx_lex.specs.Tok.{Tok}
use Rattle.rx_lex.specs.Tokens.{Lexes}
use Rattle.rx_parse_grammar.specs.grammar.Words.{IsMark, IsKeyword, IsName, IsNamed, IsLifetime, IsMutability, IsListOf, span_of, ident}
use Rattle.rx_parse_grammar.specs.grammar.Types.{IsType, AreTypes}
use Rattle.rx_parse_grammar.specs.grammar.Expressions.{IsBlock}

pub data IsDerivedName : List Tok → Derive → ℕ → Type 0 where
  clone : (t : Tok) → IsNamed (codes "Clone") t → IsDerivedName (t ∷ []) Clone 0
  copy : (t : Tok) → IsNamed (codes "Copy") t → IsDerivedName (t ∷ []) Copy 0

-- what stands before a struct or an enum
pub data AreDerives : List Tok → List Derive → Type 0 where
  no_derive : AreDerives [] []
  derive : {ts : List Tok} (m b n o c e : Tok) (us : List Tok) (x : Derive) (xs : List Derive) → IsMark (codes "#") m → IsMark (codes "[") b
      → IsNamed (codes "derive") n → IsMark (codes "(") o → IsMark (codes ")") c → IsMark (codes "]") e → IsListOf IsDerivedName us (x ∷ xs) 0
      → ts ≡ m ∷ b ∷ n ∷ o ∷ (us ++ (c ∷ e ∷ [])) → AreDerives ts (x ∷ xs)

pub data IsLifetimeParameter : List Tok → Ident → ℕ → Type 0 where
  lifetime_parameter : (t : Tok) → IsLifetime t → IsLifetimeParameter (t ∷ []) (ident t) 0

-- the lifetimes of a struct or an enum
pub data AreLifetimes : List Tok → List Ident → Type 0 where
  no_lifetime : AreLifetimes [] []
  lifetimes : {ts : List Tok} (o c : Tok) (us : List Tok) (l : Ident) (ls : List Ident) → IsMark (codes "<") o → IsMark (codes ">") c
      → IsListOf IsLifetimeParameter us (l ∷ ls) 0 → ts ≡ o ∷ (us ++ c ∷ []) → AreLifetimes ts (l ∷ ls)

-- lifetimes with `+` between them
pub data AreBounds : List Tok → List Ident → Type 0 where
  last_bound : (t : Tok) → IsLifetime t → AreBounds (t ∷ []) (ident t ∷ [])
  bound_and : (t p : Tok) (us : List Tok) (ls : List Ident) → IsLifetime t → IsMark (codes "+") p → AreBounds us ls
      → AreBounds (t ∷ p ∷ us) (ident t ∷ ls)

pub data IsBoundLifetime : List Tok → BoundLifetime → ℕ → Type 0 where
  unbounded : (t : Tok) → IsLifetime t → IsBoundLifetime (t ∷ []) (record { name = ident t; bounds = [] }) 0
  bounded : (t c : Tok) (us : List Tok) (ls : List Ident) → IsLifetime t → IsMark (codes ":") c → AreBounds us ls
      → IsBoundLifetime (t ∷ c ∷ us) (record { name = ident t; bounds = ls }) 0

-- the lifetimes of a function
pub data AreBoundLifetimes : List Tok → List BoundLifetime → Type 0 where
  no_bound_lifetime : AreBoundLifetimes [] []
  bound_lifetimes : {ts : List Tok} (o c : Tok) (us : List Tok) (l : BoundLifetime) (ls : List BoundLifetime) → IsMark (codes "<") o
      → IsMark (codes ">") c → IsListOf IsBoundLifetime us (l ∷ ls) 0 → ts ≡ o ∷ (us ++ c ∷ []) → AreBoundLifetimes ts (l ∷ ls)

pub data IsStructField : List Tok → FieldOf → ℕ → Type 0 where
  struct_field : {ts : List Tok} (n c : Tok) (us : List Tok) (y : TypeTree) (h : ℕ) → IsName n → IsMark (codes ":") c → IsType us y h
      → ts ≡ n ∷ c ∷ us → IsStructField ts (record { name = ident n; typ = y }) h

pub data IsVariant : List Tok → VariantOf → ℕ → Type 0 where
  variant : (n : Tok) → IsName n → IsVariant (n ∷ []) (record { name = ident n; types = plain.no_type }) 0
  variant_with : {ts : List Tok} (n o c : Tok) (us : List Tok) (y : TypeTree) (ys : List TypeTree) (h : ℕ) → IsName n → IsMark (codes "(") o
      → IsMark (codes ")") c → AreTypes us (y ∷ ys) h → ts ≡ n ∷ o ∷ (us ++ c ∷ [])
      → IsVariant ts (record { name = ident n; types = types_of (y ∷ ys) }) h

pub data IsParameter : List Tok → Parameter → ℕ → Type 0 where
  parameter : {ts : List Tok} (ms us : List Tok) (n c : Tok) (m : Bool) (y : TypeTree) (h : ℕ) → IsMutability ms m → IsName n
      → IsMark (codes ":") c → IsType us y h → ts ≡ ms ++ (n ∷ c ∷ us) → IsParameter ts (record { name = ident n; mutable = m; typ = y }) h

pub data IsResult : List Tok → Option TypeTree → ℕ → Type 0 where
  no_result : IsResult [] None 0
  result : {ts : List Tok} (a : Tok) (us : List Tok) (y : TypeTree) (h : ℕ) → IsMark (codes "->") a → IsType us y h → ts ≡ a ∷ us
      → IsResult ts (Some y) h

pub data IsItem : List Tok → ItemTree → ℕ → Type 0 where
  rt : {ts : List Tok} (m r z : Tok) → IsKeyword (codes "mod") m → IsNamed (codes "rt") r → IsMark (codes ";") z → ts ≡ m ∷ r ∷ z ∷ []
      → IsItem ts (plain.rt_item (span_of ts) r.span) 0
  structure : {ts : List Tok} (t n o c : Tok) (ds ls us : List Tok) (xs : List Derive) (l : List Ident) (fs : List FieldOf) (h : ℕ)
      → IsKeyword (codes "struct") t → IsName n → IsMark (codes "{") o → IsMark (codes "}") c → AreDerives ds xs → AreLifetimes ls l
      → IsListOf IsStructField us fs h → ts ≡ ds ++ (t ∷ n ∷ (ls ++ (o ∷ (us ++ c ∷ []))))
      → IsItem ts (plain.struct_item (span_of ts) (record { name = ident n; derives = xs; lifetimes = l; fields = fs })) h
  enumeration : {ts : List Tok} (t n o c : Tok) (ds ls us : List Tok) (xs : List Derive) (l : List Ident) (v : VariantOf) (vs : List VariantOf) (h : ℕ)
      → IsKeyword (codes "enum") t → IsName n → IsMark (codes "{") o → IsMark (codes "}") c → AreDerives ds xs → AreLifetimes ls l
      → IsListOf IsVariant us (v ∷ vs) h → ts ≡ ds ++ (t ∷ n ∷ (ls ++ (o ∷ (us ++ c ∷ []))))
      → IsItem ts (plain.enum_item (span_of ts) (record { name = ident n; derives = xs; lifetimes = l; variants = v ∷ vs })) h
  function : {ts : List Tok} (f n o c : Tok) (ls us rs bs : List Tok) (l : List BoundLifetime) (ps : List Parameter) (r : Option TypeTree) (b : Body)
      (h i k : ℕ) → IsKeyword (codes "fn") f → IsName n → IsMark (codes "(") o → IsMark (codes ")") c → AreBoundLifetimes ls l
      → IsListOf IsParameter us ps h → IsResult rs r i → IsBlock bs b k → ts ≡ f ∷ n ∷ (ls ++ (o ∷ (us ++ (c ∷ (rs ++ bs)))))
      → IsItem ts (plain.function_item (span_of ts) (record { name = ident n; lifetimes = l; params = ps; result = r; body = b })) (max h (max i k))

pub data IsFile : List Tok → ProgramTree → ℕ → Type 0 where
  no_item : IsFile [] [] 0
  item_and : {ts : List Tok} (us vs : List Tok) (a : ItemTree) (is : ProgramTree) (m n : ℕ) → IsItem us a m → IsFile vs is n → ts ≡ us ++ vs
      → IsFile ts (a ∷ is) (max m n)

-- the levels that a text may have
abbrev pub levels : ℕ
levels = 128

-- the bytes are a text with this tree
pub record Parses (bytes : List ℕ) (p : ProgramTree) : Type 0 where
  pub tokens : List Tok
  pub lexed : Lexes bytes tokens
  pub height : ℕ
  pub derived : IsFile tokens p height
  pub low : height ≤ levels
