-- What a text is put together from: words, each of which is a token, and the blanks between them.
use Rattle.std.specs.Prelude.{ℕ, zero, suc, Bool, true, false, List, [], ◌∷◌, ◌++◌, Option, codes}
use Rattle.std.specs.Fmt.{decimal}
use Rattle.rx_core.specs.declared.types.Kind.{Kind}
use Rattle.rx_tree.specs.declared.tree.Ident.{Ident}
use Rattle.rx_lex.specs.declared.token.Class.{Class}
use Rattle.rx_lex.specs.declared.token.Class.TheVariants.{Identifier, Keyword, Lifetime, Number, Mark}
use Rattle.rx_lex.specs.Numerals.{suffix_text}

-- a word of a class, or blanks
pub data Piece : Type 0 where
  word : Class → List ℕ → Piece
  blanks : List ℕ → Piece

abbrev pub bytes_of : Piece → List ℕ
bytes_of (word c w) = w
bytes_of (blanks b) = b

-- the text that pieces are
abbrev pub flat : List Piece → List ℕ
flat [] = []
flat (p ∷ ps) = bytes_of p ++ flat ps

-- ---- words

abbrev pub mark : List ℕ → Piece
mark w = word Mark w

abbrev pub keyword : List ℕ → Piece
keyword w = word Keyword w

abbrev pub identifier : List ℕ → Piece
identifier w = word Identifier w

abbrev pub name : Ident → Piece
name n = identifier n.name

abbrev pub lifetime : Ident → Piece
lifetime l = word Lifetime l.name

-- numbers are decimal, with their suffix
abbrev pub number : ℕ → Option Kind → Piece
number v k = word Number (decimal v ++ suffix_text k)

-- the number of a part
abbrev pub index : ℕ → Piece
index i = word Number (decimal i)

abbrev pub truth : Bool → Piece
truth true = keyword (codes "true")
truth false = keyword (codes "false")

-- ---- blanks

abbrev pub space : Piece
space = blanks (32 ∷ [])

-- the blanks before a line at a depth: four a level
abbrev pub indent : ℕ → List ℕ
indent zero = []
indent (suc depth) = 32 ∷ 32 ∷ 32 ∷ 32 ∷ indent depth

-- a line feed, and what stands before the next line's first word
abbrev pub line : ℕ → Piece
line depth = blanks (10 ∷ indent depth)

-- ---- groups

-- in parentheses, or not
abbrev pub enclosed : Bool → List Piece → List Piece
enclosed false ps = ps
enclosed true ps = mark (codes "(") ∷ (ps ++ mark (codes ")") ∷ [])

-- elements with a comma between each two
abbrev pub separated : List (List Piece) → List Piece
separated [] = []
separated (ps ∷ []) = ps
separated (ps ∷ qs ∷ more) = ps ++ (mark (codes ",") ∷ space ∷ separated (qs ∷ more))

-- a comma stands behind the only part of a tuple
abbrev pub lone_comma : List (List Piece) → List Piece
lone_comma [] = []
lone_comma (ps ∷ []) = mark (codes ",") ∷ []
lone_comma (ps ∷ qs ∷ more) = []

abbrev pub tuple_of : List (List Piece) → List Piece
tuple_of pss = mark (codes "(") ∷ (separated pss ++ (lone_comma pss ++ mark (codes ")") ∷ []))

abbrev pub arguments_of : List (List Piece) → List Piece
arguments_of pss = mark (codes "(") ∷ (separated pss ++ mark (codes ")") ∷ [])

-- the fields of a struct literal or pattern, on one line
abbrev pub fields_of : List (List Piece) → List Piece
fields_of [] = mark (codes "{") ∷ mark (codes "}") ∷ []
fields_of (ps ∷ more) = mark (codes "{") ∷ space ∷ (separated (ps ∷ more) ++ (space ∷ mark (codes "}") ∷ []))

-- a line for each entry, with a comma
abbrev pub entries : List (List Piece) → List Piece
entries [] = []
entries (ps ∷ more) = line 1 ∷ (ps ++ (mark (codes ",") ∷ entries more))

-- the fields of a struct or the variants of an enum
abbrev pub entries_of : List (List Piece) → List Piece
entries_of [] = mark (codes "{") ∷ mark (codes "}") ∷ []
entries_of (ps ∷ more) = mark (codes "{") ∷ (entries (ps ∷ more) ++ (line 0 ∷ mark (codes "}") ∷ []))

-- ---- small parts

abbrev pub mutable_pieces : Bool → List Piece
mutable_pieces false = []
mutable_pieces true = keyword (codes "mut") ∷ space ∷ []

-- `&` before what follows; where this is a reference or a borrow too, its own `&` and this one are the mark `&&`
abbrev pub with_ampersand : Bool → List Piece → List Piece → List Piece
with_ampersand false apart joined = mark (codes "&") ∷ apart
with_ampersand true apart joined = mark (codes "&&") ∷ joined
