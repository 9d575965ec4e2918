-- The graph of a function: sites, each an action with what may follow it, and the paths through them.
use Rattle.std.specs.Prelude.{◌≡◌, ℕ, zero, suc, List, [], ◌∷◌, Option, Some, None}
use Rattle.rx_lower_walks.specs.Actions.{Action}
use Rattle.rx_lower_walks.specs.Walks.{Among}

-- the sites that may follow it, by their numbers: of a test, the way of its success comes first
pub record Site : Type 0 where
  pub action : Action
  pub next : List ℕ

abbrev pub site_at : List Site → ℕ → Option Site
site_at [] p = None
site_at (s ∷ g) zero = Some s
site_at (s ∷ g) (suc p) = site_at g p

-- the actions of a path that begins at one of these sites
pub data Path (g : List Site) : List ℕ → List Action → Type 0 where
  stop : {ps : List ℕ} → Path g ps []
  go : {ps : List ℕ} {us : List Action} (p : ℕ) (s : Site) → Among p ps → site_at g p ≡ Some s → Path g s.next us → Path g ps (s.action ∷ us)

-- a path that begins at one of these sites comes to this one
pub data Comes (g : List Site) : List ℕ → ℕ → Type 0 where
  at_hand : {ps : List ℕ} {i : ℕ} → Among i ps → Comes g ps i
  along : {ps : List ℕ} {i : ℕ} (p : ℕ) (s : Site) → Among p ps → site_at g p ≡ Some s → Comes g s.next i → Comes g ps i

-- a site of it has this action
pub data HasSite (g : List Site) (a : Action) : Type 0 where
  has_site : (i : ℕ) (s : Site) → site_at g i ≡ Some s → s.action ≡ a → HasSite g a

-- a site of it has the first action, and may be followed by one that has the second
pub data Joins (g : List Site) (a b : Action) : Type 0 where
  joins : (i j : ℕ) (s t : Site) → site_at g i ≡ Some s → s.action ≡ a → Among j s.next
      → site_at g j ≡ Some t → t.action ≡ b → Joins g a b

-- nothing stands twice
abbrev pub EachOnce : {A : Type 0} → List A → Type 0
EachOnce [] = Unit {0}
EachOnce (p ∷ ps) = (Among p ps → ⊥) × EachOnce ps
