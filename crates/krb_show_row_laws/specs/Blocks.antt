-- What the lines of fields tell of them, whatever lines follow.
use Rattle.std.specs.Prelude.{◌≡◌, ℕ, ◌<◌, ◌⊎◌, Bool, true, false, nat_eq, ◌&&◌, List, [], ◌∷◌, ◌++◌}
use Rattle.krb_show_text.specs.Text.{depth_after, indent, line, page_lines, value_text}
use Rattle.krb_show.specs.Tokens.{Label, Token}
use Rattle.krb_show_row_laws.specs.Telling.{Stops, is_name_octet, is_name, other_than}

-- how far in what follows a page is
abbrev pub depth_behind : ℕ → List Token → ℕ
depth_behind depth [] = depth
depth_behind depth (t ∷ ts) = depth_behind (depth_after depth t.form) ts

-- ---- names among names

abbrev pub Among : List ℕ → List (List ℕ) → Type 0
Among name [] = ⊥
Among name (n ∷ names) = (name ≡ n) ⊎ Among name names

abbrev pub same_octets : List ℕ → List ℕ → Bool
same_octets [] [] = true
same_octets [] (y ∷ ys) = false
same_octets (x ∷ xs) [] = false
same_octets (x ∷ xs) (y ∷ ys) = nat_eq x y && same_octets xs ys

-- this name is none of these
abbrev pub is_apart : List ℕ → List (List ℕ) → Bool
is_apart name [] = true
is_apart name (n ∷ names) = other_than (same_octets name n) && is_apart name names

-- ---- where lines begin

-- the line is so far in, under this name
pub record IsAt (depth : ℕ) (name : List ℕ) (l : List ℕ) : Type 0 where
  pub rest : List ℕ
  pub is_name : is_name name ≡ true
  pub whole : l ≡ indent depth ++ (name ++ rest)
  pub ends : Stops is_name_octet rest

-- the line is less far in, or as far under one of these names
pub record Precedes (names : List (List ℕ)) (depth : ℕ) (l : List ℕ) : Type 0 where
  pub at : ℕ
  pub name : List ℕ
  pub is : IsAt at name l
  pub place : (at < depth) ⊎ ((at ≡ depth) × Among name names)

-- lines that follow a value of this depth: the first is less far in, or as far under one of these names
abbrev pub Follow : List (List ℕ) → ℕ → List (List ℕ) → Type 0
Follow names depth [] = Unit {0}
Follow names depth (l ∷ ls) = Precedes names depth l

-- ---- what is appended to a page

-- tokens that leave the depth as it was, and whose lines begin as these names say, by what names may follow
pub record IsBlock (begins : List (List ℕ) → List (List ℕ)) (ts : List Token) : Type 0 where
  pub level : (depth : ℕ) → depth_behind depth ts ≡ depth
  pub starts : (names : List (List ℕ)) (depth : ℕ) (rest : List (List ℕ)) → Follow names depth rest → Follow (begins names) depth (page_lines depth ts ++ rest)

abbrev pub Adds : (List (List ℕ) → List (List ℕ)) → List Token → List Token → Type 0
Adds begins old new = (ts : List Token) × (new ≡ old ++ ts) × IsBlock begins ts

pub record Blocks (begins : List (List ℕ) → List (List ℕ)) (shows : List Token → List Token → Type 0) : Type 0 where
  pub block : (old new : List Token) → shows old new → Adds begins old new

-- the first line is under this name, and what stands behind the name is so
pub record HasHead (name : List ℕ) (IsValue : List ℕ → Type 0) (old new : List Token) : Type 0 where
  pub token : Token
  pub rest : List Token
  pub added : new ≡ old ++ token ∷ rest
  pub named : token.label.text ≡ name
  pub ends : Stops is_name_octet (value_text token.form token)
  pub value : IsValue (value_text token.form token)
  pub lines : (depth : ℕ) → (ls : List (List ℕ)) × (page_lines depth (token ∷ rest) ≡ line depth token ∷ ls)
  pub level : (depth : ℕ) → depth_behind depth (token ∷ rest) ≡ depth

pub record Heads (name : List ℕ) (IsValue : List ℕ → Type 0) (shows : List Token → List Token → Type 0) : Type 0 where
  pub head : (old new : List Token) → shows old new → HasHead name IsValue old new

-- One line where that is known tells the other: where names that follow are fit, what one shows and what the other shows have equal lines
-- only if this holds, and then equal lines follow.
pub record Tells (begins : List (List ℕ) → List (List ℕ)) (is_fit : List (List ℕ) → Bool) (Known Told : Type 0)
    (shows other : List Token → List Token → Type 0) : Type 0 where
  pub left : Blocks begins shows
  pub right : Blocks begins other
  pub tells : (old before ts us : List Token) → shows old (old ++ ts) → other before (before ++ us) → Known
      → (names : List (List ℕ)) (depth : ℕ) (rest following : List (List ℕ)) → is_fit names ≡ true → Follow names depth rest → Follow names depth following
      → page_lines depth ts ++ rest ≡ page_lines depth us ++ following → Told × (rest ≡ following)

-- behind the name of a struct, and of a list
abbrev pub IsStruct : List ℕ → Type 0
IsStruct text = text ≡ 58 ∷ []

abbrev pub IsList : List ℕ → Type 0
IsList text = (rest : List ℕ) × (text ≡ 91 ∷ rest)

-- behind the name of a leaf
abbrev pub IsLeaf : List ℕ → Type 0
IsLeaf text = (rest : List ℕ) × (text ≡ 58 ∷ 32 ∷ rest)

-- A way of showing values under a name: the first line is under it, and the lines tell the value.
pub record TellsValues {A : Type 0} (is_value : A → Type 0) (IsValue : List ℕ → Type 0) (shows : Label → A → List Token → List Token → Type 0) : Type 0 where
  pub heads : (label : Label) (v : A) → is_name label.text ≡ true → is_value v → Heads label.text IsValue (shows label v)
  pub tells : (label : Label) (v w : A) → is_name label.text ≡ true → is_value v → is_value w
      → Tells (λ names. label.text ∷ []) (λ names. true) (Unit {0}) (v ≡ w) (shows label v) (shows label w)
