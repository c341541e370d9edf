-- The octets that fields are written as, and which values have a field.
use Rattle.std.specs.Prelude.{◌≡◌, ℕ, ◌<◌, ◌^◌, List, ◌++◌, length, take}
use Rattle.std.specs.List.{flat_map, AllByRecursion}
use Rattle.byteorder.specs.Endian.{big_bytes}
use Rattle.krb_files.specs.FieldReading.{Principal, Typed}

-- octets behind a length of n octets
abbrev pub counted_octets : ℕ → List ℕ → List ℕ
counted_octets n octets = big_bytes n (length octets) ++ octets

-- how many components there are, the realm, and the components
abbrev pub principal_octets : ℕ → Principal → List ℕ
principal_octets n v = big_bytes n (length v.components) ++ (counted_octets n v.realm ++ flat_map (counted_octets n) v.components)

-- a number has a place in n octets
abbrev pub FitsNumber : ℕ → ℕ → Type 0
FitsNumber n x = x < 256 ^ n

-- the length has a place in n octets
abbrev pub FitsCounted : ℕ → List ℕ → Type 0
FitsCounted n octets = length octets < 256 ^ n

-- the count and all lengths have a place in n octets
pub record FitsPrincipal (n : ℕ) (v : Principal) : Type 0 where
  pub count : length v.components < 256 ^ n
  pub realm : FitsCounted n v.realm
  pub components : AllByRecursion (FitsCounted n) v.components

-- a type of 16 bits, and octets behind a length of n octets
abbrev pub typed_octets : ℕ → Typed → List ℕ
typed_octets n t = big_bytes 2 t.kind ++ counted_octets n t.octets

abbrev pub FitsTyped : ℕ → Typed → Type 0
FitsTyped n t = FitsNumber 2 t.kind × FitsCounted n t.octets

-- a count of 32 bits, and so many octets with their types
abbrev pub typed_list_octets : List Typed → List ℕ
typed_list_octets ts = big_bytes 4 (length ts) ++ flat_map (typed_octets 4) ts

abbrev pub FitsTypedList : List Typed → Type 0
FitsTypedList ts = FitsNumber 4 (length ts) × AllByRecursion (FitsTyped 4) ts

-- a number of 16 bits, twice
abbrev pub twice_octets : ℕ → List ℕ
twice_octets x = big_bytes 2 x ++ big_bytes 2 x

-- the second octets begin with the first
abbrev pub Begins : List ℕ → List ℕ → Type 0
Begins old new = take (length old) new ≡ old
