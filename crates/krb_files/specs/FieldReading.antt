-- What is read from the front of octets: a value and the octets after it, or the first error. Numbers have the most significant
-- octet first.
use Rattle.std.specs.Prelude.{◌≡◌, ℕ, zero, suc, List, [], ◌∷◌, length, take, drop, Bool, true, false, Result, Ok, Err, nat_lt, ◌==◌, if◌then◌else◌}
use Rattle.byteorder.specs.Endian.{big_number}
use Rattle.krb_files.specs.declared.fields.error.FieldError.{FieldError}
use Rattle.krb_files.specs.declared.fields.error.FieldError.TheVariants.{Truncated, LengthPastEnd, CountPastEnd, RepetitionDiffers}
use Rattle.krb_files.specs.declared.fields.number.LengthSize.{LengthSize}
use Rattle.krb_files.specs.declared.fields.number.LengthSize.TheVariants.{Two, Four}

infixl 10 ◌>>=◌
abbrev pub ◌>>=◌ : {A B E : Type 0} → Result A E → (A → Result B E) → Result B E
(Ok x) >>= f = f x
(Err e) >>= f = Err e

-- what a call returned, seen by view, is what is read
abbrev pub Gives : {X Y E : Type 0} → (X → Y) → Result X E → Result Y E → Type 0
Gives view (Ok x) read = read ≡ Ok (view x)
Gives view (Err e) read = read ≡ Err e

-- the octets of a length or a count
abbrev pub size_of : LengthSize → ℕ
size_of Two = 2
size_of Four = 4

-- a number of n octets
abbrev pub number_at : ℕ → List ℕ → Result (ℕ × List ℕ) FieldError
number_at n b = if nat_lt (length b) n then Err Truncated else Ok (big_number n b, drop n b)

-- octets behind a length of n octets
unfoldable pub counted_at : ℕ → List ℕ → Result (List ℕ × List ℕ) FieldError
counted_at n b = do
  len ← number_at n b
  if nat_lt (length len.1) len.0 then Err LengthPastEnd else Ok (take len.0 len.1, drop len.0 len.1)

-- so many elements, one after the other
unfoldable pub list_at : {A E : Type 0} → (List ℕ → Result (A × List ℕ) E) → ℕ → List ℕ → Result (List A × List ℕ) E
list_at read zero b = Ok ([], b)
list_at read (suc k) b = read b >>= λ first. list_at read k first.1 >>= λ others. Ok (first.0 ∷ others.0, others.1)

abbrev pub counted_list_at : ℕ → ℕ → List ℕ → Result (List (List ℕ) × List ℕ) FieldError
counted_list_at n k b = list_at (counted_at n) k b

-- the first element and the others behind it, none where there is an error
abbrev pub shown_first : {A E : Type 0} → Result (A × List ℕ) E → (List ℕ → List A) → List A
shown_first (Ok first) others = first.0 ∷ others first.1
shown_first (Err e) others = []

-- the elements that are there, up to the first error
unfoldable pub shown_list : {A E : Type 0} → (List ℕ → Result (A × List ℕ) E) → ℕ → List ℕ → List A
shown_list read zero b = []
shown_list read (suc k) b = shown_first (read b) (shown_list read k)

abbrev pub components_of : ℕ → ℕ → List ℕ → List (List ℕ)
components_of n k b = shown_list (counted_at n) k b

-- a realm and the components of a principal
pub record Principal : Type 0 where
  pub realm : List ℕ
  pub components : List (List ℕ)

-- how many components there are, the realm, and the components
unfoldable pub principal_at : ℕ → List ℕ → Result (Principal × List ℕ) FieldError
principal_at n b = do
  count ← number_at n b
  realm ← counted_at n count.1
  components ← if nat_lt (length realm.1) count.0 then Err CountPastEnd else counted_list_at n count.0 realm.1
  Ok (record { realm = realm.0; components = components.0 }, components.1)

-- elements up to where none is to come, at most n of them
unfoldable pub all_at : {A E : Type 0} → (List ℕ → Bool) → (List ℕ → Result (A × List ℕ) E) → ℕ → List ℕ → Result (List A) E
all_at stop read zero b = Ok []
all_at stop read (suc n) b = if stop b then Ok [] else (read b >>= λ first. all_at stop read n first.1 >>= λ others. Ok (first.0 ∷ others))

-- the same elements, up to the first error
unfoldable pub shown_all : {A E : Type 0} → (List ℕ → Bool) → (List ℕ → Result (A × List ℕ) E) → ℕ → List ℕ → List A
shown_all stop read zero b = []
shown_all stop read (suc n) b = if stop b then [] else shown_first (read b) (shown_all stop read n)

-- a value, and one behind it
abbrev pub followed_at : {A B E : Type 0} → (List ℕ → Result (A × List ℕ) E) → (List ℕ → Result (B × List ℕ) E) → List ℕ → Result ((A × B) × List ℕ) E
followed_at first second b = first b >>= λ x. second x.1 >>= λ y. Ok ((x.0, y.0), y.1)

-- a value, seen as another
abbrev pub seen_at : {A B E : Type 0} → (A → B) → (List ℕ → Result (A × List ℕ) E) → List ℕ → Result (B × List ℕ) E
seen_at see read b = read b >>= λ x. Ok (see x.0, x.1)

-- octets and the number of their type
pub record Typed : Type 0 where
  pub kind : ℕ
  pub octets : List ℕ

abbrev pub typed_from : ℕ × List ℕ → Typed
typed_from p = record { kind = p.0; octets = p.1 }

-- a type of 16 bits, and octets behind a length of n octets
abbrev pub typed_at : ℕ → List ℕ → Result (Typed × List ℕ) FieldError
typed_at n = seen_at typed_from (followed_at (number_at 2) (counted_at n))

-- a count of 32 bits, and so many octets with their types, their lengths of 32 bits
unfoldable pub typed_list_at : List ℕ → Result (List Typed × List ℕ) FieldError
typed_list_at b = do
  count ← number_at 4 b
  if nat_lt (length count.1) count.0 then Err CountPastEnd else list_at (typed_at 4) count.0 count.1

-- the octets are at their end
abbrev pub is_nil : List ℕ → Bool
is_nil [] = true
is_nil (x ∷ b) = false

-- a number of 16 bits that stands twice
unfoldable pub twice_at : List ℕ → Result (ℕ × List ℕ) FieldError
twice_at b = do
  first ← number_at 2 b
  second ← number_at 2 first.1
  if second.0 == first.0 then Ok (first.0, second.1) else Err RepetitionDiffers
