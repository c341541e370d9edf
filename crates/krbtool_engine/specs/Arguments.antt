-- What the arguments after the program's name ask for.
use Rattle.std.specs.Prelude.{◌≡◌, ◌≢◌, ◌⊎◌, ◌<◌, ◌^◌, ℕ, ℤ, List, [], ◌∷◌, codes, length, slice_index, FitsSigned, Ok}
use Rattle.std.specs.Int.{w32}
use Rattle.std.specs.Str.Parse.{IsNumeral, digits_value, without_leading_sign, signed_digits_value}
use Rattle.hex.specs.Hex.{decode_of}
use Rattle.krb_crypto_hash.specs.declared.error.KerberosCryptoError.TheVariants as crypto
use Rattle.krb_crypto.specs.BySuite.{confounder_octets_of}
use Rattle.krb_crypto.specs.Suites as suites
use Rattle.krb_crypto.specs.declared.cipher_suite.CipherSuite.{CipherSuite}
use Rattle.krbtool_engine.specs.declared.command.Command.{Command}
use Rattle.krbtool_engine.specs.declared.command.Command.TheVariants.{Check, Seal, Open}
use Rattle.krbtool_engine.specs.declared.failure.Failure.{Failure}
use Rattle.krbtool_engine.specs.declared.failure.Failure.TheVariants as failure
use Rattle.krbtool_engine.specs.Commands.{IsChecked, IsSealing, IsOpening}

-- the argument is this number in decimal digits, and a `usize` holds it
pub record IsNumber (argument : List ℕ) (n : ℕ) : Type 0 where
  pub digits : IsNumeral 10 argument
  pub value : digits_value 10 argument ≡ n
  pub fits : n < 2 ^ 64

-- the argument is the suite's number
abbrev pub IsEtype : List ℕ → CipherSuite → Type 0
IsEtype argument suite = IsNumber argument (suites.etype suite)

-- the argument is a number of no suite that the program knows
pub record IsUnknownEtype (argument : List ℕ) (n : ℕ) : Type 0 where
  pub number : IsNumber argument n
  pub unknown : (suite : CipherSuite) → suites.etype suite ≢ n

-- the argument is the usage: decimal digits, with or without a minus, and an `i32` holds it
pub record IsUsage (argument : List ℕ) (usage : ℤ) : Type 0 where
  pub no_plus : slice_index argument 0 ≢ 43
  pub digits : IsNumeral 10 (without_leading_sign argument)
  pub fits : FitsSigned w32 (signed_digits_value 10 argument)
  pub value : usage ≡ signed_digits_value 10 argument

-- ETYPE KEYHEX USAGE
pub record AreKeyArguments (etype keyhex usage : List ℕ) (suite : CipherSuite) (key : List ℕ) (number : ℤ) : Type 0 where
  pub suite_is : IsEtype etype suite
  pub key_is : decode_of keyhex ≡ Ok key
  pub number_is : IsUsage usage number

-- CONFHEX
pub record IsConfounderArgument (suite : CipherSuite) (confhex confounder : List ℕ) : Type 0 where
  pub confounder_is : decode_of confhex ≡ Ok confounder
  pub size_is : length confounder ≡ confounder_octets_of suite

-- the arguments are a command's
abbrev pub AreArguments : List (List ℕ) → Type 0
AreArguments (command ∷ []) = command ≡ codes "check"
AreArguments (command ∷ etype ∷ keyhex ∷ usage ∷ []) =
    (command ≡ codes "open") × (suite : CipherSuite) × (key : List ℕ) × (number : ℤ) × AreKeyArguments etype keyhex usage suite key number
AreArguments (command ∷ etype ∷ keyhex ∷ usage ∷ confhex ∷ []) =
    (command ≡ codes "seal") × (suite : CipherSuite) × (key : List ℕ) × (number : ℤ) × (confounder : List ℕ)
    × AreKeyArguments etype keyhex usage suite key number × IsConfounderArgument suite confhex confounder
AreArguments arguments = ⊥

-- the arguments are this command's
abbrev pub IsCommand : List (List ℕ) → Command → Type 0
IsCommand (command ∷ []) Check = command ≡ codes "check"
IsCommand (command ∷ etype ∷ keyhex ∷ usage ∷ []) (Open key) =
    (command ≡ codes "open") × AreKeyArguments etype keyhex usage key.suite key.octets.items key.usage
IsCommand (command ∷ etype ∷ keyhex ∷ usage ∷ confhex ∷ []) (Seal key confounder) =
    (command ≡ codes "seal") × AreKeyArguments etype keyhex usage key.suite key.octets.items key.usage × IsConfounderArgument key.suite confhex confounder.items
IsCommand arguments command = ⊥

-- the arguments name an encryption type that the program does not know, whatever arguments follow it
abbrev pub NameUnknown : List (List ℕ) → ℕ → Type 0
NameUnknown (command ∷ etype ∷ keyhex ∷ usage ∷ []) n = (command ≡ codes "open") × IsUnknownEtype etype n
NameUnknown (command ∷ etype ∷ keyhex ∷ usage ∷ confhex ∷ []) n = (command ≡ codes "seal") × IsUnknownEtype etype n
NameUnknown arguments n = ⊥

-- the arguments are of no command, and name no unknown encryption type
abbrev pub AreNoArguments : List (List ℕ) → Type 0
AreNoArguments arguments = (AreArguments arguments → ⊥) × ((n : ℕ) → NameUnknown arguments n → ⊥)

-- why arguments are rejected
abbrev pub RejectsArguments : List (List ℕ) → Failure → Type 0
RejectsArguments arguments e =
    (e ≡ failure.Memory) ⊎ ((n : ℕ) × (e ≡ failure.Crypto (crypto.AlgorithmIdentifier n)) × NameUnknown arguments n) ⊎ ((e ≡ failure.Arguments) × AreNoArguments arguments)

-- why ETYPE alone, and why ETYPE KEYHEX USAGE are rejected
abbrev pub RejectsEtype : List ℕ → Failure → Type 0
RejectsEtype argument e =
    ((e ≡ failure.Arguments) × ((n : ℕ) → IsNumber argument n → ⊥)) ⊎ ((n : ℕ) × (e ≡ failure.Crypto (crypto.AlgorithmIdentifier n)) × IsUnknownEtype argument n)

abbrev pub RejectsKeyArguments : List ℕ → List ℕ → List ℕ → Failure → Type 0
RejectsKeyArguments etype keyhex usage e =
    (e ≡ failure.Memory) ⊎ ((n : ℕ) × (e ≡ failure.Crypto (crypto.AlgorithmIdentifier n)) × IsUnknownEtype etype n)
    ⊎ ((e ≡ failure.Arguments) × ((n : ℕ) → IsUnknownEtype etype n → ⊥) × ((suite : CipherSuite) (key : List ℕ) (number : ℤ) → AreKeyArguments etype keyhex usage suite key number → ⊥))

-- what these arguments return for an input
abbrev pub Answers : {V : Type 0} → (V → Type 0) → (V → List ℕ) → List (List ℕ) → List ℕ → List ℕ → Type 0
Answers is_value enc (command ∷ []) input answer = (command ≡ codes "check") × IsChecked is_value enc input answer
Answers is_value enc (command ∷ etype ∷ keyhex ∷ usage ∷ []) input answer =
    (command ≡ codes "open") × (suite : CipherSuite) × (key : List ℕ) × (number : ℤ)
    × IsOpening is_value enc suite key number input answer × AreKeyArguments etype keyhex usage suite key number
Answers is_value enc (command ∷ etype ∷ keyhex ∷ usage ∷ confhex ∷ []) input answer =
    (command ≡ codes "seal") × (suite : CipherSuite) × (key : List ℕ) × (number : ℤ) × (confounder : List ℕ)
    × IsSealing is_value enc suite key number confounder input answer
    × AreKeyArguments etype keyhex usage suite key number × IsConfounderArgument suite confhex confounder
Answers is_value enc arguments input answer = ⊥
