-- Arguments and the commands that they are.
use Rattle.std.proofs.Common.{◌≡◌, ◌≢◌, ℕ, ℤ, List, [], ◌∷◌, codes, map, length, get_or, slice_index_or, ◌-◌, Result, Ok, Err, refl, sym, ap, ◌∙◌, inl, inr, arith}
use Rattle.hex.specs.Hex.{decode_of}
use Rattle.hex.specs.declared.error.FromHexError.{FromHexError}
use Rattle.krb_crypto.specs.Suites as suites
use Rattle.krb_crypto.specs.declared.cipher_suite.CipherSuite.{CipherSuite}
use Rattle.krb_crypto.specs.declared.cipher_suite.CipherSuite.TheVariants.{Aes128CtsHmacSha196, Aes256CtsHmacSha196, Des3CbcSha1Kd, Aes128CtsHmacSha256128, Aes256CtsHmacSha384192}
use Rattle.krbtool_engine.specs.declared.failure.Failure.{Failure}
use Rattle.krbtool_engine.specs.declared.command.Command.{Command}
use Rattle.krbtool_engine.specs.declared.command.Command.TheVariants.{Check, Seal, Open}
use Rattle.krbtool_engine.specs.Commands.{IsSealing, IsOpening, IsAnswer}
use Rattle.krbtool_engine.specs.Arguments.{IsEtype, IsUsage, AreArguments, IsCommand, NameUnknown, AreNoArguments, RejectsEtype, RejectsKeyArguments, RejectsArguments, Answers}

-- each argument says one thing alone

-- the suite of a number
named : ℕ → CipherSuite
named n = slice_index_or (Des3CbcSha1Kd ∷ Aes128CtsHmacSha196 ∷ Aes256CtsHmacSha196 ∷ Aes128CtsHmacSha256128 ∷ Aes256CtsHmacSha384192 ∷ []) (n - 16) Des3CbcSha1Kd

named_etype : (s : CipherSuite) → named (suites.etype s) ≡ s
unfolding named
named_etype Aes128CtsHmacSha196 = refl
named_etype Aes256CtsHmacSha196 = refl
named_etype Des3CbcSha1Kd = refl
named_etype Aes128CtsHmacSha256128 = refl
named_etype Aes256CtsHmacSha384192 = refl

etype_same : (argument : List ℕ) (s t : CipherSuite) → IsEtype argument s → IsEtype argument t → s ≡ t
etype_same argument s t one other = sym (named_etype s) ∙ ap named (sym one.value ∙ other.value) ∙ named_etype t

octets_or_none : Result (List ℕ) FromHexError → List ℕ
octets_or_none (Ok octets) = octets
octets_or_none (Err e) = []

octets_same : (argument xs ys : List ℕ) → decode_of argument ≡ Ok xs → decode_of argument ≡ Ok ys → xs ≡ ys
unfolding octets_or_none
octets_same argument xs ys one other = ap octets_or_none (sym one ∙ other)

usage_same : (argument : List ℕ) (z y : ℤ) → IsUsage argument z → IsUsage argument y → z ≡ y
usage_same argument z y one other = one.value ∙ sym other.value

-- arguments that are rejected by the first of them

pub etype_rejected : (etype keyhex usage : List ℕ) (e : Failure) → RejectsEtype etype e → RejectsKeyArguments etype keyhex usage e
etype_rejected etype keyhex usage e (inr unknown) = inr (inl unknown)
etype_rejected etype keyhex usage e (inl none) =
    inr (inr (none.0, λ n is. none.1 n is.number, λ s key z are. none.1 (suites.etype s) are.suite_is))

pub open_rejected : (etype keyhex usage : List ℕ) (e : Failure) → RejectsKeyArguments etype keyhex usage e → RejectsArguments (codes "open" ∷ etype ∷ keyhex ∷ usage ∷ []) e
open_rejected etype keyhex usage e (inl memory) = inl memory
open_rejected etype keyhex usage e (inr (inl unknown)) = inr (inl (unknown.0, unknown.1, (refl, unknown.2)))
open_rejected etype keyhex usage e (inr (inr none)) = inr (inr (none.0, (λ are. none.2 are.1 are.2 are.3 are.4, λ n is. none.1 n is.1)))

pub seal_rejected : (etype keyhex usage confhex : List ℕ) (e : Failure) → RejectsKeyArguments etype keyhex usage e → RejectsArguments (codes "seal" ∷ etype ∷ keyhex ∷ usage ∷ confhex ∷ []) e
seal_rejected etype keyhex usage confhex e (inl memory) = inl memory
seal_rejected etype keyhex usage confhex e (inr (inl unknown)) = inr (inl (unknown.0, unknown.1, (refl, unknown.2)))
seal_rejected etype keyhex usage confhex e (inr (inr none)) = inr (inr (none.0, (λ are. none.2 are.1 are.2 are.3 are.5, λ n is. none.1 n is.1)))

-- what arguments say of which a command is known

pub command_arguments : (arguments : List (List ℕ)) (command : Command) → IsCommand arguments command → AreArguments arguments
command_arguments (argument ∷ []) Check is = is
command_arguments (argument ∷ etype ∷ keyhex ∷ usage ∷ []) (Open key) is = (is.0, key.suite, key.octets.items, key.usage, is.1)
command_arguments (argument ∷ etype ∷ keyhex ∷ usage ∷ confhex ∷ []) (Seal key confounder) is =
    (is.0, key.suite, key.octets.items, key.usage, confounder.items, is.1, is.2)
command_arguments [] command is = elim is [ ]
command_arguments (argument ∷ []) (Seal key confounder) is = elim is [ ]
command_arguments (argument ∷ []) (Open key) is = elim is [ ]
command_arguments (argument ∷ (etype ∷ [])) command is = elim is [ ]
command_arguments (argument ∷ (etype ∷ (keyhex ∷ []))) command is = elim is [ ]
command_arguments (argument ∷ (etype ∷ (keyhex ∷ (usage ∷ [])))) Check is = elim is [ ]
command_arguments (argument ∷ (etype ∷ (keyhex ∷ (usage ∷ [])))) (Seal key confounder) is = elim is [ ]
command_arguments (argument ∷ (etype ∷ (keyhex ∷ (usage ∷ (confhex ∷ []))))) Check is = elim is [ ]
command_arguments (argument ∷ (etype ∷ (keyhex ∷ (usage ∷ (confhex ∷ []))))) (Open key) is = elim is [ ]
command_arguments (argument ∷ (etype ∷ (keyhex ∷ (usage ∷ (confhex ∷ (_ ∷ _)))))) command is = elim is [ ]

pub names_none : (arguments : List (List ℕ)) (n : ℕ) → AreArguments arguments → NameUnknown arguments n → ⊥
names_none (argument ∷ etype ∷ keyhex ∷ usage ∷ []) n are is = is.1.unknown are.1 (sym are.4.suite_is.value ∙ is.1.number.value)
names_none (argument ∷ etype ∷ keyhex ∷ usage ∷ confhex ∷ []) n are is = is.1.unknown are.1 (sym are.5.suite_is.value ∙ is.1.number.value)
names_none [] n are is = elim are [ ]
names_none (argument ∷ []) n are is = elim is [ ]
names_none (argument ∷ (etype ∷ [])) n are is = elim are [ ]
names_none (argument ∷ (etype ∷ (keyhex ∷ []))) n are is = elim are [ ]
names_none (argument ∷ (etype ∷ (keyhex ∷ (usage ∷ (confhex ∷ (_ ∷ _)))))) n are is = elim are [ ]

-- an argument is the numeral of one number
pub names_same : (arguments : List (List ℕ)) (n m : ℕ) → NameUnknown arguments n → NameUnknown arguments m → n ≡ m
names_same (argument ∷ etype ∷ keyhex ∷ usage ∷ []) n m one other = sym one.1.number.value ∙ other.1.number.value
names_same (argument ∷ etype ∷ keyhex ∷ usage ∷ confhex ∷ []) n m one other = sym one.1.number.value ∙ other.1.number.value
names_same [] n m one other = elim one [ ]
names_same (argument ∷ []) n m one other = elim one [ ]
names_same (argument ∷ (etype ∷ [])) n m one other = elim one [ ]
names_same (argument ∷ (etype ∷ (keyhex ∷ []))) n m one other = elim one [ ]
names_same (argument ∷ (etype ∷ (keyhex ∷ (usage ∷ (confhex ∷ (_ ∷ _)))))) n m one other = elim one [ ]

module _ {V : Type 0} (is_value : V → Type 0) (enc : V → List ℕ) where
  opening_same : (s t : CipherSuite) (k l : List ℕ) (z y : ℤ) (input answer : List ℕ) → s ≡ t → k ≡ l → z ≡ y
      → IsOpening is_value enc s k z input answer → IsOpening is_value enc t l y input answer
  opening_same s t k l z y input answer es ek ez is = rw (← es, ← ek, ← ez) is

  sealing_same : (s t : CipherSuite) (k l : List ℕ) (z y : ℤ) (f g input answer : List ℕ) → s ≡ t → k ≡ l → z ≡ y → f ≡ g
      → IsSealing is_value enc s k z f input answer → IsSealing is_value enc t l y g input answer
  sealing_same s t k l z y f g input answer es ek ez ef is = rw (← es, ← ek, ← ez, ← ef) is

  -- arguments that have a result are a command's
  pub answers_arguments : (arguments : List (List ℕ)) (input answer : List ℕ) → Answers is_value enc arguments input answer → AreArguments arguments
  answers_arguments (argument ∷ []) input answer held = held.0
  answers_arguments (argument ∷ etype ∷ keyhex ∷ usage ∷ []) input answer held = (held.0, held.1, held.2, held.3, held.5)
  answers_arguments (argument ∷ etype ∷ keyhex ∷ usage ∷ confhex ∷ []) input answer held = (held.0, held.1, held.2, held.3, held.4, held.6, held.7)
  answers_arguments [] input answer held = elim held [ ]
  answers_arguments (argument ∷ (etype ∷ [])) input answer held = elim held [ ]
  answers_arguments (argument ∷ (etype ∷ (keyhex ∷ []))) input answer held = elim held [ ]
  answers_arguments (argument ∷ (etype ∷ (keyhex ∷ (usage ∷ (confhex ∷ (_ ∷ _)))))) input answer held = elim held [ ]

  -- the arguments and their command give the same output
  pub answers_to : (arguments : List (List ℕ)) (command : Command) (input answer : List ℕ) → IsCommand arguments command
      → Answers is_value enc arguments input answer → IsAnswer is_value enc command input answer
  answers_to (argument ∷ []) Check input answer is held = held.1
  answers_to (argument ∷ etype ∷ keyhex ∷ usage ∷ []) (Open key) input answer is held =
      opening_same held.1 key.suite held.2 key.octets.items held.3 key.usage input answer (etype_same etype held.1 key.suite held.5.suite_is is.1.suite_is)
      (octets_same keyhex held.2 key.octets.items held.5.key_is is.1.key_is) (usage_same usage held.3 key.usage held.5.number_is is.1.number_is) held.4
  answers_to (argument ∷ etype ∷ keyhex ∷ usage ∷ confhex ∷ []) (Seal key confounder) input answer is held =
      sealing_same held.1 key.suite held.2 key.octets.items held.3 key.usage held.4 confounder.items input answer
      (etype_same etype held.1 key.suite held.6.suite_is is.1.suite_is) (octets_same keyhex held.2 key.octets.items held.6.key_is is.1.key_is)
      (usage_same usage held.3 key.usage held.6.number_is is.1.number_is)
      (octets_same confhex held.4 confounder.items held.7.confounder_is is.2.confounder_is) held.5
  answers_to [] command input answer is held = elim is [ ]
  answers_to (argument ∷ []) (Seal key confounder) input answer is held = elim is [ ]
  answers_to (argument ∷ []) (Open key) input answer is held = elim is [ ]
  answers_to (argument ∷ (etype ∷ [])) command input answer is held = elim is [ ]
  answers_to (argument ∷ (etype ∷ (keyhex ∷ []))) command input answer is held = elim is [ ]
  answers_to (argument ∷ (etype ∷ (keyhex ∷ (usage ∷ [])))) Check input answer is held = elim is [ ]
  answers_to (argument ∷ (etype ∷ (keyhex ∷ (usage ∷ [])))) (Seal key confounder) input answer is held = elim is [ ]
  answers_to (argument ∷ (etype ∷ (keyhex ∷ (usage ∷ (confhex ∷ []))))) Check input answer is held = elim is [ ]
  answers_to (argument ∷ (etype ∷ (keyhex ∷ (usage ∷ (confhex ∷ []))))) (Open key) input answer is held = elim is [ ]
  answers_to (argument ∷ (etype ∷ (keyhex ∷ (usage ∷ (confhex ∷ (_ ∷ _)))))) command input answer is held = elim is [ ]

  pub answers_from : (arguments : List (List ℕ)) (command : Command) (input answer : List ℕ) → IsCommand arguments command
      → IsAnswer is_value enc command input answer → Answers is_value enc arguments input answer
  answers_from (argument ∷ []) Check input answer is held = (is, held)
  answers_from (argument ∷ etype ∷ keyhex ∷ usage ∷ []) (Open key) input answer is held = (is.0, key.suite, key.octets.items, key.usage, held, is.1)
  answers_from (argument ∷ etype ∷ keyhex ∷ usage ∷ confhex ∷ []) (Seal key confounder) input answer is held =
      (is.0, key.suite, key.octets.items, key.usage, confounder.items, held, is.1, is.2)
  answers_from [] command input answer is held = elim is [ ]
  answers_from (argument ∷ []) (Seal key confounder) input answer is held = elim is [ ]
  answers_from (argument ∷ []) (Open key) input answer is held = elim is [ ]
  answers_from (argument ∷ (etype ∷ [])) command input answer is held = elim is [ ]
  answers_from (argument ∷ (etype ∷ (keyhex ∷ []))) command input answer is held = elim is [ ]
  answers_from (argument ∷ (etype ∷ (keyhex ∷ (usage ∷ [])))) Check input answer is held = elim is [ ]
  answers_from (argument ∷ (etype ∷ (keyhex ∷ (usage ∷ [])))) (Seal key confounder) input answer is held = elim is [ ]
  answers_from (argument ∷ (etype ∷ (keyhex ∷ (usage ∷ (confhex ∷ []))))) Check input answer is held = elim is [ ]
  answers_from (argument ∷ (etype ∷ (keyhex ∷ (usage ∷ (confhex ∷ []))))) (Open key) input answer is held = elim is [ ]
  answers_from (argument ∷ (etype ∷ (keyhex ∷ (usage ∷ (confhex ∷ (_ ∷ _)))))) command input answer is held = elim is [ ]

-- the arguments of a list of so many

pub texts_1 : {X : Type 0} (f : X → List ℕ) (ws : List X) (a : X) → length ws ≡ 1 → a ≡ get_or ws 0 a → map f ws ≡ f a ∷ []
texts_1 f [] a long ea = absurd (omega (arith, long))
texts_1 f (x ∷ []) a long ea = rw ea refl
texts_1 f (x ∷ y ∷ rest) a long ea = absurd (omega (arith, long))

pub texts_4 : {X : Type 0} (f : X → List ℕ) (ws : List X) (a b c d : X) → length ws ≡ 4 → a ≡ get_or ws 0 a → b ≡ get_or ws 1 b → c ≡ get_or ws 2 c → d ≡ get_or ws 3 d
    → map f ws ≡ f a ∷ f b ∷ f c ∷ f d ∷ []
texts_4 f [] a b c d long ea eb ec ed = absurd (omega (arith, long))
texts_4 f (x ∷ []) a b c d long ea eb ec ed = absurd (omega (arith, long))
texts_4 f (x ∷ y ∷ []) a b c d long ea eb ec ed = absurd (omega (arith, long))
texts_4 f (x ∷ y ∷ z ∷ []) a b c d long ea eb ec ed = absurd (omega (arith, long))
texts_4 f (x ∷ y ∷ z ∷ w ∷ []) a b c d long ea eb ec ed = rw (ea, eb, ec, ed) refl
texts_4 f (x ∷ y ∷ z ∷ w ∷ v ∷ rest) a b c d long ea eb ec ed = absurd (omega (arith, long))

pub texts_5 : {X : Type 0} (f : X → List ℕ) (ws : List X) (a b c d e : X) → length ws ≡ 5 → a ≡ get_or ws 0 a → b ≡ get_or ws 1 b → c ≡ get_or ws 2 c → d ≡ get_or ws 3 d → e ≡ get_or ws 4 e
    → map f ws ≡ f a ∷ f b ∷ f c ∷ f d ∷ f e ∷ []
texts_5 f [] a b c d e long ea eb ec ed ee = absurd (omega (arith, long))
texts_5 f (x ∷ []) a b c d e long ea eb ec ed ee = absurd (omega (arith, long))
texts_5 f (x ∷ y ∷ []) a b c d e long ea eb ec ed ee = absurd (omega (arith, long))
texts_5 f (x ∷ y ∷ z ∷ []) a b c d e long ea eb ec ed ee = absurd (omega (arith, long))
texts_5 f (x ∷ y ∷ z ∷ w ∷ []) a b c d e long ea eb ec ed ee = absurd (omega (arith, long))
texts_5 f (x ∷ y ∷ z ∷ w ∷ v ∷ []) a b c d e long ea eb ec ed ee = rw (ea, eb, ec, ed, ee) refl
texts_5 f (x ∷ y ∷ z ∷ w ∷ v ∷ u ∷ rest) a b c d e long ea eb ec ed ee = absurd (omega (arith, long))

-- arguments that are of no command
pub not_so_many : {X : Type 0} (f : X → List ℕ) (ws : List X) → length ws ≢ 1 → length ws ≢ 4 → length ws ≢ 5 → AreNoArguments (map f ws)
not_so_many f [] h1 h4 h5 = (λ are. are, λ n is. is)
not_so_many f (x ∷ []) h1 h4 h5 = absurd (h1 refl)
not_so_many f (x ∷ y ∷ []) h1 h4 h5 = (λ are. are, λ n is. is)
not_so_many f (x ∷ y ∷ z ∷ []) h1 h4 h5 = (λ are. are, λ n is. is)
not_so_many f (x ∷ y ∷ z ∷ w ∷ []) h1 h4 h5 = absurd (h4 refl)
not_so_many f (x ∷ y ∷ z ∷ w ∷ v ∷ []) h1 h4 h5 = absurd (h5 refl)
not_so_many f (x ∷ y ∷ z ∷ w ∷ v ∷ u ∷ rest) h1 h4 h5 = (λ are. are, λ n is. is)
