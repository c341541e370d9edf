-- The ways in which a run ends.
use Rattle.std.proofs.Common.{◌≡◌, ℕ, Bool, List, Option, None, Some, IfSome, Ok, Err, refl, sym, subst, inl, inr, ◌⊎◌}
use Rattle.std.specs.Io.KnownBytes.{Keeps, Appends, IsAtEnd}
use Rattle.std.proofs.KnownBytes.{Keeps-refl}
use Rattle.krb_crypto_hash.specs.declared.error.KerberosCryptoError.TheVariants.{AlgorithmIdentifier}
use Rattle.krb_der_core.specs.declared.error.Asn1DerError.{Asn1DerError}
use Rattle.krbtool_engine.specs.declared.command.Command.{Command}
use Rattle.krbtool_engine.specs.declared.failure.Failure.{Failure}
use Rattle.krbtool_engine.specs.declared.failure.Failure.TheVariants.{Arguments, Crypto, Memory, Read, Write}
use Rattle.krbtool_engine.specs.Commands.{IsAnswer, IsRejection}
use Rattle.krbtool_engine.specs.Outcome.{IsOutside, IsReason, IsRun}
use Rattle.krbtool_engine.specs.Arguments.{AreArguments, IsCommand, NameUnknown, AreNoArguments, RejectsArguments, Answers}
use Rattle.krbtool_engine.proofs.Parsing.{command_arguments, names_none, names_same, answers_arguments, answers_to, answers_from}
use Rattle.krbtool_engine.proofs.Rejections.{rejection_not_arguments}

-- ---- arguments that are rejected

arguments_reported : (arguments : List (List ℕ)) (e : Failure) → RejectsArguments arguments e → AreNoArguments arguments → (e ≡ Arguments) ⊎ (e ≡ Memory)
arguments_reported arguments e (inl memory) none = inr memory
arguments_reported arguments e (inr (inl unknown)) none = absurd (none.1 unknown.0 unknown.2)
arguments_reported arguments e (inr (inr never)) none = inl never.0

arguments_unknown : (arguments : List (List ℕ)) (e : Failure) → RejectsArguments arguments e → (n : ℕ) → NameUnknown arguments n → (e ≡ Crypto (AlgorithmIdentifier n)) ⊎ (e ≡ Memory)
arguments_unknown arguments e (inl memory) n names = inr memory
arguments_unknown arguments e (inr (inl unknown)) n names =
    inl (subst (λ (m : ℕ). e ≡ Crypto (AlgorithmIdentifier m)) (names_same arguments unknown.0 n unknown.2 names) unknown.1)
arguments_unknown arguments e (inr (inr never)) n names = absurd (never.1.1 n names)

arguments_rejected : (arguments : List (List ℕ)) (e : Failure) → RejectsArguments arguments e → e ≡ Arguments → AreNoArguments arguments
arguments_rejected arguments e (inl memory) same = let other : ⊥ = cc in absurd other
arguments_rejected arguments e (inr (inl unknown)) same = let is : e ≡ Crypto (AlgorithmIdentifier unknown.0) = unknown.1 in let other : ⊥ = cc in absurd other
arguments_rejected arguments e (inr (inr never)) same = never.1

arguments_outside : (arguments : List (List ℕ)) (e : Failure) → RejectsArguments arguments e → AreArguments arguments → IsOutside e
arguments_outside arguments e (inl memory) are = inl memory
arguments_outside arguments e (inr (inl unknown)) are = absurd (names_none arguments unknown.0 are unknown.2)
arguments_outside arguments e (inr (inr never)) are = absurd (never.1.0 are)

module _ {V : Type 0} (is_value : V → Type 0) (enc : V → List ℕ) (first : ℕ → Bool) (error : ℕ → List ℕ → Asn1DerError → Type 0) where
  -- where each result has an outcome like this, so do the returns to a known input
  each_answer : (arguments : List (List ℕ)) (input : Option (List ℕ)) (P : List ℕ → Type 0)
      → ((octets answer : List ℕ) → input ≡ Some octets → Answers is_value enc arguments octets answer → P answer)
      → IfSome input (λ octets. (answer : List ℕ) → Answers is_value enc arguments octets answer → P answer)
  each_answer arguments None P each = tt
  each_answer arguments (Some octets) P each = λ answer held. each octets answer refl held

  pub arguments_run : (arguments : List (List ℕ)) (e : Failure) (input before : Option (List ℕ)) → RejectsArguments arguments e → IsRun is_value enc first error arguments input input before before (Err e)
  arguments_run arguments e input before why = record {
    rejected = arguments_rejected arguments e why;
    told = arguments_reported arguments e why;
    unknown = arguments_unknown arguments e why;
    unread = λ no. Keeps-refl input;
    read = tt;
    written = tt;
    answered = each_answer arguments input (λ answer. IsOutside e) (λ octets answer is held. arguments_outside arguments e why (answers_arguments is_value enc arguments octets answer held));
    kept = inl (Keeps-refl before);
    because = inr (inl why);
  }

  -- a run whose arguments are a command's, and which is not rejected for its arguments
  command_run : (arguments : List (List ℕ)) (command : Command) (e : Failure) (input rest before after : Option (List ℕ)) → IsCommand arguments command → (e ≡ Arguments → ⊥)
      → IfSome input (λ octets. (answer : List ℕ) → Answers is_value enc arguments octets answer → IsOutside e)
      → (Keeps before after ⊎ ((e ≡ Write) × IsAtEnd rest × IfSome input (λ octets. (answer : List ℕ) × Answers is_value enc arguments octets answer)))
      → IsReason is_value enc first error arguments input e → IsRun is_value enc first error arguments input rest before after (Err e)
  command_run arguments command e input rest before after is other answered kept because =
      let are : AreArguments arguments = command_arguments arguments command is in
      record {
        rejected = λ same. absurd (other same);
        told = λ none. absurd (none.0 are);
        unknown = λ n names. absurd (names_none arguments n are names);
        unread = λ none. absurd (none are);
        read = tt;
        written = tt;
        answered = answered;
        kept = kept;
        because = because;
      }

  not_arguments : (e : Failure) → (e ≡ Memory) ⊎ (e ≡ Read) → e ≡ Arguments → ⊥
  not_arguments e (inl is) same = (cc)
  not_arguments e (inr is) same = (cc)

  read_outside : (e : Failure) → (e ≡ Memory) ⊎ (e ≡ Read) → IsOutside e
  read_outside e (inl is) = inl is
  read_outside e (inr is) = inr (inl is)

  read_reason : (arguments : List (List ℕ)) (input : Option (List ℕ)) (e : Failure) → (e ≡ Memory) ⊎ (e ≡ Read) → IsReason is_value enc first error arguments input e
  read_reason arguments input e (inl is) = inr (inl (inl is))
  read_reason arguments input e (inr is) = inl is

  pub unread_run : (arguments : List (List ℕ)) (command : Command) (e : Failure) (input rest before : Option (List ℕ)) → IsCommand arguments command
      → (e ≡ Memory) ⊎ (e ≡ Read) → IsRun is_value enc first error arguments input rest before before (Err e)
  unread_run arguments command e input rest before is why =
      command_run arguments command e input rest before before is (not_arguments e why) (each_answer arguments input (λ answer. IsOutside e) (λ octets answer same held. read_outside e why))
      (inl (Keeps-refl before)) (read_reason arguments input e why)

  -- what is said of the octets that were read is said of the known input
  known_rejection : (arguments : List (List ℕ)) (command : Command) (e : Failure) (octets : List ℕ) (input : Option (List ℕ)) → IsCommand arguments command
      → IfSome input (λ all. octets ≡ all) → IsRejection is_value enc first error command octets e
      → IfSome input (λ all. (command : Command) × IsCommand arguments command × IsRejection is_value enc first error command all e)
  known_rejection arguments command e octets None is all why = tt
  known_rejection arguments command e octets (Some input) is all why = (command, is, subst (λ (k : List ℕ). IsRejection is_value enc first error command k e) all why)

  known_answers : (arguments : List (List ℕ)) (command : Command) (octets : List ℕ) (input : Option (List ℕ)) (P : List ℕ → Type 0) → IsCommand arguments command
      → IfSome input (λ all. octets ≡ all) → ((answer : List ℕ) → IsAnswer is_value enc command octets answer → P answer)
      → IfSome input (λ all. (answer : List ℕ) → Answers is_value enc arguments all answer → P answer)
  known_answers arguments command octets None P is all only = tt
  known_answers arguments command octets (Some input) P is all only =
      λ answer held. only answer (subst (λ (k : List ℕ). IsAnswer is_value enc command k answer) (sym all) (answers_to is_value enc arguments command input answer is held))

  pub unanswered_run : (arguments : List (List ℕ)) (command : Command) (e : Failure) (octets : List ℕ) (input rest before : Option (List ℕ)) → IsCommand arguments command
      → IfSome input (λ all. octets ≡ all) → ((answer : List ℕ) → IsAnswer is_value enc command octets answer → IsOutside e)
      → IsRejection is_value enc first error command octets e → IsRun is_value enc first error arguments input rest before before (Err e)
  unanswered_run arguments command e octets input rest before is all only why =
      command_run arguments command e input rest before before is (rejection_not_arguments is_value enc first error command octets e why)
      (known_answers arguments command octets input (λ answer. IsOutside e) is all only)
      (inl (Keeps-refl before)) (inr (inr (inr (known_rejection arguments command e octets input is all why))))

  -- the result that was made is one to the known input
  known_answer : (arguments : List (List ℕ)) (command : Command) (octets made : List ℕ) (input : Option (List ℕ)) → IsCommand arguments command
      → IsAnswer is_value enc command octets made → IfSome input (λ all. octets ≡ all)
      → IfSome input (λ all. (answer : List ℕ) × Answers is_value enc arguments all answer)
  known_answer arguments command octets made None is held all = tt
  known_answer arguments command octets made (Some input) is held all =
      (made, answers_from is_value enc arguments command input made is (subst (λ (k : List ℕ). IsAnswer is_value enc command k made) all held))

  pub unwritten_run : (arguments : List (List ℕ)) (command : Command) (octets made : List ℕ) (input rest before after : Option (List ℕ)) → IsCommand arguments command
      → IsAnswer is_value enc command octets made → IfSome input (λ all. octets ≡ all) → IsAtEnd rest → IsRun is_value enc first error arguments input rest before after (Err Write)
  unwritten_run arguments command octets made input rest before after is held all end =
      let answer = known_answer arguments command octets made input is held all in
      command_run arguments command Write input rest before after is (λ same. (cc))
      (each_answer arguments input (λ answer. IsOutside Write) (λ octets answer same held. inr (inr refl)))
      (inr (refl, end, answer)) (inr (inr (inl (refl, answer))))

  written_answer : (arguments : List (List ℕ)) (command : Command) (octets made : List ℕ) (input before after : Option (List ℕ)) → IsCommand arguments command
      → IsAnswer is_value enc command octets made → IfSome input (λ all. octets ≡ all) → Appends before after made
      → IfSome input (λ all. (answer : List ℕ) × Answers is_value enc arguments all answer × Appends before after answer)
  written_answer arguments command octets made None before after is held all appends = tt
  written_answer arguments command octets made (Some input) before after is held all appends =
      (made, answers_from is_value enc arguments command input made is (subst (λ (k : List ℕ). IsAnswer is_value enc command k made) all held), appends)

  pub answered_run : (arguments : List (List ℕ)) (command : Command) (octets made : List ℕ) (input rest before after : Option (List ℕ)) → IsCommand arguments command
      → IsAnswer is_value enc command octets made → ((answer : List ℕ) → IsAnswer is_value enc command octets answer → made ≡ answer)
      → IfSome input (λ all. octets ≡ all) → IsAtEnd rest → Appends before after made → IsRun is_value enc first error arguments input rest before after (Ok tt)
  answered_run arguments command octets made input rest before after is held only all end appends =
      let are : AreArguments arguments = command_arguments arguments command is in
      record {
        rejected = tt;
        told = λ none. absurd (none.0 are);
        unknown = λ n names. absurd (names_none arguments n are names);
        unread = λ none. absurd (none are);
        read = end;
        written = written_answer arguments command octets made input before after is held all appends;
        answered = known_answers arguments command octets input (λ answer. Appends before after answer) is all (λ answer other. subst (λ (k : List ℕ). Appends before after k) (only answer other) appends);
        kept = tt;
        because = tt;
      }
