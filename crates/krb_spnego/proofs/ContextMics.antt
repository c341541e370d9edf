-- MICs under the key of a context.
use Rattle.std.proofs.Common.{◌≡◌, ◌∙◌, ℕ, List, Bool, false, Option, Some, Result, Err, refl, sym, ap, subst}
use Rattle.std.specs.Prelude.{None, MatchResult, is_some}
use Rattle.krb_accept.proofs.Suites.{one_suite}
use Rattle.krb_accept.specs.ContextKey.{HasNoTokenKey, IsTokenKeyOf, context_key}
use Rattle.krb_accept_rules.specs.declared.accepted.Accepted.{Accepted}
use Rattle.krb_gss_per_message.specs.Keys.{IsTokenKey, Key}
use Rattle.krb_gss_per_message.specs.Mic.{IsMicOf}
use Rattle.krb_gss_per_message.specs.declared.error.ProtectionError.{ProtectionError}
use Rattle.krb_gss_per_message.specs.declared.error.ProtectionError.TheVariants as protection
use Rattle.krb_gss_per_message.specs.declared.key.Sender.{Sender}
use Rattle.krb_gss_per_message.specs.declared.key.Sender.TheVariants.{Initiator}
use Rattle.krb_types.specs.declared.data_types.encryption.EncryptionKey.{EncryptionKey}
use Rattle.krb_spnego.specs.KerberosMeaning.{HoldsOf}

key_is : (a b : Key) → a.suite ≡ b.suite → a.octets ≡ b.octets → a.sender ≡ b.sender → a.acceptor_subkey ≡ b.acceptor_subkey → a ≡ b
key_is a b e f g h =
    ap (λ x. record { suite = x; octets = a.octets; sender = a.sender; acceptor_subkey = a.acceptor_subkey }) e
    ∙ (ap (λ x. record { suite = b.suite; octets = x; sender = a.sender; acceptor_subkey = a.acceptor_subkey }) f
    ∙ (ap (λ x. record { suite = b.suite; octets = b.octets; sender = x; acceptor_subkey = a.acceptor_subkey }) g
    ∙ ap (λ x. record { suite = b.suite; octets = b.octets; sender = b.sender; acceptor_subkey = x }) h))

-- a context has one key for the tokens of a sender
one_key : (key : EncryptionKey) (sender : Sender) (flag : Bool) (a b : Key) → IsTokenKeyOf key sender flag a → IsTokenKeyOf key sender flag b → a ≡ b
one_key key sender flag a b h k =
    key_is a b (one_suite a.suite b.suite (sym h.of_suite ∙ k.of_suite)) (h.octets ∙ sym k.octets) (h.sender_is ∙ sym k.sender_is) (h.flag ∙ sym k.flag)

is_memory : (r : Result ℕ ProtectionError) (e : ProtectionError) (n : ℕ) → r ≡ Err e
    → MatchResult r (λ m. m ≡ n) (λ x. x ≡ protection.OutOfMemory) → e ≡ protection.OutOfMemory
is_memory r e n is h = subst (λ x. MatchResult x (λ m. m ≡ n) (λ y. y ≡ protection.OutOfMemory)) is h

-- what is refused for another reason than memory does not hold
pub not_held : (a : Accepted) (text mic : List ℕ) (key : Key) (r : Result ℕ ProtectionError) (e : ProtectionError)
    → IsTokenKeyOf (context_key a None) Initiator false key → r ≡ Err e
    → ((n : ℕ) → IsMicOf key text mic n → MatchResult r (λ m. m ≡ n) (λ x. x ≡ protection.OutOfMemory))
    → (e ≡ protection.OutOfMemory → ⊥) → HoldsOf a text mic → ⊥
not_held a text mic key r e is_key is only other holds =
    other (is_memory r e holds.1.1.0 is (only holds.1.1.0
    (subst (λ k. IsMicOf k text mic holds.1.1.0) (one_key (context_key a None) Initiator false holds.0 key holds.1.0 is_key) holds.1.1.1)))

-- with no key nothing holds
pub no_key_holds : (a : Accepted) (text mic : List ℕ) → HasNoTokenKey (context_key a None) → HoldsOf a text mic → ⊥
no_key_holds a text mic none holds =
    none holds.0.suite holds.1.0.of_suite (subst (λ o. IsTokenKey holds.0.suite o) holds.1.0.octets holds.1.0.is_key)

-- ---- small facts

pub nobody : {A : Type 0} (x : Option A) → is_some x ≡ false → x ≡ None
nobody None e = refl
nobody (Some a) e = cc

pub error_is : {A E : Type 0} {a b : E} → ◌≡◌ {A = Result A E} (Err a) (Err b) → a ≡ b
error_is e = cc
