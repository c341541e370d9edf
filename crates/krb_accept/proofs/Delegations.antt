-- The part of a KRB-CRED, by the key that decrypts it.
use Rattle.std.proofs.Common.{◌≡◌, ◌≢◌, ◌⊎◌, ℕ, List, inl, inr, pos, Option, None, Some, Result, sym, subst, IfOk, MatchOption}
use Rattle.krb_accept_rules.specs.Values.{HasNone, IsTheValue}
use Rattle.krb_accept_rules.specs.declared.accepted.Accepted.{Accepted}
use Rattle.krb_der_core.specs.declared.der.DerEncode.{Ghosts as EncodingOf}
use Rattle.krb_enc_parts.specs.declared.data_types.credentials.EncKrbCredPartInner.{EncKrbCredPartInner}
use Rattle.krb_messages.specs.declared.messages.credentials.KrbCredInner.{KrbCredInner}
use Rattle.krb_types.specs.declared.data_types.encryption.EncryptedData.{EncryptedData}
use Rattle.krb_types.specs.declared.data_types.encryption.EncryptionKey.{EncryptionKey}
use Rattle.krb_accept.specs.Delegation.{HasCredentials, HasNoCredentials, HasNumbers, IsNoPart, IsPaired, IsPart, IsUnderSubkey}
use Rattle.krb_accept.specs.Opening.{Encodes}
use Rattle.krb_accept.specs.WithKey.{IsSealedWith}
use Rattle.krb_accept.specs.declared.delegation.Delegated.{Delegated}
use Rattle.krb_accept.proofs.Matching.{found_so}

module _ (t : EncodingOf EncKrbCredPartInner) (sealed : EncryptedData) {E : Type 0} (r : Result (Option EncKrbCredPartInner) E) where
  pub under_key : (subkey : Option EncryptionKey) (key : EncryptionKey) → subkey ≡ Some key
      → IfOk r (λ found. MatchOption found (HasNone (IsSealedWith t key (pos 14) sealed)) (IsTheValue (IsSealedWith t key (pos 14) sealed)))
      → IfOk r (λ found. MatchOption found (HasNone (IsUnderSubkey t subkey sealed)) (IsTheValue (IsUnderSubkey t subkey sealed)))
  under_key subkey key is h =
      subst (λ (s : Option EncryptionKey). IfOk r (λ found. MatchOption found (HasNone (IsUnderSubkey t s sealed)) (IsTheValue (IsUnderSubkey t s sealed)))) (sym is) h

  pub in_the_clear : (a : Accepted) → sealed.etype ≡ pos 0
      → IfOk r (λ found. MatchOption found (HasNone (Encodes t sealed.cipher)) (IsTheValue (Encodes t sealed.cipher)))
      → IfOk r (λ found. MatchOption found (IsNoPart t a sealed) (IsPart t a sealed))
  in_the_clear a e h = found_so _ _ _ _ (λ n. inl (e, n)) (λ v i. inl (e, i)) r h

  pub under_session_key : (a : Accepted) → (sealed.etype ≢ pos 0) → HasNone (IsUnderSubkey t a.subkey sealed)
      → IfOk r (λ found. MatchOption found (HasNone (IsSealedWith t a.ticket.key (pos 14) sealed)) (IsTheValue (IsSealedWith t a.ticket.key (pos 14) sealed)))
      → IfOk r (λ found. MatchOption found (IsNoPart t a sealed) (IsPart t a sealed))
  under_session_key a ne none h = found_so _ _ _ _ (λ n. inr (ne, none, n)) (λ v i. inr (ne, inr (none, i))) r h

pub no_key : (t : EncodingOf EncKrbCredPartInner) (subkey : Option EncryptionKey) (sealed : EncryptedData) → subkey ≡ None → HasNone (IsUnderSubkey t subkey sealed)
no_key t subkey sealed is = subst (λ (s : Option EncryptionKey). HasNone (IsUnderSubkey t s sealed)) (sym is) (λ v h. h)

-- no key decrypts the part of the message
pub not_opened : (t : EncodingOf EncKrbCredPartInner) (a : Accepted) (m : KrbCredInner) (sealed : EncryptedData) → HasNumbers m → sealed ≡ m.enc_part → IsNoPart t a sealed
    → HasNoCredentials t a m
not_opened t a m sealed numbers same none = inr (inl (numbers, subst (IsNoPart t a) same none))

-- it is of another number of tickets
pub not_paired : (t : EncodingOf EncKrbCredPartInner) (a : Accepted) (m : KrbCredInner) (sealed : EncryptedData) (v : EncKrbCredPartInner) → HasNumbers m → sealed ≡ m.enc_part
    → IsPart t a sealed v → (IsPaired m v → ⊥) → HasNoCredentials t a m
not_paired t a m sealed v numbers same is other =
    inr (inr (numbers, (v, subst (λ (x : EncryptedData). IsPart t a x v) same is, other)))

-- what the one message has is what is delegated
pub delegated_so : (IsMessage : KrbCredInner → Type 0) (t : EncodingOf EncKrbCredPartInner) (a : Accepted) (octets : List ℕ) (m : KrbCredInner) {E : Type 0}
    (r : Result (Option Delegated) E) → IsTheValue IsMessage m
    → IfOk r (λ found. MatchOption found (HasNoCredentials t a m) (HasCredentials t a octets m))
    → IfOk r (λ found. MatchOption found (HasNone IsMessage ⊎ ((m : KrbCredInner) × IsTheValue IsMessage m × HasNoCredentials t a m))
    (λ d. (m : KrbCredInner) × IsTheValue IsMessage m × HasCredentials t a octets m d))
delegated_so IsMessage t a octets m r is h = found_so _ _ _ _ (λ n. inr (m, is, n)) (λ d i. (m, is, i)) r h
